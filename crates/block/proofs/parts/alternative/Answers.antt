-- `alternative`, part by part: where the code stands once Head, Core, the wraps and Tail are built, then what each asks and leaves.
use Rattle.block.proofs.Splits.{AtFront, AtMiddle, AtWrapped, AtBack}
use Rattle.block.proofs.Splits.{split_asks₁, split_stop₁, split-front, split_asks₂, split_stop₂, split_middle}
use Rattle.block.proofs.Splits.{split_asks₃, split_stop₃, split-wrapped, split_asks₄, split_stop₄, split-back, split_last}
use Rattle.build.proofs.Handed.{handed_on}
use Rattle.block.proofs.parts.alternative.Goals.{In_ok-c, In_ok-c-2, In_ok-c-3, In_ok-c-4}
use Rattle.block.proofs.parts.alternative.Goals as goal

abbrev front : (c : In_ok-c) → AtFront c.requires.0 c.requires.1 c.args.affixes.nests.now c.args.split
front c = split-front c.requires.0 c.requires.1 c.args.affixes.nests.now c.args.split c.head.ensures c.in_ok-c.was

abbrev middle : (c : In_ok-c-2) → AtMiddle c.requires.0 c.requires.1 c.args.affixes.nests.now c.args.split
middle c =
    let f = split-front c.requires.0 c.requires.1 c.args.affixes.nests.now c.args.split c.head.ensures c.in_ok-c.was in
    split_middle c.requires.0 c.requires.1 c.args.affixes.nests.now c.args.split f c.bare-asked.ensures c.core.ensures c.in_ok-c-2.was

abbrev wrapped : (c : In_ok-c-3) → AtWrapped c.requires.0 c.requires.1 c.args.affixes.nests.now c.args.split
wrapped c =
    let f = split-front c.requires.0 c.requires.1 c.args.affixes.nests.now c.args.split c.head.ensures c.in_ok-c.was in
    let m = split_middle c.requires.0 c.requires.1 c.args.affixes.nests.now c.args.split f c.bare-asked.ensures c.core.ensures c.in_ok-c-2.was in
    split-wrapped c.requires.0 c.requires.1 c.args.affixes.nests.now c.args.split m c.wraps.ensures c.in_ok-c-3.was

abbrev back : (c : In_ok-c-4) → AtBack c.requires.0 c.requires.1 c.args.affixes.nests.now c.args.split
back c =
    let f = split-front c.requires.0 c.requires.1 c.args.affixes.nests.now c.args.split c.head.ensures c.in_ok-c.was in
    let m = split_middle c.requires.0 c.requires.1 c.args.affixes.nests.now c.args.split f c.bare-asked.ensures c.core.ensures c.in_ok-c-2.was in
    let w = split-wrapped c.requires.0 c.requires.1 c.args.affixes.nests.now c.args.split m c.wraps.ensures c.in_ok-c-3.was in
    split-back c.requires.0 c.requires.1 c.args.affixes.nests.now c.args.split w c.tail.ensures c.in_ok-c-4.was

pub head-requires : goal.head-requires
head-requires c =
    split_asks₁ c.requires.0 c.requires.1 c.args.affixes.nests.now c.args.split

pub returns-in_err-c : goal.returns-in_err-c
returns-in_err-c c =
    rw (handed_on c.from_residual.result c.from_residual.ensures.1 c.in_err-c.was)
    (split_stop₁ c.requires.0 c.requires.1 c.args.affixes.nests.now c.args.split c.head.ensures c.in_err-c.was)

pub core-requires : goal.core-requires
core-requires c =
    split_asks₂ c.requires.0 c.requires.1 c.args.affixes.nests.now c.args.split (front (goal.at.core-requires c).In_ok-c)

pub returns-in_err-c-2 : goal.returns-in_err-c-2
returns-in_err-c-2 c =
    rw (handed_on c.from_residual-in_err-c-2.result c.from_residual-in_err-c-2.ensures.1 c.in_err-c-2.was)
    (split_stop₂ c.requires.0 c.requires.1 c.args.affixes.nests.now c.args.split (front (goal.at.returns-in_err-c-2 c).In_ok-c) c.bare-asked.ensures
    c.core.ensures c.in_err-c-2.was)

pub wraps-requires : goal.wraps-requires
wraps-requires c =
    split_asks₃ c.requires.0 c.requires.1 c.args.affixes.nests.now c.args.split (middle (goal.at.wraps-requires c).In_ok-c-2) c.args.affixes.flags

pub returns-in_err-c-3 : goal.returns-in_err-c-3
returns-in_err-c-3 c =
    rw (handed_on c.from_residual-in_err-c-3.result c.from_residual-in_err-c-3.ensures.1 c.in_err-c-3.was)
    (split_stop₃ c.requires.0 c.requires.1 c.args.affixes.nests.now c.args.split (middle (goal.at.returns-in_err-c-3 c).In_ok-c-2) c.wraps.ensures
    c.in_err-c-3.was)

pub tail-requires : goal.tail-requires
tail-requires c =
    split_asks₄ c.requires.0 c.requires.1 c.args.affixes.nests.now c.args.split (wrapped (goal.at.tail-requires c).In_ok-c-3)

pub returns-in_err-c-4 : goal.returns-in_err-c-4
returns-in_err-c-4 c =
    rw (handed_on c.from_residual-in_err-c-4.result c.from_residual-in_err-c-4.ensures.1 c.in_err-c-4.was)
    (split_stop₄ c.requires.0 c.requires.1 c.args.affixes.nests.now c.args.split (wrapped (goal.at.returns-in_err-c-4 c).In_ok-c-3) c.tail.ensures
    c.in_err-c-4.was)

pub returns : goal.returns
returns c =
    let at = goal.at.returns c in
    split_last c.requires.0 c.requires.1 c.args.affixes.nests.now c.args.split (front at.In_ok-c) (back at.In_ok-c-4) c.append.ensures
