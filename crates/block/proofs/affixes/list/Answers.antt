-- `list`: none, or joined as `concat` does.
use mathlib.Core.Path.{refl}
use Rattle.build.specs.Draft.{counted}
use Rattle.build.specs.Parts.{concat}
use Rattle.build.proofs.Only.{concat-adds}
use Rattle.block.proofs.Chain.{ran-made, ran-older, start-list}
use Rattle.block.proofs.Heads.{list-none, list-some}
use Rattle.block.proofs.affixes.list.Goals as goal

pub returns-then-nodes-eq0 : goal.returns-then-nodes-eq0
returns-then-nodes-eq0 c =
    let args = c.args in
    rw (list-none (counted args.c args.table.now args.text.now) args.none.0 args.nodes.now c.if-nodes-eq0.true)
    (ran-older c.requires.0 args.none)

pub returns : goal.returns
returns c =
    let args = c.args in
    let text = args.text.now in
    let table = args.table.now in
    let nodes = args.nodes.now in
    let draft = counted args.c table text in
    rw (list-some draft args.none.0 nodes c.if-nodes-eq0.false)
    (ran-made c.requires.0 (λ s. concat s nodes) (concat-adds draft nodes (start-list c.requires.0 nodes c.requires.2))
    c.requires.2 refl c.concat.ensures)
