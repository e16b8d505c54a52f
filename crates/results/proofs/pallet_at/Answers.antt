-- `results::pallet_at` meets its contract: by the note's bytes and columns, then force and pluck point. Assumes nothing.
use Rattle.std.proofs.Common.{rules, arith, sym, ◌∙◌}
use Rattle.results.proofs.Saying.{no_note, long-note, force-fault, pluck-fault, row-is}
use Rattle.results.proofs.pallet_at.Goals as goal
use Rattle.results.proofs.pallet_at.Goals.{then-is_blank-via-then-is_blank, then-is_blank-via-else-is_blank+then-columns-gt-WIDEST_NOTE}

pub returns-then-is_blank : goal.returns-then-is_blank
returns-then-is_blank c =
    let s = c.args.s.now in
    let at = c.args.cuts in
    elim c.then-is_blank.branch [
      | then-is_blank-via-then-is_blank w ↦ no_note s at.first at.second at.third (sym c.is_blank.ensures ∙ w.if-is_blank.true)
      | then-is_blank-via-else-is_blank+then-columns-gt-WIDEST_NOTE w ↦ long-note s at.first at.second at.third (sym c.is_blank.ensures ∙ w.if-is_blank.false) w.columns.result w.columns.ensures w.if-columns-gt-WIDEST_NOTE.true
    ]

pub returns-in_err-grams : goal.returns-in_err-grams
returns-in_err-grams c =
    let at = c.args.cuts in
    let fault = force-fault c.args.s.now at.first at.second at.third (sym c.is_blank.ensures ∙ c.if-is_blank.false) c.columns.result c.columns.ensures c.if-columns-gt-WIDEST_NOTE.false c.number.ensures (grind arith) in
    search (rules, fault)

pub returns-in_err-tenths : goal.returns-in_err-tenths
returns-in_err-tenths c =
    let at = c.args.cuts in
    let fault = pluck-fault c.args.s.now at.first at.second at.third (sym c.is_blank.ensures ∙ c.if-is_blank.false) c.columns.result c.columns.ensures c.if-columns-gt-WIDEST_NOTE.false c.number.ensures c.in_ok-grams.grams (grind arith) c.tenths.ensures (grind arith) in
    search (rules, fault)

pub returns : goal.returns
returns c =
    let at = c.args.cuts in
    row-is c.args.s.now at.first at.second at.third (sym c.is_blank.ensures ∙ c.if-is_blank.false) c.columns.result c.columns.ensures c.if-columns-gt-WIDEST_NOTE.false c.number.ensures c.in_ok-grams.grams (grind arith) c.tenths.ensures c.in_ok-tenths.tenths (grind arith)
