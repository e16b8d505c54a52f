-- `row::row` meets its contract. Assumes nothing.
use mathlib.Core.Path.{refl, sym, ap, ◌∙◌}
use Rattle.build.specs.Outcome.{Made, outcome}
use Rattle.results.specs.Marks.{label_number}
use Rattle.words.proofs.Chain.{new, shares-kept, after, refused, gives, annotates}
use Rattle.words.specs.Documents.{leaf_doc}
use Rattle.row.specs.Documents.{row_doc}
use Rattle.row.proofs.Columns.{marked-none, marked-some, some-mark}
use Rattle.row.proofs.Uncut.{row-sound, row-bytes}
use Rattle.row.proofs.row.Goals as goal

pub front-requires : goal.front-requires
front-requires c = tt

pub leaf-requires : goal.leaf-requires
leaf-requires c = tt

pub returns-in_err-c : goal.returns-in_err-c
returns-in_err-c c = λ s. refused c.from_residual.result _ c.from_residual.ensures.1

pub ended-requires : goal.ended-requires
ended-requires c =
    (row-sound _ _ c.requires).short

pub returns-in_err-c-2 : goal.returns-in_err-c-2
returns-in_err-c-2 c = λ s. refused c.from_residual-in_err-c-2.result _ c.from_residual-in_err-c-2.ensures.1

pub returns-in_default : goal.returns-in_default
unfolding row_doc
returns-in_default c =
    let is = row-bytes _ _ c.requires c.put_row-n.ensures c.front.ensures in
    λ s.
    gives
    (ap (λ (m : Made). outcome m c.ended.new.table c.ended.new.text) (sym c.in_ok-c-2.was))
    (marked-none (label_number c.label.result) _ c.label.ensures _ (ap label_number c.in_default.is))
    (after (gives refl (ap leaf_doc is) c.leaf.ensures) c.in_ok-c.was (λ b. c.ended.ensures _ (shares-kept b s) (new b)))

pub returns : goal.returns
unfolding row_doc
returns c =
    let is = row-bytes _ _ c.requires c.put_row-n.ensures c.front.ensures in
    let mark = sym (ap label_number c.in-Some.is) ∙ c.label.ensures in
    λ s.
    gives
    refl
    (marked-some c.from.result _ (c.from.ensures ∙ mark) _ (λ z. some-mark _ (sym c.from.ensures ∙ z)))
    (after (gives refl (ap leaf_doc is) c.leaf.ensures) c.in_ok-c.was (λ b. after (c.ended.ensures _ (shares-kept b s) (new b)) c.in_ok-c-2.was (λ q. annotates (new q) c.from.result c.annotate.ensures)))
