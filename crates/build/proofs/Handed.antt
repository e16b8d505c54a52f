-- What `?` hands on is the refusal that it met. Assumes nothing.
--     handed            the answer that is handed on is that refusal
--     handed_on         where both answers are of one type, it is the answer that was met
--     handed_outcome    the outcome of a constructor's refusal is that of the answer that is handed on
use mathlib.Core.Path.{◌≡◌, sym, ap, ◌∙◌}
use mathlib.Core.List.{List}
use Prim.Native.Nat.{ℕ}
use Rattle.std.specs.Prelude.{Result, Err, IsErrAnd}
use Rattle.std.proofs.lemmas.Result.{err_from_is_err_and}
use Rattle.build.specs.declared.Why.{Why}
use Rattle.build.specs.Outcome.{Made, Outcome, outcome}

module _ {T E : Type 0} (r : Result T E) {e : E} (h : IsErrAnd r (λ x. x ≡ e)) where
  pub handed : r ≡ Err e
  handed = let p = err_from_is_err_and r h in p.1 ∙ ap (λ (x : E). Err x) p.2

  pub handed_on : {m : Result T E} → m ≡ Err e → r ≡ m
  handed_on is = handed ∙ sym is

pub handed_outcome : (r : Made) {why : Why} → IsErrAnd r (λ e. e ≡ why) → {table text : List ℕ} {o : Outcome} → outcome (Err why) table text ≡ o → outcome r table text ≡ o
handed_outcome r h is = rw (handed r h) is
