-- What every outcome of the call says.
--     unique           two outcomes for the same inputs are equal: the answer and every lent buffer
--     flat-answered    a Group met broken that is asked for: flat is answered exactly if no breaking node comes before the end or a Hardline after it
--     laid_as-told     where the run, with steps enough, lays that Group, its child goes flat exactly if flat is answered
-- Assumes nothing.
use mathlib.Core.Path.{◌≡◌, refl, sym, ap, subst, ◌∙◌}
use mathlib.Core.Logic.{◌↔◌}
use mathlib.Core.Bool.{Bool, true, false, true≢false}
use Prim.Native.Nat.{ℕ, zero, suc, ◌+◌, ◌<◌}
use native.Mathlib.Omega.{arith}
use mathlib.Core.List.{List, ◌++◌}
use lib.Dec.{eqb}
use Rattle.choice.specs.Pick.{pick}
use Rattle.table.specs.Unfold.{Tree, group}
use Rattle.rules.specs.Layout.{Limits, Page, Mode, flat, broken, mode_if, Entry, broken_group, steps, refused, says, fit, rest, lay}
use Rattle.rules.specs.Call.{Given}
use Rattle.rules.specs.Why.{WhyReport, goes_flat, reason, told, at_visit, run_to, why_run}
use Rattle.rules.proofs.Reasons.{group_goes}
use Rattle.rules.proofs.FirstMet.{Unbroken, stops, waiting_stops, flat_exactly}
use Rattle.summary.specs.declared.Reason.TheVariants.{AtFail, HardlineInside, TextPast, NothingLeft, HardlineAfter}
use Rattle.std.specs.Prelude.{Ok, Err}
use Rattle.table.proofs.Refusals.{number_at-most-9, number-injective}
use Rattle.summary.specs.Promise.{reason_of}
use Rattle.summary.specs.declared.Reason.{Reason}
use Rattle.why.specs.declared.WhyRefused.{WhyRefused}
use Rattle.why.specs.declared.WhyRefused.TheVariants.{Refused, NoVisit}
use Rattle.why.specs.Promise.{refused_number, Answer, why_of, WhyCalled}
use Rattle.why.proofs.Asked.{at-limit}

-- a reason is known by its numbers
named : ℕ → ℕ → ℕ → Reason
named zero n c = NothingLeft
named (suc zero) n c = AtFail (record { 0 = n }) (record { 0 = c })
named (suc (suc zero)) n c = HardlineInside (record { 0 = n }) (record { 0 = c })
named (suc (suc (suc zero))) n c = TextPast (record { 0 = n }) (record { 0 = c })
named (suc (suc (suc (suc zero)))) n c = NothingLeft
named (suc (suc (suc (suc (suc k))))) n c = HardlineAfter (record { 0 = n })

known : WhyReport → Reason
known w = named w.reason w.node w.column

named-is : (r : Reason) → known (told (reason_of r)) ≡ r
unfolding known named
named-is (AtFail n c) = refl
named-is (HardlineInside n c) = refl
named-is (TextPast n c) = refl
named-is NothingLeft = refl
named-is (HardlineAfter n) = refl

-- and has one, which a refusal has not
reason_some : (r : Reason) → (told (reason_of r)).reason ≡ 0 → ⊥
reason_some (AtFail n c) e = omega arith
reason_some (HardlineInside n c) e = omega arith
reason_some (TextPast n c) e = omega arith
reason_some NothingLeft e = omega arith
reason_some (HardlineAfter n) e = omega arith

-- a refusal is known by its number
refused_known : (r r' : WhyRefused) → refused_number r ≡ refused_number r' → r ≡ r'
refused_known (Refused w) (Refused w') e = ap Refused (number-injective w w' e)
refused_known (Refused w) NoVisit e = absurd (omega (arith, number_at-most-9 w))
refused_known NoVisit (Refused w) e = absurd (omega (arith, number_at-most-9 w))
refused_known NoVisit NoVisit e = refl

-- an answer is known by its numbers
answer_known : (r r' : Answer) → why_of r ≡ why_of r' → r ≡ r'
answer_known (Ok r) (Ok r') e = ap Ok (sym (named-is r) ∙ ap known e ∙ named-is r')
answer_known (Ok r) (Err w) e = absurd (reason_some r (ap (λ x. x.reason) e))
answer_known (Err w) (Ok r) e = absurd (reason_some r (ap (λ x. x.reason) (sym e)))
answer_known (Err w) (Err w') e = ap Err (refused_known w w' (ap (λ x. x.answer) e))

pub unique : (g : Given) (words step : ℕ) (r r' : Answer) (out out' events events' work work' : List ℕ)
    → WhyCalled g words step r out events work → WhyCalled g words step r' out' events' work'
    → (r ≡ r') × (out ≡ out') × (events ≡ events') × (work ≡ work')
unique g words step r r' out out' ev ev' w w' p q = (
  answer_known r r' (p.same ∙ sym q.same),
  p.output ∙ sym q.output,
  p.noted ∙ sym q.noted,
  p.cleared ∙ sym q.cleared,
)

-- ---- flat or broken

-- 0 is flat
zero-flat : (b : Bool) → ◌≡◌ {A = ℕ} (pick b 0 1) 0 ↔ b ≡ true
zero-flat true = (λ e. refl, λ e. refl)
zero-flat false = (λ e. absurd (omega arith), λ e. absurd (true≢false (sym e)))

both : {A B C : Type 0} → A ↔ B → B ↔ C → A ↔ C
both f g = (λ a. g.0 (f.0 a), λ c. f.1 (g.1 c))

-- the visit asked for at step k + 1 is a Group with child a, met broken at column c where ws wait
module _ (L : Limits) (t : Tree) (k : ℕ) (within : k < L.limit) (a : Tree) (ws : List Entry) (c n s : ℕ) (due : run_to L k t ≡ refused (steps (broken_group a ws c)) n s) where
  pub reason-told : why_run L t (suc k) ≡ told (reason L.width a ws c)
  reason-told = at-limit L t k within ∙ ap (at_visit L.width) due

  pub flat-answered : (why_run L t (suc k)).broken ≡ 0 ↔ Unbroken L.width c (stops a flat ++ waiting_stops ws)
  flat-answered =
      subst (λ w. w.broken ≡ 0 ↔ Unbroken L.width c (stops a flat ++ waiting_stops ws)) (sym reason-told)
      (both (zero-flat (goes_flat (reason L.width a ws c))) (flat_exactly L.width a ws c))

-- the mode that an answer tells
abbrev mode_told : ℕ → Mode
mode_told zero = flat
mode_told (suc k) = broken

mode-is : (b : Bool) → mode_if b ≡ mode_told (pick b 0 1)
mode-is true = refl
mode-is false = refl

pub laid_as-told : (L : Limits) (n : ℕ) (a : Tree) (i : ℕ) (ws : List Entry) (p : Page) (s : ℕ) {b : Bool} {s' : ℕ}
    → eqb s L.limit ≡ false → fit L a flat (rest L ws) p.column (s + 1) ≡ says b s'
    → lay L (group n a) i broken ws p s ≡ lay L a i (mode_told (told (reason L.width a ws p.column)).broken) ws p s'
laid_as-told L n a i ws p s {b} {s'} more said =
    group_goes L n a i ws p s more said ∙ ap (λ m. lay L a i m ws p s') (mode-is (goes_flat (reason L.width a ws p.column)))
