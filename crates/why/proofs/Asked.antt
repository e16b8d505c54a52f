-- The call: sizes, faults and the visit, by the rules' `why`; and the run up to the visit.
--     sizes-why, fault-why, run-why    which of the three
--     step-none, past-limit, at-limit  which run a step asks for
--     asked-none, asked-past, asked-ended, asked-due   the answer of each
-- Assumes nothing.
use mathlib.Core.Path.{◌≡◌, refl, sym, ap, subst, ◌∙◌}
use Prim.Native.Nat.{ℕ, zero, suc, ◌-◌, ◌/◌, ◌≤◌, ◌<◌}
use native.Mathlib.Omega.{arith}
use mathlib.Core.Bool.{true, false}
use mathlib.Core.List.{List}
use lib.ListN.{length}
use lib.Dec.{eqb}
use borrow.Author.Tests.{eq-eqb, ne_eqb, lt-ltb, le-ltb}
use Rattle.choice.specs.Pick.{pick}
use Rattle.table.specs.Fault.{check}
use Rattle.table.specs.Unfold.{Tree, tree, root}
use Rattle.rules.specs.Layout.{Limits, Outcome, report}
use Rattle.rules.specs.Layout as layout
use Rattle.rules.specs.Call.{Given, buffers_right, limits}
use Rattle.rules.specs.Why.{why_refused, ended_before, at_visit, run_to, why_run}
use Rattle.rules.specs.Why as rules
use Rattle.machine.proofs.Rules.{layout_is}
use Rattle.machine.proofs.Due.{outcome, ended_is, visit-ended, stops-is}
use Rattle.waiting.specs.declared.Due.{Due}
use Rattle.lay.specs.declared.State.{State}
use Rattle.render.specs.Visit.{Start, env_of}
use Rattle.std.specs.Prelude.{Result, Err}
use Rattle.lay.specs.declared.Stopped.{Stopped}
use Rattle.render.specs.Best.{Laid, answer_of, end_of, Ends, Halted, RanTo}
use Rattle.render.specs.declared.End.{End}
use Rattle.render.specs.declared.Ran.{Ran}
use Rattle.render.specs.declared.Ran.TheVariants.{Ended, AtLimit}
use Rattle.why.specs.declared.WhyRefused.{WhyRefused}
use Rattle.why.specs.declared.WhyRefused.TheVariants.{NoVisit}
use Rattle.why.specs.Promise.{refused_number, Answer, Asked, Visiting, Visited}
use Rattle.why.proofs.Visits.{visiting, due-told}

-- ---- which answer

pub sizes-why : (g : Given) (step : ℕ) → buffers_right g ≡ false → rules.why g step ≡ why_refused 1
unfolding rules.why
sizes-why g step e = rw e

pub fault-why : (g : Given) (step : ℕ) → buffers_right g ≡ true → ((check g.table g.text).answer ≡ 0 → ⊥) → rules.why g step ≡ why_refused (check g.table g.text).answer
unfolding rules.why
fault-why g step e ne = rw (e, ne_eqb _ _ ne)

pub run-why : (g : Given) (step : ℕ) → buffers_right g ≡ true → (check g.table g.text).answer ≡ 0
    → rules.why g step ≡ why_run (limits g) (tree g.table g.text (root g.table)) step
unfolding rules.why
run-why g step e z = rw (e, eq-eqb _ _ z)

-- ---- which run

module _ (L : Limits) (t : Tree) where
  step-none : why_run L t 0 ≡ why_refused 13
  unfolding why_run
  step-none = refl

  -- the visit is past the limit
  past-limit : (step : ℕ) → L.limit < step → why_run L t step ≡ ended_before (run_to L L.limit t)
  unfolding why_run
  past-limit zero less = absurd (omega arith)
  past-limit (suc k) less = rw (le-ltb k L.limit (omega arith))

  -- the visit is within it
  pub at-limit : (k : ℕ) → k < L.limit → why_run L t (suc k) ≡ at_visit L.width (run_to L k t)
  unfolding why_run
  at-limit k less = rw (lt-ltb k L.limit less)

module _ {T tx out ev w : List ℕ} {W : ℕ} (st : Start T tx out ev w W (length T / 4)) (limit step : ℕ) where
  abbrev N : ℕ
  N = length T / 4

  abbrev L : Limits
  L = (env_of T tx out ev W limit).limits

  -- the whole run with so many steps
  abbrev whole : ℕ → Outcome
  whole k = outcome (env_of T tx out ev W k) N st.some st.small st.valid st.room

  answer-is : (k : ℕ) (r : Result End Stopped) (out' ev' : List ℕ) → Laid T tx out ev W k N r out' ev' → (report (whole k)).answer ≡ answer_of r
  unfolding layout.layout
  answer-is k r out' ev' p =
      sym (ap (λ x. x.answer) (p.same ∙ layout_is T tx (env_of T tx out ev W k).limits N st.some st.small st.valid st.room))

  pub asked-none : step ≡ 0 → Asked T tx out ev W limit step (Err NoVisit)
  asked-none z = sym (step-none L (tree T tx (N - 1))) ∙ ap (why_run L (tree T tx (N - 1))) (sym z)

  pub asked-past : (e : Result End Stopped) (out' ev' : List ℕ) → limit < step → Laid T tx out ev W limit N e out' ev'
      → (r : WhyRefused) → refused_number r ≡ pick (eqb (answer_of e) 0) 13 (answer_of e) → Asked T tx out ev W limit step (Err r)
  asked-past e out' ev' less p r same =
      ap why_refused same
      ∙ ap (λ a. why_refused (pick (eqb a 0) 13 a)) (sym (answer-is limit e out' ev' p))
      ∙ sym (ended_is (whole limit))
      ∙ sym (past-limit L (tree T tx (N - 1)) step less)

  -- the run whose limit is one step short of the visit
  module _ (some : step ≡ 0 → ⊥) (within : step ≤ limit) {x : Ran} {out' ev' w' : List ℕ} (p : RanTo T tx out ev W (step - 1) N x out' ev' w') where
    visit-is : why_run L (tree T tx (N - 1)) step ≡ at_visit W (whole (step - 1))
    visit-is =
        let e : step ≡ suc (step - 1) = omega arith in
        ap (why_run L (tree T tx (N - 1))) e ∙ at-limit L (tree T tx (N - 1)) (step - 1) (omega arith)

    module _ (e : Result End Stopped) (is : x ≡ Ended e) where
      ended-visit : at_visit W (whole (step - 1)) ≡ why_refused (pick (eqb (answer_of e) 7) 13 (pick (eqb (answer_of e) 0) 13 (answer_of e)))
      ended-visit =
          let laid = subst (λ x. Laid T tx out ev W (step - 1) N (end_of x) out' ev') is p.laid in
          let ends = subst (λ x. Ends (env_of T tx out ev W (step - 1)) N x out' ev' w') is p.ends in
          visit-ended W (whole (step - 1)) (answer_of e) (answer-is (step - 1) e out' ev' laid)
          (λ seven. ap (λ z. z.due) (stops-is (env_of T tx out ev W (step - 1)) N st.some st.small st.valid st.room (ends seven)))

      pub asked-ended : (r : WhyRefused) → refused_number r ≡ pick (eqb (answer_of e) 7) 13 (pick (eqb (answer_of e) 0) 13 (answer_of e))
          → Asked T tx out ev W limit step (Err r)
      asked-ended r same = ap why_refused same ∙ sym ended-visit ∙ sym visit-is

    module _ (s : State) (h : Due) (is : x ≡ AtLimit s h) where
      halted : Halted (env_of T tx out ev W (step - 1)) N s h out' ev' w'
      halted = subst (λ x. Ends (env_of T tx out ev W (step - 1)) N x out' ev' w') is p.ends

      pub asked_visiting : length w' ≡ length w → Visiting T w' W s h
      asked_visiting size = visiting st (step - 1) halted (omega (arith, st.area))

      pub asked-due : (r : Answer) → Visited T w' W s h r → Asked T tx out ev W limit step r
      asked-due r v = due-told st (step - 1) halted r v ∙ sym visit-is
