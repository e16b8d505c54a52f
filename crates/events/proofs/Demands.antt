-- Demands 1 and 3 of the call over records, and that two outcomes that its promise allows are equal: layout's theorems, for records as the form.
-- Assumes nothing.
use Prim.Native.Nat.{ℕ, suc}
use mathlib.Core.Path.{◌≡◌, refl, ap}
use mathlib.Core.List.{List, [], ◌∷◌}
use lib.ListN.{length}
use Rattle.rules.specs.Layout as rules
use Rattle.rules.specs.Call.{Given, limits}
use Rattle.rules.proofs.Answers.{answered}
use Rattle.layout.specs.declared.Report.{Report}
use Rattle.layout.specs.Demands.{Demand1, ByOneLaw, Unrefused, Demand3}
use Rattle.layout.proofs.Returned as returned
use Rattle.events.specs.declared.Event.{Event}
use Rattle.events.specs.Called.{records_of, as_records, Called}

length-records : (es : List rules.Event) → length (records_of es) ≡ length es
unfolding records_of
length-records [] = refl
length-records (e ∷ es) = ap suc (length-records es)

-- records are a form of events
pub records_lawful : returned.Lawful as_records
unfolding records_of
records_lawful = record { none = refl; extent = length-records }

pub demand_1 : (g : Given) {r : Report} {out : List ℕ} {noted : List Event} {area : List ℕ}
    → Called g r out noted area → Demand1 as_records g.limit g.room g.slots g.work r out noted area
demand_1 g c = returned.demand_1 as_records records_lawful c (limits g) (answered g) refl (answered g).events-fit

pub demand_3 : (g h : Given) {r r' : Report} {out out' : List ℕ} {noted noted' : List Event} {area area' : List ℕ}
    → Called g r out noted area → Called h r' out' noted' area'
    → ByOneLaw g h → Unrefused r → Unrefused r'
    → Demand3 as_records r r' out out' noted noted'
demand_3 g h c d = returned.demand_3 as_records records_lawful c d g h refl refl

pub unique : (g : Given) {r r' : Report} {out out' : List ℕ} {noted noted' : List Event} {area area' : List ℕ}
    → Called g r out noted area → Called g r' out' noted' area'
    → (r ≡ r') × (out ≡ out') × (noted ≡ noted') × (area ≡ area')
unique g c d = returned.unique c d
