-- How a constructor that is put together of others goes on from part to part.
--     Stands     counts, table and text, where a draft was built over a first table and text
--     ComesTo    the counts that parts come to
--     start, part, gone, taken, never, done   before the first part, over one, its answer taken apart, after the last
--     refuse, settle, begin, step, finish   the whole: refused, or granted with all of its room, and its parts one by one
--     first_denied, first_granted, first    a first part that asks for the whole
-- Assumes nothing.
use Prim.Native.Nat.{ℕ, ◌+◌, ◌-◌, ◌*◌, ◌/◌, ◌≤◌}
use native.Mathlib.Omega.{arith}
use mathlib.Core.Path.{◌≡◌, refl, sym, ap, ◌∙◌}
use mathlib.Core.Bool.{Bool, true, false}
use mathlib.Core.List.{List, ◌++◌}
use lib.ListN.{length, take, drop, length-append, length-drop, take-append-drop}
use lib.Seq.{length-take-le, take_at, drop-append-add, drop-drop}
use borrow.Author.Tests.{ltb-false}
use Rattle.table.specs.declared.NodeNo.{NodeNo}
use Rattle.build.specs.declared.Counts.{Counts}
use Rattle.build.specs.declared.Why.{Why}
use Rattle.std.specs.Prelude.{Ok, Err}
use Rattle.build.specs.Draft.{Draft, Built, counted, over}
use Rattle.build.specs.Outcome.{Made, Asked, past, asked, Outcome, outcome, onward, added, settled, made}
use Rattle.build.proofs.Grow.{Whole, Grown, same, whole-grown, more-nodes, more_bytes}
use Rattle.build.proofs.Room.{neither, stretch, fits-inside, Room, Allowed, allowed, granted}

-- counts c over table and text, where draft s was built over a first table and a first text
pub record Stands (table₀ text₀ : List ℕ) (s : Draft) (c : Counts) (table text : List ℕ) : Type 0 where
  pub counts : c ≡ s.counts
  pub words : table ≡ over s.table table₀
  pub bytes : text ≡ over s.text text₀
  pub whole : Whole s
  pub nodes-inside : s.counts.nodes * 4 ≤ length table₀
  pub bytes_inside : s.counts.bytes ≤ length text₀

length_over : (xs ys : List ℕ) → length xs ≤ length ys → length (over xs ys) ≡ length ys
length_over xs ys h = simp (length-append, length-drop) (omega arith)

pub over-front : (n : ℕ) (xs : List ℕ) → n ≤ length xs → xs ≡ over (take n xs) xs
over-front n xs h = rw (length-take-le n xs h, take-append-drop n xs)

over-over : (xs ys zs : List ℕ) → length xs ≤ length ys → over ys (over xs zs) ≡ over ys zs
over-over xs ys zs h =
    let d = length ys - length xs in
    let e : length ys ≡ length xs + d = omega arith in
    ap (λ (l : List ℕ). ys ++ l)
    (ap (λ (n : ℕ). drop n (over xs zs)) e ∙ drop-append-add xs (drop (length xs) zs) d ∙ drop-drop d (length xs) zs ∙ ap (λ (n : ℕ). drop n zs) (sym e))

module _ {table₀ text₀ : List ℕ} {s : Draft} {c : Counts} {table text : List ℕ} (h : Stands table₀ text₀ s c table text) where
  pub same-words : length table ≡ length table₀
  same-words = let l = h.whole.words in let i = h.nodes-inside in ap length h.words ∙ length_over s.table table₀ (omega arith)

  pub same_bytes : length text ≡ length text₀
  same_bytes = let l = h.whole.bytes in let i = h.bytes_inside in ap length h.bytes ∙ length_over s.text text₀ (omega arith)

  -- what is counted is the draft
  pub stands-counted : counted c table text ≡ s
  unfolding counted
  stands-counted =
      let p : take (c.nodes * 4) table ≡ s.table =
      rw (h.counts, h.words) (take_at s.table (drop (length s.table) table₀) (s.counts.nodes * 4) h.whole.words) in
      let q : take c.bytes text ≡ s.text = rw (h.counts, h.bytes) (take_at s.text (drop (length s.text) text₀) s.counts.bytes h.whole.bytes) in
      λ i. record { counts = h.counts i; table = p i; text = q i }

-- before the first part
pub start : (c : Counts) (table text : List ℕ) → c.nodes ≤ length table / 4 → c.bytes ≤ length text → Stands table text (counted c table text) c table text
unfolding counted
start c table text n b =
    let m : c.nodes * 4 ≤ length table = omega arith in
    record {
      counts = refl;
      words = over-front (c.nodes * 4) table m;
      bytes = over-front c.bytes text b;
      whole = record { words = length-take-le (c.nodes * 4) table m; bytes = length-take-le c.bytes text b };
      nodes-inside = m;
      bytes_inside = b;
    }

-- an outcome's number is its answer's
settled-told : (a : Asked) (b : Built) (table text : List ℕ) → let o = settled a b table text in outcome o.made o.table o.text ≡ o
unfolding added
settled-told (Ok u) b table text = refl
settled-told (Err why) b table text = refl

-- a part gave what it was asked for
pub record Went (table₀ text₀ : List ℕ) (b : Built) (m : Made) (table text : List ℕ) : Type 0 where
  pub answer : m ≡ Ok (b.draft.counts, record { 0 = b.node })
  pub stands : Stands table₀ text₀ b.draft b.draft.counts table text

-- the counts that parts come to, where nothing before them in the order of refusals is wrong
abbrev pub ComesTo : Counts → List ℕ → List ℕ → Bool → (Draft → Built) → ℕ → ℕ → Type 0
ComesTo c table text present f nodes used =
    c.nodes ≤ length table / 4 → c.bytes ≤ length text → present ≡ true
    → ((f (counted c table text)).draft.counts.nodes ≡ nodes) × ((f (counted c table text)).draft.counts.bytes ≡ used)

module _ (c : Counts) (table text : List ℕ) (present amount right : Bool) (f : Draft → Built) where
  abbrev asked_of : ℕ → ℕ → Asked
  asked_of nodes used = asked c (length table) (length text) present amount right nodes used

  pub made_granted : (b : Built) → f (counted c table text) ≡ b → asked_of b.draft.counts.nodes b.draft.counts.bytes ≡ Ok tt
      → made c table text present amount right f ≡ added b table text
  unfolding made
  made_granted b e g = rw (e, g) refl

  pub made_denied : (nodes used : ℕ) (why : Why) → (f (counted c table text)).draft.counts.nodes ≡ nodes → (f (counted c table text)).draft.counts.bytes ≡ used
      → asked_of nodes used ≡ Err why → outcome (Err why) table text ≡ made c table text present amount right f
  unfolding made
  made_denied nodes used why n u d = rw (n, u, d) refl

  pub made_told : let o = made c table text present amount right f in outcome o.made o.table o.text ≡ o
  unfolding made
  made_told = let b = f (counted c table text) in settled-told (asked_of b.draft.counts.nodes b.draft.counts.bytes) b table text

  -- parts that come to the same
  pub made-same : (g : Draft → Built) → f (counted c table text) ≡ g (counted c table text)
      → made c table text present amount right f ≡ made c table text present amount right g
  unfolding made
  made-same g e = rw e refl

  module _ (nodes used : ℕ) (right-counts : ComesTo c table text present f nodes used) where
    pub asked-same : asked_of (f (counted c table text)).draft.counts.nodes (f (counted c table text)).draft.counts.bytes ≡ asked_of nodes used
    unfolding asked
    asked-same = over-past (past c (length table) (length text)) refl
      where
        over_operand : (q : Bool) → present ≡ q → past c (length table) (length text) ≡ false
            → asked_of (f (counted c table text)).draft.counts.nodes (f (counted c table text)).draft.counts.bytes ≡ asked_of nodes used
        over_operand true q e =
            let i = neither _ _ e in
            let r = right-counts (ltb-false (length table / 4) c.nodes i.0) (ltb-false (length text) c.bytes i.1) q in
            rw (r.0, r.1) refl
        over_operand false q e = rw (e, q) refl

        over-past : (q : Bool) → past c (length table) (length text) ≡ q
            → asked_of (f (counted c table text)).draft.counts.nodes (f (counted c table text)).draft.counts.bytes ≡ asked_of nodes used
        over-past true e = rw e refl
        over-past false e = over_operand present refl e

-- what was built over a draft that stands, stands
pub went-added : {table₀ text₀ : List ℕ} {s : Draft} {c : Counts} {table text : List ℕ} → Stands table₀ text₀ s c table text → (b : Built) → Grown s b.draft
    → Room (length table₀) (length text₀) s.counts b.draft.counts
    → {m : Made} {table' text' : List ℕ} → outcome m table' text' ≡ added b table text → Went table₀ text₀ b m table' text'
unfolding added
went-added {table₀} {text₀} {s} h b g r d =
    let n : s.counts.nodes ≤ length table₀ / 4 = let i = h.nodes-inside in omega arith in
    let w = whole-grown h.whole g in
    record {
      answer = ap (λ (o : Outcome). o.made) d;
      stands =
          record {
            counts = refl;
            words =
                ap (λ (o : Outcome). o.table) d
                ∙ ap (over b.draft.table) h.words
                ∙ over-over s.table b.draft.table table₀ (omega (arith, w.words, h.whole.words, more-nodes g));
            bytes =
                ap (λ (o : Outcome). o.text) d
                ∙ ap (over b.draft.text) h.bytes
                ∙ over-over s.text b.draft.text text₀ (omega (arith, w.bytes, h.whole.bytes, more_bytes g));
            whole = w;
            nodes-inside = let i = fits-inside r.nodes n in omega arith;
            bytes_inside = fits-inside r.used h.bytes_inside;
          };
    }

-- one part more
pub part : {table₀ text₀ : List ℕ} {s : Draft} {c : Counts} {table text : List ℕ} → Stands table₀ text₀ s c table text → (f : Draft → Built) → Grown s (f s).draft
    → Room (length table₀) (length text₀) s.counts (f s).draft.counts
    → (present amount right : Bool) → present ≡ true → amount ≡ true → right ≡ true → {m : Made} {table' text' : List ℕ}
    → outcome m table' text' ≡ made c table text present amount right f → Went table₀ text₀ (f s) m table' text'
part {table₀} {text₀} {s} {c} {table} {text} h f g r present amount right p a t e =
    let b = f s in
    let n : s.counts.nodes ≤ length table₀ / 4 = let i = h.nodes-inside in omega arith in
    let ok : Allowed c b.draft.counts (length table) (length text) present amount right =
    rw (same-words h, same_bytes h, h.counts) (record { counted-nodes = n; counted-bytes = h.bytes_inside; operands = p; amounts = a; texts = t; room = r }) in
    went-added h b g r (e ∙ made_granted c table text present amount right f b (ap f (stands-counted h)) (granted ok))

-- what goes on from it
pub gone : {table₀ text₀ : List ℕ} {b : Built} {m : Made} {table text : List ℕ} → Went table₀ text₀ b m table text → (next : Counts → ℕ → Outcome)
    → onward m table text next ≡ next b.draft.counts b.node
gone {table = table} {text = text} w next = ap (λ (k : Made). onward k table text next) w.answer

-- its answer taken apart
pub taken : {table₀ text₀ : List ℕ} {b : Built} {m : Made} {table text : List ℕ} → Went table₀ text₀ b m table text → {c : Counts} {n : NodeNo} → m ≡ Ok (c, n)
    → Stands table₀ text₀ b.draft c table text × (n.0 ≡ b.node)
taken {b = b} w {c} {n} e =
    let q : ◌≡◌ {A = Made} (Ok (c, n)) (Ok (b.draft.counts, record { 0 = b.node })) = sym e ∙ w.answer in
    let pair : ◌≡◌ {A = Counts × NodeNo} (c, n) (b.draft.counts, record { 0 = b.node }) = cc in
    let p = ap (λ (x : Counts × NodeNo). x.0) pair in
    let r = ap (λ (x : Counts × NodeNo). x.1) pair in
    let s = w.stands in (
      record { counts = p; words = s.words; bytes = s.bytes; whole = s.whole; nodes-inside = s.nodes-inside; bytes_inside = s.bytes_inside },
      ap (λ (x : NodeNo). x.0) r,
    )

-- an answer is no refusal
pub apart : {c : Counts} {n : NodeNo} {why : Why} → ◌≡◌ {A = Made} (Ok (c, n)) (Err why) → ⊥
apart e = let z : ◌≡◌ {A = ℕ} 0 1 = cc in omega arith

pub never : {table₀ text₀ : List ℕ} {b : Built} {m : Made} {table text : List ℕ} → Went table₀ text₀ b m table text → {why : Why} → m ≡ Err why → ⊥
never w e = apart (sym w.answer ∙ e)

-- after the last part
pub done : {table₀ text₀ : List ℕ} {b : Built} {m : Made} {table text : List ℕ} → Went table₀ text₀ b m table text → outcome m table text ≡ added b table₀ text₀
unfolding added
done w = λ i. outcome (w.answer i) (w.stands.words i) (w.stands.bytes i)

-- ---- the whole

-- what the parts of a whole that was granted can count on
pub record Begun (c : Counts) (table text : List ℕ) (present amount right : Bool) (f : Draft → Built) : Type 0 where
  pub facts : Allowed c (f (counted c table text)).draft.counts (length table) (length text) present amount right
  pub stands : Stands table text (counted c table text) c table text
  pub whole : made c table text present amount right f ≡ added (f (counted c table text)) table text

module _ (c : Counts) (table text : List ℕ) (present amount right : Bool) (f : Draft → Built) (nodes used : ℕ)
    (right-counts : ComesTo c table text present f nodes used) where
  asked_is : asked c (length table) (length text) present amount right (f (counted c table text)).draft.counts.nodes (f (counted c table text)).draft.counts.bytes ≡ asked c (length table) (length text) present amount right nodes used
  asked_is = asked-same c table text present amount right f nodes used right-counts

  pub refuse : (why : Why) → asked c (length table) (length text) present amount right nodes used ≡ Err why
      → outcome (Err why) table text ≡ made c table text present amount right f
  refuse why d = made_denied c table text present amount right f _ _ why refl refl (asked_is ∙ d)

  pub settle : settled (asked c (length table) (length text) present amount right nodes used) (f (counted c table text)) table text ≡ made c table text present amount right f
  unfolding made
  settle = ap (λ (a : Asked). settled a (f (counted c table text)) table text) (sym asked_is)

  pub begin : Grown (counted c table text) (f (counted c table text)).draft → asked c (length table) (length text) present amount right nodes used ≡ Ok tt
      → Begun c table text present amount right f
  begin g e =
      let b = f (counted c table text) in
      let n : c.nodes ≤ b.draft.counts.nodes = unfold counted in more-nodes g in
      let u : c.bytes ≤ b.draft.counts.bytes = unfold counted in more_bytes g in
      let a = allowed c b.draft.counts (length table) (length text) present amount right n u (asked_is ∙ e) in
      record {
        facts = a;
        stands = start c table text a.counted-nodes a.counted-bytes;
        whole = made_granted c table text present amount right f b refl (asked_is ∙ e);
      }

module _ {c₀ : Counts} {table₀ text₀ : List ℕ} {present₀ amount₀ right₀ : Bool} {whole : Draft → Built} (begun : Begun c₀ table₀ text₀ present₀ amount₀ right₀ whole)
  where
    -- room for what grew from the first draft, where the whole grows from it
    room_for : {s t : Draft} → Grown (counted c₀ table₀ text₀) s → Grown s t → Grown t (whole (counted c₀ table₀ text₀)).draft
        → Room (length table₀) (length text₀) s.counts t.counts
    unfolding counted
    room_for {s} {t} before here after =
        let r = begun.facts.room in
        record {
          nodes = stretch s.counts.nodes t.counts.nodes r.nodes (more-nodes before) (more-nodes here) (more-nodes after);
          used = stretch s.counts.bytes t.counts.bytes r.used (more_bytes before) (more_bytes here) (more_bytes after);
        }

    -- a part of the whole: the draft before it grew from the first, and the whole grows from it
    pub step : {s : Draft} {c : Counts} {table text : List ℕ} → Stands table₀ text₀ s c table text → (f : Draft → Built) → Grown (counted c₀ table₀ text₀) s
        → Grown s (f s).draft → Grown (f s).draft (whole (counted c₀ table₀ text₀)).draft
        → {present amount right : Bool} → present ≡ true → amount ≡ true → right ≡ true → {m : Made} {table' text' : List ℕ}
        → outcome m table' text' ≡ made c table text present amount right f → Went table₀ text₀ (f s) m table' text'
    step h f before here after {present} {amount} {right} p a t e = part h f here (room_for before here after) present amount right p a t e

    -- the first part, where it asks for the whole
    pub first_went : (b : Built) → Grown (counted c₀ table₀ text₀) b.draft → Grown b.draft (whole (counted c₀ table₀ text₀)).draft
        → {m : Made} {table' text' : List ℕ} → outcome m table' text' ≡ added b table₀ text₀ → Went table₀ text₀ b m table' text'
    first_went b here after o = went-added begun.stands b here (room_for (same (counted c₀ table₀ text₀)) here after) o

    -- the last part gives the whole
    pub finish : {m : Made} {table text : List ℕ} → Went table₀ text₀ (whole (counted c₀ table₀ text₀)) m table text
        → outcome m table text ≡ made c₀ table₀ text₀ present₀ amount₀ right₀ whole
    finish w = done w ∙ sym begun.whole

-- ---- a first part that asks for the whole

module _ (A : Asked) (b : Built) (table text : List ℕ) {m : Made} {table' text' : List ℕ} (o : outcome m table' text' ≡ settled A b table text) where
  -- its refusal is the whole's
  pub first_denied : {W : Outcome} → ((why : Why) → A ≡ Err why → outcome (Err why) table text ≡ W) → {why : Why} → m ≡ Err why → outcome m table' text' ≡ W
  first_denied {W} refused {why} e = go A refl
    where
      go : (a : Asked) → A ≡ a → outcome m table' text' ≡ W
      go (Ok u) q = unfold added in absurd (apart (sym (ap (λ (x : Outcome). x.made) (o ∙ ap (λ (x : Asked). settled x b table text) q)) ∙ e))
      go (Err also) q = o ∙ ap (λ (x : Asked). settled x b table text) q ∙ refused also q

  pub first_granted : {c : Counts} {n : NodeNo} → m ≡ Ok (c, n) → (A ≡ Ok tt) × (outcome m table' text' ≡ added b table text)
  first_granted {c} {n} e = go A refl
    where
      go : (a : Asked) → A ≡ a → (A ≡ Ok tt) × (outcome m table' text' ≡ added b table text)
      go (Ok u) q = (q, o ∙ ap (λ (x : Asked). settled x b table text) q)
      go (Err why) q = absurd (apart (sym e ∙ ap (λ (x : Outcome). x.made) (o ∙ ap (λ (x : Asked). settled x b table text) q)))

-- what goes on from it comes to the whole, or its refusal does
pub first : (A : Asked) (b : Built) (table text : List ℕ) {W : Outcome} → ((why : Why) → A ≡ Err why → outcome (Err why) table text ≡ W)
    → (m : Made) (table' text' : List ℕ) (next : Counts → ℕ → Outcome) {r : Outcome} → outcome m table' text' ≡ settled A b table text → r ≡ onward m table' text' next
    → (A ≡ Ok tt → (c : Counts) (n : NodeNo) → m ≡ Ok (c, n) → outcome m table' text' ≡ added b table text → r ≡ next c n.0 → r ≡ W) → r ≡ W
first A b table text refused (Ok (c, n)) table' text' next o r k = let g = first_granted A b table text o refl in k g.0 c n refl g.1 r
first A b table text refused (Err why) table' text' next o r k = r ∙ first_denied A b table text o refused refl
