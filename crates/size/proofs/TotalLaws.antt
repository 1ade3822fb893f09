-- The fourteen totals over a count list. Assumes nothing.
use Prim.Native.Nat.{ℕ, suc, ◌+◌, ◌*◌, ◌≤◌, ◌<◌}
use mathlib.Core.Path.{◌≡◌, ap, ◌∙◌}
use mathlib.Core.List.{List, [], ◌∷◌, ◌++◌}
use native.Mathlib.Omega.{arith}
use mathlib.Core.Bool.{Bool, false, true}
use native.Mathlib.Nat.{lt_of_not-le}
use lib.ListN.{length, get_or, set, take, length-set}
use lib.Seq.{get_or-set_same, get_or-set_other, get_or-take}
use Rattle.std.specs.Prelude.{IsTrue, ◌↔◌}
use Rattle.std.specs.List.{All}
use Rattle.std.proofs.lemmas.List.{take_more, length-take}
use borrow.Author.Count.{below_more}
use Rattle.format.specs.Packed.{encode}
use Rattle.format.specs.Rasters.{Item, run}
use Rattle.format.specs.Counts.{before}
use Rattle.format.specs.Choice.{nybble_count}
use Rattle.walk.specs.declared.Cursor.{Cursor}
use Rattle.walk.specs.Walk.{items_left, begin}
use Rattle.walk.proofs.RunLaws.{at_most}
use Rattle.part.specs.declared.Part.{Part}
use Rattle.part.specs.declared.Run.{Run}
use Rattle.part.specs.Parts.{kept, taken, Small, Kept}
use Rattle.part.proofs.KeptLaws.{kept-append, kept_one}
use Rattle.size.specs.Sizes.{short_nybbles, digit_nybbles, Totals, More, Added, Grown, Sizes}
use Rattle.size.proofs.LengthLaws.{short_few, encode_length, encode_short, count_nil, repeat_one, repeat_more, repeat_few, run_behind, run_first, count-append, run_few}

-- Nybbles more.

-- The totals below f have grown by what P says, the others not yet.
pub record Half (t : List ℕ) (P : ℕ → ℕ → Type 0) (r : List ℕ) (f : ℕ) : Type 0 where
  pub long : length r ≡ 14
  pub done : (j : ℕ) → j < f → More t P r j
  pub rest : (j : ℕ) → f ≤ j → get_or r j 0 ≡ get_or t j 0

-- The total for f grows.
pub half_more : {t : List ℕ} {P : ℕ → ℕ → Type 0} {r : List ℕ} {f : ℕ} (v k : ℕ) → Half t P r f → f < 14 → P f k → v ≡ get_or r f 0 + k → Half t P (set r f v) (f + 1)
half_more {t} {P} {r} {f} v k h i p q =
    let s : get_or (set r f v) f 0 ≡ v = get_or-set_same r f v 0 (omega (arith, h.long)) in
    record {
      long = length-set r f v ∙ h.long;
      done = below_more (More t P (set r f v)) f
          (λ j l. let m = h.done j l in record { more = m.more; says = m.says; is = get_or-set_other r f j v 0 (λ z. omega arith) ∙ m.is })
          (record { more = k; says = p; is = omega (arith, h.rest f (omega arith)) });
      rest = λ j l. get_or-set_other r f j v 0 (λ z. omega arith) ∙ h.rest j (omega arith);
    }

-- Each has grown by as much as g says.
pub added_grown : {t : List ℕ} {P : ℕ → ℕ → Type 0} {r : List ℕ} (g : ℕ → ℕ) → Added t P r → ((f n : ℕ) → f < 14 → P f n → n ≡ g f) → Grown t g r
added_grown g a e = record { long = a.long; is = λ f l. let m = a.each f l in omega (arith, m.is, e f m.more l m.says) }

-- Small totals are within a larger bound, and so are those that grow by little.
pub room : {m n : ℕ} {t : List ℕ} → m ≤ n → Totals m t → Totals n t
room l a = record { long = a.long; small = λ f h. omega (arith, a.small f h) }

grown_small : {n : ℕ} {t : List ℕ} {g : ℕ → ℕ} {r : List ℕ} → Totals n t → Grown t g r → ((f : ℕ) → f < 14 → g f ≤ 10) → Totals (n + 1000000) r
grown_small a e l = record { long = e.long; small = λ f h. omega (arith, a.small f h, e.is f h, l f h) }

-- Totals that grow by as much as j says, at once and in two steps.
grown_as : {t r : List ℕ} {g : ℕ → ℕ} (j : ℕ → ℕ) → Grown t g r → ((f : ℕ) → f < 14 → j f ≡ g f) → Grown t j r
grown_as j e l = record { long = e.long; is = λ f h. omega (arith, e.is f h, l f h) }

grown_twice : {t s r : List ℕ} {g k : ℕ → ℕ} (j : ℕ → ℕ) → Grown t g s → Grown s k r → ((f : ℕ) → f < 14 → j f ≡ g f + k f) → Grown t j r
grown_twice j d e l = record { long = e.long; is = λ f h. omega (arith, d.is f h, e.is f h, l f h) }

-- A number, a repeat, a run.

module _ (n : ℕ) {t s : List ℕ} (d : Grown t (λ f. short_nybbles f n) s) where
  -- The nybbles up to the third are all, or leave room for the others, and are all with them.
  pub number_short : n ≤ 253 → Grown t (λ f. length (encode f n)) s
  number_short l = grown_as (λ f. length (encode f n)) d (λ f h. encode_short f n (omega arith) l)

  pub number_room : Totals 3000000 t → Totals 4000000 s
  number_room a = grown_small a d (λ f h. omega (arith, short_few f n))

  pub number_long : {r : List ℕ} → n ≤ 65536 → Grown s (λ f. digit_nybbles f n) r → Grown t (λ f. length (encode f n)) r
  number_long l e = grown_twice (λ f. length (encode f n)) d e (λ f h. encode_length f n (omega arith) l)

module _ (m : ℕ) {t s : List ℕ} (d : Grown t (λ f. 1) s) where
  -- A mark is a repeat of 1, or leaves room for a number, and is a larger one with it.
  pub repeat_mark : m ≡ 1 → Grown t (nybble_count (before m [])) s
  repeat_mark e = grown_as (nybble_count (before m [])) d (λ f h. repeat_one f m e)

  pub repeat_number : {r : List ℕ} → 2 ≤ m → Grown s (λ f. length (encode f m)) r → Grown t (nybble_count (before m [])) r
  repeat_number l e = grown_twice (nybble_count (before m [])) d e (λ f h. repeat_more f m l)

pub mark_room : {t s : List ℕ} → Grown t (λ f. 1) s → Totals 2000000 t → Totals 3000000 s
mark_room d a = grown_small a d (λ f h. omega arith)

-- A run behind no repeat is a number.
pub run_alone : (k m : ℕ) {t r : List ℕ} → m ≡ 0 → Grown t (λ f. length (encode f k)) r → Grown t (nybble_count (before m (run k ∷ []))) r
run_alone k m z e = grown_as (nybble_count (before m (run k ∷ []))) e (λ f h. run_first f k m z)

module _ (m : ℕ) {t s : List ℕ} (d : Grown t (nybble_count (before m [])) s) where
  -- A repeat leaves room for a number, and is with it the run behind the repeat.
  pub repeat_room : m ≤ 65536 → Totals 2000000 t → Totals 3000000 s
  repeat_room l a = grown_small a d (λ f h. repeat_few f m (omega arith) l)

  pub run_repeated : (k : ℕ) {r : List ℕ} → Grown s (λ f. length (encode f k)) r → Grown t (nybble_count (before m (run k ∷ []))) r
  run_repeated k e = grown_twice (nybble_count (before m (run k ∷ []))) d e (λ f h. run_behind f k m)

-- A part.

-- No run of a part is taken.
pub part_none : (t : List ℕ) (rs : List Run) → length t ≡ 14 → Grown t (nybble_count (kept (take 0 rs))) t
unfolding kept
part_none t rs l = record { long = l; is = λ f h. omega (arith, count_nil f) }

-- The nybbles of the runs kept, and how many they are at most.
count_kept : (f i : ℕ) (rs : List Run) (d : Run) → i < length rs → nybble_count (kept (take (i + 1) rs)) f ≡ nybble_count (kept (take i rs)) f + nybble_count (before (get_or rs i d).repeat (run (get_or rs i d).length ∷ [])) f
count_kept f i rs d h =
    ap (λ (xs : List Run). nybble_count (kept xs) f) (take_more rs i d h)
    ∙ ap (λ (is : List Item). nybble_count is f) (kept-append (take i rs) (get_or rs i d ∷ []) ∙ ap (λ (is : List Item). kept (take i rs) ++ is) (kept_one (get_or rs i d)))
    ∙ count-append f (kept (take i rs)) (before (get_or rs i d).repeat (run (get_or rs i d).length ∷ []))

kept_few : (f : ℕ) (rs : List Run) → All Small rs → f ≤ 13 → nybble_count (kept rs) f ≤ 19 * length rs
unfolding kept
kept_few f [] g h = omega (arith, count_nil f)
kept_few f (r ∷ rs) g h =
    let s = g 0 r (omega arith) in
    omega (arith, count-append f (before r.repeat (run r.length ∷ [])) (kept rs), kept_few f rs (λ k d l. g (suc k) d (omega arith)) h, run_few f r.length r.repeat h s.many s.few)

-- The first of some runs are small.
small_taken : (i : ℕ) (rs : List Run) → All Small rs → All Small (take i rs)
small_taken i rs g k d h = rw (get_or-take i rs k d (omega (arith, length-take i rs))) (g k d (omega (arith, length-take i rs)))

module _ {i : ℕ} {t u : List ℕ} (rs : List Run) (e : Grown t (nybble_count (kept (take i rs))) u) (g : All Small rs) (l : i < length rs) where
  -- What one run more asks.
  pub part_asks : (d : Run) → Totals 1500000 t → length rs ≤ 512 → Totals 2000000 u × ((get_or rs i d).length ≤ 65536) × ((get_or rs i d).repeat ≤ 65536)
  part_asks d a m =
      let s = g i d l in
      (record { long = e.long; small = λ f h. omega (arith, a.small f h, e.is f h, kept_few f (take i rs) (small_taken i rs g) (omega arith), length-take i rs) }, s.many, s.few)

  -- It is taken.
  pub part_more : (d : Run) {v : List ℕ} → Grown u (nybble_count (before (get_or rs i d).repeat (run (get_or rs i d).length ∷ []))) v → Grown t (nybble_count (kept (take (i + 1) rs))) v
  part_more d n = grown_twice (nybble_count (kept (take (i + 1) rs))) e n (λ f h. count_kept f i rs d l)

-- Part after part.

-- What the totals have, and what is left where the part p begins, make the sizes of the count list. If it is of one part, it is the first, and this one.
pub record Summed (b : List ℕ) (w : ℕ) (first : Part) (several : Bool) (t : List ℕ) (p : Part) : Type 0 where
  pub from : Cursor
  pub part : Kept b w from p
  pub long : length t ≡ 14
  pub sum : (f : ℕ) → f < 14 → get_or t f 0 + nybble_count (items_left b w from) f ≡ nybble_count (items_left b w begin) f
  pub small : (f : ℕ) → f < 14 → get_or t f 0 ≤ 19 * from.at
  pub whole : several ≡ false → (p.n < 512) × (p ≡ first)

-- A part that is not full has room.
pub not_full : {full : Bool} {n : ℕ} → (IsTrue full ↔ (512 ≤ n)) → full ≡ false → n < 512
not_full {full} e h = lt_of_not-le (λ l. let x : full ≡ true = e.1 l in cc)

module _ {b : List ℕ} {w : ℕ} {first : Part} {several : Bool} {t : List ℕ} (p : Part) (s : Summed b w first several t p) where
  module _ {u : List ℕ} (a : Grown t (nybble_count (kept (taken p))) u) where
    -- The part is taken: what is left is left behind it.
    counted_on : (f : ℕ) → f < 14 → get_or u f 0 + nybble_count (items_left b w p.cursor) f ≡ nybble_count (items_left b w begin) f
    counted_on f h =
        let e : nybble_count (items_left b w s.from) f ≡ nybble_count (kept (taken p) ++ items_left b w p.cursor) f = ap (λ (is : List Item). nybble_count is f) s.part.walked.items in
        omega (arith, s.sum f h, a.is f h, e, count-append f (kept (taken p)) (items_left b w p.cursor))

    few : (f : ℕ) → f < 14 → get_or u f 0 ≤ 19 * p.cursor.at
    few f h = omega (arith, s.small f h, a.is f h, kept_few f (taken p) s.part.walked.runs (omega arith), length-take p.n p.runs, s.part.walked.further)

    -- The next part.
    pub sum_more : (q : Part) → 512 ≤ p.n → Kept b w p.cursor q → Summed b w first several u q
    sum_more q l g = record { from = p.cursor; part = g; long = a.long; sum = counted_on; small = few; whole = λ h. absurd (omega (arith, (s.whole h).0)) }

    -- No run is left.
    pub sum_end : p.n < 512 → Sizes (items_left b w begin) u
    sum_end l f h =
        let z : nybble_count (items_left b w p.cursor) f ≡ nybble_count [] f = ap (λ (js : List Item). nybble_count js f) (s.part.over l) in
        let i = s.part.walked.inside in
        (omega (arith, counted_on f h, z, count_nil f), omega (arith, few f h, at_most i, i.small))
