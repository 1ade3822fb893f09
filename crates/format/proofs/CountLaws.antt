-- The runs of pixels: their items draw these pixels, with the repeats where the pixels have them, and every number is at least 1.
-- Assumes nothing.
use Prim.Native.Nat.{ℕ, zero, suc, ◌+◌, ◌-◌, ◌/◌, ◌<◌}
use mathlib.Core.Path.{◌≡◌, refl, sym, ap, ◌∙◌, fun_ext}
use mathlib.Core.List.{List, [], ◌∷◌, ◌++◌}
use mathlib.Core.Bool.{cond}
use native.Mathlib.Nat.{add-zero}
use native.Mathlib.Numerals.{add-one}
use native.Mathlib.Omega.{arith}
use lib.Dec.{eqb}
use lib.ListN.{get_or}
use borrow.Author.Tests.{eqb-true, eqb-false}
use Rattle.format.specs.Rasters.{Item, run, AllNumbers, string, repeats}
use Rattle.format.specs.Counts.{Pixel, pixel, Run, stretch, grow, runs, before, listed}
use Rattle.format.proofs.Tests.{test, cond_same}
use Rattle.format.proofs.ItemLaws.{had}

-- Pixels as runs.

-- The colours of pixels,
unfoldable pub colours : List Pixel → List ℕ
colours [] = []
colours (pixel x n ∷ ps) = x ∷ colours ps

-- and the items that they would be if each were a run.
unfoldable pub singles : List Pixel → List Item
singles [] = []
singles (pixel x n ∷ ps) = before n (run 1 ∷ singles ps)

-- A repeat stands only where the colour changes; p is the colour before.
abbrev pub Good : ℕ → List Pixel → Type 0
Good p [] = Unit {0}
Good p (pixel x n ∷ ps) = (x < 2) × (x ≡ p → n ≡ 0) × Good x ps

-- A repeat adds no pixels,
string_before : (c n : ℕ) (is : List Item) → string c (before n is) ≡ string c is
unfolding string before
string_before c zero is = refl
string_before c (suc zero) is = refl
string_before c (suc (suc n)) is = refl

-- and is one of the row where it stands.
repeats_before : (w p n : ℕ) (is : List Item) (r : ℕ) → repeats w p (before n is) r ≡ cond (eqb (p / w) r) (had n) [] ++ repeats w p is r
unfolding repeats before
repeats_before w p zero is r = rw cond_same refl
repeats_before w p (suc zero) is r = rw (add-zero p) refl
repeats_before w p (suc (suc n)) is r = rw (add-zero p) refl

-- The run after it has none itself.
repeats_stretch : (w p n k : ℕ) (is : List Item) (r : ℕ) → repeats w p (before n (run k ∷ is)) r ≡ cond (eqb (p / w) r) (had n) [] ++ repeats w (p + k) is r
unfolding repeats
repeats_stretch w p n k is r = rw (repeats_before w p n (run k ∷ is) r, cond_same) refl

-- What follows a pixel is looked at a place further on,
repeats_one : (w p n : ℕ) (is js : List Item) (r : ℕ) → repeats w (p + 1) is r ≡ repeats w (p + 1) js r → repeats w p (before n (run 1 ∷ is)) r ≡ repeats w p (before n (run 1 ∷ js)) r
repeats_one w p n is js r e = rw (repeats_stretch w p n 1 is r, repeats_stretch w p n 1 js r, e) refl

-- and a run that grows by one may as well be two.
repeats_grow : (w p n k : ℕ) (is : List Item) (r : ℕ) → repeats w p (before n (run (k + 1) ∷ is)) r ≡ repeats w p (before n (run 1 ∷ before 0 (run k ∷ is))) r
repeats_grow w p n k is r =
    let e : p + (k + 1) ≡ p + 1 + k = omega arith in
    rw (repeats_stretch w p n (k + 1) is r, repeats_stretch w p n 1 (before 0 (run k ∷ is)) r, repeats_stretch w (p + 1) 0 k is r, cond_same, e) refl

-- The first run has the colour of the first of the pixels xs; after a pixel of its own colour, p, it has no repeat.
abbrev Begins : ℕ → List ℕ → List Run → Type 0
Begins p xs [] = Unit {0}
Begins p xs (stretch y k n ∷ rs) = (y < 2) × (y ≡ get_or xs 0 0) × (y ≡ p → n ≡ 0)

-- The runs say the pixels, which stand after the colour p, and their repeats.
record Told (p : ℕ) (ps : List Pixel) (rs : List Run) : Type 0 where
  begins : Begins p (colours ps) rs
  lays : string (get_or (colours ps) 0 0) (listed rs) ≡ colours ps
  marks : (w q r : ℕ) → repeats w q (listed rs) r ≡ repeats w q (singles ps) r

-- They still do with one pixel more in front.
told_grow : (p x m : ℕ) (ps : List Pixel) (rs : List Run) → x < 2 → (x ≡ p → m ≡ 0) → Told x ps rs → Told p (pixel x m ∷ ps) (grow (pixel x m) rs)
unfolding grow colours singles listed string
told_grow p x m ps [] h f t =
    record {
      begins = (h, refl, f);
      lays = string_before x m (run 1 ∷ []) ∙ ap (λ (l : List ℕ). x ∷ l) t.lays;
      marks = λ w q r. repeats_one w q m [] (singles ps) r (t.marks w (q + 1) r);
    }
told_grow p x m ps (stretch y k n ∷ rs) h f t =
    let is = before n (run k ∷ listed rs) in
    let b = t.begins in
    let l = b.0 in
    let g = b.1 in
    test (eqb x y)
    (λ e. let o = eqb-true x y e in
    let z : n ≡ 0 = b.2 (sym o) in
    let g' : get_or (colours ps) 0 0 ≡ x = omega arith in
    rw e record {
      begins = (h, refl, f);
      lays = string_before x m (run (k + 1) ∷ listed rs) ∙ rw (add-one k) (ap (λ (l : List ℕ). x ∷ l) (sym (string_before x n (run k ∷ listed rs)) ∙ ap (λ (c : ℕ). string c is) (sym g') ∙ t.lays));
      marks = λ w q r. repeats_grow w q m k (listed rs) r ∙ repeats_one w q m (before 0 (run k ∷ listed rs)) (singles ps) r (ap (λ (j : ℕ). repeats w (q + 1) (before j (run k ∷ listed rs)) r) (sym z) ∙ t.marks w (q + 1) r);
    })
    (λ e. let ne = eqb-false x y e in
    let g' : get_or (colours ps) 0 0 ≡ 1 - x = omega arith in
    rw e record {
      begins = (h, refl, f);
      lays = string_before x m (run 1 ∷ is) ∙ ap (λ (l : List ℕ). x ∷ l) (ap (λ (c : ℕ). string c is) (sym g') ∙ t.lays);
      marks = λ w q r. repeats_one w q m is (singles ps) r (t.marks w (q + 1) r);
    })

told_runs : (p : ℕ) (ps : List Pixel) → Good p ps → Told p ps (runs ps)
unfolding runs colours singles listed string
told_runs p [] g = record { begins = tt; lays = refl; marks = λ w q r. refl }
told_runs p (pixel x m ∷ ps) g = told_grow p x m ps (runs ps) g.0 g.1 (told_runs x ps g.2)

-- The items of good pixels' runs draw their colours, from the first one on,
pub string_runs : (p : ℕ) (ps : List Pixel) → Good p ps → string (get_or (colours ps) 0 0) (listed (runs ps)) ≡ colours ps
string_runs p ps g = (told_runs p ps g).lays

-- with the repeats where the pixels have them.
pub repeats_runs : (w p : ℕ) (ps : List Pixel) → Good p ps → repeats w 0 (listed (runs ps)) ≡ repeats w 0 (singles ps)
repeats_runs w p ps g = fun_ext (λ r. (told_runs p ps g).marks w 0 r)

-- Each run has a pixel,
abbrev Long : List Run → Type 0
Long [] = Unit {0}
Long (stretch x k n ∷ rs) = (0 < k) × Long rs

long_grow : (p : Pixel) (rs : List Run) → Long rs → Long (grow p rs)
unfolding grow
long_grow (pixel x m) [] l = (omega arith, tt)
long_grow (pixel x m) (stretch y k n ∷ rs) l = test (eqb x y) (λ e. rw e (omega arith, l.1)) (λ e. rw e (omega arith, l))

long_runs : (ps : List Pixel) → Long (runs ps)
unfolding runs
long_runs [] = tt
long_runs (p ∷ ps) = long_grow p (runs ps) (long_runs ps)

numbers_listed : (rs : List Run) → Long rs → AllNumbers (listed rs)
unfolding listed before
numbers_listed [] l = tt
numbers_listed (stretch x k zero ∷ rs) l = (l.0, numbers_listed rs l.1)
numbers_listed (stretch x k (suc zero) ∷ rs) l = (tt, (l.0, numbers_listed rs l.1))
numbers_listed (stretch x k (suc (suc n)) ∷ rs) l = (omega arith, (l.0, numbers_listed rs l.1))

-- so every number is at least 1.
pub numbers_runs : (ps : List Pixel) → AllNumbers (listed (runs ps))
numbers_runs ps = numbers_listed (runs ps) (long_runs ps)
