-- The rows kept of a bitmap: their joined string, with its repeats, sends all rows. Assumes nothing.
use Prim.Native.Nat.{ℕ, zero, suc, ◌+◌, ◌≤◌, ◌<◌}
use mathlib.Core.Path.{◌≡◌, refl, ap, ◌∙◌, subst}
use mathlib.Core.List.{List, [], ◌∷◌, ◌++◌}
use mathlib.Core.Bool.{true, false, cond, ◌&&◌, ◌||◌}
use native.Mathlib.Nat.{add-zero}
use native.Mathlib.Numerals.{add-one}
use native.Mathlib.Omega.{arith}
use lib.Dec.{eqb, ltb}
use lib.ListN.{length, replicate, length-append, length-replicate}
use borrow.Author.Tests.{ltb-true, eqb-true, eq-eqb}
use Rattle.format.specs.Lists.{all, same}
use Rattle.format.specs.Rasters.{Item, run, fourteen, fifteen, repeats, rows, sum, sent, Grid}
use Rattle.format.specs.Counts.{mixed, Kept, row, above, kept, Pixel, placed, last_of, strung, before}
use Rattle.format.specs.Packing.{all_pixels}
use Rattle.format.proofs.Tests.{test, cond_same, and_true, or_false}
use Rattle.format.proofs.ItemLaws.{had_once}
use Rattle.format.proofs.RowLaws.{sent_row, row_on, from, had_sum, from_run, from_repeat, from_past, from_later, from_start}
use Rattle.format.proofs.CountLaws.{colours, singles, Good}

-- Rows kept.

-- Rows that are found equal are equal.
same_is : (r s : List ℕ) → same r s ≡ true → r ≡ s
unfolding same
same_is [] [] e = refl
same_is [] (y ∷ s) e = absurd (let z : ◌≡◌ {A = ℕ} 0 1 = cc in omega arith)
same_is (x ∷ r) [] e = absurd (let z : ◌≡◌ {A = ℕ} 0 1 = cc in omega arith)
same_is (x ∷ r) (y ∷ s) e = let t = and_true (eqb x y) (same r s) e in rw (eqb-true x y t.0, same_is r s t.1) refl

-- The rows that kept rows stand for,
unfoldable pub spelled : List Kept → List (List ℕ)
spelled [] = []
spelled (row r n ∷ ks) = replicate (suc n) r ++ spelled ks

-- and the pixels of the kept rows alone.
unfoldable pub flat : List Kept → List ℕ
flat [] = []
flat (row r n ∷ ks) = r ++ flat ks

spelled_above : (r : List ℕ) (ks : List Kept) → spelled (above r ks) ≡ r ∷ spelled ks
unfolding spelled above
spelled_above r [] = refl
spelled_above r (row s n ∷ ks) =
    test (mixed r && same r s)
    (λ p. let t = and_true (mixed r) (same r s) p in rw (p, add-one n, same_is r s t.1) refl)
    (λ p. rw p refl)

-- They are all rows.
pub spelled_kept : (rs : List (List ℕ)) → spelled (kept rs) ≡ rs
unfolding spelled kept
spelled_kept [] = refl
spelled_kept (r ∷ rs) = spelled_above r (kept rs) ∙ ap (λ (x : List (List ℕ)). r ∷ x) (spelled_kept rs)

-- Each row has w pixels, each 0 or 1.
abbrev pub Bitmap : ℕ → List (List ℕ) → Type 0
Bitmap w [] = Unit {0}
Bitmap w (r ∷ rs) = (length r ≡ w) × (all_pixels r ≡ true) × Bitmap w rs

-- So has each kept row, and whatever colour stands before it, it has a place for its repeats.
abbrev pub Fit : ℕ → List Kept → Type 0
Fit w [] = Unit {0}
Fit w (row r n ∷ ks) = (length r ≡ w) × (all_pixels r ≡ true) × ((p : ℕ) → p < 2 → cond (all p r) 0 n ≡ n) × Fit w ks

-- A mixed row is not all of one colour.
mixed_all : (p : ℕ) (r : List ℕ) → p < 2 → mixed r ≡ true → all p r ≡ false
unfolding mixed
mixed_all p r h m = test (all 0 r || all 1 r) (λ t. absurd (let o = rw t at m in let z : ◌≡◌ {A = ℕ} 0 1 = cc in omega arith)) (λ t. go p h (or_false (all 0 r) (all 1 r) t))
  where
    go : (p : ℕ) → p < 2 → (all 0 r ≡ false) × (all 1 r ≡ false) → all p r ≡ false
    go zero h t = t.0
    go (suc zero) h t = t.1
    go (suc (suc p)) h t = absurd (omega arith)

fit_above : (w : ℕ) (r : List ℕ) (ks : List Kept) → length r ≡ w → all_pixels r ≡ true → Fit w ks → Fit w (above r ks)
unfolding above
fit_above w r [] l b f = (l, b, (λ p h. cond_same (all p r) 0), tt)
fit_above w r (row s n ∷ ks) l b f =
    test (mixed r && same r s)
    (λ t. rw t (l, b, (λ p h. rw (mixed_all p r h (and_true (mixed r) (same r s) t).0) refl), f.3))
    (λ t. rw t (l, b, (λ p h. cond_same (all p r) 0), f))

pub fit_kept : (w : ℕ) (rs : List (List ℕ)) → Bitmap w rs → Fit w (kept rs)
unfolding kept
fit_kept w [] b = tt
fit_kept w (r ∷ rs) b = fit_above w r (kept rs) b.0 b.1 (fit_kept w rs b.2)

-- The joined string.

colours_placed : (p n : ℕ) (r : List ℕ) (ps : List Pixel) → colours (placed p n r ++ ps) ≡ r ++ colours ps
unfolding colours placed
colours_placed p n [] ps = refl
colours_placed p n (x ∷ r) ps = ap (λ (l : List ℕ). x ∷ l) (colours_placed x (cond (eqb x p) n 0) r ps)

-- Its colours are those of the kept rows.
pub colours_strung : (p : ℕ) (ks : List Kept) → colours (strung p ks) ≡ flat ks
unfolding colours strung flat
colours_strung p [] = refl
colours_strung p (row r n ∷ ks) = colours_placed p n r (strung (last_of p r) ks) ∙ ap (λ (l : List ℕ). r ++ l) (colours_strung (last_of p r) ks)

good_placed : (p n : ℕ) (r : List ℕ) (ps : List Pixel) → all_pixels r ≡ true → Good (last_of p r) ps → Good p (placed p n r ++ ps)
unfolding placed last_of all_pixels
good_placed p n [] ps b g = g
good_placed p n (x ∷ r) ps b g =
    let t = and_true (ltb x 2) (all_pixels r) b in
    (ltb-true x 2 t.0, (λ e. rw (eq-eqb x p e) refl), good_placed x (cond (eqb x p) n 0) r ps t.1 g)

-- Its repeats stand where the colour changes.
pub good_strung : (w p : ℕ) (ks : List Kept) → Fit w ks → Good p (strung p ks)
unfolding strung
good_strung w p [] f = tt
good_strung w p (row r n ∷ ks) f = good_placed p n r (strung (last_of p r) ks) f.1 (good_strung w (last_of p r) ks f.3)

-- The last pixel is 0 or 1.
last_small : (p : ℕ) (r : List ℕ) → p < 2 → all_pixels r ≡ true → last_of p r < 2
unfolding last_of all_pixels
last_small p [] h b = h
last_small p (x ∷ r) h b = let t = and_true (ltb x 2) (all_pixels r) b in last_small x r (ltb-true x 2 t.0) t.1

-- The repeats by row.

module _ (w : ℕ) where
  -- Past a pixel that has none,
  from_pixel : (q rep : ℕ) (is : List Item) → from w q rep (before 0 (run 1 ∷ is)) ≡ from w (q + 1) rep is
  unfolding before
  from_pixel q rep is = from_run w q rep 1 is

  -- and past one that has n.
  from_mark : (q n : ℕ) (is : List Item) → q < w → from w q 0 (before n (run 1 ∷ is)) ≡ from w (q + 1) n is
  unfolding before
  from_mark q zero is l = from_run w q 0 1 is
  from_mark q (suc zero) is l = from_repeat w q 1 fifteen (run 1 ∷ is) l (omega arith) refl refl ∙ from_run w q 1 1 is
  from_mark q (suc (suc n)) is l =
      from_repeat w q (suc (suc n)) (fourteen (suc (suc n))) (run 1 ∷ is) l (omega arith) refl refl ∙ from_run w q (suc (suc n)) 1 is

  -- Past pixels whose repeats have been placed,
  from_rest : (p q rep : ℕ) (r : List ℕ) (ps : List Pixel) → from w q rep (singles (placed p 0 r ++ ps)) ≡ from w (q + length r) rep (singles ps)
  unfolding placed singles
  from_rest p q rep [] ps = rw (add-zero q) refl
  from_rest p q rep (x ∷ r) ps =
      let e : q + 1 + length r ≡ q + suc (length r) = omega arith in
      rw (cond_same, from_pixel, from_rest x (q + 1) rep r ps, e) refl

  -- and past those where they find a place.
  from_placed : (p q n : ℕ) (r : List ℕ) (ps : List Pixel) → q + length r ≤ w → from w q 0 (singles (placed p n r ++ ps)) ≡ from w (q + length r) (cond (all p r) 0 n) (singles ps)
  unfolding placed singles all
  from_placed p q n [] ps l = rw (add-zero q) refl
  from_placed p q n (x ∷ r) ps l =
      let e : q + 1 + length r ≡ q + suc (length r) = omega arith in
      test (eqb x p)
      (λ t. rw (t, from_pixel, from_placed x (q + 1) n r ps (omega arith), e, eqb-true x p t) refl)
      (λ t. rw (t, from_mark q n (singles (placed x 0 r ++ ps)) (omega arith), from_rest x (q + 1) n r ps, e) refl)

  -- Past a row, its repeats are all there.
  from_row : (p n : ℕ) (r : List ℕ) (ps : List Pixel) → length r ≡ w → cond (all p r) 0 n ≡ n → from w 0 0 (singles (placed p n r ++ ps)) ≡ from w (w + 0) n (singles ps)
  from_row p n r ps l e =
      let z : 0 + length r ≡ w + 0 = omega arith in
      from_placed p 0 n r ps (omega arith) ∙ rw (z, e) refl

  -- The rows sent are those that the kept rows stand for,
  pub sent_strung : (p : ℕ) (ks : List Kept) → 0 < w → p < 2 → Fit w ks → sent (from w 0 0 (singles (strung p ks))) (rows w (length ks) (flat ks)) ≡ spelled ks
  unfolding strung flat spelled sent rows
  sent_strung p [] h l f = refl
  sent_strung p (row r n ∷ ks) h l f =
      let ps = strung (last_of p r) ks in
      rw (from_row p n r ps f.0 (f.2 p l))
      (sent_row w (length ks) (from w (w + 0) n (singles ps)) r (flat ks) f.0
      ∙ rw (from_past w 0 n (singles ps) h, had_sum n, from_later w 0 n (singles ps) h) (ap (λ (x : List (List ℕ)). replicate (suc n) r ++ x) (sent_strung (last_of p r) ks h (last_small p r l f.1) f.3)))

  -- and they fill the grid.
  pub grid_strung : (p : ℕ) (ks : List Kept) → 0 < w → p < 2 → Fit w ks → Grid w (length (spelled ks)) (length ks) (from w 0 0 (singles (strung p ks))) (flat ks)
  unfolding strung flat spelled sent rows singles repeats
  grid_strung p [] h l f = rw (from_start w []) record { whole = omega arith; once = λ r. omega arith; inside = λ r k. refl; high = refl }
  grid_strung p (row r n ∷ ks) h l f =
      let is = singles (strung (last_of p r) ks) in
      let one : length (from w (w + 0) n is 0) ≤ 1 = rw (from_past w 0 n is h) (had_once n) in
      let g = row_on w (length ks) (from w (w + 0) n is) r (flat ks) f.0 {h = length (spelled ks)} one (rw (from_later w 0 n is h) (grid_strung (last_of p r) ks h (last_small p r l f.1) f.3)) in
      let e : suc (sum (from w (w + 0) n is 0)) + length (spelled ks) ≡ length (replicate (suc n) r ++ spelled ks) = rw (from_past w 0 n is h, had_sum n, length-append, length-replicate) refl in
      rw (from_row p n r (strung (last_of p r) ks) f.0 (f.2 p l)) (subst (λ (x : ℕ). Grid w x (suc (length ks)) (from w (w + 0) n is) (r ++ flat ks)) e g)
