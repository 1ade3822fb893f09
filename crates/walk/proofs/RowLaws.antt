-- Rows of a bitmap looked at one after another: which are removed. Assumes nothing.
use Prim.Native.Nat.{ℕ, zero, suc, ◌+◌, ◌-◌, ◌*◌, ◌/◌, ◌≤◌, ◌<◌}
use mathlib.Core.Path.{◌≡◌, refl, sym, ap, ◌∙◌}
use mathlib.Core.List.{List, [], ◌∷◌, ◌++◌}
use mathlib.Core.Bool.{true, false, ◌&&◌, and-false}
use native.Mathlib.Nat.{mul-div_cancel}
use native.Mathlib.Numerals.{add-one}
use native.Mathlib.Omega.{arith}
use lib.ListN.{length, take, drop, replicate}
use lib.Seq.{drop-drop}
use Rattle.format.specs.Lists.{same}
use Rattle.format.specs.Rasters.{rows}
use Rattle.format.specs.Counts.{mixed, Kept, row, above, kept}
use Rattle.format.proofs.Tests.{test}
use Rattle.walk.specs.Walk.{rows_from, RowAt, Removal}
use Rattle.walk.proofs.PixelLaws.{same_is, same_self}

-- The rows from a place on.

-- Where k whole rows are left, they are the rows.
pub rows_are : (b : List ℕ) (w at k : ℕ) → 0 < w → at + k * w ≡ length b → rows_from b w at ≡ rows w k (drop at b)
unfolding rows_from
rows_are b w at k p e =
    let z : length b - at ≡ k * w = omega arith in
    ap (λ (n : ℕ). rows w n (drop at b)) (ap (λ (n : ℕ). n / w) z ∙ mul-div_cancel k p)

-- Behind a row that begins, one row fewer is left.
pub row_off : (w at k l : ℕ) → at + k * w ≡ l → at < l → at + w + (k - 1) * w ≡ l
row_off w at zero l e h = absurd (omega arith)
row_off w at (suc k) l e h = let z : suc k - 1 ≡ k = omega arith in rw z (omega arith)

-- At the end there are no rows, and else a first one.
pub rows_none : (b : List ℕ) (w at k : ℕ) → 0 < w → at + k * w ≡ length b → length b ≤ at → rows_from b w at ≡ []
unfolding rows
rows_none b w at zero p e h = rows_are b w at zero p e
rows_none b w at (suc k) p e h = absurd (omega arith)

pub rows_first : (b : List ℕ) (w at k : ℕ) → 0 < w → at + k * w ≡ length b → at < length b → rows_from b w at ≡ take w (drop at b) ∷ rows_from b w (at + w)
unfolding rows
rows_first b w at zero p e h = absurd (omega arith)
rows_first b w at (suc k) p e h =
    rows_are b w at (suc k) p e
    ∙ ap (λ (l : List (List ℕ)). take w (drop at b) ∷ l) (ap (rows w k) (drop-drop w at b) ∙ sym (rows_are b w (at + w) k p (omega arith)))

-- Which rows are kept.

-- The row r is not equal to the first of the rows, or not mixed.
abbrev Apart : List ℕ → List (List ℕ) → Type 0
Apart r [] = Unit {0}
Apart r (s ∷ rs) = (mixed r && same r s) ≡ false

-- A row that is apart from the next is kept.
above_above : (r s : List ℕ) (ks : List Kept) → (mixed r && same r s) ≡ false → above r (above s ks) ≡ row r 0 ∷ above s ks
unfolding above
above_above r s [] e = rw e refl
above_above r s (row t n ∷ ks) e = test (mixed s && same s t) (λ p. rw (p, e) refl) (λ p. rw (p, e) refl)

kept_apart : (r : List ℕ) (rs : List (List ℕ)) → Apart r rs → kept (r ∷ rs) ≡ row r 0 ∷ kept rs
unfolding kept above
kept_apart r [] a = refl
kept_apart r (s ∷ rs) a = above_above r s (kept rs) a

-- A row equal to the first kept takes its place, with one repeat more.
above_same : (r : List ℕ) (n : ℕ) (ks : List Kept) → mixed r ≡ true → above r (row r n ∷ ks) ≡ row r (suc n) ∷ ks
unfolding above
above_same r n ks m = rw (m, same_self r, add-one n) refl

-- Of a row and n rows equal to it, the first is kept, if it is mixed or n is 0.
kept_times : (n : ℕ) (r : List ℕ) (rs : List (List ℕ)) → (0 < n → mixed r ≡ true) → Apart r rs → kept (r ∷ (replicate n r ++ rs)) ≡ row r n ∷ kept rs
unfolding kept
kept_times zero r rs m a = kept_apart r rs a
kept_times (suc n) r rs m a = let e = m (omega arith) in ap (above r) (kept_times n r rs (λ h. e) a) ∙ above_same r n (kept rs) e

times_more : (n : ℕ) (r : List ℕ) (rs : List (List ℕ)) → replicate n r ++ (r ∷ rs) ≡ replicate (n + 1) r ++ rs
times_more n r rs = rw (add-one n) (go n)
  where
    go : (k : ℕ) → replicate k r ++ (r ∷ rs) ≡ r ∷ (replicate k r ++ rs)
    go zero = refl
    go (suc k) = ap (λ (l : List (List ℕ)). r ∷ l) (go k)

apart_plain : (r : List ℕ) (rs : List (List ℕ)) → mixed r ≡ false → Apart r rs
apart_plain r [] m = tt
apart_plain r (s ∷ rs) m = rw m refl

-- The first row is kept, whatever follows.
above_first : (r : List ℕ) (ks : List Kept) → (n : ℕ) × (l : List Kept) × (above r ks ≡ row r n ∷ l)
unfolding above
above_first r [] = (0, [], refl)
above_first r (row s n ∷ ks) = test (mixed r && same r s) (λ e. (n + 1, ks, rw e refl)) (λ e. (0, row s n ∷ ks, rw e refl))

pub kept_first : (r : List ℕ) (rs : List (List ℕ)) → (n : ℕ) × (l : List Kept) × (kept (r ∷ rs) ≡ row r n ∷ l)
unfolding kept
kept_first r rs = above_first r (kept rs)

-- The loop.

-- The n rows under the one at a place, up to `next`, are equal to it.
pub record Equal (b : List ℕ) (w at next n : ℕ) : Type 0 where
  pub wide : 0 < w
  pub after : n + at + w ≤ next
  pub mix : 0 < n → mixed (take w (drop at b)) ≡ true
  pub is : rows_from b w at ≡ take w (drop at b) ∷ (replicate n (take w (drop at b)) ++ rows_from b w next)
  pub more_rows : ℕ
  pub whole : next + more_rows * w ≡ length b

-- Before the first; a row more; a row that differs; no row left.
pub equal_start : {b : List ℕ} {w at : ℕ} → RowAt b w at → Equal b w at (at + w) 0
equal_start {b} {w} {at} r = record {
  wide = r.wide;
  after = omega arith;
  mix = λ h. absurd (omega arith);
  is = rows_first b w at r.more_rows r.wide r.whole r.more;
  more_rows = r.more_rows - 1;
  whole = row_off w at r.more_rows (length b) r.whole r.more;
}

pub equal_more : {b : List ℕ} {w at next n : ℕ} → Equal b w at next n → next < length b → same (take w (drop at b)) (take w (drop next b)) ≡ true → mixed (take w (drop at b)) ≡ true → Equal b w at (next + w) (n + 1)
equal_more {b} {w} {at} {next} {n} e h s m =
    let r = take w (drop at b) in
    let f : rows_from b w next ≡ r ∷ rows_from b w (next + w) = rows_first b w next e.more_rows e.wide e.whole h ∙ ap (λ (x : List ℕ). x ∷ rows_from b w (next + w)) (sym (same_is r (take w (drop next b)) s)) in
    record {
      wide = e.wide;
      after = omega (arith, e.after, e.wide);
      mix = λ l. m;
      is = e.is ∙ ap (λ (x : List (List ℕ)). r ∷ (replicate n r ++ x)) f ∙ ap (λ (x : List (List ℕ)). r ∷ x) (times_more n r (rows_from b w (next + w)));
      more_rows = e.more_rows - 1;
      whole = row_off w next e.more_rows (length b) e.whole h;
    }

removal : {b : List ℕ} {w at next n : ℕ} → Equal b w at next n → Apart (take w (drop at b)) (rows_from b w next) → Removal b w at next n
removal {b} {w} {at} {next} {n} e a = record {
  is = ap kept e.is ∙ kept_times n (take w (drop at b)) (rows_from b w next) e.mix a;
  after = omega (arith, e.after);
  few = omega (arith, e.after, e.whole);
  more_rows = e.more_rows;
  whole = e.whole;
}

pub equal_stop : {b : List ℕ} {w at next n : ℕ} → Equal b w at next n → next < length b → same (take w (drop at b)) (take w (drop next b)) ≡ false → Removal b w at next n
equal_stop {b} {w} {at} {next} e h s =
    removal e (rw (rows_first b w next e.more_rows e.wide e.whole h, s) (and-false (mixed (take w (drop at b)))))

pub equal_end : {b : List ℕ} {w at next n : ℕ} → Equal b w at next n → length b ≤ next → Removal b w at next n
equal_end {b} {w} {at} {next} e h = removal e (rw (rows_none b w next e.more_rows e.wide e.whole h) tt)

-- A row that is not mixed has no repeats.
pub equal_plain : {b : List ℕ} {w at next n : ℕ} → Equal b w at next n → mixed (take w (drop at b)) ≡ false → Removal b w at next n
equal_plain {b} {w} {at} {next} e m = removal e (apart_plain (take w (drop at b)) (rows_from b w next) m)
