-- Laws of the tests that packing makes first, and of the raster's kind. Assumes nothing.
use Prim.Native.Nat.{ℕ, zero, suc, ◌+◌, ◌≤◌, ◌<◌, max}
use mathlib.Core.Path.{◌≡◌, refl, sym, ap, ◌∙◌}
use mathlib.Core.Bool.{Bool, false, ◌&&◌, and-true}
use mathlib.Core.List.{List, [], ◌∷◌}
use native.Mathlib.Omega.{arith}
use native.Mathlib.Numerals.{add-one}
use lib.Dec.{eqb, ltb}
use lib.IntN.{ℤ, pos, negsuc}
use lib.ListN.{length, drop, get_or, drop_of_length-le}
use lib.Seq.{drop-cons}
use lib.Signed.{mag}
use borrow.Author.Tests.{lt-ltb, le-ltb, eq-eqb, ne_eqb}
use Rattle.format.specs.Limits.{in_limits, within_limits, is_code}
use Rattle.format.specs.Rasters.{writings, rows, bytes_of_bits}
use Rattle.format.specs.Counts.{counts}
use Rattle.format.specs.Choice.{halves, bit_bytes, raster_of, first_black}
use Rattle.format.specs.Packing.{all_pixels}
use Rattle.format.proofs.HalfLaws.{length-bit_bytes}
use Rattle.format.proofs.Tests.{split}
use Rattle.pack.specs.Bitmaps.{raster_for}

-- w, h and the code.

pub not_wide : (w h : ℤ) → w ≡ negsuc (mag w) → false ≡ within_limits w h
unfolding within_limits
not_wide (pos n) h e = absurd (let z : ◌≡◌ {A = ℕ} 0 1 = cc in omega arith)
not_wide (negsuc n) h e = refl

pub not_high : (w h : ℤ) → h ≡ negsuc (mag h) → false ≡ within_limits w h
unfolding within_limits
not_high w (pos n) e = absurd (let z : ◌≡◌ {A = ℕ} 0 1 = cc in omega arith)
not_high (pos n) (negsuc k) e = refl
not_high (negsuc n) (negsuc k) e = refl

pub limits_are : (w h : ℤ) (a b : ℕ) (r : Bool) → w ≡ pos (mag w) → h ≡ pos (mag h) → a ≡ mag w → b ≡ mag h → r ≡ in_limits a b → r ≡ within_limits w h
unfolding within_limits
limits_are (pos n) (pos k) a b r e f p q z = z ∙ rw (p, q) refl
limits_are (pos n) (negsuc k) a b r e f p q z = absurd (let z : ◌≡◌ {A = ℕ} 0 1 = cc in omega arith)
limits_are (negsuc n) h a b r e f p q z = absurd (let z : ◌≡◌ {A = ℕ} 0 1 = cc in omega arith)

pub no_code : (z : ℤ) → z ≡ negsuc (mag z) → false ≡ is_code z
unfolding is_code
no_code (pos n) e = absurd (let z : ◌≡◌ {A = ℕ} 0 1 = cc in omega arith)
no_code (negsuc n) e = refl

pub code_is : (z : ℤ) (a : ℕ) → z ≡ pos (mag z) → a ≡ mag z → ltb a 256 ≡ is_code z
unfolding is_code
code_is (pos n) a e p = rw p refl
code_is (negsuc n) a e p = absurd (let z : ◌≡◌ {A = ℕ} 0 1 = cc in omega arith)

-- Pixels.

-- The largest byte before i, with the bytes from i on, says what all say.
pub record SoFar (b : List ℕ) (top i : ℕ) : Type 0 where
  pub inside : i ≤ length b
  pub same : all_pixels b ≡ ltb top 2 && all_pixels (drop i b)

-- The larger of two is a pixel if both are.
larger_pixel : (x y : ℕ) (t : Bool) → ltb x 2 && (ltb y 2 && t) ≡ ltb (max x y) 2 && t
larger_pixel x y t =
    split 2 x
    (λ h. rw (le-ltb x 2 h, le-ltb (max x y) 2 (omega arith)) refl)
    (λ h. rw (lt-ltb x 2 h) (split 2 y
    (λ l. rw (le-ltb y 2 l, le-ltb (max x y) 2 (omega arith)) refl)
    (λ l. rw (lt-ltb y 2 l, lt-ltb (max x y) 2 (omega arith)) refl)))

-- Before the first byte, behind one more, and behind the last.
pub pixel_start : (b : List ℕ) → SoFar b 0 0
pixel_start b = record { inside = omega arith; same = refl }

pub pixel_more : {b : List ℕ} {top i : ℕ} (r : ℕ) → SoFar b top i → i < length b → r ≡ max top (get_or b i 0) → SoFar b r (i + 1)
unfolding all_pixels
pixel_more {b} {top} {i} r t l e = record {
  inside = omega arith;
  same = t.same ∙ rw (drop-cons b i 0 l, add-one i, e) (larger_pixel top (get_or b i 0) (all_pixels (drop (suc i) b)));
}

pub pixels_all : {b : List ℕ} {top i : ℕ} → SoFar b top i → length b ≤ i → ltb top 2 ≡ all_pixels b
unfolding all_pixels
pixels_all {b} {top} {i} t l = sym (t.same ∙ rw (drop_of_length-le b l) (and-true (ltb top 2)))

-- The black bit.

pub bits_white : (f : ℕ) (b : List ℕ) → f ≡ 14 → false ≡ first_black f b
unfolding first_black
bits_white f b e = rw (eq-eqb f 14 e) refl

pub none_white : (f : ℕ) (b : List ℕ) → (f ≡ 14 → ⊥) → length b ≡ 0 → false ≡ first_black f b
unfolding first_black
none_white f [] n e = rw (ne_eqb f 14 n) refl
none_white f (x ∷ b) n e = absurd (omega arith)

pub first_pixel : (f : ℕ) (b : List ℕ) → (f ≡ 14 → ⊥) → eqb (get_or b 0 0) 1 ≡ first_black f b
unfolding first_black
first_pixel f b n = rw (ne_eqb f 14 n) refl

-- The raster.

module _ (f w h : ℕ) (b : List ℕ) where
  pub raster_bits : f ≡ 14 → raster_for f w h b ≡ bit_bytes (bytes_of_bits (length b)) b
  unfolding raster_for raster_of
  raster_bits e = rw (eq-eqb f 14 e) refl

  pub raster_runs : (f ≡ 14 → ⊥) → raster_for f w h b ≡ halves (writings f (counts (rows w h b)))
  unfolding raster_for raster_of
  raster_runs n = rw (ne_eqb f 14 n) refl

  pub bits_long : f ≡ 14 → length (raster_for f w h b) ≡ bytes_of_bits (length b)
  bits_long e = ap length (raster_bits e) ∙ length-bit_bytes (bytes_of_bits (length b)) b

-- Where f is not 14 there are pixels.
pub some_wide : (f w : ℕ) → (w ≡ 0 → f ≡ 14) → (f ≡ 14 → ⊥) → 0 < w
some_wide f zero t n = absurd (n (t refl))
some_wide f (suc w) t n = omega arith
