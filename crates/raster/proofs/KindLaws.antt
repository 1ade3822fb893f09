-- Which pixels a raster has: none, its bits, or those of its runs. Assumes nothing.
use Prim.Native.Nat.{ℕ, zero, suc, ◌*◌, ◌≤◌}
use mathlib.Core.Path.{◌≡◌, refl, ap, ◌∙◌}
use mathlib.Core.Bool.{Bool}
use mathlib.Core.List.{List, ◌++◌}
use native.Mathlib.Nat.{zero-mul}
use native.Mathlib.Omega.{arith}
use lib.ListN.{length, take, drop, replicate, length-append}
use borrow.Author.Tests.{eq-eqb}
use Rattle.format.specs.Refusals.{ok}
use Rattle.format.specs.Rasters.{bits, BitRaster}
use Rattle.format.specs.Reading.{items, ReadWhole}
use Rattle.format.specs.Drawing.{raster_pixels}
use Rattle.format.proofs.BitLaws.{length-bits, read_bits}
use Rattle.format.proofs.PixelLaws.{none_drawn, bits_drawn}

module _ (f : ℕ) (black : Bool) (w h : ℕ) (bytes : List ℕ) (d : List ℕ) where
  -- None: the buffer stays.
  pub no_pixels : w ≡ 0 → d ≡ raster_pixels f black w h bytes ++ drop (w * h) d
  no_pixels e = rw (e, zero-mul h, none_drawn f black h bytes) refl

  -- With f = 14 the bytes that are read whole are bits.
  in_bits_lem : (w ≡ 0 → ⊥) → f ≡ 14 → ReadWhole f w h bytes → BitRaster w h bytes (take (w * h) (bits bytes))
  unfolding items
  in_bits_lem n e t = go w n t.1
    where
      go : (w : ℕ) → (w ≡ 0 → ⊥) → items f w h bytes ≡ ok t.0 → BitRaster w h bytes (take (w * h) (bits bytes))
      go zero n q = absurd (n refl)
      go (suc w) n q = read_bits (suc w) h bytes t.0 (rw (eq-eqb f 14 e) at q)

  pub bits_enough : (w ≡ 0 → ⊥) → f ≡ 14 → ReadWhole f w h bytes → w * h ≤ 8 * length bytes
  bits_enough n e t =
      let r = in_bits_lem n e t in
      omega (arith, length-bits bytes, ap length r.bits_are, length-append (take (w * h) (bits bytes)) (replicate r.spare 0), r.size)

  pub bit_pixels : (d' : List ℕ) → (w ≡ 0 → ⊥) → f ≡ 14 → ReadWhole f w h bytes → d' ≡ take (w * h) (bits bytes) ++ drop (w * h) d
      → d' ≡ raster_pixels f black w h bytes ++ drop (w * h) d
  bit_pixels d' n e t q = q ∙ ap (λ (x : List ℕ). x ++ drop (w * h) d) (go w n (in_bits_lem n e t))
    where
      go : (w : ℕ) → (w ≡ 0 → ⊥) → BitRaster w h bytes (take (w * h) (bits bytes)) → take (w * h) (bits bytes) ≡ raster_pixels f black w h bytes
      go zero n r = absurd (n refl)
      go (suc w) n r = bits_drawn f black w h bytes (take (suc w * h) (bits bytes)) e r
