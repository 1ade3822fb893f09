-- A raster draws one picture: the items of its bytes, their rows and their pixels are determined. Assumes nothing.
use Prim.Native.Nat.{ℕ, suc, ◌*◌, ◌≤◌, ◌<◌}
use mathlib.Core.Path.{◌≡◌, sym, ap, ◌∙◌}
use mathlib.Core.List.{List}
use mathlib.Core.Bool.{Bool}
use native.Mathlib.Nat.{mul-le-mul_right}
use native.Mathlib.Omega.{arith}
use lib.ListN.{length, take, replicate}
use lib.Seq.{take_at}
use Rattle.format.specs.Rasters.{Item, writings, string, picture, RunRaster, BitRaster, colour, Draws, blank, in_bits, in_runs, spare}
use Rattle.format.proofs.Tests.{split}
use Rattle.format.proofs.ItemLaws.{spare_ends, one_items}

-- The items of a run-packed raster are determined by its bytes.
pub one_item_list : (f w h c : ℕ) (bytes d e : List ℕ) → f ≤ 13 → (x : RunRaster f w h c bytes d) (y : RunRaster f w h c bytes e) → x.items ≡ y.items
one_item_list f w h c bytes d e hf x y =
    (one_items f x.items y.items (spare (length (writings f x.items))) (spare (length (writings f y.items))) hf x.numbers y.numbers
    (spare_ends f (length (writings f x.items))) (spare_ends f (length (writings f y.items))) (sym x.nybbles_are ∙ y.nybbles_are)).0

same_rows : (w k j : ℕ) → 0 < w → k * w ≡ j * w → k ≡ j
same_rows w k j p e =
    split k j
    (λ t. split j k (λ u. omega arith) (λ u. absurd (let m = mul-le-mul_right {m = suc k} {n = j} w u in omega arith)))
    (λ t. absurd (let m = mul-le-mul_right {m = suc j} {n = k} w t in omega arith))

runs_one : (f w h c : ℕ) (bytes d e : List ℕ) → 0 < w → f ≤ 13 → RunRaster f w h c bytes d → RunRaster f w h c bytes e → d ≡ e
runs_one f w h c bytes d e p hf x y =
    let i = one_item_list f w h c bytes d e hf x y in
    let k = same_rows w x.k y.k p (sym x.grid.whole ∙ ap (λ (z : List Item). length (string c z)) i ∙ y.grid.whole) in
    x.drawn_is ∙ ap (λ (z : List Item). picture w c x.k z) i ∙ ap (λ (z : ℕ). picture w c z y.items) k ∙ sym y.drawn_is

bits_one : (w h : ℕ) (bytes d e : List ℕ) → BitRaster w h bytes d → BitRaster w h bytes e → d ≡ e
bits_one w h bytes d e x y =
    sym (take_at d (replicate x.spare 0) (w * h) x.size) ∙ ap (take (w * h)) (sym x.bits_are ∙ y.bits_are) ∙ take_at e (replicate y.spare 0) (w * h) y.size

-- Whatever the bytes draw, they draw one picture.
pub one_picture : (f : ℕ) (black : Bool) (w h : ℕ) (bytes d e : List ℕ) → Draws f black w h bytes d → Draws f black w h bytes e → d ≡ e
one_picture f black w h bytes d e (blank p g q r) (blank p' g' q' r') = r ∙ sym r'
one_picture f black w h bytes d e (blank p g q r) (in_bits p' q' y) = absurd (omega arith)
one_picture f black w h bytes d e (blank p g q r) (in_runs p' q' y) = absurd (omega arith)
one_picture f black w h bytes d e (in_bits p q x) (blank p' g' q' r') = absurd (omega arith)
one_picture f black w h bytes d e (in_bits p q x) (in_bits p' q' y) = bits_one w h bytes d e x y
one_picture f black w h bytes d e (in_bits p q x) (in_runs p' q' y) = absurd (omega arith)
one_picture f black w h bytes d e (in_runs p q x) (blank p' g' q' r') = absurd (omega arith)
one_picture f black w h bytes d e (in_runs p q x) (in_bits p' q' y) = absurd (omega arith)
one_picture f black w h bytes d e (in_runs p q x) (in_runs p' q' y) = runs_one f w h (colour black) bytes d e p q x y
