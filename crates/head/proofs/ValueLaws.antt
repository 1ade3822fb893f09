-- The numbers of a packet's head, as the machine makes them. Assumes nothing.
use Prim.Native.Nat.{ℕ, ◌-◌, ◌^◌, ◌≤◌, ◌<◌}
use mathlib.Core.Path.{◌≡◌, refl, sym, ap, subst, ◌∙◌}
use mathlib.Core.List.{[], ◌∷◌}
use native.Mathlib.Omega.{arith}
use lib.IntN.{ℤ, pos, negsuc}
use lib.Signed.{mag}
use mir.Syntax.{Width}
use mir.Val.{SFits, to_z, of_z}
use mir.Facts.{to_z-of_z}
use Rattle.format.specs.Numbers.{twos}
use Rattle.escapement.specs.Count.{whole_of}
use Rattle.escapement.specs.declared.Pixels.{Pixels}
use Rattle.measures.specs.Said.{said}
use Rattle.measures.specs.declared.Measures.{Measures}
use Rattle.sign.proofs.SignLaws.{at64, reads_back, bound_back}
use Rattle.head.specs.Head.{field, narrow_row, narrow_values, long_values}

-- Two's complement.

pub twos_room : (k : ℕ) (z : ℤ) {top r : ℕ} → top ≡ 256 ^ k → r ≡ mag z → mag z < 256 ^ k → r ≤ top - 1
twos_room k z e q h = omega arith

pub twos_below : (k : ℕ) (z : ℤ) {top r : ℕ} → top ≡ 256 ^ k → r ≡ mag z → mag z < 256 ^ k → z ≡ negsuc (mag z) → top - 1 - r ≡ twos k z
unfolding twos
twos_below k z {top} {r} e q h s = subst (λ (y : ℤ). top - 1 - r ≡ twos k y) (sym s) (omega arith)

pub twos_above : (k : ℕ) (z : ℤ) {r : ℕ} → r ≡ mag z → z ≡ pos (mag z) → r ≡ twos k z
unfolding twos
twos_above k z {r} q s = subst (λ (y : ℤ). r ≡ twos k y) (sym s) q

-- An offset of fewer bits.

-- As the machine widens it, it is the same number, and below the same bound.
pub offset : (w : Width) {r x : ℤ} (z : ℤ) (top : ℕ) → SFits w x → r ≡ to_z w (of_z w x) → x ≡ z → mag z < top → top ≤ 9223372036854775808 → (mag (at64 r) < top) × (at64 r ≡ z)
offset w z top f e q h l = rw (e ∙ to_z-of_z {w = w} f ∙ q) (bound_back z top h l, reads_back z (omega arith))

-- All numbers; a magnitude is taken of a number as the machine reads it back.

pub narrow_all : (k : ℕ) (m : Measures) (dm : Pixels) (n : ℕ) {c t d w h x y : ℕ}
    → at64 m.code ≡ m.code → at64 m.tfm ≡ m.tfm → at64 m.w ≡ m.w → at64 m.h ≡ m.h
    → c ≡ mag (at64 m.code) → t ≡ mag (at64 m.tfm) → d ≡ dm.0 → w ≡ mag (at64 m.w) → h ≡ mag (at64 m.h) → x ≡ twos k m.hoff → y ≡ twos k m.voff
    → narrow_row k n c t d w h x y ≡ narrow_values k (said m) (whole_of dm) n
narrow_all k m dm n ac at aw ah ec et ed ew eh eo ev =
    rw (ec ∙ ap mag ac, et ∙ ap mag at, ed, ew ∙ ap mag aw, eh ∙ ap mag ah, eo, ev) refl

pub long_all : (m : Measures) (n : ℕ) {c t dx dy w h x y : ℕ}
    → at64 m.code ≡ m.code → at64 m.tfm ≡ m.tfm → at64 m.dx.0 ≡ m.dx.0 → at64 m.dy.0 ≡ m.dy.0
    → at64 m.w ≡ m.w → at64 m.h ≡ m.h
    → c ≡ mag (at64 m.code) → t ≡ twos 4 (at64 m.tfm) → dx ≡ twos 4 (at64 m.dx.0) → dy ≡ twos 4 (at64 m.dy.0)
    → w ≡ mag (at64 m.w) → h ≡ mag (at64 m.h) → x ≡ twos 4 m.hoff → y ≡ twos 4 m.voff
    → field 4 n ∷ field 4 c ∷ field 4 t ∷ field 4 dx ∷ field 4 dy ∷ field 4 w ∷ field 4 h ∷ field 4 x ∷ field 4 y ∷ [] ≡ long_values (said m) n
long_all m n ac at ax ay aw ah ec et ex ey ew eh eo ev =
    rw (ec ∙ ap mag ac, et ∙ ap (twos 4) at, ex ∙ ap (twos 4) ax, ey ∙ ap (twos 4) ay, ew ∙ ap mag aw, eh ∙ ap mag ah, eo, ev) refl
