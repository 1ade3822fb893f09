-- The measures of a packet from the numbers at the places of its fields. Assumes nothing.
use Prim.Native.Nat.{ℕ, zero, suc, ◌+◌, ◌*◌, ◌≤◌}
use mathlib.Core.Path.{◌≡◌, refl, ap, ◌∙◌}
use mathlib.Core.List.{List}
use native.Mathlib.Omega.{arith}
use lib.IntN.{ℤ, pos}
use lib.ListN.{drop}
use lib.Seq.{drop-drop}
use mir.Syntax.{w64}
use mir.Val.{SFits, to_z, of_z}
use mir.Facts.{to_z_pos, to_z-of_z}
use Rattle.format.specs.Numbers.{signed}
use Rattle.format.specs.Measures as F
use Rattle.format.specs.Measures.{pixels, to_scaled}
use Rattle.format.specs.Pieces.{long}
use Rattle.format.specs.Decoding.{number, value_of, read_fields}
use Rattle.fields.specs.Field.{NumberAt}
use Rattle.escapement.specs.Count.{scaled_of}
use Rattle.escapement.specs.declared.Scaled.{Scaled}
use Rattle.packet.specs.Outlines.{narrow_form}
use Rattle.packet.specs.declared.Outline.{Outline}
use Rattle.measures.specs.Said.{said, said_by, Small}
use Rattle.measures.specs.declared.Measures.{Measures}

-- The signed value of the k bytes from a place on.
abbrev value_at : List ℕ → ℕ → ℕ → ℤ
value_at s at k = value_of (signed k) (number k (drop at s))

-- z, of 64 bits, is that value.
pub record SignedAt (s : List ℕ) (at k : ℕ) (z : ℤ) : Type 0 where
  pub fits : SFits w64 z
  pub is : z ≡ value_at s at k

-- It is read back from its bits.
back : (s : List ℕ) (at k : ℕ) (z : ℤ) → SignedAt s at k z → to_z w64 (of_z w64 z) ≡ value_at s at k
back s at k z x = to_z-of_z {w = w64} x.fits ∙ x.is

-- The numbers of an outline within the limits are read as they are.
plain : (x : Outline) → Small x → (to_z w64 x.code ≡ pos x.code) × (to_z w64 x.w ≡ pos x.w) × (to_z w64 x.h ≡ pos x.h)
plain x o = (to_z_pos w64 (omega (arith, o.code)), to_z_pos w64 (omega (arith, o.wide)), to_z_pos w64 (omega (arith, o.high)))

-- The first two forms, of m bytes.
pub narrow_said : (s : List ℕ) (at m : ℕ) (x : Outline) (tfm dm : ℕ) (dx dy : Scaled) (hoff voff : ℤ) → 1 ≤ m → m ≤ 2 → Small x
    → NumberAt s (at + m + 1) 3 tfm → NumberAt s (at + m + 1 + 3) m dm → scaled_of dx ≡ to_scaled (pixels dm) → scaled_of dy ≡ to_scaled (pixels 0)
    → SignedAt s (at + m + 1 + 3 + 3 * m) m hoff → SignedAt s (at + m + 1 + 3 + 3 * m + m) m voff
    → said (record { code = to_z w64 x.code; w = to_z w64 x.w; h = to_z w64 x.h; tfm = to_z w64 tfm; dx = dx; dy = dy; hoff = to_z w64 (of_z w64 hoff); voff = to_z w64 (of_z w64 voff) })
    ≡ said_by (narrow_form m) x (drop at s)
unfolding said_by read_fields value_of
narrow_said s at m x tfm dm dx dy hoff voff l k o xt xd ex ey xh xv =
    go m (to_z w64 (of_z w64 hoff)) (to_z w64 (of_z w64 voff)) l k (to_z_pos w64 (omega (arith, xt.small)) ∙ ap pos xt.is) (ex ∙ ap (λ (n : ℕ). to_scaled (pixels n)) xd.is)
    (back _ _ _ _ xh) (back _ _ _ _ xv)
  where
    z : (to_z w64 x.code ≡ pos x.code) × (to_z w64 x.w ≡ pos x.w) × (to_z w64 x.h ≡ pos x.h)
    z = plain x o

    go : (m : ℕ) (hoff voff : ℤ) → 1 ≤ m → m ≤ 2 → to_z w64 tfm ≡ pos (number 3 (drop (at + m + 1) s)) → scaled_of dx ≡ to_scaled (pixels (number m (drop (at + m + 1 + 3) s)))
        → hoff ≡ value_at s (at + m + 1 + 3 + 3 * m) m → voff ≡ value_at s (at + m + 1 + 3 + 3 * m + m) m
        → said (record { code = to_z w64 x.code; w = to_z w64 x.w; h = to_z w64 x.h; tfm = to_z w64 tfm; dx = dx; dy = dy; hoff = hoff; voff = voff })
        ≡ said_by (narrow_form m) x (drop at s)
    go zero a b l k t ex eh ev = absurd (omega arith)
    go (suc zero) a b l k t ex eh ev =
        let p : at + 1 + 1 + 3 + 3 ≡ at + 1 + 1 + 3 + 1 + 1 + 1 = omega arith in
        simp (drop-drop, z.0, z.1, z.2, t, ex, ey, eh, ev, p)
    go (suc (suc zero)) a b l k t ex eh ev =
        let p : at + 2 + 1 + 3 + 6 ≡ at + 2 + 1 + 3 + 2 + 2 + 2 = omega arith in
        simp (drop-drop, z.0, z.1, z.2, t, ex, ey, eh, ev, p)
    go (suc (suc (suc m))) a b l k t ex eh ev = absurd (omega arith)

-- The long form.
pub long_said : (s : List ℕ) (at : ℕ) (x : Outline) (tfm dx dy hoff voff : ℤ) → Small x
    → SignedAt s (at + 8) 4 tfm → SignedAt s (at + 12) 4 dx → SignedAt s (at + 16) 4 dy → SignedAt s (at + 28) 4 hoff → SignedAt s (at + 32) 4 voff
    → said
    (record {
      code = to_z w64 x.code;
      w = to_z w64 x.w;
      h = to_z w64 x.h;
      tfm = to_z w64 (of_z w64 tfm);
      dx = record { 0 = to_z w64 (of_z w64 dx) };
      dy = record { 0 = to_z w64 (of_z w64 dy) };
      hoff = to_z w64 (of_z w64 hoff);
      voff = to_z w64 (of_z w64 voff);
    })
    ≡ said_by long x (drop at s)
unfolding said_by read_fields
long_said s at x tfm dx dy hoff voff o et ex ey eh ev =
    let z = plain x o in
    let p8 : at + 8 ≡ at + 4 + 4 = omega arith in
    let p12 : at + 12 ≡ at + 4 + 4 + 4 = omega arith in
    let p16 : at + 16 ≡ at + 4 + 4 + 4 + 4 = omega arith in
    let p28 : at + 28 ≡ at + 4 + 4 + 4 + 4 + 4 + 4 + 4 = omega arith in
    let p32 : at + 32 ≡ at + 4 + 4 + 4 + 4 + 4 + 4 + 4 + 4 = omega arith in
    simp (drop-drop, z.0, z.1, z.2, back _ _ _ _ et, back _ _ _ _ ex, back _ _ _ _ ey, back _ _ _ _ eh, back _ _ _ _ ev, p8, p12, p16, p28, p32)

-- One of them.

scaled_one : (a b : ℤ) → F.scaled a ≡ F.scaled b → a ≡ b
scaled_one a b e = cc

-- Measures are told by what they say.
pub one_measures : (m n : Measures) → said m ≡ said n → m ≡ n
one_measures m n e =
    rw (
      ap (λ (x : F.Measures). x.code) e,
      ap (λ (x : F.Measures). x.w) e,
      ap (λ (x : F.Measures). x.h) e,
      ap (λ (x : F.Measures). x.tfm) e,
      scaled_one m.dx.0 n.dx.0 (ap (λ (x : F.Measures). x.dx) e),
      scaled_one m.dy.0 n.dy.0 (ap (λ (x : F.Measures). x.dy) e),
      ap (λ (x : F.Measures). x.hoff) e,
      ap (λ (x : F.Measures). x.voff) e,
    )
    refl
