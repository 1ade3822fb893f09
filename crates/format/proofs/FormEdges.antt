-- Where only one form holds (01, What packing chooses): dx past 2³¹ in extended only; w or h of 65,536, and a dx that is negative or not whole, or a dy, in long only. Assumes nothing.
use Prim.Native.Nat.{ℕ, ◌+◌, ◌*◌, ◌/◌, ◌%◌, ◌^◌, ◌≤◌, ◌<◌}
use mathlib.Core.Path.{◌≡◌, refl, sym, ◌∙◌, subst}
use mathlib.Core.Logic.{◌⊎◌, inl, inr}
use mathlib.Core.List.{List, []}
use mathlib.Core.Bool.{Bool, true, false, ◌&&◌}
use native.Mathlib.Omega.{arith}
use lib.Dec.{ltb}
use lib.IntN.{pos, negsuc, nat_abs}
use lib.ListN.{length}
use borrow.Author.Tests.{ltb-true}
use Rattle.format.specs.Numbers.{unsigned, signed, held, all_held}
use Rattle.format.specs.Measures.{Pixels, pixels, Scaled, scaled, to_scaled, whole_pixels, same_scaled, Measures}
use Rattle.format.specs.Pieces.{Form, short, extended, long, kinds, fixed, length_top, Packet, values, dx_of, dy_of}
use Rattle.format.specs.Choice.{escapement_in, in_form, holds}
use Rattle.format.proofs.Tests.{and_true}
use Rattle.format.proofs.FormLaws.{values_for, holds_for, same_is}

-- dm, w and h are below top.
abbrev Below : ℕ → Pixels → Packet → Type 0
Below top (pixels dm) p = (dm < top) × (p.w < top) × (p.h < top)

no_room_lem : (top : ℕ) (e : Pixels) (p : Packet) → top ≤ 65536 → (65536 ≤ p.w) ⊎ (65536 ≤ p.h) → Below top e p → ⊥
no_room_lem top (pixels dm) p l (inl o) b = omega (arith, b.1)
no_room_lem top (pixels dm) p l (inr o) b = omega (arith, b.2)

-- Whole pixels say no negative escapement, and none that is broken.
not_negative : (d : Scaled) (n : ℕ) → d ≡ scaled (negsuc n) → to_scaled (whole_pixels d) ≡ d → ⊥
unfolding whole_pixels to_scaled
not_negative (scaled (pos x)) n e z = let y : ◌≡◌ {A = ℕ} 0 1 = cc in omega arith
not_negative (scaled (negsuc x)) n e z = let y : ◌≡◌ {A = ℕ} 0 1 = cc in omega arith

not_broken : (d : Scaled) (n : ℕ) → d ≡ scaled (pos n) → to_scaled (whole_pixels d) ≡ d → n % 65536 ≡ 0
unfolding whole_pixels to_scaled
not_broken (scaled (pos x)) n e z = let u : x ≡ n = cc in let v : x / 65536 * 65536 ≡ x = cc in omega arith
not_broken (scaled (negsuc x)) n e z = absurd (let y : ◌≡◌ {A = ℕ} 0 1 = cc in omega arith)

-- Those of an escapement from 2³¹ on are no short packet's dm.
not_short : (d : Scaled) (n : ℕ) (p : Packet) → d ≡ scaled (pos n) → 2147483648 ≤ n → Below 256 (whole_pixels d) p → ⊥
unfolding whole_pixels
not_short (scaled (pos x)) n p e l b = let u : x ≡ n = cc in omega (arith, b.0)
not_short (scaled (negsuc x)) n p e l b = let y : ◌≡◌ {A = ℕ} 0 1 = cc in omega arith

short_below : (e : Pixels) (p : Packet) (n : ℕ) → all_held (kinds short) (values short e p n) ≡ true → Below 256 e p
unfolding all_held held
short_below (pixels dm) p n t =
    let code = and_true (held (unsigned 1) (pos (n % 256))) _ t in
    let tfm = and_true (held (unsigned 1) (pos p.code)) _ code.1 in
    let d = and_true (held (unsigned 3) p.tfm) _ tfm.1 in
    let w = and_true (held (unsigned 1) (pos dm)) _ d.1 in
    let h = and_true (held (unsigned 1) (pos p.w)) _ w.1 in
    let hoff = and_true (held (unsigned 1) (pos p.h)) _ h.1 in
    (ltb-true dm (256 ^ 1) w.0, ltb-true p.w (256 ^ 1) h.0, ltb-true p.h (256 ^ 1) hoff.0)

extended_below : (e : Pixels) (p : Packet) (n : ℕ) → all_held (kinds extended) (values extended e p n) ≡ true → Below 65536 e p
unfolding all_held held
extended_below (pixels dm) p n t =
    let code = and_true (held (unsigned 2) (pos (n % 65536))) _ t in
    let tfm = and_true (held (unsigned 1) (pos p.code)) _ code.1 in
    let d = and_true (held (unsigned 3) p.tfm) _ tfm.1 in
    let w = and_true (held (unsigned 2) (pos dm)) _ d.1 in
    let h = and_true (held (unsigned 2) (pos p.w)) _ w.1 in
    let hoff = and_true (held (unsigned 2) (pos p.h)) _ h.1 in
    (ltb-true dm (256 ^ 2) w.0, ltb-true p.w (256 ^ 2) h.0, ltb-true p.h (256 ^ 2) hoff.0)

-- A long packet's dx, if it is not negative, is below 2³¹.
long_below : (x : ℕ) (dy : Scaled) (p : Packet) (n : ℕ) → all_held (kinds long) (values long (scaled (pos x), dy) p n) ≡ true → x < 2147483648
unfolding all_held held
long_below x (scaled y) p n t =
    let code = and_true (held (signed 4) (pos n)) _ t in
    let tfm = and_true (held (signed 4) (pos p.code)) _ code.1 in
    let d = and_true (held (signed 4) p.tfm) _ tfm.1 in
    let y = and_true (held (signed 4) (pos x)) _ d.1 in
    omega (arith, ltb-true (2 * x) (256 ^ 4) y.0)

module _ (f : ℕ) (black : Bool) (m : Measures) (raster : List ℕ) where
  -- A form that holds says the escapement, and holds its fields.
  parts : (k : Form) → holds m (in_form f black m raster k) ≡ true
      → (dx_of k (escapement_in k m) ≡ m.dx) × (dy_of k (escapement_in k m) ≡ m.dy) × (all_held (kinds k) (values_for m (length raster) k) ≡ true)
  parts k t =
      let a = and_true (same_scaled (dx_of k (escapement_in k m)) m.dx && same_scaled (dy_of k (escapement_in k m)) m.dy) _ (sym (holds_for f black m raster k) ∙ t) in
      let b = and_true (same_scaled (dx_of k (escapement_in k m)) m.dx) _ a.0 in
      let c = and_true (ltb (fixed k + length raster) (length_top k)) _ a.1 in
      (same_is _ _ b.0, same_is _ _ b.1, c.1)

  -- The fields of a form k.
  abbrev of : Form → Packet
  of k = in_form 0 false m [] k

  -- Past 2³¹, extended.
  pub past_extended : (n : ℕ) → m.dx ≡ scaled (pos n) → 2147483648 ≤ n → (k : Form) → holds m (in_form f black m raster k) ≡ true → k ≡ extended
  past_extended n e l short t = absurd (not_short m.dx n (of short) e l (short_below (whole_pixels m.dx) (of short) (8 + length raster) (parts short t).2))
  past_extended n e l extended t = refl
  past_extended n e l long t =
      let h = subst (λ (x : Scaled). all_held (kinds long) (values long (x, m.dy) (of long) (28 + length raster)) ≡ true) e (parts long t).2 in
      absurd (omega (arith, long_below n m.dy (of long) (28 + length raster) h))

  -- Wide or high, long.
  pub wide_long : (65536 ≤ nat_abs m.w) ⊎ (65536 ≤ nat_abs m.h) → (k : Form) → holds m (in_form f black m raster k) ≡ true → k ≡ long
  unfolding in_form
  wide_long o short t = absurd (no_room_lem 256 (whole_pixels m.dx) (of short) (omega arith) o (short_below (whole_pixels m.dx) (of short) (8 + length raster) (parts short t).2))
  wide_long o extended t = absurd (no_room_lem 65536 (whole_pixels m.dx) (of extended) (omega arith) o (extended_below (whole_pixels m.dx) (of extended) (13 + length raster) (parts extended t).2))
  wide_long o long t = refl

  -- Negative, long.
  pub negative_long : (n : ℕ) → m.dx ≡ scaled (negsuc n) → (k : Form) → holds m (in_form f black m raster k) ≡ true → k ≡ long
  negative_long n e short t = absurd (not_negative m.dx n e (parts short t).0)
  negative_long n e extended t = absurd (not_negative m.dx n e (parts extended t).0)
  negative_long n e long t = refl

  -- Broken, long.
  pub broken_long : (n : ℕ) → m.dx ≡ scaled (pos n) → (n % 65536 ≡ 0 → ⊥) → (k : Form) → holds m (in_form f black m raster k) ≡ true → k ≡ long
  broken_long n e l short t = absurd (l (not_broken m.dx n e (parts short t).0))
  broken_long n e l extended t = absurd (l (not_broken m.dx n e (parts extended t).0))
  broken_long n e l long t = refl

  -- With a dy, long.
  pub down_long : (m.dy ≡ scaled (pos 0) → ⊥) → (k : Form) → holds m (in_form f black m raster k) ≡ true → k ≡ long
  unfolding to_scaled
  down_long l short t = absurd (l (sym (parts short t).1))
  down_long l extended t = absurd (l (sym (parts extended t).1))
  down_long l long t = refl
