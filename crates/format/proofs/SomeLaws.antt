-- Where some packet that 01 allows says the measures, a form holds them for every raster that packing writes. Assumes nothing.
use Prim.Native.Nat.{ℕ, suc, ◌+◌, ◌*◌, ◌/◌, ◌%◌, ◌^◌, ◌≤◌}
use mathlib.Core.Path.{◌≡◌, refl, subst}
use mathlib.Core.List.{List}
use mathlib.Core.Bool.{Bool, true}
use native.Mathlib.Omega.{arith}
use lib.IntN.{ℤ, pos, negsuc}
use lib.ListN.{length}
use borrow.Author.Tests.{ltb-true, leb-true, lt-ltb, le-leb, eq-eqb}
use Rattle.format.specs.Numbers.{unsigned, signed, held, all_held}
use Rattle.format.specs.Measures.{pixels, Scaled, scaled, to_scaled, whole_pixels, same_scaled, Measures}
use Rattle.format.specs.Pieces.{Form, short, extended, long, Escapement, kinds, Packet, values, packet_length, PacketOk, dx_of, dy_of, measures}
use Rattle.format.specs.Choice.{in_form, holds}
use Rattle.format.proofs.Tests.{and_true, true_and}
use Rattle.format.proofs.PieceLaws.{fits_fields}
use Rattle.format.proofs.FormLaws.{holds_for}

-- Two bytes hold what one holds.

wider : (n : ℕ) → held (unsigned 1) (pos n) ≡ true → held (unsigned 2) (pos n) ≡ true
unfolding held
wider n h = lt-ltb n (256 ^ 2) (omega (arith, ltb-true n (256 ^ 1) h))

wider_signed : (z : ℤ) → held (signed 1) z ≡ true → held (signed 2) z ≡ true
unfolding held
wider_signed (pos n) h = lt-ltb (2 * n) (256 ^ 2) (omega (arith, ltb-true (2 * n) (256 ^ 1) h))
wider_signed (negsuc n) h = le-leb (2 * suc n) (256 ^ 2) (omega (arith, leb-true (2 * suc n) (256 ^ 1) h))

-- The extended form's field holds its part of every length.
any_length : (n : ℕ) → held (unsigned 2) (pos (n % 65536)) ≡ true
unfolding held
any_length n = lt-ltb (n % 65536) (256 ^ 2) (omega arith)

same_self : (s : Scaled) → same_scaled s s ≡ true
unfolding same_scaled
same_self (scaled (pos n)) = eq-eqb n n refl
same_self (scaled (negsuc n)) = eq-eqb n n refl

-- The whole pixels of an escapement are the only ones that say it.
pub whole_pixels_lem : (n : ℕ) → whole_pixels (to_scaled (pixels n)) ≡ pixels n
unfolding whole_pixels to_scaled
whole_pixels_lem n = let z : n * 65536 / 65536 ≡ n = omega arith in rw z refl

module _ (f : ℕ) (black : Bool) (raster : List ℕ) (few : length raster ≤ 8192) (p : Packet) where
  -- The measures that it would say with the escapement e.
  abbrev with : (k : Form) → Escapement k → Measures
  with k e = record { code = pos p.code; w = pos p.w; h = pos p.h; tfm = p.tfm; dx = dx_of k e; dy = dy_of k e; hoff = p.hoff; voff = p.voff }

  in_extended : (dm n : ℕ) → all_held (kinds extended) (values extended (pixels dm) p n) ≡ true
      → holds (with extended (pixels dm)) (in_form f black (with extended (pixels dm)) raster extended) ≡ true
  unfolding all_held in_form
  in_extended dm n h =
      rw (holds_for f black (with extended (pixels dm)) raster extended, whole_pixels_lem dm, same_self (to_scaled (pixels dm)), same_self (to_scaled (pixels 0)))
      (true_and (lt-ltb (13 + length raster) (3 * 65536) (omega arith)) (true_and (any_length (13 + length raster)) (and_true (held (unsigned 2) (pos (n % 65536))) _ h).1))

  -- What the short form says the extended form holds.
  short_wider : (dm n : ℕ) → all_held (kinds short) (values short (pixels dm) p n) ≡ true → all_held (kinds extended) (values extended (pixels dm) p n) ≡ true
  unfolding all_held
  short_wider dm n h =
      let length = and_true (held (unsigned 1) (pos (n % 256))) _ h in
      let code = and_true (held (unsigned 1) (pos p.code)) _ length.1 in
      let tfm = and_true (held (unsigned 3) p.tfm) _ code.1 in
      let d = and_true (held (unsigned 1) (pos dm)) _ tfm.1 in
      let w = and_true (held (unsigned 1) (pos p.w)) _ d.1 in
      let h = and_true (held (unsigned 1) (pos p.h)) _ w.1 in
      let hoff = and_true (held (signed 1) p.hoff) _ h.1 in
      let voff = and_true (held (signed 1) p.voff) _ hoff.1 in
      true_and (any_length n) (true_and code.0 (true_and tfm.0 (true_and (wider dm d.0) (true_and (wider p.w w.0) (true_and (wider p.h h.0)
      (true_and (wider_signed p.hoff hoff.0) (true_and (wider_signed p.voff voff.0) refl)))))))

  in_long : (dx dy : ℤ) (n : ℕ) → all_held (kinds long) (values long (scaled dx, scaled dy) p n) ≡ true
      → holds (with long (scaled dx, scaled dy)) (in_form f black (with long (scaled dx, scaled dy)) raster long) ≡ true
  unfolding all_held held in_form
  in_long dx dy n h =
      rw (holds_for f black (with long (scaled dx, scaled dy)) raster long, same_self (scaled dx), same_self (scaled dy))
      (true_and (lt-ltb (28 + length raster) 2147483648 (omega arith)) (true_and (lt-ltb (2 * (28 + length raster)) (256 ^ 4) (omega arith)) (and_true (held (signed 4) (pos n)) _ h).1))

  -- A form that holds what a packet says.
  held_in : (k : Form) (e : Escapement k) (n : ℕ) → all_held (kinds k) (values k e p n) ≡ true → (j : Form) × (holds (with k e) (in_form f black (with k e) raster j) ≡ true)
  held_in short (pixels dm) n h = (extended, in_extended dm n (short_wider dm n h))
  held_in extended (pixels dm) n h = (extended, in_extended dm n h)
  held_in long (scaled dx, scaled dy) n h = (long, in_long dx dy n h)

-- Where a packet that 01 allows says the measures, some form holds them for every raster of at most 8,192 bytes.
pub some_form : (m : Measures) (p : Packet) → PacketOk p → measures p ≡ m → (f : ℕ) (black : Bool) (raster : List ℕ) → length raster ≤ 8192 → (k : Form) × (holds m (in_form f black m raster k) ≡ true)
unfolding measures
some_form m p o e f black raster few =
    subst (λ (x : Measures). (k : Form) × (holds x (in_form f black x raster k) ≡ true)) e
    (held_in f black raster few p p.form p.escapement (packet_length p) (fits_fields p o))
