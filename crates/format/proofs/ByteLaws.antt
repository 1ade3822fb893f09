-- What packing writes is bytes. Assumes nothing.
use Prim.Native.Nat.{ℕ, zero, suc, ◌+◌, ◌*◌, ◌^◌, ◌≤◌, ◌<◌}
use mathlib.Core.Path.{◌≡◌}
use mathlib.Core.List.{List, [], ◌∷◌, ◌++◌}
use mathlib.Core.Bool.{true}
use native.Mathlib.Nat.{pow-succ', mul-le-mul_right}
use native.Mathlib.Omega.{arith}
use lib.Dec.{eqb, ltb}
use lib.ListN.{drop, length, replicate}
use borrow.Author.Tests.{ltb-true, eqb-false}
use Rattle.format.specs.Numbers.{Bytes, bytes, Kind, width, twos, Values, all_held, field_bytes, held}
use Rattle.format.specs.Pieces.{Preamble, preamble_kinds, preamble_values, preamble_bytes, PreambleOk, kinds, Packet, fields, PacketOk, packet, bytes_of}
use Rattle.format.specs.Rasters.{Item, writings, bytes_of_bits}
use Rattle.format.specs.Choice.{halves, byte_of, bit_bytes, raster_of}
use Rattle.format.specs.Packing.{all_pixels, set_alone}
use Rattle.format.proofs.Tests.{test, and_true}
use Rattle.format.proofs.PackedLaws.{Nybbles}
use Rattle.format.proofs.FieldLaws.{bytes_are, value_twos}
use Rattle.format.proofs.PieceLaws.{fits_fields, flag_below}
use Rattle.format.proofs.PixelLaws.{pixels_cut}
use Rattle.format.proofs.CountTheorems.{writings_nybbles}

bytes-join : (s t : List ℕ) → Bytes s → Bytes t → Bytes (s ++ t)
bytes-join [] t h k = k
bytes-join (x ∷ s) t h k = (h.0, bytes-join s t h.1 k)

-- Fields.

fields_are : (ks : List Kind) (v : Values ks) → all_held ks v ≡ true → Bytes (field_bytes ks v)
unfolding field_bytes all_held
fields_are [] v e = tt
fields_are (k ∷ ks) v e =
    let t = and_true (held k v.0) (all_held ks v.1) e in
    bytes-join (bytes (width k) (twos (width k) v.0)) (field_bytes ks v.1)
    (bytes_are (width k) (twos (width k) v.0) (value_twos k v.0 t.0).1)
    (fields_are ks v.1 t.1)

-- Rasters.

halves_are : (xs : List ℕ) → Nybbles xs → Bytes (halves xs)
unfolding halves
halves_are [] n = tt
halves_are (a ∷ []) n = let l : a < 16 = n.0 in (omega arith, tt)
halves_are (a ∷ b ∷ xs) n =
    let l : a < 16 = n.0 in
    let k : b < 16 = n.1.0 in
    (omega arith, halves_are xs n.1.1)

-- With k more pixels a number below v + 1 comes to less than (v + 1) × 2^k.
byte_of_below : (v k : ℕ) (xs : List ℕ) → all_pixels xs ≡ true → byte_of v k xs < suc v * 2 ^ k
unfolding byte_of all_pixels
byte_of_below v zero xs e = omega arith
byte_of_below v (suc k) [] e =
    let i = byte_of_below (2 * v) k [] e in
    let l = mul-le-mul_right {m = suc (2 * v)} {n = 2 * suc v} (2 ^ k) (omega arith) in
    rw (pow-succ' 2 k) (omega arith)
byte_of_below v (suc k) (x ∷ xs) e =
    let t = and_true (ltb x 2) (all_pixels xs) e in
    let b = ltb-true x 2 t.0 in
    let i = byte_of_below (2 * v + x) k xs t.1 in
    let l = mul-le-mul_right {m = suc (2 * v + x)} {n = 2 * suc v} (2 ^ k) (omega arith) in
    rw (pow-succ' 2 k) (omega arith)

bit_bytes_are : (n : ℕ) (xs : List ℕ) → all_pixels xs ≡ true → Bytes (bit_bytes n xs)
unfolding bit_bytes
bit_bytes_are zero xs e = tt
bit_bytes_are (suc n) xs e = (byte_of_below 0 8 xs e, bit_bytes_are n (drop 8 xs) (pixels_cut 8 xs e).1)

pub raster_are : (f : ℕ) (is : List Item) (b : List ℕ) → f ≤ 14 → all_pixels b ≡ true → Bytes (raster_of f is b)
unfolding raster_of
raster_are f is b l e =
    test (eqb f 14) (λ t. rw t (bit_bytes_are (bytes_of_bits (length b)) b e))
    (λ t. rw t (let z : f ≡ 14 → ⊥ = eqb-false f 14 t in halves_are (writings f is) (writings_nybbles f is (omega (arith, z)))))

-- A packet, and a font.

pub packet_are : (p : Packet) → PacketOk p → Bytes p.raster → Bytes (bytes_of (packet p))
unfolding bytes_of
packet_are p o r =
    let b = flag_below p o in
    (omega arith, bytes-join (field_bytes (kinds p.form) (fields p)) p.raster (fields_are (kinds p.form) (fields p) (fits_fields p o)) r)

pub alone_are : (a : Preamble) (s : List ℕ) (pad : ℕ) → PreambleOk a → Bytes a.comment → Bytes s → Bytes (set_alone a s pad)
unfolding set_alone preamble_bytes
alone_are a s pad o c b =
    let l = o.comment in
    bytes-join (preamble_bytes a) (s ++ 245 ∷ replicate pad 246)
    (omega arith, (omega arith, (l, bytes-join a.comment (field_bytes preamble_kinds (preamble_values a)) c (fields_are preamble_kinds (preamble_values a) o.fields))))
    (bytes-join s (245 ∷ replicate pad 246) b (omega arith, padding pad))
  where
    padding : (k : ℕ) → Bytes (replicate k 246)
    padding zero = tt
    padding (suc k) = (omega arith, padding k)
