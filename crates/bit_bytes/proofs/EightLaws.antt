-- Pixels as bits, eight to a byte. Assumes nothing.
use Prim.Native.Nat.{ℕ, zero, suc, ◌+◌, ◌-◌, ◌*◌, ◌^◌, ◌≤◌, ◌<◌}
use mathlib.Core.Path.{◌≡◌, refl, sym, ap, ◌∙◌}
use mathlib.Core.List.{List, [], ◌∷◌, ◌++◌, append_assoc}
use mathlib.Core.Bool.{true}
use native.Mathlib.Nat.{mul-le-mul_right, mul_assoc}
use native.Mathlib.Numerals.{add-one}
use native.Mathlib.Omega.{arith}
use lib.Dec.{ltb}
use lib.ListN.{length, take, drop, get_or, set, length-set}
use lib.Seq.{sets, sets-eq, drop-drop}
use borrow.Author.Tests.{ltb-true}
use Rattle.format.specs.Rasters.{bytes_of_bits}
use Rattle.format.specs.Choice.{byte_of, bit_bytes}
use Rattle.format.specs.Packing.{all_pixels}
use Rattle.format.proofs.Tests.{and_true}
use Rattle.format.proofs.HalfLaws.{length-bit_bytes}
use Rattle.bit_bytes.specs.Pixels.{PixelAt}

-- One pixel.

pixel_small : (b : List ℕ) (i : ℕ) → all_pixels b ≡ true → get_or b i 0 < 2
unfolding all_pixels
pixel_small [] i h = omega arith
pixel_small (x ∷ b) zero h = ltb-true x 2 (and_true (ltb x 2) (all_pixels b) h).0
pixel_small (x ∷ b) (suc i) h = pixel_small b i (and_true (ltb x 2) (all_pixels b) h).1

-- A pixel of the bitmap.
pub pixel_in : (b : List ℕ) (i r : ℕ) → all_pixels b ≡ true → r ≡ get_or b i 0 → PixelAt b i r
pixel_in b i r h e = record { is = e; small = omega (arith, pixel_small b i h) }

-- One byte.

byte_nil : (v k : ℕ) → byte_of v (suc k) [] ≡ byte_of (2 * v + 0) k []
unfolding byte_of
byte_nil v k = let e : 2 * v ≡ 2 * v + 0 = omega arith in ap (λ (x : ℕ). byte_of x k []) e

byte_cons : (v k x : ℕ) (xs : List ℕ) → byte_of v (suc k) (x ∷ xs) ≡ byte_of (2 * v + x) k xs
unfolding byte_of
byte_cons v k x xs = refl

-- The pixel at j is taken.
byte_step : (b : List ℕ) (v k j : ℕ) → byte_of v (suc k) (drop j b) ≡ byte_of (2 * v + get_or b j 0) k (drop (suc j) b)
byte_step [] v k zero = byte_nil v k
byte_step [] v k (suc j) = byte_nil v k
byte_step (x ∷ b) v k zero = byte_cons v k x b
byte_step (x ∷ b) v k (suc j) = byte_step b v k j

-- Two pixels as a number, and four such numbers as a byte.
pub two_is : (b : List ℕ) (i : ℕ) {x y : ℕ} → all_pixels b ≡ true → x ≡ get_or b i 0 → y ≡ get_or b (i + 1) 0 → (2 * x + y ≡ 2 * get_or b i 0 + get_or b (i + 1) 0) × (2 * x + y < 4)
two_is b i h p q = (omega arith, omega (arith, pixel_small b i h, pixel_small b (i + 1) h))

byte_two : (b : List ℕ) (v k j to x : ℕ) → to ≡ j + 2 → x ≡ 2 * get_or b j 0 + get_or b (j + 1) 0 → byte_of v (suc (suc k)) (drop j b) ≡ byte_of (4 * v + x) k (drop to b)
byte_two b v k j to x t e =
    let p : to ≡ suc (suc j) = omega arith in
    let u : 2 * (2 * v + get_or b j 0) + get_or b (suc j) 0 ≡ 4 * v + x = omega (arith, ap (λ (i : ℕ). get_or b i 0) (add-one j)) in
    byte_step b v (suc k) j ∙ byte_step b (2 * v + get_or b j 0) k (suc j) ∙ rw (u, p) refl

pub whole_is : (b : List ℕ) (i x y z t : ℕ) → (x ≡ 2 * get_or b i 0 + get_or b (i + 1) 0) × (x < 4) → (y ≡ 2 * get_or b (i + 2) 0 + get_or b (i + 2 + 1) 0) × (y < 4)
    → (z ≡ 2 * get_or b (i + 4) 0 + get_or b (i + 4 + 1) 0) × (z < 4) → (t ≡ 2 * get_or b (i + 6) 0 + get_or b (i + 6 + 1) 0) × (t < 4)
    → (64 * x + 16 * y + 4 * z + t ≡ byte_of 0 8 (drop i b)) × (64 * x + 16 * y + 4 * z + t < 256)
unfolding byte_of
whole_is b i x y z t p q r s =
    let n : 4 * (4 * (4 * (4 * 0 + x) + y) + z) + t ≡ 64 * x + 16 * y + 4 * z + t = omega arith in (
      sym
          (byte_two b 0 6 i (i + 2) x refl p.0 ∙ byte_two b (4 * 0 + x) 4 (i + 2) (i + 4) y (omega arith) q.0 ∙ byte_two b (4 * (4 * 0 + x) + y) 2 (i + 4) (i + 6) z (omega arith) r.0
          ∙ byte_two b (4 * (4 * (4 * 0 + x) + y) + z) 0 (i + 6) (i + 8) t (omega arith) s.0 ∙ n),
      omega (arith, p.1, q.1, r.1, s.1),
    )

-- The pixels from i to j came to v, and k more are to be taken.
pub record Eight (b : List ℕ) (i v j k : ℕ) : Type 0 where
  pub few : j + k ≡ i + 8
  pub room : suc v * 2 ^ k ≤ 256
  pub is : byte_of 0 8 (drop i b) ≡ byte_of v k (drop j b)

pow_pos : (k : ℕ) → 1 ≤ 2 ^ k
pow_pos zero = omega arith
pow_pos (suc k) = let h = pow_pos k in omega arith

pub eight_small : {b : List ℕ} {i v j k : ℕ} → Eight b i v j k → v < 256
eight_small {v = v} {k = k} e =
    let h = at_least_lem (suc v) (2 ^ k) (pow_pos k) in
    omega (arith, e.room)
  where
    at_least_lem : (a n : ℕ) → 1 ≤ n → a ≤ a * n
    at_least_lem a (suc n) h = omega arith
    at_least_lem a zero h = absurd (omega arith)

pub eight_more : {b : List ℕ} {i v j k r : ℕ} (n : ℕ) → Eight b i v j k → k ≡ suc n → PixelAt b j r → Eight b i (2 * v + r) (j + 1) n
eight_more {b} {i} {v} {j} {k} {r} n e q p =
    let m = mul-le-mul_right {m = suc (2 * v + r)} {n = suc v * 2} (2 ^ n) (omega (arith, p.small)) in
    let t : 2 ^ suc n ≡ 2 * 2 ^ n = omega arith in
    let u : suc v * 2 ^ suc n ≡ suc v * 2 * 2 ^ n = ap (λ (x : ℕ). suc v * x) t ∙ sym (mul_assoc (suc v) 2 (2 ^ n)) in
    let h : suc v * 2 ^ suc n ≤ 256 = rw (← q) e.room in
    record {
      few = omega (arith, e.few);
      room = omega arith;
      is = e.is ∙ ap (λ (x : ℕ). byte_of v x (drop j b)) q ∙ byte_step b v n j ∙ rw (add-one j, p.is) refl;
    }

pub eight_end : {b : List ℕ} {i v j k : ℕ} → Eight b i v j k → k ≡ 0 → (v ≡ byte_of 0 8 (drop i b)) × (v < 256)
unfolding byte_of
eight_end e z = (sym (e.is ∙ rw z refl), eight_small e)

-- All bytes.

-- The bytes of the pixels from i on.
abbrev bytes_from : List ℕ → ℕ → List ℕ
bytes_from b i = bit_bytes (bytes_of_bits (length b - i)) (drop i b)

-- Those of the pixels from i on are to be written, from the place `to` on.
pub record Bits (b l : List ℕ) (at : ℕ) (d : List ℕ) (i to : ℕ) : Type 0 where
  pub place : to + bytes_of_bits (length b - i) ≡ at + bytes_of_bits (length b)
  pub room : at + bytes_of_bits (length b) ≤ length l
  pub same : length d ≡ length l
  pub is : sets l at (bit_bytes (bytes_of_bits (length b)) b) ≡ sets d to (bytes_from b i)

bytes_step : (b : List ℕ) (i : ℕ) → i < length b → bytes_from b i ≡ byte_of 0 8 (drop i b) ∷ bytes_from b (i + 8)
unfolding bit_bytes
bytes_step b i h =
    let e : bytes_of_bits (length b - i) ≡ suc (bytes_of_bits (length b - (i + 8))) = omega arith in
    rw (e, drop-drop 8 i b) refl

pub bits_more : {b l : List ℕ} {at : ℕ} {d : List ℕ} {i to v : ℕ} (j next : ℕ) → Bits b l at d i to → i < length b → v ≡ byte_of 0 8 (drop i b) → j ≡ i + 8 → next ≡ to + 1 → Bits b l at (set d to v) j next
bits_more {b} {d = d} {i = i} {to = to} {v = v} j next s h e p q =
    rw (p, q) record {
      place = omega (arith, s.place);
      room = s.room;
      same = length-set d to v ∙ s.same;
      is = s.is ∙ ap (sets d to) (bytes_step b i h) ∙ rw (add-one to, e) refl;
    }

-- All are written.
pub bits_is : {b l : List ℕ} {at : ℕ} {d : List ℕ} {i to : ℕ} → Bits b l at d i to → length b ≤ i → d ≡ take at l ++ (bit_bytes (bytes_of_bits (length b)) b ++ drop to l)
unfolding bit_bytes
bits_is {b} {l} {at} {d} {i} {to} s h =
    let xs = bit_bytes (bytes_of_bits (length b)) b in
    let z : bytes_of_bits (length b - i) ≡ 0 = omega arith in
    let q : bytes_from b i ≡ [] = rw z refl in
    let n = length-bit_bytes (bytes_of_bits (length b)) b in
    let e : at + length xs ≡ to = omega (arith, s.place) in
    sym (s.is ∙ ap (sets d to) q) ∙ sets-eq xs l at (omega (arith, s.room)) ∙ append_assoc (take at l) xs (drop (at + length xs) l) ∙ rw e refl
