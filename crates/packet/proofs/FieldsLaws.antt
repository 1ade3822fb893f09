-- The fields of a packet from the numbers at their places. Assumes nothing.
use Prim.Native.Nat.{ℕ, zero, suc, ◌+◌, ◌*◌, ◌%◌, ◌^◌, ◌≤◌, ◌<◌}
use mathlib.Core.Path.{◌≡◌}
use mathlib.Core.List.{List}
use native.Mathlib.Nat.{mul-le-mul_right}
use native.Mathlib.Omega.{arith}
use lib.ListN.{drop}
use lib.Seq.{drop-drop}
use mir.Syntax.{w64}
use mir.Val.{Fits}
use Rattle.format.specs.Numbers.{signed, twos}
use Rattle.format.specs.Pieces.{long}
use Rattle.format.specs.Decoding.{number, value_of, read_fields}
use Rattle.format.proofs.FieldLaws.{twos_value}
use Rattle.fields.specs.Field.{NumberAt}
use Rattle.fields.proofs.Rebuilt.{values_most}
use Rattle.packet.specs.Outlines.{fields_at, narrow_form}

-- The upper part of a length, u, and the whole length, of a field of at most two bytes.
upper_most : (u m all : ℕ) → u < 256 → all ≡ 256 ^ m → m ≤ 2 → u * all ≤ 16711680
upper_most u m all h e l =
    let p = mul-le-mul_right {m = u} {n = 255} all (omega arith) in
    omega (arith, values_most m 2 l)

length_most : (s : List ℕ) (at u m all n : ℕ) → u < 256 → all ≡ 256 ^ m → m ≤ 2 → NumberAt s at m n → u * all + n < 16777216
length_most s at u m all n h e l x = omega (arith, upper_most u m all h e l, values_most m 2 l)

pub upper_fits : (u m all : ℕ) → u < 256 → all ≡ 256 ^ m → m ≤ 2 → Fits w64 (u * all)
upper_fits u m all h e l = omega (arith, upper_most u m all h e l)

pub length_fits : (s : List ℕ) (at u m all n : ℕ) → u < 256 → all ≡ 256 ^ m → m ≤ 2 → NumberAt s at m n → Fits w64 (u * all + n)
length_fits s at u m all n h e l x = omega (arith, length_most s at u m all n h e l x)

-- The fields of the first two forms, of m bytes.
pub narrow_is : (s : List ℕ) (at b m u all n c w h : ℕ) → 1 ≤ m → m ≤ 2 → u ≡ b % 4 → all ≡ 256 ^ m
    → NumberAt s at m n → NumberAt s (at + m) 1 c → NumberAt s (at + m + 4 + m) m w → NumberAt s (at + m + 4 + m + m) m h
    → (record { length = u * all + n; code = c; w = w; h = h } ≡ fields_at (narrow_form m) b (drop at s)) × (u * all + n < 2147483648)
unfolding fields_at read_fields value_of twos
narrow_is s at b m u all n c w h l k eu e xn xc xw xh =
    (go m l k e xn.is xc.is xw.is xh.is, omega (arith, length_most s at u m all n (omega arith) e k xn))
  where
    go : (m : ℕ) → 1 ≤ m → m ≤ 2 → all ≡ 256 ^ m → n ≡ number m (drop at s) → c ≡ number 1 (drop (at + m) s)
        → w ≡ number m (drop (at + m + 4 + m) s) → h ≡ number m (drop (at + m + 4 + m + m) s)
        → record { length = u * all + n; code = c; w = w; h = h } ≡ fields_at (narrow_form m) b (drop at s)
    go zero l k e en ec ew eh = absurd (omega arith)
    go (suc zero) l k e en ec ew eh = let p : at + 1 + 4 ≡ at + 1 + 1 + 3 = omega arith in simp (drop-drop, eu, e, en, ec, ew, eh, p)
    go (suc (suc zero)) l k e en ec ew eh = let p : at + 2 + 4 ≡ at + 2 + 1 + 3 = omega arith in simp (drop-drop, eu, e, en, ec, ew, eh, p)
    go (suc (suc (suc m))) l k e en ec ew eh = absurd (omega arith)

-- The fields of the long form.
pub long_is : (s : List ℕ) (at n c w h : ℕ) → NumberAt s at 4 n → NumberAt s (at + 4) 4 c → NumberAt s (at + 20) 4 w → NumberAt s (at + 24) 4 h
    → record { length = n; code = c; w = w; h = h } ≡ fields_at long 0 (drop at s)
unfolding fields_at read_fields
long_is s at n c w h xn xc xw xh =
    let un = (twos_value (signed 4) n xn.small).0 in
    let uc = (twos_value (signed 4) c xc.small).0 in
    let uw = (twos_value (signed 4) w xw.small).0 in
    let uh = (twos_value (signed 4) h xh.small).0 in
    let p : at + 20 ≡ at + 4 + 4 + 4 + 4 + 4 = omega arith in
    let q : at + 24 ≡ at + 4 + 4 + 4 + 4 + 4 + 4 = omega arith in
    simp (drop-drop, ← xn.is, ← xc.is, ← rw p at xw.is, ← rw q at xh.is, un, uc, uw, uh)
