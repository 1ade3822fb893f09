-- Laws of a raster of bits, one for each answer: its spare bits are judged by the last byte. Assumes nothing.
use Prim.Native.Nat.{ℕ, suc, ◌+◌, ◌-◌, ◌*◌, ◌/◌, ◌%◌, ◌^◌, ◌≤◌, ◌<◌}
use mathlib.Core.Path.{◌≡◌, refl, sym, ap, ◌∙◌}
use mathlib.Core.Bool.{Bool, true, false}
use mathlib.Core.List.{List, [], ◌∷◌}
use native.Mathlib.Nat.{pow-le-pow_right}
use native.Mathlib.Omega.{arith}
use lib.Dec.{T, eqb}
use lib.ListN.{length, drop, get_or, replicate, drop_of_length-le}
use lib.Seq.{drop-cons}
use borrow.Author.Tests.{le-leb, lt-leb, eq-eqb, ne_eqb}
use Rattle.format.specs.Lists.{all}
use Rattle.format.specs.Refusals.{raster_ends, left_over, ok, ◌>>=◌, need}
use Rattle.format.specs.Rasters.{bits_of, bits, bytes_of_bits}
use Rattle.format.specs.Reading.{bits_read}
use Rattle.format.proofs.Table.{every, at}
use Rattle.format.proofs.BitLaws.{bits_behind}
use Rattle.refusals.specs.Names.{coded}
use Rattle.judge.specs.Judgement.{judged}
use Rattle.std.specs.Prelude.{Ok, Err}

-- A one shifted left comes to a power of 2.
pub shifted : (k : ℕ) → k ≤ 7 → 1 * 2 ^ k % 18446744073709551616 ≡ 2 ^ k
shifted k h = omega (arith, pow-le-pow_right {n = 2} (omega arith) {i = k} {j = 7} h)

-- The low bits of a byte.

agree : Bool → Bool → Bool
agree true b = b
agree false true = false
agree false false = true

agreed : (a b : Bool) → T (agree a b) → a ≡ b
unfolding agree
agreed true true t = refl
agreed true false t = absurd t
agreed false true t = absurd t
agreed false false t = refl

-- A byte's bits from m on are zero exactly if they come to zero,
low_ok : ℕ → ℕ → Bool
low_ok b m = agree (all 0 (drop m (bits_of b))) (eqb (b % 2 ^ (8 - m)) 0)

abbrev lows_ok : ℕ → ℕ → Bool
lows_ok b x = every (λ (m y : ℕ). low_ok b m) 0 (replicate 9 0)

-- by one test of all bytes and all m.
low_rule : (b m : ℕ) → b < 256 → m ≤ 8 → all 0 (drop m (bits_of b)) ≡ eqb (b % 2 ^ (8 - m)) 0
unfolding low_ok agree all bits_of
low_rule b m h l =
    agreed (all 0 (drop m (bits_of b))) (eqb (b % 2 ^ (8 - m)) 0)
    (at (λ (m y : ℕ). low_ok b m) (replicate 9 0) (at lows_ok (replicate 256 0) tt b h) m (omega arith))

-- The spare bits.

-- The last byte holds them.
last_bits_lem : (s : List ℕ) (n k : ℕ) → length s ≡ k → k ≡ (n + 7) / 8 → 1 ≤ n → drop n (bits s) ≡ drop (8 - (8 * k - n)) (bits_of (get_or s (k - 1) 0))
unfolding bits bits_of
last_bits_lem s n k l e p =
    let j = k - 1 in
    let m = 8 - (8 * k - n) in
    let z : n ≡ 8 * j + m = omega arith in
    let y : drop j s ≡ get_or s j 0 ∷ [] = drop-cons s j 0 (omega arith) ∙ ap (λ (t : List ℕ). get_or s j 0 ∷ t) (drop_of_length-le s {i = suc j} (omega arith)) in
    ap (λ (i : ℕ). drop i (bits s)) z ∙ bits_behind j m s (omega arith) ∙ rw y refl

-- The answers.

module _ (s : List ℕ) (n : ℕ) where
  pub bits_few : length s < (n + 7) / 8 → Err (coded raster_ends) ≡ judged (bits_read n (bytes_of_bits n) s)
  unfolding judged bits_read need ◌>>=◌
  bits_few l = rw (lt-leb ((n + 7) / 8) (length s) l) refl

  pub bits_many : (n + 7) / 8 < length s → Err (coded left_over) ≡ judged (bits_read n (bytes_of_bits n) s)
  unfolding judged bits_read need ◌>>=◌
  bits_many l = rw (le-leb ((n + 7) / 8) (length s) (omega arith), lt-leb (length s) ((n + 7) / 8) l) refl

  -- As many bytes as are wanted, of which b is the last; v is how many values the spare bits have.
  module _ (k : ℕ) (l : length s ≡ k) (e : k ≡ (n + 7) / 8) (p : 1 ≤ n) (b : ℕ) (last : b ≡ get_or s (k - 1) 0) (byte : get_or s (k - 1) 0 < 256) (v : ℕ) (is : v ≡ 2 ^ (8 * k - n)) where
    spare : all 0 (drop n (bits s)) ≡ eqb (b % v) 0
    spare =
        let m : 8 - (8 - (8 * k - n)) ≡ 8 * k - n = omega arith in
        ap (all 0) (last_bits_lem s n k l e p) ∙ ap (λ (x : ℕ). all 0 (drop (8 - (8 * k - n)) (bits_of x))) (sym last)
        ∙ low_rule b (8 - (8 * k - n)) (omega arith) (omega arith) ∙ ap (λ (x : ℕ). eqb (b % 2 ^ x) 0) m ∙ ap (λ (x : ℕ). eqb (b % x) 0) (sym is)

    enough : (x : Bool) → eqb (b % v) 0 ≡ x → judged (bits_read n (bytes_of_bits n) s) ≡ judged (need x left_over >>= λ _. ok [])
    unfolding bits_read need ◌>>=◌
    enough x y = rw (le-leb ((n + 7) / 8) (length s) (omega arith), le-leb (length s) ((n + 7) / 8) (omega arith), spare, y) refl

    pub bits_bad : (b % v ≡ 0 → ⊥) → Err (coded left_over) ≡ judged (bits_read n (bytes_of_bits n) s)
    unfolding judged need ◌>>=◌
    bits_bad z = sym (enough false (ne_eqb (b % v) 0 z))

    pub bits_whole : b % v ≡ 0 → Ok tt ≡ judged (bits_read n (bytes_of_bits n) s)
    unfolding judged need ◌>>=◌
    bits_whole z = sym (enough true (eq-eqb (b % v) 0 z))
