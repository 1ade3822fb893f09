-- Laws of bits that are drawn: those of byte i stand at 8 i, so what is put there goes on with the picture. Assumes nothing.
use Prim.Native.Nat.{ℕ, suc, ◌+◌, ◌*◌, ◌≤◌, ◌<◌}
use mathlib.Core.Path.{◌≡◌, refl, sym, ap, ◌∙◌}
use mathlib.Core.List.{List, ◌++◌}
use native.Mathlib.Omega.{arith}
use lib.ListN.{length, take, drop, get_or}
use lib.Seq.{paste, length-take-le, take-append-le, take-add, take_at, drop_at, drop-cons, drop-drop}
use Rattle.format.specs.Rasters.{bits_of, bits}
use Rattle.format.proofs.BitLaws.{length-bits, bits_behind}

length_eight : (b : ℕ) → length (bits_of b) ≡ 8
unfolding bits_of
length_eight b = refl

-- The bits from byte i on.
bits_from : (i : ℕ) (s : List ℕ) → i < length s → drop (8 * i) (bits s) ≡ bits_of (get_or s i 0) ++ bits (drop (suc i) s)
unfolding bits
bits_from i s h =
    let e : 8 * i ≡ 8 * i + 0 = omega arith in
    ap (λ (k : ℕ). drop k (bits s)) e ∙ bits_behind i 0 s (omega arith) ∙ ap bits (drop-cons s i 0 h)

-- The buffer d with the first n bits of s.
abbrev pub upto : List ℕ → List ℕ → ℕ → List ℕ
upto s d n = take n (bits s) ++ drop n d

pub upto_end : (s d₀ : List ℕ) {d : List ℕ} (k n : ℕ) → d ≡ upto s d₀ k → k ≡ n → d ≡ upto s d₀ n
upto_end s d₀ k n p e = p ∙ ap (upto s d₀) e

-- k bits more.
pub upto_more : (s d₀ d d' e : List ℕ) (i k at n : ℕ) → i < length s → k ≤ 8 → d ≡ upto s d₀ (8 * i) → e ≡ bits_of (get_or s i 0) → at ≡ 8 * i → n ≡ 8 * i + k
    → d' ≡ paste d at e k → d' ≡ upto s d₀ n
upto_more s d₀ d d' e i k at n h l p x y z q =
    let T = take (8 * i) (bits s) in
    let b = bits_of (get_or s i 0) in
    let len : length T ≡ 8 * i = length-take-le (8 * i) (bits s) (omega (arith, length-bits s)) in
    let t : take (8 * i) d ≡ T = rw p (take_at T (drop (8 * i) d₀) (8 * i) len) in
    let u : drop (8 * i) d ≡ drop (8 * i) d₀ = rw p (drop_at T (drop (8 * i) d₀) (8 * i) len) in
    let v : drop (8 * i + k) d ≡ drop (8 * i + k) d₀ = sym (drop-drop k (8 * i) d) ∙ ap (drop k) u ∙ drop-drop k (8 * i) d₀ in
    let m : take (8 * i + k) (bits s) ≡ T ++ take k b =
    take-add (8 * i) k (bits s) ∙ ap (λ (a : List ℕ). T ++ take k a) (bits_from i s h)
    ∙ ap (λ (a : List ℕ). T ++ a) (take-append-le k b (bits (drop (suc i) s)) (omega (arith, length_eight (get_or s i 0)))) in
    q ∙ rw (y, z, x, t, v, m) refl
