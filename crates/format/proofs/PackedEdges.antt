-- Packed numbers at the edges of the input: no nybbles, nybbles that end inside a number, thousands of zeros and digits. Assumes nothing.
use Prim.Native.Nat.{ℕ, zero, suc, ◌+◌, ◌-◌, ◌*◌, ◌^◌}
use mathlib.Core.Path.{◌≡◌, refl, ap, ◌∙◌}
use mathlib.Core.List.{List, [], ◌∷◌, ◌++◌}
use native.Mathlib.Nat.{add-zero, mul_assoc, pow-succ'}
use native.Mathlib.Omega.{arith}
use lib.ListN.{replicate}
use Rattle.format.specs.Packed.{limit}
use Rattle.format.specs.Decoding.{value, ends, digits, zeros, shift, decode}

-- No nybbles: the number ends before it begins.
pub nothing_read : (f : ℕ) → decode f [] ≡ ends
unfolding decode
nothing_read f = refl

zeros_skipped : (n z : ℕ) (xs : List ℕ) → zeros z (replicate n 0 ++ xs) ≡ zeros (z + n) xs
unfolding zeros
zeros_skipped zero z xs = ap (λ (m : ℕ). zeros m xs) (omega arith)
zeros_skipped (suc n) z xs = zeros_skipped n (suc z) xs ∙ ap (λ (m : ℕ). zeros m xs) (omega arith)

digits_zero : (n k : ℕ) (rest : List ℕ) → digits n k (replicate n 0 ++ rest) ≡ value (k * 16 ^ n) rest
unfolding digits
digits_zero zero k rest = ap (λ (m : ℕ). value m rest) (omega arith)
digits_zero (suc n) k rest =
    digits_zero n (k * 16 + 0) rest ∙ ap (λ (m : ℕ). value m rest) (rw (add-zero, mul_assoc, pow-succ' 16 n) refl)

-- Any number of zeros and nothing else: the number is unfinished.
pub zeros_alone : (f z : ℕ) → decode f (0 ∷ (replicate z 0 ++ [])) ≡ ends
unfolding decode shift zeros
zeros_alone f z = ap (shift (limit f)) (zeros_skipped z 1 [])

-- z + 1 zeros, then 1 and as many zero digits: the number is the mathematical one, 16 ^ (z + 1) − 15 + M, whatever z.
pub many_digits : (f z : ℕ) (rest : List ℕ) → decode f (replicate (suc z) 0 ++ (1 ∷ (replicate (suc z) 0 ++ rest))) ≡ value (16 ^ suc z - 15 + limit f) rest
unfolding decode shift zeros
many_digits f z rest =
    ap (shift (limit f)) (zeros_skipped z 1 (1 ∷ (replicate (suc z) 0 ++ rest))
    ∙ ap (λ (m : ℕ). digits m 1 (replicate (suc z) 0 ++ rest)) {x = 1 + z} {y = suc z} (omega arith)
    ∙ digits_zero (suc z) 1 rest
    ∙ ap (λ (m : ℕ). value m rest) (omega arith))

-- A number of 60,000 digits, at both ends of f.
pub sixty_thousand : (rest : List ℕ) → (decode 13 (replicate 59999 0 ++ (1 ∷ (replicate 59999 0 ++ rest))) ≡ value (16 ^ 59999 - 15 + limit 13) rest)
    × (decode 0 (replicate 59999 0 ++ (1 ∷ (replicate 59999 0 ++ rest))) ≡ value (16 ^ 59999 - 15 + limit 0) rest)
sixty_thousand rest = (many_digits 13 59998 rest, many_digits 0 59998 rest)
