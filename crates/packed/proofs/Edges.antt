-- What `read_number` answers at the edges of its input: an empty slice, a place at or past the end, a number that only begins, one of
-- 60,000 digits. Assumes nothing.
use Prim.Native.Nat.{ℕ, zero, suc, ◌+◌, ◌*◌, ◌≤◌}
use mathlib.Core.Path.{◌≡◌, refl, sym, ap, ◌∙◌}
use mathlib.Core.List.{List, [], ◌∷◌, ◌++◌}
use native.Mathlib.Nat.{pow-le-pow_right}
use native.Mathlib.Omega.{arith}
use lib.ListN.{length, replicate, length-append, length-replicate}
use Rattle.format.specs.Packed.{nybbles}
use Rattle.format.proofs.PackedEdges.{zeros_alone, many_digits}
use Rattle.std.specs.Prelude.{Ok, Err}
use Rattle.packed.specs.declared.Unread.TheVariants.{Ends}
use Rattle.packed.specs.Answer.{from, to_read, read_at}
use Rattle.packed.proofs.Part.{number_is, read_past}

-- At the end of the nybbles, past it, and of an empty slice nothing is read.
pub past_the_end : (s : List ℕ) (at f : ℕ) → 2 * length s ≤ at → read_at s at f ≡ Err Ends
past_the_end s at f h = sym (read_past s at f h)

pub empty_slice : (at f : ℕ) → read_at [] at f ≡ Err Ends
empty_slice at f = past_the_end [] at f (omega arith)

-- The nybbles of n zero bytes.
nybbles_zero : (n : ℕ) (s : List ℕ) → nybbles (replicate n 0 ++ s) ≡ replicate (n + n) 0 ++ nybbles s
unfolding nybbles
nybbles_zero zero s = refl
nybbles_zero (suc n) s = ap (λ (xs : List ℕ). 0 ∷ 0 ∷ xs) (nybbles_zero n s) ∙ ap (λ (k : ℕ). replicate k 0 ++ nybbles s) {x = suc (suc (n + n))} {y = suc n + suc n} (omega arith)

-- One zero more, at the end or in front.
zero_on : (n : ℕ) (xs : List ℕ) → replicate n 0 ++ (0 ∷ xs) ≡ replicate (suc n) 0 ++ xs
zero_on zero xs = refl
zero_on (suc n) xs = ap (λ (ys : List ℕ). 0 ∷ ys) (zero_on n xs)

-- Zero bytes alone, however many: the number is unfinished.
pub zero_bytes : (n f : ℕ) → read_at (replicate (suc n) 0 ++ []) 0 f ≡ Err Ends
unfolding read_at from to_read nybbles
zero_bytes n f = rw (nybbles_zero n [], zeros_alone f (suc (n + n))) refl

-- A number of 2z + 2 digits, z from 2 on, is above every limit; all of it is read, up to the spare half byte.
pub many_read : (z f : ℕ) → 2 ≤ z → f ≤ 13 → read_at (replicate z 0 ++ (1 ∷ (replicate (suc z) 0 ++ []))) 0 f ≡ Ok (record { n = 65537; next = 4 * z + 3 })
unfolding read_at from to_read nybbles
many_read z f h l =
    let e : nybbles (replicate z 0 ++ (1 ∷ (replicate (suc z) 0 ++ []))) ≡ replicate (suc (z + z)) 0 ++ (1 ∷ (replicate (suc (z + z)) 0 ++ (0 ∷ []))) =
    nybbles_zero z (1 ∷ (replicate (suc z) 0 ++ []))
    ∙ zero_on (z + z) (1 ∷ nybbles (replicate (suc z) 0 ++ []))
    ∙ ap (λ (ys : List ℕ). replicate (suc (z + z)) 0 ++ (1 ∷ ys))
    (nybbles_zero (suc z) [] ∙ ap (λ (k : ℕ). replicate k 0 ++ []) {x = suc z + suc z} {y = suc (suc (z + z))} (omega arith) ∙ sym (zero_on (suc (z + z)) [])) in
    let p = pow-le-pow_right {n = 16} (omega arith) {i = 5} {j = suc (z + z)} (omega arith) in
    let a = length-append {A = ℕ} (replicate z 0) (1 ∷ (replicate (suc z) 0 ++ [])) in
    let b = length-append {A = ℕ} (replicate (suc z) 0) [] in
    let c = length-replicate {A = ℕ} z 0 in
    let d = length-replicate {A = ℕ} (suc z) 0 in
    rw (e, many_digits f (z + z) (0 ∷ [])) (number_is (omega arith) (omega arith))

-- 60,000 digits, at both ends of f: 119,999 nybbles are read.
pub sixty_thousand_read : (read_at (replicate 29999 0 ++ (1 ∷ (replicate 30000 0 ++ []))) 0 13 ≡ Ok (record { n = 65537; next = 119999 }))
    × (read_at (replicate 29999 0 ++ (1 ∷ (replicate 30000 0 ++ []))) 0 0 ≡ Ok (record { n = 65537; next = 119999 }))
sixty_thousand_read = (many_read 29999 13 (omega arith) (omega arith), many_read 29999 0 (omega arith) (omega arith))
