-- The lengths of the two kinds of raster that packing writes. Assumes nothing.
use Prim.Native.Nat.{ℕ, zero, suc, ◌+◌, ◌/◌}
use mathlib.Core.Path.{◌≡◌, refl, ap}
use mathlib.Core.List.{List, [], ◌∷◌}
use native.Mathlib.Omega.{arith}
use lib.ListN.{length, drop}
use Rattle.format.specs.Choice.{halves, bit_bytes}

-- Two nybbles make a byte, and a spare one too.
pub length-halves : (xs : List ℕ) → length (halves xs) ≡ (length xs + 1) / 2
unfolding halves
length-halves [] = omega arith
length-halves (a ∷ []) = omega arith
length-halves (a ∷ b ∷ xs) = omega (arith, length-halves xs)

-- There are as many bytes as are asked for.
pub length-bit_bytes : (n : ℕ) (xs : List ℕ) → length (bit_bytes n xs) ≡ n
unfolding bit_bytes
length-bit_bytes zero xs = refl
length-bit_bytes (suc n) xs = ap suc (length-bit_bytes n (drop 8 xs))
