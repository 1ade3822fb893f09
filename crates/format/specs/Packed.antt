-- Packed numbers (01, Rasters): the nybbles of bytes, and a number's nybbles for each f. No reader is mentioned.
-- Assumes nothing: these are definitions.
use Rattle.std.specs.Prelude.{ℕ, zero, suc, ◌+◌, ◌-◌, ◌*◌, ◌/◌, ◌%◌, List, [], ◌∷◌, ◌++◌, cond, leb, ltb, replicate}

-- The nybbles of bytes, high half first.
unfoldable pub nybbles : List ℕ → List ℕ
nybbles [] = []
nybbles (b ∷ bs) = b / 16 ∷ b % 16 ∷ nybbles bs

-- M = 208 − 15 × f, the most that two nybbles reach.
abbrev pub limit : ℕ → ℕ
limit f = 208 - 15 * f

-- The same for f = 0 to 13 as a table.
unfoldable pub limit_table : List ℕ
limit_table = 208 ∷ 193 ∷ 178 ∷ 163 ∷ 148 ∷ 133 ∷ 118 ∷ 103 ∷ 88 ∷ 73 ∷ 58 ∷ 43 ∷ 28 ∷ 13 ∷ []

-- The last n hexadecimal digits of k, the first most significant.
unfoldable pub hex : ℕ → ℕ → List ℕ
hex zero k = []
hex (suc n) k = hex n (k / 16) ++ (k % 16 ∷ [])

-- The z for which k has z + 1 hexadecimal digits. g bounds the depth: k is enough.
unfoldable pub zeros_f : ℕ → ℕ → ℕ
zeros_f zero k = 0
zeros_f (suc g) k = let more : ℕ = suc (zeros_f g (k / 16)) in cond (ltb k 16) 0 more

unfoldable pub zeros_of : ℕ → ℕ
zeros_of k = zeros_f k k

-- z zeros, then the z + 1 hexadecimal digits of k.
unfoldable pub large : ℕ → List ℕ
large k = replicate (zeros_of k) 0 ++ hex (suc (zeros_of k)) k

-- The nybbles of a number n, at least 1: n itself up to f; two nybbles a and b up to M; above it z zeros, and n − M + 15 in z + 1 digits.
unfoldable pub encode : ℕ → ℕ → List ℕ
encode f n =
    let big : List ℕ = large (n - limit f + 15) in
    cond (leb n f) (n ∷ [])
    (cond (leb n (limit f)) (((n - f - 1) / 16 + f + 1) ∷ (n - f - 1) % 16 ∷ []) big)
