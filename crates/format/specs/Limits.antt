-- The edges of the job (01, The job and its edges): the limits of a font, of a bitmap and of a code.
-- Assumes nothing: these are definitions.
use Rattle.std.specs.Prelude.{ℕ, zero, suc, ◌*◌, Bool, true, false, leb, ltb, ℤ, pos, negsuc}

-- The most bytes of a font, and the most pixels of a bitmap.
abbrev pub most : ℕ
most = 65536

-- w and h both 0, or both at least 1 with w × h at most 65,536.
unfoldable pub in_limits : ℕ → ℕ → Bool
in_limits zero zero = true
in_limits zero (suc h) = false
in_limits (suc w) zero = false
in_limits (suc w) (suc h) = leb (suc w * suc h) most

-- The same of numbers that may be negative.
unfoldable pub within_limits : ℤ → ℤ → Bool
within_limits (pos w) (pos h) = in_limits w h
within_limits (pos w) (negsuc h) = false
within_limits (negsuc w) h = false

-- A code is from 0 to 255.
unfoldable pub is_code : ℤ → Bool
is_code (pos c) = ltb c 256
is_code (negsuc c) = false
