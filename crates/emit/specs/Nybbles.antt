-- Nybbles written into a buffer. Assumes nothing: these are definitions.
use Rattle.std.specs.Prelude.{ℕ, ◌+◌, ◌*◌, ◌/◌, ◌%◌, List, [], ◌∷◌, cond, get_or, set, eqb}

-- d with the nybble x at i: the high half, with a low half of zero, or the low half.
unfoldable pub put_one : List ℕ → ℕ → ℕ → List ℕ
put_one d i x = cond (eqb (i % 2) 0) (set d (i / 2) (x * 16)) (set d (i / 2) (get_or d (i / 2) 0 / 16 * 16 + x))

-- d with nybbles from i on.
unfoldable pub put_all : List ℕ → ℕ → List ℕ → List ℕ
put_all d i [] = d
put_all d i (x ∷ xs) = put_all (put_one d i x) (i + 1) xs
