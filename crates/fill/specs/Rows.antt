-- What the functions of this crate leave in a buffer. Assumes nothing: these are definitions.
use Rattle.std.specs.Prelude.{ℕ, zero, suc, ◌+◌, ◌-◌, List, [], ◌++◌, length, take, drop, replicate}

-- d with n times v from a place on.
unfoldable pub filled : List ℕ → ℕ → ℕ → ℕ → List ℕ
filled d at n v = take at d ++ (replicate n v ++ drop (at + n) d)

-- The last w bytes.
unfoldable pub last_row : ℕ → List ℕ → List ℕ
last_row w d = drop (length d - w) d

-- A row n times.
unfoldable pub times : ℕ → List ℕ → List ℕ
times zero row = []
times (suc n) row = row ++ times n row
