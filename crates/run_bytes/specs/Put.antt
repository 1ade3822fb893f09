-- What the functions of this crate write. Assumes nothing: these are definitions.
use Rattle.std.specs.Prelude.{ℕ, ◌+◌, ◌*◌, ◌≤◌, ◌≡◌, List, length}
use Rattle.emit.specs.Nybbles.{put_all}

-- The nybbles xs have room in the buffer d from i on.
abbrev pub Room : List ℕ → ℕ → List ℕ → Type 0
Room d i xs = i + length xs ≤ 2 * length d

-- The buffer `after` is d with the nybbles xs from i on, and r is the place behind them.
pub record Put (d : List ℕ) (i : ℕ) (xs : List ℕ) (r : ℕ) (after : List ℕ) : Type 0 where
  pub place : r ≡ i + length xs
  pub is : after ≡ put_all d i xs
