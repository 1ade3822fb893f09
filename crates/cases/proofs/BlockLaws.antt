-- What `block_at` answers in each case, and where a block that is whole stands. Assumes nothing.
use Prim.Native.Nat.{ℕ, ◌+◌, ◌-◌, ◌≤◌, ◌<◌}
use mathlib.Core.Path.{◌≡◌, refl}
use mathlib.Core.List.{List}
use native.Mathlib.Omega.{arith}
use lib.ListN.{length, drop}
use borrow.Author.Tests.{le-leb, lt-leb}
use Rattle.format.specs.Decoding.{number}
use Rattle.fields.specs.Field.{NumberAt}
use Rattle.std.specs.Prelude.{Some, None}
use Rattle.cases.specs.Blocks.{within, block_at}

-- The head itself is cut off.
pub head_cut : (s : List ℕ) (at head : ℕ) → length s < at + head → None ≡ block_at s at head
unfolding block_at within
head_cut s at head h = rw (lt-leb (at + head + number 4 (drop (at + head - 4) s)) (length s) (omega arith)) refl

module _ (s : List ℕ) (at head n : ℕ) (x : NumberAt s (at + head - 4) 4 n) where
  -- The bytes behind it are cut off.
  pub bytes_cut : length s < at + head + n → None ≡ block_at s at head
  unfolding block_at within
  bytes_cut h = rw (← x.is, lt-leb (at + head + n) (length s) h) refl

  -- They are whole.
  pub bytes_whole : at + head + n ≤ length s → Some (at + head, at + head + n) ≡ block_at s at head
  unfolding block_at within
  bytes_whole h = rw (← x.is, le-leb (at + head + n) (length s) h) refl
