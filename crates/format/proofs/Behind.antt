-- What is left of a row's pixels after q whole rows. Assumes nothing.
use Prim.Native.Nat.{ℕ, zero, suc}
use mathlib.Core.List.{List}
use lib.ListN.{drop}

abbrev pub behind : ℕ → ℕ → List ℕ → List ℕ
behind w zero pre = pre
behind w (suc q) pre = behind w q (drop w pre)
