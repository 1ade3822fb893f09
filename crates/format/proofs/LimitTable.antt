-- The fourteen two-nybble limits are 208 − 15 × f, by one test over the table. Assumes nothing.
use Prim.Native.Nat.{ℕ, ◌≤◌}
use mathlib.Core.Path.{◌≡◌}
use mathlib.Core.Bool.{Bool}
use native.Mathlib.Omega.{arith}
use lib.Dec.{eqb, eqb→eq}
use lib.ListN.{get_or}
use Rattle.format.specs.Packed.{limit, limit_table}
use Rattle.format.proofs.Table.{at}

abbrev right : ℕ → ℕ → Bool
right f x = eqb x (limit f)

pub limit_rule : (f : ℕ) → f ≤ 13 → get_or limit_table f 0 ≡ limit f
unfolding limit_table
limit_rule f h = eqb→eq (get_or limit_table f 0) (limit f) (at right limit_table tt f (omega arith))
