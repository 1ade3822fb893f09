use native.Mathlib.Omega.{arith}
use Rattle.nybbles.proofs.Halves.{high_at, low_at}
use Rattle.nybbles.proofs.nybble.Goals as goal

pub returns-then-i-eq0 : goal.returns-then-i-eq0
returns-then-i-eq0 c = high_at _ _ _ (omega arith) (c.type_inv.s _).fits (omega arith)

pub returns-else-i-eq0 : goal.returns-else-i-eq0
returns-else-i-eq0 c = low_at _ _ _ (omega arith) (omega arith)
