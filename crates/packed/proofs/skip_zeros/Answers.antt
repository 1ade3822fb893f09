use native.Mathlib.Omega.{arith}
use Rattle.packed.proofs.Part.{passed_step, passed_all}
use Rattle.packed.proofs.skip_zeros.Goals as goal

pub returns-then-nybble-ne0 : goal.returns-then-nybble-ne0
returns-then-nybble-ne0 c = passed_all _ _ _ c.loop-j.invariant (λ h. omega arith)

pub loop-j-preserved : goal.loop-j-preserved
loop-j-preserved c = passed_step _ _ _ _ c.loop-j.invariant (omega arith) (omega arith) (omega arith)
