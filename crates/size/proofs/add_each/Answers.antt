use native.Mathlib.Omega.{arith}
use mathlib.Core.Path.{refl}
use Rattle.size.proofs.TotalLaws.{half_more}
use Rattle.size.proofs.add_each.Goals as goal

pub loop-f-preserved : goal.loop-f-preserved
loop-f-preserved g c = half_more _ _ c.loop-f.invariant (omega arith) c.nybbles.ensures refl
