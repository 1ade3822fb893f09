use Rattle.std.proofs.Common.{arith}
use Rattle.part.proofs.KeptLaws.{walked_none, walked_more}
use Rattle.part.proofs.Part.fill.Goals as goal

pub loop-n-init : goal.loop-n-init
loop-n-init c = walked_none _ _ _ _ c.requires

pub loop-n-preserved : goal.loop-n-preserved
loop-n-preserved c = walked_more c.loop-n.invariant (omega arith) (omega arith) c.in-Some.ensures
