use Rattle.std.proofs.Common.{arith}
use Rattle.scan.proofs.AlikeLaws.{alike_wrapped}
use Rattle.scan.proofs.alike.Goals as goal

pub returns : goal.returns
returns c = alike_wrapped _ _ _ (omega arith)
