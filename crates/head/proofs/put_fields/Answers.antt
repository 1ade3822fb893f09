use native.Mathlib.Omega.{arith}
use Rattle.head.proofs.FieldLaws.{rest_more, rest_end}
use Rattle.head.specs.Head.{field}
use Rattle.head.proofs.put_fields.Goals as goal

pub loop-x-preserved : goal.loop-x-preserved
loop-x-preserved c = rest_more (field 0 0) c.loop-x.invariant (omega arith) c.put_number-to.ensures

pub returns : goal.returns
returns c = rest_end c.loop-x.invariant (omega arith)
