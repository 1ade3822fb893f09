use Rattle.std.proofs.Common.{arith}
use Rattle.emit.proofs.PutLaws.{done_one, done_more}
use Rattle.emit.proofs.+write_large.Goals as goal

pub returns-then-k-lt16 : goal.returns-then-k-lt16
returns-then-k-lt16 t c = done_one _ _ _ _ (omega arith) c.put_nybble.ensures

pub returns-else-k-lt16 : goal.returns-else-k-lt16
returns-else-k-lt16 t c = done_more _ _ _ _ _ _ _ (omega arith) c.put_nybble-else-k-lt16.ensures c.write_large-at.ensures c.put_nybble-else-k-lt16-2.ensures
