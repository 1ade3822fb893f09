use Rattle.std.proofs.Common.{arith}
use Rattle.scan.proofs.WordLaws.{same_stop, same_more, same_last}
use Rattle.scan.proofs.first_unlike.Goals as goal

pub returns-then-word-other : goal.returns-then-word-other
returns-then-word-other g c = same_stop c.loop-k.invariant c.eight-word.ensures c.word-other.ensures c.alike.ensures c.if-word-other.true (omega arith)

pub loop-k-preserved : goal.loop-k-preserved
loop-k-preserved g c = same_more c.loop-k.invariant c.eight-word.ensures c.word-other.ensures c.if-word-other.false (omega arith) (omega arith)

pub returns : goal.returns
returns g c = same_last c.loop-k.invariant c.eight.ensures c.word.ensures c.alike-2.ensures (omega arith) (omega arith)
