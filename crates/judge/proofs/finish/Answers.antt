use native.Mathlib.Omega.{arith}
use Rattle.judge.proofs.TurnLaws.{finish_none, finish_more, finish_bad, finish_spare}
use Rattle.judge.proofs.finish.Goals as goal

pub returns-then-end-at : goal.returns-then-end-at
returns-then-end-at c = finish_none _ _ (omega arith)

pub returns-then-end-at-gt1 : goal.returns-then-end-at-gt1
returns-then-end-at-gt1 c = finish_more _ _ (omega arith)

pub returns-then-nybble-ne0 : goal.returns-then-nybble-ne0
returns-then-nybble-ne0 c = finish_bad _ _ (omega arith) (omega arith) c.nybble.result c.nybble.ensures.is (λ e. omega arith)

pub returns : goal.returns
returns c = finish_spare _ _ (omega arith) (omega arith) c.nybble.result c.nybble.ensures.is (omega arith)
