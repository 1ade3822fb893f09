use native.Mathlib.Omega.{arith}
use Rattle.packed.proofs.Part.{summed_first, summed_step, summed_none, summed_all}
use Rattle.packed.proofs.read_digits.Goals as goal

pub returns-then-s-at : goal.returns-then-s-at
returns-then-s-at c = summed_none _ _ _ _ _ (omega arith)

pub loop-j-init : goal.loop-j-init
loop-j-init c = summed_first _ _ _ _ _ (omega arith) (omega arith) (omega arith) (omega arith)

pub loop-j-preserved : goal.loop-j-preserved
loop-j-preserved c =
    summed_step _ _ _ _ _ _ _ _ _ _ _ c.loop-j.invariant (omega arith) (omega arith)
    c.nybble.ensures.is (omega arith) (omega arith) (omega arith) (omega arith)

pub returns : goal.returns
returns c = summed_all _ _ _ _ _ _ _ _ _ _ c.loop-j.invariant (omega arith) (omega arith) (omega arith) (omega arith) (omega arith)
