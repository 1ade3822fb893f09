use native.Mathlib.Omega.{arith}
use Rattle.fields.proofs.Rebuilt.{taken, rebuilt_start, rebuilt_room, rebuilt_step, rebuilt_end}
use Rattle.fields.proofs.number_at.Goals as goal

pub loop-b-init : goal.loop-b-init
loop-b-init c = rebuilt_start _

pub overflow_mul-n : goal.overflow_mul-n
overflow_mul-n c = omega (arith, rebuilt_room _ _ _ c.loop-b.invariant (omega (arith, taken)))

pub overflow_add-n : goal.overflow_add-n
overflow_add-n c = omega (arith, rebuilt_room _ _ _ c.loop-b.invariant (omega (arith, taken)))

pub loop-b-preserved : goal.loop-b-preserved
loop-b-preserved c = rebuilt_step _ _ _ _ c.loop-b.invariant (omega arith) (omega arith) (omega arith)

pub returns : goal.returns
returns c = rebuilt_end c.args.s.now c.args.at c.args.k _ _ c.loop-b.invariant (omega (arith, taken))
