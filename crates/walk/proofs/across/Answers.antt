use native.Mathlib.Omega.{arith}
use Rattle.walk.proofs.RunLaws.{waiting_full, next_row, stopped, closed_row, closed_next, closed_over}
use Rattle.walk.proofs.across.Goals as goal
use Rattle.walk.proofs.across.Goals.{then-rows-next-via-then-rows-next, then-rows-next-via-else-rows-next+then-rows-next-2}

pub returns-then-rows-next : goal.returns-then-rows-next
returns-then-rows-next c =
    elim c.then-rows-next.branch [ then-rows-next-via-then-rows-next w ↦ closed_over c.loop-r.invariant (omega arith) | then-rows-next-via-else-rows-next+then-rows-next-2 w ↦ closed_next c.loop-r.invariant (omega arith) w.if-rows-next-2.true ]

pub returns-then-d : goal.returns-then-d
returns-then-d c = closed_row (next_row c.loop-r.invariant c.enter-d.ensures c.if-rows-next-2.false c.first_other-n.ensures c.repeat_before-m.ensures) (omega arith) (stopped c.first_other-n.ensures (omega arith))

pub loop-r-preserved : goal.loop-r-preserved
loop-r-preserved c = waiting_full (next_row c.loop-r.invariant c.enter-d.ensures c.if-rows-next-2.false c.first_other-n.ensures c.repeat_before-m.ensures) (omega arith)
