use native.Mathlib.Omega.{arith}
use Rattle.walk.proofs.RowLaws.{equal_start, equal_more, equal_stop, equal_end, equal_plain}
use Rattle.walk.proofs.PixelLaws.{off, on}
use Rattle.walk.proofs.repeats_of.Goals as goal
use Rattle.walk.proofs.repeats_of.Goals.{else-n-eq0-via-then-n-eq0+else-not-mixed_row, else-n-eq0-via-else-n-eq0}

pub loop-next-init : goal.loop-next-init
loop-next-init c = equal_start c.requires

pub returns-then-not-same_rows : goal.returns-then-not-same_rows
returns-then-not-same_rows c = equal_stop c.loop-next.invariant (omega arith) (off c.same_rows.ensures c.if-not-same_rows.true)

pub returns-then-not-mixed_row : goal.returns-then-not-mixed_row
returns-then-not-mixed_row c = equal_plain c.loop-next.invariant (off c.mixed_row.ensures c.if-not-mixed_row.true)

pub loop-next-preserved : goal.loop-next-preserved
loop-next-preserved c = equal_more c.loop-next.invariant (omega arith) (on c.same_rows.ensures c.if-not-same_rows.false) (elim c.else-n-eq0.branch [ else-n-eq0-via-then-n-eq0+else-not-mixed_row w ↦ on w.mixed_row.ensures w.if-not-mixed_row.false | else-n-eq0-via-else-n-eq0 w ↦ c.loop-next.invariant.mix (omega arith) ])

pub returns : goal.returns
returns c = equal_end c.loop-next.invariant (omega arith)
