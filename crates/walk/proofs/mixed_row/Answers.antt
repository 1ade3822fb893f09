use mathlib.Core.Path.{◌∙◌}
use native.Mathlib.Omega.{arith}
use borrow.Author.Tests.{lt-ltb}
use Rattle.walk.proofs.PixelLaws.{mixed_other, mixed_plain}
use Rattle.walk.proofs.mixed_row.Goals as goal

pub returns-then-first_other-rows : goal.returns-then-first_other-rows
returns-then-first_other-rows c = lt-ltb _ _ c.if-first_other-rows.true ∙ mixed_other (omega arith) c.first_other.ensures (omega arith)

pub returns-else-first_other-rows : goal.returns-else-first_other-rows
returns-else-first_other-rows c = mixed_plain (omega arith) (omega arith) c.first_other.ensures (omega arith)
