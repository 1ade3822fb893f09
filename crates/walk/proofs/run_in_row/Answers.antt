use native.Mathlib.Omega.{arith}
use Rattle.walk.specs.Walk.{full, some}
use Rattle.walk.proofs.run_in_row.Goals as goal

pub returns-then-c : goal.returns-then-c
returns-then-c c = full (omega arith) (c.requires.1 (omega arith))

pub returns : goal.returns
returns c = some (omega arith) c.first_other-length.ensures c.repeat_before-repeat.ensures
