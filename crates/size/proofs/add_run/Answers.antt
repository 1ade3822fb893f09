use native.Mathlib.Omega.{arith}
use Rattle.size.proofs.TotalLaws.{run_alone, repeat_room, run_repeated}
use Rattle.size.proofs.add_run.Goals as goal

pub returns-then-r-eq0 : goal.returns-then-r-eq0
returns-then-r-eq0 c = run_alone _ _ c.if-r-eq0.true c.add_number.ensures

pub add_number-requires-2 : goal.add_number-requires-2
add_number-requires-2 c = (repeat_room _ c.add_repeat.ensures (omega arith) c.requires.0, omega arith)

pub returns : goal.returns
returns c = run_repeated _ c.add_repeat.ensures _ c.add_number-2.ensures
