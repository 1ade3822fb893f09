use native.Mathlib.Omega.{arith}
use Rattle.state.proofs.MoveLaws.{run_over, run_fits}
use Rattle.state.proofs.State.run.Goals as goal

pub returns-then-n-room : goal.returns-then-n-room
returns-then-n-room c = run_fits _ _ _ _ _ _ (omega arith) c.past.ensures

pub returns-then-left-n : goal.returns-then-left-n
returns-then-left-n c = run_over _ _ _ _ _ (omega arith)

pub returns : goal.returns
returns c = run_fits _ _ _ _ _ _ (omega arith) c.past-2.ensures
