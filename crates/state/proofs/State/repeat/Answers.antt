use native.Mathlib.Omega.{arith}
use Rattle.state.proofs.MoveLaws.{repeat_over, repeat_fits}
use Rattle.state.proofs.State.repeat.Goals as goal

pub returns-then-h-self : goal.returns-then-h-self
returns-then-h-self c = repeat_over _ _ _ _ (omega arith)

pub returns : goal.returns
returns c = repeat_fits _ _ _ _ _ (omega arith) c.repeated.ensures
