use mathlib.Core.Path.{refl}
use native.Mathlib.Omega.{arith}
use Rattle.state.proofs.MoveLaws.{ends_at_once}
use Rattle.state.proofs.State.row_end.Goals as goal

pub returns : goal.returns
returns c = ends_at_once _ _ _ _ _ _ (omega arith) refl refl
