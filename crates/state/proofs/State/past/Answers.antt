use mathlib.Core.Path.{◌∙◌}
use native.Mathlib.Omega.{arith}
use Rattle.state.proofs.MoveLaws.{no_end, one_end}
use Rattle.state.proofs.State.past.Goals as goal

pub returns-then-column-w : goal.returns-then-column-w
returns-then-column-w c = no_end _ _ _ _ (omega arith)

pub returns-then-column-w-2 : goal.returns-then-column-w-2
returns-then-column-w-2 c = c.row_end.ensures ∙ one_end _ _ _ _ (omega arith) (omega arith) (omega arith)
