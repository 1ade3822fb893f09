use native.Mathlib.Omega.{arith}
use Rattle.walk.proofs.PixelLaws.{same_answer}
use Rattle.walk.proofs.same_rows.Goals as goal

pub returns : goal.returns
returns c = same_answer (omega arith) (omega arith) c.first_difference.ensures
