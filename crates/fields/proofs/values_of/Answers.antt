use native.Mathlib.Omega.{arith}
use Rattle.fields.proofs.Rebuilt.{values_shifted}
use Rattle.fields.proofs.values_of.Goals as goal

pub returns : goal.returns
returns c = values_shifted _ (omega arith)
