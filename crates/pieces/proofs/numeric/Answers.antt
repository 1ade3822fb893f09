use native.Mathlib.Omega.{arith}
use Rattle.pieces.proofs.CommandLaws.{numeric_ends, numeric_is}
use Rattle.pieces.proofs.numeric.Goals as goal

pub returns-then-font-at-lt4 : goal.returns-then-font-at-lt4
returns-then-font-at-lt4 c = let a = c.args in numeric_ends a.font.now a.at (omega arith)

pub returns : goal.returns
returns c = let a = c.args in numeric_is a.font.now a.at (omega arith) (omega arith)
