use native.Mathlib.Omega.{arith}
use Rattle.pieces.proofs.StepLaws.{piece_ends}
use Rattle.pieces.proofs.piece_at.Goals as goal

pub returns-then-font-at : goal.returns-then-font-at
returns-then-font-at c = let a = c.args in piece_ends a.font.now a.at (omega arith)
