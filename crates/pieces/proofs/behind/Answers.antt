use native.Mathlib.Omega.{arith}
use Rattle.pieces.proofs.StepLaws.{step_packet, step_special, step_numeric, step_last, step_noop, step_none}
use Rattle.pieces.proofs.behind.Goals as goal

pub returns-in-0-to-239 : goal.returns-in-0-to-239
returns-in-0-to-239 c = step_packet _ _ _ _ (omega arith) c.packet_at.ensures

pub returns-in-240-to-243 : goal.returns-in-240-to-243
returns-in-240-to-243 c = let a = c.args in step_special a.font.now a.at a.b _ (omega arith) (omega arith) c.special.ensures

pub returns-in-244 : goal.returns-in-244
returns-in-244 c = let a = c.args in step_numeric a.font.now a.at a.b _ (omega arith) c.numeric.ensures

pub returns-in-245 : goal.returns-in-245
returns-in-245 c = let a = c.args in step_last a.font.now a.at a.b (omega arith)

pub returns-in-246 : goal.returns-in-246
returns-in-246 c = let a = c.args in step_noop a.font.now a.at a.b (omega arith) (omega arith)

pub returns-in_default : goal.returns-in_default
returns-in_default c = let a = c.args in step_none a.font.now a.at a.b (omega arith)
