use native.Mathlib.Omega.{arith}
use Rattle.bit_bytes.proofs.EightLaws.{eight_more, eight_end}
use Rattle.bit_bytes.proofs.Pixels.eight.Goals as goal

pub loop-j-preserved : goal.loop-j-preserved
loop-j-preserved c = eight_more _ c.loop-j.invariant (omega arith) c.pixel_at.ensures

pub returns : goal.returns
returns c = eight_end c.loop-j.invariant (omega arith)
