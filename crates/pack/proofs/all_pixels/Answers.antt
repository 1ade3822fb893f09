use native.Mathlib.Omega.{arith}
use Rattle.pack.proofs.TestLaws.{pixel_more, pixels_all}
use Rattle.pack.proofs.all_pixels.Goals as goal

pub loop-x-preserved : goal.loop-x-preserved
loop-x-preserved c = pixel_more _ c.loop-x.invariant (omega arith) c.max-top.ensures

pub returns : goal.returns
returns c = pixels_all c.loop-x.invariant (omega arith)
