use Rattle.pack.proofs.TestLaws.{SoFar}
use Rattle.pack.proofs.all_pixels.Given as goal

abbrev pub invariant-loop-x : goal.invariant-loop-x
invariant-loop-x l = SoFar l.fn.b l.top l.x-index
