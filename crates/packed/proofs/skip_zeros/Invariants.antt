use Rattle.packed.proofs.Part.{Passed}
use Rattle.packed.proofs.skip_zeros.Given as goal

abbrev pub invariant-loop-j : goal.invariant-loop-j
invariant-loop-j l = Passed l.s l.at l.j
