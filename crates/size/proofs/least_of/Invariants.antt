use Rattle.size.specs.Sizes.{Best}
use Rattle.size.proofs.least_of.Given as goal

abbrev pub invariant-loop-f : goal.invariant-loop-f
invariant-loop-f l = Best l.t l.f l.best
