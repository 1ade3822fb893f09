use Rattle.size.proofs.TotalLaws.{Half}
use Rattle.size.proofs.add_each.Given as goal

abbrev pub invariant-loop-f : goal.invariant-loop-f
invariant-loop-f g l = Half l.initial.t (goal.F-post g l.nybbles) l.t l.f
