use Rattle.fields.proofs.Rebuilt.{Rebuilt}
use Rattle.fields.proofs.number_at.Given as goal

abbrev pub invariant-loop-b : goal.invariant-loop-b
invariant-loop-b l = Rebuilt l.b-items l.b-index l.n
