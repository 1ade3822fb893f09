use Rattle.lines.proofs.MarkLaws.{Marking}
use Rattle.lines.proofs.mark_of.Given as goal

abbrev pub invariant-loop-b : goal.invariant-loop-b
invariant-loop-b l = Marking l.bytes l.mark l.b-index
