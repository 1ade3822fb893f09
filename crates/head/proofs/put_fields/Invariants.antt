use Rattle.head.proofs.FieldLaws.{Rest}
use Rattle.head.proofs.put_fields.Given as goal

abbrev pub invariant-loop-x : goal.invariant-loop-x
invariant-loop-x l = Rest l.initial.buf l.at l.x-items l.buf l.x-index l.to
