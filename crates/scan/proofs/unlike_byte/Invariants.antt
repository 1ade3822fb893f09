use Rattle.std.proofs.Common.{ℕ, get_or}
use Rattle.scan.specs.Scan.{AreSame}
use Rattle.scan.proofs.FirstLaws.{Below}
use Rattle.scan.proofs.unlike_byte.Given as goal

abbrev pub invariant-loop-i : goal.invariant-loop-i
invariant-loop-i g l = Below (AreSame (λ (i : ℕ). get_or l.s i 0) (g.A.Against.byte_at l.a)) l.n l.i
