use Rattle.std.proofs.Common.{ℕ, ◌*◌, get_or}
use Rattle.scan.specs.Scan.{AreSame}
use Rattle.scan.proofs.FirstLaws.{Below}
use Rattle.scan.proofs.first_unlike.Given as goal

abbrev pub invariant-loop-k : goal.invariant-loop-k
invariant-loop-k g l = Below (AreSame (λ (i : ℕ). get_or l.s i 0) (g.A.Against.byte_at l.a)) l.n (8 * l.k)
