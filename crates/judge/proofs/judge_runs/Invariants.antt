use Prim.Native.Nat.{◌-◌, ◌*◌}
use lib.ListN.{length}
use Rattle.state.specs.Moves.{plain}
use Rattle.judge.proofs.LeftLaws.{Left}
use Rattle.judge.proofs.judge_runs.Given as goal

abbrev pub invariant-loop-state : goal.invariant-loop-state
invariant-loop-state l = Left l.s l.f.n l.w l.h l.at (plain l.state)

abbrev pub decreases-loop-state : goal.decreases-loop-state
decreases-loop-state l = 2 * length l.s - l.at
