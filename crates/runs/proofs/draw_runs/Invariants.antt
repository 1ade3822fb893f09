use Prim.Native.Nat.{◌-◌, ◌*◌}
use lib.ListN.{length}
use Rattle.runs.proofs.LeftLaws.{LeftIn}
use Rattle.runs.proofs.draw_runs.Given as goal

abbrev pub invariant-loop-state : goal.invariant-loop-state
invariant-loop-state l = LeftIn l.s l.f.n l.black l.w l.h l.initial.buf l.buf l.at l.state

abbrev pub decreases-loop-state : goal.decreases-loop-state
decreases-loop-state l = 2 * length l.s - l.at
