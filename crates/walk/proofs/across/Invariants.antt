use Prim.Native.Nat.{◌-◌}
use lib.ListN.{length}
use Rattle.walk.proofs.RunLaws.{Waiting}
use Rattle.walk.proofs.across.Given as goal

abbrev pub invariant-loop-r : goal.invariant-loop-r
invariant-loop-r l = Waiting l.rows.pixels.now l.rows.w l.x l.initial.r.length l.initial.r.repeat l.initial.r.cursor l.r.length l.r.repeat l.r.cursor

abbrev pub decreases-loop-r : goal.decreases-loop-r
decreases-loop-r l = length l.rows.pixels.now - l.r.cursor.end
