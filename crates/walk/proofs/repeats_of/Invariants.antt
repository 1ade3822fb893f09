use Prim.Native.Nat.{◌-◌}
use lib.ListN.{length}
use Rattle.walk.proofs.RowLaws.{Equal}
use Rattle.walk.proofs.repeats_of.Given as goal

abbrev pub invariant-loop-next : goal.invariant-loop-next
invariant-loop-next l = Equal l.rows.pixels.now l.rows.w l.at l.next l.n

abbrev pub decreases-loop-next : goal.decreases-loop-next
decreases-loop-next l = length l.rows.pixels.now - l.next
