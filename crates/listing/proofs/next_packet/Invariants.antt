use Prim.Native.Nat.{◌-◌}
use lib.ListN.{length}
use Rattle.listing.proofs.NextLaws.{Going}
use Rattle.listing.proofs.next_packet.Given as goal

abbrev pub invariant-loop-x : goal.invariant-loop-x
invariant-loop-x l = Going l.font l.start l.at

abbrev pub decreases-loop-x : goal.decreases-loop-x
decreases-loop-x l = length l.font - l.at
