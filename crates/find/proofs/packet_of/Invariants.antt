use Prim.Native.Nat.{◌-◌}
use lib.ListN.{length}
use Rattle.find.proofs.GoingLaws.{Going}
use Rattle.find.proofs.packet_of.Given as goal

abbrev pub invariant-loop-x : goal.invariant-loop-x
invariant-loop-x l = Going l.font l.code l.at

abbrev pub decreases-loop-x : goal.decreases-loop-x
decreases-loop-x l = length l.font - l.at
