use native.Mathlib.Omega.{arith}
use mathlib.Core.Path.{refl}
use Rattle.packet.proofs.OutlinedLaws.{outlined_cut, long_judged}
use Rattle.packet.proofs.long.Goals as goal

pub returns-then-room-lt36 : goal.returns-then-room-lt36
returns-then-room-lt36 c = outlined_cut _ _ _ 36 _ refl (omega arith)

pub returns : goal.returns
returns c = long_judged _ _ _ _ _ _ _ (omega arith) (omega arith) c.long_fields-x.ensures (omega arith) (omega arith) c.judged.ensures
