use native.Mathlib.Omega.{arith}
use Rattle.packet.proofs.OutlinedLaws.{outlined_cut, narrow_size, narrow_judged}
use Rattle.packet.proofs.narrow.Goals as goal

pub returns-then-room-size : goal.returns-then-room-size
returns-then-room-size c = outlined_cut _ _ _ _ _ (narrow_size c.args.m (omega arith) (omega arith)).0 (omega arith)

pub returns : goal.returns
returns c =
    let a = c.args in
    narrow_judged a.m _ a.at _ _ _ _ _ _ (omega arith) (omega arith) (omega arith) (omega arith)
    c.narrow_fields-x.ensures (omega arith) (omega arith) (omega arith) c.judged.ensures
