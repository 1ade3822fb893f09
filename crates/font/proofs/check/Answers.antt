use native.Mathlib.Omega.{arith}
use Rattle.font.proofs.BeginLaws.{check_long, check_begin, numbers_told}
use Rattle.packet.proofs.StandingLaws.{bytes_fit}
use Rattle.font.proofs.check.Goals as goal

pub returns-then-font-gt65536 : goal.returns-then-font-gt65536
returns-then-font-gt65536 c =
    let s = c.args.font.now in
    let e = check_long s (omega arith) in
    rw c.at.ensures (numbers_told s _ (bytes_fit _ c.type_inv.font) e)

pub returns : goal.returns
returns c =
    let s = c.args.font.now in
    let e = check_begin s _ (omega arith) c.begin.ensures in
    numbers_told s _ (bytes_fit _ c.type_inv.font) e
