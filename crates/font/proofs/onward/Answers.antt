use mathlib.Core.Path.{ap, ◌∙◌}
use native.Mathlib.Omega.{arith}
use Rattle.std.specs.Prelude.{Ok}
use Rattle.packet.proofs.StandingLaws.{bytes_fit}
use Rattle.font.proofs.GoingLaws.{going_start, goes}
use Rattle.font.proofs.onward.Goals as goal

pub loop-code-init : goal.loop-code-init
loop-code-init c =
    let a = c.args in
    going_start a.font.now a.start _ (bytes_fit _ c.type_inv.font) (omega arith) c.none_seen-seen.ensures

pub bounds-seen-code : goal.bounds-seen-code
bounds-seen-code c = (goes _ _ _ _ _ c.loop-code.invariant _ _ c.turn_at.ensures (c.in-Ok-Packet.is ∙ ap Ok c.in-Ok-Packet.field-0-is)).1

pub loop-code-smaller-in-Ok-Packet : goal.loop-code-smaller-in-Ok-Packet
loop-code-smaller-in-Ok-Packet c =
    let t = goes _ _ _ _ _ c.loop-code.invariant _ _ c.turn_at.ensures (c.in-Ok-Packet.is ∙ ap Ok c.in-Ok-Packet.field-0-is) in
    omega (arith, t.0, t.2.upto)

pub loop-code-preserved-in-Ok-Packet : goal.loop-code-preserved-in-Ok-Packet
loop-code-preserved-in-Ok-Packet c = (goes _ _ _ _ _ c.loop-code.invariant _ _ c.turn_at.ensures (c.in-Ok-Packet.is ∙ ap Ok c.in-Ok-Packet.field-0-is)).2

pub loop-code-smaller : goal.loop-code-smaller
loop-code-smaller c =
    let t = goes _ _ _ _ _ c.loop-code.invariant _ _ c.turn_at.ensures (c.in-Ok-Command.is ∙ ap Ok c.in-Ok-Command.field-0-is) in
    omega (arith, t.0, t.1.upto)

pub loop-code-preserved : goal.loop-code-preserved
loop-code-preserved c = (goes _ _ _ _ _ c.loop-code.invariant _ _ c.turn_at.ensures (c.in-Ok-Command.is ∙ ap Ok c.in-Ok-Command.field-0-is)).1

pub ending-requires : goal.ending-requires
ending-requires c = ((goes _ _ _ _ _ c.loop-code.invariant _ _ c.turn_at.ensures (c.in-Ok-Last.is ∙ ap Ok c.in-Ok-Last.field-0-is)).0, omega arith)

pub returns-in-Ok-Last : goal.returns-in-Ok-Last
returns-in-Ok-Last c = (goes _ _ _ _ _ c.loop-code.invariant _ _ c.turn_at.ensures (c.in-Ok-Last.is ∙ ap Ok c.in-Ok-Last.field-0-is)).1 _ c.ending.ensures

pub returns-in-Err : goal.returns-in-Err
returns-in-Err c = rw c.at.ensures (goes _ _ _ _ _ c.loop-code.invariant _ _ c.turn_at.ensures c.in-Err.is)
