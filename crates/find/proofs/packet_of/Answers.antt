use native.Mathlib.Omega.{arith}
use Rattle.find.proofs.GoingLaws.{going_start, goes}
use Rattle.find.proofs.packet_of.Goals as goal

pub loop-x-init : goal.loop-x-init
loop-x-init c = going_start _ _ _ c.requires c.first_place-at.ensures

pub returns-then-x-code : goal.returns-then-x-code
returns-then-x-code c = (goes _ _ _ _ c.loop-x.invariant (rw c.in-Ok-Packet.field-0-is at c.in-Ok-Packet.ensures)).1 c.if-x-code.true

pub loop-x-smaller-in-Ok-Packet : goal.loop-x-smaller-in-Ok-Packet
loop-x-smaller-in-Ok-Packet c =
    let t = goes _ _ _ _ c.loop-x.invariant (rw c.in-Ok-Packet.field-0-is at c.in-Ok-Packet.ensures) in
    omega (arith, t.0, (t.2 c.if-x-code.false).rest.upto)

pub loop-x-preserved-in-Ok-Packet : goal.loop-x-preserved-in-Ok-Packet
loop-x-preserved-in-Ok-Packet c = (goes _ _ _ _ c.loop-x.invariant (rw c.in-Ok-Packet.field-0-is at c.in-Ok-Packet.ensures)).2 c.if-x-code.false

pub loop-x-smaller : goal.loop-x-smaller
loop-x-smaller c =
    let t = goes _ _ _ _ c.loop-x.invariant (rw c.in-Ok-Command.field-0-is at c.in-Ok-Command.ensures) in
    omega (arith, t.0, t.1.rest.upto)

pub loop-x-preserved : goal.loop-x-preserved
loop-x-preserved c = (goes _ _ _ _ c.loop-x.invariant (rw c.in-Ok-Command.field-0-is at c.in-Ok-Command.ensures)).1

pub returns-in-Ok-Last : goal.returns-in-Ok-Last
returns-in-Ok-Last c = goes _ _ _ _ c.loop-x.invariant (rw c.in-Ok-Last.field-0-is at c.in-Ok-Last.ensures)

pub returns-in-Err : goal.returns-in-Err
returns-in-Err c = absurd (goes _ _ _ _ c.loop-x.invariant c.in-Err.ensures)
