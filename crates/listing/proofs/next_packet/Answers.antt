use native.Mathlib.Omega.{arith}
use Rattle.listing.proofs.NextLaws.{goes}
use Rattle.listing.proofs.next_packet.Goals as goal

pub entry_at-requires : goal.entry_at-requires
entry_at-requires c = (goes _ _ _ _ c.loop-x.invariant (rw c.in-Ok-Packet.field-0-is at c.in-Ok-Packet.ensures)).0

pub returns-in-Ok-Packet : goal.returns-in-Ok-Packet
returns-in-Ok-Packet c = (goes _ _ _ _ c.loop-x.invariant (rw c.in-Ok-Packet.field-0-is at c.in-Ok-Packet.ensures)).1 c.entry_at.result c.entry_at.ensures

pub loop-x-smaller : goal.loop-x-smaller
loop-x-smaller c =
    let t = goes _ _ _ _ c.loop-x.invariant (rw c.in-Ok-Command.field-0-is at c.in-Ok-Command.ensures) in
    omega (arith, t.0, t.1)

pub loop-x-preserved : goal.loop-x-preserved
loop-x-preserved c = (goes _ _ _ _ c.loop-x.invariant (rw c.in-Ok-Command.field-0-is at c.in-Ok-Command.ensures)).2

pub returns-in-Ok-Last : goal.returns-in-Ok-Last
returns-in-Ok-Last c = goes _ _ _ _ c.loop-x.invariant (rw c.in-Ok-Last.field-0-is at c.in-Ok-Last.ensures)

pub returns-in-Err : goal.returns-in-Err
returns-in-Err c = absurd (goes _ _ _ _ c.loop-x.invariant c.in-Err.ensures)
