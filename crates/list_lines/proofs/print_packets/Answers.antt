use native.Mathlib.Omega.{arith}
use Rattle.listing.proofs.NextLaws.{comes_on}
use Rattle.list_lines.proofs.print_packets.Goals as goal

pub loop-e-smaller : goal.loop-e-smaller
loop-e-smaller g c =
    let t = comes_on _ _ _ c.in-Some.e _ c.loop-e.invariant c.next_packet.ensures c.in-Some.is in
    omega (arith, t.0, t.1)

pub loop-e-preserved : goal.loop-e-preserved
loop-e-preserved g c =
    (comes_on _ _ _ c.in-Some.e _ c.loop-e.invariant c.next_packet.ensures c.in-Some.is).2
