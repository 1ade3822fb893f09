use Prim.Native.Nat.{◌+◌, ◌-◌}
use lib.ListN.{length}
use Rattle.run_bytes.proofs.WritingLaws.{Writing}
use Rattle.run_bytes.proofs.write_nybbles.Given as goal

abbrev pub invariant-loop-f : goal.invariant-loop-f
invariant-loop-f l = Writing l.rows.pixels.now l.rows.w l.f.n l.initial.buf l.i l.buf l.to l.part

abbrev pub decreases-loop-f : goal.decreases-loop-f
decreases-loop-f l = length l.rows.pixels.now - l.part.cursor.at + l.part.n
