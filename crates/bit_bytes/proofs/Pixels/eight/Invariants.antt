use Prim.Native.Nat.{◌+◌, ◌-◌}
use Rattle.bit_bytes.proofs.EightLaws.{Eight}
use Rattle.bit_bytes.proofs.Pixels.eight.Given as goal

abbrev pub invariant-loop-j : goal.invariant-loop-j
invariant-loop-j l = Eight l.self.bytes.now l.i l.v l.j (l.i + 8 - l.j)
