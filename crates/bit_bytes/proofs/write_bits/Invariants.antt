use Prim.Native.Nat.{◌+◌, ◌*◌}
use Rattle.bit_bytes.proofs.EightLaws.{Bits}
use Rattle.bit_bytes.proofs.write_bits.Given as goal

abbrev pub invariant-loop-k : goal.invariant-loop-k
invariant-loop-k l = Bits l.b.bytes.now l.initial.buf l.at l.buf (8 * l.k) (l.at + l.k)
