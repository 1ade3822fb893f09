use Prim.Native.Nat.{◌-◌}
use Rattle.packed.proofs.Part.{Summed}
use Rattle.packed.proofs.read_digits.Given as goal

abbrev pub invariant-loop-j : goal.invariant-loop-j
invariant-loop-j l = Summed l.s l.at l.z l.first (l.next - l.j) l.k l.j
