use Prim.Native.Nat.{◌*◌}
use mathlib.Core.Path.{◌≡◌}
use Rattle.bits.proofs.BitLaws.{upto}
use Rattle.bits.proofs.draw_bits.Given as goal

abbrev pub invariant-loop-i : goal.invariant-loop-i
invariant-loop-i l = l.buf ≡ upto l.s l.initial.buf (8 * l.i)
