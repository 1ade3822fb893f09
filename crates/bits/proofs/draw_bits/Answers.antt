use Prim.Native.Nat.{◌+◌, ◌-◌, ◌*◌, ◌/◌}
use mathlib.Core.Path.{◌≡◌, refl}
use native.Mathlib.Omega.{arith}
use Rattle.bits.proofs.BitLaws.{upto_more}
use Rattle.bits.proofs.draw_bits.Goals as goal

pub loop-i-preserved : goal.loop-i-preserved
loop-i-preserved c =
    let l = c.loop-i in
    upto_more _ _ l.buf _ _ l.i 8 _ (8 * (l.i + 1)) (omega arith) (omega arith) l.invariant c.eight.ensures refl (omega arith) c.put.ensures

pub returns-then-at-n : goal.returns-then-at-n
returns-then-at-n c =
    let a = c.args in
    let i = a.n / 8 in
    let z : c.loop-i.i ≡ i = omega arith in
    upto_more _ _ c.loop-i.buf _ _ i (a.n - 8 * i) _ a.n (omega arith) (omega arith) (rw z at c.loop-i.invariant) c.eight-then-at-n.ensures refl (omega arith) c.put-then-at-n.ensures
