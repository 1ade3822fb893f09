use mathlib.Core.Path.{refl}
use native.Mathlib.Omega.{arith}
use Rattle.packed.proofs.Part.{short_past, short_zero, short_one, short_mark, short_alone, short_two}
use Rattle.packed.proofs.short_at.Goals as goal

pub returns-then-end-at : goal.returns-then-end-at
returns-then-end-at c = short_past _ _ _ (omega arith)

pub returns-then-a-eq0 : goal.returns-then-a-eq0
returns-then-a-eq0 c = short_zero _ _ _ (omega arith) c.nybble-a.result c.nybble-a.ensures.is (omega arith)

pub returns-then-a-gt13 : goal.returns-then-a-gt13
returns-then-a-gt13 c = short_mark _ _ _ (omega arith) c.nybble-a.result c.nybble-a.ensures.is (omega arith) (omega arith)

pub returns-then-a-f : goal.returns-then-a-f
returns-then-a-f c =
    short_one _ _ _ (omega arith) c.nybble-a.result c.nybble-a.ensures.is _ (omega arith) (omega arith) (omega arith) refl

pub returns-then-end-next : goal.returns-then-end-next
returns-then-end-next c = short_alone _ _ _ (omega arith) c.nybble-a.result c.nybble-a.ensures.is (omega arith) (omega arith)

pub returns : goal.returns
returns c =
    let n = c.nybble-a in
    short_two _ _ _ (omega arith) n.result n.ensures.is c.nybble-b.result _ _ (omega arith) (omega arith) (omega arith) c.nybble-b.ensures.is (omega arith) refl (omega arith)
