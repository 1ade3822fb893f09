use native.Mathlib.Omega.{arith}
use Rattle.packed.proofs.Part.{read_past, read_zero, read_mark, read_alone}
use Rattle.packed.proofs.read_number.Goals as goal

pub returns-then-s-at : goal.returns-then-s-at
returns-then-s-at c = read_past _ _ _ (omega arith)

pub returns-in-0 : goal.returns-in-0
returns-in-0 c = read_zero _ _ _ (omega arith) (omega arith) _ _ (omega arith) c.read_large.ensures

pub returns-in-14-to-max : goal.returns-in-14-to-max
returns-in-14-to-max c = read_mark _ _ _ (omega arith) (omega arith) (omega arith)

pub returns-in_default-nybble : goal.returns-in_default-nybble
returns-in_default-nybble c =
    read_alone _ _ _ (omega arith) c.nybble.result c.nybble.ensures.is (c.short_at.ensures.none c.in_default.is) (omega arith) (omega arith)
