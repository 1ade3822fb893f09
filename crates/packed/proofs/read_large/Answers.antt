use native.Mathlib.Omega.{arith}
use Rattle.packed.proofs.Part.{large_none, large_some}
use Rattle.packed.proofs.read_large.Goals as goal

pub returns-then-end-j : goal.returns-then-end-j
returns-then-end-j c = large_none _ _ _ _ c.skip_zeros-j.ensures (omega arith)

pub returns : goal.returns
returns c =
    large_some _ _ _ _ c.skip_zeros-j.ensures _ _ _ (omega arith)
    c.nybble-a.ensures.is (omega arith) c.read_digits.ensures
