use mathlib.Core.Path.{refl}
use native.Mathlib.Omega.{arith}
use Rattle.judge.proofs.BitLaws.{bits_few, bits_many, bits_bad, bits_whole, shifted}
use Rattle.judge.proofs.judge_bits.Goals as goal

pub returns-then-s-k : goal.returns-then-s-k
returns-then-s-k c = bits_few _ _ (omega arith)

pub returns-then-k-s : goal.returns-then-k-s
returns-then-k-s c = bits_many _ _ (omega arith)

pub returns-then-last-k-ne0 : goal.returns-then-last-k-ne0
returns-then-last-k-ne0 c =
    bits_bad _ _ _ (omega arith) refl (omega arith) _ c.from-last.ensures (c.type_inv.s _).fits _ (shifted _ (omega arith)) c.if-last-k-ne0.true

pub returns : goal.returns
returns c =
    bits_whole _ _ _ (omega arith) refl (omega arith) _ c.from-last.ensures (c.type_inv.s _).fits _ (shifted _ (omega arith)) c.if-last-k-ne0.false
