use native.Mathlib.Omega.{arith}
use Rattle.measures.proofs.SaidLaws.{narrow_said}
use Rattle.measures.proofs.narrow.Goals as goal

pub returns : goal.returns
returns c =
    narrow_said c.args.s.now c.args.at c.args.m _ _ _ _ _ _ _ (omega arith) (omega arith) c.requires.3
    c.number_at-tfm.ensures
    c.number_at-dm.ensures
    c.from.ensures
    c.from-2.ensures
    (record { fits = record { sfits = c.signed_at-hoff.type_inv }; is = c.signed_at-hoff.ensures })
    (record { fits = record { sfits = c.signed_at-voff.type_inv }; is = c.signed_at-voff.ensures })
