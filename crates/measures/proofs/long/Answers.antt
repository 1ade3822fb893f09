use Rattle.measures.proofs.SaidLaws.{long_said}
use Rattle.measures.proofs.long.Goals as goal

pub returns : goal.returns
returns c =
    long_said c.args.s.now c.args.at _ _ _ _ _ _ c.requires.1
    (record { fits = record { sfits = c.signed_at-tfm.type_inv }; is = c.signed_at-tfm.ensures })
    (record { fits = record { sfits = c.signed_at-dx.type_inv }; is = c.signed_at-dx.ensures })
    (record { fits = record { sfits = c.signed_at-dy.type_inv }; is = c.signed_at-dy.ensures })
    (record { fits = record { sfits = c.signed_at-hoff.type_inv }; is = c.signed_at-hoff.ensures })
    (record { fits = record { sfits = c.signed_at-voff.type_inv }; is = c.signed_at-voff.ensures })
