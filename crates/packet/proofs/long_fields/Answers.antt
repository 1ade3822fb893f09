use Rattle.packet.proofs.FieldsLaws.{long_is}
use Rattle.packet.proofs.long_fields.Goals as goal

pub returns : goal.returns
returns c =
    long_is _ _ _ _ _ _ c.number_at-length.ensures c.number_at-code.ensures c.number_at-w.ensures c.number_at-h.ensures
