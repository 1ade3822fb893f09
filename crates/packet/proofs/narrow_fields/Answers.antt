use native.Mathlib.Omega.{arith}
use Rattle.packet.proofs.FieldsLaws.{upper_fits, length_fits, narrow_is}
use Rattle.packet.proofs.narrow_fields.Goals as goal

pub overflow_mul-upper : goal.overflow_mul-upper
overflow_mul-upper c = upper_fits _ _ _ (omega arith) c.values_of.ensures (omega arith)

pub overflow_add-length : goal.overflow_add-length
overflow_add-length c = length_fits _ _ _ _ _ _ (omega arith) c.values_of.ensures (omega arith) c.number_at.ensures

pub returns : goal.returns
returns c =
    narrow_is _ _ c.args.b _ _ _ _ _ _ _ (omega arith) (omega arith) (omega arith)
    c.values_of.ensures c.number_at.ensures
    c.number_at-code.ensures c.number_at-w.ensures c.number_at-h.ensures
