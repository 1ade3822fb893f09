use Rattle.size.proofs.LengthLaws.{short_sum}
use Rattle.size.proofs.short_nybbles.Goals as goal

pub returns : goal.returns
returns c = short_sum _ _ _ _ _ c.limit_of.ensures c.one_or_two.ensures c.above.ensures
