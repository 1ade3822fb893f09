use Rattle.size.proofs.LengthLaws.{digit_sum}
use Rattle.size.proofs.digit_nybbles.Goals as goal

pub returns : goal.returns
returns c = digit_sum _ _ _ _ _ _ c.limit_of-most.ensures c.above.ensures c.above-2.ensures c.above-3.ensures
