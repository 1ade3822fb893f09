use Rattle.bit_bytes.proofs.EightLaws.{whole_is}
use Rattle.bit_bytes.proofs.Pixels.whole.Goals as goal

pub returns : goal.returns
returns c =
    let a = c.args in
    whole_is a.self.bytes.now a.i _ _ _ _ c.two.ensures c.two-2.ensures c.two-3.ensures c.two-4.ensures
