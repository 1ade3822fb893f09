use mathlib.Core.Path.{◌≡◌}
use native.Mathlib.Omega.{arith}
use Rattle.bit_bytes.proofs.EightLaws.{bits_more, bits_is}
use Rattle.bit_bytes.proofs.write_bits.Goals as goal

pub loop-k-preserved : goal.loop-k-preserved
loop-k-preserved c = bits_more _ _ c.loop-k.invariant (omega arith) c.eight.ensures.0 (omega arith) (omega arith)

pub returns-clause-buf_after : goal.returns-clause-buf_after
returns-clause-buf_after c =
    let e : c.div_ceil-n.result ≡ c.loop-k.k = omega arith in
    rw e (bits_is c.loop-k.invariant (omega arith))
