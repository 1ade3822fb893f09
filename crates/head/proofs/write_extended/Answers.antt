use mir.Syntax.{w16}
use native.Mathlib.Omega.{arith}
use Rattle.measures.specs.Said.{said}
use Rattle.head.proofs.ValueLaws.{offset}
use Rattle.head.proofs.HeadLaws.{extended_ok, wrote_extended}
use Rattle.head.proofs.write_extended.Goals as goal

pub narrow_values-vs-requires : goal.narrow_values-vs-requires
narrow_values-vs-requires c =
    let a = c.args in
    let x = extended_ok a.buf.now a.f a.n a.dm.0 (said a.m) c.requires.1 c.requires.0 in
    let u = offset w16 _ 65536 c.ranges.x c.from.ensures c.requires.2 x.right (omega arith) in
    let v = offset w16 _ 65536 c.ranges.y c.from-2.ensures c.requires.3 x.down (omega arith) in
    (omega arith, u.0, v.0, u.1, v.1)

pub put_head-requires : goal.put_head-requires
put_head-requires c =
    let a = c.args in (
      rw c.narrow_values-vs.ensures c.requires.0.room,
      c.flag_of-flag.ensures.1,
      rw c.narrow_values-vs.ensures (extended_ok a.buf.now a.f a.n a.dm.0 (said a.m) c.requires.1 c.requires.0).fit,
    )

pub returns : goal.returns
returns c =
    let a = c.args in
    wrote_extended a.f a.black a.n (said a.m) a.buf.now _ a.dm.0 c.requires.1 c.requires.0
    c.narrow_values-vs.ensures c.flag_of-flag.ensures.0 c.put_head.ensures
