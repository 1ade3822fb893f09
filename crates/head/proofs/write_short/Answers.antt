use mir.Syntax.{w8}
use native.Mathlib.Omega.{arith}
use Rattle.measures.specs.Said.{said}
use Rattle.head.proofs.ValueLaws.{offset}
use Rattle.head.proofs.HeadLaws.{short_ok, short_flag, wrote_short}
use Rattle.head.proofs.write_short.Goals as goal

pub narrow_values-vs-requires : goal.narrow_values-vs-requires
narrow_values-vs-requires c =
    let a = c.args in
    let x = short_ok a.buf.now a.f a.n a.dm.0 (said a.m) c.requires.1 c.requires.0 in
    let u = offset w8 _ 256 c.ranges.x c.from.ensures c.requires.2 x.right (omega arith) in
    let v = offset w8 _ 256 c.ranges.y c.from-2.ensures c.requires.3 x.down (omega arith) in
    (omega arith, u.0, v.0, u.1, v.1)

pub flag_of-flag-requires : goal.flag_of-flag-requires
flag_of-flag-requires c =
    let a = c.args in
    (c.requires.0.most, short_flag a.buf.now a.f a.n (said a.m) c.requires.0)

pub put_short-requires : goal.put_short-requires
put_short-requires c =
    let a = c.args in (
      c.requires.0.room,
      c.flag_of-flag.ensures.1,
      rw c.narrow_values-vs.ensures (short_ok a.buf.now a.f a.n a.dm.0 (said a.m) c.requires.1 c.requires.0).fit,
    )

pub returns : goal.returns
returns c =
    let a = c.args in
    wrote_short a.f a.black a.n (said a.m) a.buf.now _ a.dm.0 c.requires.1 c.requires.0 c.flag_of-flag.ensures.0 (rw c.narrow_values-vs.ensures at c.put_short.ensures)
