use mir.Syntax.{w32}
use native.Mathlib.Omega.{arith}
use Rattle.measures.specs.Said.{said}
use Rattle.head.proofs.ValueLaws.{offset}
use Rattle.head.proofs.HeadLaws.{long_ok, wrote_long}
use Rattle.head.proofs.write_long.Goals as goal

pub long_values-vs-requires : goal.long_values-vs-requires
long_values-vs-requires c =
    let a = c.args in
    let x = long_ok a.buf.now a.f a.n (said a.m) c.requires.0 in
    let u = offset w32 _ 4294967296 c.ranges.x c.from.ensures c.requires.1 x.right (omega arith) in
    let v = offset w32 _ 4294967296 c.ranges.y c.from-2.ensures c.requires.2 x.down (omega arith) in
    (x.tfm, x.dx, x.dy, u.0, v.0, u.1, v.1)

pub put_head-requires : goal.put_head-requires
put_head-requires c =
    let a = c.args in (
      rw c.long_values-vs.ensures c.requires.0.room,
      c.flag_of-flag.ensures.1,
      rw c.long_values-vs.ensures (long_ok a.buf.now a.f a.n (said a.m) c.requires.0).fit,
    )

pub returns : goal.returns
returns c =
    let a = c.args in
    wrote_long a.f a.black a.n (said a.m) a.buf.now _ c.requires.0
    c.long_values-vs.ensures c.flag_of-flag.ensures.0 c.put_head.ensures
