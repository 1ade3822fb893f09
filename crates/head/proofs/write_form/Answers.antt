use Rattle.measures.specs.Said.{said}
use Rattle.head.proofs.HeadLaws.{ready_short, ready_extended, ready_long}
use Rattle.head.proofs.write_form.Goals as goal

pub write_short-requires : goal.write_short-requires
write_short-requires c =
    let a = c.args in
    ready_short a.buf.now a.f (said a.m) a.n a.k c.requires _ _ _ c.in-Short.is

pub write_extended-requires : goal.write_extended-requires
write_extended-requires c =
    let a = c.args in
    ready_extended a.buf.now a.f (said a.m) a.n a.k c.requires _ _ _ c.in-Extended.is

pub write_long-requires : goal.write_long-requires
write_long-requires c =
    let a = c.args in
    ready_long a.buf.now a.f (said a.m) a.n a.k c.requires _ _ c.in-Long.is
