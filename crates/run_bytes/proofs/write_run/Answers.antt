use native.Mathlib.Omega.{arith}
use Rattle.run_bytes.proofs.WritingLaws.{room_run, put_run}
use Rattle.run_bytes.proofs.write_run.Goals as goal

pub write_repeat-j-requires : goal.write_repeat-j-requires
write_repeat-j-requires c = let p = c.requires in (p.0.few, omega (arith, room_run c.args.buf.now c.args.i c.args.f.n c.args.r.length c.args.r.repeat p.1))

pub write_number-requires : goal.write_number-requires
write_number-requires c =
    let p = c.requires in
    (p.0.some, p.0.many, omega (arith, c.write_repeat-j.ensures.place, room_run c.args.buf.now c.args.i c.args.f.n c.args.r.length c.args.r.repeat p.1))

pub returns : goal.returns
returns c = put_run _ _ _ _ _ _ _ _ _ c.write_repeat-j.ensures c.write_number.ensures
