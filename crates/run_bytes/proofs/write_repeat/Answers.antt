use native.Mathlib.Omega.{arith}
use Rattle.run_bytes.proofs.WritingLaws.{put_nothing, room_one, put_repeat, room_more, put_repeats}
use Rattle.run_bytes.proofs.write_repeat.Goals as goal

pub returns-in-0 : goal.returns-in-0
returns-in-0 c = put_nothing _ _ _ _ (omega arith)

pub put_nybble-requires : goal.put_nybble-requires
put_nybble-requires c = (room_one c.args.buf.now _ c.args.f.n c.args.m (omega arith) c.requires.1, omega arith)

pub returns-in-1 : goal.returns-in-1
returns-in-1 c = put_repeat _ _ _ _ _ (omega arith) c.put_nybble.ensures

pub put_nybble-requires-in_default : goal.put_nybble-requires-in_default
put_nybble-requires-in_default c = omega (arith, room_more c.args.buf.now c.args.i c.args.f.n c.args.m (λ z. omega arith) (λ z. omega arith) c.requires.1)

pub write_number-requires : goal.write_number-requires
write_number-requires c = omega (arith, room_more c.args.buf.now c.args.i c.args.f.n c.args.m (λ z. omega arith) (λ z. omega arith) c.requires.1)

pub returns-in_default : goal.returns-in_default
returns-in_default c = put_repeats _ _ _ _ _ _ _ (λ z. omega arith) (λ z. omega arith) c.put_nybble-in_default.ensures c.write_number.ensures
