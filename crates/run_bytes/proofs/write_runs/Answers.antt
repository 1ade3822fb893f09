use mathlib.Core.Path.{◌≡◌}
use Prim.Native.Nat.{◌+◌, ◌/◌}
use native.Mathlib.Omega.{arith}
use Rattle.walk.proofs.BeginLaws.{begin_items}
use Rattle.run_bytes.proofs.WritingLaws.{room_halves, halves_end, halves_are}
use Rattle.run_bytes.proofs.write_runs.Goals as goal

pub write_nybbles-requires : goal.write_nybbles-requires
write_nybbles-requires c =
    (c.first.ensures, rw (begin_items _ _ _ c.requires.0 c.args.b.size) (room_halves c.args.buf.now _ _ c.requires.2))

pub returns-clause-value : goal.returns-clause-value
returns-clause-value c =
    let p = rw (begin_items _ _ _ c.requires.0 c.args.b.size) at c.write_nybbles.ensures in
    omega (arith, c.div_ceil.ensures, halves_end _ _ _ _ p)

pub returns-clause-buf_after : goal.returns-clause-buf_after
returns-clause-buf_after c =
    let p = rw (begin_items _ _ _ c.requires.0 c.args.b.size) at c.write_nybbles.ensures in
    let e : c.div_ceil.result ≡ (c.write_nybbles.result + 1) / 2 = omega (arith, c.div_ceil.ensures) in
    rw e (halves_are _ _ _ _ c.requires.2 p)
