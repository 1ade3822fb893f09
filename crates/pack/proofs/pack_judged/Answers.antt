use Prim.Native.Nat.{◌+◌, ◌≤◌}
use mathlib.Core.Path.{ap, ◌∙◌}
use native.Mathlib.Omega.{arith}
use mathlib.Core.Bool.{Bool}
use mathlib.Core.List.{◌++◌}
use lib.ListN.{length, drop}
use Rattle.measures.specs.Said.{said}
use Rattle.std.specs.Prelude.{Some}
use Rattle.head.specs.Head.{head_for, head_length}
use Rattle.pack.proofs.PacketLaws.{none_refused, short_refused, done_answer, done_buffer, choice_f, choice_bytes_lem}
use Rattle.pack.proofs.pack_judged.Goals as goal

pub returns-in_default : goal.returns-in_default
returns-in_default c =
    let e = none_refused _ _ _ _ c.requires c.args.buf.now c.choose-chosen.result c.choose-chosen.ensures.chosen c.in_default.ensures in
    rw c.at.ensures (record { result_value = e.0; buf_after = e.1 })

pub returns-then-buf-head : goal.returns-then-buf-head
returns-then-buf-head c =
    let e = short_refused _ _ _ _ c.requires c.args.buf.now c.choose-chosen.result c.choose-chosen.ensures.chosen c.in-Some.form c.in-Some.ensures (omega (arith, c.head_length-head.ensures)) in
    rw c.at-then-buf-head.ensures (record { result_value = e.0; buf_after = e.1 })

pub write_head-at-requires : goal.write_head-at-requires
write_head-at-requires c =
    ((choice_f _ _ _ _ c.choose-chosen.ensures.chosen).0, c.choose-chosen.ensures.chosen.most, c.requires.judged, c.in-Some.ensures, omega (arith, c.head_length-head.ensures))

pub write_raster-requires : goal.write_raster-requires
write_raster-requires c =
    let f = choice_f _ _ _ _ c.choose-chosen.ensures.chosen in
    (f.0, f.1, c.requires.pixels, c.choose-chosen.ensures.first, omega (arith, c.write_head-at.ensures.value, c.head_length-head.ensures, choice_bytes_lem _ _ _ _ c.choose-chosen.ensures.chosen))

pub returns : goal.returns
returns c =
    let n = c.args.buf.now in
    let r = c.choose-chosen.result in
    let k = c.in-Some.form in
    let e = c.in-Some.ensures in
    let l : head_length (Some k) + r.bytes ≤ length n = omega (arith, c.head_length-head.ensures) in
    record {
      result_value = done_answer _ _ _ _ c.requires n r c.choose-chosen.ensures.chosen k e l _ (omega (arith, c.write_raster.ensures.value, c.write_head-at.ensures.value));
      buf_after = done_buffer _ _ _ _ c.requires n r c.choose-chosen.ensures.chosen k e l c.write_head-at.result _ _ _ c.write_head-at.ensures.value
          (c.write_head-at.ensures.buf_after ∙ ap (λ (x : Bool). head_for r.f x (said c.args.m) r.bytes (Some k) ++ drop c.write_head-at.result n) c.first_black-black.ensures)
          c.write_raster.ensures.value c.write_raster.ensures.buf_after;
    }
