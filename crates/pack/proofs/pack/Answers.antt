use mathlib.Core.Path.{refl, sym, ◌∙◌}
use native.Mathlib.Omega.{arith}
use mir.Facts.{to_z-of_z}
use Rattle.pack.proofs.PacketLaws.{outside_refused, length_refused, pixels_refused, code_refused}
use Rattle.pack.proofs.CallLaws.{test_is, known, code_test}
use Rattle.pack.proofs.pack.Goals as goal

pub returns-then-not-within_limits : goal.returns-then-not-within_limits
returns-then-not-within_limits c =
    let e = outside_refused _ _ _ (test_is _ _ _ _ (search to_z-of_z) (search to_z-of_z) c.within_limits.ensures (c.if-not-within_limits.true)) in
    rw c.at.ensures (record { result_value = e.0; packet_after = e.1 })

pub overflow_mul-w : goal.overflow_mul-w
overflow_mul-w c =
    let a = c.args.m in
    let k = known a.w a.h _ c.magnitude-w.result c.magnitude-h.result (search to_z-of_z) (search to_z-of_z) c.within_limits.ensures (c.if-not-within_limits.false) c.magnitude-w.ensures.0 c.magnitude-h.ensures.0 in
    omega (arith, k.small)

pub returns-then-bitmap-w : goal.returns-then-bitmap-w
returns-then-bitmap-w c =
    let a = c.args.m in
    let k = known a.w a.h _ c.magnitude-w.result c.magnitude-h.result (search to_z-of_z) (search to_z-of_z) c.within_limits.ensures (c.if-not-within_limits.false) c.magnitude-w.ensures.0 c.magnitude-h.ensures.0 in
    let e = length_refused _ _ _ k.limits (λ e. c.if-bitmap-w.true (e ∙ rw (← k.wide, ← k.high) refl)) in
    rw c.at-then-bitmap-w.ensures (record { result_value = e.0; packet_after = e.1 })

pub returns-then-not-all_pixels : goal.returns-then-not-all_pixels
returns-then-not-all_pixels c =
    let a = c.args.m in
    let k = known a.w a.h _ c.magnitude-w.result c.magnitude-h.result (search to_z-of_z) (search to_z-of_z) c.within_limits.ensures (c.if-not-within_limits.false) c.magnitude-w.ensures.0 c.magnitude-h.ensures.0 in
    let e = pixels_refused _ _ _ k.limits (rw (← k.wide, ← k.high) c.if-bitmap-w.false) (sym c.all_pixels.ensures ∙ c.if-not-all_pixels.true) in
    rw c.at-then-not-all_pixels.ensures (record { result_value = e.0; packet_after = e.1 })

pub returns-then-not-is_code : goal.returns-then-not-is_code
returns-then-not-is_code c =
    let a = c.args.m in
    let k = known a.w a.h _ c.magnitude-w.result c.magnitude-h.result (search to_z-of_z) (search to_z-of_z) c.within_limits.ensures (c.if-not-within_limits.false) c.magnitude-w.ensures.0 c.magnitude-h.ensures.0 in
    let e = code_refused _ _ _ k.limits (rw (← k.wide, ← k.high) c.if-bitmap-w.false) (sym c.all_pixels.ensures ∙ c.if-not-all_pixels.false)
    (code_test a.code _ _ (search to_z-of_z) c.is_code.ensures (c.if-not-is_code.true)) in
    rw c.at-then-not-is_code.ensures (record { result_value = e.0; packet_after = e.1 })

pub pack_judged-requires : goal.pack_judged-requires
pack_judged-requires c =
    let a = c.args.m in
    let k = known a.w a.h _ c.magnitude-w.result c.magnitude-h.result (search to_z-of_z) (search to_z-of_z) c.within_limits.ensures (c.if-not-within_limits.false) c.magnitude-w.ensures.0 c.magnitude-h.ensures.0 in
    record {
      judged = record { limits = k.limits; code = code_test a.code _ _ (search to_z-of_z) c.is_code.ensures (c.if-not-is_code.false) };
      wide = k.wide;
      high = k.high;
      size = c.if-bitmap-w.false;
      pixels = sym c.all_pixels.ensures ∙ c.if-not-all_pixels.false;
    }

pub invariant_of-b : goal.invariant_of-b
invariant_of-b c =
    let a = c.args.m in
    let k = known a.w a.h _ c.magnitude-w.result c.magnitude-h.result (search to_z-of_z) (search to_z-of_z) c.within_limits.ensures (c.if-not-within_limits.false) c.magnitude-w.ensures.0 c.magnitude-h.ensures.0 in
    record { size = c.if-bitmap-w.false; small = rw c.if-bitmap-w.false k.small }
