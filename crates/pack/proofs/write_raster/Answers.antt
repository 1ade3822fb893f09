use mathlib.Core.Path.{refl, ap, sym, ◌∙◌}
use Prim.Native.Nat.{ℕ}
use native.Mathlib.Omega.{arith}
use lib.ListN.{length}
use Rattle.pack.specs.Bitmaps.{raster_for}
use Rattle.pack.proofs.TestLaws.{raster_bits, raster_runs, bits_long, some_wide}
use Rattle.pack.proofs.write_raster.Goals as goal

pub write_bits-requires : goal.write_bits-requires
write_bits-requires c =
    let l = c.in-None.ensures.none.0 refl in
    let n = bits_long c.args.f c.args.b.rows.w c.args.b.h c.args.b.rows.pixels.now (omega arith) in
    (c.args.b.small, omega (arith, n, c.requires.4))

pub returns-in-None : goal.returns-in-None
returns-in-None c =
    let l = c.in-None.ensures.none.0 refl in
    let e = raster_bits c.args.f c.args.b.rows.w c.args.b.h c.args.b.rows.pixels.now (omega arith) in
    let n = bits_long c.args.f c.args.b.rows.w c.args.b.h c.args.b.rows.pixels.now (omega arith) in
    let w = c.write_bits in
    record { value = rw n w.ensures.value; buf_after = rw e w.ensures.buf_after }

pub write_runs-requires : goal.write_runs-requires
write_runs-requires c =
    let b = c.args.b in
    let f = c.in-Some.f in
    let e = ap (λ (k : ℕ). raster_for k b.rows.w b.h b.rows.pixels.now) (sym c.in-Some.ensures.some) ∙ raster_runs f.n b.rows.w b.h b.rows.pixels.now (λ e. omega (arith, f.small)) in
    (some_wide _ _ c.requires.1 (λ e. omega (arith, f.small, c.in-Some.ensures.some)), c.requires.3, omega (arith, ap length e, c.requires.4))

pub returns-in-Some : goal.returns-in-Some
returns-in-Some c =
    let b = c.args.b in
    let f = c.in-Some.f in
    let e = ap (λ (k : ℕ). raster_for k b.rows.w b.h b.rows.pixels.now) (sym c.in-Some.ensures.some) ∙ raster_runs f.n b.rows.w b.h b.rows.pixels.now (λ e. omega (arith, f.small)) in
    let w = c.write_runs in
    record { value = rw e w.ensures.value; buf_after = rw e w.ensures.buf_after }
