use mathlib.Core.Path.{◌≡◌, refl, sym, subst}
use Rattle.format.specs.Reading.{ReadWhole}
use native.Mathlib.Omega.{arith}
use Rattle.format.proofs.FillLaws.{limited}
use Rattle.raster.proofs.KindLaws.{no_pixels, bits_enough, bit_pixels}
use borrow.Author.Rules.{rules}
use Rattle.raster.proofs.draw_raster.Goals as goal

pub returns-then-w-eq0 : goal.returns-then-w-eq0
returns-then-w-eq0 c = no_pixels _ _ _ _ _ _ (omega arith)

pub draw_bits-requires : goal.draw_bits-requires
draw_bits-requires c =
    let z = limited c.args.w c.args.h c.requires.1 (λ e. omega arith) in
    let e : c.args.f ≡ 14 = omega (arith, c.in-None.ensures.none.0 refl) in
    (z.small, bits_enough c.args.f c.args.black c.args.w c.args.h c.args.s.now c.args.s.now (λ e. omega arith) e c.requires.3, search rules)

pub returns-in-None : goal.returns-in-None
returns-in-None c =
    bit_pixels _ c.args.black _ _ _ _ _ (λ e. omega arith) (omega (arith, c.in-None.ensures.none.0 refl)) c.requires.3 c.draw_bits.ensures

pub draw_runs-requires : goal.draw_runs-requires
draw_runs-requires c =
    let z = limited c.args.w c.args.h c.requires.1 (λ e. omega arith) in
    (omega arith, z.high, z.small, search rules, subst (λ f. ReadWhole f c.args.w c.args.h c.args.s.now) (sym c.in-Some.ensures.some) c.requires.3)
