use Prim.Native.Nat.{◌<◌}
use mathlib.Core.Path.{sym, subst}
use Rattle.walk.specs.Walk.{begin}
use Rattle.part.specs.Parts.{Kept}
use native.Mathlib.Omega.{arith}
use Rattle.size.proofs.TotalLaws.{not_full, sum_more, sum_end}
use Rattle.size.proofs.sizes.Goals as goal

pub loop-part-preserved : goal.loop-part-preserved
loop-part-preserved c = sum_more _ c.loop-part.invariant (rw c.runs.ensures at c.add_part.ensures) _ (c.is_full.ensures.0 c.if-not-is_full.false) c.walk_on.ensures

pub returns-then-several : goal.returns-then-several
returns-then-several c = record {
  sizes = sum_end _ c.loop-part.invariant (rw c.runs.ensures at c.add_part.ensures) (not_full c.is_full.ensures c.if-not-is_full.true);
  stays = λ h. absurd (omega (arith, c.is_full-several.ensures.0 c.if-several.true));
  first = record { whole = λ h. absurd (omega arith) };
}

pub returns-else-several : goal.returns-else-several
returns-else-several c =
    let l : c.loop-part.part.n < 512 = not_full c.is_full.ensures c.if-not-is_full.true in
    let e = (c.loop-part.invariant.whole c.if-several.false).1 in
    record {
      sizes = sum_end _ c.loop-part.invariant (rw c.runs.ensures at c.add_part.ensures) l;
      stays = λ h. e;
      first = record { whole = λ h. subst (Kept c.args.rows.pixels.now c.args.rows.w begin) (sym e) c.requires };
    }
