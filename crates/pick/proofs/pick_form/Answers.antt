use mathlib.Core.Path.{refl}
use mir.Syntax.{w8, w16, w32}
use native.Mathlib.Omega.{arith}
use Rattle.measures.specs.Said.{said}
use Rattle.sign.proofs.SignLaws.{bound_back, fewer}
use Rattle.pick.proofs.PickLaws.{narrow_offsets, long_offsets, pick_short, pick_extended, pick_long, pick_none}
use Rattle.pick.proofs.pick_form.Goals as goal

pub overflow_cast-result : goal.overflow_cast-result
overflow_cast-result c =
    let a = c.args in
    let h = narrow_offsets _ _ _ _ _ (said a.m) c.narrow_held.ensures c.if-n-narrow_held.true in
    record { sfits = bound_back a.m.hoff 128 h.0 (omega arith) }

pub overflow_cast-result-then-n-narrow_held : goal.overflow_cast-result-then-n-narrow_held
overflow_cast-result-then-n-narrow_held c =
    let a = c.args in
    let h = narrow_offsets _ _ _ _ _ (said a.m) c.narrow_held.ensures c.if-n-narrow_held.true in
    record { sfits = bound_back a.m.voff 128 h.1 (omega arith) }

pub overflow_cast-result-then-n-narrow_held-2 : goal.overflow_cast-result-then-n-narrow_held-2
overflow_cast-result-then-n-narrow_held-2 c =
    let a = c.args in
    let h = narrow_offsets _ _ _ _ _ (said a.m) c.narrow_held-else-n-narrow_held.ensures c.if-n-narrow_held-2.true in
    record { sfits = bound_back a.m.hoff 32768 h.0 (omega arith) }

pub overflow_cast-result-then-n-narrow_held-2-2 : goal.overflow_cast-result-then-n-narrow_held-2-2
overflow_cast-result-then-n-narrow_held-2-2 c =
    let a = c.args in
    let h = narrow_offsets _ _ _ _ _ (said a.m) c.narrow_held-else-n-narrow_held.ensures c.if-n-narrow_held-2.true in
    record { sfits = bound_back a.m.voff 32768 h.1 (omega arith) }

pub overflow_cast-result-then-n-long_held : goal.overflow_cast-result-then-n-long_held
overflow_cast-result-then-n-long_held c =
    let a = c.args in
    let h = long_offsets _ _ (said a.m) c.long_held.ensures c.if-n-long_held.true in
    record { sfits = bound_back a.m.hoff 2147483648 h.0 (omega arith) }

pub overflow_cast-result-then-n-long_held-2 : goal.overflow_cast-result-then-n-long_held-2
overflow_cast-result-then-n-long_held-2 c =
    let a = c.args in
    let h = long_offsets _ _ (said a.m) c.long_held.ensures c.if-n-long_held.true in
    record { sfits = bound_back a.m.voff 2147483648 h.1 (omega arith) }

pub returns-then-n-narrow_held : goal.returns-then-n-narrow_held
returns-then-n-narrow_held c =
    let a = c.args in
    let h = narrow_offsets _ _ _ _ _ (said a.m) c.narrow_held.ensures c.if-n-narrow_held.true in
    let p = pick_short (said a.m) a.n _ c.requires c.whole-dm.ensures c.narrow_held.ensures c.if-n-narrow_held.true in
    (p.0, p.1, fewer w8 _ record { sfits = h.0 } (omega (arith, h.0)) refl, fewer w8 _ record { sfits = h.1 } (omega (arith, h.1)) refl)

pub returns-then-n-narrow_held-2 : goal.returns-then-n-narrow_held-2
returns-then-n-narrow_held-2 c =
    let a = c.args in
    let h = narrow_offsets _ _ _ _ _ (said a.m) c.narrow_held-else-n-narrow_held.ensures c.if-n-narrow_held-2.true in
    let p = pick_extended (said a.m) a.n _ c.requires c.whole-dm.ensures c.narrow_held.ensures c.narrow_held-else-n-narrow_held.ensures c.if-n-narrow_held.false c.if-n-narrow_held-2.true in
    (p.0, p.1, fewer w16 _ record { sfits = h.0 } (omega (arith, h.0)) refl, fewer w16 _ record { sfits = h.1 } (omega (arith, h.1)) refl)

pub returns-then-n-long_held : goal.returns-then-n-long_held
returns-then-n-long_held c =
    let a = c.args in
    let h = long_offsets _ _ (said a.m) c.long_held.ensures c.if-n-long_held.true in
    let p = pick_long (said a.m) a.n _ c.requires c.whole-dm.ensures c.narrow_held.ensures c.narrow_held-else-n-narrow_held.ensures c.if-n-narrow_held.false
    c.long_held.ensures c.if-n-narrow_held-2.false c.if-n-long_held.true in
    (p, fewer w32 _ record { sfits = h.0 } (omega (arith, h.0)) refl, fewer w32 _ record { sfits = h.1 } (omega (arith, h.1)) refl)

pub returns-else-n-long_held : goal.returns-else-n-long_held
returns-else-n-long_held c =
    pick_none (said c.args.m) c.args.n _ c.requires c.whole-dm.ensures c.narrow_held.ensures c.narrow_held-else-n-narrow_held.ensures c.if-n-narrow_held.false
    c.long_held.ensures c.if-n-narrow_held-2.false c.if-n-long_held.false
