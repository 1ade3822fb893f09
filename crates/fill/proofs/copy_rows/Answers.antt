use Prim.Native.Nat.{◌+◌}
use mathlib.Core.Path.{◌≡◌, refl, ap, ◌∙◌}
use native.Mathlib.Omega.{arith}
use native.Mathlib.Nat.{mul-le-mul_right}
use lib.ListN.{length, take}
use Rattle.fill.specs.Rows.{last_row}
use Rattle.fill.proofs.RowLaws.{after, after_none, length_after, rows_more}
use Rattle.fill.proofs.copy_rows.Goals as goal

pub loop-done-init : goal.loop-done-init
loop-done-init c = let a = c.args in (after_none a.buf.now a.at a.w (omega arith) _ refl, omega arith)

pub copy_row-requires : goal.copy_row-requires
copy_row-requires c =
    let a = c.args in
    let l = c.loop-done in
    let p = mul-le-mul_right {m = c.min-more.result} {n = l.done + 1} a.w (omega (arith, c.min-more.ensures)) in
    let q = mul-le-mul_right {m = l.done + c.min-more.result} {n = a.t} a.w (omega (arith, c.min-more.ensures)) in
    let e : length l.buf ≡ length a.buf.now = ap length l.invariant.0 ∙ length_after a.buf.now a.at a.w (omega arith) _ refl l.done (omega (arith, q)) in
    (omega (arith, p), omega (arith, q, e))

pub loop-done-preserved : goal.loop-done-preserved
loop-done-preserved c =
    let a = c.args in
    let l = c.loop-done in
    let q = mul-le-mul_right {m = l.done + c.min-more.result} {n = a.t} a.w (omega (arith, c.min-more.ensures)) in
    (rows_more a.buf.now a.at a.w (omega arith) _ refl l.done c.min-more.result l.buf c.copy_row.new.buf (omega (arith, c.min-more.ensures)) (omega (arith, q)) l.invariant.0 c.copy_row.ensures, omega (arith, c.min-more.ensures))

pub returns : goal.returns
returns c =
    let a = c.args in
    let l = c.loop-done in
    let z : l.done ≡ a.t = omega arith in
    (refl, l.invariant.0 ∙ ap (after a.buf.now a.at a.w (last_row a.w (take a.at a.buf.now))) z)
