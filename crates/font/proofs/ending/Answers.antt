use mathlib.Core.Path.{◌≡◌, sym, ap, ◌∙◌}
use mathlib.Core.List.{List}
use Prim.Native.Nat.{ℕ, ◌+◌, ◌-◌}
use native.Mathlib.Omega.{arith}
use lib.ListN.{length, take, drop}
use borrow.Author.Tests.{tests}
use Rattle.std.proofs.Common.{rules}
use Rattle.std.specs.Prelude.{nat_eq}
use Rattle.std.proofs.lemmas.Iterator.{YieldsList-from_slice}
use Rattle.std.proofs.lemmas.Iterator.Search.{all_from_yields_List}
use Rattle.format.specs.Lists.{all}
use Rattle.font.proofs.EndingLaws.{list_all_is, from_there, ending_none, ending_four, ending_other, ending_whole}
use Rattle.font.proofs.ending.Goals as goal

pub returns-then-chars-eq0 : goal.returns-then-chars-eq0
returns-then-chars-eq0 c = rw c.at.ensures (ending_none _ _ _ (omega arith))

pub returns-then-font-ne0 : goal.returns-then-font-ne0
returns-then-font-ne0 c = rw c.at-then-font-ne0.ensures (ending_four _ _ _ (omega arith) (λ e. omega arith) (λ e. omega arith))

pub returns-then-not-all : goal.returns-then-not-all
returns-then-not-all c =
    let s = c.args.font.now in
    let n = c.args.at + 1 in
    let e : c.all.result ≡ all 246 (drop n s) = all_from_yields_List (λ x. nat_eq x 246) _ _ c.all.result c.all.ensures.ran (YieldsList-from_slice (take (length s - n) (drop n s)) cc) (λ x b q k. search (rules, tests))
    ∙ list_all_is 246 _ ∙ ap (λ (t : List ℕ). all 246 t) (from_there s n) in
    rw c.at-then-not-all.ensures (ending_other _ _ _ (omega arith) (λ e. omega arith) (sym c.if-not-all.true ∙ e))

pub returns : goal.returns
returns c =
    let s = c.args.font.now in
    let n = c.args.at + 1 in
    let e : c.all.result ≡ all 246 (drop n s) = all_from_yields_List (λ x. nat_eq x 246) _ _ c.all.result c.all.ensures.ran (YieldsList-from_slice (take (length s - n) (drop n s)) cc) (λ x b q k. search (rules, tests))
    ∙ list_all_is 246 _ ∙ ap (λ (t : List ℕ). all 246 t) (from_there s n) in
    ending_whole _ _ _ (omega arith) (λ e. omega arith) (omega arith) (sym c.if-not-all.false ∙ e)
