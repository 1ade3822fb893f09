-- Runs kept, one after the other. Assumes nothing.
use Rattle.std.proofs.Common.{◌≡◌, ℕ, zero, suc, ◌+◌, ◌≤◌, ◌<◌, List, [], ◌∷◌, ◌++◌, length, take, set, refl, sym, ap, ◌∙◌, append_assoc, append-nil, arith}
use Rattle.std.specs.List.{All}
use Rattle.std.proofs.lemmas.List.{take_more_set}
use Rattle.std.proofs.lemmas.List.Elements.{All-append}
use Rattle.format.specs.Rasters.{Item, run}
use Rattle.format.specs.Counts.{before}
use Rattle.walk.specs.declared.Cursor.{Cursor}
use Rattle.walk.specs.Walk.{items_left, Inside, Next}
use Rattle.part.specs.declared.Run.{Run}
use Rattle.part.specs.Parts.{kept, Small, Walked}

-- A run with the repeat before it, and then other items.
run_then : (k m : ℕ) (is : List Item) → before m (run k ∷ is) ≡ before m (run k ∷ []) ++ is
unfolding before
run_then k zero is = refl
run_then k (suc zero) is = refl
run_then k (suc (suc m)) is = refl

-- The items of runs, and then of others.
pub kept-append : (rs ss : List Run) → kept (rs ++ ss) ≡ kept rs ++ kept ss
unfolding kept
kept-append [] ss = refl
kept-append (r ∷ rs) ss = ap (λ (is : List Item). before r.repeat (run r.length ∷ []) ++ is) (kept-append rs ss) ∙ sym (append_assoc (before r.repeat (run r.length ∷ [])) (kept rs) (kept ss))

pub kept_one : (r : Run) → kept (r ∷ []) ≡ before r.repeat (run r.length ∷ [])
unfolding kept
kept_one r = append-nil (before r.repeat (run r.length ∷ []))

small_one : (r : Run) → Small r → All Small (r ∷ [])
small_one r s zero d h = s
small_one r s (suc k) d h = absurd (omega arith)

-- Nothing is kept yet.
pub walked_none : (b : List ℕ) (w : ℕ) (c : Cursor) (rs : List Run) → Inside b w c → Walked b w c (record { runs = rs; n = 0; cursor = c })
unfolding kept
walked_none b w c rs i = record { items = refl; most = omega arith; runs = λ k d h. absurd (omega arith); further = omega arith; inside = i }

-- The next run fits, and is kept.
pub length_fits : {b : List ℕ} {w : ℕ} {d e : Cursor} {k m : ℕ} → Next b w d k m e → (k ≤ 65536) × (m ≤ 65536)
length_fits x = let s = x.inside.small in (omega (arith, x.many), omega (arith, x.few))

pub walked_more : {b : List ℕ} {w : ℕ} {c d e : Cursor} {rs : List Run} {n k m : ℕ} → Walked b w c (record { runs = rs; n = n; cursor = d }) → n < 512 → length rs ≡ 512 → Next b w d k m e
    → Walked b w c (record { runs = set rs n (record { length = k; repeat = m }); n = n + 1; cursor = e })
walked_more {b} {w} {c} {d} {e} {rs} {n} {k} {m} g l z x =
    let s = length_fits x in
    let r : Run = record { length = k; repeat = m } in
    let q : take (n + 1) (set rs n r) ≡ take n rs ++ r ∷ [] = take_more_set rs n r (omega arith) in
    let t : kept (take n rs) ++ before m (run k ∷ []) ≡ kept (take (n + 1) (set rs n r)) = sym (ap kept q ∙ kept-append (take n rs) (r ∷ []) ∙ ap (λ (is : List Item). kept (take n rs) ++ is) (kept_one r)) in
    record {
      items = g.items ∙ ap (λ (is : List Item). kept (take n rs) ++ is) (x.items ∙ run_then k m (items_left b w e)) ∙ sym (append_assoc (kept (take n rs)) (before m (run k ∷ [])) (items_left b w e))
          ∙ ap (λ (is : List Item). is ++ items_left b w e) t;
      most = omega arith;
      runs = rw q (All-append Small (take n rs) (r ∷ []) g.runs (small_one r (record { some = x.some; many = s.0; few = s.1 })));
      further = omega (arith, g.further, x.further);
      inside = x.inside;
    }
