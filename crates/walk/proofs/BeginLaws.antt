-- What callers need of the cursor before the first pixel: all of the count list is left. Assumes nothing.
use Prim.Native.Nat.{ℕ, ◌*◌, ◌≤◌, ◌<◌}
use mathlib.Core.Path.{◌≡◌, ap, ◌∙◌}
use mathlib.Core.List.{List}
use native.Mathlib.Nat.{mul_comm}
use native.Mathlib.Omega.{arith}
use lib.ListN.{length}
use Rattle.format.specs.Rasters.{rows}
use Rattle.format.specs.Counts.{Pixel, kept, strung, runs, listed, counts}
use Rattle.walk.specs.Walk.{items_left, Inside, begin}
use Rattle.walk.proofs.RowLaws.{rows_are}
use Rattle.walk.proofs.LeftLaws.{left_full}

-- It is in the bitmap.
pub begin_inside : (b : List ℕ) (w h : ℕ) → 0 < w → length b ≡ w * h → length b ≤ 65536 → Inside b w begin
begin_inside b w h p e l =
    record { wide = p; small = l; in_row = omega arith; after = omega arith; few = omega arith; more_rows = h; whole = omega (arith, mul_comm h w) }

-- The items left are the count list.
pub begin_items : (b : List ℕ) (w h : ℕ) → 0 < w → length b ≡ w * h → items_left b w begin ≡ counts (rows w h b)
unfolding items_left counts
begin_items b w h p e =
    ap (λ (ps : List Pixel). listed (runs ps))
    (left_full b w begin (omega arith) ∙ ap (λ (x : List (List ℕ)). strung 0 (kept x)) (rows_are b w 0 h p (omega (arith, mul_comm h w))))
