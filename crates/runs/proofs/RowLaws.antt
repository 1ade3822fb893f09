-- What a run leaves in the buffer, as rows: those that are full, and the one that is begun. Assumes nothing.
use Prim.Native.Nat.{ℕ, zero, suc, ◌+◌, ◌-◌, ◌*◌, ◌/◌, ◌≤◌, ◌<◌}
use mathlib.Core.Path.{◌≡◌, refl, sym, ap, ◌∙◌}
use mathlib.Core.List.{List, [], ◌∷◌, ◌++◌, append_assoc, append-nil}
use native.Mathlib.Nat.{div-eq_of_lt, div-mul-le_self}
use native.Mathlib.Omega.{arith}
use lib.ListN.{length, take, drop, replicate, length-append, length-drop, length-take, length-replicate, take-append-drop, replicate-append-replicate}
use lib.Seq.{take_at, drop_at, drop-drop}
use borrow.Author.Tests.{lt-ltb, le-ltb}
use Rattle.format.specs.Rasters.{run, joined}
use Rattle.format.specs.Reading.{State, row_end, row_ends, advanced}
use Rattle.format.proofs.Behind.{behind}
use Rattle.format.proofs.Tests.{split}
use Rattle.format.proofs.StateLaws.{ends_col, ends_row}
use Rattle.format.proofs.ItemwiseLaws.{filled_rows, item_state, item_rows, item_begun}
use Rattle.fill.specs.Rows.{filled, times}
use Rattle.fill.proofs.RowLaws.{length-times}
use Rattle.state.proofs.MoveLaws.{some_end}
use Rattle.runs.specs.Runs.{place_of, begun, with_run}

-- Rows joined.

-- Rows after rows, and a row so many times.
pub joined-append : (a b : List (List ℕ)) → joined (a ++ b) ≡ joined a ++ joined b
unfolding joined
joined-append [] b = refl
joined-append (x ∷ a) b = ap (λ (y : List ℕ). x ++ y) (joined-append a b) ∙ sym (append_assoc x (joined a) (joined b))

joined_times : (k : ℕ) (row : List ℕ) → joined (replicate k row) ≡ times k row
unfolding joined times
joined_times zero row = refl
joined_times (suc k) row = ap (λ (y : List ℕ). row ++ y) (joined_times k row)

-- The first of the full rows with its repeat, and the others.
joined_first : (w q rep : ℕ) (x : List ℕ) → joined (filled_rows w (suc q) rep x) ≡ times (suc rep) (take w x) ++ joined (filled_rows w q 0 (drop w x))
unfolding filled_rows
joined_first w q rep x =
    joined-append (replicate (suc rep) (take w x)) (filled_rows w q 0 (drop w x))
    ∙ ap (λ (y : List ℕ). y ++ joined (filled_rows w q 0 (drop w x))) (joined_times (suc rep) (take w x))

-- Without a repeat, the full rows and what is behind them are all the pixels.
full_none : (w q : ℕ) (x : List ℕ) → joined (filled_rows w q 0 x) ++ behind w q x ≡ x
unfolding joined filled_rows
full_none w zero x = refl
full_none w (suc q) x =
    append_assoc (take w x) (joined (filled_rows w q 0 (drop w x))) (behind w q (drop w x))
    ∙ ap (λ (y : List ℕ). take w x ++ y) (full_none w q (drop w x))
    ∙ take-append-drop w x

-- With one, the first row comes so often, and then the other pixels.
full_first : (w q rep : ℕ) (x : List ℕ) → joined (filled_rows w (suc q) rep x) ++ behind w (suc q) x ≡ times (suc rep) (take w x) ++ drop w x
full_first w q rep x =
    ap (λ (y : List ℕ). y ++ behind w q (drop w x)) (joined_first w q rep x)
    ∙ append_assoc (times (suc rep) (take w x)) (joined (filled_rows w q 0 (drop w x))) (behind w q (drop w x))
    ∙ ap (λ (y : List ℕ). times (suc rep) (take w x) ++ y) (full_none w q (drop w x))

-- Places.

-- Behind q full rows, and the first one's repeats.
place_ends : (w q : ℕ) (s : State) → suc q * w ≤ s.column → place_of w (row_ends w (suc q) s) ≡ s.row * w + s.repeat * w + s.column
place_ends w q s l =
    let a = ap (λ (x : ℕ). x * w) (ends_row w q s) in
    let b = ends_col w (suc q) s in
    omega arith

-- The full rows end where the row then begun does begin.
pub ends_length : (w q : ℕ) (s : State) (x : List ℕ) → q * w ≤ s.column → length x ≡ s.column → s.row * w + length (joined (filled_rows w q s.repeat x)) ≡ (row_ends w q s).row * w
unfolding filled_rows joined
ends_length w zero s x l e = omega arith
ends_length w (suc q) s x l e =
    let i = ends_length w q (row_end w s) (drop w x) (omega arith) (rw length-drop (omega arith)) in
    let a = ap length (joined_first w q s.repeat x) ∙ length-append (times (suc s.repeat) (take w x)) (joined (filled_rows w q 0 (drop w x))) in
    let t : length (take w x) ≡ w = rw length-take (omega arith) in
    let b : length (times (suc s.repeat) (take w x)) ≡ suc s.repeat * w = length-times (suc s.repeat) (take w x) ∙ ap (λ (y : ℕ). suc s.repeat * y) t in
    omega arith

-- A run.

-- The rows done and the row begun stand in the buffer d, which was d₀ at first.
module _ (w n c : ℕ) (s : State) (done pre d₀ d : List ℕ) (rows : length done ≡ s.row * w) (cols : length pre ≡ s.column) (e : d ≡ done ++ (pre ++ drop (place_of w s) d₀)) where
  -- What is beyond has not changed.
  whole : d ≡ (done ++ pre) ++ drop (place_of w s) d₀
  whole = e ∙ sym (append_assoc done pre (drop (place_of w s) d₀))

  whole_is : length (done ++ pre) ≡ place_of w s
  whole_is = rw (length-append, rows, cols) refl

  beyond : (k : ℕ) → drop (place_of w s + k) d ≡ drop (place_of w s + k) d₀
  beyond k =
      sym (drop-drop k (place_of w s) d)
      ∙ ap (drop k) (ap (drop (place_of w s)) whole ∙ drop_at (done ++ pre) (drop (place_of w s) d₀) (place_of w s) whole_is)
      ∙ drop-drop k (place_of w s) d₀

  -- What the run leaves, where q rows are full.
  abbrev After : ℕ → List ℕ
  After q = (done ++ joined (filled_rows w q s.repeat (pre ++ replicate n c))) ++ (behind w q (pre ++ replicate n c) ++ drop (place_of w (row_ends w q (advanced n s))) d₀)

  -- None is, or at least one.
  short : n < w - s.column → with_run w n c s d ≡ After 0
  unfolding with_run filled filled_rows joined
  short l =
      let t : take (place_of w s) d ≡ done ++ pre = rw whole (take_at (done ++ pre) (drop (place_of w s) d₀) (place_of w s) whole_is) in
      let k : s.row * w + (s.column + n) ≡ place_of w s + n = omega arith in
      rw (lt-ltb n (w - s.column) l, t, beyond n, k, append-nil done) (simp append_assoc)

  full : (q : ℕ) → s.column < w → w - s.column ≤ n → suc q * w ≤ s.column + n → with_run w n c s d ≡ After (suc q)
  unfolding with_run
  full q l m le =
      let room = w - s.column in
      let x = pre ++ replicate n c in
      let z = drop (place_of w (row_ends w (suc q) (advanced n s))) d₀ in
      let t : take (s.row * w) d ≡ done = rw e (take_at done (pre ++ drop (place_of w s) d₀) (s.row * w) rows) in
      let u : drop (s.row * w) d ≡ pre ++ drop (place_of w s) d₀ = rw e (drop_at done (pre ++ drop (place_of w s) d₀) (s.row * w) rows) in
      let v : begun w s d ≡ pre = rw u (take_at pre (drop (place_of w s) d₀) s.column cols) in
      let r : length (pre ++ replicate room c) ≡ w = rw (length-append, cols, length-replicate) (omega arith) in
      let j : n ≡ room + (n - room) = omega arith in
      let cut : x ≡ (pre ++ replicate room c) ++ replicate (n - room) c =
      ap (λ (y : ℕ). pre ++ replicate y c) j ∙ rw (← replicate-append-replicate room (n - room) c) (simp append_assoc) in
      let a : take w x ≡ pre ++ replicate room c = rw cut (take_at (pre ++ replicate room c) (replicate (n - room) c) w r) in
      let b : drop w x ≡ replicate (n - room) c = rw cut (drop_at (pre ++ replicate room c) (replicate (n - room) c) w r) in
      let k : place_of w s + (s.repeat * w + n) ≡ place_of w (row_ends w (suc q) (advanced n s)) = omega (arith, place_ends w q (advanced n s) le) in
      let k' : place_of w s + s.repeat * w + n ≡ place_of w s + (s.repeat * w + n) = omega arith in
      let y : drop (place_of w s + s.repeat * w + n) d ≡ z = ap (λ (i : ℕ). drop i d) k' ∙ beyond (s.repeat * w + n) ∙ ap (λ (i : ℕ). drop i d₀) k in
      let g : times (suc s.repeat) (pre ++ replicate room c) ++ replicate (n - room) c ≡ joined (filled_rows w (suc q) s.repeat x) ++ behind w (suc q) x =
      sym (full_first w q s.repeat x ∙ rw (a, b) refl) in
      rw (le-ltb n room m, t, v, y) (around (times (suc s.repeat) (pre ++ replicate room c)) (replicate (n - room) c) (joined (filled_rows w (suc q) s.repeat x)) (behind w (suc q) x) z g)
    where
      around : (a b a' b' z : List ℕ) → a ++ b ≡ a' ++ b' → done ++ (a ++ (b ++ z)) ≡ (done ++ a') ++ (b' ++ z)
      around a b a' b' z g = rw (← append_assoc a b z, g) (simp append_assoc)

  -- A run adds its full rows to those done, and begins another.
  pub with_run_lem : s.column < w → with_run w n c s d ≡ (done ++ joined (item_rows w s pre c (run n))) ++ (item_begun w s pre c (run n) ++ drop (place_of w (item_state w s (run n))) d₀)
  with_run_lem l =
      split (w - s.column) n
      (λ m. go ((s.column + n) / w) (some_end w (s.column + n) (omega arith) (omega arith)) (div-mul-le_self (s.column + n) w) m)
      (λ m. let z : (s.column + n) / w ≡ 0 = div-eq_of_lt (omega arith) in short m ∙ ap After (sym z))
    where
      go : (q : ℕ) → 1 ≤ q → q * w ≤ s.column + n → w - s.column ≤ n → with_run w n c s d ≡ After q
      go zero p k m = absurd (omega arith)
      go (suc q) p k m = full q l m k
