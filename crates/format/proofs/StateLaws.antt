-- Laws of the reading's state: what an item does to the rows still to be sent, in both directions.
-- Assumes nothing.
use Prim.Native.Nat.{ℕ, zero, suc, ◌+◌, ◌-◌, ◌*◌, ◌/◌, ◌%◌, ◌≤◌, ◌<◌}
use mathlib.Core.Path.{◌≡◌, refl, sym, ap, ◌∙◌, subst}
use mathlib.Core.Logic.{◌⊎◌, inl, inr}
use mathlib.Core.List.{List, [], ◌∷◌, ◌++◌, append_assoc}
use native.Mathlib.Nat.{mul-le-mul_right, div-add-mod', mod-lt}
use native.Mathlib.Omega.{arith}
use lib.ListN.{length, take, drop, replicate, length-append, length-replicate, length-drop, length-take, take-append-drop}
use Rattle.format.specs.Rasters.{Item, run, pixels_in, repeat, turned, string, Grid}
use Rattle.format.specs.Reading.{State, pixels_left, row_end, row_ends, advanced, with_repeat}
use Rattle.format.proofs.Behind.{behind}
use Rattle.format.proofs.Tests.{split}
use Rattle.format.proofs.RowLaws.{grid_least, row_off, row_on, from, had_sum, from_run, from_repeat, from_past, from_later, from_least, from_first, from_once}
use Rattle.format.proofs.ItemLaws.{had_once}

-- The items, from the state s on, with pre already in its row, give just the rows up to h.
pub record At (w h : ℕ) (s : State) (pre : List ℕ) (c : ℕ) (is : List Item) : Type 0 where
  pub k : ℕ
  pub low : s.row ≤ h
  pub pre_is : length pre ≡ s.column
  pub grid : Grid w (h - s.row) k (from w s.column s.repeat is) (pre ++ string c is)

grid_to : {w h h' k : ℕ} {of of' : ℕ → List ℕ} {s s' : List ℕ} → h ≡ h' → of ≡ of' → s ≡ s' → Grid w h k of s → Grid w h' k of' s'
grid_to {w} {h} {h'} {k} {of} {of'} {s} {s'} p q r g =
    subst (λ (x : ℕ). Grid w x k of' s') p (subst (λ (x : ℕ → List ℕ). Grid w h k x s') q (subst (λ (x : List ℕ). Grid w h k of x) r g))

-- Row ends.

module _ (w p rep k : ℕ) (is : List Item) (row s : List ℕ) (e : length row ≡ w) (pos : 0 < w) where
  end_off : {h : ℕ} → Grid w h (suc k) (from w (w + p) rep is) (row ++ s) → Grid w (h - suc rep) k (from w p 0 is) s
  end_off g = rw (from_past w p rep is pos, had_sum rep, from_later w p rep is pos) at (row_off w k (from w (w + p) rep is) row s e g)

  end_on : {h : ℕ} → Grid w h k (from w p 0 is) s → Grid w (suc rep + h) (suc k) (from w (w + p) rep is) (row ++ s)
  end_on {h} g =
      rw (from_past w p rep is pos, had_sum rep) at
      (row_on w k (from w (w + p) rep is) row s e {h = h} (rw (from_past w p rep is pos) (had_once rep)) (rw (from_later w p rep is pos) g))

-- The states that a reading meets: inside the raster, or at its end.
pub record Inside (w h : ℕ) (s : State) : Type 0 where
  pub wide : s.column < w
  pub high : (s.row + s.repeat < h) ⊎ ((s.row ≡ h) × (s.column ≡ 0) × (s.repeat ≡ 0))

pub behind_is : (w q : ℕ) (s : State) (pre : List ℕ) → length pre ≡ s.column → length (behind w q pre) ≡ (row_ends w q s).column
behind_is w zero s pre e = e
behind_is w (suc q) s pre e = behind_is w q (row_end w s) (drop w pre) (rw length-drop (omega arith))

pub ends_col : (w q : ℕ) (s : State) → (row_ends w q s).column ≡ s.column - q * w
ends_col w zero s = omega arith
ends_col w (suc q) s = omega (arith, ends_col w q (row_end w s))

pub ends_row : (w q : ℕ) (s : State) → (row_ends w (suc q) s).row ≡ s.row + s.repeat + suc q
ends_row w zero s = omega arith
ends_row w (suc q) s = omega (arith, ends_row w q (row_end w s))

pub ends_rep : (w q : ℕ) (s : State) → (row_ends w (suc q) s).repeat ≡ 0
ends_rep w zero s = refl
ends_rep w (suc q) s = ends_rep w q (row_end w s)

module _ (w h : ℕ) (pos : 0 < w) where
  module _ (s : State) (pre : List ℕ) (c : ℕ) (is : List Item) (full : w ≤ s.column) where
    cut : pre ++ string c is ≡ take w pre ++ (drop w pre ++ string c is)
    cut = rw (← append_assoc (take w pre) (drop w pre) (string c is), take-append-drop w pre) refl

    col : s.column ≡ w + (s.column - w)
    col = omega arith

    taken : length pre ≡ s.column → length (take w pre) ≡ w
    taken e = rw length-take (omega arith)

    at_off : At w h s pre c is → At w h (row_end w s) (drop w pre) c is
    at_off a = go a.k a.grid
      where
        go : (k : ℕ) → Grid w (h - s.row) k (from w s.column s.repeat is) (pre ++ string c is) → At w h (row_end w s) (drop w pre) c is
        go zero g = absurd (omega (arith, g.whole, length-append pre (string c is), a.pre_is))
        go (suc k) g =
            let l = grid_least g (omega arith) in
            let g' = grid_to refl (ap (λ (x : ℕ). from w x s.repeat is) col) cut g in
            let l' = rw (from_past w (s.column - w) s.repeat is pos, had_sum s.repeat) at (grid_least g' (omega arith)) in
            record {
              k = k;
              low = omega arith;
              pre_is = rw length-drop (omega (arith, a.pre_is));
              grid = grid_to (omega arith) refl refl (end_off w (s.column - w) s.repeat k is (take w pre) (drop w pre ++ string c is) (taken a.pre_is) pos g');
            }

    at_on : length pre ≡ s.column → At w h (row_end w s) (drop w pre) c is → At w h s pre c is
    at_on e a =
        record {
          k = suc a.k;
          low = omega (arith, a.low);
          pre_is = e;
          grid = grid_to (omega (arith, a.low)) (ap (λ (x : ℕ). from w x s.repeat is) (sym col)) (sym cut) (end_on w (s.column - w) s.repeat a.k is (take w pre) (drop w pre ++ string c is) (taken e) pos a.grid);
        }

  pub ends_off : (q : ℕ) (s : State) (pre : List ℕ) (c : ℕ) (is : List Item) → q * w ≤ s.column → At w h s pre c is → At w h (row_ends w q s) (behind w q pre) c is
  ends_off zero s pre c is l a = a
  ends_off (suc q) s pre c is l a = ends_off q (row_end w s) (drop w pre) c is (omega arith) (at_off s pre c is (omega arith) a)

  pub ends_on : (q : ℕ) (s : State) (pre : List ℕ) (c : ℕ) (is : List Item) → q * w ≤ s.column → length pre ≡ s.column → At w h (row_ends w q s) (behind w q pre) c is → At w h s pre c is
  ends_on zero s pre c is l e a = a
  ends_on (suc q) s pre c is l e a =
      at_on s pre c is (omega arith) e (ends_on q (row_end w s) (drop w pre) c is (omega arith) (rw length-drop (omega arith)) a)

  -- Runs.

  module _ (s : State) (pre : List ℕ) (c n : ℕ) (is : List Item) where
    run_cut : pre ++ string c (run n ∷ is) ≡ (pre ++ replicate n c) ++ string (1 - c) is
    unfolding string
    run_cut = sym (append_assoc pre (replicate n c) (string (1 - c) is))

    pub run_off : At w h s pre c (run n ∷ is) → At w h (advanced n s) (pre ++ replicate n c) (1 - c) is
    run_off a =
        record {
          k = a.k;
          low = a.low;
          pre_is = rw (length-append, length-replicate, a.pre_is) refl;
          grid = grid_to refl (from_run w s.column s.repeat n is) run_cut a.grid;
        }

    pub run_on : length pre ≡ s.column → At w h (advanced n s) (pre ++ replicate n c) (1 - c) is → At w h s pre c (run n ∷ is)
    run_on e a =
        record {
          k = a.k;
          low = a.low;
          pre_is = e;
          grid = grid_to refl (sym (from_run w s.column s.repeat n is)) (sym run_cut) a.grid;
        }

    -- a run that a raster has is not longer than the pixels_in pixels_left
    pub run_fits : s.column < w → 0 < n → At w h s pre c (run n ∷ is) → (s.row < h) × (n ≤ pixels_left w h s)
    unfolding string
    run_fits l p a = go a.k a.grid
      where
        go : (k : ℕ) → Grid w (h - s.row) k (from w s.column s.repeat (run n ∷ is)) (pre ++ string c (run n ∷ is)) → (s.row < h) × (n ≤ pixels_left w h s)
        go k g =
            let e = g.whole in
            let e1 = length-append pre (replicate n c ++ string (1 - c) is) in
            let e2 = length-append (replicate n c) (string (1 - c) is) in
            let e3 = length-replicate n c in
            let e4 = a.pre_is in
            let some : s.column + n ≤ k * w = omega arith in
            let f0 : 0 < k = split k 0 (λ t. let z : k ≡ 0 = omega arith in absurd (let m = mul-le-mul_right w t in omega arith)) (λ t. t) in
            let f1 = grid_least g f0 in
            let f2 = from_least w s.column s.repeat (run n ∷ is) in
            let m = mul-le-mul_right {m = k} {n = suc (h - s.row - s.repeat - 1)} w (omega arith) in
            (omega arith, omega (arith, m, some))

  -- Repeats.

  module _ (s : State) (pre : List ℕ) (c n : ℕ) (i : Item) (is : List Item) (l : s.column < w) (p : 0 < n) (e0 : pixels_in i ≡ 0) (e1 : repeat i ≡ n ∷ []) (e2 : turned c i ≡ c) where
    same : string c (i ∷ is) ≡ string c is
    unfolding string
    same = rw (e0, e2) refl

    pub repeat_on : s.repeat ≡ 0 → At w h (with_repeat n s) pre c is → At w h s pre c (i ∷ is)
    repeat_on z a =
        record {
          k = a.k;
          low = a.low;
          pre_is = a.pre_is;
          grid = grid_to refl (sym (ap (λ (x : ℕ). from w s.column x (i ∷ is)) z ∙ from_repeat w s.column n i is l p e0 e1)) (ap (λ (x : List ℕ). pre ++ x) (sym same)) a.grid;
        }

    pub repeat_off : At w h s pre c (i ∷ is) → (s.repeat ≡ 0) × (s.row < h) × (n ≤ h - s.row - 1) × At w h (with_repeat n s) pre c is
    repeat_off a =
        let z = from_once w s.column s.repeat n i is l e1 (a.grid.once 0) in
        let g = grid_to refl (ap (λ (x : ℕ). from w s.column x (i ∷ is)) z ∙ from_repeat w s.column n i is l p e0 e1) (ap (λ (x : List ℕ). pre ++ x) same) a.grid in
        let f0 : 0 < a.k = split a.k 0 (λ t. absurd (omega (arith, from_first w s.column s.repeat n i is l e1, ap length (a.grid.inside 0 t)))) (λ t. t) in
        let f1 = grid_least g f0 in
        let f2 = from_least w s.column n is in
        (z, omega arith, omega arith, record { k = a.k; low = a.low; pre_is = a.pre_is; grid = g })

  -- The states that a reading meets.

  pub col_in : (s : State) (n : ℕ) → (row_ends w ((s.column + n) / w) (advanced n s)).column < w
  col_in s n = omega (arith, ends_col w ((s.column + n) / w) (advanced n s), div-add-mod' (s.column + n) w, mod-lt (s.column + n) pos)

  pub inside_run : (s : State) (n : ℕ) → s.column < w → s.row + s.repeat < h → n ≤ pixels_left w h s → Inside w h (row_ends w ((s.column + n) / w) (advanced n s))
  inside_run s n c r l = record { wide = col_in s n; high = go ((s.column + n) / w) (div-add-mod' (s.column + n) w) }
    where
      go : (q : ℕ) → q * w + (s.column + n) % w ≡ s.column + n → ((row_ends w q (advanced n s)).row + (row_ends w q (advanced n s)).repeat < h) ⊎ (((row_ends w q (advanced n s)).row ≡ h) × ((row_ends w q (advanced n s)).column ≡ 0) × ((row_ends w q (advanced n s)).repeat ≡ 0))
      go zero e = inl r
      go (suc q) e =
          let e1 = ends_row w q (advanced n s) in
          let e2 = ends_rep w q (advanced n s) in
          let e3 = ends_col w (suc q) (advanced n s) in
          let m = h - s.row - s.repeat - 1 in
          let top : s.column + n ≤ m * w + w = omega arith in
          split q m
          (λ t. split m q
          (λ u. let z : q ≡ m = omega arith in let v = ap (λ (x : ℕ). x * w) z in inr (omega arith, omega (arith, v, top, e3), e2))
          (λ u. inl (omega arith)))
          (λ t. let v = mul-le-mul_right {m = suc m} {n = q} w t in absurd (omega arith))
