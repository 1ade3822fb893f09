-- Drawing item by item gives the raster's pixels. Assumes nothing.
use Prim.Native.Nat.{ℕ, zero, suc, ◌+◌, ◌-◌, ◌*◌, ◌/◌, ◌≤◌, ◌<◌}
use mathlib.Core.Path.{◌≡◌, refl, sym, ap, ◌∙◌}
use mathlib.Core.Bool.{Bool}
use mathlib.Core.Logic.{inl}
use mathlib.Core.List.{List, [], ◌∷◌, ◌++◌, append_assoc}
use native.Mathlib.Nat.{add-div_left, div-eq_of_lt, div-mul-le_self}
use native.Mathlib.Numerals.{add-one}
use native.Mathlib.Omega.{arith}
use lib.ListN.{length, take, drop, replicate, length-append, length-drop, length-take, take-append-drop}
use borrow.Author.Tests.{ne_eqb}
use Rattle.format.specs.Refusals.{ok}
use Rattle.format.specs.Packed.{nybbles}
use Rattle.format.specs.Numbers.{Bytes}
use Rattle.format.specs.Rasters.{Item, run, fourteen, fifteen, turned, AllNumbers, string, rows, sum, sent, joined, picture, colour}
use Rattle.format.specs.Reading.{State, row_end, row_ends, advanced, with_repeat, start, reading, items}
use Rattle.format.specs.Drawing.{drawn_by, raster_pixels}
use Rattle.format.proofs.Behind.{behind}
use Rattle.format.proofs.PackedLaws.{bytes_nybbles}
use Rattle.format.proofs.RowLaws.{from, had_sum, from_start, from_run, from_repeat, from_past, from_later, sent_row}
use Rattle.format.proofs.StateLaws.{At, col_in, ends_off, run_off, repeat_off}
use Rattle.format.proofs.ReadingLaws.{sound}

-- The pixels pre fill q rows, the first with the repeat rep: the rows that are sent.
unfoldable pub filled_rows : ℕ → ℕ → ℕ → List ℕ → List (List ℕ)
filled_rows w zero rep pre = []
filled_rows w (suc q) rep pre = replicate (suc rep) (take w pre) ++ filled_rows w q 0 (drop w pre)

-- What an item leads to in the state s, where its row has the pixels pre and the next run is in the colour c: the state,
abbrev pub item_state : ℕ → State → Item → State
item_state w s (run n) = row_ends w ((s.column + n) / w) (advanced n s)
item_state w s (fourteen n) = with_repeat n s
item_state w s fifteen = with_repeat 1 s

-- the rows that are sent,
abbrev pub item_rows : ℕ → State → List ℕ → ℕ → Item → List (List ℕ)
item_rows w s pre c (run n) = filled_rows w ((s.column + n) / w) s.repeat (pre ++ replicate n c)
item_rows w s pre c (fourteen n) = []
item_rows w s pre c fifteen = []

-- and the pixels of the row that is begun.
abbrev pub item_begun : ℕ → State → List ℕ → ℕ → Item → List ℕ
item_begun w s pre c (run n) = behind w ((s.column + n) / w) (pre ++ replicate n c)
item_begun w s pre c (fourteen n) = pre
item_begun w s pre c fifteen = pre

-- The rows that the items send from there on.
unfoldable pub draw_items : ℕ → State → List ℕ → ℕ → List Item → List (List ℕ)
draw_items w s pre c [] = []
draw_items w s pre c (i ∷ is) = item_rows w s pre c i ++ draw_items w (item_state w s i) (item_begun w s pre c i) (turned c i) is

-- What all whole rows of a string send.
unfoldable shown : ℕ → (ℕ → List ℕ) → List ℕ → List (List ℕ)
shown w of s = sent of (rows w (length s / w) s)

module _ (w : ℕ) (pos : 0 < w) where
  shown_row : (of : ℕ → List ℕ) (row s : List ℕ) → length row ≡ w → shown w of (row ++ s) ≡ replicate (suc (sum (of 0))) row ++ shown w (λ r. of (suc r)) s
  unfolding shown
  shown_row of row s e =
      let n : length (row ++ s) / w ≡ suc (length s / w) = ap (λ (x : ℕ). x / w) (length-append row s ∙ ap (λ (x : ℕ). x + length s) e) ∙ add-div_left (length s) pos ∙ add-one (length s / w) in
      ap (λ (k : ℕ). sent of (rows w k (row ++ s))) n ∙ sent_row w (length s / w) of row s e

  shown_none : (of : ℕ → List ℕ) (s : List ℕ) → length s < w → shown w of s ≡ []
  unfolding shown sent rows
  shown_none of s l = rw (div-eq_of_lt l) refl

  -- Over q row ends.
  shown_ends : (q : ℕ) (s : State) (pre more : List ℕ) (is : List Item) → q * w ≤ s.column → length pre ≡ s.column
      → shown w (from w s.column s.repeat is) (pre ++ more) ≡ filled_rows w q s.repeat pre ++ shown w (from w (row_ends w q s).column (row_ends w q s).repeat is) (behind w q pre ++ more)
  unfolding filled_rows
  shown_ends zero s pre more is l e = refl
  shown_ends (suc q) s pre more is l e =
      let p = s.column - w in
      let c : s.column ≡ w + p = omega arith in
      let cut : pre ++ more ≡ take w pre ++ (drop w pre ++ more) = rw (← append_assoc (take w pre) (drop w pre) more, take-append-drop w pre) refl in
      let t : length (take w pre) ≡ w = rw length-take (omega arith) in
      ap (λ (x : ℕ). shown w (from w x s.repeat is) (pre ++ more)) c
      ∙ ap (shown w (from w (w + p) s.repeat is)) cut
      ∙ shown_row (from w (w + p) s.repeat is) (take w pre) (drop w pre ++ more) t
      ∙ rw (from_past w p s.repeat is pos, had_sum s.repeat, from_later w p s.repeat is pos, append_assoc)
      (ap (λ (x : List (List ℕ)). replicate (suc s.repeat) (take w pre) ++ x) (shown_ends q (row_end w s) (drop w pre) more is (omega arith) (rw length-drop (omega arith))))

  -- From a state on, with pre in its row, the rows are those of the items.
  shown_items : (h : ℕ) (is : List Item) (s : State) (pre : List ℕ) (c : ℕ) → s.column < w → AllNumbers is → At w h s pre c is
      → shown w (from w s.column s.repeat is) (pre ++ string c is) ≡ draw_items w s pre c is
  unfolding draw_items string
  shown_items h [] s pre c l nu a = shown_none (from w s.column s.repeat []) (pre ++ []) (omega (arith, length-append pre [], a.pre_is))
  shown_items h (run n ∷ is) s pre c l nu a =
      let q = (s.column + n) / w in
      let o = advanced n s in
      let pre' = pre ++ replicate n c in
      let b = run_off w h pos s pre c n is a in
      ap (λ (x : ℕ → List ℕ). shown w x (pre ++ (replicate n c ++ string (1 - c) is))) (from_run w s.column s.repeat n is)
      ∙ ap (shown w (from w (s.column + n) s.repeat is)) (sym (append_assoc pre (replicate n c) (string (1 - c) is)))
      ∙ shown_ends q o pre' (string (1 - c) is) is (div-mul-le_self (s.column + n) w) b.pre_is
      ∙ ap (λ (x : List (List ℕ)). filled_rows w q s.repeat pre' ++ x)
      (shown_items h is (row_ends w q o) (behind w q pre') (1 - c) (col_in w h pos s n) nu.1 (ends_off w h pos q o pre' (1 - c) is (div-mul-le_self (s.column + n) w) b))
  shown_items h (fourteen n ∷ is) s pre c l nu a =
      let t = repeat_off w h pos s pre c n (fourteen n) is l nu.0 refl refl refl a in
      ap (λ (x : ℕ → List ℕ). shown w x (pre ++ string c is)) (ap (λ (x : ℕ). from w s.column x (fourteen n ∷ is)) t.0 ∙ from_repeat w s.column n (fourteen n) is l nu.0 refl refl)
      ∙ shown_items h is (with_repeat n s) pre c l nu.1 t.3
  shown_items h (fifteen ∷ is) s pre c l nu a =
      let t = repeat_off w h pos s pre c 1 fifteen is l (omega arith) refl refl refl a in
      ap (λ (x : ℕ → List ℕ). shown w x (pre ++ string c is)) (ap (λ (x : ℕ). from w s.column x (fifteen ∷ is)) t.0 ∙ from_repeat w s.column 1 fifteen is l (omega arith) refl refl)
      ∙ shown_items h is (with_repeat 1 s) pre c l nu.1 t.3

-- With f from 0 to 13 the items are those of the reading.
pub items_reading : (f w h : ℕ) (bytes : List ℕ) → f ≤ 13 → 0 < w → items f w h bytes ≡ reading f w h bytes
unfolding items
items_reading f zero h bytes hf wide = absurd (omega arith)
items_reading f (suc w) h bytes hf wide = rw (ne_eqb f 14 (λ e. omega arith)) refl

module _ (f : ℕ) (black : Bool) (w h : ℕ) (bytes : List ℕ) (is : List Item) (hf : f ≤ 13) (wide : 0 < w) (high : 0 < h) where
  -- The pixels of a raster that is read whole.
  pub raster_drawn : Bytes bytes → reading f w h bytes ≡ ok is → raster_pixels f black w h bytes ≡ joined (draw_items w start [] (colour black) is)
  unfolding raster_pixels drawn_by picture shown reading
  raster_drawn b e =
      let c = colour black in
      let d = sound f w h hf wide (length (nybbles bytes)) start [] c (nybbles bytes) is (record { wide = wide; high = inl high }) (bytes_nybbles bytes b) refl e in
      ap (drawn_by f black w h bytes) (items_reading f w h bytes hf wide ∙ e)
      ∙ rw (ne_eqb f 14 (λ e. omega arith)) refl
      ∙ ap (λ (x : ℕ → List ℕ). joined (shown w x (string c is))) (sym (from_start w is))
      ∙ ap joined (shown_items w wide h is start [] c wide d.nums d.at)
