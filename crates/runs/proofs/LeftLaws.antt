-- What is left to draw: the loop's invariant, and its laws for the start, a run, a repeat, a fault and the end. Assumes nothing.
use Prim.Native.Nat.{ℕ, zero, suc, ◌+◌, ◌-◌, ◌*◌, ◌/◌, ◌≤◌, ◌<◌, min}
use mathlib.Core.Path.{◌≡◌, refl, sym, ap, ◌∙◌, subst}
use mathlib.Core.Bool.{Bool, true, false, not}
use mathlib.Core.Logic.{inl, ⊎_elim}
use mathlib.Core.List.{List, [], ◌∷◌, ◌++◌, append_assoc, append-nil}
use native.Mathlib.Nat.{div-mul-le_self, mul_comm}
use native.Mathlib.Omega.{arith}
use lib.ListN.{length, drop, replicate, length-append, length-replicate}
use Rattle.format.specs.Refusals.{ok, ◌>>=◌}
use Rattle.std.specs.Prelude.{Result, Ok, Err}
use Rattle.format.specs.Numbers.{Bytes}
use Rattle.format.specs.Packed.{nybbles}
use Rattle.format.specs.Rasters.{Item, run, fourteen, fifteen, turned, joined, colour}
use Rattle.format.specs.Reading as R
use Rattle.format.specs.Reading.{start, pixels_left, row_ends, advanced, with_repeat, item_of, after_item, turn, finish, walk, reading, ReadWhole}
use Rattle.format.specs.Drawing.{raster_pixels}
use Rattle.format.proofs.ItemLaws.{fault≢, bind_ok}
use Rattle.format.proofs.StateLaws.{Inside, behind_is}
use Rattle.format.proofs.InsideLaws.{run_ok, repeat_ok, below, item_inside}
use Rattle.format.proofs.ReadingLaws.{walk_full, walk_next, walk_none, turn_ok}
use Rattle.format.proofs.ItemwiseLaws.{item_state, item_rows, item_begun, draw_items, items_reading, raster_drawn}
use Rattle.packed.specs.Answer.{from, cap}
use Rattle.state.specs.Moves.{plain, coloured, Within}
use Rattle.state.specs.declared.State.{State}
use Rattle.state.proofs.MoveLaws.{left_small, rows_few, run_rows}
use Rattle.items.specs.Items.{to_item}
use Rattle.items.specs.declared.Item as C
use Rattle.items.specs.declared.Item.TheVariants.{Run, Repeat}
use Rattle.items.proofs.PlaceLaws.{item_later}
use Rattle.refusals.specs.declared.Refusal as D
use Rattle.runs.specs.Runs.{place_of, with_run}
use Rattle.runs.proofs.RowLaws.{joined-append, ends_length, with_run_lem}

-- At the place at, in a state where c is the colour of the next run: the full rows `done` and the begun row `pre` stand in the buffer;
-- with what the items left draw they are the whole picture.
pub record Left (s : List ℕ) (f : ℕ) (black : Bool) (w h : ℕ) (d₀ d : List ℕ) (at : ℕ) (st : R.State) (c : Bool) : Type 0 where
  pub bytes : Bytes s
  pub low : at ≤ 2 * length s
  pub inside : Inside w h st
  pub done : List ℕ
  pub pre : List ℕ
  pub is : List Item
  pub g : ℕ
  pub reads : walk g f w h st (from s at) ≡ ok is
  pub same : done ++ joined (draw_items w st pre (colour c) is) ≡ raster_pixels f black w h s
  pub rows : length done ≡ st.row * w
  pub cols : length pre ≡ st.column
  pub buffer : d ≡ done ++ (pre ++ drop (place_of w st) d₀)
  pub long : length d ≡ length d₀

-- The same for a state of the code.
abbrev pub LeftIn : List ℕ → ℕ → Bool → ℕ → ℕ → List ℕ → List ℕ → ℕ → State → Type 0
LeftIn s f black w h d₀ d at st = Left s f black w h d₀ d at (plain st) st.black

-- The start.

pub left_start : (s : List ℕ) (f : ℕ) (black : Bool) (w h : ℕ) (d₀ : List ℕ) (st : State) → f ≤ 13 → 0 < w → 0 < h → Bytes s → ReadWhole f w h s → st ≡ coloured black start
    → LeftIn s f black w h d₀ d₀ 0 st
unfolding from reading
left_start s f black w h d₀ st hf p q b r e = subst (λ (x : State). LeftIn s f black w h d₀ d₀ 0 x) (sym e) first
  where
    whole : reading f w h s ≡ ok r.0
    whole = sym (items_reading f w h s hf p) ∙ r.1

    first : LeftIn s f black w h d₀ d₀ 0 (coloured black start)
    first =
        record {
          bytes = b;
          low = omega arith;
          inside = record { wide = p; high = inl q };
          done = [];
          pre = [];
          is = r.0;
          g = length (nybbles s);
          reads = whole;
          same = sym (raster_drawn f black w h s r.0 hf p q b whole);
          rows = omega arith;
          cols = refl;
          buffer = sym (let z : 0 * w + 0 ≡ 0 = omega arith in ap (λ (x : ℕ). drop x d₀) z);
          long = refl;
        }

-- The next item, of a walk that ends well.

-- The item fits.
abbrev Fits : ℕ → ℕ → R.State → Item → Type 0
Fits w h st (run n) = n ≤ pixels_left w h st
Fits w h st (fourteen n) = n ≤ h - st.row - 1
Fits w h st fifteen = 1 ≤ h - st.row - 1

item_ok : (w h : ℕ) (st st' : R.State) (i : Item) → after_item w h i st ≡ ok st' → Fits w h st i × (item_state w st i ≡ st')
unfolding after_item
item_ok w h st st' (run n) e = run_ok w h st st' n e
item_ok w h st st' (fourteen n) e = repeat_ok w h st st' n e
item_ok w h st st' fifteen e = repeat_ok w h st st' 1 e

-- The items is that the nybbles xs are read as begin with i, and is' follow.
record First (f w h : ℕ) (st : R.State) (xs : List ℕ) (is : List Item) (i : Item) : Type 0 where
  rest : List ℕ
  is' : List Item
  g' : ℕ
  item : item_of f st.repeat xs ≡ ok (i, rest)
  fits : Fits w h st i
  move : after_item w h i st ≡ ok (item_state w st i)
  reads : walk g' f w h (item_state w st i) rest ≡ ok is'
  cons : i ∷ is' ≡ is

first_item : (g f w h : ℕ) (st : R.State) (xs : List ℕ) (is : List Item) → st.row < h → walk g f w h st xs ≡ ok is → (i : Item) × First f w h st xs is i
first_item zero f w h st xs is l e = absurd (fault≢ (sym (walk_none f w h st xs l) ∙ e))
first_item (suc g) f w h st xs is l e =
    let b1 = bind_ok (turn f w h st xs) (λ t. walk g f w h t.1 t.2 >>= λ is. ok (t.0 ∷ is)) (sym (walk_next g f w h st xs l) ∙ e) in
    let t = b1.0 in
    let b2 = bind_ok (walk g f w h t.1 t.2) (λ is. ok (t.0 ∷ is)) b1.2 in
    let o = turn_ok f w h st xs t b1.1 in
    let k = item_ok w h st t.1 t.0 o.1 in (
      t.0,
      record {
        rest = t.2;
        is' = b2.0;
        g' = g;
        item = o.0;
        fits = k.0;
        move = o.1 ∙ ap ok (sym k.1);
        reads = ap (λ (x : R.State). walk g f w h x t.2) k.1 ∙ b2.1;
        cons = let z = b2.2 in cc;
      },
    )

-- Lengths, and the picture.

module _ (w : ℕ) (st : R.State) (pre : List ℕ) (c : ℕ) (cols : length pre ≡ st.column) where
  -- The begun row with a run of n.
  run_is : (n : ℕ) → length (pre ++ replicate n c) ≡ st.column + n
  run_is n = rw (length-append, length-replicate, cols) refl

  -- The rows that an item sends, and the row that it leaves begun, end where its state says.
  rows_length : (i : Item) → st.row * w + length (joined (item_rows w st pre c i)) ≡ (item_state w st i).row * w
  unfolding joined
  rows_length (run n) = ends_length w ((st.column + n) / w) (advanced n st) (pre ++ replicate n c) (div-mul-le_self (st.column + n) w) (run_is n)
  rows_length (fourteen n) = omega arith
  rows_length fifteen = omega arith

  begun_length : (i : Item) → length (item_begun w st pre c i) ≡ (item_state w st i).column
  begun_length (run n) = behind_is w ((st.column + n) / w) (advanced n st) (pre ++ replicate n c) (run_is n)
  begun_length (fourteen n) = cols
  begun_length fifteen = cols

-- One item drawn, and then the others.
draw_item : (w : ℕ) (st : R.State) (pre : List ℕ) (c : ℕ) (i : Item) (is : List Item)
    → joined (draw_items w st pre c (i ∷ is)) ≡ joined (item_rows w st pre c i) ++ joined (draw_items w (item_state w st i) (item_begun w st pre c i) (turned c i) is)
unfolding draw_items
draw_item w st pre c i is = joined-append (item_rows w st pre c i) (draw_items w (item_state w st i) (item_begun w st pre c i) (turned c i) is)

-- The pixels left end with the last row.
run_room : (w h n : ℕ) (st : R.State) → Within w h st → n ≤ pixels_left w h st → st.row * w + st.repeat * w + st.column + n ≤ w * h
run_room w h n st i l =
    let m = h - st.row - st.repeat - 1 in
    let c = i.wide in
    let r = i.high in
    let e : w * h ≡ (st.row + st.repeat + 1 + m) * w = rw (mul_comm w h) (ap (λ (x : ℕ). x * w) (omega arith)) in
    omega arith

-- The colour of the next run.
colour_not : (black : Bool) → colour (not black) ≡ 1 - colour black
colour_not true = refl
colour_not false = refl

-- A turn of the loop.

module _ {s : List ℕ} {f : ℕ} {black : Bool} {w h : ℕ} {d₀ d : List ℕ} {at : ℕ} {st : R.State} {c : Bool} (t : Left s f black w h d₀ d at st c) (l : st.row < h) (small : w * h ≤ 65536) (hf : f ≤ 13) where
  within : Within w h st
  within = record { wide = t.inside.wide; high = below w h st st t.inside l; small = small }

  -- An item is drawn: its rows are added to those done, and the place behind it is later.
  left_item : (i : Item) (u : First f w h st (from s at) t.is i) (d' : List ℕ) (c' : Bool) → length d' ≡ length d → colour c' ≡ turned (colour c) i
      → d' ≡ (t.done ++ joined (item_rows w st t.pre (colour c) i)) ++ (item_begun w st t.pre (colour c) i ++ drop (place_of w (item_state w st i)) d₀)
      → (at < 2 * length s - length u.rest) × Left s f black w h d₀ d' (2 * length s - length u.rest) (item_state w st i) c'
  left_item i u d' c' k e b =
      let st' = item_state w st i in
      let pre' = item_begun w st t.pre (colour c) i in
      let sent = joined (item_rows w st t.pre (colour c) i) in
      let v = item_later s at f st.repeat i u.rest hf t.bytes t.low u.item in (
        v.after,
        record {
          bytes = t.bytes;
          low = v.upto;
          inside = item_inside w h st st' t.inside l i (omega (arith, t.inside.wide)) u.move;
          done = t.done ++ sent;
          pre = pre';
          is = u.is';
          g = u.g';
          reads = ap (walk u.g' f w h st') v.rest_is ∙ u.reads;
          same =
              ap (λ (x : ℕ). (t.done ++ sent) ++ joined (draw_items w st' pre' x u.is')) e
              ∙ append_assoc t.done sent (joined (draw_items w st' pre' (turned (colour c) i) u.is'))
              ∙ ap (λ (y : List ℕ). t.done ++ y) (sym (draw_item w st t.pre (colour c) i u.is'))
              ∙ ap (λ (y : List Item). t.done ++ joined (draw_items w st t.pre (colour c) y)) u.cons
              ∙ t.same;
          rows = length-append t.done sent ∙ ap (λ (y : ℕ). y + length sent) t.rows ∙ rows_length w st t.pre (colour c) t.cols i;
          cols = begun_length w st t.pre (colour c) t.cols i;
          buffer = b;
          long = k ∙ t.long;
        },
      )

  -- The same in the code's words.
  in_code : (d' : List ℕ) (next p : ℕ) (st' : State) (x : R.State) (c' : Bool) → next ≡ p → st' ≡ coloured c' x → (at < p) × Left s f black w h d₀ d' p x c' → (at < next) × LeftIn s f black w h d₀ d' next st'
  in_code d' next p st' x c' e g a =
      subst (λ (n : ℕ). (at < n) × LeftIn s f black w h d₀ d' n st') (sym e)
      (subst (λ (y : State). (at < p) × LeftIn s f black w h d₀ d' p y) (sym g) a)

  -- The item a that the code has read.
  module _ (a : Result C.Item D.Refusal) (is : a ≡ to_item s (item_of f st.repeat (from s at))) where
    first : (i : Item) × First f w h st (from s at) t.is i
    first = first_item t.g f w h st (from s at) t.is l t.reads

    -- It is a run,
    module _ (n next : ℕ) (e : a ≡ Ok (Run n next)) where
      run_first : (u : First f w h st (from s at) t.is (run n)) × (next ≡ 2 * length s - length u.rest)
      unfolding to_item
      run_first = go first.0 first.1
        where
          go : (i : Item) → First f w h st (from s at) t.is i → (u : First f w h st (from s at) t.is (run n)) × (next ≡ 2 * length s - length u.rest)
          go (run k) u =
              let z = sym e ∙ is ∙ ap (to_item s) u.item in
              let z1 : n ≡ min k cap = cc in
              let z2 : next ≡ 2 * length s - length u.rest = cc in
              let z3 : k ≡ n = omega (arith, u.fits, left_small w h st within) in
              subst (λ (k : ℕ). (u : First f w h st (from s at) t.is (run k)) × (next ≡ 2 * length s - length u.rest)) z3 (u, z2)
          go (fourteen k) u = absurd (let z = sym e ∙ is ∙ ap (to_item s) u.item in cc)
          go fifteen u = absurd (let z = sym e ∙ is ∙ ap (to_item s) u.item in cc)

      pub run_fits : (st.row * w + st.repeat * w + st.column + n ≤ w * h) × (st.row + st.repeat + (st.column + n) / w ≤ 65536)
      run_fits =
          let k = run_first.0.fits in
          (run_room w h n st within k, omega (arith, run_rows w h n st within k, rows_few w h st within))

      pub left_run : (d' : List ℕ) (st' : State) → d' ≡ with_run w n (colour c) st d → length d' ≡ length d → st' ≡ coloured (not c) (row_ends w ((st.column + n) / w) (advanced n st))
          → (at < next) × LeftIn s f black w h d₀ d' next st'
      left_run d' st' p k q =
          let u = run_first in
          in_code d' next (2 * length s - length u.0.rest) st' (item_state w st (run n)) (not c) u.1 q
          (left_item (run n) u.0 d' (not c) k (colour_not c) (p ∙ with_run_lem w n (colour c) st t.done t.pre d₀ d t.rows t.cols t.buffer t.inside.wide))

    -- or a repeat,
    module _ (n next : ℕ) (e : a ≡ Ok (Repeat n next)) where
      unsent : d ≡ (t.done ++ joined []) ++ (t.pre ++ drop (place_of w st) d₀)
      unfolding joined
      unsent = t.buffer ∙ ap (λ (x : List ℕ). x ++ (t.pre ++ drop (place_of w st) d₀)) (sym (append-nil t.done))

      pub left_repeat : (st' : State) → st' ≡ coloured c (with_repeat n st) → (at < next) × LeftIn s f black w h d₀ d next st'
      unfolding to_item
      left_repeat st' q = go first.0 first.1
        where
          go : (i : Item) → First f w h st (from s at) t.is i → (at < next) × LeftIn s f black w h d₀ d next st'
          go (run k) u = absurd (let z = sym e ∙ is ∙ ap (to_item s) u.item in cc)
          go (fourteen k) u =
              let z = sym e ∙ is ∙ ap (to_item s) u.item in
              let z1 : n ≡ min k cap = cc in
              let z2 : next ≡ 2 * length s - length u.rest = cc in
              let z3 : n ≡ k = omega (arith, u.fits, rows_few w h st within) in
              in_code d next (2 * length s - length u.rest) st' (with_repeat k st) c z2 (q ∙ ap (λ (k : ℕ). coloured c (with_repeat k st)) z3) (left_item (fourteen k) u d c refl refl unsent)
          go fifteen u =
              let z = sym e ∙ is ∙ ap (to_item s) u.item in
              let z1 : n ≡ 1 = cc in
              let z2 : next ≡ 2 * length s - length u.rest = cc in
              in_code d next (2 * length s - length u.rest) st' (with_repeat 1 st) c z2 (q ∙ ap (λ (k : ℕ). coloured c (with_repeat k st)) z1) (left_item fifteen u d c refl refl unsent)

    -- and no fault.
    pub left_sound : (x : D.Refusal) → a ≡ Err x → ⊥
    unfolding to_item
    left_sound x e = go first.0 first.1
      where
        go : (i : Item) → First f w h st (from s at) t.is i → ⊥
        go (run k) u = let z = sym e ∙ is ∙ ap (to_item s) u.item in cc
        go (fourteen k) u = let z = sym e ∙ is ∙ ap (to_item s) u.item in cc
        go fifteen u = let z = sym e ∙ is ∙ ap (to_item s) u.item in cc

-- The end.

-- Where the rows are full, no items are left.
finish_ok : (xs : List ℕ) (is : List Item) → finish xs ≡ ok is → [] ≡ is
unfolding finish
finish_ok [] is e = cc
finish_ok (zero ∷ []) is e = cc
finish_ok (zero ∷ x ∷ xs) is e = absurd (fault≢ e)
finish_ok (suc x ∷ xs) is e = absurd (fault≢ e)

none : (xs : List ℕ) → length xs ≡ 0 → xs ≡ []
none [] e = refl
none (x ∷ xs) e = absurd (omega arith)

pub left_end : {s : List ℕ} {f : ℕ} {black : Bool} {w h : ℕ} {d₀ d : List ℕ} {at : ℕ} {st : R.State} {c : Bool} → Left s f black w h d₀ d at st c → h ≤ st.row → d ≡ raster_pixels f black w h s ++ drop (w * h) d₀
unfolding draw_items joined
left_end {s} {f} {black} {w} {h} {d₀} {d} {at} {st} {c} t l =
    ⊎_elim (λ a. absurd (omega arith))
    (λ a.
    let e = finish_ok (from s at) t.is (sym (walk_full t.g f w h st (from s at) l) ∙ t.reads) in
    let p : t.pre ≡ [] = none t.pre (t.cols ∙ a.1) in
    let b : st.row * w ≡ h * w = ap (λ (x : ℕ). x * w) a.0 in
    let n : place_of w st ≡ w * h = omega (arith, b, a.1) in
    let q : t.done ≡ raster_pixels f black w h s = sym (append-nil t.done) ∙ ap (λ (y : List Item). t.done ++ joined (draw_items w st t.pre (colour c) y)) e ∙ t.same in
    t.buffer ∙ rw (p, n, q) refl)
    t.inside.high
