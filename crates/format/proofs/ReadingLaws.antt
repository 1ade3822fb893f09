-- The reading and the rasters agree: what is read whole is a raster, each raster is read whole, and its items are the ones read.
-- Assumes nothing.
use Prim.Native.Nat.{ℕ, zero, suc, ◌+◌, ◌-◌, ◌*◌, ◌/◌, ◌≤◌, ◌<◌}
use mathlib.Core.Path.{◌≡◌, refl, sym, ap, ◌∙◌, subst}
use mathlib.Core.Logic.{inl, ⊎_elim}
use mathlib.Core.List.{List, [], ◌∷◌, ◌++◌, append_assoc}
use native.Mathlib.Nat.{div-mul-le_self}
use native.Mathlib.Omega.{arith}
use lib.ListN.{length, replicate, length-append, length-replicate}
use borrow.Author.Tests.{le-leb, lt-leb}
use Rattle.format.specs.Rasters.{Item, run, fourteen, fifteen, pixels_in, repeat, turned, Number, AllNumbers, written, writings, string, repeats, rows, sent, Grid}
use Rattle.format.specs.Reading.{State, item_of, pixels_left, row_ends, after_run, after_repeat, after_item, advanced, with_repeat, finish, turn, walk}
use Rattle.format.specs.Refusals.{raster_ends, fault, ok, ◌>>=◌}
use Rattle.format.proofs.Behind.{behind}
use Rattle.format.proofs.ItemLaws.{Free, fault≢, bind_ok, item_read, item_took, had_once, had}
use Rattle.format.proofs.PackedLaws.{Nybbles}
use Rattle.format.proofs.Tests.{split}
use Rattle.format.proofs.RowLaws.{from, grid_none}
use Rattle.format.proofs.StateLaws.{At, behind_is, ends_off, ends_on, col_in, Inside, inside_run, run_off, run_on, run_fits, repeat_off, repeat_on}

-- One turn of the walk.

pub walk_full : (g f w h : ℕ) (s : State) (xs : List ℕ) → h ≤ s.row → walk g f w h s xs ≡ finish xs
unfolding walk
walk_full zero f w h s xs l = rw (le-leb h s.row l) refl
walk_full (suc g) f w h s xs l = rw (le-leb h s.row l) refl

pub walk_next : (g f w h : ℕ) (s : State) (xs : List ℕ) → s.row < h → walk (suc g) f w h s xs ≡ (turn f w h s xs >>= λ t. walk g f w h t.1 t.2 >>= λ is. ok (t.0 ∷ is))
unfolding walk
walk_next g f w h s xs l = rw (lt-leb h s.row l) refl

walk_item : (g f w h : ℕ) (s s' : State) (xs ys : List ℕ) (i : Item) (is : List Item) → s.row < h → item_of f s.repeat xs ≡ ok (i, ys) → after_item w h i s ≡ ok s' → walk g f w h s' ys ≡ ok is → walk (suc g) f w h s xs ≡ ok (i ∷ is)
unfolding ◌>>=◌ turn
walk_item g f w h s s' xs ys i is l a b c = walk_next g f w h s xs l ∙ rw (a, b, c) refl

moved_run : (w h n : ℕ) (s : State) → n ≤ pixels_left w h s → after_item w h (run n) s ≡ ok (row_ends w ((s.column + n) / w) (advanced n s))
unfolding after_item after_run
moved_run w h n s l = rw (le-leb n (pixels_left w h s) l) refl

again_ok : (h n : ℕ) (s : State) → n ≤ h - s.row - 1 → after_repeat h n s ≡ ok (with_repeat n s)
unfolding after_repeat
again_ok h n s l = rw (le-leb n (h - s.row - 1) l) refl

-- what a turn says of its item and its move
pub turn_ok : (f w h : ℕ) (s : State) (xs : List ℕ) (t : Item × State × List ℕ) → turn f w h s xs ≡ ok t → (item_of f s.repeat xs ≡ ok (t.0, t.2)) × (after_item w h t.0 s ≡ ok t.1)
unfolding turn
turn_ok f w h s xs t e =
    let b1 = bind_ok (item_of f s.repeat xs) (λ t. after_item w h t.0 s >>= λ s'. ok (t.0, s', t.1)) e in
    let b2 = bind_ok (after_item w h b1.0.0 s) (λ s'. ok (b1.0.0, s', b1.0.1)) b1.2 in
    let p : ◌≡◌ {A = Item × State × List ℕ} (b1.0.0, b2.0, b1.0.1) t = cc b2.2 in
    subst (λ (x : Item × State × List ℕ). (item_of f s.repeat xs ≡ ok (x.0, x.2)) × (after_item w h x.0 s ≡ ok x.1)) p (b1.1, b2.1)

pub walk_none : (f w h : ℕ) (s : State) (xs : List ℕ) → s.row < h → walk 0 f w h s xs ≡ fault raster_ends
unfolding walk
walk_none f w h s xs l = rw (lt-leb h s.row l) refl

pub nybs_rest : (xs ys : List ℕ) → Nybbles (xs ++ ys) → Nybbles ys
nybs_rest [] ys n = n
nybs_rest (x ∷ xs) ys n = nybs_rest xs ys n.1

pub free_none : (rep : ℕ) → 1 + length (had rep) ≤ 1 → rep ≡ 0
free_none zero l = refl
free_none (suc rep) l = absurd (omega arith)

-- Each raster is read whole.

rows_none : (w k : ℕ) → k * w < w → k ≡ 0
rows_none w zero l = refl
rows_none w (suc k) l = absurd (omega arith)

module _ (f w h : ℕ) (hf : f ≤ 13) (pos : 0 < w) where
  -- no items are pixels_left: the rows are full
  pub at_end : (s : State) (pre : List ℕ) (c : ℕ) → s.column < w → At w h s pre c [] → h ≤ s.row
  unfolding string
  at_end s pre c l a =
      let e = length-append pre [] in
      let z = rows_none w a.k (omega (arith, a.grid.whole, a.pre_is)) in
      let g : Grid w (h - s.row) 0 (from w s.column s.repeat []) (pre ++ []) = subst (λ (k : ℕ). Grid w (h - s.row) k (from w s.column s.repeat []) (pre ++ [])) z a.grid in
      omega (arith, grid_none g)

  pub complete : (is : List Item) (g : ℕ) (s : State) (pre : List ℕ) (c : ℕ) (rest : List ℕ) → s.column < w → AllNumbers is → At w h s pre c is → length is ≤ g → finish rest ≡ ok [] → walk g f w h s (writings f is ++ rest) ≡ ok is
  unfolding writings after_item
  complete [] g s pre c rest l nu a fu e = walk_full g f w h s rest (at_end s pre c l a) ∙ e
  complete (i ∷ is) zero s pre c rest l nu a fu e = absurd (omega arith)
  complete (run n ∷ is) (suc g) s pre c rest l nu a fu e =
      let t = run_fits w h pos s pre c n is l nu.0 a in
      let q = (s.column + n) / w in
      let o = advanced n s in
      walk_item g f w h s (row_ends w q o) ((written f (run n) ++ writings f is) ++ rest) (writings f is ++ rest) (run n) is t.0
      (rw append_assoc (item_read f s.repeat (run n) (writings f is ++ rest) hf nu.0 (omega (arith, had_once s.repeat))))
      (moved_run w h n s t.1)
      (complete is g (row_ends w q o) (behind w q (pre ++ replicate n c)) (1 - c) rest (col_in w h pos s n) nu.1
      (ends_off w h pos q o (pre ++ replicate n c) (1 - c) is (div-mul-le_self (s.column + n) w) (run_off w h pos s pre c n is a)) (omega arith) e)
  complete (fourteen n ∷ is) (suc g) s pre c rest l nu a fu e =
      let t = repeat_off w h pos s pre c n (fourteen n) is l nu.0 refl refl refl a in
      walk_item g f w h s (with_repeat n s) ((written f (fourteen n) ++ writings f is) ++ rest) (writings f is ++ rest) (fourteen n) is t.1
      (rw append_assoc (item_read f s.repeat (fourteen n) (writings f is ++ rest) hf nu.0 (rw t.0 (omega arith))))
      (again_ok h n s t.2)
      (complete is g (with_repeat n s) pre c rest l nu.1 t.3 (omega arith) e)
  complete (fifteen ∷ is) (suc g) s pre c rest l nu a fu e =
      let t = repeat_off w h pos s pre c 1 fifteen is l (omega arith) refl refl refl a in
      walk_item g f w h s (with_repeat 1 s) ((written f fifteen ++ writings f is) ++ rest) (writings f is ++ rest) fifteen is t.1
      (rw append_assoc (item_read f s.repeat fifteen (writings f is ++ rest) hf nu.0 (rw t.0 (omega arith))))
      (again_ok h 1 s t.2)
      (complete is g (with_repeat 1 s) pre c rest l nu.1 t.3 (omega arith) e)

  -- What is read whole is a raster.

  -- the nybbles xs, from the state s on, are the items and what ends them
  pub record Read (s : State) (pre : List ℕ) (c : ℕ) (xs : List ℕ) (is : List Item) : Type 0 where
    pub rest : List ℕ
    pub cut : xs ≡ writings f is ++ rest
    pub fin : finish rest ≡ ok []
    pub nums : AllNumbers is
    pub at : At w h s pre c is

  finish_nil : (xs : List ℕ) (is : List Item) → finish xs ≡ ok is → is ≡ []
  unfolding finish
  finish_nil [] is e = cc
  finish_nil (zero ∷ []) is e = cc
  finish_nil (zero ∷ x ∷ xs) is e = absurd (fault≢ e)
  finish_nil (suc x ∷ xs) is e = absurd (fault≢ e)

  from_none : (p rep r : ℕ) → rep ≡ 0 → from w p rep [] r ≡ []
  unfolding from repeats
  from_none p rep zero e = rw e refl
  from_none p rep (suc r) e = refl

  at_full : (s : State) (pre : List ℕ) (c : ℕ) → Inside w h s → h ≤ s.row → length pre ≡ s.column → At w h s pre c []
  unfolding string sent rows
  at_full s pre c i l e =
      let t : (s.row ≡ h) × (s.column ≡ 0) × (s.repeat ≡ 0) = ⊎_elim (λ a. absurd (omega arith)) (λ b. b) i.high in
      record {
        k = 0;
        low = omega arith;
        pre_is = e;
        grid = record {
          whole = omega (arith, length-append pre []);
          once = λ r. rw (from_none s.column s.repeat r t.2) (omega arith);
          inside = λ r _. from_none s.column s.repeat r t.2;
          high = omega arith;
        };
      }

  read_full : (s : State) (pre : List ℕ) (c : ℕ) (xs : List ℕ) (is : List Item) → Inside w h s → h ≤ s.row → length pre ≡ s.column → finish xs ≡ ok is → Read s pre c xs is
  unfolding writings
  read_full s pre c xs is i l e r =
      let z = finish_nil xs is r in
      subst (λ (x : List Item). Read s pre c xs x) (sym z)
      (record { rest = xs; cut = refl; fin = r ∙ ap ok z; nums = tt; at = at_full s pre c i l e })

  read_item : (s : State) (pre : List ℕ) (c : ℕ) (xs ys : List ℕ) (i : Item) (is js : List Item) → xs ≡ written f i ++ ys → Number i → (rest : List ℕ) → ys ≡ writings f is ++ rest → finish rest ≡ ok [] → AllNumbers is → At w h s pre c (i ∷ is) → ok (i ∷ is) ≡ ok js → Read s pre c xs js
  unfolding writings
  read_item s pre c xs ys i is js e n rest e' fin nums at r =
      let z : i ∷ is ≡ js = cc in
      subst (λ (x : List Item). Read s pre c xs x) z
      (record { rest = rest; cut = rw (append_assoc, ← e') e; fin = fin; nums = (n, nums); at = at })

  -- what an item did, undone
  record Back (s : State) (pre : List ℕ) (c : ℕ) (i : Item) (is : List Item) (s' : State) : Type 0 where
    pre' : List ℕ
    c' : ℕ
    pre'-is : length pre' ≡ s'.column
    inn : Inside w h s'
    on : At w h s' pre' c' is → At w h s pre c (i ∷ is)

  module _ (s : State) (pre : List ℕ) (c : ℕ) (is : List Item) (s' : State) (inn : Inside w h s) (l : s.row < h) (e : length pre ≡ s.column) where
    below : s.row + s.repeat < h
    below = ⊎_elim (λ a. a) (λ b. absurd (omega arith)) inn.high

    back_run : (n : ℕ) → after_run w h n s ≡ ok s' → Back s pre c (run n) is s'
    unfolding after_run
    back_run n r =
        split n (pixels_left w h s)
        (λ t. let p = rw (le-leb n (pixels_left w h s) t) at r in
        let q = (s.column + n) / w in
        let e' : length (pre ++ replicate n c) ≡ s.column + n = rw (length-append, length-replicate, e) refl in
        let same : row_ends w q (advanced n s) ≡ s' = cc in
        subst (λ (x : State). Back s pre c (run n) is x) same
        (record {
          pre' = behind w q (pre ++ replicate n c);
          c' = 1 - c;
          pre'-is = behind_is w q (advanced n s) (pre ++ replicate n c) e';
          inn = inside_run w h pos s n inn.wide below t;
          on = λ a. run_on w h pos s pre c n is e (ends_on w h pos q (advanced n s) (pre ++ replicate n c) (1 - c) is (div-mul-le_self (s.column + n) w) e' a);
        }))
        (λ t. absurd (fault≢ (rw (lt-leb n (pixels_left w h s) t) at r)))

    back_again : (n : ℕ) (i : Item) → 0 < n → pixels_in i ≡ 0 → repeat i ≡ n ∷ [] → turned c i ≡ c → s.repeat ≡ 0 → after_repeat h n s ≡ ok s' → Back s pre c i is s'
    unfolding after_repeat
    back_again n i p e0 e1 e2 z r =
        split n (h - s.row - 1)
        (λ t. let r' = rw (le-leb n (h - s.row - 1) t) at r in
        let same : with_repeat n s ≡ s' = cc in
        subst (λ (x : State). Back s pre c i is x) same
        (record {
          pre' = pre;
          c' = c;
          pre'-is = e;
          inn = record { wide = inn.wide; high = inl (omega arith) };
          on = repeat_on w h pos s pre c n i is inn.wide p e0 e1 e2 z;
        }))
        (λ t. absurd (fault≢ (rw (lt-leb n (h - s.row - 1) t) at r)))

    back : (i : Item) → Number i → Free s.repeat i → after_item w h i s ≡ ok s' → Back s pre c i is s'
    unfolding after_item
    back (run n) p q r = back_run n r
    back (fourteen n) p q r = back_again n (fourteen n) p refl refl refl (free_none s.repeat q) r
    back fifteen p q r = back_again 1 fifteen (omega arith) refl refl refl (free_none s.repeat q) r

  pub sound : (g : ℕ) (s : State) (pre : List ℕ) (c : ℕ) (xs : List ℕ) (is : List Item) → Inside w h s → Nybbles xs → length pre ≡ s.column → walk g f w h s xs ≡ ok is → Read s pre c xs is
  sound zero s pre c xs is i n e r = split h s.row (λ t. read_full s pre c xs is i t e (sym (walk_full zero f w h s xs t) ∙ r)) (λ t. absurd (fault≢ (sym (walk_none f w h s xs t) ∙ r)))
  sound (suc g) s pre c xs is i n e r =
      split h s.row (λ t. read_full s pre c xs is i t e (sym (walk_full (suc g) f w h s xs t) ∙ r))
      (λ t. let b0 = bind_ok (turn f w h s xs) (λ t. walk g f w h t.1 t.2 >>= λ is. ok (t.0 ∷ is)) (sym (walk_next g f w h s xs t) ∙ r) in
      let u = turn_ok f w h s xs b0.0 b0.1 in
      let it = b0.0.0 in
      let s' = b0.0.1 in
      let ys = b0.0.2 in
      let b3 = bind_ok (walk g f w h s' ys) (λ is. ok (it ∷ is)) b0.2 in
      let is' = b3.0 in
      let k = item_took f s.repeat xs it ys hf n u.0 in
      let b = back s pre c is' s' i t e it k.number k.free u.1 in
      let d = sound g s' b.pre' b.c' ys is' b.inn (nybs_rest (written f it) ys (subst Nybbles k.cut n)) b.pre'-is b3.1 in
      read_item s pre c xs ys it is' is k.cut k.number d.rest d.cut d.fin d.nums (b.on d.at) b3.2)
