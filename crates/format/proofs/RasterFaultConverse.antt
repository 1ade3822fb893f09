-- A raster at fault is refused with that fault (01, Numbers given back: 10 to 13). Assumes nothing.
use Prim.Native.Nat.{ℕ, zero, suc, ◌-◌, ◌*◌, ◌≤◌, ◌<◌}
use mathlib.Core.Path.{◌≡◌, refl, sym, ap, ◌∙◌, subst}
use mathlib.Core.List.{List, [], ◌∷◌, ◌++◌, append_assoc}
use mathlib.Core.Bool.{cond}
use native.Mathlib.Omega.{arith}
use lib.Dec.{ltb, eqb}
use lib.ListN.{length, length-append}
use borrow.Author.Tests.{lt-ltb, le-ltb, le-leb, lt-leb, eq-eqb, ne_eqb}
use Rattle.format.specs.Refusals.{Refusal, raster_ends, too_many, second_repeat, left_over, Result, ok, fault, ◌>>=◌, need}
use Rattle.format.specs.Numbers.{Bytes}
use Rattle.format.specs.Packed.{nybbles}
use Rattle.format.specs.Rasters.{Item, run, fourteen, fifteen, written, bytes_of_bits}
use Rattle.format.specs.Reading.{number_of, repeat_at, item_of, State, start, pixels_left, after_run, after_repeat, after_item, finish, turn, walk, reading, bits_read, none_read, items}
use Rattle.format.specs.Faults.{Allowed, First, Leads, none, more, Unfinished, Over, Second, in_row, for_number, Fault, unfinished, over, another, left, RasterFault, in_items, few_bytes, many_bytes, spare_bits, none_wanted}
use Rattle.format.proofs.RefusalLaws.{IfFault, cond_case}
use Rattle.format.proofs.PackedLaws.{Nybbles, bytes_nybbles, decode_first}
use Rattle.format.proofs.ItemLaws.{Free, fault≢, had_once, item_read, item_prefix}
use Rattle.format.proofs.ReadingLaws.{walk_full, walk_next, walk_none, nybs_rest}
use Rattle.format.proofs.RasterFaultLaws.{item_fault, item_first, shorter}

-- The item at the front.

free_allowed : (i : Item) (s : State) → Allowed i s → Free s.repeat i
free_allowed (run n) s a = omega (arith, had_once s.repeat)
free_allowed (fourteen n) s a = rw a (omega arith)
free_allowed fifteen s a = rw a (omega arith)

second_more : {s : State} {xs : List ℕ} (ys : List ℕ) → Second s xs → Second s (xs ++ ys)
second_more ys (in_row l r) = in_row l r
second_more ys (for_number l) = for_number l

module _ (f w h : ℕ) (hf : f ≤ 13) where
  -- An item that may stand there is read,
  first_item : (s : State) (xs : List ℕ) (i : Item) (rest : List ℕ) → First f s xs i rest → item_of f s.repeat xs ≡ ok (i, rest)
  first_item s xs i rest a = ap (item_of f s.repeat) a.nybbles ∙ item_read f s.repeat i rest hf a.number (free_allowed i s a.allowed)

  -- a 14 or 15 that may not is refused,
  second_item : (s : State) (xs : List ℕ) → Second s xs → item_of f s.repeat xs ≡ fault second_repeat
  unfolding item_of repeat_at number_of ◌>>=◌
  second_item s _ (in_row {x = x} l r) = rw (le-ltb x 14 l, lt-ltb 0 s.repeat r) refl
  second_item s _ (for_number {x = x} {xs = xs} l) =
      rw (decode_first f x xs (omega arith), lt-leb x f (omega arith), lt-leb x 13 (omega arith))
      (cond_case (λ r. r ≡ fault second_repeat) (ltb 0 s.repeat) _ _ (λ e. refl) (λ e. refl))

  -- and one that is unfinished is neither.
  no_first : (s : State) (xs : List ℕ) (i : Item) (rest : List ℕ) → Unfinished f s xs → First f s xs i rest → ⊥
  no_first s xs i rest u a =
      let zs = u.lacking in
      let e = sym (append_assoc (written f i) rest zs) ∙ ap (λ (y : List ℕ). y ++ zs) (sym a.nybbles) ∙ u.first.nybbles in
      let q = item_prefix f i u.item (rest ++ zs) [] hf a.number u.first.number e in
      omega (arith, ap length q.1, length-append rest zs, u.some)

  no_second : (s : State) (xs : List ℕ) → Unfinished f s xs → Second s xs → ⊥
  no_second s xs u a =
      fault≢ (sym (second_item s (xs ++ u.lacking) (second_more u.lacking a)) ∙ first_item s (xs ++ u.lacking) u.item [] u.first)

  unfinished_item : (s : State) (xs : List ℕ) → s.row < h → Nybbles xs → Unfinished f s xs → item_of f s.repeat xs ≡ fault raster_ends
  unfinished_item s xs l n u = go (item_of f s.repeat xs) refl (item_fault f w h hf s xs l n)
    where
      only : (x : Refusal) → Fault f w h s xs x → x ≡ raster_ends
      only _ (unfinished l v) = refl
      only _ (over i rest l a v) = absurd (no_first s xs i rest u a)
      only _ (another l a) = absurd (no_second s xs u a)
      only _ (left m p q) = absurd (omega arith)

      go : (r : Result (Item × List ℕ)) → item_of f s.repeat xs ≡ r → IfFault (Fault f w h s xs) r → r ≡ fault raster_ends
      go (ok (i, rest)) e q = absurd (no_first s xs i rest u (item_first f w h hf s xs i rest n e))
      go (fault x) e q = ap fault (only x q)

  -- A turn, and all of them.

  over_after : (i : Item) (s : State) → Over w h i s → after_item w h i s ≡ fault too_many
  unfolding after_item after_run after_repeat
  over_after (run n) s l = rw (lt-leb n (pixels_left w h s) l) refl
  over_after (fourteen n) s l = rw (lt-leb n (h - s.row - 1) l) refl
  over_after fifteen s l = rw (lt-leb 1 (h - s.row - 1) l) refl

  left_finish : (xs : List ℕ) → (xs ≡ [] → ⊥) → (xs ≡ 0 ∷ [] → ⊥) → finish xs ≡ fault left_over
  unfolding finish
  left_finish [] p q = absurd (p refl)
  left_finish (zero ∷ []) p q = absurd (q refl)
  left_finish (zero ∷ x ∷ xs) p q = refl
  left_finish (suc x ∷ xs) p q = refl

  -- A turn's refusal is the walk's. g bounds the nybbles.
  turn_walk : (g : ℕ) (s : State) (xs : List ℕ) (x : Refusal) → s.row < h → length xs ≤ g → turn f w h s xs ≡ fault x → walk g f w h s xs ≡ fault x
  unfolding turn item_of ◌>>=◌
  turn_walk zero s [] x l u e = walk_none f w h s [] l ∙ (let z : raster_ends ≡ x = cc in ap fault z)
  turn_walk zero s (y ∷ xs) x l u e = absurd (omega arith)
  turn_walk (suc g) s xs x l u e = walk_next g f w h s xs l ∙ rw e refl

  fault_walk : (g : ℕ) (s : State) (xs : List ℕ) (x : Refusal) → Nybbles xs → length xs ≤ g → Fault f w h s xs x → walk g f w h s xs ≡ fault x
  unfolding turn ◌>>=◌
  fault_walk g s xs _ n u (unfinished l a) = turn_walk g s xs raster_ends l u (rw (unfinished_item s xs l n a) refl)
  fault_walk g s xs _ n u (over i rest l a v) = turn_walk g s xs too_many l u (rw (first_item s xs i rest a, over_after i s v) refl)
  fault_walk g s xs _ n u (another l a) = turn_walk g s xs second_repeat l u (rw (second_item s xs a) refl)
  fault_walk g s xs _ n u (left l p q) = walk_full g f w h s xs l ∙ left_finish xs p q

  -- Items in order lead there.
  lead_walk : (g : ℕ) (s : State) (xs : List ℕ) (t : State) (ys : List ℕ) (x : Refusal) → Nybbles xs → length xs ≤ g → Leads f w h s xs t ys → Fault f w h t ys x
      → walk g f w h s xs ≡ fault x
  unfolding turn ◌>>=◌
  lead_walk g s xs _ _ x n u none e = fault_walk g s xs x n u e
  lead_walk zero s xs t ys x n u (more {rest = rest} i l a m k) e = absurd (omega (arith, shorter f w h hf i xs rest a.number a.nybbles))
  lead_walk (suc g) s xs t ys x n u (more {t = v} {rest = rest} i l a m k) e =
      let n' = nybs_rest (written f i) rest (subst Nybbles a.nybbles n) in
      let u' : length rest ≤ g = omega (arith, shorter f w h hf i xs rest a.number a.nybbles) in
      walk_next g f w h s xs l ∙ rw (first_item s xs i rest a, m, lead_walk g v rest t ys x n' u' k e) refl

-- Any raster.

items_wide : (f w h : ℕ) (bytes : List ℕ) → 0 < w → items f w h bytes ≡ cond (eqb f 14) (bits_read (w * h) (bytes_of_bits (w * h)) bytes) (reading f w h bytes)
unfolding items
items_wide f zero h bytes p = absurd (omega arith)
items_wide f (suc w) h bytes p = refl

none_refused : (bytes : List ℕ) → 0 < length bytes → none_read bytes ≡ fault left_over
unfolding none_read
none_refused [] l = absurd (omega arith)
none_refused (b ∷ bytes) l = refl

-- A raster at fault is refused with that fault.
pub raster_refused : (f w h : ℕ) (bytes : List ℕ) (x : Refusal) → Bytes bytes → RasterFault f w h bytes x → items f w h bytes ≡ fault x
unfolding items reading bits_read need ◌>>=◌
raster_refused f w h bytes x b (in_items s xs p hf k e) =
    items_wide f w h bytes p
    ∙ rw (ne_eqb f 14 (λ z. omega arith)) (lead_walk f w h hf (length (nybbles bytes)) start (nybbles bytes) s xs x (bytes_nybbles bytes b) (omega arith) k e)
raster_refused f w h bytes _ b (few_bytes p e l) = items_wide f w h bytes p ∙ rw (eq-eqb f 14 e, lt-leb (bytes_of_bits (w * h)) (length bytes) l) refl
raster_refused f w h bytes _ b (many_bytes p e l) =
    let k = bytes_of_bits (w * h) in
    items_wide f w h bytes p ∙ rw (eq-eqb f 14 e, le-leb k (length bytes) (omega arith), lt-leb (length bytes) k l) refl
raster_refused f w h bytes _ b (spare_bits p e l u) =
    let k = bytes_of_bits (w * h) in
    items_wide f w h bytes p ∙ rw (eq-eqb f 14 e, le-leb k (length bytes) (omega arith), le-leb (length bytes) k (omega arith), u) refl
raster_refused f w h bytes _ b (none_wanted p e l) = rw p (none_refused bytes l)
