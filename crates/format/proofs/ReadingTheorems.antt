-- The theorems on rasters: a raster's bytes are read whole; bytes that are read whole are a raster's; they draw one picture.
-- Assumes nothing.
use Prim.Native.Nat.{ℕ, zero, suc, ◌+◌, ◌-◌, ◌*◌, ◌/◌, ◌%◌, ◌≤◌, ◌<◌}
use mathlib.Core.Path.{◌≡◌, refl, ap, ◌∙◌}
use mathlib.Core.Logic.{inl, ◌↔◌}
use mathlib.Core.List.{List, [], ◌∷◌, ◌++◌}
use native.Mathlib.Nat.{div-mul-le_self, sub-zero}
use native.Mathlib.Omega.{arith}
use lib.ListN.{length, replicate, length-append}
use borrow.Author.Tests.{eq-eqb, ne_eqb}
use Rattle.format.specs.Decoding.{decode, value}
use Rattle.format.specs.Packed.{nybbles, encode}
use Rattle.format.specs.Numbers.{Bytes}
use Rattle.format.specs.Rasters.{Item, run, fourteen, fifteen, AllNumbers, written, writings, spare, picture, RunRaster}
use Rattle.format.specs.Reading.{State, row_ends, advanced, with_repeat, finish, walk, start, reading}
use Rattle.format.specs.Refusals.{ok}
use Rattle.format.proofs.Behind.{behind}
use Rattle.format.proofs.ItemLaws.{fault≢}
use Rattle.format.proofs.PackedLaws.{length-nybbles, bytes_nybbles, decode-encode}
use Rattle.format.proofs.Tests.{split}
use Rattle.format.proofs.ReadingLaws.{at_end, complete, sound}
use Rattle.format.proofs.RowLaws.{from_start}
use Rattle.format.proofs.StateLaws.{At, col_in, ends_off, run_off, repeat_off}

-- Bytes and their nybbles.

finish_spare : (n : ℕ) → finish (spare n) ≡ ok []
unfolding finish spare
finish_spare n = split (n % 2) 0 (λ t. rw (ne_eqb (n % 2) 1 (λ e. omega arith)) refl) (λ t. rw (eq-eqb (n % 2) 1 (omega arith)) refl)

spare_finish : (rest : List ℕ) (n m : ℕ) → n + length rest ≡ 2 * m → finish rest ≡ ok [] → rest ≡ spare n
unfolding finish spare
spare_finish [] n m l e = rw (ne_eqb (n % 2) 1 (λ e. omega arith)) refl
spare_finish (zero ∷ []) n m l e = rw (eq-eqb (n % 2) 1 (omega arith)) refl
spare_finish (zero ∷ x ∷ xs) n m l e = absurd (fault≢ e)
spare_finish (suc x ∷ xs) n m l e = absurd (fault≢ e)

-- each item has a nybble, so the walk's bound is enough
some : (f n : ℕ) → f ≤ 13 → 0 < n → 1 ≤ length (encode f n)
unfolding decode
some f n hf p = go (encode f n) (decode-encode f n [] hf p)
  where
    go : (xs : List ℕ) → decode f (xs ++ []) ≡ value n [] → 1 ≤ length xs
    go [] e = absurd (let z : ◌≡◌ {A = ℕ} 0 1 = cc in omega arith)
    go (x ∷ xs) e = omega arith

pub enough : (f : ℕ) (is : List Item) → f ≤ 13 → AllNumbers is → length is ≤ length (writings f is)
unfolding writings written
enough f [] hf nu = omega arith
enough f (run n ∷ is) hf nu = omega (arith, enough f is hf nu.1, some f n hf nu.0, length-append (encode f n) (writings f is))
enough f (fourteen n ∷ is) hf nu = omega (arith, enough f is hf nu.1, length-append (encode f n) (writings f is))
enough f (fifteen ∷ is) hf nu = omega (arith, enough f is hf nu.1)

-- Every repeat is directly followed by a run.

abbrev pub RunNext : List Item → Type 0
RunNext [] = ⊥
RunNext (run n ∷ is) = Unit {0}
RunNext (fourteen n ∷ is) = ⊥
RunNext (fifteen ∷ is) = ⊥

abbrev pub Followed : List Item → Type 0
Followed [] = Unit {0}
Followed (run n ∷ is) = Followed is
Followed (fourteen n ∷ is) = RunNext is × Followed is
Followed (fifteen ∷ is) = RunNext is × Followed is

module _ (f w h : ℕ) (hf : f ≤ 13) (pos : 0 < w) where
  run_next : (is : List Item) (s : State) (pre : List ℕ) (c : ℕ) → s.column < w → s.row < h → 0 < s.repeat → AllNumbers is → At w h s pre c is → RunNext is
  run_next [] s pre c l r p nu a = absurd (omega (arith, at_end f w h hf pos s pre c l a))
  run_next (run n ∷ is) s pre c l r p nu a = tt
  run_next (fourteen n ∷ is) s pre c l r p nu a = absurd (omega (arith, (repeat_off w h pos s pre c n (fourteen n) is l nu.0 refl refl refl a).0))
  run_next (fifteen ∷ is) s pre c l r p nu a = absurd (omega (arith, (repeat_off w h pos s pre c 1 fifteen is l (omega arith) refl refl refl a).0))

  followed : (is : List Item) (s : State) (pre : List ℕ) (c : ℕ) → s.column < w → AllNumbers is → At w h s pre c is → Followed is
  followed [] s pre c l nu a = tt
  followed (run n ∷ is) s pre c l nu a =
      let q = (s.column + n) / w in
      followed is (row_ends w q (advanced n s)) (behind w q (pre ++ replicate n c)) (1 - c) (col_in w h pos s n) nu.1
      (ends_off w h pos q (advanced n s) (pre ++ replicate n c) (1 - c) is (div-mul-le_self (s.column + n) w) (run_off w h pos s pre c n is a))
  followed (fourteen n ∷ is) s pre c l nu a =
      let t = repeat_off w h pos s pre c n (fourteen n) is l nu.0 refl refl refl a in
      (run_next is (with_repeat n s) pre c l t.1 nu.0 nu.1 t.3, followed is (with_repeat n s) pre c l nu.1 t.3)
  followed (fifteen ∷ is) s pre c l nu a =
      let t = repeat_off w h pos s pre c 1 fifteen is l (omega arith) refl refl refl a in
      (run_next is (with_repeat 1 s) pre c l t.1 (omega arith) nu.1 t.3, followed is (with_repeat 1 s) pre c l nu.1 t.3)

module _ (f w h black : ℕ) (bytes : List ℕ) (hf : f ≤ 13) (wide : 0 < w) (high : 0 < h) where
  at_start : {drawn : List ℕ} (r : RunRaster f w h black bytes drawn) → At w h start [] black r.items
  at_start r = record { k = r.k; low = omega arith; pre_is = refl; grid = rw (from_start w r.items, sub-zero h) r.grid }

  -- Every repeat of a raster is directly followed by a run.
  pub raster_followed : {drawn : List ℕ} (r : RunRaster f w h black bytes drawn) → Followed r.items
  raster_followed r = followed f w h hf wide r.items start [] black wide r.numbers (at_start r)

  -- A raster's bytes are read whole, and its items are the ones read.
  pub raster_read : {drawn : List ℕ} (r : RunRaster f w h black bytes drawn) → reading f w h bytes ≡ ok r.items
  unfolding reading
  raster_read r =
      let is = r.items in
      let fuel : length is ≤ length (nybbles bytes) = omega (arith, enough f is hf r.numbers, ap length r.nybbles_are, length-append (writings f is) (spare (length (writings f is)))) in
      ap (walk (length (nybbles bytes)) f w h start) r.nybbles_are
      ∙ complete f w h hf wide is (length (nybbles bytes)) start [] black (spare (length (writings f is))) wide r.numbers (at_start r) fuel (finish_spare (length (writings f is)))

  -- Bytes that are read whole are a raster's.
  pub read_raster : (is : List Item) → Bytes bytes → reading f w h bytes ≡ ok is → (k : ℕ) × RunRaster f w h black bytes (picture w black k is)
  unfolding reading
  read_raster is b e =
      let d = sound f w h hf wide (length (nybbles bytes)) start [] black (nybbles bytes) is (record { wide = wide; high = inl high }) (bytes_nybbles bytes b) refl e in
      let g = rw (from_start w is, sub-zero h) at d.at.grid in
      let n : length (writings f is) + length d.rest ≡ 2 * length bytes = omega (arith, length-nybbles bytes, ap length d.cut, length-append (writings f is) d.rest) in
      let s = spare_finish d.rest (length (writings f is)) (length bytes) n d.fin in
      (d.at.k, record { items = is; numbers = d.nums; nybbles_are = d.cut ∙ ap (λ (x : List ℕ). writings f is ++ x) s; k = d.at.k; grid = g; drawn_is = refl })

  -- The reading is whole just if the bytes draw something,
  pub read_iff : Bytes bytes → ((is : List Item) × (reading f w h bytes ≡ ok is)) ↔ ((drawn : List ℕ) × RunRaster f w h black bytes drawn)
  read_iff b = ((λ t. let r = read_raster t.0 b t.1 in (picture w black r.0 t.0, r.1)), (λ t. (t.1.items, raster_read t.1)))
