-- Packing's theorems: the raster of a bitmap draws that very bitmap (01, What packing chooses). Assumes nothing.
use Prim.Native.Nat.{ℕ, zero, suc, ◌+◌, ◌-◌, ◌*◌, ◌/◌, ◌%◌, ◌≤◌, ◌<◌}
use mathlib.Core.Path.{◌≡◌, refl, sym, ap, ◌∙◌, subst}
use mathlib.Core.List.{List, [], ◌∷◌, ◌++◌, append_assoc, append-nil}
use mathlib.Core.Bool.{true}
use native.Mathlib.Nat.{zero-add, add-zero, sub-zero}
use native.Mathlib.Omega.{arith}
use lib.Dec.{eqb, ltb}
use lib.ListN.{length, drop, replicate, get_or, length-take, length-drop, take-append-drop}
use lib.Seq.{drop-nil}
use borrow.Author.Tests.{ltb-true, eqb-true, eqb-false, eq-eqb, ne_eqb}
use Rattle.format.specs.Limits.{in_limits}
use Rattle.format.specs.Packed.{nybbles, encode}
use Rattle.format.specs.Rasters.{Item, run, fourteen, fifteen, AllNumbers, written, writings, spare, string, repeats, rows, joined, picture, Grid, RunRaster, bits_of, bits, bytes_of_bits, BitRaster, colour, Draws, blank, in_bits, in_runs}
use Rattle.format.specs.Counts.{Kept, row, kept, strung, imaginary, counts}
use Rattle.format.specs.Choice.{halves, byte_of, bit_bytes, raster_of, first_black}
use Rattle.format.specs.Packing.{all_pixels}
use Rattle.format.proofs.Tests.{test, and_true}
use Rattle.format.proofs.PackedLaws.{Nybbles, nybbles-join, encode-nybbles}
use Rattle.format.proofs.RowLaws.{from, from_start}
use Rattle.format.proofs.FillLaws.{limits_none, limited}
use Rattle.format.proofs.PixelLaws.{pixels_cut}
use Rattle.format.proofs.CountLaws.{colours, singles, string_runs, repeats_runs, numbers_runs}
use Rattle.format.proofs.KeptLaws.{spelled, flat, spelled_kept, Bitmap, Fit, fit_kept, colours_strung, good_strung, sent_strung, grid_strung}

-- Nybbles in bytes.

-- Nybbles put into bytes are those nybbles, and the spare half.
halves-nybbles : (xs : List ℕ) → Nybbles xs → nybbles (halves xs) ≡ xs ++ spare (length xs)
unfolding nybbles halves spare
halves-nybbles [] n = refl
halves-nybbles (a ∷ []) n =
    let p : a * 16 / 16 ≡ a = omega arith in
    let q : a * 16 % 16 ≡ 0 = omega arith in
    rw (p, q) refl
halves-nybbles (a ∷ b ∷ xs) n =
    let l : b < 16 = n.1.0 in
    let p : (a * 16 + b) / 16 ≡ a = omega arith in
    let q : (a * 16 + b) % 16 ≡ b = omega arith in
    let e : suc (suc (length xs)) % 2 ≡ length xs % 2 = omega arith in
    rw (p, q, e) (ap (λ (ys : List ℕ). a ∷ b ∷ ys) (halves-nybbles xs n.1.1))

-- The writing of items is nybbles.
pub writings_nybbles : (f : ℕ) (is : List Item) → f ≤ 13 → Nybbles (writings f is)
unfolding writings written
writings_nybbles f [] h = tt
writings_nybbles f (run n ∷ is) h = nybbles-join (encode f n) (writings f is) (encode-nybbles f n h) (writings_nybbles f is h)
writings_nybbles f (fourteen n ∷ is) h = (omega arith, nybbles-join (encode f n) (writings f is) (encode-nybbles f n h) (writings_nybbles f is h))
writings_nybbles f (fifteen ∷ is) h = (omega arith, writings_nybbles f is h)

-- A bitmap's rows.

-- They are w wide, of pixels 0 and 1,
rows_bitmap : (w h : ℕ) (b : List ℕ) → length b ≡ w * h → all_pixels b ≡ true → Bitmap w (rows w h b)
unfolding rows
rows_bitmap w zero b l p = tt
rows_bitmap w (suc h) b l p =
    let t = pixels_cut w b p in
    (rw length-take (omega arith), t.0, rows_bitmap w h (drop w b) (rw length-drop (omega arith)) t.1)

-- h in number,
rows_high : (w h : ℕ) (b : List ℕ) → length (rows w h b) ≡ h
unfolding rows
rows_high w zero b = refl
rows_high w (suc h) b = ap suc (rows_high w h (drop w b))

-- and joined they are the bitmap.
rows_joined : (w h : ℕ) (b : List ℕ) → length b ≡ w * h → joined (rows w h b) ≡ b
unfolding rows joined
rows_joined w zero [] l = refl
rows_joined w zero (x ∷ b) l = absurd (omega arith)
rows_joined w (suc h) b l = rw (rows_joined w h (drop w b) (rw length-drop (omega arith))) (take-append-drop w b)

-- The first pixel is that of the kept rows.
first_pixel : (w : ℕ) (ks : List Kept) → 0 < w → Fit w ks → get_or (flat ks) 0 0 ≡ get_or (joined (spelled ks)) 0 0
unfolding flat spelled joined
first_pixel w [] h f = refl
first_pixel w (row [] n ∷ ks) h f = absurd (omega (arith, f.0))
first_pixel w (row (x ∷ r) n ∷ ks) h f = refl

-- It is 0 or 1.
first_small : (b : List ℕ) → all_pixels b ≡ true → get_or b 0 0 < 2
unfolding all_pixels
first_small [] e = omega arith
first_small (x ∷ b) e = ltb-true x 2 (and_true (ltb x 2) (all_pixels b) e).0

-- With f from 0 to 13 the black bit is its colour.
first_colour : (f : ℕ) (b : List ℕ) → f ≤ 13 → all_pixels b ≡ true → colour (first_black f b) ≡ get_or b 0 0
unfolding first_black
first_colour f b h e =
    let l = first_small b e in
    rw (ne_eqb f 14 (λ q. omega arith))
    (test (eqb (get_or b 0 0) 1) (λ t. rw t (sym (eqb-true (get_or b 0 0) 1 t))) (λ t. let n = eqb-false (get_or b 0 0) 1 t in rw t (omega arith)))

-- Runs.

module _ (f w h : ℕ) (b : List ℕ) (hf : f ≤ 13) (wide : 0 < w) (high : 0 < h) (l : length b ≡ w * h) (e : all_pixels b ≡ true) where
  fit : Fit w (kept (rows w h b))
  fit = fit_kept w (rows w h b) (rows_bitmap w h b l e)

  -- The string of the count list is that of the kept rows,
  counts_string : string (colour (first_black f b)) (counts (rows w h b)) ≡ flat (kept (rows w h b))
  unfolding counts
  counts_string =
      let k = kept (rows w h b) in
      let o = colours_strung imaginary k in
      let c : colour (first_black f b) ≡ get_or (colours (strung imaginary k)) 0 0 =
      first_colour f b hf e ∙ sym (rw (o, first_pixel w k wide fit, spelled_kept (rows w h b), rows_joined w h b l) refl) in
      rw c (string_runs imaginary (strung imaginary k) (good_strung w imaginary k fit) ∙ o)

  -- with their repeats.
  counts_repeats : repeats w 0 (counts (rows w h b)) ≡ from w 0 0 (singles (strung imaginary (kept (rows w h b))))
  unfolding counts
  counts_repeats =
      let ps = strung imaginary (kept (rows w h b)) in
      repeats_runs w imaginary ps (good_strung w imaginary (kept (rows w h b)) fit) ∙ sym (from_start w (singles ps))

  counts_numbers : AllNumbers (counts (rows w h b))
  unfolding counts
  counts_numbers = numbers_runs (strung imaginary (kept (rows w h b)))

  -- The count list of a bitmap, in nybbles and in bytes, draws that very bitmap.
  pub counts_draw : RunRaster f w h (colour (first_black f b)) (halves (writings f (counts (rows w h b)))) b
  unfolding picture
  counts_draw =
      let k = kept (rows w h b) in
      let is = counts (rows w h b) in
      let z : length (spelled k) ≡ h = rw (spelled_kept (rows w h b)) (rows_high w h b) in
      record {
        items = is;
        numbers = counts_numbers;
        nybbles_are = halves-nybbles (writings f is) (writings_nybbles f is hf);
        k = length k;
        grid = rw (counts_repeats, counts_string) (subst (λ (n : ℕ). Grid w n (length k) (from w 0 0 (singles (strung imaginary k))) (flat k)) z (grid_strung w imaginary k wide (omega arith) fit));
        drawn_is = sym (rw (counts_repeats, counts_string, sent_strung w imaginary k wide (omega arith) fit, spelled_kept (rows w h b)) (rows_joined w h b l));
      }

-- Bits.

-- The first k of the entries, with zeros for those that are missing.
unfoldable padded : ℕ → List ℕ → List ℕ
padded zero xs = []
padded (suc k) [] = 0 ∷ padded k []
padded (suc k) (x ∷ xs) = x ∷ padded k xs

padded_none : (k : ℕ) → padded k [] ≡ replicate k 0
unfolding padded
padded_none zero = refl
padded_none (suc k) = ap (λ (l : List ℕ). 0 ∷ l) (padded_none k)

-- Zeros follow the entries.
padded_is : (k : ℕ) (xs : List ℕ) → length xs ≤ k → padded k xs ≡ xs ++ replicate (k - length xs) 0
unfolding padded
padded_is k [] l = rw (sub-zero k) (padded_none k)
padded_is zero (x ∷ xs) l = absurd (omega arith)
padded_is (suc k) (x ∷ xs) l =
    let e : suc k - suc (length xs) ≡ k - length xs = omega arith in
    rw e (ap (λ (y : List ℕ). x ∷ y) (padded_is k xs (omega arith)))

-- The first j, and then k more.
padded_more : (j k : ℕ) (xs : List ℕ) → padded (j + k) xs ≡ padded j xs ++ padded k (drop j xs)
unfolding padded
padded_more zero k xs = rw (zero-add k) refl
padded_more (suc j) k [] = let e : suc j + k ≡ suc (j + k) = omega arith in rw e (ap (λ (y : List ℕ). 0 ∷ y) (padded_more j k [] ∙ ap (λ (y : List ℕ). padded j [] ++ padded k y) (drop-nil j)))
padded_more (suc j) k (x ∷ xs) = let e : suc j + k ≡ suc (j + k) = omega arith in rw e (ap (λ (y : List ℕ). x ∷ y) (padded_more j k xs))

-- The last k bits of a number, the first most significant.
unfoldable last_bits : ℕ → ℕ → List ℕ
last_bits zero v = []
last_bits (suc k) v = last_bits k (v / 2) ++ (v % 2 ∷ [])

-- Those of a byte are all that it has.
byte_bits : (v : ℕ) → last_bits 8 v ≡ bits_of v
unfolding last_bits bits_of
byte_bits v =
    let a : v / 2 / 2 ≡ v / 4 = omega arith in
    let b : v / 4 / 2 ≡ v / 8 = omega arith in
    let c : v / 8 / 2 ≡ v / 16 = omega arith in
    let d : v / 16 / 2 ≡ v / 32 = omega arith in
    let e : v / 32 / 2 ≡ v / 64 = omega arith in
    let f : v / 64 / 2 ≡ v / 128 = omega arith in
    rw (a, b, c, d, e, f) refl

-- Behind the bits of v come the pixels.
pixel_bits : (j k v : ℕ) (xs : List ℕ) → all_pixels xs ≡ true → last_bits (j + k) (byte_of v k xs) ≡ last_bits j v ++ padded k xs
unfolding last_bits byte_of padded all_pixels
pixel_bits j zero v xs e = rw (add-zero j, append-nil) refl
pixel_bits j (suc k) v [] e =
    let n : j + suc k ≡ suc j + k = omega arith in
    let p : 2 * v / 2 ≡ v = omega arith in
    let q : 2 * v % 2 ≡ 0 = omega arith in
    rw n (pixel_bits (suc j) k (2 * v) [] refl ∙ rw (p, q, append_assoc) refl)
pixel_bits j (suc k) v (x ∷ xs) e =
    let t = and_true (ltb x 2) (all_pixels xs) e in
    let l = ltb-true x 2 t.0 in
    let n : j + suc k ≡ suc j + k = omega arith in
    let p : (2 * v + x) / 2 ≡ v = omega arith in
    let q : (2 * v + x) % 2 ≡ x = omega arith in
    rw n (pixel_bits (suc j) k (2 * v + x) xs t.1 ∙ rw (p, q, append_assoc) refl)

-- The bits of a byte are its eight pixels, and those of n bytes are all.
byte_pixels : (xs : List ℕ) → all_pixels xs ≡ true → bits_of (byte_of 0 8 xs) ≡ padded 8 xs
unfolding last_bits
byte_pixels xs e = sym (byte_bits (byte_of 0 8 xs)) ∙ pixel_bits 0 8 0 xs e

bits_bytes : (n : ℕ) (xs : List ℕ) → all_pixels xs ≡ true → bits (bit_bytes n xs) ≡ padded (8 * n) xs
unfolding bits bit_bytes padded
bits_bytes zero xs e = refl
bits_bytes (suc n) xs e =
    let m : 8 * suc n ≡ 8 + 8 * n = omega arith in
    rw (m, padded_more 8 (8 * n) xs, byte_pixels xs e, bits_bytes n (drop 8 xs) (pixels_cut 8 xs e).1) refl

-- The bits of a bitmap, eight to a byte, draw it.
pub bits_draw : (w h : ℕ) (b : List ℕ) → length b ≡ w * h → all_pixels b ≡ true → BitRaster w h (bit_bytes (bytes_of_bits (w * h)) b) b
bits_draw w h b l e =
    let n = bytes_of_bits (w * h) in
    record {
      size = l;
      spare = 8 * n - length b;
      few = omega arith;
      bits_are = bits_bytes n b e ∙ padded_is (8 * n) b (omega arith);
    }

-- Any raster.

-- The raster of a bitmap draws that very bitmap.
pub raster_draws : (w h : ℕ) (b : List ℕ) (f : ℕ) → f ≤ 14 → in_limits w h ≡ true → (w ≡ 0 → f ≡ 14) → length b ≡ w * h → all_pixels b ≡ true
    → Draws f (first_black f b) w h (raster_of f (counts (rows w h b)) b) b
unfolding raster_of bit_bytes
raster_draws zero h b f hf li z l e =
    let n = none b (omega arith) in
    let q = z refl in
    blank refl (limits_none h li) (rw (eq-eqb f 14 q, n) refl) n
  where
    none : (b : List ℕ) → length b ≡ 0 → b ≡ []
    none [] p = refl
    none (x ∷ b) p = absurd (omega arith)
raster_draws (suc w) h b f hf li z l e =
    test (eqb f 14)
    (λ u. rw (u, l) (in_bits (omega arith) (eqb-true f 14 u) (bits_draw (suc w) h b l e)))
    (λ u. let n = eqb-false f 14 u in
    let g : f ≤ 13 = omega arith in
    rw u (in_runs (omega arith) g (counts_draw f (suc w) h b g (omega arith) (limited (suc w) h li (λ q. omega arith)).high l e)))
