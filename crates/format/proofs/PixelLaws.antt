-- A raster's pixels: those that the definitions compute are those that it draws; they are w × h, each 0 or 1 (01, Rasters). Assumes nothing.
use Prim.Native.Nat.{ℕ, zero, suc, ◌*◌, ◌/◌, ◌%◌, ◌≤◌, ◌<◌}
use mathlib.Core.Path.{◌≡◌, refl, sym, ap, ◌∙◌, subst}
use mathlib.Core.List.{List, [], ◌∷◌, ◌++◌}
use mathlib.Core.Bool.{Bool, true, false, ◌&&◌}
use native.Mathlib.Nat.{div-eq_of_eq-mul_left, mul_comm, zero-mul}
use native.Mathlib.Omega.{arith}
use lib.Dec.{eqb, ltb}
use lib.ListN.{length, take, drop, replicate, length-append, length-drop, length-take}
use lib.Seq.{take_at}
use borrow.Author.Tests.{lt-ltb, eq-eqb, ne_eqb}
use Rattle.format.specs.Limits.{in_limits}
use Rattle.format.specs.Refusals.{ok}
use Rattle.format.specs.Numbers.{Bytes}
use Rattle.format.specs.Rasters.{Item, run, fourteen, fifteen, pixels_in, turned, string, repeats, rows, sum, sent, joined, picture, RunRaster, bits_of, bits, BitRaster, colour, Draws, blank, in_bits, in_runs}
use Rattle.format.specs.Reading.{none_read, items}
use Rattle.format.specs.Packing.{all_pixels}
use Rattle.format.specs.Drawing.{drawn_by, raster_pixels}
use Rattle.format.proofs.Tests.{test, and_true, true_and}
use Rattle.format.proofs.BitLaws.{bits_read_lem}
use Rattle.format.proofs.FillLaws.{limited, items_draws}
use Rattle.format.proofs.ReadingTheorems.{raster_read}

-- Computed and drawn.

-- No pixels, whatever the bytes are.
pub none_drawn : (f : ℕ) (black : Bool) (h : ℕ) (bytes : List ℕ) → raster_pixels f black 0 h bytes ≡ []
unfolding raster_pixels items none_read drawn_by picture string rows sent joined
none_drawn f black h [] = test (eqb f 14) (λ t. rw (t, zero-mul h) refl) (λ t. rw t refl)
none_drawn f black h (b ∷ bytes) = refl

pub bits_drawn : (f : ℕ) (black : Bool) (w h : ℕ) (bytes drawn : List ℕ) → f ≡ 14 → BitRaster (suc w) h bytes drawn → drawn ≡ raster_pixels f black (suc w) h bytes
unfolding raster_pixels items drawn_by
bits_drawn f black w h bytes drawn e x =
    sym (rw (eq-eqb f 14 e, bits_read_lem (suc w) h bytes drawn x, eq-eqb f 14 e) (ap (take (suc w * h)) x.bits_are ∙ take_at drawn (replicate x.spare 0) (suc w * h) x.size))

runs_drawn : (f : ℕ) (black : Bool) (w h : ℕ) (bytes drawn : List ℕ) → f ≤ 13 → 0 < h → RunRaster f (suc w) h (colour black) bytes drawn → drawn ≡ raster_pixels f black (suc w) h bytes
unfolding raster_pixels items drawn_by
runs_drawn f black w h bytes drawn l p x =
    let k : length (string (colour black) x.items) / suc w ≡ x.k = div-eq_of_eq-mul_left (omega arith) x.grid.whole in
    x.drawn_is
    ∙ sym (rw (ne_eqb f 14 (λ e. omega arith), raster_read f (suc w) h (colour black) bytes l (omega arith) p x, ne_eqb f 14 (λ e. omega arith)) (ap (λ (j : ℕ). picture (suc w) (colour black) j x.items) k))

-- What a raster draws is what is computed,
pub draws_pixels : (f : ℕ) (black : Bool) (w h : ℕ) (bytes drawn : List ℕ) → in_limits w h ≡ true → Draws f black w h bytes drawn → drawn ≡ raster_pixels f black w h bytes
draws_pixels f black zero h bytes drawn l (blank p g q r) = r ∙ sym (none_drawn f black h bytes)
draws_pixels f black zero h bytes drawn l (in_bits p g x) = absurd (omega arith)
draws_pixels f black zero h bytes drawn l (in_runs p g x) = absurd (omega arith)
draws_pixels f black (suc w) h bytes drawn l (blank p g q r) = absurd (omega arith)
draws_pixels f black (suc w) h bytes drawn l (in_bits p g x) = bits_drawn f black w h bytes drawn g x
draws_pixels f black (suc w) h bytes drawn l (in_runs p g x) = runs_drawn f black w h bytes drawn g (limited (suc w) h l (λ e. omega arith)).high x

-- and what is computed of bytes that are read whole is drawn by them.
pub pixels_draw : (f : ℕ) (black : Bool) (w h : ℕ) (bytes : List ℕ) (is : List Item) → f ≤ 14 → in_limits w h ≡ true → Bytes bytes → items f w h bytes ≡ ok is
    → Draws f black w h bytes (raster_pixels f black w h bytes)
pixels_draw f black w h bytes is hf l b e =
    let t = items_draws f black w h bytes is hf l b e in
    subst (Draws f black w h bytes) (draws_pixels f black w h bytes t.0 l t.1) t.1

-- How many there are.

-- Each row is w wide.
abbrev Wide : ℕ → List (List ℕ) → Type 0
Wide w [] = Unit {0}
Wide w (row ∷ more) = (length row ≡ w) × Wide w more

wide_joined : (w : ℕ) (all : List (List ℕ)) → Wide w all → length (joined all) ≡ length all * w
unfolding joined
wide_joined w [] t = omega arith
wide_joined w (row ∷ more) t = omega (arith, length-append row (joined more), t.0, wide_joined w more t.1)

wide_copies : (w n : ℕ) (row : List ℕ) (more : List (List ℕ)) → length row ≡ w → Wide w more → Wide w (replicate n row ++ more)
wide_copies w zero row more e t = t
wide_copies w (suc n) row more e t = (e, wide_copies w n row more e t)

wide_sent : (w k : ℕ) (of : ℕ → List ℕ) (s : List ℕ) → length s ≡ k * w → Wide w (sent of (rows w k s))
unfolding sent rows
wide_sent w zero of s e = tt
wide_sent w (suc k) of s e =
    wide_copies w (suc (sum (of 0))) (take w s) (sent (λ r. of (suc r)) (rows w k (drop w s))) (rw length-take (omega arith)) (wide_sent w k (λ r. of (suc r)) (drop w s) (rw length-drop (omega arith)))

picture_size : (f w h c : ℕ) (bytes drawn : List ℕ) → RunRaster f w h c bytes drawn → length drawn ≡ w * h
unfolding picture
picture_size f w h c bytes drawn x =
    let g = x.grid in
    let n = wide_joined w (sent (repeats w 0 x.items) (rows w x.k (string c x.items))) (wide_sent w x.k (repeats w 0 x.items) (string c x.items) g.whole) in
    ap length x.drawn_is ∙ n ∙ rw g.high (mul_comm h w)

-- A raster draws w × h pixels.
pub draws_size : (f : ℕ) (black : Bool) (w h : ℕ) (bytes drawn : List ℕ) → Draws f black w h bytes drawn → length drawn ≡ w * h
draws_size f black w h bytes drawn (blank p g q r) = rw (p, g, r) refl
draws_size f black w h bytes drawn (in_bits p g x) = x.size
draws_size f black w h bytes drawn (in_runs p g x) = picture_size f w h (colour black) bytes drawn x

-- What they are.

-- Each is 0 or 1: of lists joined and cut,
pixels-append : (xs ys : List ℕ) → all_pixels xs ≡ true → all_pixels ys ≡ true → all_pixels (xs ++ ys) ≡ true
unfolding all_pixels
pixels-append [] ys e f = f
pixels-append (x ∷ xs) ys e f = let t = and_true (ltb x 2) (all_pixels xs) e in true_and t.0 (pixels-append xs ys t.1 f)

pixels_left_lem : (xs ys : List ℕ) → all_pixels (xs ++ ys) ≡ true → all_pixels xs ≡ true
unfolding all_pixels
pixels_left_lem [] ys e = refl
pixels_left_lem (x ∷ xs) ys e = let t = and_true (ltb x 2) (all_pixels (xs ++ ys)) e in true_and t.0 (pixels_left_lem xs ys t.1)

pub pixels_cut : (n : ℕ) (xs : List ℕ) → all_pixels xs ≡ true → (all_pixels (take n xs) ≡ true) × (all_pixels (drop n xs) ≡ true)
unfolding all_pixels
pixels_cut zero xs e = (refl, e)
pixels_cut (suc n) [] e = (refl, refl)
pixels_cut (suc n) (x ∷ xs) e =
    let t = and_true (ltb x 2) (all_pixels xs) e in
    let u = pixels_cut n xs t.1 in
    (true_and t.0 u.0, u.1)

-- of runs,
pixels_run : (n c : ℕ) → c < 2 → all_pixels (replicate n c) ≡ true
unfolding all_pixels
pixels_run zero c l = refl
pixels_run (suc n) c l = true_and (lt-ltb c 2 l) (pixels_run n c l)

pixels_string : (c : ℕ) (is : List Item) → c < 2 → all_pixels (string c is) ≡ true
unfolding string all_pixels
pixels_string c [] l = refl
pixels_string c (i ∷ is) l = pixels-append (replicate (pixels_in i) c) (string (turned c i) is) (pixels_run (pixels_in i) c l) (pixels_string (turned c i) is (two i))
  where
    two : (i : Item) → turned c i < 2
    two (run n) = omega arith
    two (fourteen n) = l
    two fifteen = l

-- of rows,
pixels_copies : (n : ℕ) (row : List ℕ) (more : List (List ℕ)) → all_pixels row ≡ true → all_pixels (joined more) ≡ true → all_pixels (joined (replicate n row ++ more)) ≡ true
unfolding joined
pixels_copies zero row more e f = f
pixels_copies (suc n) row more e f = pixels-append row (joined (replicate n row ++ more)) e (pixels_copies n row more e f)

pixels_sent : (w k : ℕ) (of : ℕ → List ℕ) (s : List ℕ) → all_pixels s ≡ true → all_pixels (joined (sent of (rows w k s))) ≡ true
unfolding sent rows joined all_pixels
pixels_sent w zero of s e = refl
pixels_sent w (suc k) of s e =
    let t = pixels_cut w s e in
    pixels_copies (suc (sum (of 0))) (take w s) (sent (λ r. of (suc r)) (rows w k (drop w s))) t.0 (pixels_sent w k (λ r. of (suc r)) (drop w s) t.1)

-- and of bits.
pixels_bits : (bytes : List ℕ) → all_pixels (bits bytes) ≡ true
unfolding bits bits_of all_pixels
pixels_bits [] = refl
pixels_bits (b ∷ bytes) =
    bit (b / 128) (bit (b / 64) (bit (b / 32) (bit (b / 16) (bit (b / 8) (bit (b / 4) (bit (b / 2) (bit b (pixels_bits bytes))))))))
  where
    bit : (n : ℕ) {t : Bool} → t ≡ true → ltb (n % 2) 2 && t ≡ true
    bit n e = true_and (lt-ltb (n % 2) 2 (omega arith)) e

-- A raster draws 0 for white and 1 for black, and nothing else.
pub draws_colours : (f : ℕ) (black : Bool) (w h : ℕ) (bytes drawn : List ℕ) → Draws f black w h bytes drawn → all_pixels drawn ≡ true
unfolding all_pixels picture
draws_colours f black w h bytes drawn (blank p g q r) = rw r refl
draws_colours f black w h bytes drawn (in_bits p g x) = pixels_left_lem drawn (replicate x.spare 0) (subst (λ (s : List ℕ). all_pixels s ≡ true) x.bits_are (pixels_bits bytes))
draws_colours f black w h bytes drawn (in_runs p g x) =
    rw x.drawn_is (pixels_sent w x.k (repeats w 0 x.items) (string (colour black) x.items) (pixels_string (colour black) x.items (two black)))
  where
    two : (black : Bool) → colour black < 2
    two true = omega arith
    two false = omega arith
