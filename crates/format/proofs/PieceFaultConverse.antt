-- A piece at fault is refused with that fault (01, Numbers given back: 4 to 15). Assumes nothing.
use Prim.Native.Nat.{ℕ, ◌+◌, ◌-◌, ◌/◌, ◌%◌, ◌≤◌, ◌<◌}
use mathlib.Core.Path.{◌≡◌, refl, ◌∙◌}
use mathlib.Core.List.{List, [], ◌∷◌}
use mathlib.Core.Bool.{true, false, not}
use mathlib.Core.Logic.{⊎_map}
use native.Mathlib.Omega.{arith}
use lib.Dec.{eqb}
use lib.ListN.{length, take, drop, length-drop, take-append-drop}
use borrow.Author.Tests.{lt-ltb, le-ltb, le-leb, lt-leb, ne_eqb}
use Rattle.format.specs.Limits.{within_limits, is_code}
use Rattle.format.specs.Lists.{all, elem}
use Rattle.format.specs.Refusals.{Refusal, file_ends, no_piece, bad_length, outside_limits, bad_code, code_twice, Answer, refused, Result, ok, fault, ◌>>=◌, need}
use Rattle.format.specs.Numbers.{Bytes, size}
use Rattle.format.specs.Pieces.{Preamble, kinds, fixed, packet, length_kind}
use Rattle.format.specs.Decoding.{number, value_of}
use Rattle.format.specs.Cut.{packets, Parts}
use Rattle.format.specs.Reading.{items}
use Rattle.format.specs.Verdict.{Front, piece, at_least, form_of, packet_of, raster_at, packet_at, special_at, numeric_at, step, checked, or_else, is_nil, ending, next}
use Rattle.format.specs.Faults.{said, Stands, Sized, Coded, Ends, nothing, in_fixed, in_raster, in_length, in_body, in_four, BadLength, of_command, of_packet, PieceFault, file_ends_here, none_such, wrong_length, limits, code, twice, bad_raster, none_before, bad_end}
use Rattle.format.proofs.Tests.{false_and}
use Rattle.format.proofs.FieldLaws.{bytes_drop}
use Rattle.format.proofs.OnwardLaws.{bytes_left}
use Rattle.format.proofs.RasterFaultConverse.{raster_refused}

-- 4 to 6.

packet_step : (b : ℕ) (t : List ℕ) → b < 240 → step (b ∷ t) ≡ packet_at b (form_of b) (said b t) t
unfolding step
packet_step b t l = rw (lt-ltb b 240 l) refl

special_step : (b k : ℕ) (t : List ℕ) → 1 ≤ k → k ≤ 4 → b ≡ 239 + k → step (b ∷ t) ≡ special_at k (value_of (length_kind k) (number k t)) t
unfolding step
special_step b k t lo hi e = let m : b - 239 ≡ k = omega arith in rw (le-ltb b 240 (omega arith), lt-ltb b 244 (omega arith), m) refl

-- Where the file ends inside a piece, or a length is bad, no piece is found.
ends_step : (s : List ℕ) → Ends s → step s ≡ fault file_ends
unfolding step packet_at raster_at special_at numeric_at at_least need ◌>>=◌
ends_step _ nothing = refl
ends_step _ (in_fixed {b = b} {t = t} hb l) = packet_step b t hb ∙ rw (lt-leb (size (kinds (form_of b))) (length t) l) refl
ends_step _ (in_raster {b = b} {t = t} n hb l e u) =
    let k = form_of b in
    let m : fixed k + n - fixed k ≡ n = omega arith in
    let d = length-drop (size (kinds k)) t in
    packet_step b t hb
    ∙ rw (le-leb (size (kinds k)) (length t) l, e, le-leb (fixed k) (fixed k + n) (omega arith), m, lt-leb n (length (drop (size (kinds k)) t)) (omega arith)) refl
ends_step _ (in_length {b = b} {t = t} k lo hi q l) = special_step b k t lo hi q ∙ rw (lt-leb k (length t) l) refl
ends_step _ (in_body {b = b} {t = t} k n lo hi q l e u) =
    let d = length-drop k t in
    special_step b k t lo hi q ∙ rw (le-leb k (length t) l, e, le-leb 0 n (omega arith), lt-leb n (length (drop k t)) (omega arith)) refl
ends_step _ (in_four {t = t} l) = rw (lt-leb 4 (length t) l) refl

length_step : (s : List ℕ) → BadLength s → step s ≡ fault bad_length
unfolding packet_at special_at need ◌>>=◌
length_step _ (of_command {b = b} {t = t} k lo hi q l e) =
    special_step b k t lo hi q ∙ rw (le-leb k (length t) l, e) refl
length_step _ (of_packet {b = b} {t = t} hb l e) =
    packet_step b t hb ∙ rw (le-leb (size (kinds (form_of b))) (length t) l, e) refl

none_such_lem : (b : ℕ) (t : List ℕ) → 247 ≤ b → step (b ∷ t) ≡ fault no_piece
unfolding step
none_such_lem b t l =
    rw (le-ltb b 240 (omega arith), le-ltb b 244 (omega arith), ne_eqb b 244 (λ e. omega arith), ne_eqb b 245 (λ e. omega arith), ne_eqb b 246 (λ e. omega arith)) refl

-- 7 and 8, for a packet that stands there, with the raster bytes ys.

-- What is found if it is neither.
abbrev found : ℕ → List ℕ → List ℕ → Result Front
found b t ys = ok (piece (packet (packet_of b (said b t) ys)) (drop (length ys) (drop (size (kinds (form_of b))) t)))

stands_step : (b : ℕ) (t ys : List ℕ) → Stands b t ys
    → step (b ∷ t) ≡ (need (within_limits (said b t).w (said b t).h) outside_limits >>= λ _. need (is_code (said b t).code) bad_code >>= λ _. found b t ys)
unfolding packet_at raster_at at_least need ◌>>=◌
stands_step b t ys st =
    let k = form_of b in
    let n = length ys in
    let m : fixed k + n - fixed k ≡ n = omega arith in
    let i = st.inside in
    let d = length-drop (size (kinds k)) t in
    packet_step b t st.flag
    ∙ rw (
      le-leb (size (kinds k)) (length t) (omega arith),
      st.says,
      le-leb (fixed k) (fixed k + n) (omega arith),
      m,
      le-leb n (length (drop (size (kinds k)) t)) (omega arith),
      ← st.bytes,
    )
    refl

-- Within the limits it is judged by its code,
sized_step : (b : ℕ) (t ys : List ℕ) (w h : ℕ) → Sized b t ys w h → step (b ∷ t) ≡ (need (is_code (said b t).code) bad_code >>= λ _. found b t ys)
unfolding within_limits need ◌>>=◌
sized_step b t ys w h s =
    let l : within_limits (said b t).w (said b t).h ≡ true = rw (s.width, s.height) s.limits in
    stands_step b t ys s.stands ∙ rw l refl

-- and with a code it is found.
coded_step : (b : ℕ) (t ys : List ℕ) (w h c : ℕ) → Coded b t ys w h c → step (b ∷ t) ≡ found b t ys
unfolding need ◌>>=◌
coded_step b t ys w h c s =
    let l : is_code (said b t).code ≡ true = rw s.code s.range in
    sized_step b t ys w h s.sized ∙ rw l refl

-- 9 to 15.

raster_part : (b : ℕ) (t ys : List ℕ) → Stands b t ys → Bytes t → Bytes ys
raster_part b t ys st h =
    let xs = drop (size (kinds (form_of b))) t in
    let n = length ys in
    rw st.bytes (bytes_left (take n xs) (drop n xs) (rw (take-append-drop n xs) (bytes_drop (size (kinds (form_of b))) t h)))

nil_is : (xs : List ℕ) → (xs ≡ [] → ⊥) → is_nil xs ≡ false
unfolding is_nil
nil_is [] n = absurd (n refl)
nil_is (x ∷ xs) n = refl

module _ (a : Preamble) (go : ℕ → List ℕ → List ℕ → Answer Parts) (place : ℕ) (seen : List ℕ) where
  packet_refused : (b : ℕ) (t ys : List ℕ) (w h c : ℕ) (x : Refusal) → Coded b t ys w h c → (need (not (elem c seen)) code_twice >>= λ _. items (b / 16) w h ys) ≡ fault x
      → next a go place seen (step (b ∷ t)) ≡ refused x place
  unfolding next packets checked or_else
  packet_refused b t ys w h c x s e = rw (coded_step b t ys w h c s, s.code, s.sized.width, s.sized.height, e) refl

  -- A piece at fault is refused with that fault.
  pub piece_refused : (s : List ℕ) (x : Refusal) → Bytes s → PieceFault place seen s x → next a go place seen (step s) ≡ refused x place
  unfolding next step ending is_nil need ◌>>=◌
  piece_refused s _ b (file_ends_here e) = rw (ends_step s e) refl
  piece_refused _ _ b (none_such {b = x} {t = t} l) = rw (none_such_lem x t l) refl
  piece_refused s _ b (wrong_length e) = rw (length_step s e) refl
  piece_refused _ _ b (limits {b = x} {t = t} {raster = ys} st e) = rw (stands_step x t ys st, e) refl
  piece_refused _ _ b (code {b = x} {w = w} {h = h} {t = t} {raster = ys} si e) = rw (sized_step x t ys w h si, e) refl
  piece_refused _ _ b (twice {b = x} {w = w} {h = h} {c = c} {t = t} {raster = ys} co e) = packet_refused x t ys w h c code_twice co (rw e refl)
  piece_refused _ y b (bad_raster {b = x} {w = w} {h = h} {c = c} {t = t} {raster = ys} co e q) =
      packet_refused x t ys w h c y co (rw e (raster_refused (x / 16) w h ys y (raster_part x t ys co.sized.stands b.1) q))
  piece_refused _ _ b (none_before e) = rw e refl
  piece_refused _ _ b (bad_end {t = t} n e) =
      let four = (place + 1 + length t) % 4 in
      rw (nil_is seen n, false_and (all 246 t) (eqb four 0) (⊎_map (λ u. u) (ne_eqb four 0) e)) refl
