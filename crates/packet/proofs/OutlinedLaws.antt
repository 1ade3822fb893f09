-- The packet that the verdict finds is the one that the checks on numbers give. Assumes nothing.
use Prim.Native.Nat.{ℕ, zero, suc, ◌+◌, ◌-◌, ◌*◌, ◌≤◌, ◌<◌}
use mathlib.Core.Path.{◌≡◌, refl, sym, ap, ◌∙◌}
use mathlib.Core.List.{List}
use mathlib.Core.Bool.{Bool, true, false, cond}
use native.Mathlib.Omega.{arith}
use lib.Dec.{ltb, leb, eqb}
use lib.IntN.{ℤ, pos, negsuc, nat_abs}
use lib.ListN.{length, take, drop, length-drop}
use lib.Seq.{length-take-le}
use borrow.Author.Tests.{ltb-true, ltb-false, leb-true, leb-false, lt-ltb, le-ltb, le-leb, lt-leb}
use Rattle.format.specs.Limits.{in_limits, within_limits, is_code}
use Rattle.format.specs.Refusals.{file_ends, bad_length, outside_limits, bad_code, ok, ◌>>=◌, need}
use Rattle.format.specs.Numbers.{signed, size, twos}
use Rattle.format.specs.Pieces.{Form, short, extended, long, kinds, fixed, packet}
use Rattle.format.specs.Decoding.{number, value_of, read_fields}
use Rattle.format.specs.Verdict.{piece, at_least, Header, header, packet_of, raster_at, packet_at}
use Rattle.std.specs.declared.result.Result.{Result}
use Rattle.std.specs.declared.result.Result.TheVariants.{Ok, Err}
use Rattle.refusals.specs.declared.Refusal.{Refusal}
use Rattle.refusals.specs.Names.{coded}
use Rattle.packet.proofs.LimitLaws.{Low, limits_raw, code_raw, limits_own, code_own}
use Rattle.packet.specs.declared.Fields.{Fields}
use Rattle.packet.specs.declared.Piece.{Piece}
use Rattle.packet.specs.declared.Piece.TheVariants.{Packet}
use Rattle.packet.specs.Outlines.{piece_of, outlined, fields_of, fields_at, narrow_form, outline_as, judged_as}

-- The raster.

-- w, h and the code are no lower than four bytes say.
record Lows (x : Header) : Type 0 where
  w : Low x.w
  h : Low x.h
  code : Low x.code

-- The checks 4, 7, 8 on numbers, with `room` bytes for n raster bytes.
abbrev rastered : ℕ → Fields → ℕ → ℕ → ℕ → ℕ → Result Piece Refusal
rastered b x fixed place room n =
    cond (ltb room n) (Err (coded file_ends))
    (cond (in_limits x.w x.h) (cond (ltb x.code 256) (Ok (Packet (outline_as b x fixed place))) (Err (coded bad_code))) (Err (coded outside_limits)))

raster_raw : (b end place fixed n : ℕ) (x : Header) (t : List ℕ) → place + length t ≡ end → twos 4 x.length - fixed ≡ n → Lows x
    → piece_of end (raster_at b x n t) ≡ rastered b (fields_of x) fixed place (length t) n
unfolding piece_of raster_at need ◌>>=◌
raster_raw b end place fixed n x t e d l = go (leb n (length t)) refl (within_limits x.w x.h) refl (is_code x.code) refl
  where
    limits : within_limits x.w x.h ≡ in_limits (twos 4 x.w) (twos 4 x.h)
    limits = limits_raw x.w x.h l.w l.h

    code : is_code x.code ≡ ltb (twos 4 x.code) 256
    code = code_raw x.code l.code

    go : (p : Bool) → leb n (length t) ≡ p → (q : Bool) → within_limits x.w x.h ≡ q → (r : Bool) → is_code x.code ≡ r
        → piece_of end (need p file_ends >>= λ _. need q outside_limits >>= λ _. need r bad_code >>= λ _. ok (piece (packet (packet_of b x (take n t))) (drop n t)))
        ≡ rastered b (fields_of x) fixed place (length t) n
    go false f q g r h = rw (lt-ltb (length t) n (leb-false n (length t) f)) refl
    go true f false g r h = rw (le-ltb (length t) n (leb-true n (length t) f), sym limits ∙ g) refl
    go true f true g false h = rw (le-ltb (length t) n (leb-true n (length t) f), sym limits ∙ g, sym code ∙ h) refl
    go true f true g true h =
        let m = leb-true n (length t) f in
        let o = limits_own x.w x.h g in
        let behind : end - (length t - n) ≡ place + n = omega arith in
        let front : place + n - n ≡ place = omega arith in
        rw (le-ltb (length t) n m, sym limits ∙ g, sym code ∙ h, length-drop n t, length-take-le n t m, behind, front, d, o.0, o.1, code_own x.code h) refl

-- The length.

-- What four signed bytes hold.
abbrev Fit : ℤ → Type 0
Fit (pos n) = n < 2147483648
Fit (negsuc n) = suc n ≤ 2147483648

-- A header with another length.
abbrev with_length : Header → ℤ → Header
with_length x z =
    record { length = z; code = x.code; tfm = x.tfm; form = x.form; escapement = x.escapement; w = x.w; h = x.h; hoff = x.hoff; voff = x.voff }

-- The number of a negative length is 2^31 or more, so the check 6 on the number is that on the value.
length_raw : (b end place fixed : ℕ) (x : Header) (t : List ℕ) (z : ℤ) → place + length t ≡ end → Fit z → Lows x
    → piece_of end (need (at_least fixed z) bad_length >>= λ _. raster_at b (with_length x z) (nat_abs z - fixed) t)
    ≡ judged_as b (fields_of (with_length x z)) fixed place (length t)
unfolding piece_of at_least need ◌>>=◌ judged_as twos
length_raw b end place fixed x t (pos n) e f l = rw (lt-leb 2147483648 n f) (go (leb fixed n) refl)
  where
    go : (p : Bool) → leb fixed n ≡ p
        → piece_of end (need p bad_length >>= λ _. raster_at b (with_length x (pos n)) (n - fixed) t)
        ≡ cond (ltb n fixed) (Err (coded bad_length)) (rastered b (fields_of (with_length x (pos n))) fixed place (length t) (n - fixed))
    go true h =
        rw (le-ltb n fixed (leb-true fixed n h))
        (raster_raw b end place fixed (n - fixed) (with_length x (pos n)) t e refl (record { w = l.w; h = l.h; code = l.code }))
    go false h = rw (lt-ltb n fixed (leb-false fixed n h)) refl
length_raw b end place fixed x t (negsuc n) e f l =
    rw (le-leb 2147483648 (4294967296 - suc n) (omega arith)) (either (ltb (4294967296 - suc n) fixed))
  where
    bad : Result Piece Refusal
    bad = Err (coded bad_length)

    either : (p : Bool) → bad ≡ cond p bad bad
    either true = refl
    either false = refl

-- The whole.

-- Four signed bytes.
value_fits : (n : ℕ) → Low (value_of (signed 4) n) × Fit (value_of (signed 4) n)
unfolding value_of
value_fits n = go (ltb (2 * n) 4294967296) refl
  where
    go : (p : Bool) → ltb (2 * n) 4294967296 ≡ p → Low (cond p (pos n) (negsuc (4294967296 - suc n))) × Fit (cond p (pos n) (negsuc (4294967296 - suc n)))
    go true e = let l = ltb-true (2 * n) 4294967296 e in (tt, omega arith)
    go false e = let l = ltb-false (2 * n) 4294967296 e in (omega arith, omega arith)

-- In each form the fields are no lower than four bytes say.
lows : (k : Form) (b : ℕ) (s : List ℕ) → Lows (header k b (read_fields (kinds k) s))
unfolding read_fields value_of
lows short b s = record { w = tt; h = tt; code = tt }
lows extended b s = record { w = tt; h = tt; code = tt }
lows long b s =
    let t = drop 4 (drop 4 (drop 4 (drop 4 (drop 4 s)))) in
    record { w = (value_fits (number 4 t)).0; h = (value_fits (number 4 (drop 4 t))).0; code = (value_fits (number 4 (drop 4 s))).0 }

-- A fixed part that the file does not hold.
pub outlined_cut : (k : Form) (b at n : ℕ) (s : List ℕ) → n ≡ size (kinds k) → length s - at < n → Err (coded file_ends) ≡ outlined k b at s
unfolding outlined packet_at need ◌>>=◌ piece_of
outlined_cut k b at n s e h = rw (lt-leb (size (kinds k)) (length (drop at s)) (rw length-drop (omega arith))) refl

-- One that it holds.
outlined_judged : (k : Form) (b at : ℕ) (s : List ℕ) → at ≤ length s → size (kinds k) ≤ length s - at → Fit (header k b (read_fields (kinds k) (drop at s))).length
    → outlined k b at s ≡ judged_as b (fields_at k b (drop at s)) (fixed k) (at + size (kinds k)) (length s - at - size (kinds k))
unfolding outlined packet_at need ◌>>=◌ fields_at
outlined_judged k b at s i h f =
    let m = size (kinds k) in
    let x = header k b (read_fields (kinds k) (drop at s)) in
    let t = drop m (drop at s) in
    let n : length t ≡ length s - at - m = rw (length-drop m (drop at s), length-drop at s) refl in
    rw (le-leb m (length (drop at s)) (rw length-drop (omega arith)))
    (length_raw b (length s) (at + m) (fixed k) x t x.length (omega arith) f (lows k b (drop at s)) ∙ ap (judged_as b (fields_of x) (fixed k) (at + m)) n)

-- The first two forms.

-- The sizes of their fixed parts.
pub narrow_size : (m : ℕ) → 1 ≤ m → m ≤ 2 → (6 * m + 4 ≡ size (kinds (narrow_form m))) × (5 * m + 3 ≡ fixed (narrow_form m))
narrow_size zero l k = absurd (omega arith)
narrow_size (suc zero) l k = (refl, refl)
narrow_size (suc (suc zero)) l k = (refl, refl)
narrow_size (suc (suc (suc m))) l k = absurd (omega arith)

-- Their length is not negative.
narrow_fit : (p : Bool) (b : ℕ) (s : List ℕ) → (fields_at (cond p short extended) b s).length < 2147483648
    → Fit (header (cond p short extended) b (read_fields (kinds (cond p short extended)) s)).length
unfolding fields_at twos
narrow_fit true b s h = h
narrow_fit false b s h = h

-- The packet that the checks give.
pub narrow_judged : (m b at c n room : ℕ) (s : List ℕ) (x : Fields) (r : Result Piece Refusal) → 1 ≤ m → m ≤ 2 → at ≤ length s → 6 * m + 4 ≤ length s - at
    → (x ≡ fields_at (narrow_form m) b (drop at s)) × (x.length < 2147483648)
    → c ≡ 5 * m + 3 → n ≡ at + (6 * m + 4) → room ≡ length s - at - (6 * m + 4)
    → r ≡ judged_as b x c n room → r ≡ outlined (narrow_form m) b at s
narrow_judged m b at c n room s x r l k i h e ec en er q =
    let z = narrow_size m l k in
    let j = outlined_judged (narrow_form m) b at s i (omega arith) (narrow_fit (eqb m 1) b (drop at s) (rw (← e.0) e.1)) in
    q ∙ rw (ec ∙ z.1, en ∙ ap (λ (y : ℕ). at + y) z.0, er ∙ ap (λ (y : ℕ). length s - at - y) z.0, e.0) (sym j)

-- The long form.

-- Its fields do not look at the flag.
pub long_judged : (b at n room : ℕ) (s : List ℕ) (x : Fields) (r : Result Piece Refusal) → at ≤ length s → 36 ≤ length s - at → x ≡ fields_at long 0 (drop at s)
    → n ≡ at + 36 → room ≡ length s - at - 36 → r ≡ judged_as b x 28 n room → r ≡ outlined long b at s
unfolding read_fields fields_at
long_judged b at n room s x r i h e en er q =
    let j = outlined_judged long b at s i h (value_fits (number 4 (drop at s))).1 in
    q ∙ rw (en, er, e) (sym j)
