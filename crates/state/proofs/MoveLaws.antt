-- Laws of the state's moves, and what the limit on w × h gives. Assumes nothing.
use Prim.Native.Nat.{ℕ, zero, suc, ◌+◌, ◌-◌, ◌*◌, ◌/◌, ◌%◌, ◌≤◌, ◌<◌}
use mathlib.Core.Path.{◌≡◌, refl, sym, ap, ◌∙◌}
use mathlib.Core.Bool.{Bool}
use native.Mathlib.Nat.{mul-le-mul_right, div-mul-le_self, div-eq_of_lt, div-lt_iff_lt-mul, div-add-mod', mod-lt}
use native.Mathlib.Omega.{arith}
use borrow.Author.Tests.{le-leb, lt-leb}
use Rattle.format.specs.Refusals.{too_many}
use Rattle.format.specs.Reading.{State, pixels_left, row_ends, advanced, with_repeat, after_run, after_repeat}
use Rattle.format.proofs.Tests.{split}
use Rattle.format.proofs.StateLaws.{ends_col, ends_row, ends_rep}
use Rattle.refusals.specs.Names.{coded}
use Rattle.state.specs.Moves.{coloured, moved_to, Within}
use Rattle.state.specs.declared.State as D
use Rattle.std.specs.Prelude.{Ok, Err}

-- Rows that are full.

same_state : {a b c d e f : ℕ} {x : Bool} → a ≡ b → c ≡ d → e ≡ f
    → ◌≡◌ {A = D.State} (record { column = a; row = c; repeat = e; black = x }) (record { column = b; row = d; repeat = f; black = x })
same_state p q r = cc

-- q rows at once are q row ends.
pub ends_at_once : (w q : ℕ) (s : State) (black : Bool) (c r : ℕ) → 1 ≤ q → c ≡ s.column - q * w → r ≡ s.row + s.repeat + q
    → record { column = c; row = r; repeat = 0; black = black } ≡ coloured black (row_ends w q s)
ends_at_once w zero s black c r l e f = absurd (omega arith)
ends_at_once w (suc q) s black c r l e f = same_state (e ∙ sym (ends_col w (suc q) s)) (f ∙ sym (ends_row w q s)) (sym (ends_rep w q s))

-- A column before the last fills no row.
pub no_end : (w n : ℕ) (s : State) (black : Bool) → s.column + n < w → coloured black (advanced n s) ≡ coloured black (row_ends w ((s.column + n) / w) (advanced n s))
no_end w n s black l = rw (div-eq_of_lt l) refl

-- A column past the last fills one at least.
pub some_end : (w n : ℕ) → 1 ≤ w → w ≤ n → 1 ≤ n / w
some_end w n p l =
    split 1 (n / w) (λ t. t)
    (λ t. let z : n / w ≡ 0 = omega arith in
    let e : n / w * w + n % w ≡ n = div-add-mod' n w in
    let m : n % w < w = mod-lt n p in
    absurd (omega (arith, ap (λ (q : ℕ). q * w) z)))

-- A column past the last and not past the next fills one.
pub one_end : (w n : ℕ) (s : State) (black : Bool) → 1 ≤ w → w ≤ s.column + n → s.column + n - w < w
    → coloured black (row_ends w 1 (advanced n s)) ≡ coloured black (row_ends w ((s.column + n) / w) (advanced n s))
one_end w n s black p l u =
    let c = s.column + n in
    let q : c / w ≡ 1 = omega (arith, some_end w c p l, (div-lt_iff_lt-mul {x = c} {y = 2} p).1 (omega arith)) in
    rw q refl

-- A run.

pub run_over : (w h n : ℕ) (s : State) (black : Bool) → pixels_left w h s < n → Err (coded too_many) ≡ moved_to black (after_run w h n s)
unfolding after_run moved_to
run_over w h n s black l = rw (lt-leb n (pixels_left w h s) l) refl

pub run_fits : (w h n : ℕ) (s : State) (black : Bool) (t : D.State) → n ≤ pixels_left w h s → t ≡ coloured black (row_ends w ((s.column + n) / w) (advanced n s))
    → Ok t ≡ moved_to black (after_run w h n s)
unfolding after_run moved_to
run_fits w h n s black t l e = rw (le-leb n (pixels_left w h s) l) (ap Ok e)

-- A repeat.

pub repeat_over : (h n : ℕ) (s : State) (black : Bool) → h - s.row - 1 < n → Err (coded too_many) ≡ moved_to black (after_repeat h n s)
unfolding after_repeat moved_to
repeat_over h n s black l = rw (lt-leb n (h - s.row - 1) l) refl

pub repeat_fits : (h n : ℕ) (s : State) (black : Bool) (t : D.State) → n ≤ h - s.row - 1 → t ≡ coloured black (with_repeat n s) → Ok t ≡ moved_to black (after_repeat h n s)
unfolding after_repeat moved_to
repeat_fits h n s black t l e = rw (le-leb n (h - s.row - 1) l) (ap Ok e)

-- What a state within the raster gives.

-- The pixels of the row and of the rows left are no more than 65,536,
pub left_small : (w h : ℕ) (s : State) → Within w h s → pixels_left w h s + s.column ≤ 65536
left_small w h s i =
    let m = h - s.row - s.repeat - 1 in
    let l : suc m ≤ h = omega (arith, i.high) in
    omega (arith, i.wide, i.small, mul-le-mul_right {m = suc m} {n = h} w l)

-- and so are the rows.
pub rows_few : (w h : ℕ) (s : State) → Within w h s → h ≤ 65536
rows_few w h s i = omega (arith, i.wide, i.small, mul-le-mul_right {m = 1} {n = w} h (omega (arith, i.wide)))

-- A run that fits ends no more than the rows there are.
pub run_rows : (w h n : ℕ) (s : State) → Within w h s → n ≤ pixels_left w h s → s.row + s.repeat + (s.column + n) / w ≤ h
run_rows w h n s i l =
    let c = i.wide in
    let r = i.high in
    let m = h - s.row - s.repeat - 1 in
    let q = (s.column + n) / w in
    let top : s.column + n ≤ m * w + w = omega arith in
    split q (suc m) (λ t. omega arith)
    (λ t. let v = mul-le-mul_right {m = suc (suc m)} {n = q} w t in let u = div-mul-le_self (s.column + n) w in absurd (omega arith))
