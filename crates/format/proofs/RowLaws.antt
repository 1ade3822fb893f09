-- Laws of a raster's rows: one row is taken off the front of a string, and the repeats of the rows behind it stay.
-- Assumes nothing.
use Prim.Native.Nat.{ℕ, zero, suc, ◌+◌, ◌-◌, ◌/◌, ◌≤◌, ◌<◌}
use mathlib.Core.Path.{◌≡◌, refl, sym, ap, ◌∙◌, fun_ext}
use mathlib.Core.List.{List, [], ◌∷◌, ◌++◌}
use mathlib.Core.Bool.{cond}
use native.Mathlib.Nat.{add-div_left, div-eq_of_lt, add_assoc, add-zero}
use native.Mathlib.Numerals.{add-one}
use native.Mathlib.Omega.{arith}
use lib.Dec.{eqb, eqb-suc-suc, eqb-zero-suc}
use lib.ListN.{length, take, drop, replicate, length-append, length-replicate}
use lib.Seq.{take_at, drop_at}
use borrow.Author.Tests.{ne_eqb}
use Rattle.format.proofs.Tests.{cond_same}
use Rattle.format.proofs.ItemLaws.{had}
use Rattle.format.specs.Rasters.{Item, run, pixels_in, repeat, repeats, rows, sum, sent, Grid}

-- What is sent: the first row with its repeats, and then the rest.
pub sent_row : (w k : ℕ) (of : ℕ → List ℕ) (row s : List ℕ) → length row ≡ w → sent of (rows w (suc k) (row ++ s)) ≡ replicate (suc (sum (of 0))) row ++ sent (λ r. of (suc r)) (rows w k s)
unfolding sent rows
sent_row w k of row s e = rw (take_at row s w e, drop_at row s w e) refl

copies : (n : ℕ) (row : List ℕ) (more : List (List ℕ)) → length (replicate n row ++ more) ≡ n + length more
copies n row more = rw (length-append, length-replicate) refl

-- At least k rows are sent, and the first as often as its repeats say.
sent_least : (w k : ℕ) (of : ℕ → List ℕ) (s : List ℕ) → k ≤ length (sent of (rows w k s))
unfolding sent rows
sent_least w zero of s = omega arith
sent_least w (suc k) of s =
    let t = sent_least w k (λ r. of (suc r)) (drop w s) in
    omega (arith, copies (sum (of 0)) (take w s) (sent (λ r. of (suc r)) (rows w k (drop w s))))

pub grid_least : {w h k : ℕ} {of : ℕ → List ℕ} {s : List ℕ} → Grid w h k of s → 0 < k → k + sum (of 0) ≤ h
unfolding sent rows
grid_least {k = zero} g p = absurd (omega arith)
grid_least {w} {h} {k = suc k} {of} {s} g p =
    let t = sent_least w k (λ r. of (suc r)) (drop w s) in
    omega (arith, g.high, copies (sum (of 0)) (take w s) (sent (λ r. of (suc r)) (rows w k (drop w s))))

pub grid_none : {w h : ℕ} {of : ℕ → List ℕ} {s : List ℕ} → Grid w h 0 of s → h ≡ 0
unfolding sent rows
grid_none g = sym g.high

-- The first row comes off,
module _ (w k : ℕ) (of : ℕ → List ℕ) (row s : List ℕ) (e : length row ≡ w) where
  sent_length : length (sent of (rows w (suc k) (row ++ s))) ≡ suc (sum (of 0)) + length (sent (λ r. of (suc r)) (rows w k s))
  sent_length = ap length (sent_row w k of row s e) ∙ copies (suc (sum (of 0))) row (sent (λ r. of (suc r)) (rows w k s))

  pub row_off : {h : ℕ} → Grid w h (suc k) of (row ++ s) → Grid w (h - suc (sum (of 0))) k (λ r. of (suc r)) s
  row_off {h} g =
      let v = length-append row s in
      record { whole = omega (arith, g.whole); once = λ r. g.once (suc r); inside = λ r l. g.inside (suc r) (omega arith); high = omega (arith, g.high, sent_length) }

  -- and goes on.
  pub row_on : {h : ℕ} → length (of 0) ≤ 1 → Grid w h k (λ r. of (suc r)) s → Grid w (suc (sum (of 0)) + h) (suc k) of (row ++ s)
  row_on {h} o g =
      record {
        whole = omega (arith, g.whole, length-append row s);
        once = λ r. elim r as (λ m. length (of m) ≤ 1) [ zero ↦ o | suc r ↦ g.once r ];
        inside = λ r. elim r as (λ m. suc k ≤ m → of m ≡ []) [ zero ↦ λ l. absurd (omega arith) | suc r ↦ λ l. g.inside r (omega arith) ];
        high = omega (arith, g.high, sent_length);
      }

-- The repeats that items give.

eqb_suc : (a b : ℕ) → eqb (a + 1) (suc b) ≡ eqb a b
eqb_suc a b = rw (add-one, eqb-suc-suc) refl

-- A row further on, the rows count one more.
repeats_later : (w p : ℕ) (is : List Item) (r : ℕ) → 0 < w → repeats w (w + p) is (suc r) ≡ repeats w p is r
unfolding repeats
repeats_later w p [] r h = refl
repeats_later w p (i ∷ is) r h =
    rw (add-div_left p h, eqb_suc (p / w) r, add_assoc w p (pixels_in i), repeats_later w (p + pixels_in i) is r h) refl

repeats_past : (w p : ℕ) (is : List Item) → 0 < w → repeats w (w + p) is 0 ≡ []
unfolding repeats
repeats_past w p [] h = refl
repeats_past w p (i ∷ is) h =
    rw (add-div_left p h, ne_eqb (p / w + 1) 0 (λ e. omega arith), add_assoc w p (pixels_in i), repeats_past w (p + pixels_in i) is h) refl

-- The repeats by row from a place in the middle of a row, which has had rep (0 for none).
abbrev pub here : ℕ → ℕ → List ℕ
here rep zero = had rep
here rep (suc r) = []

unfoldable pub from : ℕ → ℕ → ℕ → List Item → ℕ → List ℕ
from w p rep is r = here rep r ++ repeats w p is r

pub had_sum : (n : ℕ) → sum (had n) ≡ n
unfolding sum
had_sum zero = refl
had_sum (suc n) = omega arith

-- at the start
pub from_start : (w : ℕ) (is : List Item) → from w 0 0 is ≡ repeats w 0 is
unfolding from
from_start w is = fun_ext (λ r. elim r as (λ m. from w 0 0 is m ≡ repeats w 0 is m) [ zero ↦ refl | suc r ↦ refl ])

-- after the items
pub from_end : (w p rep : ℕ) → from w p rep [] 0 ≡ had rep
unfolding from repeats
from_end w p zero = refl
from_end w p (suc rep) = refl

-- the first row's repeats hold its own
pub from_least : (w p rep : ℕ) (is : List Item) → rep ≤ sum (from w p rep is 0)
unfolding from sum
from_least w p zero is = omega arith
from_least w p (suc rep) is = omega arith

-- a repeat that comes belongs to the row at hand, which has had none
pub from_first : (w p rep n : ℕ) (i : Item) (is : List Item) → p < w → repeat i ≡ n ∷ [] → 1 ≤ length (from w p rep (i ∷ is) 0)
unfolding from repeats
from_first w p zero n i is l e = rw (e, div-eq_of_lt l) (omega arith)
from_first w p (suc rep) n i is l e = omega arith

pub from_once : (w p rep n : ℕ) (i : Item) (is : List Item) → p < w → repeat i ≡ n ∷ [] → length (from w p rep (i ∷ is) 0) ≤ 1 → rep ≡ 0
unfolding from repeats
from_once w p zero n i is l e o = refl
from_once w p (suc rep) n i is l e o = let o' = rw (e, div-eq_of_lt l) at o in absurd (omega arith)

-- over a run
pub from_run : (w p rep n : ℕ) (is : List Item) → from w p rep (run n ∷ is) ≡ from w (p + n) rep is
unfolding from repeats
from_run w p rep n is = fun_ext (λ r. rw cond_same refl)

-- over a repeat
pub from_repeat : (w p n : ℕ) (i : Item) (is : List Item) → p < w → 0 < n → pixels_in i ≡ 0 → repeat i ≡ n ∷ [] → from w p 0 (i ∷ is) ≡ from w p n is
unfolding from repeats
from_repeat w p zero i is l q e t = absurd (omega arith)
from_repeat w p (suc n) i is l q e t = fun_ext (λ r. rw (e, t, div-eq_of_lt l, add-zero) (first r))
  where
    first : (r : ℕ) → here 0 r ++ (cond (eqb 0 r) (suc n ∷ []) [] ++ repeats w p is r) ≡ here (suc n) r ++ repeats w p is r
    first zero = refl
    first (suc r) = rw (eqb-zero-suc r) refl

-- over a row's end
pub from_past : (w p rep : ℕ) (is : List Item) → 0 < w → from w (w + p) rep is 0 ≡ had rep
unfolding from
from_past w p zero is h = repeats_past w p is h
from_past w p (suc rep) is h = rw (repeats_past w p is h) refl

pub from_later : (w p rep : ℕ) (is : List Item) → 0 < w → (λ (r : ℕ). from w (w + p) rep is (suc r)) ≡ from w p 0 is
unfolding from
from_later w p rep is h = fun_ext (λ r. repeats_later w p is r h ∙ elim r as (λ m. repeats w p is m ≡ from w p 0 is m) [ zero ↦ refl | suc r ↦ refl ])
