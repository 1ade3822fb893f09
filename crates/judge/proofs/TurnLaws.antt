-- Laws of one turn and of what is left at the end, one for each answer. Assumes nothing.
use Prim.Native.Nat.{ℕ, zero, suc, ◌+◌, ◌-◌, ◌*◌, ◌≤◌, ◌<◌, min}
use mathlib.Core.Path.{◌≡◌, refl, sym, ap, ◌∙◌}
use mathlib.Core.Bool.{Bool, not}
use mathlib.Core.List.{List, [], ◌∷◌}
use native.Mathlib.Omega.{arith}
use lib.ListN.{length, get_or}
use borrow.Author.Tests.{lt-leb}
use Rattle.format.specs.Refusals as F
use Rattle.format.specs.Refusals.{left_over, ok, fault, ◌>>=◌}
use Rattle.std.specs.Prelude.{Result, Ok, Err}
use Rattle.format.specs.Packed.{nybbles}
use Rattle.format.specs.Rasters.{Item, run, fourteen, fifteen}
use Rattle.format.specs.Reading.{State, pixels_left, item_of, after_run, after_repeat, after_item, turn, finish}
use Rattle.format.proofs.Tests.{split}
use Rattle.packed.specs.Answer.{from, cap}
use Rattle.packed.proofs.Part.{from_end, from_cons}
use Rattle.refusals.specs.Names.{coded}
use Rattle.state.specs.Moves.{moved_to, Within}
use Rattle.state.specs.declared.State as D
use Rattle.refusals.specs.declared.Refusal.{Refusal}
use Rattle.state.proofs.MoveLaws.{left_small, rows_few}
use Rattle.items.specs.Items.{to_item}
use Rattle.items.specs.declared.Item as C
use Rattle.items.specs.declared.Item.TheVariants.{Run, Repeat}
use Rattle.judge.specs.Judgement.{on_to, colour_after, to_turn, judged}

-- The end.

finish_two : (x y : ℕ) (xs : List ℕ) → finish (x ∷ y ∷ xs) ≡ fault left_over
unfolding finish
finish_two zero y xs = refl
finish_two (suc x) y xs = refl

module _ (s : List ℕ) (at : ℕ) where
  pub finish_none : 2 * length s ≤ at → Ok tt ≡ judged (finish (from s at))
  unfolding judged finish
  finish_none h = rw (from_end s at h) refl

  pub finish_more : 1 < 2 * length s - at → Err (coded left_over) ≡ judged (finish (from s at))
  unfolding judged
  finish_more h = rw (from_cons s at (omega arith), from_cons s (at + 1) (omega arith), finish_two) refl

  -- One nybble x is left.
  module _ (l : at < 2 * length s) (u : 2 * length s - at ≤ 1) (x : ℕ) (here : x ≡ get_or (nybbles s) at 0) where
    alone : from s at ≡ x ∷ []
    alone = from_cons s at l ∙ rw (← here, from_end s (at + 1) (omega arith)) refl

    pub finish_bad : (x ≡ 0 → ⊥) → Err (coded left_over) ≡ judged (finish (from s at))
    unfolding judged finish
    finish_bad e = rw alone (go x e)
      where
        go : (x : ℕ) → (x ≡ 0 → ⊥) → Err (coded left_over) ≡ judged (finish (x ∷ []))
        go zero e = absurd (e refl)
        go (suc x) e = refl

    pub finish_spare : x ≡ 0 → Ok tt ≡ judged (finish (from s at))
    unfolding judged finish
    finish_spare e = rw (alone, e) refl

-- A number above 65,536, held at 65,537, is judged alike.

cap_run : (w h n : ℕ) (s : State) → pixels_left w h s ≤ 65536 → after_run w h (min n cap) s ≡ after_run w h n s
unfolding after_run
cap_run w h n s l =
    split n 65536
    (λ t. let e : min n cap ≡ n = omega arith in rw e refl)
    (λ t. rw (lt-leb n (pixels_left w h s) (omega arith), lt-leb (min n cap) (pixels_left w h s) (omega arith)) refl)

cap_repeat : (h n : ℕ) (s : State) → h ≤ 65536 → after_repeat h (min n cap) s ≡ after_repeat h n s
unfolding after_repeat
cap_repeat h n s l =
    split n 65536
    (λ t. let e : min n cap ≡ n = omega arith in rw e refl)
    (λ t. rw (lt-leb n (h - s.row - 1) (omega arith), lt-leb (min n cap) (h - s.row - 1) (omega arith)) refl)

-- A turn.

-- A move behind an item, with the place of the next nybble.
on_turn : (s : List ℕ) (black : Bool) (r : F.Result State) (i : Item) (rest : List ℕ)
    → on_to (moved_to (colour_after black i) r) (2 * length s - length rest) ≡ to_turn s black (r >>= λ t. ok (i, t, rest))
unfolding to_turn ◌>>=◌ moved_to
on_turn s black (ok t) i rest = refl
on_turn s black (fault x) i rest = refl

-- The turn that an item makes.
abbrev pub turn_of : Bool → ℕ → ℕ → State → Result C.Item Refusal → Result (D.State × ℕ) Refusal
turn_of black w h st (Ok (Run n next)) = on_to (moved_to (not black) (after_run w h n st)) next
turn_of black w h st (Ok (Repeat n next)) = on_to (moved_to black (after_repeat h n st)) next
turn_of black w h st (Err x) = Err x

module _ (s : List ℕ) (black : Bool) (f w h : ℕ) (st : State) (xs : List ℕ) (i : Within w h st) where
  item_turn : (r : F.Result (Item × List ℕ)) → item_of f st.repeat xs ≡ r → turn_of black w h st (to_item s r) ≡ to_turn s black (turn f w h st xs)
  unfolding turn to_item to_turn ◌>>=◌ after_item
  item_turn (fault x) p = rw p refl
  item_turn (ok (run n, rest)) p = rw (p, cap_run w h n st (omega (arith, left_small w h st i))) (on_turn s black (after_run w h n st) (run n) rest)
  item_turn (ok (fourteen n, rest)) p = rw (p, cap_repeat h n st (rows_few w h st i)) (on_turn s black (after_repeat h n st) (fourteen n) rest)
  item_turn (ok (fifteen, rest)) p = rw p (on_turn s black (after_repeat h 1 st) fifteen rest)

  -- The turn of an item t.
  pub turn_is : (a t : Result C.Item Refusal) → a ≡ t → a ≡ to_item s (item_of f st.repeat xs) → turn_of black w h st t ≡ to_turn s black (turn f w h st xs)
  turn_is a t e q = ap (turn_of black w h st) (sym e ∙ q) ∙ item_turn (item_of f st.repeat xs) refl
