-- The states that the reading meets stay inside the raster, item by item. Assumes nothing.
use Prim.Native.Nat.{ℕ, ◌+◌, ◌-◌, ◌/◌, ◌≤◌, ◌<◌}
use mathlib.Core.Path.{◌≡◌, subst}
use mathlib.Core.Logic.{inl, ⊎_elim}
use native.Mathlib.Omega.{arith}
use borrow.Author.Tests.{le-leb, lt-leb}
use Rattle.format.specs.Refusals.{ok}
use Rattle.format.specs.Rasters.{Item, run, fourteen, fifteen}
use Rattle.format.specs.Reading.{State, pixels_left, row_ends, advanced, with_repeat, after_run, after_repeat, after_item}
use Rattle.format.proofs.Tests.{split}
use Rattle.format.proofs.ItemLaws.{fault≢}
use Rattle.format.proofs.StateLaws.{Inside, inside_run}

module _ (w h : ℕ) (s s' : State) where
  -- A run that leads on fits, and so does a repeat.
  pub run_ok : (n : ℕ) → after_run w h n s ≡ ok s' → (n ≤ pixels_left w h s) × (row_ends w ((s.column + n) / w) (advanced n s) ≡ s')
  unfolding after_run
  run_ok n e =
      split n (pixels_left w h s)
      (λ t. let e' : ok (row_ends w ((s.column + n) / w) (advanced n s)) ≡ ok s' = rw (le-leb n (pixels_left w h s) t) at e in (t, cc))
      (λ t. absurd (fault≢ (rw (lt-leb n (pixels_left w h s) t) at e)))

  pub repeat_ok : (n : ℕ) → after_repeat h n s ≡ ok s' → (n ≤ h - s.row - 1) × (with_repeat n s ≡ s')
  unfolding after_repeat
  repeat_ok n e =
      split n (h - s.row - 1)
      (λ t. let e' : ok (with_repeat n s) ≡ ok s' = rw (le-leb n (h - s.row - 1) t) at e in (t, cc))
      (λ t. absurd (fault≢ (rw (lt-leb n (h - s.row - 1) t) at e)))

module _ (w h : ℕ) (s s' : State) (inn : Inside w h s) (l : s.row < h) where
  -- The row and its repeats are rows of the raster.
  pub below : s.row + s.repeat < h
  below = ⊎_elim (λ a. a) (λ b. absurd (omega arith)) inn.high

  run_inside : (n : ℕ) → 0 < w → after_run w h n s ≡ ok s' → Inside w h s'
  run_inside n pos e =
      let o = run_ok w h s s' n e in
      subst (λ (x : State). Inside w h x) o.1 (inside_run w h pos s n inn.wide below o.0)

  repeat_inside : (n : ℕ) → after_repeat h n s ≡ ok s' → Inside w h s'
  repeat_inside n e =
      let o = repeat_ok w h s s' n e in
      subst (λ (x : State). Inside w h x) o.1 (record { wide = inn.wide; high = inl (omega (arith, o.0)) })

  -- After an item.
  pub item_inside : (i : Item) → 0 < w → after_item w h i s ≡ ok s' → Inside w h s'
  unfolding after_item
  item_inside (run n) pos e = run_inside n pos e
  item_inside (fourteen n) pos e = repeat_inside n e
  item_inside fifteen pos e = repeat_inside 1 e
