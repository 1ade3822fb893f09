-- Laws of the item at a place, one for each answer. Assumes nothing.
use Prim.Native.Nat.{ℕ, ◌+◌, ◌*◌, ◌≤◌, ◌<◌}
use mathlib.Core.Path.{◌≡◌, refl, sym, ap, ◌∙◌}
use mathlib.Core.List.{List, ◌∷◌}
use native.Mathlib.Omega.{arith}
use lib.ListN.{length, get_or}
use borrow.Author.Tests.{lt-ltb, le-ltb, eq-eqb, ne_eqb}
use Rattle.format.specs.Refusals.{raster_ends, second_repeat, ok, ◌>>=◌}
use Rattle.format.specs.Packed.{nybbles}
use Rattle.format.specs.Decoding.{Got, value, ends, mark, decode}
use Rattle.format.specs.Rasters.{run, fourteen}
use Rattle.format.specs.Reading.{number_of, run_at, repeat_at, item_of}
use Rattle.format.proofs.Tests.{split}
use Rattle.packed.specs.Answer.{from, to_read, read_at}
use Rattle.packed.specs.declared.Number.{Number}
use Rattle.std.specs.Prelude.{Ok, Err}
use Rattle.packed.proofs.Part.{from_end, from_cons, from_length, read_past, read_mark}
use Rattle.refusals.specs.Names.{coded}
use Rattle.items.specs.Items.{wanted, as_run, as_repeat, to_item}
use Rattle.items.specs.declared.Item.TheVariants.{Run, Repeat}

-- What is read as a number, as a run and as a repeat.
to_run : (s : List ℕ) (g : Got) → as_run (wanted (to_read s g)) ≡ to_item s (number_of g >>= λ t. ok (run t.0, t.1))
unfolding to_read to_item number_of ◌>>=◌
to_run s (value n rest) = refl
to_run s ends = refl
to_run s mark = refl

to_repeat : (s : List ℕ) (g : Got) → as_repeat (wanted (to_read s g)) ≡ to_item s (number_of g >>= λ t. ok (fourteen t.0, t.1))
unfolding to_read to_item number_of ◌>>=◌
to_repeat s (value n rest) = refl
to_repeat s ends = refl
to_repeat s mark = refl

module _ (s : List ℕ) (at f repeat : ℕ) where
  -- Past the end.
  pub item_past : 2 * length s ≤ at → Err (coded raster_ends) ≡ to_item s (item_of f repeat (from s at))
  unfolding to_item item_of
  item_past h = rw (from_end s at h) refl

  -- A nybble x stands there.
  module _ (x : ℕ) (here : x ≡ get_or (nybbles s) at 0) (h : at < 2 * length s) where
    first : from s at ≡ x ∷ from s (at + 1)
    first = rw here (from_cons s at h)

    pub item_run : x < 14 → as_run (wanted (read_at s at f)) ≡ to_item s (item_of f repeat (from s at))
    unfolding item_of read_at run_at
    item_run l = to_run s (decode f (from s at)) ∙ rw (first, lt-ltb x 14 l) refl

    pub item_second : 14 ≤ x → 0 < repeat → Err (coded second_repeat) ≡ to_item s (item_of f repeat (from s at))
    unfolding item_of to_item
    item_second l p = rw (first, le-ltb x 14 l, lt-ltb 0 repeat p) refl

    pub item_fifteen : x ≡ 15 → repeat ≤ 0 → Ok (Repeat 1 (at + 1)) ≡ to_item s (item_of f repeat (from s at))
    unfolding item_of to_item repeat_at
    item_fifteen e p = rw (first, le-ltb x 14 (omega arith), le-ltb 0 repeat p, eq-eqb x 15 e, from_length s (at + 1)) (ap (λ (n : ℕ). Ok (Repeat 1 n)) (omega arith))

    pub item_fourteen : 14 ≤ x → (x ≡ 15 → ⊥) → repeat ≤ 0 → as_repeat (wanted (read_at s (at + 1) f)) ≡ to_item s (item_of f repeat (from s at))
    unfolding item_of read_at repeat_at
    item_fourteen l n p = to_repeat s (decode f (from s (at + 1))) ∙ rw (first, le-ltb x 14 l, le-ltb 0 repeat p, ne_eqb x 15 n) refl

  -- A number of one or two nybbles is a run: no other nybble than a run's begins it.
  pub item_short : (x : Number) → f ≤ 13 → read_at s at f ≡ Ok x → Ok (Run x.n x.next) ≡ to_item s (item_of f repeat (from s at))
  item_short x l e =
      split (2 * length s) at
      (λ h. absurd (let z = read_past s at f h ∙ e in cc))
      (λ h. split 14 (get_or (nybbles s) at 0)
      (λ p. absurd (let z = read_mark s at f h (omega arith) (omega arith) ∙ e in cc))
      (λ p. ap (λ r. as_run (wanted r)) (sym e) ∙ item_run (get_or (nybbles s) at 0) refl h p))
