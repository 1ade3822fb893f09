-- What is left to judge: the loop's invariant, and its laws for the start, a turn, a stop and the end. Assumes nothing.
use Prim.Native.Nat.{ℕ, zero, suc, ◌-◌, ◌*◌, ◌≤◌, ◌<◌}
use mathlib.Core.Path.{◌≡◌, refl, sym, ap, ◌∙◌, subst}
use mathlib.Core.Bool.{Bool}
use mathlib.Core.Logic.{inl}
use mathlib.Core.List.{List, [], ◌∷◌}
use native.Mathlib.Omega.{arith}
use lib.ListN.{length}
use Rattle.format.specs.Refusals as F
use Rattle.format.specs.Refusals.{raster_ends, ok, fault, ◌>>=◌}
use Rattle.std.specs.Prelude.{Result, Ok, Err}
use Rattle.format.specs.Numbers.{Bytes}
use Rattle.format.specs.Packed.{nybbles}
use Rattle.format.specs.Rasters.{Item}
use Rattle.format.specs.Reading as R
use Rattle.format.specs.Reading.{start, item_of, turn, finish, walk, reading}
use Rattle.format.proofs.PackedLaws.{length-nybbles}
use Rattle.format.proofs.StateLaws.{Inside}
use Rattle.format.proofs.InsideLaws.{below, item_inside}
use Rattle.format.proofs.ReadingLaws.{walk_full, walk_next, walk_none, turn_ok}
use Rattle.packed.specs.Answer.{from}
use Rattle.packed.proofs.Part.{from_length}
use Rattle.items.proofs.PlaceLaws.{Later, item_later}
use Rattle.refusals.specs.Names.{coded}
use Rattle.refusals.specs.declared.Refusal as D
use Rattle.state.specs.Moves.{plain, coloured, Within}
use Rattle.state.specs.declared.State.{State}
use Rattle.judge.specs.Judgement.{colour_after, to_turn, judged}

-- From the place at on, in a state, the walk judges as the reading does.
pub record Left (s : List ℕ) (f w h at : ℕ) (st : R.State) : Type 0 where
  pub bytes : Bytes s
  pub low : at ≤ 2 * length s
  pub inside : Inside w h st
  pub g : ℕ
  pub fuel : 2 * length s - at ≤ g
  pub same : judged (walk g f w h st (from s at)) ≡ judged (reading f w h s)

-- One turn of the walk, for the judgement alone.

judged_keep : (i : Item) (r : F.Result (List Item)) → judged (r >>= λ is. ok (i ∷ is)) ≡ judged r
unfolding judged ◌>>=◌
judged_keep i (fault x) = refl
judged_keep i (ok is) = refl

walk_turn : (g f w h : ℕ) (s : R.State) (xs : List ℕ) (u : Item × R.State × List ℕ) → s.row < h → turn f w h s xs ≡ ok u
    → judged (walk (suc g) f w h s xs) ≡ judged (walk g f w h u.1 u.2)
unfolding ◌>>=◌
walk_turn g f w h s xs u l e = ap judged (walk_next g f w h s xs l ∙ rw e refl) ∙ judged_keep u.0 (walk g f w h u.1 u.2)

walk_stop : (g f w h : ℕ) (x : F.Refusal) (s : R.State) (xs : List ℕ) → s.row < h → length xs ≤ g → turn f w h s xs ≡ fault x → Err (coded x) ≡ judged (walk g f w h s xs)
unfolding ◌>>=◌ judged turn item_of
walk_stop zero f w h x s [] l m e = let z : raster_ends ≡ x = cc in ap (λ (y : F.Refusal). Err (coded y)) (sym z) ∙ sym (ap judged (walk_none f w h s [] l))
walk_stop zero f w h x s (y ∷ xs) l m e = absurd (omega arith)
walk_stop (suc g) f w h x s xs l m e = rw (walk_next g f w h s xs l, e) refl

-- The loop.

pub left_start : (s : List ℕ) (f w h : ℕ) → Bytes s → 0 < w → 0 < h → Left s f w h 0 start
unfolding from reading
left_start s f w h b p q =
    record {
      bytes = b;
      low = omega arith;
      inside = record { wide = p; high = inl q };
      g = length (nybbles s);
      fuel = omega (arith, length-nybbles s);
      same = refl;
    }

module _ {s : List ℕ} {f w h at : ℕ} {st : R.State} (t : Left s f w h at st) where
  pub left_within : st.row < h → w * h ≤ 65536 → Within w h st
  left_within l m = record { wide = t.inside.wide; high = below w h st st t.inside l; small = m }

  pub left_end : (r : Result (Unit {0}) D.Refusal) → h ≤ st.row → r ≡ judged (finish (from s at)) → r ≡ judged (reading f w h s)
  left_end r l e = e ∙ sym (ap judged (walk_full t.g f w h st (from s at) l)) ∙ t.same

  module _ (l : st.row < h) (black : Bool) where
    -- A turn that stops.
    pub left_stop : (a : Result (State × ℕ) D.Refusal) (x : D.Refusal) → a ≡ Err x → a ≡ to_turn s black (turn f w h st (from s at)) → Err x ≡ judged (reading f w h s)
    unfolding to_turn
    left_stop a x i e = go (turn f w h st (from s at)) refl (sym i ∙ e)
      where
        go : (r : F.Result (Item × R.State × List ℕ)) → turn f w h st (from s at) ≡ r → Err x ≡ to_turn s black r → Err x ≡ judged (reading f w h s)
        go (fault y) p q =
            let z : x ≡ coded y = cc in
            ap (λ (d : D.Refusal). Err d) z ∙ walk_stop t.g f w h y st (from s at) l (omega (arith, from_length s at, t.fuel)) p ∙ t.same
        go (ok u) p q = absurd cc

    -- A turn that goes on, to a later place.
    pub left_turn : (a : Result (State × ℕ) D.Refusal) (st' : State) (next : ℕ) → f ≤ 13 → 0 < w → a ≡ Ok (st', next) → a ≡ to_turn s black (turn f w h st (from s at)) → (at < next) × Left s f w h next (plain st')
    unfolding to_turn
    left_turn a st' next hf pos i e = go (turn f w h st (from s at)) refl (sym i ∙ e)
      where
        go : (r : F.Result (Item × R.State × List ℕ)) → turn f w h st (from s at) ≡ r → Ok (st', next) ≡ to_turn s black r → (at < next) × Left s f w h next (plain st')
        go (fault y) p q = absurd cc
        go (ok u) p q =
            let q' : ◌≡◌ {A = State × ℕ} (coloured (colour_after black u.0) u.1, 2 * length s - length u.2) (st', next) = cc in
            let y : coloured (colour_after black u.0) u.1 ≡ st' = ap (λ (t : State × ℕ). t.0) q' in
            let z : 2 * length s - length u.2 ≡ next = ap (λ (t : State × ℕ). t.1) q' in
            let v = turn_ok f w h st (from s at) u p in
            let d = item_later s at f st.repeat u.0 u.2 hf t.bytes t.low v.0 in
            subst (λ (n : ℕ). (at < n) × Left s f w h n (plain st')) z
            (d.after, subst (λ (x : State). Left s f w h (2 * length s - length u.2) (plain x)) y (on t.g u p d v.1 t.fuel t.same))
          where
            on : (g : ℕ) (u : Item × R.State × List ℕ) → turn f w h st (from s at) ≡ ok u → Later s at (2 * length s - length u.2) u.2 → R.after_item w h u.0 st ≡ ok u.1
                → 2 * length s - at ≤ g → judged (walk g f w h st (from s at)) ≡ judged (reading f w h s) → Left s f w h (2 * length s - length u.2) u.1
            on zero u p d v x y = absurd (omega (arith, d.after, d.upto))
            on (suc g) u p d v x y =
                record {
                  bytes = t.bytes;
                  low = d.upto;
                  inside = item_inside w h st u.1 t.inside l u.0 pos v;
                  g = g;
                  fuel = omega (arith, d.after);
                  same = ap (λ (k : List ℕ). judged (walk g f w h u.1 k)) d.rest_is ∙ sym (walk_turn g f w h st (from s at) u l p) ∙ y;
                }
