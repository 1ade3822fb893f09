-- The commands 240 to 244 from the numbers at their places, one law for each answer. Assumes nothing.
use Prim.Native.Nat.{ℕ, ◌+◌, ◌-◌, ◌*◌, ◌^◌, ◌≤◌, ◌<◌}
use mathlib.Core.Path.{◌≡◌, refl}
use mathlib.Core.List.{List}
use mathlib.Core.Bool.{Bool, true, false, cond}
use native.Mathlib.Omega.{arith}
use lib.Dec.{eqb}
use lib.IntN.{pos}
use lib.ListN.{length, drop, length-drop}
use borrow.Author.Tests.{eqb-true, eqb-false, lt-ltb, le-ltb, le-leb, lt-leb}
use Rattle.format.specs.Refusals.{◌>>=◌, need, file_ends, bad_length}
use Rattle.format.specs.Numbers.{signed, unsigned}
use Rattle.format.specs.Pieces.{length_kind}
use Rattle.format.specs.Decoding.{number, value_of}
use Rattle.format.specs.Verdict.{at_least, special_at, numeric_at}
use Rattle.fields.specs.Field.{NumberAt}
use Rattle.fields.proofs.Rebuilt.{values_at, values_most}
use Rattle.std.specs.declared.result.Result.TheVariants.{Ok, Err}
use Rattle.std.specs.declared.result.Result.{Result}
use Rattle.refusals.specs.declared.Refusal.{Refusal}
use Rattle.packet.specs.declared.Piece.{Piece}
use Rattle.refusals.specs.Names.{coded}
use Rattle.packet.specs.declared.Piece.TheVariants.{Command}
use Rattle.packet.specs.Outlines.{piece_of}

-- A command that ends at a place that is given in two ways.
pub command_at : {x y : ℕ} → x ≡ y → ◌≡◌ {A = Result Piece Refusal} (Ok (Command x)) (Ok (Command y))
command_at e = cc

-- A command's length.

-- Below 2^31 it is its own value,
length_own : (k n : ℕ) → n < 2147483648 → value_of (length_kind k) n ≡ pos n
unfolding value_of
length_own k n h = go (eqb k 4) refl
  where
    go : (p : Bool) → eqb k 4 ≡ p → value_of (cond p (signed k) (unsigned k)) n ≡ pos n
    go true e = let v = values_at k 4 (eqb-true k 4 e) in rw (lt-ltb (2 * n) (256 ^ k) (omega arith)) refl
    go false e = refl

-- and else it has four bytes and is negative.
length_negative : (k n : ℕ) → k ≤ 4 → n < 256 ^ k → 2147483648 ≤ n → at_least 0 (value_of (length_kind k) n) ≡ false
unfolding value_of at_least
length_negative k n l b h = go (eqb k 4) refl
  where
    go : (p : Bool) → eqb k 4 ≡ p → at_least 0 (value_of (cond p (signed k) (unsigned k)) n) ≡ false
    go true e = let v = values_at k 4 (eqb-true k 4 e) in rw (le-ltb (2 * n) (256 ^ k) (omega arith)) refl
    go false e =
        let d : k ≤ 3 = omega (arith, eqb-false k 4 e) in
        absurd (omega (arith, values_most k 3 d))

-- 240 to 243.

module _ (s : List ℕ) (at k : ℕ) where
  -- The bytes of the length are not all there.
  pub special_ends : length s - at < k → Err (coded file_ends) ≡ piece_of (length s) (special_at k (value_of (length_kind k) (number k (drop at s))) (drop at s))
  unfolding special_at need ◌>>=◌ piece_of
  special_ends h = rw (lt-leb k (length (drop at s)) (rw length-drop (omega arith))) refl

  module _ (n : ℕ) (x : NumberAt s at k n) (l : k ≤ 4) (h : k ≤ length s - at) where
    -- The length is negative.
    pub special_negative : 2147483648 ≤ n → Err (coded bad_length) ≡ piece_of (length s) (special_at k (value_of (length_kind k) (number k (drop at s))) (drop at s))
    unfolding special_at need ◌>>=◌ piece_of
    special_negative i = rw (le-leb k (length (drop at s)) (rw length-drop (omega arith)), ← x.is, length_negative k n l x.small i) refl

    -- The bytes that it counts are not all there.
    pub special_cut : n < 2147483648 → length s - at - k < n
        → Err (coded file_ends) ≡ piece_of (length s) (special_at k (value_of (length_kind k) (number k (drop at s))) (drop at s))
    unfolding special_at need ◌>>=◌ at_least piece_of
    special_cut i j =
        rw (
          le-leb k (length (drop at s)) (rw length-drop (omega arith)),
          ← x.is,
          length_own k n i,
          le-leb 0 n (omega arith),
          lt-leb n (length (drop k (drop at s))) (simp length-drop (omega arith)),
        )
        refl

    -- They are.
    pub special_is : n < 2147483648 → n ≤ length s - at - k → at ≤ length s
        → Ok (Command (at + k + n)) ≡ piece_of (length s) (special_at k (value_of (length_kind k) (number k (drop at s))) (drop at s))
    unfolding special_at need ◌>>=◌ at_least piece_of
    special_is i j m =
        rw (
          le-leb k (length (drop at s)) (rw length-drop (omega arith)),
          ← x.is,
          length_own k n i,
          le-leb 0 n (omega arith),
          le-leb n (length (drop k (drop at s))) (simp length-drop (omega arith)),
        )
        (command_at (simp length-drop (omega arith)))

-- 244.

-- The four bytes are not all there.
pub numeric_ends : (s : List ℕ) (at : ℕ) → length s - at < 4 → Err (coded file_ends) ≡ piece_of (length s) (numeric_at (drop at s))
unfolding numeric_at need ◌>>=◌ piece_of
numeric_ends s at h = rw (lt-leb 4 (length (drop at s)) (rw length-drop (omega arith))) refl

-- They are.
pub numeric_is : (s : List ℕ) (at : ℕ) → at ≤ length s → 4 ≤ length s - at → Ok (Command (at + 4)) ≡ piece_of (length s) (numeric_at (drop at s))
unfolding numeric_at need ◌>>=◌ piece_of
numeric_is s at m h = rw (le-leb 4 (length (drop at s)) (rw length-drop (omega arith))) (command_at (simp length-drop (omega arith)))
