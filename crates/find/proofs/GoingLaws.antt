-- The loop over the pieces: what is found from here on is what is found in the font, and each piece keeps it so. Assumes nothing.
use Prim.Native.Nat.{ℕ, ◌+◌, ◌-◌, ◌<◌}
use mathlib.Core.Path.{◌≡◌, refl, sym, ap, ◌∙◌, subst}
use mathlib.Core.List.{List, [], ◌∷◌}
use lib.ListN.{length, drop, get_or}
use borrow.Author.Tests.{eq-eqb, ne_eqb}
use Rattle.std.specs.declared.option.Option.TheVariants.{None, Some}
use Rattle.std.specs.declared.result.Result.{Result}
use Rattle.std.specs.declared.result.Result.TheVariants.{Ok, Err}
use Rattle.refusals.specs.declared.Refusal.{Refusal}
use Rattle.format.specs.Refusals.{ok}
use Rattle.format.specs.Pieces as F
use Rattle.format.specs.Pieces.{preamble_bytes, bytes_of}
use Rattle.format.specs.Cut.{packets, Parts}
use Rattle.format.specs.Verdict.{piece, step}
use Rattle.format.proofs.CutLaws.{one_cut}
use Rattle.packet.specs.Outlines.{piece_of}
use Rattle.packet.specs.declared.Piece.{Piece}
use Rattle.packet.specs.declared.Piece.TheVariants.{Packet, Command, Last}
use Rattle.find.specs.Places.{Accepted, IsFirst, found_among, found_in, IsFound}
use Rattle.find.proofs.RestLaws.{Rest, rest_start, preamble_third, Next, rest_next, rest_last}

-- At a place of the font s, what is found in the pieces that are left is what is found in the font.
pub record Going (s : List ℕ) (code at : ℕ) : Type 0 where
  pub left : List F.Piece
  pub pad : ℕ
  pub rest : Rest s at left pad
  pub same : IsFound s code (found_in code at left)

-- The third byte of the font says where the preamble ends.
pub first_is : (s : List ℕ) (k : ℕ) → k ≡ get_or s 2 0 → IsFirst s (k + 19)
first_is s k e x c = ap (λ (i : ℕ). i + 19) e ∙ (preamble_third s x c).1

-- Behind the preamble all pieces are left.
pub going_start : (s : List ℕ) (code at : ℕ) → Accepted s → IsFirst s at → Going s code at
going_start s code at (x, c) f =
    subst (Going s code) (sym (f x c))
    (record {
      left = x.pieces;
      pad = x.pad;
      rest = rest_start s x c;
      same = λ y d. ap (λ (z : Parts). found_in code (length (preamble_bytes z.preamble)) z.pieces) (one_cut s x y c d);
    })

-- What each piece gives.
abbrev pub Goes : List ℕ → ℕ → ℕ → Result Piece Refusal → Type 0
Goes s code at (Ok (Packet x)) = (at < x.end) × (x.code ≡ code → IsFound s code (Some (at, x))) × ((x.code ≡ code → ⊥) → Going s code x.end)
Goes s code at (Ok (Command to)) = (at < to) × Going s code to
Goes s code at (Ok Last) = IsFound s code None
Goes s code at (Err x) = ⊥

-- What is found from a piece on, by its packets.
pub found_first : (code at to : ℕ) (p : F.Piece) (ps : List F.Piece) → at + length (bytes_of p) ≡ to
    → found_in code at (p ∷ ps) ≡ found_among code at to (packets (p ∷ [])) (found_in code to ps)
unfolding found_in
found_first code at to p ps e = rw e refl

module _ (s : List ℕ) (code at : ℕ) where
  -- Behind a piece that is not the one, the others are left.
  passes : (p : F.Piece) (ps : List F.Piece) (pad : ℕ) (t : Next s at p ps pad) → IsFound s code (found_in code at (p ∷ ps))
      → found_among code at (length s - length t.rest) (packets (p ∷ [])) (found_in code (length s - length t.rest) ps) ≡ found_in code (length s - length t.rest) ps
      → Going s code (length s - length t.rest)
  passes p ps pad t g e =
      record { left = ps; pad = pad; rest = t.others; same = λ x c. sym (found_first code at _ p ps t.place ∙ e) ∙ g x c }

  piece_goes : (p : F.Piece) (ps : List F.Piece) (pad : ℕ) (t : Next s at p ps pad) → IsFound s code (found_in code at (p ∷ ps))
      → Goes s code at (piece_of (length s) (ok (piece p t.rest)))
  unfolding found_among packets piece_of
  piece_goes (F.special k xs) ps pad t g = (t.after, passes (F.special k xs) ps pad t g refl)
  piece_goes (F.numeric xs) ps pad t g = (t.after, passes (F.numeric xs) ps pad t g refl)
  piece_goes F.noop ps pad t g = (t.after, passes F.noop ps pad t g refl)
  piece_goes (F.packet p) ps pad t g = (
    t.after,
    (λ e x c. sym (found_first code at _ (F.packet p) ps t.place ∙ rw (eq-eqb code p.code (sym e)) refl) ∙ g x c),
    (λ n. passes (F.packet p) ps pad t g (rw (ne_eqb code p.code (λ e. n (sym e))) refl)),
  )

  -- The first piece that is left stands at the place; where none is left, the 245 does, and nothing is refused.
  left_goes : (ps : List F.Piece) (pad : ℕ) → Rest s at ps pad → IsFound s code (found_in code at ps) → Goes s code at (piece_of (length s) (step (drop at s)))
  unfolding found_in piece_of
  left_goes [] pad t g = rw (rest_last s at pad t) g
  left_goes (p ∷ ps) pad t g =
      let n = rest_next s at p ps pad t in
      rw n.here (piece_goes p ps pad n g)

  -- Each piece gives what it must.
  pub goes : (t : Result Piece Refusal) → Going s code at → t ≡ piece_of (length s) (step (drop at s)) → Goes s code at t
  goes t g e = subst (Goes s code at) (sym e) (left_goes g.left g.pad g.rest g.same)
