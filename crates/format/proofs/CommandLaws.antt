-- Commands change neither an accepted font's number of characters nor any of its drawings (01, Pieces of a file): both are read off
-- its packets, and a command among the pieces is none. Assumes nothing.
use Prim.Native.Nat.{ℕ, ◌%◌, ◌≤◌, ◌<◌}
use mathlib.Core.Path.{◌≡◌, refl, sym, ap, ◌∙◌, subst}
use mathlib.Core.List.{List, [], ◌∷◌, ◌++◌}
use lib.ListN.{length}
use Rattle.format.specs.Limits.{most}
use Rattle.format.specs.Refusals.{gives, answers}
use Rattle.format.specs.Numbers.{Bytes}
use Rattle.format.specs.Pieces.{Packet, Piece, special, numeric, noop, packet, PieceOk}
use Rattle.format.specs.Cut.{AllOk, packets, AllFilled, codes, Distinct, Parts, join, Cut}
use Rattle.format.specs.Verdict.{verdict, check}
use Rattle.format.specs.Drawing.{draw_from, draw}
use Rattle.format.proofs.CutTheorems.{cut_verdict}

-- 240 to 244, and 246.
abbrev pub Command : Piece → Type 0
Command (special k xs) = Unit {0}
Command (numeric xs) = Unit {0}
Command noop = Unit {0}
Command (packet p) = ⊥

-- A command that stands anywhere among pieces leaves their packets as they are.
pub command_anywhere : (c : Piece) → Command c → (ps qs : List Piece) → packets (ps ++ c ∷ qs) ≡ packets (ps ++ qs)
unfolding packets
command_anywhere (special k xs) h [] qs = refl
command_anywhere (numeric xs) h [] qs = refl
command_anywhere noop h [] qs = refl
command_anywhere (packet p) h [] qs = absurd h
command_anywhere c h (special k xs ∷ ps) qs = command_anywhere c h ps qs
command_anywhere c h (numeric xs ∷ ps) qs = command_anywhere c h ps qs
command_anywhere c h (noop ∷ ps) qs = command_anywhere c h ps qs
command_anywhere c h (packet p ∷ ps) qs = ap (λ (xs : List Packet). p ∷ xs) (command_anywhere c h ps qs)

insert_ok : (c : Piece) (ps qs : List Piece) → PieceOk c → AllOk (ps ++ qs) → AllOk (ps ++ c ∷ qs)
insert_ok c [] qs h a = (h, a)
insert_ok c (p ∷ ps) qs h a = (a.0, insert_ok c ps qs h a.1)

-- Two accepted fonts with the same packets answer alike.
module _ (s t : List ℕ) (x y : Parts) (p : verdict s ≡ gives x) (q : verdict t ≡ gives y) (e : packets x.pieces ≡ packets y.pieces) where
  pub same_count : check s ≡ check t
  unfolding check answers
  same_count = rw (p, q, e)

  pub same_drawings : (code room : ℕ) → draw s code room ≡ draw t code room
  unfolding draw draw_from
  same_drawings code room = rw (p, q, e)

-- With a command more anywhere among its pieces, and an ending of any number of 246, a font is accepted still, as long as it is one of bytes, not
-- too long, and its length a multiple of four.
module _ (x : Parts) (ps qs : List Piece) (c : Piece) (pad : ℕ) (is : x.pieces ≡ ps ++ qs) (command : Command c) (allowed : PieceOk c) where
  pub with_command : Parts
  with_command = record { preamble = x.preamble; pieces = ps ++ c ∷ qs; pad = pad }

  same_packets : packets x.pieces ≡ packets (ps ++ c ∷ qs)
  same_packets = ap packets is ∙ sym (command_anywhere c command ps qs)

  module _ (s : List ℕ) (k : Cut s x) (b : Bytes (join with_command)) (l : length (join with_command) ≤ most) (f : length (join with_command) % 4 ≡ 0) where
    pub command_accepted : verdict (join with_command) ≡ gives with_command
    unfolding with_command
    command_accepted =
        cut_verdict (join with_command) with_command
        (record {
          bytes = b;
          whole = refl;
          small = l;
          four = f;
          preamble = k.preamble;
          pieces = insert_ok c ps qs allowed (subst AllOk is k.pieces);
          filled = subst AllFilled same_packets k.filled;
          distinct = subst (λ (q : List Packet). Distinct (codes q)) same_packets k.distinct;
          any = subst (λ (q : List Packet). 0 < length q) same_packets k.any;
        })

    -- It has as many characters, and each code draws the same.
    pub command_count : check (join with_command) ≡ check s
    unfolding with_command
    command_count = same_count (join with_command) s with_command x command_accepted (cut_verdict s x k) (sym same_packets)

    pub command_drawings : (code room : ℕ) → draw (join with_command) code room ≡ draw s code room
    unfolding with_command
    command_drawings = same_drawings (join with_command) s with_command x command_accepted (cut_verdict s x k) (sym same_packets)
