-- Laws of the piece at a place, one for each answer. Assumes nothing.
use Prim.Native.Nat.{ℕ, ◌<◌}
use mathlib.Core.Path.{◌≡◌, refl, sym, ap, ◌∙◌, subst}
use mathlib.Core.Bool.{Bool, true, false}
use mathlib.Core.List.{List}
use lib.ListN.{length, drop, get_or}
use Rattle.std.specs.Prelude.{Ok, Err}
use Rattle.std.specs.declared.result.Result.{Result}
use Rattle.format.specs.Refusals as R
use Rattle.format.specs.Refusals.{code_twice, ok, fault, ◌>>=◌, need}
use Rattle.format.specs.Numbers.{Bytes}
use Rattle.format.specs.Pieces as F
use Rattle.format.specs.Rasters.{Item}
use Rattle.format.specs.Cut.{packets}
use Rattle.format.specs.Reading.{items}
use Rattle.format.specs.Verdict.{Front, piece, last, step, checked}
use Rattle.format.proofs.FieldLaws.{bytes_drop}
use Rattle.format.proofs.PieceLaws.{Is, step_is}
use Rattle.refusals.specs.Names.{coded}
use Rattle.refusals.specs.declared.Refusal.{Refusal}
use Rattle.judge.specs.Judgement.{judged}
use Rattle.packet.specs.Outlines.{piece_of}
use Rattle.packet.specs.Standing.{InFont, raster_of}
use Rattle.packet.specs.declared.Outline.{Outline}
use Rattle.packet.proofs.StandingLaws.{outline_found}
use Rattle.packet.specs.declared.Piece.{Piece}
use Rattle.packet.specs.declared.Piece.TheVariants as N
use Rattle.font.specs.Turns.{Marks, judged_turn, packet_turn, to_turn}
use Rattle.font.specs.declared.Turn.{Turn}
use Rattle.font.specs.declared.Turn.TheVariants.{Packet, Command, Last}

-- A packet.

pub seen_before : (seen : List Bool) (codes : List ℕ) (x : Outline) (raster : List ℕ) → Marks seen codes → x.code < 256 → get_or seen x.code false ≡ true
    → Err (coded code_twice) ≡ packet_turn codes x raster
unfolding packet_turn judged_turn need ◌>>=◌
seen_before seen codes x raster m l e = rw (sym (m.marked x.code l) ∙ e) refl

-- The turn t behind a raster that is judged.
abbrev pub behind : Result (Unit {0}) Refusal → Turn → Result Turn Refusal
behind (Ok u) t = Ok t
behind (Err x) t = Err x

as_judged : (t : Turn) (r : R.Result (List Item)) → behind (judged r) t ≡ judged_turn t r
unfolding judged judged_turn
as_judged t (ok is) = refl
as_judged t (fault x) = refl

pub not_before : (seen : List Bool) (codes : List ℕ) (x : Outline) (raster : List ℕ) (j : Result (Unit {0}) Refusal) → Marks seen codes → x.code < 256 → get_or seen x.code false ≡ false
    → j ≡ judged (items x.f x.w x.h raster) → behind j (Packet x.code x.end) ≡ packet_turn codes x raster
unfolding packet_turn need ◌>>=◌
not_before seen codes x raster j m l e q =
    ap (λ (i : Result (Unit {0}) Refusal). behind i (Packet x.code x.end)) q ∙ as_judged (Packet x.code x.end) (items x.f x.w x.h raster) ∙ rw (sym (m.marked x.code l) ∙ e) refl

-- A piece.

-- The turn that a piece makes; and what is known of it, if it is a packet.
abbrev pub turn_of : List ℕ → List ℕ → Result Piece Refusal → Result Turn Refusal
turn_of s codes (Ok (N.Packet x)) = packet_turn codes x (raster_of s x)
turn_of s codes (Ok (N.Command next)) = Ok (Command next)
turn_of s codes (Ok N.Last) = Ok Last
turn_of s codes (Err x) = Err x

abbrev pub FoundIn : List ℕ → Result Piece Refusal → Type 0
FoundIn s (Ok (N.Packet x)) = InFont s x
FoundIn s (Ok (N.Command next)) = Unit {0}
FoundIn s (Ok N.Last) = Unit {0}
FoundIn s (Err x) = Unit {0}

record There (s : List ℕ) (f : R.Result Front) : Type 0 where
  found : FoundIn s (piece_of (length s) f)
  same : (codes : List ℕ) → turn_of s codes (piece_of (length s) f) ≡ to_turn (length s) codes f

there : (s : List ℕ) (at : ℕ) (f : R.Result Front) → Is (drop at s) f → There s f
unfolding piece_of packet_turn to_turn packets checked judged_turn
there s at (ok (piece (F.special k xs) r)) i = record { found = tt; same = λ codes. refl }
there s at (ok (piece (F.numeric xs) r)) i = record { found = tt; same = λ codes. refl }
there s at (ok (piece F.noop r)) i = record { found = tt; same = λ codes. refl }
there s at (ok (piece (F.packet p) r)) i =
    let o = outline_found s at p r i in
    record { found = o.0; same = λ codes. rw o.1 refl }
there s at (ok (last r)) i = record { found = tt; same = λ codes. refl }
there s at (fault x) i = record { found = tt; same = λ codes. refl }

module _ (s : List ℕ) (at : ℕ) (q : Result Piece Refusal) (b : Bytes s) (e : q ≡ piece_of (length s) (step (drop at s))) where
  known : There s (step (drop at s))
  known = there s at (step (drop at s)) (step_is (drop at s) (bytes_drop at s b))

  pub piece_found : FoundIn s q
  piece_found = subst (FoundIn s) (sym e) known.found

  -- The turn of a piece t.
  pub turn_is : (t : Result Piece Refusal) (codes : List ℕ) → q ≡ t → turn_of s codes t ≡ to_turn (length s) codes (step (drop at s))
  turn_is t codes z = ap (turn_of s codes) (sym z ∙ e) ∙ known.same codes
