-- What the functions of this crate answer, as the definitions say it. Assumes nothing: these are definitions.
use Rattle.std.specs.Prelude.{ℕ, ◌+◌, ◌<◌, ◌≡◌, Ok, Err, Some, None, List, [], ◌∷◌, ◌++◌, length, drop}
use Rattle.std.specs.declared.option.Option.{Option}
use Rattle.std.specs.declared.result.Result.{Result}
use Rattle.format.specs.Refusals.{Told, ok}
use Rattle.format.specs.Pieces as F
use Rattle.format.specs.Pieces.{preamble_bytes, Piece, packet, bytes_of}
use Rattle.format.specs.Cut.{flat, Parts, chars, Cut}
use Rattle.format.specs.Verdict.{piece, step}
use Rattle.format.specs.Listing as L
use Rattle.format.specs.Listing.{heading_of, entry_of, entries, entries_of}
use Rattle.refusals.specs.Answers.{numbers}
use Rattle.refusals.specs.declared.Refused.{Refused}
use Rattle.packet.specs.Outlines.{form_is}
use Rattle.measures.specs.Said.{said}
use Rattle.listing.specs.declared.Heading.{Heading}
use Rattle.listing.specs.declared.Entry.{Entry}

-- The heading.

-- The code's heading as the definitions'.
abbrev pub heading_is : Heading → L.Heading
heading_is h = record { bytes = h.bytes; ds = h.ds; cs = h.cs; hppp = h.hppp; vppp = h.vppp; chars = h.chars }

-- The heading and the place behind the preamble, or a refusal with its place.
abbrev pub Listed : Type 0
Listed = Result (Heading × ℕ) Refused

-- The answer in 01's numbers.
abbrev pub in_numbers : Listed → Told L.Heading
in_numbers = numbers (λ t. heading_is t.0)

-- An accepted font with n packets, and its heading.
abbrev pub Counted : List ℕ → ℕ → Type 0
Counted s n = (x : Parts) × Cut s x × (chars x ≡ n)

abbrev pub IsHeading : List ℕ → Heading → Type 0
IsHeading s r = (x : Parts) → Cut s x → heading_is r ≡ heading_of s x

-- The packets.

-- The code's entry as the definitions'.
abbrev pub entry_is : Entry → L.Entry
entry_is e = record { at = e.at; form = form_is e.form; f = e.f; black = e.black; measures = said e.m }

-- At a place of the font a piece of its cut begins, or the ending; the packets from there on have these entries.
pub record Ahead (s : List ℕ) (at : ℕ) (es : List L.Entry) : Type 0 where
  pub parts : Parts
  pub cut : Cut s parts
  pub before : List Piece
  pub left : List Piece
  pub pieces : parts.pieces ≡ before ++ left
  pub place : at ≡ length (preamble_bytes parts.preamble) + length (flat before)
  pub are : es ≡ entries at left

-- A piece or the ending begins at the place.
abbrev pub Between : List ℕ → ℕ → Type 0
Between s at = (es : List L.Entry) × Ahead s at es

-- Behind the preamble the font's entries are all ahead.
abbrev pub Starts : List ℕ → Listed → Type 0
Starts s (Ok t) = Between s t.1 × ((x : Parts) → Cut s x → (t.1 ≡ length (preamble_bytes x.preamble)) × Ahead s t.1 (entries_of x))
Starts s (Err x) = Unit {0}

-- The next of the entries is e, that of a packet whose bytes stand from e's place up to `to`, and the others are ahead of that place.
pub record Coming (s : List ℕ) (at : ℕ) (es : List L.Entry) (e : Entry) (to : ℕ) : Type 0 where
  pub others : List L.Entry
  pub next : es ≡ entry_is e ∷ others
  pub packet : F.Packet
  pub rest : List ℕ
  pub stands : drop e.at s ≡ bytes_of (F.packet packet) ++ rest
  pub allowed : F.PacketOk packet
  pub behind : to ≡ e.at + length (bytes_of (F.packet packet))
  pub further : at < to
  pub ahead : Ahead s to others

-- A packet with the place behind it, or that no packet follows.
abbrev pub Next : Type 0
Next = Option (Entry × ℕ)

-- The next packet comes, or there is none.
abbrev pub Comes : List ℕ → ℕ → List L.Entry → Next → Type 0
Comes s at es (Some t) = Coming s at es t.0 t.1
Comes s at es None = es ≡ []

-- What comes from a place on, whatever entries are ahead.
abbrev pub IsNext : List ℕ → ℕ → Next → Type 0
IsNext s at r = (es : List L.Entry) → Ahead s at es → Comes s at es r

-- The inner functions.

-- The entry of the packet at a place.
abbrev pub IsEntry : List ℕ → ℕ → Entry → Type 0
IsEntry s at r = (p : F.Packet) (rest : List ℕ) → step (drop at s) ≡ ok (piece (packet p) rest) → entry_is r ≡ entry_of at p
