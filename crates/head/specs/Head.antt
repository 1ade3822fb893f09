-- What the functions of this crate write. Assumes nothing: these are definitions.
use Rattle.std.specs.Prelude.{ℕ, ◌+◌, ◌^◌, ◌≤◌, ◌<◌, ◌≡◌, Bool, true, List, [], ◌∷◌, ◌++◌, length, replicate, Some, None}
use Rattle.std.specs.declared.option.Option.{Option}
use Rattle.std.specs.Int.Signed.{mag}
use Rattle.format.specs.Measures as F
use Rattle.format.specs.Numbers.{bytes, twos, size, field_bytes}
use Rattle.format.specs.Pieces.{Form, short, extended, long, kinds, Packet, fields, flag}
use Rattle.format.specs.Choice.{in_form, holds}
use Rattle.pick.specs.Picks.{Judged, tried}
use Rattle.head.specs.declared.Field.{Field}
use Rattle.pick.specs.declared.Picked.{Picked}
use Rattle.pick.specs.declared.Picked.TheVariants.{Short, Extended, Long}

-- A packet's head.

-- The bytes of a packet before its raster.
unfoldable pub head_of : Packet → List ℕ
head_of p = flag p ∷ field_bytes (kinds p.form) (fields p)

-- The same in the form picked, before n raster bytes, whatever they are; none if no form holds.
abbrev pub head_for : ℕ → Bool → F.Measures → ℕ → Option Picked → List ℕ
head_for f black m n (Some (Short dm x y)) = head_of (in_form f black m (replicate n 0) short)
head_for f black m n (Some (Extended dm x y)) = head_of (in_form f black m (replicate n 0) extended)
head_for f black m n (Some (Long x y)) = head_of (in_form f black m (replicate n 0) long)
head_for f black m n None = []

-- How many they are.
abbrev pub head_length : Option Picked → ℕ
head_length (Some (Short dm x y)) = 11
head_length (Some (Extended dm x y)) = 17
head_length (Some (Long x y)) = 37
head_length None = 0

-- Numbers in a row.

-- Numbers, each in its own number of bytes.
unfoldable pub numbers : List Field → List ℕ
numbers [] = []
numbers (x ∷ xs) = bytes x.width x.value ++ numbers xs

-- How many bytes they have.
abbrev pub total : List Field → ℕ
total [] = 0
total (x ∷ xs) = x.width + total xs

-- Each number fits its bytes, of which there are at most four.
abbrev pub Fit : List Field → Type 0
Fit [] = Unit {0}
Fit (x ∷ xs) = (x.width ≤ 4) × (x.value < 256 ^ x.width) × Fit xs

-- The numbers of the three forms.

-- A number in k bytes.
abbrev pub field : ℕ → ℕ → Field
field k n = record { width = k; value = n }

-- Those of a short packet, of k = 1, or of an extended one, of k = 2; dy has no bytes.
abbrev pub narrow_row : ℕ → ℕ → ℕ → ℕ → ℕ → ℕ → ℕ → ℕ → ℕ → List Field
narrow_row k n code tfm dm w h x y =
    field k n ∷ field 1 code ∷ field 3 tfm ∷ field k dm ∷ field 0 0 ∷ field k w ∷ field k h ∷ field k x ∷ field k y ∷ []

-- The same for measures, dm and a length.
abbrev pub narrow_values : ℕ → F.Measures → F.Pixels → ℕ → List Field
narrow_values k m (F.pixels dm) n = narrow_row k n (mag m.code) (mag m.tfm) dm (mag m.w) (mag m.h) (twos k m.hoff) (twos k m.voff)

-- An escapement in four bytes.
abbrev pub scaled_twos : F.Scaled → ℕ
scaled_twos (F.scaled z) = twos 4 z

-- Those of a long packet.
abbrev pub long_values : F.Measures → ℕ → List Field
long_values m n =
    field 4 n ∷ field 4 (mag m.code) ∷ field 4 (twos 4 m.tfm) ∷ field 4 (scaled_twos m.dx) ∷ field 4 (scaled_twos m.dy) ∷ field 4 (mag m.w) ∷ field 4 (mag m.h) ∷ field 4 (twos 4 m.hoff) ∷ field 4 (twos 4 m.voff) ∷ []

-- The magnitude of an escapement is below top.
abbrev pub ScaledBelow : ℕ → F.Scaled → Type 0
ScaledBelow top (F.scaled z) = mag z < top

-- What the writing of a form asks: the form holds, and the buffer has room for its head.
pub record Ready (l : List ℕ) (f : ℕ) (m : F.Measures) (n : ℕ) (k : Form) : Type 0 where
  pub most : f ≤ 14
  pub few : n ≤ 8192
  pub judged : Judged m
  pub held : holds m (tried m n k) ≡ true
  pub room : 1 + size (kinds k) ≤ length l
