-- What the functions of this crate answer. Assumes nothing: these are definitions.
use Rattle.std.specs.Prelude.{ℕ, ◌≡◌, Bool, true, false, ◌&&◌, ltb, ℤ, pos, negsuc, replicate, Some, None}
use Rattle.std.specs.Int.Signed.{mag}
use Rattle.format.specs.Limits.{within_limits, is_code}
use Rattle.format.specs.Refusals.{no_form, ok, fault}
use Rattle.format.specs.Measures as F
use Rattle.format.specs.Pieces.{Form, short, extended, long, Packet}
use Rattle.format.specs.Choice.{in_form, first_form}
use Rattle.escapement.specs.Count.{whole_of}
use Rattle.std.specs.declared.option.Option.{Option}
use Rattle.pick.specs.declared.Picked.{Picked}
use Rattle.pick.specs.declared.Picked.TheVariants.{Short, Extended, Long}

-- The width, height and code are within 01's limits.
pub record Judged (m : F.Measures) : Type 0 where
  pub limits : within_limits m.w m.h ≡ true
  pub code : is_code m.code ≡ true

-- The packet with these measures and n raster bytes in a form: which bytes, and what f and the black bit are, does not matter to the form.
abbrev pub tried : F.Measures → ℕ → Form → Packet
tried m n k = in_form 0 false m (replicate n 0) k

-- The first form that holds, with the whole pixels of its escapement and the offsets.
abbrev pub IsPicked : F.Measures → ℕ → Picked → Type 0
IsPicked m n (Short dm x y) = (first_form m (tried m n) ≡ ok (tried m n short)) × (whole_of dm ≡ F.whole_pixels m.dx) × (x ≡ m.hoff) × (y ≡ m.voff)
IsPicked m n (Extended dm x y) = (first_form m (tried m n) ≡ ok (tried m n extended)) × (whole_of dm ≡ F.whole_pixels m.dx) × (x ≡ m.hoff) × (y ≡ m.voff)
IsPicked m n (Long x y) = (first_form m (tried m n) ≡ ok (tried m n long)) × (x ≡ m.hoff) × (y ≡ m.voff)

-- That form, or none where none holds.
abbrev pub Picks : F.Measures → ℕ → Option Picked → Type 0
Picks m n (Some p) = IsPicked m n p
Picks m n None = first_form m (tried m n) ≡ fault no_form

-- Tests.

-- From 0 to top − 1.
abbrev pub plain_in : ℕ → ℤ → Bool
plain_in top (pos n) = ltb n top
plain_in top (negsuc n) = false

-- The pixels are below top.
abbrev pub pixels_below : ℕ → F.Pixels → Bool
pixels_below top (F.pixels n) = ltb n top

-- From −half to half − 1.
abbrev pub scaled_in : ℕ → F.Scaled → Bool
scaled_in half (F.scaled z) = ltb (mag z) half

-- The escapement is dm across and 0 down, and a form of fields below top, signed ones from −half to half − 1, holds all but the length.
unfoldable pub narrow_in : ℕ → ℕ → F.Pixels → F.Measures → Bool
narrow_in top half dm m =
    F.same_scaled (F.to_scaled dm) m.dx && (F.same_scaled (F.to_scaled (F.pixels 0)) m.dy
    && (plain_in 16777216 m.tfm && (pixels_below top dm && (ltb (mag m.w) top && (ltb (mag m.h) top && (ltb (mag m.hoff) half && ltb (mag m.voff) half))))))

-- The long form holds all but the length, of a judged width, height and code.
unfoldable pub long_in : F.Measures → Bool
long_in m =
    ltb (mag m.tfm) 2147483648 && (scaled_in 2147483648 m.dx && (scaled_in 2147483648 m.dy
    && (ltb (mag m.hoff) 2147483648 && ltb (mag m.voff) 2147483648)))
