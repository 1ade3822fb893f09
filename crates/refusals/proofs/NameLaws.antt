-- Laws of the names: each row has one, and each has one number. Assumes nothing.
use Rattle.std.specs.Prelude.{ℕ, ◌≡◌, List, [], ◌∷◌, get_or}
use mathlib.Core.Path.{refl, sym, ap, ◌∙◌}
use Rattle.format.specs.Refusals as F
use Rattle.refusals.specs.Names.{number_of, coded}
use Rattle.refusals.specs.declared.Refusal.{Refusal}
use Rattle.refusals.specs.declared.Refusal.TheVariants.{TooLong, NoPreamble, WrongId, FileEnds, NoPiece, BadLength, OutsideLimits, BadCode, CodeTwice, RasterEnds, TooMany, SecondRepeat, LeftOver, BadEnding, NoPacket, NoSuchCode, NoRoom, BitmapOutsideLimits, BadBitmap, NoForm}

-- The name of a row has its number.
pub number_coded : (x : F.Refusal) (at : ℕ) → number_of (coded x) ≡ (F.number_and_place x at).0
number_coded F.too_long at = refl
number_coded F.no_preamble at = refl
number_coded F.wrong_id at = refl
number_coded F.file_ends at = refl
number_coded F.no_piece at = refl
number_coded F.bad_length at = refl
number_coded F.outside_limits at = refl
number_coded F.bad_code at = refl
number_coded F.code_twice at = refl
number_coded F.raster_ends at = refl
number_coded F.too_many at = refl
number_coded F.second_repeat at = refl
number_coded F.left_over at = refl
number_coded F.bad_ending at = refl
number_coded F.no_packet at = refl
number_coded F.no_such_code at = refl
number_coded F.no_room at = refl
number_coded F.bitmap_outside_limits at = refl
number_coded F.bad_bitmap at = refl
number_coded F.no_form at = refl

-- The names in the order of the rows, behind one more.
names : List Refusal
names = TooLong ∷ TooLong ∷ NoPreamble ∷ WrongId ∷ FileEnds ∷ NoPiece ∷ BadLength ∷ OutsideLimits ∷ BadCode ∷ CodeTwice ∷ RasterEnds ∷ TooMany ∷ SecondRepeat ∷ LeftOver ∷ BadEnding ∷ NoPacket ∷ NoSuchCode ∷ NoRoom ∷ BitmapOutsideLimits ∷ BadBitmap ∷ NoForm ∷ []

named : (x : Refusal) → get_or names (number_of x) TooLong ≡ x
unfolding names
named TooLong = refl
named NoPreamble = refl
named WrongId = refl
named FileEnds = refl
named NoPiece = refl
named BadLength = refl
named OutsideLimits = refl
named BadCode = refl
named CodeTwice = refl
named RasterEnds = refl
named TooMany = refl
named SecondRepeat = refl
named LeftOver = refl
named BadEnding = refl
named NoPacket = refl
named NoSuchCode = refl
named NoRoom = refl
named BitmapOutsideLimits = refl
named BadBitmap = refl
named NoForm = refl

-- A number has one name.
pub number_one : (x y : Refusal) → number_of x ≡ number_of y → x ≡ y
number_one x y e = sym (named x) ∙ ap (λ (n : ℕ). get_or names n TooLong) e ∙ named y
