-- The code's refusals as the rows of the table. Assumes nothing: these are definitions.
use Rattle.std.specs.Prelude.{ℕ}
use Rattle.format.specs.Refusals as F
use Rattle.refusals.specs.declared.Refusal.{Refusal}
use Rattle.refusals.specs.declared.Refused.{Refused}
use Rattle.refusals.specs.declared.Refusal.TheVariants.{TooLong, NoPreamble, WrongId, FileEnds, NoPiece, BadLength, OutsideLimits, BadCode, CodeTwice, RasterEnds, TooMany, SecondRepeat, LeftOver, BadEnding, NoPacket, NoSuchCode, NoRoom, BitmapOutsideLimits, BadBitmap, NoForm}

-- The row of a name.
abbrev pub row_of : Refusal → F.Refusal
row_of TooLong = F.too_long
row_of NoPreamble = F.no_preamble
row_of WrongId = F.wrong_id
row_of FileEnds = F.file_ends
row_of NoPiece = F.no_piece
row_of BadLength = F.bad_length
row_of OutsideLimits = F.outside_limits
row_of BadCode = F.bad_code
row_of CodeTwice = F.code_twice
row_of RasterEnds = F.raster_ends
row_of TooMany = F.too_many
row_of SecondRepeat = F.second_repeat
row_of LeftOver = F.left_over
row_of BadEnding = F.bad_ending
row_of NoPacket = F.no_packet
row_of NoSuchCode = F.no_such_code
row_of NoRoom = F.no_room
row_of BitmapOutsideLimits = F.bitmap_outside_limits
row_of BadBitmap = F.bad_bitmap
row_of NoForm = F.no_form

-- Its number.
abbrev pub number_of : Refusal → ℕ
number_of x = (F.number_and_place (row_of x) 0).0

-- The name of a row.
abbrev pub coded : F.Refusal → Refusal
coded F.too_long = TooLong
coded F.no_preamble = NoPreamble
coded F.wrong_id = WrongId
coded F.file_ends = FileEnds
coded F.no_piece = NoPiece
coded F.bad_length = BadLength
coded F.outside_limits = OutsideLimits
coded F.bad_code = BadCode
coded F.code_twice = CodeTwice
coded F.raster_ends = RasterEnds
coded F.too_many = TooMany
coded F.second_repeat = SecondRepeat
coded F.left_over = LeftOver
coded F.bad_ending = BadEnding
coded F.no_packet = NoPacket
coded F.no_such_code = NoSuchCode
coded F.no_room = NoRoom
coded F.bitmap_outside_limits = BitmapOutsideLimits
coded F.bad_bitmap = BadBitmap
coded F.no_form = NoForm

-- A refusal with its place.
abbrev pub placed : Refusal → ℕ → Refused
placed x place = record { refusal = x; place = place }
