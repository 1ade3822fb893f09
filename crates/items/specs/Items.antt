-- What the functions of this crate answer. Assumes nothing: these are definitions.
use Rattle.std.specs.Prelude.{ℕ, ◌-◌, ◌*◌, min, List, length, Result, Ok, Err}
use Rattle.format.specs.Refusals as F
use Rattle.format.specs.Refusals.{raster_ends, second_repeat, ok, fault}
use Rattle.format.specs.Rasters as R
use Rattle.packed.specs.Answer.{cap}
use Rattle.packed.specs.declared.Number.{Number}
use Rattle.packed.specs.declared.Unread.{Unread}
use Rattle.packed.specs.declared.Unread.TheVariants.{Ends, Mark}
use Rattle.refusals.specs.Names.{coded}
use Rattle.refusals.specs.declared.Refusal.{Refusal}
use Rattle.items.specs.declared.Item.{Item}
use Rattle.items.specs.declared.Item.TheVariants.{Run, Repeat}

-- The refusal where a number is wanted and none is read.
abbrev pub refusal_of : Unread → Refusal
refusal_of Ends = coded raster_ends
refusal_of Mark = coded second_repeat

-- What is read, where a number is wanted.
abbrev pub wanted : Result Number Unread → Result Number Refusal
wanted (Ok x) = Ok x
wanted (Err u) = Err (refusal_of u)

-- A number as a run, and as a repeat.
abbrev pub as_run : Result Number Refusal → Result Item Refusal
as_run (Ok x) = Ok (Run x.n x.next)
as_run (Err e) = Err e

abbrev pub as_repeat : Result Number Refusal → Result Item Refusal
as_repeat (Ok x) = Ok (Repeat x.n x.next)
as_repeat (Err e) = Err e

-- The item of the definitions, numbers above `cap` held there, with the place of the nybble after it.
unfoldable pub to_item : List ℕ → F.Result (R.Item × List ℕ) → Result Item Refusal
to_item s (ok (R.run n, rest)) = Ok (Run (min n cap) (2 * length s - length rest))
to_item s (ok (R.fourteen n, rest)) = Ok (Repeat (min n cap) (2 * length s - length rest))
to_item s (ok (R.fifteen, rest)) = Ok (Repeat 1 (2 * length s - length rest))
to_item s (fault x) = Err (coded x)
