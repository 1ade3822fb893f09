-- What the functions of this crate answer, in the terms of the reading. Assumes nothing: these are definitions.
use Rattle.std.specs.Prelude.{ℕ, ◌-◌, ◌*◌, Bool, not, List, length, Result, Ok, Err}
use Rattle.format.specs.Refusals as F
use Rattle.format.specs.Refusals.{ok, fault}
use Rattle.format.specs.Rasters.{Item, run, fourteen, fifteen}
use Rattle.format.specs.Reading as R
use Rattle.refusals.specs.Names.{coded}
use Rattle.refusals.specs.declared.Refusal.{Refusal}
use Rattle.state.specs.Moves.{coloured}
use Rattle.state.specs.declared.State.{State}

-- A move, with the place of the next nybble.
abbrev pub on_to : Result State Refusal → ℕ → Result (State × ℕ) Refusal
on_to (Ok s) next = Ok (s, next)
on_to (Err x) next = Err x

-- The colour after an item: runs change it.
abbrev pub colour_after : Bool → Item → Bool
colour_after black (run n) = not black
colour_after black (fourteen n) = black
colour_after black fifteen = black

-- The state after a turn, and the place of the next nybble.
unfoldable pub to_turn : List ℕ → Bool → F.Result (Item × R.State × List ℕ) → Result (State × ℕ) Refusal
to_turn s black (ok (i, t, rest)) = Ok (coloured (colour_after black i) t, 2 * length s - length rest)
to_turn s black (fault x) = Err (coded x)

-- A raster is whole, or has a first fault.
unfoldable pub judged : F.Result (List Item) → Result (Unit {0}) Refusal
judged (ok is) = Ok tt
judged (fault x) = Err (coded x)
