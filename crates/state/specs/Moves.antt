-- What the state's methods answer, in the terms of the reading. Assumes nothing: these are definitions.
use Rattle.std.specs.Prelude.{ℕ, ◌+◌, ◌*◌, ◌≤◌, ◌<◌, Bool, Result, Ok, Err}
use Rattle.format.specs.Refusals as F
use Rattle.format.specs.Refusals.{ok, fault}
use Rattle.format.specs.Reading as R
use Rattle.refusals.specs.Names.{coded}
use Rattle.refusals.specs.declared.Refusal.{Refusal}
use Rattle.state.specs.declared.State.{State}

-- The reading's state, which leaves the colour out: it judges nothing.
abbrev pub plain : State → R.State
plain s = record { column = s.column; row = s.row; repeat = s.repeat }

-- The same with the colour of the next run.
abbrev pub coloured : Bool → R.State → State
coloured black s = record { column = s.column; row = s.row; repeat = s.repeat; black = black }

-- Where a run or a repeat leads.
unfoldable pub moved_to : Bool → F.Result R.State → Result State Refusal
moved_to black (ok s) = Ok (coloured black s)
moved_to black (fault x) = Err (coded x)

-- A state within a raster of w by h.
pub record Within (w h : ℕ) (s : R.State) : Type 0 where
  pub wide : s.column < w
  pub high : s.row + s.repeat < h
  pub small : w * h ≤ 65536
