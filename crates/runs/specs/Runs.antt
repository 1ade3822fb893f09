-- What the functions of this crate need and leave. Assumes nothing: these are definitions.
use Rattle.std.specs.Prelude.{ℕ, suc, ◌+◌, ◌-◌, ◌*◌, cond, List, ◌++◌, ltb, take, drop, replicate}
use Rattle.format.specs.Reading.{State}
use Rattle.fill.specs.Rows.{filled, times}

-- The place of the next pixel.
abbrev pub place_of : ℕ → State → ℕ
place_of w s = s.row * w + s.column

-- The row of the next pixel, as far as it is drawn in the buffer d.
abbrev pub begun : ℕ → State → List ℕ → List ℕ
begun w s d = take s.column (drop (s.row * w) d)

-- The buffer d after a run of n pixels c: it ends inside its row; or its row is full and sent once more for each repeat, and the rest of
-- the run follows.
unfoldable pub with_run : ℕ → ℕ → ℕ → State → List ℕ → List ℕ
with_run w n c s d =
    let room = w - s.column in
    cond (ltb n room) (filled d (place_of w s) n c)
    (take (s.row * w) d ++ (times (suc s.repeat) (begun w s d ++ replicate room c) ++ (replicate (n - room) c ++ drop (place_of w s + s.repeat * w + n) d)))
