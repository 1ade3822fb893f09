-- What `nybble` answers. Assumes nothing: these are definitions.
use Rattle.std.specs.Prelude.{ℕ, ◌<◌, ◌≡◌, List, get_or}
use Rattle.format.specs.Packed.{nybbles}

-- r is the nybble at i of the bytes s.
pub record NybbleAt (s : List ℕ) (i r : ℕ) : Type 0 where
  pub is : r ≡ get_or (nybbles s) i 0
  pub small : r < 16
