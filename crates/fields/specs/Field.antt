-- What `number_at` answers. Assumes nothing: these are definitions.
use Rattle.std.specs.Prelude.{ℕ, ◌^◌, ◌<◌, ◌≡◌, List, drop}
use Rattle.format.specs.Decoding.{number}

-- r is the number that the k bytes from at on are.
pub record NumberAt (s : List ℕ) (at k r : ℕ) : Type 0 where
  pub is : r ≡ number k (drop at s)
  pub small : r < 256 ^ k
