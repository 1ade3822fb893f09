-- What `pixel_at` answers. Assumes nothing: these are definitions.
use Rattle.std.specs.Prelude.{ℕ, ◌<◌, ◌≡◌, List, get_or}

-- r is the pixel at i, white behind the last.
pub record PixelAt (b : List ℕ) (i r : ℕ) : Type 0 where
  pub is : r ≡ get_or b i 0
  pub small : r < 2
