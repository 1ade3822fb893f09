-- What the inner functions of this crate need and leave. Assumes nothing: these are definitions.
use Rattle.std.specs.Prelude.{ℕ, ◌*◌, ◌≡◌, true, List, nat_abs, length}
use Rattle.format.specs.Measures as F
use Rattle.format.specs.Rasters.{rows}
use Rattle.format.specs.Counts.{counts}
use Rattle.format.specs.Choice.{raster_of}
use Rattle.format.specs.Packing.{all_pixels}
use Rattle.pick.specs.Picks.{Judged}

-- A bitmap of w by h pixels that passed 18, 19 and 8 with its measures.
pub record Bitmap (b : List ℕ) (w h : ℕ) (m : F.Measures) : Type 0 where
  pub judged : Judged m
  pub wide : w ≡ nat_abs m.w
  pub high : h ≡ nat_abs m.h
  pub size : length b ≡ w * h
  pub pixels : all_pixels b ≡ true

-- The raster bytes for f.
unfoldable pub raster_for : ℕ → ℕ → ℕ → List ℕ → List ℕ
raster_for f w h b = raster_of f (counts (rows w h b)) b
