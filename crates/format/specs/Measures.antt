-- Measures and escapement (01, Flags and the three forms: "The two counts are never taken for one another").
-- Assumes nothing: these are definitions.
use Rattle.std.specs.Prelude.{ℕ, ◌*◌, ◌/◌, Bool, false, eqb, ℤ, pos, negsuc}

-- An escapement in whole pixels.
pub data Pixels : Type 0 where
  pixels : ℕ → Pixels

-- An escapement in pixels times 65,536.
pub data Scaled : Type 0 where
  scaled : ℤ → Scaled

-- The one conversion between them.
unfoldable pub to_scaled : Pixels → Scaled
to_scaled (pixels n) = scaled (pos (n * 65536))

-- The whole pixels to try for an escapement: they are its own only if `to_scaled` gives it back.
unfoldable pub whole_pixels : Scaled → Pixels
whole_pixels (scaled (pos n)) = pixels (n / 65536)
whole_pixels (scaled (negsuc n)) = pixels 0

-- The two are equal.
unfoldable pub same_scaled : Scaled → Scaled → Bool
same_scaled (scaled (pos a)) (scaled (pos b)) = eqb a b
same_scaled (scaled (pos a)) (scaled (negsuc b)) = false
same_scaled (scaled (negsuc a)) (scaled (pos b)) = false
same_scaled (scaled (negsuc a)) (scaled (negsuc b)) = eqb a b

-- What a drawn code answers, and what is handed in with a bitmap. hoff and voff count from the upper left pixel to the
-- reference pixel, right and down positive.
pub record Measures : Type 0 where
  pub code : ℤ
  pub w : ℤ
  pub h : ℤ
  pub tfm : ℤ
  pub dx : Scaled
  pub dy : Scaled
  pub hoff : ℤ
  pub voff : ℤ
