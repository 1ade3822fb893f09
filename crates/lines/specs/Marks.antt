-- The mark over bytes, and the pixels of a bitmap. Assumes nothing: these are definitions.
use Rattle.std.specs.Prelude.{ℕ, ◌+◌, ◌*◌, ◌%◌, cond, ◌&&◌, List, [], ◌∷◌, leb}

-- The mark over bytes, after those that came to m: each byte b makes it (m * 257 + b) mod 65,521.
unfoldable pub mark_after : ℕ → List ℕ → ℕ
mark_after m [] = m
mark_after m (b ∷ s) = mark_after ((m * 257 + b) % 65521) s

-- It begins with 1.
unfoldable pub marked : List ℕ → ℕ
marked s = mark_after 1 s

-- The pixels of w by h, and 0 where w or h is above 65,536.
unfoldable pub area_of : ℕ → ℕ → ℕ
area_of w h = cond (leb w 65536 && leb h 65536) (w * h) 0
