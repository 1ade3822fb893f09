-- What C is handed: an answer's numbers, and 0 in each field that the answer does not use. Assumes nothing: these are definitions.
use Rattle.std.specs.Prelude.{ℕ, ℤ, pos}
use Rattle.format.specs.Refusals.{Told, says, refuses}
use Rattle.format.specs.Measures as F
use Rattle.zahrufin.specs.declared.PlainMeasures.{PlainMeasures}
use Rattle.zahrufin.specs.declared.PlainChecked.{PlainChecked}
use Rattle.zahrufin.specs.declared.PlainDrawn.{PlainDrawn}
use Rattle.zahrufin.specs.declared.PlainPacked.{PlainPacked}

-- C's measures as the definitions'.
abbrev pub measures_of : PlainMeasures → F.Measures
measures_of m =
    record {
      code = m.code;
      w = m.w;
      h = m.h;
      tfm = m.tfm;
      dx = F.scaled m.dx;
      dy = F.scaled m.dy;
      hoff = m.hoff;
      voff = m.voff;
    }

-- An escapement in pixels times 65,536, as a number.
abbrev pub count_of : F.Scaled → ℤ
count_of (F.scaled n) = n

-- The definitions' measures as C's.
abbrev pub plain_of : F.Measures → PlainMeasures
plain_of m =
    record {
      code = m.code;
      w = m.w;
      h = m.h;
      tfm = m.tfm;
      dx = count_of m.dx;
      dy = count_of m.dy;
      hoff = m.hoff;
      voff = m.voff;
    }

-- Where an answer has no measures.
abbrev pub no_measures : PlainMeasures
no_measures = record { code = pos 0; w = pos 0; h = pos 0; tfm = pos 0; dx = pos 0; dy = pos 0; hoff = pos 0; voff = pos 0 }

-- zahrufin_checked: the number of characters, or the refusal and its place.
unfoldable pub checked_for : Told ℕ → PlainChecked
checked_for (says n) = record { refusal = 0; place = 0; chars = n }
checked_for (refuses x place) = record { refusal = x; place = place; chars = 0 }

-- zahrufin_drawn: the measures, or the refusal and its place.
unfoldable pub drawn_for : Told F.Measures → PlainDrawn
drawn_for (says m) = record { refusal = 0; place = 0; measures = plain_of m }
drawn_for (refuses x place) = record { refusal = x; place = place; measures = no_measures }

-- zahrufin_packed: the packet's length, or the refusal and its place.
unfoldable pub packed_for : Told ℕ → PlainPacked
packed_for (says n) = record { refusal = 0; place = 0; length = n }
packed_for (refuses x place) = record { refusal = x; place = place; length = 0 }
