use Rattle.part.specs.Parts.{Walked}
use Rattle.part.proofs.Part.fill.Given as goal

abbrev pub invariant-loop-n : goal.invariant-loop-n
invariant-loop-n l = Walked l.rows.pixels.now l.rows.w l.initial.d (record { runs = l.self.runs; n = l.n; cursor = l.d })
