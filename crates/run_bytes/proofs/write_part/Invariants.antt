use lib.ListN.{take}
use Rattle.format.specs.Rasters.{writings}
use Rattle.part.specs.Parts.{kept}
use Rattle.run_bytes.specs.Put.{Put}
use Rattle.run_bytes.proofs.write_part.Given as goal

abbrev pub invariant-loop-r : goal.invariant-loop-r
invariant-loop-r l = Put l.initial.buf l.i (writings l.f.n (kept (take l.r-index l.runs))) l.to l.buf
