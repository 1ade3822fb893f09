use Rattle.std.proofs.Common.{arith}
use Rattle.scan.proofs.FirstLaws.{first_least}
use Rattle.scan.proofs.WordLaws.{word_first}
use Rattle.scan.proofs.unlike_in_word.Goals as goal

pub returns : goal.returns
returns g c = first_least c.min.ensures (word_first c.eight.ensures c.word.ensures c.alike.ensures) (omega arith)
