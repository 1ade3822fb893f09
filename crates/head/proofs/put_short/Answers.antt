use mathlib.Core.Path.{refl}
use Rattle.head.proofs.FieldLaws.{short_put}
use Rattle.head.proofs.put_short.Goals as goal

pub returns : goal.returns
returns c = let a = c.args in (refl, short_put a.buf.now a.flag a.size a.code a.tfm a.dm a.w a.h a.x a.y c.copy_from_slice.ensures.after)
