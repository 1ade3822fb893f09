use Rattle.head.proofs.FieldLaws.{head_put}
use Rattle.head.proofs.put_head.Goals as goal

pub returns : goal.returns
returns c = head_put c.args.buf.now _ c.args.flag c.args.fields c.requires.0 c.put_fields.ensures
