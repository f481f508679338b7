use Rattle.text.proofs.Techniques.{named_is}
use Rattle.text.proofs.value.TechniqueFieldValue.from_bytes.Goals as goal

pub returns : goal.returns
returns c = named_is c.args.bytes.now c.named.result c.named.ensures
