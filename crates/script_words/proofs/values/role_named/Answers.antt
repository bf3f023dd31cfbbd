use Rattle.script_words.proofs.ValueLemmas.{role_named_of}
use Rattle.script_words.proofs.values.role_named.Goals as goal

pub returns : goal.returns
returns c = role_named_of c.args.kind c.args.text.now c.role_of.result c.role_of.ensures
