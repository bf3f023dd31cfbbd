use Rattle.script_words.proofs.ValueLemmas.{property_named_of}
use Rattle.script_words.proofs.values.property_named.Goals as goal

pub returns : goal.returns
returns c = property_named_of c.args.kind c.args.text.now c.property_of.result c.property_of.ensures.known c.property_of.ensures.passed_over
