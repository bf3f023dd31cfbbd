use Rattle.std.proofs.Common.{◌∙◌}
use Rattle.script_words.proofs.ValueLemmas.{number_hexadecimal, number_decimal}
use Rattle.script_words.proofs.values.number_of.Goals as goal

pub returns-in-Some : goal.returns-in-Some
returns-in-Some c =
    let found = c.in-Some.ensures.cases in
    c.number_in.ensures ∙ number_hexadecimal c.args.text.now c.in-Some.digits.now found.0 found.1.0 found.1.1 found.2

pub returns-in-None : goal.returns-in-None
returns-in-None c = c.number_in-in-None.ensures ∙ number_decimal c.args.text.now c.in-None.ensures.cases
