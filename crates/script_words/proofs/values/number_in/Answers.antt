use Rattle.std.proofs.Common.{lit<, ◌∙◌}
use Rattle.std.proofs.lemmas.Bool.Decides.{not_from_Decides}
use Rattle.std.proofs.lemmas.Str.Pattern.{starts_char}
use Rattle.script_words.proofs.ValueLemmas.{plus_is_none, number_parsed}
use Rattle.script_words.proofs.values.number_in.Goals as goal

pub returns-then-starts_with : goal.returns-then-starts_with
returns-then-starts_with c =
    let plus = starts_char 43 c.args.text.now c.starts_with.result c.starts_with.ensures.cases (lit< tt) (lit< tt) in
    plus_is_none c.args.radix c.args.text.now c.requires.high (plus.0 c.if-starts_with.true)

pub returns : goal.returns
returns c =
    let plus = starts_char 43 c.args.text.now c.starts_with.result c.starts_with.ensures.cases (lit< tt) (lit< tt) in
    c.ok.ensures.value ∙ number_parsed c.args.radix c.args.text.now c.from_str_radix.result (not_from_Decides _ plus c.if-starts_with.false) c.from_str_radix.ensures.value
