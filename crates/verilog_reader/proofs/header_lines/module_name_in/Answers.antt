use Rattle.std.proofs.Common.{sym, refl, ◌∙◌}
use Rattle.verilog_reader.proofs.HeaderSteps.{module_named}
use Rattle.verilog_reader.proofs.header_lines.module_name_in.Goals as goal

pub returns : goal.returns
returns c = (
  module_named c.args.run.now (sym c.begins_with_letter.ensures ∙ c.if-not-begins_with_letter.false) (sym c.has_name_bytes.ensures ∙ c.if-not-has_name_bytes.false) (sym c.ends_with.ensures.value ∙ c.if-not-ends_with.false),
  refl,
)
