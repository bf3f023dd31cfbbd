use Rattle.std.proofs.Common.{◌∙◌}
use Rattle.verilog_reader.specs.DeclaredLines.{nothing_told}
use Rattle.verilog_forms.specs.Headers.{module_name_test}
use Rattle.verilog_reader.proofs.HeaderSteps.{run_bytes, header_found}
use Rattle.verilog_reader.proofs.header_lines.header_lines.Goals as goal

pub text_of-requires : goal.text_of-requires
text_of-requires c = run_bytes c.args.bytes.now c.run_at-run.result.now c.fixed-begun.result c.run_at-run.ensures

pub returns-clause-read : goal.returns-clause-read
returns-clause-read c =
    header_found c.args.bytes.now c.in_ok-name.name c.in_ok-ports.ports c.args.spot c.fixed-begun.result c.take-named.result.1 c.fixed-opened.result c.in_ok-ports.listed c.fixed-end.result
    c.fixed-opened.ensures.within c.in_ok-ports.ensures.within c.fixed-begun.ensures.fixed (c.take-named.ensures.taken module_name_test nothing_told c.module_name_in.ensures).leads
    (c.in_ok-name.ensures ∙ c.text_of.ensures ∙ c.run_at-run.ensures) c.fixed-opened.ensures.fixed c.in_ok-ports.ensures.read c.fixed-end.ensures.fixed
