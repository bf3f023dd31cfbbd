use Rattle.std.proofs.Common.{◌∙◌}
use Rattle.verilog_reader.specs.DeclaredLines.{nothing_told}
use Rattle.verilog_forms.specs.Headers.{port_name_test}
use Rattle.verilog_reader.proofs.HeaderSteps.{run_bytes, described_found}
use Rattle.verilog_reader.proofs.header_lines.described.Goals as goal

pub text_of-requires : goal.text_of-requires
text_of-requires c = run_bytes c.args.bytes.now c.run_at-run.result.now c.fixed-blank.result c.run_at-run.ensures

pub port_name_in-requires : goal.port_name_in-requires
port_name_in-requires c = run_bytes c.args.bytes.now c.run_at-run.result.now c.fixed-blank.result c.run_at-run.ensures

pub returns-clause-read : goal.returns-clause-read
returns-clause-read c = λ ports are.
    described_found c.args.bytes.now ports c.args.output c.range-width.result.0 c.in_ok-name.name c.args.spot c.fixed-begun.result c.range-width.result.1 c.fixed-blank.result c.take-end.result.1
    c.fixed-begun.ensures.fixed c.range-width.ensures.read c.fixed-blank.ensures.fixed (c.take-end.ensures.taken (port_name_test ports) nothing_told (c.port_name_in.ensures ports are)).leads
    (c.in_ok-name.ensures ∙ c.text_of.ensures ∙ c.run_at-run.ensures)
