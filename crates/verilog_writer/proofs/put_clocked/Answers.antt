use Rattle.std.proofs.Common.{◌++◌, string_bytes, ap, sym, ◌∙◌, append-nil}
use Rattle.verilog_writer.specs.Text.{clocked_line}
use Rattle.verilog_writer.proofs.TextLemmas.{equation_here, unclocked}
use Rattle.verilog_writer.proofs.put_clocked.Goals as goal

pub returns-in_ok-put_clock : goal.returns-in_ok-put_clock
returns-in_ok-put_clock c line at =
    let is = equation_here c.args.module.now c.args.net c.equation-equation.result line c.equation-equation.ensures at in
    c.in_ok-put_clock.ensures ∙ ap (λ e. string_bytes c.args.text.now ++ clocked_line c.args.net e) (sym (is ∙ c.in-Reg.is))

pub returns-in_default : goal.returns-in_default
returns-in_default c line at =
    let is = equation_here c.args.module.now c.args.net c.equation-equation.result line c.equation-equation.ensures at in
    let none = ap (clocked_line c.args.net) is ∙ unclocked c.args.net c.equation-equation.result c.in_default.not-Reg in
    sym (append-nil (string_bytes c.args.text.now)) ∙ ap (λ t. string_bytes c.args.text.now ++ t) (sym none)
