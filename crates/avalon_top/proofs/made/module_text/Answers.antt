use Rattle.std.proofs.Common.{◌≡◌, [], sym, ◌∙◌}
use Rattle.std.proofs.lemmas.Result.{IfOk-weaker}
use Rattle.verilog_writer.specs.Text.{text_of}
use Rattle.avalon_top.proofs.AnswerLemmas.{is_done}
use Rattle.avalon_top.proofs.made.module_text.Goals as goal

pub returns-clause-result : goal.returns-clause-result
returns-clause-result c =
    let netlist = c.in_ok-module.module in
    let sound = c.well_made.ensures in
    record {
      is_text = (netlist, c.in_ok-module.ensures, record { is_module = sound; is_text = c.in_ok-write_module.ensures; only = λ other good same. c.no_two_modules.ensures other netlist good sound (sym same ∙ c.in_ok-write_module.ensures) });
      only = is_done;
    }
