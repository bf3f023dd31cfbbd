use Rattle.std.proofs.Common.{◌≡◌, sym, ◌∙◌}
use Rattle.std.proofs.lemmas.Result.{IfOk-weaker}
use Rattle.verilog_writer.specs.Text.{text_of}
use Rattle.avalon_top.proofs.made.interconnect_text.Goals as goal

pub returns : goal.returns
returns c =
    let netlist = c.in_ok-built.built.module in
    let sound = c.well_made.ensures in
    IfOk-weaker c.write_module.result (λ text. text ≡ text_of netlist) _
    (λ text is. (netlist, c.in_ok-built.ensures.module, record { is_module = sound; is_text = is; only = λ other good same. c.no_two_modules.ensures other netlist good sound (sym same ∙ is) }))
    c.write_module.ensures
