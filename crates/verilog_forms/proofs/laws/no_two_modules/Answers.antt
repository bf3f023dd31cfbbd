use Rattle.verilog_forms.proofs.Texts.{one_module}
use Rattle.verilog_forms.proofs.laws.no_two_modules.Goals as goal

pub returns : goal.returns
returns c = one_module
