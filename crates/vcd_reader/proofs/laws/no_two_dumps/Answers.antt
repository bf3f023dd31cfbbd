use Rattle.std.proofs.Common.{◌≡◌, [], sym, ap, ◌∙◌}
use Rattle.vcd_text.specs.Text.{DumpValue}
use Rattle.vcd_reader.specs.Found.{Found}
use Rattle.vcd_reader.specs.Readings.{dump_read}
use Rattle.vcd_reader.proofs.laws.no_two_dumps.Goals as goal

same_told : (one other : DumpValue) → Found.told one [] ≡ Found.told other [] → one ≡ other
same_told one other e = cc

pub returns : goal.returns
returns c = λ one other is so same. same_told one other (sym (c.texts_are_read.ensures one is) ∙ ap dump_read same ∙ c.texts_are_read.ensures other so)
