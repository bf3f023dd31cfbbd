use Rattle.std.proofs.Common.{◌≡◌, [], ap, sym, ◌∙◌}
use Rattle.vcd_text.specs.Text.{DumpValue}
use Rattle.vcd_reader.specs.Found.{Found}
use Rattle.vcd_reader.specs.Readings.{dump_read}
use Rattle.vcd_reader.proofs.dump.read_dump.Goals as goal

pub returns-in-Ok-clause-text : goal.returns-in-Ok-clause-text
returns-in-Ok-clause-text c = (c.only_dumps_are_read.ensures c.args.bytes.now [] c.in-Ok.dump (ap dump_read (sym c.new-reader.ensures) ∙ c.in-Ok.ensures.read)).is

pub returns-in-Ok-clause-sound : goal.returns-in-Ok-clause-sound
returns-in-Ok-clause-sound c = (c.only_dumps_are_read.ensures c.args.bytes.now [] c.in-Ok.dump (ap dump_read (sym c.new-reader.ensures) ∙ c.in-Ok.ensures.read)).is_dump

same_told : (one other : DumpValue) → Found.told one [] ≡ Found.told other [] → one ≡ other
same_told one other e = cc

pub returns-in-Ok-clause-only : goal.returns-in-Ok-clause-only
returns-in-Ok-clause-only c = λ one is same. same_told c.in-Ok.dump one
    (sym (ap dump_read (sym c.new-reader.ensures) ∙ c.in-Ok.ensures.read) ∙ ap dump_read same ∙ c.texts_are_read.ensures one is)
