use Rattle.std.proofs.Common.{IsTrue}
use Rattle.memory_machines.proofs.ExpanderLink.{expander_commands}
use Rattle.memory_machines.proofs.machines.expander_carries.Goals as goal

pub returns : goal.returns
returns c = λ target wide narrow parts stands right sides.
    expander_commands target wide narrow parts (λ burst. IsTrue (stands burst)) right.begins right.lasts right.expands
    sides.commands_above sides.commands_below sides.answers_above sides.answers_below
