use Rattle.memory_machines.proofs.SelectLink.{select_expands}
use Rattle.memory_machines.proofs.machines.select_expands.Goals as goal

pub returns : goal.returns
returns c = λ target narrow wide burst raw below may.
    select_expands target narrow wide may.bytes may.words.some may.words.same may.words.enables may.smaller burst raw below may.one_beat may.free_above may.free_below
    may.in_word.lanes may.in_word.few
