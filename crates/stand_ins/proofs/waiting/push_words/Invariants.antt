use Rattle.std.proofs.Common.{◌≡◌, ◌++◌, map}
use Rattle.histories.specs.History.{numbers}
use Rattle.memory_runs.specs.Sides.{agent_side}
use Rattle.stand_ins.specs.Steps.{levels_of}
use Rattle.stand_ins.specs.Codes.{code_at}
use Rattle.stand_ins.specs.Answers.{asked_word}
use Rattle.stand_ins.specs.Memory.{contents_of}
use Rattle.stand_ins.proofs.waiting.push_words.Given as goal

abbrev pub invariant-words : goal.invariant-words
invariant-words l = record {
  room : l.words.capacity ≡ l.fn.words.capacity;
  pushed : l.words.items ≡ l.fn.words.items ++ map (asked_word (agent_side l.port) (contents_of l.memory) (code_at (agent_side l.port) l.script) l.due (levels_of l.levels)) (numbers 0 l.number);
}
