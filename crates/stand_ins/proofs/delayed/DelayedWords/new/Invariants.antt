use Rattle.std.proofs.Common.{◌≡◌, replicate}
use Rattle.stand_ins.specs.Answers.{no_answer}
use Rattle.stand_ins.proofs.delayed.DelayedWords.new.Given as goal

abbrev pub invariant-cycles : goal.invariant-cycles
invariant-cycles l = record {
  none : l.answers.items ≡ replicate l.counter no_answer;
  room : l.answers.capacity ≡ l.latency;
}
