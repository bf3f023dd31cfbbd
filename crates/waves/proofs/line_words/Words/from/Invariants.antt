use Rattle.std.proofs.Common.{◌≡◌, drop}
use Rattle.waves.proofs.line_words.Words.from.Given as goal

abbrev pub invariant-skipped : goal.invariant-skipped
invariant-skipped l = l.words ≡ drop l.counter l.self
