use Rattle.std.proofs.Common.{◌≡◌, ◌-◌}
use Rattle.drawn_scenarios.specs.Draws.{word_behind, word_of}
use Rattle.drawn_scenarios.proofs.DrawLemmas.{added}
use Rattle.drawn_scenarios.proofs.generator.Generator.word.Given as goal

abbrev pub invariant-symbols : goal.invariant-symbols
invariant-symbols l = added l.word (word_behind l.first_high l.bits l.bound l.k (l.symbols - l.k) l.self) ≡ word_of l.first_high l.bits l.bound l.symbols l.initial.self
