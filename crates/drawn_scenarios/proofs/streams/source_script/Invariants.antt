use Rattle.std.proofs.Common.{◌≡◌, ◌-◌}
use Rattle.drawn_scenarios.specs.Draws.{repeated}
use Rattle.drawn_scenarios.specs.Streams.{source_statement}
use Rattle.drawn_scenarios.proofs.DrawLemmas.{prepended}
use Rattle.drawn_scenarios.proofs.streams.source_script.Given as goal

abbrev pub invariant-beats : goal.invariant-beats
invariant-beats l = prepended l.script (repeated (32 - l.counter) (source_statement l.source) l.generator) ≡ repeated 32 (source_statement l.source) l.initial.generator
