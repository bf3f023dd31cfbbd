use Rattle.std.proofs.Common.{◌≡◌, ◌-◌}
use Rattle.drawn_scenarios.specs.Draws.{repeated, stalls}
use Rattle.drawn_scenarios.proofs.DrawLemmas.{prepended}
use Rattle.drawn_scenarios.proofs.generator.Generator.pattern.Given as goal

abbrev pub invariant-cycles : goal.invariant-cycles
invariant-cycles l = prepended l.stalls (repeated (16 - l.counter) stalls l.self) ≡ repeated 16 stalls l.initial.self
