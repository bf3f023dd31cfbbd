use Rattle.std.proofs.Common.{◌≡◌, ◌-◌}
use Rattle.drawn_scenarios.specs.Draws.{repeated}
use Rattle.drawn_scenarios.specs.Hosts.{host_statement}
use Rattle.drawn_scenarios.proofs.DrawLemmas.{prepended}
use Rattle.drawn_scenarios.proofs.hosts.host_script.Given as goal

abbrev pub invariant-statements : goal.invariant-statements
invariant-statements l = prepended l.script (repeated (16 - l.counter) (host_statement l.links) l.generator) ≡ repeated 16 (host_statement l.links) l.initial.generator
