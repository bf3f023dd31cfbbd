use Rattle.std.proofs.Common.{◌≡◌, drop, length}
use Rattle.std.specs.List.{range_with_len}
use Rattle.address_map.specs.Maps.{hosts_of}
use Rattle.drawn_scenarios.specs.Draws.{for_each}
use Rattle.drawn_scenarios.specs.Drawn.{host_script_at, host_scripts}
use Rattle.drawn_scenarios.proofs.DrawLemmas.{prepended}
use Rattle.drawn_scenarios.proofs.hosts.host_scripts.Given as goal

abbrev pub invariant-hosts : goal.invariant-hosts
invariant-hosts l = prepended l.scripts (for_each (host_script_at l.plan.system) (drop l.host (range_with_len 0 (length (hosts_of l.plan.system)))) l.generator) ≡ host_scripts l.plan.system l.initial.generator
