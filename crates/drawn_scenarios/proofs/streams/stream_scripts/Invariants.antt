use Rattle.std.proofs.Common.{◌≡◌, drop}
use Rattle.drawn_scenarios.specs.Draws.{for_each}
use Rattle.drawn_scenarios.specs.Streams.{stream_script, stream_scripts}
use Rattle.drawn_scenarios.proofs.StreamLemmas.{both_prepended}
use Rattle.drawn_scenarios.proofs.streams.stream_scripts.Given as goal

abbrev pub invariant-streams : goal.invariant-streams
invariant-streams l = both_prepended l.sources l.sinks (for_each stream_script (drop l.link-index l.links) l.generator) ≡ stream_scripts l.links l.initial.generator
