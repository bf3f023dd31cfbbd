use Rattle.std.proofs.Common.{◌≡◌, Some, None, take, if◌then◌else◌}
use Rattle.std.specs.List.{filter_map, enumerate_from}
use Rattle.link_rules.specs.Links.{is_stream}
use Rattle.link_rules.proofs.links.streams.Given as goal

abbrev pub invariant-loop-k : goal.invariant-loop-k
invariant-loop-k l =
    l.numbers ≡ filter_map (λ numbered. if is_stream numbered.1.kind then Some numbered.0 else None) (enumerate_from 0 (take l.k l.connections))
