use Rattle.std.proofs.Common.{◌≡◌, map, take}
use Rattle.std.specs.Prelude.{filter}
use Rattle.address_map.specs.Ends.{each_once}
use Rattle.address_map.specs.Maps.{is_mm, end_at}
use Rattle.address_map.proofs.hosts.mm_ends.Given as goal

abbrev pub invariant-loop-connection : goal.invariant-loop-connection
invariant-loop-connection l =
    l.ends ≡ each_once (map (end_at l.side) (filter (λ connection. is_mm connection.kind) (take l.connection-index l.connection-items)))
