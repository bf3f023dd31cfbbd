use Rattle.std.proofs.Common.{◌≡◌, ◌++◌, take, string_bytes}
use Rattle.std.specs.List.{flat_map, zip}
use Rattle.address_map.specs.Maps.{hosts_of}
use Rattle.map_text.specs.Text.{host_lines}
use Rattle.map_text.proofs.put_hosts.Given as goal

abbrev pub invariant-loop-number : goal.invariant-loop-number
invariant-loop-number l =
    string_bytes l.text ≡ string_bytes l.fn.text ++ flat_map (λ mapped. host_lines l.plan.system mapped.0 mapped.1) (take l.number (zip (hosts_of l.plan.system) l.plan.maps))
