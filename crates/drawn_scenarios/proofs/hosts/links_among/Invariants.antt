use Rattle.std.proofs.Common.{◌≡◌, take}
use Rattle.drawn_scenarios.specs.Hosts.{links_among}
use Rattle.drawn_scenarios.proofs.hosts.links_among.Given as goal

abbrev pub invariant-links : goal.invariant-links
invariant-links l = l.own ≡ links_among l.host (take l.link-index l.links)
