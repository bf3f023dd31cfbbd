use Rattle.std.proofs.Common.{◌≡◌, take}
use Rattle.std.specs.Prelude.{All}
use Rattle.waves.specs.Rows.{IsWidth, input_widths}
use Rattle.waves.proofs.whole.widths_of.Given as goal

abbrev pub invariant-ports : goal.invariant-ports
invariant-ports l = (l.widths.items ≡ input_widths (take l.port-index l.ports)) × All IsWidth l.widths.items
