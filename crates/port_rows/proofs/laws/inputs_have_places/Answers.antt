use Rattle.std.proofs.Common.{subst, ℕ}
use Rattle.port_rows.specs.Rows.{IsPlace}
use Rattle.netlist.specs.Netlists.{input_net}
use Rattle.port_rows.proofs.PlaceLemmas.{places_apart, place_there}
use Rattle.port_rows.proofs.laws.inputs_have_places.Goals as goal

pub returns-clause-apart : goal.returns-clause-apart
returns-clause-apart c = places_apart

pub returns-clause-there : goal.returns-clause-there
returns-clause-there c ports row k w same h =
    subst (λ (width : ℕ). IsPlace row (input_net ports k) width) h.width (place_there ports row k h.port same h.is h.input)
