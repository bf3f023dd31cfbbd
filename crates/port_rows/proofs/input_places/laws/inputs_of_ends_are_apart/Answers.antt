use Rattle.port_rows.proofs.input_places.BlockLemmas.{ends_apart}
use Rattle.port_rows.proofs.input_places.laws.inputs_of_ends_are_apart.Goals as goal

pub returns : goal.returns
returns c = λ system ends ports are all. ends_apart system ports c.inputs_have_places.ensures.apart ends are all
