use Rattle.port_rows.proofs.input_places.ApartLemmas.{given_apart}
use Rattle.port_rows.proofs.input_places.laws.inputs_given_once_are_apart.Goals as goal

pub returns : goal.returns
returns c system given known once = given_apart system c.inputs_have_places.ensures.apart known given once
