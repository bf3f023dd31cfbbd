use Rattle.std.proofs.Common.{◌≤◌, ◌*◌, arith}
use Rattle.stand_ins.proofs.PlaceLemmas.{few_bytes, whole_address, few_addresses}
use Rattle.stand_ins.proofs.places.byte_address.Goals as goal
use Rattle.stand_ins.proofs.places.byte_address.Goals.{then-port, else-port}

pub returns-clause-whole : goal.returns-clause-whole
returns-clause-whole c = rw (← c.from-word_bytes.ensures) (whole_address (c.from.result * c.if-port.unit) c.from-word_bytes.result)

pub returns-clause-few : goal.returns-clause-few
returns-clause-few c =
    let few : c.if-port.unit ≤ 16 = elim c.if-port.branch [ then-port w ↦ omega arith | else-port w ↦ omega (arith, few_bytes c.args.port.now.word_bytes c.requires.ports.word) ] in
    omega (arith, few_addresses c.from.result c.if-port.unit (omega arith) few)
