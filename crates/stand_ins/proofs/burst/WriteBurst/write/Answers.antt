use Rattle.std.proofs.Common.{ap, sym, ◌∙◌, append-nil}
use Rattle.memory_runs.specs.Views.Kind.{Writes}
use Rattle.memory_runs.specs.Operations.{Beat, memory_after, own_operations}
use Rattle.memory_runs.specs.Sides.{agent_side}
use Rattle.stand_ins.specs.Memory.{contents_of}
use Rattle.stand_ins.proofs.PlaceLemmas.{own_lanes}
use Rattle.stand_ins.proofs.burst.WriteBurst.write.Goals as goal

pub returns-clause-contents : goal.returns-clause-contents
returns-clause-contents c =
    let side = agent_side c.args.port.now in
    let levels = c.args.levels.now in
    let contents = contents_of c.args.memory.now in
    c.write.ensures.contents
    ∙ ap (memory_after contents) (own_lanes c.args.port.now c.address-address.result c.word_number.result levels.word levels.enables c.args.memory.now.word_bytes c.requires.bytes c.word_number.ensures.places
    ∙ ap (λ address. let beat : Beat = record { kind = Writes; address = address; word = levels.word; enables = levels.enables } in own_operations side.shape side.span beat) c.address-address.ensures.value
    ∙ sym (append-nil _))
