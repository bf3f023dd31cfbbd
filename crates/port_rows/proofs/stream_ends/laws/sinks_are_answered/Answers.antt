use Rattle.port_tables.specs.declared.roles.PortRole.TheVariants as role
use Rattle.port_rows.proofs.stream_ends.Shown.{same_beat}
use Rattle.port_rows.proofs.stream_ends.laws.sinks_are_answered.Goals as goal

pub returns-clause-beat : goal.returns-clause-beat
returns-clause-beat c system netlist run cycle end is =
    let law = c.outputs_are_those_of_nets.ensures in
    same_beat _ _
    (law system netlist run cycle is end role.Data 0)
    (law system netlist run cycle is end role.Channel 0)
    (law system netlist run cycle is end role.Error 0)
    (law system netlist run cycle is end role.StartOfPacket 0)
    (law system netlist run cycle is end role.EndOfPacket 0)
    (law system netlist run cycle is end role.Empty 0)
