use Rattle.cycle_sim.specs.Standing.{with_cycle}
use Rattle.simulations.proofs.ToldAlike.{same_lines, same_sums}
use Rattle.simulations.proofs.telling.earlier_cycles_are_told.Goals as goal

pub returns-clause-lines : goal.returns-clause-lines
returns-clause-lines c = λ plan netlist run d cycle k low.
    let stay = c.earlier_cycles_stay.ensures in
    same_lines c.taken_by_beginnings.ensures.accepted c.taken_by_beginnings.ensures.transfer plan netlist run (with_cycle run d cycle) d (record {
      memory = record { hosts = stay.hosts plan netlist run d cycle; agents = stay.agents plan netlist run d cycle };
      streams = stay.streams plan netlist run d cycle;
      dropped = stay.dropped plan netlist run d cycle;
    }) k low

pub returns-clause-counted : goal.returns-clause-counted
returns-clause-counted c = λ plan netlist run d cycle k low.
    let stay = c.earlier_cycles_stay.ensures in
    same_sums c.taken_by_beginnings.ensures.accepted c.taken_by_beginnings.ensures.transfer plan netlist run (with_cycle run d cycle) d (record {
      memory = record { hosts = stay.hosts plan netlist run d cycle; agents = stay.agents plan netlist run d cycle };
      streams = stay.streams plan netlist run d cycle;
      dropped = stay.dropped plan netlist run d cycle;
    }) k low
