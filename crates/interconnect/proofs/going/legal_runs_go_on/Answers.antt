use Rattle.interconnect.proofs.Feeding.{go_on}
use Rattle.interconnect.proofs.going.legal_runs_go_on.Goals as goal

pub returns : goal.returns
returns c netlist well_made ports =
    go_on c.args.plan.now netlist (record {
      known = c.ports_are_known.ensures;
      ports = ports;
      input = c.signals.ensures.input netlist well_made;
      fits = c.inputs_fit.ensures netlist well_made;
      feeds = c.runs_can_be_fed.ensures netlist well_made;
      alike = c.legal_runs_go_on.ensures.alike;
    })
