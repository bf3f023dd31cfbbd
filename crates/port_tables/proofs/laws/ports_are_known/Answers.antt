use Rattle.port_tables.specs.EndFacts.{planned}
use Rattle.port_tables.proofs.Headers.{inputs-few, inputs-ends}
use Rattle.port_tables.proofs.PortPlaces.{port_known, one_role, port_owner}
use Rattle.port_tables.proofs.laws.ports_are_known.Goals as goal

pub returns : goal.returns
returns c =
    let system = c.args.plan.now.system in
    let h = planned c.args.plan.now c.well_made.ensures in
    record {
      planned = h;
      known = λ end there p among is may. port_known system end there p h among is may;
      one_role = λ a b r s k i j e f. one_role system a b r s k h i j e f;
      owner = λ k port e. port_owner system k port h e;
      few_inputs = inputs-few system h;
      inputs_by_ends = inputs-ends system;
    }
