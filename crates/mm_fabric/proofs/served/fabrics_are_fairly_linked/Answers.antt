use Rattle.mm_fabric.proofs.Between.{sides_between}
use Rattle.mm_fabric.proofs.Linked.{linked}
use Rattle.mm_fabric.proofs.Piped.{pipes}
use Rattle.mm_fabric.proofs.served.fabrics_are_fairly_linked.Goals as goal

pub returns : goal.returns
returns c = λ plan is_plan netlist fabric is longer extends run endless end legal.
    let planned = c.plans_are_memory_plans.ensures.kept plan is_plan in
    let pipe = pipes plan netlist fabric is longer extends run endless (record { stages = c.pipes_have_stages.ensures.stages; highest = c.pipes_have_stages.ensures.highest; lowest = c.pipes_have_stages.ensures.lowest }) in
    let inner = sides_between plan planned netlist fabric is longer extends run endless in
    linked plan planned (c.plans_are_apart.ensures plan is_plan) (c.routes_are_the_map.ensures plan is_plan) (c.routes_are_mapped.ensures plan is_plan) c.fit_commands_suit_agents.ensures
    netlist fabric is longer extends run endless end legal (c.fabrics_show_views.ensures plan netlist fabric is longer extends run endless end) c.routes_show_fit_beats.ensures c.cut_shows_fit_beats.ensures inner.0 inner.1 pipe.0 pipe.1 c.what_rows_carry_fits.ensures
