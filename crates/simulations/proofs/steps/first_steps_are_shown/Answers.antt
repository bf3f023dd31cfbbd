use Rattle.std.proofs.Common.{refl, sym, ap, ◌∙◌}
use Rattle.cycle_sim.specs.Sims.{input_widths}
use Rattle.simulations.specs.Benches.{all_levels}
use Rattle.simulations.specs.Cycles.{first_words, shown_first}
use Rattle.simulations.proofs.Stepping.{now_shown, wide_behind}
use Rattle.simulations.proofs.steps.first_steps_are_shown.Goals as goal

pub returns-clause-inputs : goal.returns-clause-inputs
returns-clause-inputs c = λ plan scenario run k bench set way.
    let fits = c.first_words_fit.ensures plan scenario bench.sim.netlist run k bench set way.components in
    let room = c.levels_have_room.ensures.all plan scenario bench.sim.netlist run k bench first_words bench.row set way.components fits way.row in
    wide_behind c.levels_stand.ensures.widths bench.row (shown_first bench).row (all_levels bench first_words) _ room refl way.row ∙ ap input_widths (sym set.is_interconnect.ports)

pub returns-clause-shown : goal.returns-clause-shown
returns-clause-shown c = λ plan scenario run k bench after set way step stepped.
    let netlist = bench.sim.netlist in
    let row = (shown_first bench).row in
    let fits = c.first_words_fit.ensures plan scenario netlist run k bench set way.components in
    let room = c.levels_have_room.ensures.all plan scenario netlist run k bench first_words bench.row set way.components fits way.row in
    let wide = wide_behind c.levels_stand.ensures.widths bench.row row (all_levels bench first_words) _ room refl way.row in
    let stand = c.levels_have_room.ensures.stand plan scenario netlist run k bench first_words bench.row set way.components room in
    now_shown plan scenario run k bench after row first_words way step.netlist (step.stands run k way.stands) stepped (step.run run k way.stands) step.valuation step.inputs_are fits wide stand
