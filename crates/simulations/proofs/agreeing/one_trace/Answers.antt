use Rattle.std.proofs.Common.{ℕ, List, ◌∷◌, [], ◌++◌, sym, ap, ◌∙◌}
use Rattle.benches.specs.Writing.{text_of}
use Rattle.trace_lines.specs.Lines.{end_line}
use Rattle.simulations.specs.Benches.{IsSetUp}
use Rattle.simulations.specs.Traces.{run_ends}
use Rattle.simulations.proofs.ToldAlike.{same_lines, same_sums}
use Rattle.simulations.proofs.Simulating.{same_before, same_counts}
use Rattle.simulations.proofs.agreeing.one_trace.Goals as goal

pub returns-clause-lines : goal.returns-clause-lines
returns-clause-lines c = λ scenario netlist one two end k fits built sound first second low.
    let plan = c.args.plan.now in
    let set : IsSetUp plan scenario netlist = record { is_plan = c.well_made.ensures; is_scenario = fits; is_interconnect = built; is_module = sound; known = c.ports_are_known.ensures } in
    same_lines c.taken_by_beginnings.ensures.accepted c.taken_by_beginnings.ensures.transfer plan netlist one two end (c.simulations_agree.ensures plan scenario netlist one two end set first second) k low

pub returns-clause-trace : goal.returns-clause-trace
returns-clause-trace c = λ scenario netlist one two fits built sound first second.
    let plan = c.args.plan.now in
    let set : IsSetUp plan scenario netlist = record { is_plan = c.well_made.ensures; is_scenario = fits; is_interconnect = built; is_module = sound; known = c.ports_are_known.ensures } in
    let all = c.simulations_agree.ensures plan scenario netlist first.run second.run scenario.cycles set first.simulated second.simulated in
    let lines = same_before _ _ scenario.cycles (same_lines c.taken_by_beginnings.ensures.accepted c.taken_by_beginnings.ensures.transfer plan netlist first.run second.run scenario.cycles all) in
    first.is_text ∙ ap (λ (told : List (List ℕ)). text_of (told ++ end_line scenario.cycles ∷ [])) lines ∙ sym second.is_text

pub returns-clause-counts : goal.returns-clause-counts
returns-clause-counts c = λ scenario netlist one two fits built sound first second.
    let plan = c.args.plan.now in
    let set : IsSetUp plan scenario netlist = record { is_plan = c.well_made.ensures; is_scenario = fits; is_interconnect = built; is_module = sound; known = c.ports_are_known.ensures } in
    let all = c.simulations_agree.ensures plan scenario netlist first.run second.run scenario.cycles set first.simulated second.simulated in
    let grow = c.counts_grow_by_cycles.ensures in
    first.counted
    ∙ same_counts grow.first grow.next (run_ends plan netlist first.run) (run_ends plan netlist second.run) scenario.cycles
    (same_sums c.taken_by_beginnings.ensures.accepted c.taken_by_beginnings.ensures.transfer plan netlist first.run second.run scenario.cycles all)
    ∙ sym second.counted
