use Rattle.std.proofs.Common.{◌≡◌, List, Some, slice_get, length, refl, sym, ap, subst, ◌∙◌}
use Rattle.benches.specs.Hosts.{BenchHostValue}
use Rattle.benches.specs.Agents.{BenchAgentValue}
use Rattle.benches.specs.Streams.{BenchStreamValue}
use Rattle.simulations.specs.Benches.{BenchValue}
use Rattle.simulations.specs.Value.{value_with}
use Rattle.simulations.proofs.Slices.{refilled, under_way_with}
use Rattle.simulations.proofs.bench.Bench.end_cycle.Goals as goal

pub end_cycle_of_all-requires-clause-fits : goal.end_cycle_of_all-requires-clause-fits
end_cycle_of_all-requires-clause-fits c = λ h host at.
    let r = c.requires in
    let bench = value_with c.args.sim.now c.args.self.now in
    c.components_fit.ensures.hosts r.plan r.scenario bench.sim.netlist r.run r.cycle bench bench.sim r.set r.evaluated.under_way.components refl h host
    (subst (λ (items : List BenchHostValue). slice_get items h ≡ Some host) c.as_mut_slice.ensures.value at)

pub end_cycle_of_all-requires-2-clause-fits : goal.end_cycle_of_all-requires-2-clause-fits
end_cycle_of_all-requires-2-clause-fits c = λ a agent at.
    let r = c.requires in
    let bench = value_with c.args.sim.now c.args.self.now in
    c.components_fit.ensures.agents r.plan r.scenario bench.sim.netlist r.run r.cycle bench bench.sim r.set r.evaluated.under_way.components r.left refl a agent
    (subst (λ (items : List BenchAgentValue). slice_get items a ≡ Some agent) c.as_mut_slice-2.ensures.value at)

pub end_cycle_of_all-requires-3-clause-fits : goal.end_cycle_of_all-requires-3-clause-fits
end_cycle_of_all-requires-3-clause-fits c = λ s stream at.
    let r = c.requires in
    let bench = value_with c.args.sim.now c.args.self.now in
    c.components_fit.ensures.streams r.plan r.scenario bench.sim.netlist r.run r.cycle bench bench.sim r.set r.evaluated.under_way.components r.left refl s stream
    (subst (λ (items : List BenchStreamValue). slice_get items s ≡ Some stream) c.as_mut_slice-3.ensures.value at)

pub returns : goal.returns
returns c = λ plan scenario run k sim set left is edge.
    let bench = value_with c.args.sim.now c.args.self.now in
    let after : BenchValue = record {
      sim = sim;
      row = bench.row;
      hosts = c.end_cycle_of_all.new.components;
      agents = c.end_cycle_of_all-2.new.components;
      streams = c.end_cycle_of_all-3.new.components;
    } in
    let hosts = c.end_cycle_of_all.new.components in
    let agents = c.end_cycle_of_all-2.new.components in
    let streams = c.end_cycle_of_all-3.new.components in
    under_way_with plan scenario _ _ after.sim after.row hosts _ agents _ streams _
    (refilled _ hosts c.args.self.now.hosts.items (c.end_cycle_of_all.ensures.count ∙ c.as_mut_slice.ensures.len))
    (refilled _ agents c.args.self.now.agents.items (c.end_cycle_of_all-2.ensures.count ∙ c.as_mut_slice-2.ensures.len))
    (refilled _ streams c.args.self.now.streams.items (c.end_cycle_of_all-3.ensures.count ∙ c.as_mut_slice-3.ensures.len))
    (c.benches_go_on.ensures plan scenario run k bench after set is
    (record {
      host_count = c.end_cycle_of_all.ensures.count ∙ ap length c.as_mut_slice.ensures.value;
      agent_count = c.end_cycle_of_all-2.ensures.count ∙ ap length c.as_mut_slice-2.ensures.value;
      stream_count = c.end_cycle_of_all-3.ensures.count ∙ ap length c.as_mut_slice-3.ensures.value;
      hosts = λ h old new before now. c.end_cycle_of_all.ensures.each h old new (subst (λ (items : List BenchHostValue). slice_get items h ≡ Some old) (sym c.as_mut_slice.ensures.value) before) now;
      agents = λ a old new before now. c.end_cycle_of_all-2.ensures.each a old new (subst (λ (items : List BenchAgentValue). slice_get items a ≡ Some old) (sym c.as_mut_slice-2.ensures.value) before) now;
      streams = λ s old new before now. c.end_cycle_of_all-3.ensures.each s old new (subst (λ (items : List BenchStreamValue). slice_get items s ≡ Some old) (sym c.as_mut_slice-3.ensures.value) before) now;
    }) edge.netlist (edge.stands run k is.under_way.stands) refl)
