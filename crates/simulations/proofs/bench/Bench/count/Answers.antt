use Rattle.std.proofs.Common.{◌≡◌, List, Some, slice_get, length, refl, ap, subst, arith}
use Rattle.benches.specs.Hosts.{BenchHostValue}
use Rattle.benches.specs.Agents.{BenchAgentValue}
use Rattle.benches.specs.Streams.{BenchStreamValue}
use Rattle.simulations.specs.Value.{value_with}
use Rattle.simulations.proofs.Slices.{room_behind_all, room_behind_one, room_behind_two}
use Rattle.simulations.proofs.bench.Bench.count.Goals as goal

pub count_all-counts-requires-clause-fits : goal.count_all-counts-requires-clause-fits
count_all-counts-requires-clause-fits c = λ h host at.
    let r = c.requires.told in
    let bench = value_with c.args.sim.now c.args.self.now in
    c.components_fit.ensures.hosts r.plan r.scenario bench.sim.netlist r.run r.cycle bench bench.sim r.set r.evaluated.under_way.components refl h host
    (subst (λ (items : List BenchHostValue). slice_get items h ≡ Some host) c.as_slice.ensures.value at)

pub count_all-counts-requires-2-clause-fits : goal.count_all-counts-requires-2-clause-fits
count_all-counts-requires-2-clause-fits c = λ a agent at.
    let r = c.requires.told in
    let bench = value_with c.args.sim.now c.args.self.now in
    c.components_fit.ensures.agents r.plan r.scenario bench.sim.netlist r.run r.cycle bench bench.sim r.set r.evaluated.under_way.components r.left refl a agent
    (subst (λ (items : List BenchAgentValue). slice_get items a ≡ Some agent) c.as_slice-2.ensures.value at)

pub count_all-requires-clause-fits : goal.count_all-requires-clause-fits
count_all-requires-clause-fits c = λ s stream at.
    let r = c.requires.told in
    let bench = value_with c.args.sim.now c.args.self.now in
    c.components_fit.ensures.streams r.plan r.scenario bench.sim.netlist r.run r.cycle bench bench.sim r.set r.evaluated.under_way.components r.left refl s stream
    (subst (λ (items : List BenchStreamValue). slice_get items s ≡ Some stream) c.as_slice-3.ensures.value at)

pub count_all-counts-requires-2-clause-room : goal.count_all-counts-requires-2-clause-room
count_all-counts-requires-2-clause-room c =
    let r = c.requires.told in
    let bench = value_with c.args.sim.now c.args.self.now in
    let all = r.evaluated.under_way.components in
    let hosts = c.components_are_few.ensures.hosts r.plan r.scenario bench.sim.netlist r.run r.cycle bench r.set all in
    let agents = c.components_are_few.ensures.agents r.plan r.scenario bench.sim.netlist r.run r.cycle bench r.set all in
    room_behind_one _ _ _ _ c.count_all-counts.ensures.room c.requires.room (omega (arith, hosts, ap length c.as_slice.ensures.value)) (omega (arith, agents, ap length c.as_slice-2.ensures.value))

pub count_all-requires-clause-room : goal.count_all-requires-clause-room
count_all-requires-clause-room c =
    let r = c.requires.told in
    let bench = value_with c.args.sim.now c.args.self.now in
    let all = r.evaluated.under_way.components in
    let hosts = c.components_are_few.ensures.hosts r.plan r.scenario bench.sim.netlist r.run r.cycle bench r.set all in
    let agents = c.components_are_few.ensures.agents r.plan r.scenario bench.sim.netlist r.run r.cycle bench r.set all in
    let streams = c.components_are_few.ensures.streams r.plan r.scenario bench.sim.netlist r.run r.cycle bench r.set all in
    room_behind_two _ _ _ _ _ _ c.count_all-counts.ensures.room c.count_all-counts-2.ensures.room c.requires.room (omega (arith, hosts, ap length c.as_slice.ensures.value))
    (omega (arith, agents, ap length c.as_slice-2.ensures.value)) (omega (arith, streams, ap length c.as_slice-3.ensures.value))

pub returns-clause-room : goal.returns-clause-room
returns-clause-room c = λ more room.
    let r = c.requires.told in
    let bench = value_with c.args.sim.now c.args.self.now in
    let all = r.evaluated.under_way.components in
    let hosts = c.components_are_few.ensures.hosts r.plan r.scenario bench.sim.netlist r.run r.cycle bench r.set all in
    let agents = c.components_are_few.ensures.agents r.plan r.scenario bench.sim.netlist r.run r.cycle bench r.set all in
    let streams = c.components_are_few.ensures.streams r.plan r.scenario bench.sim.netlist r.run r.cycle bench r.set all in
    room_behind_all _ _ _ more _ _ _ _ c.count_all-counts.ensures.room c.count_all-counts-2.ensures.room c.count_all.ensures.room room (omega (arith, hosts, ap length c.as_slice.ensures.value))
    (omega (arith, agents, ap length c.as_slice-2.ensures.value)) (omega (arith, streams, ap length c.as_slice-3.ensures.value))
