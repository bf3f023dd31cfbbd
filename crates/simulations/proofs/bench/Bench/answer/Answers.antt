use Rattle.std.proofs.Common.{◌≡◌, List, ◌++◌, Some, flat_map, slice_get, refl, ap, subst}
use Rattle.av_base.specs.Word.{Word}
use Rattle.memory_runs.specs.Legal.{Word as CodedWord}
use Rattle.port_rows.specs.Levels.{set_levels}
use Rattle.benches.specs.Hosts as of_hosts
use Rattle.benches.specs.Agents.{BenchAgentValue, word_answered}
use Rattle.benches.specs.Streams as of_streams
use Rattle.simulations.specs.Benches.{sets_with}
use Rattle.simulations.specs.Cycles.{first_words}
use Rattle.simulations.specs.Value.{value_with}
use Rattle.simulations.proofs.Answered.{fits_behind}
use Rattle.simulations.proofs.bench.Bench.answer.Goals as goal

pub answer_all-requires-clause-fits : goal.answer_all-requires-clause-fits
answer_all-requires-clause-fits c = λ a agent at.
    let r = c.requires in
    let bench = value_with c.args.sim.now c.args.self.now in
    c.components_fit.ensures.agents r.plan r.scenario bench.sim.netlist r.run r.cycle bench bench.sim r.set r.shown.under_way.components r.left refl a agent
    (subst (λ (items : List BenchAgentValue). slice_get items a ≡ Some agent) c.as_slice.ensures.value at)

pub answer_all-requires-clause-room : goal.answer_all-requires-clause-room
answer_all-requires-clause-room c =
    let r = c.requires in
    let bench = value_with c.args.sim.now c.args.self.now in
    let words : BenchAgentValue → CodedWord = λ agent. word_answered agent bench.sim in
    let fits = c.answers_fit.ensures r.plan r.scenario r.run r.cycle bench first_words r.set r.shown in
    let room = c.levels_have_room.ensures.all r.plan r.scenario bench.sim.netlist r.run r.cycle bench words bench.row r.set r.shown.under_way.components fits r.shown.under_way.row in
    let front = c.levels_stand.ensures.first_fits bench.row (flat_map of_hosts.sets bench.hosts ++ flat_map (sets_with words) bench.agents) (flat_map of_streams.sets bench.streams) room in
    rw c.as_slice.ensures.value (fits_behind bench.row (flat_map of_hosts.sets bench.hosts) (flat_map (sets_with words) bench.agents) front)

pub returns : goal.returns
returns c =
    let bench = value_with c.args.sim.now c.args.self.now in
    let words : BenchAgentValue → CodedWord = λ agent. word_answered agent bench.sim in
    let is : c.answer_all.new.row ≡ set_levels bench.row (flat_map (sets_with words) bench.agents) = rw c.as_slice.ensures.value at c.answer_all.ensures in
    ap (λ (row : List Word). record bench { row = row }) is
