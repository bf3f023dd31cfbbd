use Rattle.std.proofs.Common.{◌≡◌, ℕ, List, Some, slice_get, ◌++◌, flat_map, refl, ap, subst, ◌∙◌}
use Rattle.std.specs.Bool.{OnTrue, OnFalse}
use Rattle.av_files.specs.Outside.{with_more}
use Rattle.benches.specs.Writing.{text_of, HoldsPart}
use Rattle.benches.specs.Hosts.{BenchHostValue}
use Rattle.benches.specs.Hosts as of_hosts
use Rattle.benches.specs.Agents.{BenchAgentValue}
use Rattle.benches.specs.Agents as of_agents
use Rattle.benches.specs.Streams.{BenchStreamValue}
use Rattle.benches.specs.Streams as of_streams
use Rattle.cycle_sim.specs.Sims.{SimValue}
use Rattle.simulations.specs.Value.{value_with}
use Rattle.simulations.proofs.Written.{all_if, back_held, both_held, front_held, part_if, rose_since}
use Rattle.simulations.proofs.bench.Bench.tell.Goals as goal

pub tell_all-requires-clause-fits : goal.tell_all-requires-clause-fits
tell_all-requires-clause-fits g c = λ h host at.
    let r = c.requires in
    let bench = value_with c.args.sim.now c.args.self.now in
    c.components_fit.ensures.hosts r.plan r.scenario bench.sim.netlist r.run r.cycle bench bench.sim r.set r.evaluated.under_way.components refl h host
    (subst (λ (items : List BenchHostValue). slice_get items h ≡ Some host) c.as_slice.ensures.value at)

pub tell_all-requires-2-clause-fits : goal.tell_all-requires-2-clause-fits
tell_all-requires-2-clause-fits g c = λ a agent at.
    let r = c.requires in
    let bench = value_with c.args.sim.now c.args.self.now in
    c.components_fit.ensures.agents r.plan r.scenario bench.sim.netlist r.run r.cycle bench bench.sim r.set r.evaluated.under_way.components r.left refl a agent
    (subst (λ (items : List BenchAgentValue). slice_get items a ≡ Some agent) c.as_slice-2.ensures.value at)

pub tell_all-requires-3-clause-fits : goal.tell_all-requires-3-clause-fits
tell_all-requires-3-clause-fits g c = λ s stream at.
    let r = c.requires in
    let bench = value_with c.args.sim.now c.args.self.now in
    c.components_fit.ensures.streams r.plan r.scenario bench.sim.netlist r.run r.cycle bench bench.sim r.set r.evaluated.under_way.components r.left refl s stream
    (subst (λ (items : List BenchStreamValue). slice_get items s ≡ Some stream) c.as_slice-3.ensures.value at)

abbrev host_lines : SimValue → ℕ → List BenchHostValue → List (List ℕ)
host_lines sim cycle hosts = flat_map (λ (host : BenchHostValue). of_hosts.tells host sim cycle) hosts

abbrev agent_lines : SimValue → ℕ → List BenchAgentValue → List (List ℕ)
agent_lines sim cycle agents = flat_map (λ (agent : BenchAgentValue). of_agents.tells agent sim cycle) agents

abbrev stream_lines : SimValue → ℕ → List BenchStreamValue → List (List ℕ)
stream_lines sim cycle streams = flat_map (λ (stream : BenchStreamValue). of_streams.tells stream sim cycle) streams

pub returns-then-not-tell_all-clause-part : goal.returns-then-not-tell_all-clause-part
returns-then-not-tell_all-clause-part g c =
    let bench = value_with c.args.sim.now c.args.self.now in
    let hosts = host_lines bench.sim c.args.cycle bench.hosts in
    let agents = agent_lines bench.sim c.args.cycle bench.agents in
    let own = subst (λ (items : List BenchHostValue). HoldsPart (g.K.Sink.held c.args.sink.now) (g.K.Sink.held c.tell_all.new.sink) (text_of (host_lines bench.sim c.args.cycle items))) c.as_slice.ensures.value c.if-not-tell_all.ensures.part in
    front_held _ _ (hosts ++ agents) (stream_lines bench.sim c.args.cycle bench.streams) (front_held _ _ hosts agents own)

pub returns-then-not-tell_all-2-clause-part : goal.returns-then-not-tell_all-2-clause-part
returns-then-not-tell_all-2-clause-part g c =
    let bench = value_with c.args.sim.now c.args.self.now in
    let hosts = host_lines bench.sim c.args.cycle bench.hosts in
    let agents = agent_lines bench.sim c.args.cycle bench.agents in
    let first = c.if-not-tell_all.ensures.all ∙ ap (λ (items : List BenchHostValue). with_more (g.K.Sink.held c.args.sink.now) (text_of (host_lines bench.sim c.args.cycle items))) c.as_slice.ensures.value in
    let own = subst (λ (items : List BenchAgentValue). HoldsPart (g.K.Sink.held c.tell_all.new.sink) (g.K.Sink.held c.tell_all-2.new.sink) (text_of (agent_lines bench.sim c.args.cycle items))) c.as_slice-2.ensures.value c.if-not-tell_all-2.ensures.part in
    front_held _ _ (hosts ++ agents) (stream_lines bench.sim c.args.cycle bench.streams) (back_held _ _ _ hosts agents first own)

pub returns-then-not-tell_all-2-clause-rose : goal.returns-then-not-tell_all-2-clause-rose
returns-then-not-tell_all-2-clause-rose g c = rose_since _ _ _ c.tell_all.ensures.grows c.if-not-tell_all-2.ensures.rose

pub returns-clause-all : goal.returns-clause-all
returns-clause-all g c =
    let bench = value_with c.args.sim.now c.args.self.now in
    let hosts = host_lines bench.sim c.args.cycle bench.hosts in
    let agents = agent_lines bench.sim c.args.cycle bench.agents in
    let streams = stream_lines bench.sim c.args.cycle bench.streams in
    let first = c.if-not-tell_all.ensures.all ∙ ap (λ (items : List BenchHostValue). with_more (g.K.Sink.held c.args.sink.now) (text_of (host_lines bench.sim c.args.cycle items))) c.as_slice.ensures.value in
    let second = c.if-not-tell_all-2.ensures.all ∙ ap (λ (items : List BenchAgentValue). with_more (g.K.Sink.held c.tell_all.new.sink) (text_of (agent_lines bench.sim c.args.cycle items))) c.as_slice-2.ensures.value in
    let both = both_held _ _ _ hosts agents first second in
    let last = subst (λ (items : List BenchStreamValue). OnTrue c.tell_all-3.result (g.K.Sink.held c.tell_all-3.new.sink ≡ with_more (g.K.Sink.held c.tell_all-2.new.sink) (text_of (stream_lines bench.sim c.args.cycle items))))
    c.as_slice-3.ensures.value c.tell_all-3.ensures.all in
    all_if c.tell_all-3.result _ _ _ (hosts ++ agents) streams both last

pub returns-clause-part : goal.returns-clause-part
returns-clause-part g c =
    let bench = value_with c.args.sim.now c.args.self.now in
    let hosts = host_lines bench.sim c.args.cycle bench.hosts in
    let agents = agent_lines bench.sim c.args.cycle bench.agents in
    let streams = stream_lines bench.sim c.args.cycle bench.streams in
    let first = c.if-not-tell_all.ensures.all ∙ ap (λ (items : List BenchHostValue). with_more (g.K.Sink.held c.args.sink.now) (text_of (host_lines bench.sim c.args.cycle items))) c.as_slice.ensures.value in
    let second = c.if-not-tell_all-2.ensures.all ∙ ap (λ (items : List BenchAgentValue). with_more (g.K.Sink.held c.tell_all.new.sink) (text_of (agent_lines bench.sim c.args.cycle items))) c.as_slice-2.ensures.value in
    let both = both_held _ _ _ hosts agents first second in
    let last = subst (λ (items : List BenchStreamValue). OnFalse c.tell_all-3.result (HoldsPart (g.K.Sink.held c.tell_all-2.new.sink) (g.K.Sink.held c.tell_all-3.new.sink) (text_of (stream_lines bench.sim c.args.cycle items))))
    c.as_slice-3.ensures.value c.tell_all-3.ensures.part in
    part_if c.tell_all-3.result _ _ _ (hosts ++ agents) streams both last
