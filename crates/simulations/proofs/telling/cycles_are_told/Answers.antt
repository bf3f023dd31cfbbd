use Rattle.std.proofs.Common.{◌≡◌, ℕ, List, ◌++◌, length, sym, ap, ap₂, subst, ◌∙◌, arith}
use Rattle.histories.specs.History.{numbers, one_if}
use Rattle.address_map.specs.Maps.{hosts_of, agents_of}
use Rattle.link_rules.specs.declared.plan_connections.StreamConnection.{StreamConnection}
use Rattle.link_rules.specs.PlanConnections.{stream_connections}
use Rattle.cycle_sim.specs.Sims.{present}
use Rattle.memory_runs.specs.Beginnings.{AgentsAgree}
use Rattle.memory_runs.specs.Legal.{gives_word}
use Rattle.stream_runs.specs.View.{is_high}
use Rattle.port_tables.specs.Ports.{name_at}
use Rattle.interconnect.specs.Memory.{host_in, agent_in}
use Rattle.interconnect.specs.Streams.{dropped_signal}
use Rattle.simulated_runs.specs.Ends.{stream_view}
use Rattle.trace_lines.specs.Told.{HostEnd, StreamEnds, told_of_host, told_of_agent, told_of_stream}
use Rattle.trace_lines.specs.Sums.{beats_taken_in, symbols_delivered_in}
use Rattle.benches.specs.Hosts.{BenchHostValue}
use Rattle.benches.specs.Hosts as of_hosts
use Rattle.benches.specs.Agents.{BenchAgentValue}
use Rattle.benches.specs.Agents as of_agents
use Rattle.benches.specs.Streams.{BenchStreamValue}
use Rattle.benches.specs.Streams as of_streams
use Rattle.simulations.specs.Cycles.{run_with}
use Rattle.simulations.specs.Traces.{agent_end, host_end, stream_ends}
use Rattle.simulations.proofs.TellLemmas.{host_end_is, agent_end_is, stream_ends_are, told_end}
use Rattle.simulations.proofs.Showing.{some_same}
use Rattle.simulations.proofs.Told.{flat_beside, length-numbers, numbered, same_counts, sum_beside, sum_of_none}
use Rattle.simulations.proofs.telling.cycles_are_told.Goals as goal

pub returns-clause-lines : goal.returns-clause-lines
returns-clause-lines c = λ plan scenario run k bench set is.
    let netlist = bench.sim.netlist in
    let now = run_with run k bench in
    let system = plan.system in
    let all = is.under_way.components in
    let sim = bench.sim in
    let hosts = flat_beside (told_of_host k) (host_end plan netlist now) (λ (host : BenchHostValue). of_hosts.tells host sim k) (numbers 0 (length (hosts_of system))) bench.hosts
    (all.host_count ∙ sym (length-numbers 0 (length (hosts_of system)))) (λ h n host there at. (
    let number : n ≡ h = numbered (length (hosts_of system)) h n there in
    let sound = c.components_are_sound.ensures.hosts plan scenario netlist run k bench set all h host at in
    let view = host_in plan netlist now h in
    ap (λ (m : ℕ). told_of_host k (host_end plan netlist now m)) number ∙ ap (told_of_host k) (host_end_is plan netlist now h host sound.stands.of)
    ∙ sym (c.hosts_are_told.ensures.lines view k sim host (is.hosts h host at)))) in
    let agents = flat_beside (told_of_agent k) (agent_end plan netlist now) (λ (agent : BenchAgentValue). of_agents.tells agent sim k) (numbers 0 (length (agents_of system))) bench.agents
    (all.agent_count ∙ sym (length-numbers 0 (length (agents_of system)))) (λ a n agent there at. (
    let number : n ≡ a = numbered (length (agents_of system)) a n there in
    let sound = c.components_are_sound.ensures.agents plan scenario netlist run k bench set all a agent at in
    let time = sound.stands.cycle in
    let view = agent_in plan netlist now a in
    let agree = subst (λ (d : ℕ). AgentsAgree (agent_in plan netlist run a) view d) (sym time) (c.earlier_cycles_stay.ensures.agents plan netlist run k (present sim) a) in
    let stands = c.states_by_beginnings.ensures.agents sound.script agent.stand_in (agent_in plan netlist run a) view agree sound.stands.stands in
    let lines = c.agents_are_told.ensures.lines sound.script view sim agent stands (is.agents a agent at) in
    ap (λ (m : ℕ). told_of_agent k (agent_end plan netlist now m)) number ∙ ap (told_of_agent k) (agent_end_is plan netlist now a agent sound.stands.of)
    ∙ sym (subst (λ (d : ℕ). of_agents.tells agent sim d ≡ told_of_agent d (told_end agent view)) time lines))) in
    let streams = flat_beside (told_of_stream k) (stream_ends plan netlist now) (λ (stream : BenchStreamValue). of_streams.tells stream sim k) (stream_connections system) bench.streams all.stream_count (λ s link stream there at. (
    let sound = c.components_are_sound.ensures.streams plan scenario netlist run k bench set all s stream at in
    let of = sound.stands.of in
    let time = sound.stands.cycle in
    let one_link : link ≡ of.link = some_same link of.link (sym there ∙ of.link_is) in
    let source = stream_view system netlist now of.link.source_end in
    let sink = stream_view system netlist now of.link.sink_end in
    let dropped = dropped_signal netlist now (name_at system of.link.sink_end) in
    let lines = c.streams_are_told.ensures.lines source sink dropped sim stream (is.streams s stream at sound.script of) in
    ap (λ (l : StreamConnection). told_of_stream k (stream_ends plan netlist now l)) one_link ∙ ap (told_of_stream k) (stream_ends_are plan netlist now s sound.script stream of)
    ∙ sym (subst (λ (d : ℕ). of_streams.tells stream sim d ≡ told_of_stream d (of_streams.ends_of_bench stream source sink dropped)) time lines))) in
    ap₂ (λ (x y : List (List ℕ)). x ++ y) (ap₂ (λ (x y : List (List ℕ)). x ++ y) hosts agents) streams

pub returns-clause-counted : goal.returns-clause-counted
returns-clause-counted c = λ plan scenario run k bench set is.
    let netlist = bench.sim.netlist in
    let now = run_with run k bench in
    let system = plan.system in
    let all = is.under_way.components in
    let sim = bench.sim in
    let given = sum_beside (λ (host : HostEnd). one_if (gives_word host.side host.view k)) (host_end plan netlist now) (λ (host : BenchHostValue). (of_hosts.counts host sim).answered)
    (numbers 0 (length (hosts_of system))) bench.hosts (all.host_count ∙ sym (length-numbers 0 (length (hosts_of system)))) (λ h n host there at. (
    let number : n ≡ h = numbered (length (hosts_of system)) h n there in
    let sound = c.components_are_sound.ensures.hosts plan scenario netlist run k bench set all h host at in
    ap (λ (m : ℕ). one_if (gives_word (host_end plan netlist now m).side (host_end plan netlist now m).view k)) number
    ∙ ap (λ (end : HostEnd). one_if (gives_word end.side end.view k)) (host_end_is plan netlist now h host sound.stands.of)
    ∙ sym (c.hosts_are_told.ensures.counted (host_in plan netlist now h) k sim host (is.hosts h host at)))) in
    let taken = sum_beside (beats_taken_in k) (agent_end plan netlist now) (λ (agent : BenchAgentValue). (of_agents.counts agent sim).taken) (numbers 0 (length (agents_of system))) bench.agents
    (all.agent_count ∙ sym (length-numbers 0 (length (agents_of system)))) (λ a n agent there at. (
    let number : n ≡ a = numbered (length (agents_of system)) a n there in
    let sound = c.components_are_sound.ensures.agents plan scenario netlist run k bench set all a agent at in
    let time = sound.stands.cycle in
    let view = agent_in plan netlist now a in
    let agree = subst (λ (d : ℕ). AgentsAgree (agent_in plan netlist run a) view d) (sym time) (c.earlier_cycles_stay.ensures.agents plan netlist run k (present sim) a) in
    let stands = c.states_by_beginnings.ensures.agents sound.script agent.stand_in (agent_in plan netlist run a) view agree sound.stands.stands in
    let counted = c.agents_are_told.ensures.counted sound.script view sim agent stands (is.agents a agent at) in
    ap (λ (m : ℕ). beats_taken_in k (agent_end plan netlist now m)) number ∙ ap (beats_taken_in k) (agent_end_is plan netlist now a agent sound.stands.of)
    ∙ sym (subst (λ (d : ℕ). (of_agents.counts agent sim).taken ≡ beats_taken_in d (told_end agent view)) time counted))) in
    let delivered = sum_beside (symbols_delivered_in k) (stream_ends plan netlist now) (λ (stream : BenchStreamValue). (of_streams.counts stream sim).delivered) (stream_connections system) bench.streams all.stream_count (λ s link stream there at. (
    let sound = c.components_are_sound.ensures.streams plan scenario netlist run k bench set all s stream at in
    let of = sound.stands.of in
    let one_link : link ≡ of.link = some_same link of.link (sym there ∙ of.link_is) in
    let source = stream_view system netlist now of.link.source_end in
    let sink = stream_view system netlist now of.link.sink_end in
    let dropped = dropped_signal netlist now (name_at system of.link.sink_end) in
    let counted = c.streams_are_told.ensures.counted source sink dropped sim stream (is.streams s stream at sound.script of) in
    ap (λ (l : StreamConnection). symbols_delivered_in k (stream_ends plan netlist now l)) one_link ∙ ap (symbols_delivered_in k) (stream_ends_are plan netlist now s sound.script stream of)
    ∙ sym (subst (λ (d : ℕ). (of_streams.counts stream sim).delivered ≡ symbols_delivered_in d (of_streams.ends_of_bench stream source sink dropped)) sound.stands.cycle counted.0))) in
    let lost = sum_beside (λ (stream : StreamEnds). one_if (is_high stream.dropped k)) (stream_ends plan netlist now) (λ (stream : BenchStreamValue). (of_streams.counts stream sim).dropped) (stream_connections system) bench.streams all.stream_count (λ s link stream there at. (
    let sound = c.components_are_sound.ensures.streams plan scenario netlist run k bench set all s stream at in
    let of = sound.stands.of in
    let one_link : link ≡ of.link = some_same link of.link (sym there ∙ of.link_is) in
    let source = stream_view system netlist now of.link.source_end in
    let sink = stream_view system netlist now of.link.sink_end in
    let dropped = dropped_signal netlist now (name_at system of.link.sink_end) in
    let counted = c.streams_are_told.ensures.counted source sink dropped sim stream (is.streams s stream at sound.script of) in
    ap (λ (l : StreamConnection). one_if (is_high (stream_ends plan netlist now l).dropped k)) one_link
    ∙ sym (subst (λ (d : ℕ). (of_streams.counts stream sim).dropped ≡ one_if (is_high dropped d)) sound.stands.cycle counted.1))) in
    let none_of_hosts = sum_of_none bench.hosts in
    let none_of_agents = sum_of_none bench.agents in
    let none_of_streams = sum_of_none bench.streams in
    same_counts _ _ _ _ _ _ _ _ (taken ∙ omega arith) (given ∙ omega arith) (delivered ∙ omega arith) (lost ∙ omega arith)
