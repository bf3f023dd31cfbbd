use Rattle.std.proofs.Common.{◌≡◌, ◌<◌, ◌+◌, ℕ, suc, List, sym, ap, subst, ◌∙◌, arith}
use Rattle.netlist.specs.Netlists.{Netlist}
use Rattle.cycle_sim.specs.Sims.{present, widths_of}
use Rattle.cycle_sim.specs.Standing.{StandsFor}
use Rattle.memory_runs.specs.Beginnings.{AgentsAgree}
use Rattle.interconnect.specs.Memory.{host_in, agent_in}
use Rattle.interconnect.specs.Streams.{dropped_signal}
use Rattle.link_rules.specs.declared.plan_connections.StreamConnection.{StreamConnection}
use Rattle.port_tables.specs.Ports.{name_at}
use Rattle.stand_ins.specs.Steps.{all_steps}
use Rattle.stand_ins.specs.Sources.{keeping_at}
use Rattle.scenario_tables.specs.declared.statements.HostStatement.{HostStatement}
use Rattle.scenario_tables.specs.declared.statements.AgentStatement.{AgentStatement}
use Rattle.scenario_tables.specs.declared.statements.SourceStatement.{SourceStatement}
use Rattle.scenario_tables.specs.declared.statements.Pattern.{Pattern}
use Rattle.simulated_runs.specs.Ends.{stream_view}
use Rattle.simulated_runs.specs.Simulated.{IsSimulated}
use Rattle.benches.specs.Hosts.{BenchHostValue}
use Rattle.benches.specs.Hosts as of_hosts
use Rattle.benches.specs.Streams.{BenchStreamValue}
use Rattle.benches.specs.Streams as of_streams
use Rattle.simulations.specs.Benches.{AgentStands, ComponentsStand, HostStands, StreamStands}
use Rattle.simulations.specs.Cycles.{run_with}
use Rattle.simulations.proofs.Beside.{has, inside}
use Rattle.simulations.proofs.Showing.{some_same}
use Rattle.simulations.proofs.cycles.benches_go_on.Goals as goal

pub returns : goal.returns
returns c = λ plan scenario run k bench after set is ended same stands row.
    let netlist = bench.sim.netlist in
    let sim = bench.sim in
    let now = run_with run k bench in
    let all = is.under_way.components in
    let next : k + 1 ≡ suc k = omega arith in
    let standing : ComponentsStand plan scenario netlist now (suc k) after = record {
      host_count = ended.host_count ∙ all.host_count;
      agent_count = ended.agent_count ∙ all.agent_count;
      stream_count = ended.stream_count ∙ all.stream_count;
      hosts = λ h host script at there.
          let old = has bench.hosts h (subst (λ (n : ℕ). h < n) ended.host_count (inside after.hosts h host at)) in
          let sound = c.components_are_sound.ensures.hosts plan scenario netlist run k bench set all h old.item old.is in
          let steps = all_steps old.item.stand_in.port sound.script in
          let view = host_in plan netlist now h in
          let left = sound.stands.left ∙ c.states_by_beginnings.ensures.hosts steps (host_in plan netlist run h) view k (c.earlier_cycles_stay.ensures.hosts plan netlist run k (present sim) h) in
          let behind : HostStands plan netlist now (suc k) h sound.script (of_hosts.behind old.item sim) = record {
            of = c.hosts_are_told.ensures.stays plan.system h old.item sim sound.stands.of;
            left = c.hosts_are_told.ensures.left view k sim old.item steps (is.hosts h old.item old.is) left;
          } in
          subst (λ (statements : List HostStatement). HostStands plan netlist now (suc k) h statements host) (some_same sound.script script (sym sound.script_is ∙ there))
          (subst (λ (x : BenchHostValue). HostStands plan netlist now (suc k) h sound.script x) (sym (ended.hosts h old.item host old.is at)) behind);
      agents = λ a agent script at there.
          let old = has bench.agents a (subst (λ (n : ℕ). a < n) ended.agent_count (inside after.agents a agent at)) in
          let sound = c.components_are_sound.ensures.agents plan scenario netlist run k bench set all a old.item old.is in
          let follows = ended.agents a old.item agent old.is at in
          let view = agent_in plan netlist now a in
          let time = sound.stands.cycle in
          let agree = subst (λ (d : ℕ). AgentsAgree (agent_in plan netlist run a) view d) (sym time) (c.earlier_cycles_stay.ensures.agents plan netlist run k (present sim) a) in
          let before = c.states_by_beginnings.ensures.agents sound.script old.item.stand_in (agent_in plan netlist run a) view agree sound.stands.stands in
          let later = follows.stand_in.cycle in
          let behind : AgentStands plan netlist now (suc k) scenario.cycles a sound.script agent = record {
            of = c.agents_are_told.ensures.stays plan.system a old.item agent sim sound.stands.of follows;
            cycle = later ∙ omega arith;
            cycles_are = follows.stand_in.cycles ∙ sound.stands.cycles_are;
            bytes = sound.stands.bytes;
            stands = c.agents_are_told.ensures.goes_on sound.script view sim old.item agent before (is.agents a old.item old.is) follows;
          } in
          subst (λ (statements : List AgentStatement). AgentStands plan netlist now (suc k) scenario.cycles a statements agent) (some_same sound.script script (sym sound.script_is ∙ there)) behind;
      streams = λ s stream statements script at here there.
          let old = has bench.streams s (subst (λ (n : ℕ). s < n) ended.stream_count (inside after.streams s stream at)) in
          let sound = c.components_are_sound.ensures.streams plan scenario netlist run k bench set all s old.item old.is in
          let of = sound.stands.of in
          let time = sound.stands.cycle in
          let source = stream_view plan.system netlist now of.link.source_end in
          let sink = stream_view plan.system netlist now of.link.sink_end in
          let dropped = dropped_signal netlist now (name_at plan.system of.link.sink_end) in
          let kept = sound.stands.keeping
          ∙ c.states_by_beginnings.ensures.sources old.item.source sound.statements (stream_view plan.system netlist run of.link.source_end) source k (c.earlier_cycles_stay.ensures.streams plan netlist run k (present sim) of.link.source_end)
          ∙ ap (λ (d : ℕ). keeping_at old.item.source sound.statements source d) (sym time) in
          let keeping = c.streams_are_told.ensures.keeping source sink dropped sim old.item sound.statements sound.soon (is.streams s old.item old.is sound.script of) kept in
          let after_of = c.streams_are_told.ensures.stays plan.system s sound.script old.item sim of in
          let one_link : of.link ≡ after_of.link = some_same of.link after_of.link (sym of.link_is ∙ after_of.link_is) in
          let later : old.item.cycle + 1 ≡ suc k = omega arith in
          let behind : StreamStands plan netlist now (suc k) s sound.statements sound.script (of_streams.behind old.item sim) = record {
            of = after_of;
            cycle = later;
            keeping = subst (λ (l : StreamConnection). (of_streams.behind old.item sim).keeping ≡ keeping_at old.item.source sound.statements (stream_view plan.system netlist now l.source_end) (suc k)) one_link
                (keeping ∙ ap (λ (d : ℕ). keeping_at old.item.source sound.statements source d) later);
          } in
          subst (λ (p : List Pattern). StreamStands plan netlist now (suc k) s statements p stream) (some_same sound.script script (sym sound.script_is ∙ there))
          (subst (λ (st : List SourceStatement). StreamStands plan netlist now (suc k) s st sound.script stream) (some_same sound.statements statements (sym sound.statements_are ∙ here))
          (subst (λ (x : BenchStreamValue). StreamStands plan netlist now (suc k) s sound.statements sound.script x) (sym (ended.streams s old.item stream old.is at)) behind));
    } in
    record {
      simulated = subst (λ (n : Netlist). IsSimulated plan scenario n now (suc k)) (sym same) (c.simulations_go_on.ensures plan scenario netlist run k (present sim) is.under_way.simulated is.is_run is.shown);
      stands = subst (StandsFor after.sim now) next stands;
      row = ap widths_of row ∙ is.under_way.row;
      components = subst (λ (n : Netlist). ComponentsStand plan scenario n now (suc k) after) (sym same) standing;
    }
