use Rattle.std.proofs.Common.{◌≡◌, ◌<◌, ℕ, refl, sym, ap, subst, ◌∙◌}
use Rattle.memory_runs.specs.Beginnings.{AgentsAgree}
use Rattle.memory_runs.specs.Views.{levels_at}
use Rattle.memory_runs.specs.Legal.{Word as CodedWord}
use Rattle.cycle_sim.specs.Sims.{present}
use Rattle.histories.specs.History.{one_if}
use Rattle.link_rules.specs.declared.plan_connections.StreamConnection.{StreamConnection}
use Rattle.interconnect.specs.Memory.{host_in, agent_in}
use Rattle.stand_ins.specs.Steps.{all_steps, shown}
use Rattle.port_rows.specs.Agents.{AreShownBy}
use Rattle.simulated_runs.specs.Ends.{stream_view}
use Rattle.stand_ins.specs.Sources.{Shows, beat_shown, keeping_at}
use Rattle.benches.specs.Agents.{commanded, levels_with}
use Rattle.stand_ins.specs.Sinks.{ready_in}
use Rattle.simulations.specs.Cycles.{run_with}
use Rattle.simulations.proofs.Beside.{has, inside}
use Rattle.simulations.proofs.Ends.{one_host, one_agent}
use Rattle.simulations.proofs.Present.{given_row, is_present}
use Rattle.simulations.proofs.Showing.{agent_shows, host_shows, seen_at, sink_shows, some_same, source_shows}
use Rattle.simulations.proofs.cycles.cycles_are_evaluated.Goals as goal

pub returns : goal.returns
returns c = λ plan scenario run k bench words earlier set is answered same.
    let netlist = bench.sim.netlist in
    let now = run_with run k bench in
    let all = is.under_way.components in
    let given = given_row plan.system netlist run k bench.sim bench.row set.is_module set.is_interconnect.ports is.is_run is.inputs in
    let memory = c.rows_are_shown.ensures.memory plan scenario netlist run now k k bench words bench.row bench.sim set all is.fits is.stand given refl (is_present run k bench.sim) in
    let streams = c.rows_are_shown.ensures.streams plan scenario netlist run now k bench words bench.row bench.sim set all is.fits is.stand given refl (is_present run k bench.sim) in
    record {
      under_way = is.under_way;
      stepped = is.stepped;
      is_run = is.is_run;
      shown = record {
        hosts = λ h port script at there.
            let host = has bench.hosts h (subst (λ n. h < n) (sym all.host_count) (inside _ h at.end at.end_is)) in
            let sound = c.components_are_sound.ensures.hosts plan scenario netlist run k bench set all h host.item host.is in
            let own = host.item.stand_in.port in
            let view = host_in plan netlist now h in
            let left = sound.stands.left ∙ c.states_by_beginnings.ensures.hosts (all_steps own sound.script) (host_in plan netlist run h) view k (c.earlier_cycles_stay.ensures.hosts plan netlist run k (present bench.sim) h) in
            host_shows view k own port sound.script script (one_host plan.system h own port sound.stands.of.at at) (some_same sound.script script (sym sound.script_is ∙ there))
            ((memory.hosts h host.item host.is).signals ∙ ap (shown own) left);
        agents = λ a port script at there.
            let agent = has bench.agents a (subst (λ n. a < n) (sym all.agent_count) (inside _ a at.end at.end_is)) in
            let sound = c.components_are_sound.ensures.agents plan scenario netlist run k bench set all a agent.item agent.is in
            let own = agent.item.stand_in.port in
            let view = agent_in plan netlist now a in
            let time = sound.stands.cycle in
            let agree = subst (λ (d : ℕ). AgentsAgree (agent_in plan netlist run a) view d) (sym time) (c.earlier_cycles_stay.ensures.agents plan netlist run k (present bench.sim) a) in
            let stands = c.states_by_beginnings.ensures.agents sound.script agent.item.stand_in (agent_in plan netlist run a) view agree sound.stands.stands in
            let is_seen = memory.agents a agent.item agent.is in
            let commands : commanded agent.item earlier ≡ levels_at view.signals agent.item.stand_in.cycle =
            same a agent.item agent.is ∙ sym is_seen.commanded_is ∙ ap (λ (d : ℕ). levels_at view.signals d) (sym time) in
            let shows = subst (λ (d : ℕ). AreShownBy view d (levels_with agent.item (words agent.item))) (sym time) is_seen.shown in
            let answers = subst (λ (answer : CodedWord). AreShownBy view agent.item.stand_in.cycle (levels_with agent.item answer)) (answered a agent.item agent.is) shows in
            agent_shows view own port sound.script script agent.item.stand_in.cycle k (one_agent plan.system a own port sound.stands.of.at at) (some_same sound.script script (sym sound.script_is ∙ there)) time
            (c.agents_show.ensures.as_defined sound.script view earlier agent.item stands commands answers);
        sources = λ s link script at there.
            let stream = has bench.streams s (subst (λ n. s < n) (sym all.stream_count) (inside _ s link at)) in
            let sound = c.components_are_sound.ensures.streams plan scenario netlist run k bench set all s stream.item stream.is in
            let of = sound.stands.of in
            let time = sound.stands.cycle in
            let one_link : of.link ≡ link = some_same of.link link (sym of.link_is ∙ at) in
            let one_script = some_same sound.statements script (sym sound.statements_are ∙ there) in
            let before = stream_view plan.system netlist run of.link.source_end in
            let view = stream_view plan.system netlist now of.link.source_end in
            let keeping = sound.stands.keeping
            ∙ c.states_by_beginnings.ensures.sources stream.item.source sound.statements before view k (c.earlier_cycles_stay.ensures.streams plan netlist run k (present bench.sim) of.link.source_end)
            ∙ ap (λ (d : ℕ). keeping_at stream.item.source sound.statements view d) (sym time) in
            let beat = c.streams_show.ensures.as_defined stream.item sound.statements view sound.source_fits sound.soon keeping in
            let shows = subst (Shows view stream.item.cycle) beat (streams s stream.item stream.is sound.script of).shows in
            subst (λ (l : StreamConnection). Shows (stream_view plan.system netlist now l.source_end) k (beat_shown l.source script (stream_view plan.system netlist now l.source_end) k)) one_link
            (source_shows view stream.item.source of.link.source sound.statements script stream.item.cycle k of.source one_script time shows);
        sinks = λ s link script at there.
            let stream = has bench.streams s (subst (λ n. s < n) (sym all.stream_count) (inside _ s link at)) in
            let sound = c.components_are_sound.ensures.streams plan scenario netlist run k bench set all s stream.item stream.is in
            let of = sound.stands.of in
            let one_link : of.link ≡ link = some_same of.link link (sym of.link_is ∙ at) in
            let one_script = of.script_is ∙ some_same sound.script script (sym sound.script_is ∙ there) in
            subst (λ (l : StreamConnection). (stream_view plan.system netlist now l.sink_end).ready k ≡ one_if (ready_in script k)) one_link
            (sink_shows (stream_view plan.system netlist now of.link.sink_end) stream.item.script script stream.item.cycle k one_script sound.stands.cycle (streams s stream.item stream.is sound.script of).ready);
      };
      hosts = memory.hosts;
      agents = λ a agent at.
          let sound = c.components_are_sound.ensures.agents plan scenario netlist run k bench set all a agent at in
          let there = memory.agents a agent at in
          seen_at (agent_in plan netlist now a) k bench.sim agent (words agent) sound.stands.cycle there.commanded_is there.shown there.granted;
      streams = streams;
    }
