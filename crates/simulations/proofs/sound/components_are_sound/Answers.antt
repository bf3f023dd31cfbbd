use Rattle.std.proofs.Common.{List, sym, ap, subst, ◌∙◌}
use Rattle.scenario_tables.specs.Statements.{IsSourceScript, IsSinkScript}
use Rattle.scenario_tables.specs.declared.statements.Pattern.{Pattern}
use Rattle.memory_runs.specs.Views.{AgentView}
use Rattle.simulations.proofs.Ends.{agent_in_is}
use Rattle.simulations.proofs.Beside.{agent_is_an_end, beside, bounded_agent, bounded_host}
use Rattle.simulations.proofs.sound.components_are_sound.Goals as goal

pub returns-clause-hosts : goal.returns-clause-hosts
returns-clause-hosts c = λ plan scenario netlist run k bench set all h host at.
    let script = beside bench.hosts scenario.hosts h host (all.host_count ∙ sym set.is_scenario.hosts) at in
    let stands = all.hosts h host script.item at script.is in
    record {
      script = script.item;
      script_is = script.is;
      fits = set.is_scenario.at_hosts h host.stand_in.port script.item stands.of.at script.is;
      bounded = bounded_host plan.system set.is_plan.system c.ends_are_known.ensures.hosts c.proper_records_are_bounded.ensures.host h host.stand_in.port stands.of.at;
      stands = stands;
    }

pub returns-clause-agents : goal.returns-clause-agents
returns-clause-agents c = λ plan scenario netlist run k bench set all a agent at.
    let script = beside bench.agents scenario.agents a agent (all.agent_count ∙ sym set.is_scenario.agents) at in
    let stands = all.agents a agent script.item at script.is in
    let there = stands.of.at in
    record {
      script = script.item;
      script_is = script.is;
      fits = set.is_scenario.at_agents a agent.stand_in.port script.item there script.is;
      bounded = bounded_agent plan.system set.is_plan.system c.ends_are_known.ensures.agents c.proper_records_are_bounded.ensures.agent a agent.stand_in.port there;
      stands = stands;
      unread = λ silent other d. ap (λ (view : AgentView). view.signals.read d) (agent_in_is plan netlist other a agent.stand_in.port there)
          ∙ c.agents_are_commanded.ensures.unread plan.system netlist other d agent.stand_in.port.word_bytes there.end agent.stand_in.port set.known set.is_interconnect.ports
          (agent_is_an_end plan.system a there.end there.end_is) there.is silent;
    }

pub returns-clause-streams : goal.returns-clause-streams
returns-clause-streams c = λ plan scenario netlist run k bench set all s stream at.
    let statements = beside bench.streams scenario.sources s stream (all.stream_count ∙ sym set.is_scenario.sources) at in
    let script = beside bench.streams scenario.sinks s stream (all.stream_count ∙ sym set.is_scenario.sinks) at in
    let stands = all.streams s stream statements.item script.item at statements.is script.is in
    let of = stands.of in
    let link = of.link in
    record {
      statements = statements.item;
      statements_are = statements.is;
      script = script.item;
      script_is = script.is;
      source_fits = subst (λ port. IsSourceScript port statements.item) (sym of.source) (set.is_scenario.at_sources s link statements.item of.link_is statements.is);
      sink_fits = subst (λ port. IsSinkScript port stream.script) (sym of.sink) (subst (λ (p : List Pattern). IsSinkScript link.sink p) (sym of.script_is) (set.is_scenario.at_sinks s link script.item of.link_is script.is));
      soon = c.streams_show.ensures.short_latency plan s script.item stream set.is_plan of;
      stands = stands;
    }
