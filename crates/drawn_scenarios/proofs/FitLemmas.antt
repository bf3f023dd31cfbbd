-- The scenario that is drawn for a plan fits it.
use Rattle.std.proofs.Common.{◌≡◌, ℕ, ◌+◌, ◌*◌, ◌<◌, ◌≤◌, List, length, refl, sym, ap, subst, ◌∙◌}
use Rattle.std.specs.Prelude.{slice_get, Option, Some, None}
use Rattle.std.specs.List.{range_with_len}
use Rattle.std.specs.Option.{option_map}
use Rattle.std.proofs.lemmas.List.{length-map}
use Rattle.std.proofs.lemmas.List.FromFn.{length-range_with_len}
use Rattle.std.proofs.lemmas.Option.{same_Some, none-some, slice_get-map, slice_get_within}
use Rattle.iface_roles.specs.declared.records.AgentPort.{AgentPort}
use Rattle.iface_roles.specs.declared.records.HostPort.{HostPort}
use Rattle.iface_roles.specs.declared.records.Finished.TheVariants.{Host, Agent}
use Rattle.address_map.specs.Footprints.{known_at}
use Rattle.address_map.specs.Maps.{hosts_of, agents_of}
use Rattle.link_rules.specs.declared.plan_connections.MemoryConnection.{MemoryConnection}
use Rattle.link_rules.specs.declared.plan_connections.StreamConnection.{StreamConnection}
use Rattle.link_rules.specs.PlanConnections.{memory_connections, stream_connections, IsMemoryConnection}
use Rattle.link_rules.specs.Plans.{PlanTable, IsPlan}
use Rattle.scenario_tables.specs.declared.statements.HostStatement.{HostStatement}
use Rattle.scenario_tables.specs.declared.statements.AgentStatement.{AgentStatement}
use Rattle.scenario_tables.specs.declared.statements.SourceStatement.{SourceStatement}
use Rattle.scenario_tables.specs.declared.statements.Pattern.{Pattern}
use Rattle.scenario_tables.specs.declared.scenario.Scenario.{Scenario}
use Rattle.scenario_tables.specs.Statements.{IsHostScript, IsAgentScript, IsSourceScript, IsSinkScript}
use Rattle.scenario_tables.specs.Scenarios.{IsHostAt, IsAgentAt, IsScenario}
use Rattle.drawn_scenarios.specs.Draws.{for_each}
use Rattle.drawn_scenarios.specs.Hosts.{host_script, links_of, IsReached}
use Rattle.drawn_scenarios.specs.Agents.{agent_script, agent_script_as}
use Rattle.drawn_scenarios.specs.Streams.{stream_script, stream_scripts, IsDrawable}
use Rattle.drawn_scenarios.specs.Drawn.{host_script_at, host_scripts, agent_script_at, agent_scripts, scenario_for, drawn_scenario}
use Rattle.drawn_scenarios.proofs.DrawLemmas.{each_count, each_at, range_at}
use Rattle.drawn_scenarios.proofs.LinkLemmas.{known_is, own_link}
use Rattle.drawn_scenarios.proofs.HostFits as host_fits
use Rattle.drawn_scenarios.proofs.AgentFits as agent_fits
use Rattle.drawn_scenarios.proofs.StreamFits.{source_fits, sink_fits}

-- what is drawn piece by piece is the scenario
pub scenario_is : (plan : PlanTable) (number lane cycles : ℕ) (hosts : List (List HostStatement)) (at_agents : ℕ) (agents : List (List AgentStatement)) (at_streams : ℕ) (streams : List (List SourceStatement) × List (List Pattern)) (to : ℕ)
    → (hosts, at_agents) ≡ host_scripts plan.system (8 * number + lane) → (agents, at_streams) ≡ agent_scripts plan.system at_agents → (streams, to) ≡ stream_scripts (stream_connections plan.system) at_streams
    → ◌≡◌ {A = Scenario} (record { cycles = cycles; hosts = hosts; agents = agents; sources = streams.0; sinks = streams.1 }) (drawn_scenario plan number lane cycles)
unfolding drawn_scenario scenario_for
scenario_is plan number lane cycles hosts at_agents agents at_streams streams to hosts_are agents_are streams_are =
    let system = plan.system in
    let P : (List (List SourceStatement) × List (List Pattern)) × ℕ → Scenario = λ s. record { cycles = cycles; hosts = hosts; agents = agents; sources = s.0.0; sinks = s.0.1 } in
    let Q : List (List AgentStatement) × ℕ → Scenario = λ a. let s = stream_scripts (stream_connections system) a.1 in record { cycles = cycles; hosts = hosts; agents = a.0; sources = s.0.0; sinks = s.0.1 } in
    let R : List (List HostStatement) × ℕ → Scenario = λ h. let a = agent_scripts system h.1 in let s = stream_scripts (stream_connections system) a.1 in record { cycles = cycles; hosts = h.0; agents = a.0; sources = s.0.0; sinks = s.0.1 } in
    ap P streams_are ∙ ap Q agents_are ∙ ap R hosts_are

host_is : (a b : HostPort) → Host a ≡ Host b → a ≡ b
host_is a b e = cc

module _ (plan : PlanTable) (is_plan : IsPlan plan)
    (numbered : (k : ℕ) (link : MemoryConnection) → slice_get (memory_connections plan.system) k ≡ Some link → IsMemoryConnection plan.system link)
    (reached : (host k : ℕ) (link : MemoryConnection) → slice_get (links_of plan.system host) k ≡ Some link → IsReached link)
    (drawable : (k : ℕ) (link : StreamConnection) → slice_get (stream_connections plan.system) k ≡ Some link → IsDrawable link.source) where
  -- the links of a host show its record
  link_of_host : (h : ℕ) (port : HostPort) → IsHostAt plan.system h port → (k : ℕ) (link : MemoryConnection) → slice_get (links_of plan.system h) k ≡ Some link → (link.host ≡ port) × IsReached link
  link_of_host h port at k link there =
      let own = own_link plan.system h k link there in
      let l = numbered own.0 link own.1 in
      let start : l.connection.start ≡ at.end = same_Some _ _ (sym l.host_is ∙ ap (slice_get (hosts_of plan.system)) own.2 ∙ at.end_is) in
      let known : Host link.host ≡ Host port = sym (known_is plan.system l.connection.start (Host link.host) l.host) ∙ ap (known_at plan.system) start ∙ at.is in
      (host_is link.host port known, reached h k link there)

  at_hosts : (state h : ℕ) (port : HostPort) (script : List HostStatement) → IsHostAt plan.system h port → slice_get (host_scripts plan.system state).0 h ≡ Some script → IsHostScript port script
  unfolding host_scripts
  at_hosts state h port script at there =
      let count = length (hosts_of plan.system) in
      let drawn = each_at (host_script_at plan.system) (range_with_len 0 count) state h script there in
      let below : h < length (hosts_of plan.system) = slice_get_within (hosts_of plan.system) h at.end at.end_is in
      let same : drawn.item ≡ h = same_Some drawn.item h (sym drawn.at ∙ range_at count h below) in
      let P : List HostStatement → Type 0 = IsHostScript port in
      let Q : ℕ → Type 0 = λ n. IsHostScript port (host_script (links_of plan.system n) drawn.state).0 in
      subst P (sym drawn.is) (subst Q (sym same) (host_fits.script_fits port (links_of plan.system h) drawn.state (link_of_host h port at)))

  at_agents : (state a : ℕ) (port : AgentPort) (script : List AgentStatement) → IsAgentAt plan.system a port → slice_get (agent_scripts plan.system state).0 a ≡ Some script → IsAgentScript port script
  unfolding agent_scripts
  at_agents state a port script at there =
      let drawn = each_at (agent_script_at plan.system) (agents_of plan.system) state a script there in
      let same : drawn.item ≡ at.end = same_Some drawn.item at.end (sym drawn.at ∙ at.end_is) in
      let known : known_at plan.system drawn.item ≡ Agent port = ap (known_at plan.system) same ∙ at.is in
      let P : List AgentStatement → Type 0 = IsAgentScript port in
      let is : script ≡ (agent_script port drawn.state).0 = drawn.is ∙ ap (λ f. (agent_script_as f drawn.state).0) known in
      subst P (sym is) (agent_fits.script_fits port drawn.state)

  -- a script that stands apart is that of some pair
  from_pair : {X : Type 0} (part : List SourceStatement × List Pattern → X) (s : ℕ) (script : X) (pairs : List (List SourceStatement × List Pattern)) (o : Option (List SourceStatement × List Pattern)) → slice_get pairs s ≡ o → option_map part o ≡ Some script
      → (pair : List SourceStatement × List Pattern) × (slice_get pairs s ≡ Some pair) × (part pair ≡ script)
  from_pair part s script pairs (Some pair) at e = (pair, at, same_Some (part pair) script e)
  from_pair part s script pairs None at e = absurd (none-some script e)

  at_sources : (state s : ℕ) (link : StreamConnection) (script : List SourceStatement) → slice_get (stream_connections plan.system) s ≡ Some link → slice_get (stream_scripts (stream_connections plan.system) state).0.0 s ≡ Some script → IsSourceScript link.source script
  unfolding stream_scripts stream_script
  at_sources state s link script at there =
      let links = stream_connections plan.system in
      let pairs = (for_each stream_script links state).0 in
      let part : List SourceStatement × List Pattern → List SourceStatement = λ pair. pair.0 in
      let pair = from_pair part s script pairs (slice_get pairs s) refl (sym (slice_get-map part pairs s) ∙ there) in
      let drawn = each_at stream_script links state s pair.0 pair.1 in
      let same : drawn.item ≡ link = same_Some drawn.item link (sym drawn.at ∙ at) in
      let is : script ≡ (stream_script link drawn.state).0.0 = sym pair.2 ∙ ap part drawn.is ∙ ap (λ l. (stream_script l drawn.state).0.0) same in
      let P : List SourceStatement → Type 0 = IsSourceScript link.source in
      subst P (sym is) (source_fits link.source drawn.state (drawable s link at).bounded)

  at_sinks : (state s : ℕ) (link : StreamConnection) (script : List Pattern) → slice_get (stream_connections plan.system) s ≡ Some link → slice_get (stream_scripts (stream_connections plan.system) state).0.1 s ≡ Some script → IsSinkScript link.sink script
  unfolding stream_scripts stream_script
  at_sinks state s link script at there =
      let links = stream_connections plan.system in
      let pairs = (for_each stream_script links state).0 in
      let part : List SourceStatement × List Pattern → List Pattern = λ pair. pair.1 in
      let pair = from_pair part s script pairs (slice_get pairs s) refl (sym (slice_get-map part pairs s) ∙ there) in
      let drawn = each_at stream_script links state s pair.0 pair.1 in
      let same : drawn.item ≡ link = same_Some drawn.item link (sym drawn.at ∙ at) in
      let is : script ≡ (stream_script link drawn.state).0.1 = sym pair.2 ∙ ap part drawn.is ∙ ap (λ l. (stream_script l drawn.state).0.1) same in
      let P : List Pattern → Type 0 = IsSinkScript link.sink in
      subst P (sym is) (sink_fits link.sink _)

  host_count : (state : ℕ) → length (host_scripts plan.system state).0 ≡ length (hosts_of plan.system)
  unfolding host_scripts
  host_count state = each_count (host_script_at plan.system) _ state ∙ length-range_with_len 0 (length (hosts_of plan.system))

  agent_count : (state : ℕ) → length (agent_scripts plan.system state).0 ≡ length (agents_of plan.system)
  unfolding agent_scripts
  agent_count state = each_count (agent_script_at plan.system) _ state

  source_count : (state : ℕ) → length (stream_scripts (stream_connections plan.system) state).0.0 ≡ length (stream_connections plan.system)
  unfolding stream_scripts
  source_count state = length-map _ _ ∙ each_count stream_script _ state

  sink_count : (state : ℕ) → length (stream_scripts (stream_connections plan.system) state).0.1 ≡ length (stream_connections plan.system)
  unfolding stream_scripts
  sink_count state = length-map _ _ ∙ each_count stream_script _ state

  pub drawn_fits : (number lane cycles : ℕ) → 1 ≤ cycles → cycles ≤ 65536 → IsScenario plan.system (drawn_scenario plan number lane cycles)
  unfolding drawn_scenario scenario_for
  drawn_fits number lane cycles some few = record {
    some = some;
    few = few;
    hosts = host_count _;
    agents = agent_count _;
    sources = source_count _;
    sinks = sink_count _;
    at_hosts = at_hosts _;
    at_agents = at_agents _;
    at_sources = at_sources _;
    at_sinks = at_sinks _;
  }
