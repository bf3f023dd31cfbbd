-- What the components of a bench set in a row: it fits, and no place is set twice.
use Rattle.std.proofs.Common.{◌≡◌, ℕ, zero, suc, List, [], ◌∷◌, ◌++◌, length, map, flat_map, slice_get, Some, None, refl, sym, ap, ap₂, subst, ◌∙◌}
use Rattle.std.proofs.lemmas.List.{length-map}
use Rattle.av_base.specs.Word.{Word}
use Rattle.histories.specs.History.{one_if}
use Rattle.iface_roles.specs.declared.records.Finished.TheVariants.{Source, Sink}
use Rattle.system_tables.specs.declared.tables.EndId.{EndId}
use Rattle.system_tables.specs.declared.tables.Connection.{Connection}
use Rattle.system_tables.specs.Tables.{SystemTable}
use Rattle.address_map.specs.Footprints.{known_at}
use Rattle.address_map.specs.Maps.{hosts_of, agents_of}
use Rattle.link_rules.specs.declared.plan_connections.StreamConnection.{StreamConnection}
use Rattle.link_rules.specs.Links.{streams_of}
use Rattle.link_rules.specs.PlanConnections.{stream_connections, IsStreamConnection}
use Rattle.memory_runs.specs.Legal.{Word as CodedWord}
use Rattle.port_tables.specs.EndFacts.{known_is}
use Rattle.port_tables.specs.Ports.{connection_ends, ends_of}
use Rattle.port_tables.specs.PortMaps.{HasKnownPorts}
use Rattle.scenario_tables.specs.declared.statements.Pattern.{Pattern}
use Rattle.port_rows.specs.Levels.{Level, AllFit, AllStand, AreApart, level_if}
use Rattle.port_rows.specs.Agents.{agent_levels, agent_places}
use Rattle.port_rows.specs.Hosts.{host_levels, host_places}
use Rattle.port_rows.specs.Sources.{source_levels}
use Rattle.port_rows.specs.Blocks.{EndLevels, AllAreEndInputs, end_levels}
use Rattle.benches.specs.Hosts.{BenchHostValue, IsHostOf}
use Rattle.benches.specs.Hosts as of_hosts
use Rattle.benches.specs.Agents.{BenchAgentValue, IsAgentOf, levels_with}
use Rattle.benches.specs.Streams.{BenchStreamValue, IsStreamOf, shown_by, is_ready}
use Rattle.benches.specs.Streams as of_streams
use Rattle.simulations.specs.Benches.{BenchValue, all_levels, sets_with}
use Rattle.simulations.proofs.Given.{AreGivenAt, IsGivenAt, host_is_given, agent_is_given, source_is_given, sink_is_given, one_given, both_given, many_given, each_alone}

-- ---- what fits

pub all_fit_both : (row : List Word) (one other : List Level) → AllFit row one → AllFit row other → AllFit row (one ++ other)
all_fit_both row [] other h g = g
all_fit_both row (first ∷ later) other h g = (h.0, all_fit_both row later other h.1 g)

pub all_fit_many : {C : Type 0} (row : List Word) (sets : C → List Level) (items : List C) → ((k : ℕ) (item : C) → slice_get items k ≡ Some item → AllFit row (sets item)) → AllFit row (flat_map sets items)
all_fit_many {C} row sets [] each = tt
all_fit_many {C} row sets (item ∷ items) each = all_fit_both row (sets item) (flat_map sets items) (each 0 item refl) (all_fit_many row sets items (λ k x at. each (suc k) x at))

-- ---- what is apart

module _ (system : SystemTable) where
  host_given : (h : ℕ) (end : EndId) (host : BenchHostValue) → slice_get (hosts_of system) h ≡ Some end → IsHostOf system h host → AreGivenAt system (end ∷ []) (of_hosts.sets host)
  host_given h end host there of =
      let same : of.at.end ≡ end = (let e : Some of.at.end ≡ Some end = sym of.at.end_is ∙ there in cc) in
      let known = subst (λ (e : EndId). known_at system e ≡ _) same of.at.is in
      let is = host_is_given system end host.stand_in.port (of_hosts.shown_by host) known in
      one_given system end (of_hosts.sets host) (subst (IsGivenAt system end) (ap (λ places. host_levels places (of_hosts.shown_by host)) (sym (of.places ∙ ap (host_places system) same))) is)

  agent_given : (words : BenchAgentValue → CodedWord) (a : ℕ) (end : EndId) (agent : BenchAgentValue) → slice_get (agents_of system) a ≡ Some end → IsAgentOf system a agent
      → AreGivenAt system (end ∷ []) (sets_with words agent)
  agent_given words a end agent there of =
      let same : of.at.end ≡ end = (let e : Some of.at.end ≡ Some end = sym of.at.end_is ∙ there in cc) in
      let known = subst (λ (e : EndId). known_at system e ≡ _) same of.at.is in
      let levels = levels_with agent (words agent) in
      let is = agent_is_given system end agent.stand_in.port levels known in
      one_given system end (sets_with words agent) (subst (IsGivenAt system end) (ap (λ places. agent_levels places levels) (sym (of.places ∙ ap (agent_places system) same))) is)

  -- the ends of a stream, by the place of its connection
  ends_at : (place : ℕ) (connection : Connection) → slice_get system.connections place ≡ Some connection → connection_ends system place ≡ connection.start ∷ connection.end ∷ []
  ends_at place connection there = rw there refl

  stream_given : (s place : ℕ) (stream : BenchStreamValue) (script : List Pattern) → ((number : ℕ) (link : StreamConnection) → slice_get (stream_connections system) number ≡ Some link → IsStreamConnection system number link)
      → slice_get (streams_of system) s ≡ Some place → IsStreamOf system s script stream → AreGivenAt system (connection_ends system place) (of_streams.sets stream)
  stream_given s place stream script links there of =
      let link = of.link in
      let is = links s link of.link_is in
      let same : link.connection ≡ place = (let e : Some link.connection ≡ Some place = sym is.place_is ∙ there in cc) in
      let ends = ends_at link.connection is.connection is.connection_is ∙ ap₂ (λ (a b : EndId). a ∷ b ∷ []) is.start is.end in
      let source = source_is_given system link.source_end link.source (shown_by stream) (known_is system link.source_end (Source link.source) is.source) in
      let sink = sink_is_given system link.sink_end link.sink (one_if (is_ready stream)) (known_is system link.sink_end (Sink link.sink) is.sink) in
      let at_source = one_given system link.source_end (source_levels stream.places (shown_by stream))
      (subst (IsGivenAt system link.source_end) (ap (λ places. source_levels places (shown_by stream)) (sym of.places)) source) in
      let at_sink = one_given system link.sink_end (level_if stream.ready_place (one_if (is_ready stream)))
      (subst (IsGivenAt system link.sink_end) (ap (λ place. level_if place (one_if (is_ready stream))) (sym of.ready_place)) sink) in
      subst (λ (es : List EndId). AreGivenAt system es (of_streams.sets stream)) (sym ends ∙ ap (connection_ends system) same)
      (both_given system (link.source_end ∷ []) (link.sink_end ∷ []) (source_levels stream.places (shown_by stream)) (level_if stream.ready_place (one_if (is_ready stream))) at_source at_sink)

-- the components of a bench are those of a system
pub record AreOf (system : SystemTable) (bench : BenchValue) : Type 0 where
  pub host_count : length bench.hosts ≡ length (hosts_of system)
  pub agent_count : length bench.agents ≡ length (agents_of system)
  pub stream_count : length bench.streams ≡ length (streams_of system)
  pub hosts : (h : ℕ) (host : BenchHostValue) → slice_get bench.hosts h ≡ Some host → IsHostOf system h host
  pub agents : (a : ℕ) (agent : BenchAgentValue) → slice_get bench.agents a ≡ Some agent → IsAgentOf system a agent
  pub streams : (s : ℕ) (stream : BenchStreamValue) → slice_get bench.streams s ≡ Some stream → (script : List Pattern) × IsStreamOf system s script stream

abbrev pub EndsAreApart : Type 0
EndsAreApart = (system : SystemTable) (ends : List EndLevels) → HasKnownPorts system → map (λ (given : EndLevels). given.end) ends ≡ ends_of system → AllAreEndInputs system ends → AreApart (flat_map (end_levels system) ends)

abbrev pub LinksAreNumbered : SystemTable → Type 0
LinksAreNumbered system = (number : ℕ) (link : StreamConnection) → slice_get (stream_connections system) number ≡ Some link → IsStreamConnection system number link

-- whatever the words of the agents are, no place is set twice
pub all_apart : (system : SystemTable) (bench : BenchValue) (words : BenchAgentValue → CodedWord) → EndsAreApart → LinksAreNumbered system → HasKnownPorts system → AreOf system bench → AreApart (all_levels bench words)
all_apart system bench words law links ports are =
    let hosts : AreGivenAt system (flat_map (λ (e : EndId). e ∷ []) (hosts_of system)) (flat_map of_hosts.sets bench.hosts) =
    many_given system (λ (e : EndId). e ∷ []) of_hosts.sets (hosts_of system) bench.hosts are.host_count (λ h end host there at. host_given system h end host there (are.hosts h host at)) in
    let agents : AreGivenAt system (flat_map (λ (e : EndId). e ∷ []) (agents_of system)) (flat_map (sets_with words) bench.agents) =
    many_given system (λ (e : EndId). e ∷ []) (sets_with words) (agents_of system) bench.agents are.agent_count (λ a end agent there at. agent_given system words a end agent there (are.agents a agent at)) in
    let streams : AreGivenAt system (flat_map (connection_ends system) (streams_of system)) (flat_map of_streams.sets bench.streams) =
    many_given system (connection_ends system) of_streams.sets (streams_of system) bench.streams are.stream_count
    (λ s place stream there at. let of = are.streams s stream at in stream_given system s place stream of.0 links there of.1) in
    let memory = both_given system _ _ _ _ hosts agents in
    let all = both_given system _ _ _ _ memory streams in
    let ends : map (λ (given : EndLevels). given.end) all.given ≡ ends_of system =
    all.ends_are ∙ ap₂ (λ (x y : List EndId). x ++ y ++ flat_map (connection_ends system) (streams_of system)) (each_alone (hosts_of system)) (each_alone (agents_of system)) in
    subst AreApart (sym all.levels_are) (law system all.given ports ends all.inputs)

-- ---- what stands

abbrev pub FrontStands : Type 0
FrontStands = (row : List Word) (one other : List Level) → AllStand row (one ++ other) → AllStand row one

abbrev pub BackStands : Type 0
BackStands = (row : List Word) (one other : List Level) → AllStand row (one ++ other) → AllStand row other

pub one_of_many_stands : {C : Type 0} (front : FrontStands) (back : BackStands) (row : List Word) (sets : C → List Level) (items : List C) (k : ℕ) (item : C) → slice_get items k ≡ Some item
    → AllStand row (flat_map sets items) → AllStand row (sets item)
one_of_many_stands {C} front back row sets [] k item at h = absurd (let n : None ≡ Some item = at in cc)
one_of_many_stands {C} front back row sets (first ∷ items) zero item at h =
    let same : first ≡ item = cc in
    subst (λ (x : C). AllStand row (sets x)) same (front row (sets first) (flat_map sets items) h)
one_of_many_stands {C} front back row sets (first ∷ items) (suc k) item at h =
    one_of_many_stands front back row sets items k item at (back row (sets first) (flat_map sets items) h)

-- the parts of what all components set
pub hosts_stand : (front : FrontStands) (row : List Word) (bench : BenchValue) (words : BenchAgentValue → CodedWord) → AllStand row (all_levels bench words) → AllStand row (flat_map of_hosts.sets bench.hosts)
hosts_stand front row bench words h =
    front row (flat_map of_hosts.sets bench.hosts) (flat_map (sets_with words) bench.agents)
    (front row (flat_map of_hosts.sets bench.hosts ++ flat_map (sets_with words) bench.agents) (flat_map of_streams.sets bench.streams) h)

pub agents_stand : (front : FrontStands) (back : BackStands) (row : List Word) (bench : BenchValue) (words : BenchAgentValue → CodedWord) → AllStand row (all_levels bench words) → AllStand row (flat_map (sets_with words) bench.agents)
agents_stand front back row bench words h =
    back row (flat_map of_hosts.sets bench.hosts) (flat_map (sets_with words) bench.agents)
    (front row (flat_map of_hosts.sets bench.hosts ++ flat_map (sets_with words) bench.agents) (flat_map of_streams.sets bench.streams) h)

pub streams_stand : (back : BackStands) (row : List Word) (bench : BenchValue) (words : BenchAgentValue → CodedWord) → AllStand row (all_levels bench words) → AllStand row (flat_map of_streams.sets bench.streams)
streams_stand back row bench words h = back row (flat_map of_hosts.sets bench.hosts ++ flat_map (sets_with words) bench.agents) (flat_map of_streams.sets bench.streams) h

-- as many streams as links
pub stream_count_is : (system : SystemTable) → map (λ (link : StreamConnection). link.connection) (stream_connections system) ≡ streams_of system → length (stream_connections system) ≡ length (streams_of system)
stream_count_is system numbers = sym (length-map (stream_connections system) (λ (link : StreamConnection). link.connection)) ∙ ap length numbers
