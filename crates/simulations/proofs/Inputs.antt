-- The inputs of a module in a cycle of two runs, by what both show at the interfaces of a plan.
use Rattle.std.proofs.Common.{◌≡◌, ℕ, ◌-◌, ◌^◌, true, false, List, [], ◌∷◌, ◌++◌, flat_map, map, slice_get, Option, Some, inl, inr, refl, sym, ap, ap₂, subst, ◌∙◌}
use Rattle.std.specs.List.{AllByRecursion}
use Rattle.std.specs.Option.{option_map}
use Rattle.std.proofs.lemmas.Bool.{false≢true}
use Rattle.iface_roles.specs.declared.records.HostPort.{HostPort}
use Rattle.iface_roles.specs.declared.records.AgentPort.{AgentPort}
use Rattle.iface_roles.specs.declared.records.StreamPort.{StreamPort}
use Rattle.iface_roles.specs.declared.records.Finished.{Finished}
use Rattle.iface_roles.specs.declared.records.Finished.TheVariants.{Host, Agent, Source, Sink}
use Rattle.system_tables.specs.declared.tables.EndId.{EndId}
use Rattle.system_tables.specs.declared.tables.Connection.{Connection}
use Rattle.system_tables.specs.Tables.{SystemTable}
use Rattle.address_map.specs.Footprints.{known_at}
use Rattle.address_map.specs.Maps.{hosts_of, agents_of}
use Rattle.link_rules.specs.declared.plan_connections.StreamConnection.{StreamConnection}
use Rattle.link_rules.specs.Links.{streams_of}
use Rattle.link_rules.specs.PlanConnections.{stream_connections, IsStreamConnection, IsHostEnd, IsAgentEnd}
use Rattle.link_rules.specs.Plans.{PlanTable}
use Rattle.netlist.specs.declared.line.PortLine.{PortLine}
use Rattle.netlist.specs.Netlists.{Netlist, IsInputPort}
use Rattle.netlist.specs.Runs.{Cycle, Run, cycle_of, IsValuation, SameInputs, Always}
use Rattle.netlist.specs.Signals.{port_net, port_named, port_value}
use Rattle.stream_runs.specs.Ends.{signal_or}
use Rattle.stream_runs.specs.View.{Beat, beat_at}
use Rattle.memory_runs.specs.Views.{Levels, HostView, AgentView, levels_at}
use Rattle.port_tables.specs.declared.roles.PortRole.{PortRole}
use Rattle.port_tables.specs.declared.roles.RolePort.{RolePort}
use Rattle.port_tables.specs.EndFacts.{known_is}
use Rattle.port_tables.specs.Lists.{Among, at_among, among_append, among_flat_map, among_map}
use Rattle.port_tables.specs.PortMaps.{HasKnownPorts}
use Rattle.port_tables.specs.Ports.{EndName, port_name, name_at, role_word, is_output, starts, may_have, host_ports, agent_ports, ports_of, connection_ends, ends_of}
use Rattle.interconnect.specs.Memory.{level, host_view, agent_view, host_in, agent_in}
use Rattle.scenario_tables.specs.Scenarios.{IsHostAt, IsAgentAt}
use Rattle.simulated_runs.specs.Ends.{stream_view}
use Rattle.simulations.proofs.Ends.{host_in_is, agent_in_is}

among_all : {X : Type 0} (P : X → Type 0) (xs : List X) → AllByRecursion P xs → (x : X) → Among x xs → P x
among_all {X} P [] all x h = absurd h
among_all {X} P (y ∷ ys) all x (inl e) = subst P e all.0
among_all {X} P (y ∷ ys) all x (inr h) = among_all P ys all.1 x h

no_input : {A : Type 0} → true ≡ false → A
no_input {A} is = absurd (false≢true (sym is))

-- ---- what is shown in the cycle

-- an agent gives the same
pub record GivesSame (one two : AgentView) (c : ℕ) : Type 0 where
  pub waitrequest : one.waitrequest c ≡ two.waitrequest c
  pub readdatavalid : one.readdatavalid c ≡ two.readdatavalid c
  pub readdata : one.readdata c ≡ two.readdata c
  pub response : one.response c ≡ two.response c

-- and so do all hosts, agents, sources and sinks
pub record AllGiveSame (plan : PlanTable) (netlist : Netlist) (one two : Run) (c : ℕ) : Type 0 where
  pub hosts : (h : ℕ) (port : HostPort) → IsHostAt plan.system h port → levels_at (host_in plan netlist one h).signals c ≡ levels_at (host_in plan netlist two h).signals c
  pub agents : (a : ℕ) (port : AgentPort) → IsAgentAt plan.system a port → GivesSame (agent_in plan netlist one a) (agent_in plan netlist two a) c
  pub valid : (s : ℕ) (link : StreamConnection) → slice_get (stream_connections plan.system) s ≡ Some link
      → (stream_view plan.system netlist one link.source_end).valid c ≡ (stream_view plan.system netlist two link.source_end).valid c
  pub beat : (s : ℕ) (link : StreamConnection) → slice_get (stream_connections plan.system) s ≡ Some link
      → beat_at (stream_view plan.system netlist one link.source_end) c ≡ beat_at (stream_view plan.system netlist two link.source_end) c
  pub ready : (s : ℕ) (link : StreamConnection) → slice_get (stream_connections plan.system) s ≡ Some link
      → (stream_view plan.system netlist one link.sink_end).ready c ≡ (stream_view plan.system netlist two link.sink_end).ready c

-- ---- at the ports of an end

module _ (netlist : Netlist) (one two : Run) (c : ℕ) where
  abbrev RoleAlike : EndName → PortRole → Type 0
  RoleAlike name role = (absent : ℕ) × (level netlist one name absent (role_word role) c ≡ level netlist two name absent (role_word role) c)

  -- the inputs at an end of which so much is known
  abbrev InputsAlike : EndName → Finished → Type 0
  InputsAlike name there = (p : RolePort) → Among p (may_have there) → is_output (starts there) p.role ≡ false → RoleAlike name p.role

  host_inputs : (name : EndName) (host : HostPort) → levels_at (host_view netlist one host.word_bytes name).signals c ≡ levels_at (host_view netlist two host.word_bytes name).signals c
      → InputsAlike name (Host host)
  host_inputs name host levels =
      among_all (λ (p : RolePort). is_output true p.role ≡ false → RoleAlike name p.role) (host_ports host) (
        λ _. (0, ap (λ (l : Levels). l.address) levels),
        (
          λ _. (0, ap (λ (l : Levels). l.read) levels),
          (
            λ _. (0, ap (λ (l : Levels). l.write) levels),
            (
              λ _. (0, ap (λ (l : Levels). l.word) levels),
              (
                λ _. (2 ^ host.word_bytes - 1, ap (λ (l : Levels). l.enables) levels),
                (
                  λ _. (1, ap (λ (l : Levels). l.count) levels),
                  (no_input, (no_input, (no_input, (no_input, tt)))),
                ),
              ),
            ),
          ),
        ),
      )

  agent_inputs : (name : EndName) (agent : AgentPort) → GivesSame (agent_view netlist one agent.word_bytes name) (agent_view netlist two agent.word_bytes name) c → InputsAlike name (Agent agent)
  agent_inputs name agent gives =
      among_all (λ (p : RolePort). is_output false p.role ≡ false → RoleAlike name p.role) (agent_ports agent)
      (no_input, (no_input, (no_input, (no_input, (no_input, (no_input, (λ _. (0, gives.waitrequest), (λ _. (0, gives.readdata), (λ _. (0, gives.readdatavalid), (λ _. (0, gives.response), (no_input, tt)))))))))))

  source_inputs : (system : SystemTable) (end : EndId) (source : StreamPort) → (stream_view system netlist one end).valid c ≡ (stream_view system netlist two end).valid c
      → beat_at (stream_view system netlist one end) c ≡ beat_at (stream_view system netlist two end) c → InputsAlike (name_at system end) (Source source)
  source_inputs system end source valid beat =
      let at = λ (f : Beat → ℕ). ap f beat in
      among_all (λ (p : RolePort). is_output true p.role ≡ false → RoleAlike (name_at system end) p.role) (may_have (Source source))
      (no_input, (λ _. (0, valid), (λ _. (0, at (λ b. b.word)), (λ _. (0, at (λ b. b.channel)), (λ _. (0, at (λ b. b.error)), (λ _. (0, at (λ b. b.first)), (λ _. (0, at (λ b. b.last)), (λ _. (0, at (λ b. b.empty)), tt))))))))

  sink_inputs : (system : SystemTable) (end : EndId) (sink : StreamPort) → (stream_view system netlist one end).ready c ≡ (stream_view system netlist two end).ready c
      → InputsAlike (name_at system end) (Sink sink)
  sink_inputs system end sink ready =
      among_all (λ (p : RolePort). is_output false p.role ≡ false → RoleAlike (name_at system end) p.role) (may_have (Sink sink))
      (λ _. (1, ready), (no_input, (no_input, (no_input, (no_input, (no_input, (no_input, (no_input, (no_input, tt)))))))))

  -- the level of a role is the value at its port
  at_net : (run : Run) (absent k : ℕ) (port : Option ℕ) → port ≡ Some k → signal_or absent (option_map (λ (p : ℕ). λ (d : ℕ). port_value netlist run d p) port) c ≡ run.net c (port_net netlist k)
  at_net run absent k port e = rw e refl

-- ---- at all ports

abbrev pub InputsAreNets : Netlist → Type 0
InputsAreNets netlist = (k w : ℕ) → IsInputPort netlist.ports k w → Always netlist (λ (cycle : Cycle). cycle.net (port_net netlist k) ≡ cycle.input k)

abbrev pub HostsAreKnown : SystemTable → Type 0
HostsAreKnown system = (h : ℕ) (end : EndId) → slice_get (hosts_of system) h ≡ Some end → IsHostEnd system end

abbrev pub AgentsAreKnown : SystemTable → Type 0
AgentsAreKnown system = (a : ℕ) (end : EndId) → slice_get (agents_of system) a ≡ Some end → IsAgentEnd system end

abbrev pub StreamsAreNumbered : SystemTable → Type 0
StreamsAreNumbered system = map (λ (link : StreamConnection). link.connection) (stream_connections system) ≡ streams_of system

abbrev pub LinksAreKnown : SystemTable → Type 0
LinksAreKnown system = (s : ℕ) (link : StreamConnection) → slice_get (stream_connections system) s ≡ Some link → IsStreamConnection system s link

module _ (plan : PlanTable) (netlist : Netlist) (one two : Run) (c : ℕ) (hosts : HostsAreKnown plan.system) (agents : AgentsAreKnown plan.system) (numbered : StreamsAreNumbered plan.system)
    (links : LinksAreKnown plan.system) (give : AllGiveSame plan netlist one two c) where
  abbrev EndAlike : EndId → Type 0
  EndAlike end = InputsAlike netlist one two c (name_at plan.system end) (known_at plan.system end)

  host_alike : (end : EndId) → Among end (hosts_of plan.system) → EndAlike end
  host_alike end among =
      let place = at_among (hosts_of plan.system) end among in
      let host = hosts place.place end place.is in
      let known = known_is plan.system end (Host host.host) host.is in
      let at : IsHostAt plan.system place.place host.host = record { end = end; end_is = place.is; is = known } in
      let levels : HostView → Levels = λ view. levels_at view.signals c in
      let first = ap levels (host_in_is plan netlist one place.place host.host at) in
      let second = ap levels (host_in_is plan netlist two place.place host.host at) in
      subst (InputsAlike netlist one two c (name_at plan.system end)) (sym known)
      (host_inputs netlist one two c (name_at plan.system end) host.host (sym first ∙ give.hosts place.place host.host at ∙ second))

  agent_alike : (end : EndId) → Among end (agents_of plan.system) → EndAlike end
  agent_alike end among =
      let place = at_among (agents_of plan.system) end among in
      let agent = agents place.place end place.is in
      let known = known_is plan.system end (Agent agent.agent) agent.is in
      let at : IsAgentAt plan.system place.place agent.agent = record { end = end; end_is = place.is; is = known } in
      let first = agent_in_is plan netlist one place.place agent.agent at in
      let second = agent_in_is plan netlist two place.place agent.agent at in
      subst (InputsAlike netlist one two c (name_at plan.system end)) (sym known)
      (agent_inputs netlist one two c (name_at plan.system end) agent.agent
      (subst (λ (view : AgentView). GivesSame view (agent_view netlist two agent.agent.word_bytes (name_at plan.system end)) c) first
      (subst (λ (view : AgentView). GivesSame (agent_in plan netlist one place.place) view c) second (give.agents place.place agent.agent at))))

  ends_at : (place : ℕ) (connection : Connection) → slice_get plan.system.connections place ≡ Some connection → connection_ends plan.system place ≡ connection.start ∷ connection.end ∷ []
  ends_at place connection there = rw there refl

  ends_of_link : (s : ℕ) (link : StreamConnection) → IsStreamConnection plan.system s link → connection_ends plan.system link.connection ≡ link.source_end ∷ link.sink_end ∷ []
  ends_of_link s link is = ends_at link.connection is.connection is.connection_is ∙ ap₂ (λ (a b : EndId). a ∷ b ∷ []) is.start is.end

  at_link : (s : ℕ) (link : StreamConnection) (at : slice_get (stream_connections plan.system) s ≡ Some link) (end : EndId) → Among end (link.source_end ∷ link.sink_end ∷ []) → EndAlike end
  at_link s link at end (inl e) =
      let known = known_is plan.system link.source_end (Source link.source) (links s link at).source in
      subst EndAlike e (subst (InputsAlike netlist one two c (name_at plan.system link.source_end)) (sym known)
      (source_inputs netlist one two c plan.system link.source_end link.source (give.valid s link at) (give.beat s link at)))
  at_link s link at end (inr (inl e)) =
      let known = known_is plan.system link.sink_end (Sink link.sink) (links s link at).sink in
      subst EndAlike e (subst (InputsAlike netlist one two c (name_at plan.system link.sink_end)) (sym known)
      (sink_inputs netlist one two c plan.system link.sink_end link.sink (give.ready s link at)))
  at_link s link at end (inr (inr none)) = absurd none

  stream_alike : (end : EndId) → Among end (flat_map (connection_ends plan.system) (streams_of plan.system)) → EndAlike end
  stream_alike end among =
      let place = among_flat_map (connection_ends plan.system) (streams_of plan.system) end among in
      let link = among_map (λ (l : StreamConnection). l.connection) (stream_connections plan.system) place.from (subst (Among place.from) (sym numbered) place.among) in
      let number = at_among (stream_connections plan.system) link.from link.among in
      let own : Among end (connection_ends plan.system link.from.connection) = subst (λ (n : ℕ). Among end (connection_ends plan.system n)) (sym link.makes) place.makes in
      at_link number.place link.from number.is end (subst (Among end) (ends_of_link number.place link.from (links number.place link.from number.is)) own)

  end_alike : (end : EndId) → Among end (ends_of plan.system) → EndAlike end
  end_alike end among =
      elim (among_append (hosts_of plan.system ++ agents_of plan.system) (flat_map (connection_ends plan.system) (streams_of plan.system)) end among) [
        | inl memory ↦ elim (among_append (hosts_of plan.system) (agents_of plan.system) end memory) [
          | inl host ↦ host_alike end host
          | inr agent ↦ agent_alike end agent
        ]
        | inr stream ↦ stream_alike end stream
      ]

  pub same_inputs : netlist.ports ≡ ports_of plan.system → HasKnownPorts plan.system → InputsAreNets netlist → IsValuation netlist (cycle_of one c) → IsValuation netlist (cycle_of two c)
      → SameInputs netlist (cycle_of one c) (cycle_of two c)
  same_inputs ports known nets valued_one valued_two k w is =
      let owned = known.owner k is.port (subst (λ (lines : List PortLine). slice_get lines k ≡ Some is.port) ports is.is) in
      let name = name_at plan.system owned.end in
      let word = role_word owned.role_port.role in
      let named : port_named netlist.ports (port_name name word) ≡ Some k = ap (λ (lines : List PortLine). port_named lines (port_name name word)) ports ∙ owned.named in
      let alike = end_alike owned.end owned.among owned.role_port owned.may (sym owned.output ∙ is.input) in
      sym (nets k w is (cycle_of one c) valued_one) ∙ sym (at_net netlist one two c one alike.0 k (port_named netlist.ports (port_name name word)) named)
      ∙ alike.1 ∙ at_net netlist one two c two alike.0 k (port_named netlist.ports (port_name name word)) named ∙ nets k w is (cycle_of two c) valued_two
