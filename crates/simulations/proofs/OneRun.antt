-- Simulations of one scenario show the same, cycle by cycle.
use Rattle.std.proofs.Common.{◌≡◌, ℕ, zero, suc, ◌+◌, ◌-◌, ◌<◌, ◌≤◌, ◌==◌, ◌&&◌, nat_le, Bool, true, false, cond, List, [], ◌∷◌, length, slice_get, Option, Some, None, is_some, unwrap_or, inl, inr, refl, sym, ap, subst, ◌∙◌, arith}
use Rattle.std.specs.Prelude.{IsSome}
use Rattle.std.specs.List.{position_from}
use Rattle.std.specs.Option.{option_map}
use Rattle.std.specs.Str.{bytes_eq}
use Rattle.std.proofs.lemmas.Bool.{cases_Bool, cases_order, leb-true, false≢true}
use Rattle.histories.specs.History.{one_if}
use Rattle.iface_roles.specs.declared.records.HostPort.{HostPort}
use Rattle.iface_roles.specs.declared.records.AgentPort.{AgentPort}
use Rattle.iface_roles.specs.declared.records.StreamPort.{StreamPort}
use Rattle.iface_roles.specs.declared.records.Finished.TheVariants.{Host, Agent}
use Rattle.address_map.specs.Maps.{hosts_of, agents_of}
use Rattle.link_rules.specs.declared.plan_connections.StreamConnection.{StreamConnection}
use Rattle.link_rules.specs.PlanConnections.{stream_connections}
use Rattle.link_rules.specs.Plans.{PlanTable}
use Rattle.netlist.specs.declared.line.Line.{Line}
use Rattle.netlist.specs.declared.line.PortLine.{PortLine}
use Rattle.netlist.specs.Netlists.{Netlist, IsModule, IsInputPort, width_at, driver_of, input_net}
use Rattle.netlist.specs.Runs.{Cycle, Run, cycle_of, IsValuation, SameInputs, SameState, SameNets, Steps}
use Rattle.netlist.specs.Signals.{port_net}
use Rattle.cycle_sim.specs.Standing.{IsFirst}
use Rattle.stream_runs.specs.View.{EndView, Beat, AgreeBefore, is_ready_cycle}
use Rattle.memory_runs.specs.Views.{HostView, levels_at}
use Rattle.memory_runs.specs.Beginnings.{HostsAgree}
use Rattle.memory_runs.specs.Moment.{Moment, AgentSees}
use Rattle.memory_plans.specs.Shown.{moment_in, standing_still}
use Rattle.port_tables.specs.EndFacts.{known_is}
use Rattle.interconnect.specs.Memory.{host_in, agent_in, module_run}
use Rattle.scenario_tables.specs.declared.statements.SourceStatement.{SourceStatement}
use Rattle.scenario_tables.specs.declared.scenario.Scenario.{Scenario}
use Rattle.scenario_tables.specs.Scenarios.{IsHostAt, IsAgentAt}
use Rattle.stand_ins.specs.Steps.{Step, all_steps, shown}
use Rattle.stand_ins.specs.HostsStandIns.{left_before}
use Rattle.stand_ins.specs.StreamsSteps.{next_beat, may_send}
use Rattle.stand_ins.specs.Sources.{Keeping, keeping_at, port_pace, beat_shown, no_beat}
use Rattle.simulated_runs.specs.Ends.{stream_view}
use Rattle.simulated_runs.specs.Simulated.{IsSimulated}
use Rattle.simulations.specs.Agreeing.{InterfacesAgree}
use Rattle.simulations.specs.Benches.{IsSetUp}
use Rattle.simulations.proofs.Alike.{PortsAlike, hosts_alike, agents_alike, interfaces_agree}
use Rattle.simulations.proofs.Answering.{CommandedAlike, code_alike, gives_alike, word_alike}
use Rattle.simulations.proofs.Beside.{Beside, has, inside}
use Rattle.simulations.proofs.Inputs.{GivesSame, AllGiveSame, InputsAreNets, HostsAreKnown, AgentsAreKnown, StreamsAreNumbered, LinksAreKnown, same_inputs}

-- what holds before a cycle and in it holds before the next one
up_to : (P : ℕ → Type 0) (c : ℕ) → ((k : ℕ) → k < c → P k) → P c → (k : ℕ) → k < suc c → P k
up_to P c before now k low = elim (cases_order k c) [
  | inl e ↦ subst P (sym e) now
  | inr (inl below) ↦ before k below
  | inr (inr above) ↦ absurd (omega arith)
]

-- ---- ports whose nets are the same

-- two cycles with the same inputs, state and nets
pub record CyclesAlike (netlist : Netlist) (x y : Cycle) : Type 0 where
  pub inputs : SameInputs netlist x y
  pub state : SameState netlist x y
  pub nets : SameNets netlist x y

-- the item that a search finds
record Found {X : Type 0} (xs : List X) (first place : ℕ) : Type 0 where
  later : ℕ
  place_is : place ≡ first + later
  there : Beside xs later

found : {X : Type 0} (test : X → Bool) (xs : List X) (first place : ℕ) → position_from test first xs ≡ Some place → Found xs first place
found {X} test [] first place e = absurd (let none : None ≡ Some place = e in cc)
found {X} test (x ∷ xs) first place e = by_test (λ is. found test xs (first + 1) place is) (test x) e where
  by_test : (position_from test (first + 1) xs ≡ Some place → Found xs (first + 1) place) → (b : Bool) → cond b (Some first) (position_from test (first + 1) xs) ≡ Some place → Found (x ∷ xs) first place
  by_test behind true is = record { later = 0; place_is = (let same : first ≡ place = cc in omega arith); there = record { item = x; is = refl } }
  by_test behind false is = let rest = behind is in record {
    later = suc rest.later;
    place_is = (let at = rest.place_is in omega arith);
    there = record { item = rest.there.item; is = rest.there.is };
  }

net_below : (lines : List Line) (n w : ℕ) → width_at lines n ≡ Some w → n < length lines
net_below lines n w e = by_line (slice_get lines n) refl e where
  by_line : (line : Option Line) → slice_get lines n ≡ line → option_map (λ (l : Line). l.width) line ≡ Some w → n < length lines
  by_line None at is = absurd (let none : None ≡ Some w = is in cc)
  by_line (Some line) at is = inside lines n line at

driver : (found : Option ℕ) → IsSome found → (n : ℕ) × (found ≡ Some n)
driver None some = absurd (false≢true some)
driver (Some n) some = (n, refl)

module _ (netlist : Netlist) (is_module : IsModule netlist) (nets : InputsAreNets netlist) (one two : Run) (k : ℕ)
    (valued_one : IsValuation netlist (cycle_of one k)) (valued_two : IsValuation netlist (cycle_of two k)) (alike : CyclesAlike netlist (cycle_of one k) (cycle_of two k)) where
  at_place : (place : ℕ) (port : PortLine) → slice_get netlist.ports place ≡ Some port → one.net k (port_net netlist place) ≡ two.net k (port_net netlist place)
  at_place place port at = elim (cases_Bool port.output) [
    | inl output ↦ (
        let by = driver (driver_of netlist place) (is_module.driven place port.width (record { port = port; is = at; output = output; width = refl })) in
        let net : port_net netlist place ≡ by.0 = ap (λ (d : Option ℕ). unwrap_or d (input_net netlist.ports place)) by.1 in
        let driven = is_module.well_made.drivers place by.0 by.1 in
        ap (one.net k) net ∙ alike.nets by.0 (net_below netlist.lines by.0 driven.width driven.net) ∙ sym (ap (two.net k) net))
    | inr input ↦ (
        let is : IsInputPort netlist.ports place port.width = record { port = port; is = at; input = input; width = refl } in
        nets place port.width is (cycle_of one k) valued_one ∙ alike.inputs place port.width is ∙ sym (nets place port.width is (cycle_of two k) valued_two))
  ]

  pub ports_alike : PortsAlike netlist one two k k
  ports_alike name place named =
      let at = found (λ (port : PortLine). bytes_eq port.name name) netlist.ports 0 place named in
      let same : at.later ≡ place = (let is = at.place_is in omega arith) in
      at_place place at.there.item (subst (λ (n : ℕ). slice_get netlist.ports n ≡ Some at.there.item) same at.there.is)

-- ---- what stands in for components

abbrev pub HostsKeepSteps : Type 0
HostsKeepSteps = (steps : List Step) (one two : HostView) (end : ℕ) → HostsAgree one two end → left_before steps one.waitrequest end ≡ left_before steps two.waitrequest end

abbrev pub SourcesKeepSteps : Type 0
SourcesKeepSteps = (port : StreamPort) (script : List SourceStatement) (one two : EndView) (end : ℕ) → AgreeBefore one two end → keeping_at port script one end ≡ keeping_at port script two end

-- whether a beat may be sent depends on the cycles before alone
same_may : (latency allowance sent c : ℕ) (came : Bool) (one two : ℕ → ℕ) → ((k : ℕ) → k < c → one k ≡ two k)
    → may_send (record { latency = latency; allowance = allowance }) came (nat_le latency c && (one (c - latency) == 1)) sent ≡ may_send (record { latency = latency; allowance = allowance }) came (nat_le latency c && (two (c - latency) == 1)) sent
same_may zero allowance sent c came one two same = refl
same_may (suc latency) allowance sent c came one two same = elim (cases_Bool (nat_le (suc latency) c)) [
  | inl e ↦ (let soon = leb-true (suc latency) c e in ap (λ (level : ℕ). may_send (record { latency = suc latency; allowance = allowance }) came (nat_le (suc latency) c && (level == 1)) sent) (same (c - suc latency) (omega arith)))
  | inr e ↦ rw e refl
]

same_beat : SourcesKeepSteps → (port : StreamPort) (script : List SourceStatement) (one two : EndView) (c : ℕ) → AgreeBefore one two c → beat_shown port script one c ≡ beat_shown port script two c
same_beat keep port script one two c agree =
    let pace = port_pace port in
    let kept : Keeping = keeping_at port script one c in
    ap (λ may. next_beat may kept.left) (same_may pace.latency pace.allowance kept.sent c kept.came one.ready two.ready agree.ready)
    ∙ ap (λ (keeping : Keeping). next_beat (may_send pace keeping.came (is_ready_cycle pace two c) keeping.sent) keeping.left) (keep port script one two c agree)

-- ---- one cycle more

module _ (plan : PlanTable) (scenario : Scenario) (netlist : Netlist) (one two : Run) (end : ℕ) (set : IsSetUp plan scenario netlist)
    (first : IsSimulated plan scenario netlist one end) (second : IsSimulated plan scenario netlist two end)
    (keep_hosts : HostsKeepSteps) (keep_sources : SourcesKeepSteps) (hosts : HostsAreKnown plan.system) (agents : AgentsAreKnown plan.system)
    (numbered : StreamsAreNumbered plan.system) (links : LinksAreKnown plan.system) (nets : InputsAreNets netlist) where
  module _ (c : ℕ) (low : c < end) (agree : InterfacesAgree plan netlist one two c) where
    -- what each interface shows in the cycle
    host_script : (h : ℕ) (port : HostPort) → IsHostAt plan.system h port → Beside scenario.hosts h
    host_script h port at = has scenario.hosts h (subst (λ (n : ℕ). h < n) (sym set.is_scenario.hosts) (inside (hosts_of plan.system) h at.end at.end_is))

    agent_script : (a : ℕ) (port : AgentPort) → IsAgentAt plan.system a port → Beside scenario.agents a
    agent_script a port at = has scenario.agents a (subst (λ (n : ℕ). a < n) (sym set.is_scenario.agents) (inside (agents_of plan.system) a at.end at.end_is))

    same_host : (h : ℕ) (port : HostPort) → IsHostAt plan.system h port → levels_at (host_in plan netlist one h).signals c ≡ levels_at (host_in plan netlist two h).signals c
    same_host h port at =
        let script = host_script h port at in
        first.hosts h port script.item at script.is c low
        ∙ ap (shown port) (keep_hosts (all_steps port script.item) (host_in plan netlist one h) (host_in plan netlist two h) c (agree.memory.hosts h))
        ∙ sym (second.hosts h port script.item at script.is c low)

    commanded_before : (a : ℕ) → CommandedAlike (agent_in plan netlist one a) (agent_in plan netlist two a) c
    commanded_before a = let same = agree.memory.agents a in record { signals = same.signals; waitrequest = same.waitrequest }

    same_wait : (a : ℕ) (port : AgentPort) → IsAgentAt plan.system a port → (agent_in plan netlist one a).waitrequest c ≡ (agent_in plan netlist two a).waitrequest c
    same_wait a port at =
        let script = agent_script a port at in
        (first.agents a port script.item at script.is).waitrequest c low ∙ sym ((second.agents a port script.item at script.is).waitrequest c low)

    same_valid : (a : ℕ) (port : AgentPort) → IsAgentAt plan.system a port → (agent_in plan netlist one a).readdatavalid c ≡ (agent_in plan netlist two a).readdatavalid c
    same_valid a port at =
        let script = agent_script a port at in
        (first.agents a port script.item at script.is).readdatavalid c low
        ∙ ap one_if (gives_alike port script.item (agent_in plan netlist one a) (agent_in plan netlist two a) c (commanded_before a))
        ∙ sym ((second.agents a port script.item at script.is).readdatavalid c low)

    -- the cycle alone, over and over
    still : (run : Run) → PortsAlike netlist (standing_still (cycle_of run c)) run 0 c
    still run name port named = refl

    known_host : (h : ℕ) → h < length (hosts_of plan.system) → (port : HostPort) × IsHostAt plan.system h port
    known_host h below =
        let there = has (hosts_of plan.system) h below in
        let host = hosts h there.item there.is in
        (host.host, record { end = there.item; end_is = there.is; is = known_is plan.system there.item (Host host.host) host.is })

    known_agent : (a : ℕ) → a < length (agents_of plan.system) → (port : AgentPort) × IsAgentAt plan.system a port
    known_agent a below =
        let there = has (agents_of plan.system) a below in
        let agent = agents a there.item there.is in
        (agent.agent, record { end = there.item; end_is = there.is; is = known_is plan.system there.item (Agent agent.agent) agent.is })

    -- the commands don't depend on the words that come in the cycle, nor on their codes
    same_command : SameState netlist (cycle_of one c) (cycle_of two c) → (a : ℕ) → a < length (agents_of plan.system)
        → levels_at (agent_in plan netlist one a).signals c ≡ levels_at (agent_in plan netlist two a).signals c
    same_command state a below =
        let moment : Cycle → Moment = λ cycle. moment_in (module_run plan netlist (standing_still cycle)) 0 in
        let own : SameState netlist (cycle_of one c) (cycle_of one c) = record { registers = λ n line is register. refl; words = λ m memory is address low. refl } in
        let still_one = standing_still (cycle_of one c) in
        let still_two = standing_still (cycle_of two c) in
        let same : (moment (cycle_of one c)).to_agent a ≡ (moment (cycle_of two c)).to_agent a =
        set.is_interconnect.memory.ignores_readdata (cycle_of one c) (moment (cycle_of one c)) (moment (cycle_of two c))
        (cycle_of one c, first.is_run.is_run.valuations c low, own, refl) (cycle_of two c, second.is_run.is_run.valuations c low, state, refl)
        (record {
          hosts = λ h inner. (
              let at = known_host h inner in
              (hosts_alike netlist still_one one 0 c (still one) plan h).signals ∙ same_host h at.0 at.1 ∙ sym (hosts_alike netlist still_two two 0 c (still two) plan h).signals);
          agents = λ b inner. (
              let at = known_agent b inner in
              let left = agents_alike netlist still_one one 0 c (still one) plan b in
              let right = agents_alike netlist still_two two 0 c (still two) plan b in
              (left.waitrequest ∙ same_wait b at.0 at.1 ∙ sym right.waitrequest, left.readdatavalid ∙ same_valid b at.0 at.1 ∙ sym right.readdatavalid));
        })
        a below in
        sym (agents_alike netlist still_one one 0 c (still one) plan a).signals ∙ ap (λ (sees : AgentSees). sees.levels) same ∙ (agents_alike netlist still_two two 0 c (still two) plan a).signals

    same_agent : SameState netlist (cycle_of one c) (cycle_of two c) → (a : ℕ) (port : AgentPort) → IsAgentAt plan.system a port
        → GivesSame (agent_in plan netlist one a) (agent_in plan netlist two a) c
    same_agent state a port at =
        let script = agent_script a port at in
        let view_one = agent_in plan netlist one a in
        let view_two = agent_in plan netlist two a in
        let earlier = commanded_before a in
        let commanded : CommandedAlike view_one view_two (suc c) = record {
          signals = up_to (λ (k : ℕ). levels_at view_one.signals k ≡ levels_at view_two.signals k) c earlier.signals (same_command state a (inside (agents_of plan.system) a at.end at.end_is));
          waitrequest = up_to (λ (k : ℕ). view_one.waitrequest k ≡ view_two.waitrequest k) c earlier.waitrequest (same_wait a port at);
        } in
        record {
          waitrequest = same_wait a port at;
          readdatavalid = same_valid a port at;
          readdata = (first.agents a port script.item at script.is).readdata c low ∙ word_alike port script.item view_one view_two c commanded ∙ sym ((second.agents a port script.item at script.is).readdata c low);
          response = (first.agents a port script.item at script.is).response c low ∙ code_alike port script.item view_one view_two c commanded ∙ sym ((second.agents a port script.item at script.is).response c low);
        }

    source_script : (s : ℕ) (link : StreamConnection) → slice_get (stream_connections plan.system) s ≡ Some link → Beside scenario.sources s
    source_script s link at = has scenario.sources s (subst (λ (n : ℕ). s < n) (sym set.is_scenario.sources) (inside (stream_connections plan.system) s link at))

    sink_script : (s : ℕ) (link : StreamConnection) → slice_get (stream_connections plan.system) s ≡ Some link → Beside scenario.sinks s
    sink_script s link at = has scenario.sinks s (subst (λ (n : ℕ). s < n) (sym set.is_scenario.sinks) (inside (stream_connections plan.system) s link at))

    shown_same : (s : ℕ) (link : StreamConnection) (script : List SourceStatement)
        → beat_shown link.source script (stream_view plan.system netlist one link.source_end) c ≡ beat_shown link.source script (stream_view plan.system netlist two link.source_end) c
    shown_same s link script =
        same_beat keep_sources link.source script (stream_view plan.system netlist one link.source_end) (stream_view plan.system netlist two link.source_end) c (agree.streams link.source_end)

    all_give : SameState netlist (cycle_of one c) (cycle_of two c) → AllGiveSame plan netlist one two c
    all_give state = record {
      hosts = same_host;
      agents = same_agent state;
      valid = λ s link at. (
          let script = source_script s link at in
          (first.sources s link script.item at script.is c low).valid ∙ ap (λ (beat : Option Beat). one_if (is_some beat)) (shown_same s link script.item)
          ∙ sym (second.sources s link script.item at script.is c low).valid);
      beat = λ s link at. (
          let script = source_script s link at in
          (first.sources s link script.item at script.is c low).signals ∙ ap (λ (beat : Option Beat). unwrap_or beat no_beat) (shown_same s link script.item)
          ∙ sym (second.sources s link script.item at script.is c low).signals);
      ready = λ s link at. (
          let script = sink_script s link at in
          first.sinks s link script.item at script.is c low ∙ sym (second.sinks s link script.item at script.is c low));
    }

    inputs_now : SameState netlist (cycle_of one c) (cycle_of two c) → SameInputs netlist (cycle_of one c) (cycle_of two c)
    inputs_now state =
        same_inputs plan netlist one two c hosts agents numbered links (all_give state) set.is_interconnect.ports set.known nets (first.is_run.is_run.valuations c low) (second.is_run.is_run.valuations c low)

  -- ---- all cycles

  module _ (only : (x y : Cycle) → IsValuation netlist x → IsValuation netlist y → SameInputs netlist x y → SameState netlist x y → SameNets netlist x y)
      (begin : (x y : Cycle) → IsFirst netlist x → IsFirst netlist y → SameState netlist x y)
      (next : (x y x_next y_next : Cycle) → SameNets netlist x y → SameState netlist x y → Steps netlist x x_next → Steps netlist y y_next → SameState netlist x_next y_next) where
    valued_one : (c : ℕ) → c < end → IsValuation netlist (cycle_of one c)
    valued_one c low = first.is_run.is_run.valuations c low

    valued_two : (c : ℕ) → c < end → IsValuation netlist (cycle_of two c)
    valued_two c low = second.is_run.is_run.valuations c low

    state_now : (c : ℕ) → c < end → ((k : ℕ) → k < c → CyclesAlike netlist (cycle_of one k) (cycle_of two k)) → SameState netlist (cycle_of one c) (cycle_of two c)
    state_now zero low before =
        begin (cycle_of one 0) (cycle_of two 0) (record { starts = first.is_run.is_run.starts low; cleared = first.is_run.cleared low }) (record { starts = second.is_run.is_run.starts low; cleared = second.is_run.cleared low })
    state_now (suc c) low before =
        let e : c + 1 ≡ suc c = omega arith in
        let within : c + 1 < end = omega arith in
        let earlier = before c (omega arith) in
        subst (λ (k : ℕ). SameState netlist (cycle_of one k) (cycle_of two k)) e
        (next (cycle_of one c) (cycle_of two c) (cycle_of one (c + 1)) (cycle_of two (c + 1)) earlier.nets earlier.state (first.is_run.is_run.steps c within) (second.is_run.is_run.steps c within))

    ports_before : (c : ℕ) → c ≤ end → ((k : ℕ) → k < c → CyclesAlike netlist (cycle_of one k) (cycle_of two k)) → (k : ℕ) → k < c → PortsAlike netlist one two k k
    ports_before c low before k below = ports_alike netlist set.is_module nets one two k (valued_one k (omega arith)) (valued_two k (omega arith)) (before k below)

    cycle_now : (c : ℕ) → c < end → ((k : ℕ) → k < c → CyclesAlike netlist (cycle_of one k) (cycle_of two k)) → CyclesAlike netlist (cycle_of one c) (cycle_of two c)
    cycle_now c low before =
        let state = state_now c low before in
        let inputs = inputs_now c low (interfaces_agree netlist one two c (ports_before c (omega arith) before) plan) state in
        record { inputs = inputs; state = state; nets = only (cycle_of one c) (cycle_of two c) (valued_one c low) (valued_two c low) inputs state }

    cycles_before : (c : ℕ) → c ≤ end → (k : ℕ) → k < c → CyclesAlike netlist (cycle_of one k) (cycle_of two k)
    cycles_before zero low k below = absurd (omega arith)
    cycles_before (suc c) low k below =
        let before = cycles_before c (omega arith) in
        up_to (λ (n : ℕ). CyclesAlike netlist (cycle_of one n) (cycle_of two n)) c before (cycle_now c (omega arith) before) k below

    pub all_agree : InterfacesAgree plan netlist one two end
    all_agree = interfaces_agree netlist one two end (ports_before end (omega arith) (cycles_before end (omega arith))) plan
