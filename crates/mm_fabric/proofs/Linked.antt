-- A fabric runs as machines: hosts, routes, links, arbiters, stages and agents.
use Rattle.std.specs.Bool.{IsFalse}
use Rattle.std.proofs.Common.{◌≡◌, ℕ, zero, suc, ◌+◌, ◌-◌, ◌*◌, ◌^◌, ◌<◌, ◌≤◌, Bool, true, false, not, ◌||◌, List, [], None, IsTrue, refl, sym, subst, ap, ◌∙◌, arith}
use Rattle.std.proofs.Math.Nat.{two-pow-succ, le_refl}
use Rattle.std.proofs.lemmas.Nat.{pow-add, pow_pos}
use Rattle.iface_roles.specs.declared.records.AgentPort.{AgentPort}
use Rattle.iface_roles.specs.declared.records.HostPort.{HostPort}
use Rattle.iface_roles.specs.Proper.{range_of}
use Rattle.netlist.specs.Netlists.{Netlist}
use Rattle.netlist.specs.Runs.{Run, IsEndlessRun}
use Rattle.netlist.specs.Longer.{Extends}
use Rattle.link_rules.specs.Plans.{PlanTable}
use Rattle.memory_runs.specs.Views.{System, HostSide, HostView, AgentSide, AgentView, Responses, Run as MemoryRun}
use Rattle.memory_runs.specs.Views.Responses.{AreCodes}
use Rattle.memory_runs.specs.Commands.{longest_burst}
use Rattle.memory_runs.specs.Order.{is_joined}
use Rattle.memory_runs.specs.Plan.{IsMemoryPlan, AreViews}
use Rattle.memory_runs.specs.Legal.{IsLegalHost}
use Rattle.memory_runs.specs.Whole.{IsLegalRun}
use Rattle.memory_machines.specs.Link.{Port}
use Rattle.memory_machines.specs.Lines.{IsFit, TaggedPort, target_of}
use Rattle.memory_machines.specs.Machines.{ShowsFitBeats}
use Rattle.memory_machines.specs.Turns.{Grant, seats_of}
use Rattle.histories.specs.Turns.{Seat, is_seated}
use Rattle.memory_parts.specs.Agent.{AgentState, IsAgentMachine}
use Rattle.memory_parts.specs.Arbiter.{IsArbiterMachine}
use Rattle.memory_parts.specs.Host.{HostState, IsHostMachine}
use Rattle.memory_parts.specs.Route.{RouteState, IsRouteMachine}
use Rattle.memory_runs.specs.Sides.{burst_width}
use Rattle.memory_plans.specs.Routes.{routes_of, AreRoutes}
use Rattle.memory_plans.specs.Systems.{memory_system}
use Rattle.mm_route.specs.Machine.{MapsAs, RunsAsRoute}
use Rattle.mm_host.specs.Forms.{shape_below}
use Rattle.mm_agent.specs.Agents.{shape_above}
use Rattle.mm_agent.specs.Forms.{AreFitFor}
use Rattle.mm_arbiter.specs.Machine.{Surrounds, seats_from, JoinsBeats}
use Rattle.memory_awake.specs.Fair.{are_apart}
use Rattle.memory_awake.specs.Rows.{drops_some}
use Rattle.memory_awake.specs.RowSystem.{RowPorts, AreRows, AreIdleWires, IsFairRow, boundaries_of}
use Rattle.memory_awake.specs.RowFront.{IsRowFront, ServeWhatFits, with_agents}
use Rattle.memory_awake.specs.Theorem.{States, ArePlanned, AreMachines}
use Rattle.memory_awake.specs.PipeStages.{stage_of}
use Rattle.memory_awake.specs.Packed.{RowsPack}
use Rattle.memory_links.specs.Pipes.{PipeSides}
use Rattle.mm_width.specs.Pairs.{needs_drop}
use Rattle.memory_plans.specs.Maps.{IsHostOf, IsAgentOf, RoutesAreMapped}
use Rattle.mm_fabric.specs.Trunks.{room_bits}
use Rattle.mm_fabric.specs.Parts.{askers_of, commands_above, backs_above}
use Rattle.mm_fabric.specs.Fabrics.{Fabric, IsFabric, seen_at_host, seen_at_agent, seen_in}
use Rattle.mm_fabric.proofs.Piped.{IsPipeAt}
use Rattle.mm_fabric.proofs.Boundaries.{Inner, below_host, above_agent, below_arbiter, answers_to, below_route, above_arbiter, ports_in, idle, silent, outside, sides}
use Rattle.mm_fabric.proofs.BurstWidths.{some_width}
use Rattle.mm_fabric.proofs.Between.{StandsBetween, hands_on, alike_wire, joined_below, lanes, wired_below}
use Rattle.mm_fabric.proofs.Choices.{choose}
use Rattle.mm_fabric.proofs.Known.{seen_host, seen_agent, host_is, agent_is, seated_is}
use Rattle.mm_fabric.proofs.Singles.{CuttersShowFit}
use Rattle.mm_fabric.proofs.SilentReader.{no_word, never_reads, seen_as_machine}

-- ---- what the crates below give

abbrev pub RoutesMap : PlanTable → Type 0
RoutesMap plan = (host : ℕ) (port : HostPort) → IsHostOf plan host port → (width : ℕ) → 2 ^ width ≡ range_of port → RoutesAreMapped plan host port width

abbrev pub FitCommandsSuit : Type 0
FitCommandsSuit = (plan : PlanTable) (agent : ℕ) (port : AgentPort) → IsAgentOf plan agent port → (up : Port) → up.shape ≡ shape_above port → (end : ℕ) → IsFit (memory_system plan) agent up end → AreFitFor port up end

abbrev pub RowsCarryWhatFits : Type 0
RowsCarryWhatFits =
    (responses : Responses) (system : System) (run : MemoryRun) (ports : RowPorts) (states : States) (end : ℕ)
    → IsMemoryPlan system → AreViews system run end → IsRowFront responses system run ports states end → ServeWhatFits responses system run ports.lower end → IsLegalRun system run end
    → (agent : ℕ → AgentState)
    × ArePlanned system (boundaries_of ports) (with_agents states agent)
    × AreMachines responses system run (boundaries_of ports) (with_agents states agent) end
    × AreRows system run ports end

abbrev pub RoutesShowFit : Type 0
RoutesShowFit =
    (responses : Responses) (system : System) (run : MemoryRun) (host room : ℕ) (middle : Port) (down : ℕ → Port) (host_state : HostState) (route_state : RouteState) (end : ℕ)
    → IsLegalHost (system.host host) (run.at_host host) end
    → IsHostMachine responses (system.host host) (run.at_host host) middle host_state end
    → IsRouteMachine responses system host room middle down route_state end
    → (a : ℕ) → a < system.agents → ShowsFitBeats (down a) end

-- ---- states where there is no part

abbrev pub no_host_state : HostState
no_host_state = record { queue = λ c. []; left = λ c. 0; asked = λ c. false }

abbrev pub no_route_state : RouteState
no_route_state = record { inside = λ c. false; kept = λ c. None; owed = λ c. 0; owing = λ c. None }

abbrev pub no_agent_state : AgentState
no_agent_state = record { queue = λ c. []; row = λ c i. None; stood = λ c. 0 }

abbrev pub no_grant : ℕ → Grant
no_grant c = record { open_host = None; round = record { left = 0; ring = [] } }

-- ---- whether ends are joined

pub joined_if : (b : Bool) → not b ≡ false → b ≡ true
joined_if true e = refl
joined_if false e = cc

pub apart_if : (b : Bool) → not b ≡ true → b ≡ false
apart_if true e = cc
apart_if false e = refl

-- ---- numbers

-- 16 longest bursts are less than what the count of owed words holds
room_of : (width : ℕ) → 1 ≤ width → 16 * 2 ^ (width - 1) < 2 ^ (4 + width)
room_of zero some = absurd (omega arith)
room_of (suc width) some =
    let less : suc width - 1 ≡ width = omega arith in
    let lowest : 2 ^ (suc width - 1) ≡ 2 ^ width = ap (λ n. 2 ^ n) less in
    let parts = pow-add 2 4 (suc width) in
    let twice = two-pow-succ width in
    let positive = pow_pos width in
    omega (arith, lowest, parts, twice, positive)

room_fits : (bits : ℕ) → 16 * longest_burst (burst_width bits) < 2 ^ (4 + burst_width bits)
room_fits bits = room_of (burst_width bits) (some_width bits)

module _ (plan : PlanTable) (planned : IsMemoryPlan (memory_system plan)) (distinct : (a : ℕ) → IsTrue (are_apart ((memory_system plan).joined a))) (routed : (h : ℕ) → h < (memory_system plan).hosts → AreRoutes (memory_system plan) h (routes_of plan.system h))
    (mapped : RoutesMap plan) (suits : FitCommandsSuit)
    (netlist : Netlist) (fabric : Fabric) (is : IsFabric plan netlist fabric) (longer : Netlist) (extends : Extends netlist longer) (run : Run) (endless : IsEndlessRun longer run) (end : ℕ)
    (legal : IsLegalRun (memory_system plan) (seen_in plan fabric run) end) (views : AreViews (memory_system plan) (seen_in plan fabric run) end)
    (shown : RoutesShowFit) (cut : CuttersShowFit)
    (inner : ℕ → ℕ → Inner) (stands : (h : ℕ) → h < (memory_system plan).hosts → (a : ℕ) → a < (memory_system plan).agents → StandsBetween plan fabric run h a (inner h a))
    (pipe : ℕ → PipeSides) (piped : (a : ℕ) → a < (memory_system plan).agents → IsPipeAt plan fabric run a (pipe a)) where
  abbrev pub system : System
  system = memory_system plan

  abbrev pub seen : MemoryRun
  seen = seen_in plan fabric run

  abbrev pub ports : RowPorts
  ports = ports_in plan fabric inner pipe run

  abbrev pub room : ℕ → ℕ
  room h = 2 ^ room_bits (fabric.host h).port

  -- ---- a host with its route

  maps : (h : ℕ) → h < (memory_system plan).hosts → MapsAs (routes_of plan.system h) (fabric.host h).held.command.address.width (memory_system plan) h (shape_below (fabric.host h).port)
  maps h low =
      let port = (fabric.host h).port in
      (mapped h port (is.host_port h low) (fabric.host h).held.command.address.width (is.host h low).held.fields.reaches).maps (shape_below port) (record { words = refl; units = refl })

  route_run : (h : ℕ) → h < (memory_system plan).hosts → RunsAsRoute (memory_system plan) h (room h) (below_host (fabric.host h) run) (below_route plan fabric run h) end
  route_run h low = (is.host h low).route_runs longer extends run endless (memory_system plan) (shape_below (fabric.host h).port) (λ agent. answers_to (fabric.agent agent) run h) (room h) end (maps h low) (le_refl (room h))

  some_room : (h : ℕ) → 0 < room h
  some_room h = pow_pos (room_bits (fabric.host h).port)

  host_machine : (h : ℕ) (low : h < (memory_system plan).hosts) → (state : HostState) × IsHostMachine AreCodes ((memory_system plan).host h) (seen.at_host h) (below_host (fabric.host h) run) state end
  host_machine h low =
      let part = fabric.host h in
      let down = below_host part run in
      let host = (is.host h low).host_runs longer extends run endless end in
      let route = route_run h low in
      let machine = seen_as_machine netlist h (routes_of plan.system h) part (is.host h low) run down host.state end host.machine
      (λ none. no_word (memory_system plan) h (room h) down (below_route plan fabric run h) route.state end route.is_machine (some_room h)
      (never_reads netlist h (routes_of plan.system h) part (is.host h low) run down host.state end host.machine none)) in
      let at_side = subst (λ (side : HostSide). IsHostMachine AreCodes side (seen_at_host part run) down host.state end) (sym (host_is plan netlist fabric is h low)) machine in
      (host.state, subst (λ (view : HostView). IsHostMachine AreCodes ((memory_system plan).host h) view down host.state end) (sym (seen_host plan fabric run h low)) at_side)

  -- ---- an arbiter

  -- what a route shows behind its legal host fits
  route_fits : (h a : ℕ) → h < (memory_system plan).hosts → a < (memory_system plan).agents → ShowsFitBeats (below_route plan fabric run h a) end
  route_fits h a low there =
      let host = host_machine h low in
      let route = route_run h low in
      shown AreCodes (memory_system plan) (seen_in plan fabric run) h (room h) (below_host (fabric.host h) run) (below_route plan fabric run h) host.0 route.state end (legal.hosts h low) host.1 route.is_machine a there

  abbrev pub is_host_seated : ℕ → ℕ → Bool
  is_host_seated a h = is_seated h (seats_from (askers_of (fabric.agent a).seats))

  seat_joins : (a : ℕ) → a < (memory_system plan).agents → (h : ℕ) → is_host_seated a h ≡ true → JoinsBeats (above_arbiter fabric run h a) end
  seat_joins a there h seated =
      let has : is_joined (memory_system plan) a h ≡ true = sym (seated_is plan netlist fabric is a there h) ∙ seated in
      let low = planned.joined a h has in
      joined_below cut (target_of (memory_system plan) a) (needs_drop (fabric.host h).port (fabric.agent a).port) (below_route plan fabric run h a) (above_arbiter fabric run h a) (inner h a) end ((stands h low a there).leads has) (route_fits h a low there)

  surrounds : (a : ℕ) → a < (memory_system plan).agents →
      Surrounds (askers_of (fabric.agent a).seats) (commands_above (fabric.agent a).seats) (backs_above (fabric.agent a).seats) (shape_above (fabric.agent a).port) run (memory_system plan).hosts
      (λ h. above_arbiter fabric run h a) (below_arbiter (fabric.agent a) run) end
  surrounds a there = record {
    sides = sides plan planned netlist fabric is longer extends run endless a there (distinct a);
    joined = seat_joins a there;
    others = outside plan planned netlist fabric is longer extends run endless a there end;
  }

  arbiter : (a : ℕ) → a < (memory_system plan).agents → (grant : ℕ → Grant) × IsArbiterMachine (seats_of (memory_system plan) a) (memory_system plan).hosts (λ h. above_arbiter fabric run h a) (ports.lower a plan.system.stages) grant end
  arbiter a there =
      let part = fabric.agent a in
      let made = (is.agent a there).turns longer extends run endless (shape_above part.port) (memory_system plan).hosts end (λ h. above_arbiter fabric run h a) (surrounds a there) in (
        made.0,
        subst (λ (down : TaggedPort). IsArbiterMachine (seats_of (memory_system plan) a) (memory_system plan).hosts (λ h. above_arbiter fabric run h a) down made.0 end) (sym (piped a there).highest)
            (subst (λ (seats : List Seat). IsArbiterMachine seats (memory_system plan).hosts (λ h. above_arbiter fabric run h a) (below_arbiter part run) made.0 end) (is.seats a there) made.1),
      )

  -- ---- all parts together

  pub hosts_run : (state : ℕ → HostState) × ((h : ℕ) → h < (memory_system plan).hosts → IsHostMachine AreCodes (system.host h) (seen.at_host h) (ports.after_host h) (state h) end)
  hosts_run = choose {X = HostState} (λ h state. IsHostMachine AreCodes (system.host h) (seen.at_host h) (ports.after_host h) state end) (memory_system plan).hosts no_host_state host_machine

  pub routes_run : (state : ℕ → RouteState) × ((h : ℕ) → h < (memory_system plan).hosts → IsRouteMachine AreCodes (memory_system plan) h (room h) (ports.after_host h) (λ a. ports.after_route h a) (state h) end)
  routes_run =
      choose {X = RouteState} (λ h state. IsRouteMachine AreCodes (memory_system plan) h (room h) (ports.after_host h) (λ a. ports.after_route h a) state end) (memory_system plan).hosts no_route_state
      (λ h low. (let route = route_run h low in (route.state, route.is_machine)))

  pub grants_run : (grant : ℕ → ℕ → Grant) × ((a : ℕ) → a < (memory_system plan).agents →
      IsArbiterMachine (seats_of (memory_system plan) a) (memory_system plan).hosts (λ h. ports.before_arbiter h a) (ports.lower a plan.system.stages) (grant a) end)
  grants_run =
      choose {X = ℕ → Grant} (λ a grant. IsArbiterMachine (seats_of (memory_system plan) a) (memory_system plan).hosts (λ h. ports.before_arbiter h a) (ports.lower a plan.system.stages) grant end) (memory_system plan).agents no_grant arbiter

  abbrev pub states : States
  states = record { host = hosts_run.0; route = routes_run.0; room = room; grant = grants_run.0; stage = λ a. stage_of plan.system.stages (pipe a); agent = λ a. no_agent_state }

  -- ---- the links

  pub lanes_at : (h a : ℕ) (low : h < (memory_system plan).hosts) (there : a < (memory_system plan).agents) (joined : IsTrue (is_joined (memory_system plan) a h)) → IsFalse (drops_some (((stands h low a there).leads joined).dropped)) →
      IsTrue (((memory_system plan).agent a).has_enables || not ((memory_system plan).host h).has_enables)
  lanes_at h a low there joined none = lanes plan planned netlist fabric is longer extends run endless h a low there (sym ((stands h low a there).leads joined).is ∙ none)

  pub idle_at : (h a : ℕ) → h < (memory_system plan).hosts → a < (memory_system plan).agents → IsFalse (is_joined (memory_system plan) a h) → AreIdleWires ports h a
  idle_at h a low there apart =
      let hands = hands_on (below_route plan fabric run h a) (above_arbiter fabric run h a) (inner h a) ((stands h low a there).none apart) (idle plan planned netlist fabric is longer extends run endless a there h (routed h low) apart) in
      record { high = hands.high; mid = hands.mid; low = hands.low }

  pub front : IsRowFront AreCodes (memory_system plan) (seen_in plan fabric run) ports states end
  front = record {
    host = hosts_run.1;
    room = λ h low. room_fits (fabric.host h).port.burst_bits;
    route = routes_run.1;
    arbiter = grants_run.1;
    silent = λ a there. silent plan planned netlist fabric is longer extends run endless a there end;
    stage = λ a i there few. (piped a there).stage i few;
    cuts = λ h a low there has. ((stands h low a there).leads has).cuts;
    fits = λ h a low there has. ((stands h low a there).leads has).fits;
    gathers = λ h a low there has. ((stands h low a there).leads has).gathers;
    drops = λ h a low there has. ((stands h low a there).leads has).dropped;
    lanes = lanes_at;
    wired = λ h a low there has alike. alike_wire plan planned netlist fabric is longer extends run endless h a low there (is.joined h a low there has) alike;
    idle = idle_at;
  }

  -- ---- the agents

  pub served : ServeWhatFits AreCodes (memory_system plan) (seen_in plan fabric run) ports.lower end
  served = λ a c there within fit.
      (let part = fabric.agent a in
      let lowest = (piped a there).lowest in
      let suited = suits plan a part.port (is.agent_port a there) (above_agent part run).port refl c (subst (λ (up : TaggedPort). IsFit (memory_system plan) a up.port c) lowest fit) in
      let found = (is.agent a there).runs longer extends run endless c suited in
      let at_side = subst (λ (side : AgentSide). IsAgentMachine AreCodes side (seen_at_agent part run) (above_agent part run) found.state c) (sym (agent_is plan netlist fabric is a there)) found.machine in
      record {
        state = found.state;
        machine = subst (λ (up : TaggedPort). IsAgentMachine AreCodes ((memory_system plan).agent a) (seen.at_agent a) up found.state c) (sym lowest)
            (subst (λ (view : AgentView). IsAgentMachine AreCodes ((memory_system plan).agent a) view (above_agent part run) found.state c) (sym (seen_agent plan fabric run a there)) at_side);
      })

  -- ---- all of it

  fair_row : (a h : ℕ) → a < (memory_system plan).agents → IsTrue (is_joined (memory_system plan) a h) → IsFairRow (memory_system plan) ports a h
  fair_row a h there has lacks bursts =
      let low = planned.joined a h has in
      let enables = sym (ap (λ (side : HostSide). side.has_enables) (host_is plan netlist fabric is h low)) ∙ lacks in
      wired_below (target_of (memory_system plan) a) (fabric.host h).port (fabric.agent a).port (below_route plan fabric run h a) (above_arbiter fabric run h a) (inner h a) ((stands h low a there).leads has) enables

  -- a row of links stands between those that are joined, wires between the others
  abbrev pub rows : AreRows (memory_system plan) (seen_in plan fabric run) ports end
  rows = record {
    idle = λ h a. not (is_joined (memory_system plan) a h);
    views = views.hosts;
    cuts = λ h a low there links. ((stands h low a there).leads (joined_if (is_joined (memory_system plan) a h) links)).cuts;
    fits = λ h a low there links. ((stands h low a there).leads (joined_if (is_joined (memory_system plan) a h) links)).fits;
    gathers = λ h a low there links. ((stands h low a there).leads (joined_if (is_joined (memory_system plan) a h) links)).gathers;
    drops = λ h a low there links. ((stands h low a there).leads (joined_if (is_joined (memory_system plan) a h) links)).dropped;
    lanes = λ h a low there links none. lanes_at h a low there (joined_if (is_joined (memory_system plan) a h) links) none;
    wired = front.wired;
    apart = λ h a low there idle. (let none = apart_if (is_joined (memory_system plan) a h) idle in (none, idle_at h a low there none));
  }

  -- and each row packs reads
  rows_pack : RowsPack rows
  rows_pack h a low there links = ((stands h low a there).leads (joined_if (is_joined (memory_system plan) a h) links)).packs

  pub linked : RowsCarryWhatFits →
      (ports : RowPorts) × (states : States) × ArePlanned (memory_system plan) (boundaries_of ports) states × AreMachines AreCodes (memory_system plan) (seen_in plan fabric run) (boundaries_of ports) states end
      × (rows : AreRows (memory_system plan) (seen_in plan fabric run) ports end) × RowsPack rows
      × ((agent host : ℕ) → agent < (memory_system plan).agents → IsTrue (is_joined (memory_system plan) agent host) → IsFairRow (memory_system plan) ports agent host)
  linked law =
      let made = law AreCodes (memory_system plan) (seen_in plan fabric run) ports states end planned views front served legal in
      (ports, with_agents states made.0, made.1, made.2, rows, rows_pack, fair_row)
