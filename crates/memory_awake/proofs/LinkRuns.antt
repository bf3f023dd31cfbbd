-- A system of machines with rows of links is one of machines and rows.
use Rattle.std.proofs.Common.{◌≡◌, ℕ, zero, suc, ◌*◌, ◌<◌, Bool, true, false, List, ◌||◌, if◌then◌else◌, IsTrue, IsFalse, arith, refl, sym, ap, subst, ◌∙◌}
use Rattle.std.proofs.lemmas.Bool.{both_ways}
use Rattle.std.proofs.Math.Path.{fun_ext}
use Rattle.histories.specs.History.{is_raised}
use Rattle.histories.specs.Turns.{Seat}
use Rattle.memory_runs.specs.Views.{System, Run, Shape, Responses, HostSide, AgentSide}
use Rattle.memory_runs.specs.Commands.{shows, longest_burst}
use Rattle.memory_runs.specs.Order.{is_joined}
use Rattle.memory_runs.specs.Plan.{IsMemoryPlan}
use Rattle.memory_machines.specs.Link.{Target}
use Rattle.memory_machines.specs.Lines.{target_of}
use Rattle.memory_machines.specs.Turns.{seats_of}
use Rattle.memory_parts.specs.Agent.{IsAgentMachine}
use Rattle.memory_parts.specs.AgentRun.{AgentInputs, AgentRegisters, SuitsAgent, agent_registers, agent_state, agent_view, agent_upper, agent_step}
use Rattle.memory_parts.specs.Arbiter.{IsArbiterMachine}
use Rattle.memory_parts.specs.ArbiterRun.{ArbiterInputs, ArbiterRegisters, arbiter_registers, arbiter_grant, arbiter_upper, arbiter_lower, arbiter_step}
use Rattle.memory_parts.specs.Host.{IsHostMachine, is_shut}
use Rattle.memory_parts.specs.HostRun.{HostInputs, HostRegisters, host_registers, host_state, host_view, host_lower, host_step}
use Rattle.memory_parts.specs.Route.{IsRouteMachine, goes_to}
use Rattle.memory_parts.specs.RouteRun.{RouteInputs, RouteRegisters, route_registers, route_state, route_upper, route_lower, route_step, asked_side}
use Rattle.memory_parts.specs.SystemRun.{Outside}
use Rattle.memory_links.specs.Driven.{Inputs}
use Rattle.memory_awake.specs.RowRun.{Cutter, Fitter, RowPlan, RowRegisters, Cutter.Uncut, Fitter.Unfitted, SuitsRow, SuitsDropper, row_registers, row_step, row_top, row_middle, row_low, row_bottom}
use Rattle.memory_awake.specs.RowSystem.{AreRows, boundaries_of}
use Rattle.memory_awake.specs.Rows.{IsWired, CutsBursts, FitsWords, DropsBeats, GathersBelowCut, drops_some}
use Rattle.memory_awake.specs.LinkSystem.{LinkPlan, SuitsLinks, AreFitHosts, Registers, row_of, agent_inner, linked_registers, to_host, to_route, to_row, to_arbiter, to_agent, after_host, before_arbiter, after_route, before_agent, linked_run, linked_ports, linked_states}
use Rattle.memory_awake.specs.Theorem.{Boundaries, States, ArePlanned, AreMachines}
use Rattle.memory_awake.specs.Wires.{IsWire, HandsAllOn}
use Rattle.memory_awake.proofs.RowRuns.{Links, wire, cuts_run, fits_run, gathers_run, drops_run, drops_some_are}
use Rattle.memory_awake.proofs.Widened.{wire_chain}

pub record Laws : Type 0 where
  pub links : Links
  pub host : (responses : Responses) (side : HostSide) (inputs : HostInputs) (end : ℕ) →
      let state = host_state (host_registers responses side inputs) in
      let view = host_view responses side inputs state in
      IsHostMachine responses side view (host_lower side inputs view state) state end
  pub route : (responses : Responses) (system : System) (host room : ℕ) (inputs : RouteInputs) (end : ℕ) →
      let state = route_state (route_registers responses system host inputs) in
      IsRouteMachine responses system host room (route_upper responses system host inputs state) (route_lower system host inputs state) state end
  pub arbiter : (seats : List Seat) (hosts : ℕ) (inputs : ArbiterInputs) (end : ℕ) →
      let grant = arbiter_grant seats inputs in
      IsArbiterMachine seats hosts (arbiter_upper inputs grant) (arbiter_lower inputs grant) grant end
  pub agent : (responses : Responses) (side : AgentSide) (inputs : AgentInputs) (end : ℕ) → SuitsAgent side inputs.shape →
      let state = agent_state (agent_registers responses side inputs) in
      IsAgentMachine responses side (agent_view side inputs state) (agent_upper responses side inputs state) state end
  pub agent_side : (system : System) → IsMemoryPlan system → (a : ℕ) (shape : Shape) → a < system.agents → shape.word_bytes ≡ (system.agent a).word_bytes → shape.burst_bits ≡ (system.agent a).burst_bits → SuitsAgent (system.agent a) shape
  pub planned : (system : System) (inside : Boundaries) (states : States) → IsMemoryPlan system → ((h : ℕ) → h < system.hosts → (inside.after_host h).shape.word_bytes ≡ (system.host h).word_bytes) →
      ((h : ℕ) → h < system.hosts → 16 * longest_burst (inside.after_host h).shape.burst_bits < states.room h) → ArePlanned system inside states

-- a row of wires shows what is shown to it, at one boundary
wires_show : (cutter : Cutter) (fitter : Fitter) (drops : Bool) (rest : RowPlan) (inputs : Inputs) (registers : ℕ → RowRegisters) (c : ℕ) → cutter ≡ Uncut → fitter ≡ Unfitted → drops ≡ false →
    IsFalse (shows inputs.signals c) → IsFalse (shows (row_bottom (record rest { cutter = cutter; fitter = fitter; drops = drops }) inputs registers).commands.signals c)
wires_show cutter fitter drops rest inputs registers c k f d quiet =
    subst (λ k. IsFalse (shows (row_bottom (record rest { cutter = k; fitter = fitter; drops = drops }) inputs registers).commands.signals c)) (sym k)
    (subst (λ f. IsFalse (shows (row_bottom (record rest { cutter = Uncut; fitter = f; drops = drops }) inputs registers).commands.signals c)) (sym f)
    (subst (λ d. IsFalse (shows (row_bottom (record rest { cutter = Uncut; fitter = Unfitted; drops = d }) inputs registers).commands.signals c)) (sym d) quiet))

wires_are_one : (cutter : Cutter) (fitter : Fitter) (drops : Bool) (rest : RowPlan) (inputs : Inputs) (registers : ℕ → RowRegisters) (target : Target) → cutter ≡ Uncut → fitter ≡ Unfitted → drops ≡ false →
    SuitsRow target (record rest { cutter = cutter; fitter = fitter; drops = drops }) →
    IsWire (row_top (record rest { cutter = cutter; fitter = fitter; drops = drops }) inputs registers) (row_bottom (record rest { cutter = cutter; fitter = fitter; drops = drops }) inputs registers)
wires_are_one cutter fitter drops rest inputs registers target k f d =
    subst (λ k. SuitsRow target (record rest { cutter = k; fitter = fitter; drops = drops }) → IsWire (row_top (record rest { cutter = k; fitter = fitter; drops = drops }) inputs registers) (row_bottom (record rest { cutter = k; fitter = fitter; drops = drops }) inputs registers)) (sym k)
    (subst (λ f. SuitsRow target (record rest { cutter = Uncut; fitter = f; drops = drops }) → IsWire (row_top (record rest { cutter = Uncut; fitter = f; drops = drops }) inputs registers) (row_bottom (record rest { cutter = Uncut; fitter = f; drops = drops }) inputs registers)) (sym f)
    (subst (λ d. SuitsRow target (record rest { cutter = Uncut; fitter = Unfitted; drops = d }) → IsWire (row_top (record rest { cutter = Uncut; fitter = Unfitted; drops = d }) inputs registers) (row_bottom (record rest { cutter = Uncut; fitter = Unfitted; drops = d }) inputs registers)) (sym d)
    (λ suits.
    let plan = record rest { cutter = Uncut; fitter = Unfitted; drops = false } in
    let bottom = row_bottom plan inputs registers in
    wire_chain (row_top plan inputs registers) (row_middle plan inputs registers) bottom (wire bottom rest.top rest.middle suits.cutter).wire
    (wire_chain (row_middle plan inputs registers) (row_low plan inputs registers) bottom (wire bottom rest.middle rest.low suits.fitter).wire (wire bottom rest.low rest.bottom suits.dropper).wire))))

-- and hands all on, whatever its shapes
abbrev HandOn : RowPlan → Inputs → (ℕ → RowRegisters) → Type 0
HandOn plan inputs registers =
    HandsAllOn (row_top plan inputs registers) (row_middle plan inputs registers) × HandsAllOn (row_middle plan inputs registers) (row_low plan inputs registers) × HandsAllOn (row_low plan inputs registers) (row_bottom plan inputs registers)

wires_hand_on : (cutter : Cutter) (fitter : Fitter) (drops : Bool) (rest : RowPlan) (inputs : Inputs) (registers : ℕ → RowRegisters) → cutter ≡ Uncut → fitter ≡ Unfitted → drops ≡ false →
    HandOn (record rest { cutter = cutter; fitter = fitter; drops = drops }) inputs registers
wires_hand_on cutter fitter drops rest inputs registers k f d =
    subst (λ k. HandOn (record rest { cutter = k; fitter = fitter; drops = drops }) inputs registers) (sym k)
    (subst (λ f. HandOn (record rest { cutter = Uncut; fitter = f; drops = drops }) inputs registers) (sym f)
    (subst (λ d. HandOn (record rest { cutter = Uncut; fitter = Unfitted; drops = d }) inputs registers) (sym d)
    (record { commands = refl; answers = refl }, record { commands = refl; answers = refl }, record { commands = refl; answers = refl })))

-- where no beats are dropped a wire stands before the arbiter
pub undropped : (drops : Bool) (rest : RowPlan) (inputs : Inputs) (registers : ℕ → RowRegisters) (target : Target) → drops ≡ false → SuitsDropper drops target rest.low rest.bottom →
    IsWired (row_low (record rest { drops = drops }) inputs registers) (row_bottom (record rest { drops = drops }) inputs registers)
undropped drops rest inputs registers target e =
    subst (λ d. SuitsDropper d target rest.low rest.bottom → IsWired (row_low (record rest { drops = d }) inputs registers) (row_bottom (record rest { drops = d }) inputs registers)) (sym e)
    (λ suits. wire (row_bottom (record rest { drops = false }) inputs registers) rest.low rest.bottom suits)

-- links stand between a host and an agent that are joined
pub links_at_joined : {plan : LinkPlan} (suits : SuitsLinks plan) (h a : ℕ) → h < plan.system.hosts → a < plan.system.agents → IsTrue (is_joined plan.system a h) → IsFalse (suits.idle h a)
links_at_joined {plan} suits h a low there joined = by_test (suits.idle h a) refl
  where
    by_test : (b : Bool) → suits.idle h a ≡ b → IsFalse b
    by_test false e = refl
    by_test true e = absurd (both_ways (is_joined plan.system a h) (suits.apart h a low there e).0 joined)

or_false : (a b : Bool) → IsFalse (a || b) → IsFalse b
or_false false b e = e
or_false true b e = cc

-- a route shows nothing of a host that shows nothing
gate : (goes shut : Bool) (read write : ℕ) → IsFalse (is_raised read || is_raised write) → IsFalse (is_raised (if goes then (if shut then 0 else read) else 0) || is_raised (if goes then write else 0))
gate false shut read write quiet = refl
gate true false read write quiet = quiet
gate true true read write quiet = or_false (is_raised read) (is_raised write) quiet

module _ (laws : Laws) (responses : Responses) (plan : LinkPlan) (outside : Outside) (end : ℕ) where
  abbrev all : ℕ → Registers
  all = linked_registers responses plan outside

  abbrev system : System
  system = plan.system

  abbrev run : Run
  run = linked_run responses plan outside all

  -- ---- the registers are those that each machine's recursion tells

  same_host : (h c : ℕ) → host_registers responses (system.host h) (to_host responses plan outside all h) c ≡ (all c).host h
  same_host h zero = refl
  same_host h (suc c) = ap (λ (now : HostRegisters). host_step responses (system.host h) (to_host responses plan outside all h) now c) (same_host h c)

  same_route : (h c : ℕ) → route_registers responses system h (to_route responses plan outside all h) c ≡ (all c).route h
  same_route h zero = refl
  same_route h (suc c) = ap (λ (now : RouteRegisters). route_step responses system h (to_route responses plan outside all h) now c) (same_route h c)

  same_row : (h a c : ℕ) → row_registers (row_of plan h a) (to_row responses plan outside all h a) c ≡ (all c).row h a
  same_row h a zero = refl
  same_row h a (suc c) = ap (λ (now : RowRegisters). row_step (row_of plan h a) (to_row responses plan outside all h a) now c) (same_row h a c)

  same_arbiter : (a c : ℕ) → arbiter_registers (seats_of system a) (to_arbiter responses plan outside all a) c ≡ (all c).arbiter a
  same_arbiter a zero = refl
  same_arbiter a (suc c) = ap (λ (now : ArbiterRegisters). arbiter_step (to_arbiter responses plan outside all a) now c) (same_arbiter a c)

  same_agent : (a c : ℕ) → agent_registers responses (system.agent a) (to_agent responses plan outside all a) c ≡ (all c).agent a
  same_agent a zero = refl
  same_agent a (suc c) = ap (λ (now : AgentRegisters). agent_step responses (system.agent a) (to_agent responses plan outside all a) now c) (same_agent a c)

  host_machine : (h : ℕ) → IsHostMachine responses (system.host h) (run.at_host h) (after_host responses plan outside all h) (host_state (λ c. (all c).host h)) end
  host_machine h =
      let inputs = to_host responses plan outside all h in
      let machine : IsHostMachine responses (system.host h) (run.at_host h) (host_lower (system.host h) inputs (run.at_host h) (host_state (λ c. (all c).host h))) (host_state (λ c. (all c).host h)) end =
      subst (λ (r : ℕ → HostRegisters). IsHostMachine responses (system.host h) (host_view responses (system.host h) inputs (host_state r)) (host_lower (system.host h) inputs (host_view responses (system.host h) inputs (host_state r)) (host_state r)) (host_state r) end)
      (fun_ext (same_host h)) (laws.host responses (system.host h) inputs end) in
      record {
        words = machine.words;
        units = machine.units;
        bursts = machine.bursts;
        read = machine.read;
        write = machine.write;
        address = machine.address;
        word = machine.word;
        enables = machine.enables;
        count = machine.count;
        more = machine.more;
        tag = machine.tag;
        wait = machine.wait;
        starts = machine.starts;
        lasts = machine.lasts;
        quiet = machine.quiet;
        asks = machine.asks;
        queues = λ has. (let queue = machine.queues has in record { begins = queue.begins; next = queue.next });
        valid = machine.valid;
        answer = machine.answer;
        response = machine.response;
      }

  route_machine : (h room : ℕ) → IsRouteMachine responses system h room (after_host responses plan outside all h) (λ a. after_route responses plan outside all h a) (route_state (λ c. (all c).route h)) end
  route_machine h room =
      let inputs = to_route responses plan outside all h in
      subst (λ (r : ℕ → RouteRegisters). IsRouteMachine responses system h room (route_upper responses system h inputs (route_state r)) (route_lower system h inputs (route_state r)) (route_state r) end)
      (fun_ext (same_route h)) (laws.route responses system h room inputs end)

  arbiter_machine : (a : ℕ) → IsArbiterMachine (seats_of system a) system.hosts (λ h. before_arbiter responses plan outside all h a) (before_agent responses plan outside all a) (λ c. ((all c).arbiter a).grant) end
  arbiter_machine a =
      let inputs = to_arbiter responses plan outside all a in
      subst (λ (r : ℕ → ArbiterRegisters). IsArbiterMachine (seats_of system a) system.hosts (arbiter_upper inputs (λ c. (r c).grant)) (arbiter_lower inputs (λ c. (r c).grant)) (λ c. (r c).grant) end)
      (fun_ext (same_arbiter a)) (laws.arbiter (seats_of system a) system.hosts inputs end)

  agent_machine : (a : ℕ) → SuitsAgent (system.agent a) (agent_inner plan a) → IsAgentMachine responses (system.agent a) (run.at_agent a) (before_agent responses plan outside all a) (agent_state (λ c. (all c).agent a)) end
  agent_machine a suits =
      let inputs = to_agent responses plan outside all a in
      subst (λ (r : ℕ → AgentRegisters). IsAgentMachine responses (system.agent a) (agent_view (system.agent a) inputs (agent_state r)) (agent_upper responses (system.agent a) inputs (agent_state r)) (agent_state r) end)
      (fun_ext (same_agent a)) (laws.agent responses (system.agent a) inputs end suits)

  module _ (is_plan : IsMemoryPlan system) (suits : SuitsLinks plan) where
    pub planned : ArePlanned system (boundaries_of (linked_ports responses plan outside all)) (linked_states responses plan outside all)
    planned = laws.planned system (boundaries_of (linked_ports responses plan outside all)) (linked_states responses plan outside all) is_plan (λ h low. refl) (λ h low. omega arith)

    pub machines : AreFitHosts system outside end → AreMachines responses system run (boundaries_of (linked_ports responses plan outside all)) (linked_states responses plan outside all) end
    machines fit = record {
      one_word = λ h low none c less reads. fit.one_word h c low less none reads;
      host = λ h low. host_machine h;
      route = λ h low. route_machine h _;
      arbiter = λ a there. arbiter_machine a;
      silent = λ a there h c past low.
          let wires = suits.past h a past in
          wires_show (plan.cutter h a) (plan.fitter h a) (plan.drops h a) (row_of plan h a) (to_row responses plan outside all h a) (λ c. (all c).row h a) c wires.uncut wires.unfitted wires.undropped
          (gate (goes_to system h (asked_side (to_route responses plan outside all h)) (route_state (λ c. (all c).route h)) a c) (is_shut (system.host h) (host_state (λ c. (all c).host h)) c) ((outside.host h).read c) ((outside.host h).write c) (fit.none_past h c past));
      stage = λ a i there low. let none = suits.stages in absurd (omega (arith, low, none));
      agent = λ a there. agent_machine a (laws.agent_side system is_plan a (agent_inner plan a) there refl refl);
    }

    dropped : (h a : ℕ) → h < system.hosts → a < system.agents → IsFalse (suits.idle h a) → (d : DropsBeats (target_of system a) (row_low (row_of plan h a) (to_row responses plan outside all h a) (λ c. (all c).row h a)) (row_bottom (row_of plan h a) (to_row responses plan outside all h a) (λ c. (all c).row h a))) × (drops_some d ≡ plan.drops h a)
    dropped h a low there joined =
        let row = suits.rows h a low there joined in
        subst (λ (r : ℕ → RowRegisters). (d : DropsBeats (target_of system a) (row_low (row_of plan h a) (to_row responses plan outside all h a) r) (row_bottom (row_of plan h a) (to_row responses plan outside all h a) r)) × (drops_some d ≡ plan.drops h a)) (fun_ext (same_row h a))
        (drops_run laws.links (to_row responses plan outside all h a) (plan.drops h a) (row_of plan h a) (target_of system a) row.dropper row.room, drops_some_are laws.links (to_row responses plan outside all h a) (plan.drops h a) (row_of plan h a) (target_of system a) row.dropper row.room)

    -- what fits words, with the cutter above it
    fitted : (h a : ℕ) → h < system.hosts → a < system.agents → IsFalse (suits.idle h a) →
        (k : CutsBursts (row_top (row_of plan h a) (to_row responses plan outside all h a) (λ c. (all c).row h a)) (row_middle (row_of plan h a) (to_row responses plan outside all h a) (λ c. (all c).row h a)))
        × (f : FitsWords (target_of system a) (row_middle (row_of plan h a) (to_row responses plan outside all h a) (λ c. (all c).row h a)) (row_low (row_of plan h a) (to_row responses plan outside all h a) (λ c. (all c).row h a)))
        × GathersBelowCut k f
    fitted h a low there joined =
        let row = suits.rows h a low there joined in
        let into = to_row responses plan outside all h a in
        subst (λ (r : ℕ → RowRegisters). (k : CutsBursts (row_top (row_of plan h a) into r) (row_middle (row_of plan h a) into r))
        × (f : FitsWords (target_of system a) (row_middle (row_of plan h a) into r) (row_low (row_of plan h a) into r)) × GathersBelowCut k f) (fun_ext (same_row h a)) (
          cuts_run laws.links into (plan.cutter h a) (row_of plan h a) row.cutter,
          fits_run laws.links into (plan.fitter h a) (row_of plan h a) (target_of system a) row.fitter row.room,
          gathers_run laws.links into (plan.cutter h a) (plan.fitter h a) (row_of plan h a) (target_of system a) row.cutter row.fitter row.room row.gathering,
        )

    pub are_rows : AreFitHosts system outside end → AreRows system run (linked_ports responses plan outside all) end
    are_rows fit = record {
      idle = suits.idle;
      views = fit.ports;
      cuts = λ h a low there joined. (fitted h a low there joined).0;
      fits = λ h a low there joined. (fitted h a low there joined).1;
      gathers = λ h a low there joined. (fitted h a low there joined).2;
      drops = λ h a low there joined. (dropped h a low there joined).0;
      lanes = λ h a low there joined none. suits.lanes h a low there joined (sym (dropped h a low there joined).1 ∙ none);
      wired = λ h a low there joined alike.
          let wires = suits.wired h a low there joined alike in
          wires_are_one (plan.cutter h a) (plan.fitter h a) (plan.drops h a) (row_of plan h a) (to_row responses plan outside all h a) (λ c. (all c).row h a) (target_of system a) wires.uncut wires.unfitted wires.undropped (suits.rows h a low there (links_at_joined suits h a low there joined));
      apart = λ h a low there idle.
          let apart = suits.apart h a low there idle in
          let wires = apart.1 in
          let on = wires_hand_on (plan.cutter h a) (plan.fitter h a) (plan.drops h a) (row_of plan h a) (to_row responses plan outside all h a) (λ c. (all c).row h a) wires.uncut wires.unfitted wires.undropped in
          (apart.0, record { high = on.0; mid = on.1; low = on.2 });
    }
