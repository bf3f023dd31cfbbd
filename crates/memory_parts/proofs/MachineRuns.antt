-- The runs of the machines obey their equations.
use Rattle.std.proofs.Common.{ℕ, zero, suc, ◌<◌, ◌≤◌, ◌≡◌, ◌+◌, ◌-◌, ◌*◌, ◌/◌, ◌%◌, ◌^◌, List, Bool, true, false, ◌&&◌, ◌||◌, if◌then◌else◌, nat_eq, arith, refl, sym, ap, ◌∙◌, Option, Some, None, IsTrue, IsFalse, MatchOption, mul_assoc}
use Rattle.std.proofs.lemmas.Bool.{ne_eqb}
use Rattle.std.proofs.lemmas.Nat.{pow_pos}
use Rattle.std.proofs.Math.Nat.{div-add-mod', mul-div_cancel}
use Rattle.histories.specs.Turns.{Seat}
use Rattle.histories.specs.History.{is_raised, one_if}
use Rattle.memory_runs.specs.Views.{Responses, System, HostSide, AgentSide, AgentView, levels_at}
use Rattle.memory_runs.specs.Commands.{burst_after, burst_before, byte_address, shows}
use Rattle.memory_machines.specs.Link.{Port, takes, closes}
use Rattle.memory_machines.specs.Lines.{TaggedPort}
use Rattle.memory_machines.specs.Machines.{raw_at, mark}
use Rattle.memory_machines.specs.Turns.{Grant, chosen, open_after, ends_at}
use Rattle.memory_parts.specs.Queue.{by_option}
use Rattle.memory_parts.specs.Host.{IsHostMachine}
use Rattle.memory_parts.specs.HostRun.{HostInputs, HostRegisters, host_at_rest, host_step, host_state, host_view, host_lower, host_waits}
use Rattle.memory_parts.specs.Route.{RouteState, IsRouteMachine}
use Rattle.memory_parts.specs.RouteRun.{RouteInputs, RouteRegisters, route_at_rest, route_step, route_state, route_upper, route_lower}
use Rattle.memory_parts.specs.Arbiter.{IsArbiterMachine}
use Rattle.memory_parts.specs.ArbiterRun.{ArbiterInputs, ArbiterRegisters, arbiter_at_rest, arbiter_step, arbiter_upper, arbiter_lower, asks_now}
use Rattle.memory_parts.specs.Agent.{AgentState, ShowsToAgent, GivesQueued, GivesFixed, IsAgentMachine, code_by, row_places}
use Rattle.memory_parts.specs.AgentRun.{AgentInputs, SuitsAgent, AgentRegisters, agent_at_rest, agent_step, agent_state, agent_view, agent_upper, timed}
use Rattle.memory_parts.proofs.AgentShown.{aligned_rest}

pub raised : (b : Bool) → is_raised (one_if b) ≡ b
raised true = refl
raised false = refl

-- registers that begin at rest, and step by step go on as the machine's
module _ (responses : Responses) (side : HostSide) (inputs : HostInputs) (end : ℕ) (registers : ℕ → HostRegisters)
    (first : registers 0 ≡ host_at_rest) (next : (c : ℕ) → registers (suc c) ≡ host_step responses side inputs (registers c) c) where
  pub host_runs : IsHostMachine responses side (host_view responses side inputs (host_state registers)) (host_lower side inputs (host_view responses side inputs (host_state registers)) (host_state registers)) (host_state registers) end
  host_runs = record {
    words = refl;
    units = refl;
    bursts = refl;
    read = λ c low. refl;
    write = λ c low. refl;
    address = λ c low. refl;
    word = λ c low. refl;
    enables = λ c low. refl;
    count = λ c low. refl;
    more = λ c low. refl;
    tag = λ c low. refl;
    wait = λ c low. raised (host_waits side inputs (host_state registers) c);
    starts = ap (λ (r : HostRegisters). r.left) first;
    lasts = λ c low. ap (λ (r : HostRegisters). r.left) (next c);
    quiet = ap (λ (r : HostRegisters). r.asked) first;
    asks = λ c low has. ap (λ (r : HostRegisters). r.asked) (next c);
    queues = λ has. record { begins = ap (λ (r : HostRegisters). r.queue) first; next = λ c low. ap (λ (r : HostRegisters). r.queue) (next c) };
    valid = λ c low has. ap (λ b. is_raised (if b then inputs.answers.valid c else 0)) has;
    answer = λ c low comes. refl;
    response = λ c low. refl;
  }

module _ (responses : Responses) (system : System) (host room : ℕ) (inputs : RouteInputs) (end : ℕ) (registers : ℕ → RouteRegisters)
    (first : registers 0 ≡ route_at_rest) (next : (c : ℕ) → registers (suc c) ≡ route_step responses system host inputs (registers c) c) where
  abbrev state : RouteState
  state = route_state registers

  owed_next : (x y : ℕ) → y ≤ x → (x - y) + y ≡ x
  owed_next x y low = omega (arith, low)

  pub route_runs : IsRouteMachine responses system host room (route_upper responses system host inputs state) (route_lower system host inputs state) state end
  route_runs = record {
    shapes = λ a there. refl;
    read = λ a c there low. refl;
    write = λ a c there low. refl;
    address = λ a c there low. refl;
    word = λ a c there low. refl;
    enables = λ a c there low. refl;
    count = λ a c there low. refl;
    more = λ a c there low. refl;
    tag = λ a c there low. refl;
    wait = λ c low. raised _;
    outside = ap (λ (r : RouteRegisters). r.inside) first;
    stays = λ c low. ap (λ (r : RouteRegisters). r.inside) (next c);
    keeps = λ c low. ap (λ (r : RouteRegisters). r.kept) (next c);
    nothing = ap (λ (r : RouteRegisters). r.owed) first;
    nobody = ap (λ (r : RouteRegisters). r.owing) first;
    counts = λ c low few some. ap (λ (r : RouteRegisters). r.owed + one_if (is_raised ((route_upper responses system host inputs state).answers.valid c))) (next c) ∙ owed_next _ _ some;
    owes = λ c low. ap (λ (r : RouteRegisters). r.owing) (next c);
    valid = λ c low. raised _;
    answer = λ c low comes. refl;
    code = λ c low comes. refl;
  }

module _ (seats : List Seat) (hosts : ℕ) (inputs : ArbiterInputs) (end : ℕ) (registers : ℕ → ArbiterRegisters)
    (first : registers 0 ≡ arbiter_at_rest seats) (next : (c : ℕ) → registers (suc c) ≡ arbiter_step inputs (registers c) c) where
  abbrev grant : ℕ → Grant
  grant c = (registers c).grant

  abbrev above : ℕ → Port
  above = arbiter_upper inputs grant

  abbrev below : Port
  below = (arbiter_lower inputs grant).port

  -- the bursts of the askers stand where the registers tell
  bursts_are : (h c : ℕ) → burst_before (above h).shape (above h).commands.signals (takes (above h)) c ≡ (registers c).bursts h
  bursts_are h zero = sym (ap (λ (r : ArbiterRegisters). r.bursts h) first)
  bursts_are h (suc c) = ap (burst_after inputs.shape (levels_at (inputs.asker h).signals c) (takes (above h) c)) (bursts_are h c) ∙ sym (ap (λ (r : ArbiterRegisters). r.bursts h) (next c))

  ends_same : (c h : ℕ) → takes below c && closes (mark inputs.shape ((registers c).bursts h) (raw_at (above h) c)) ≡ ends_at above below c h
  ends_same c h = ap (λ b. takes below c && closes (mark inputs.shape b (raw_at (above h) c))) (sym (bursts_are h c))

  open_same : (open_host choice : Option ℕ) (one other : ℕ → Bool) → ((h : ℕ) → one h ≡ other h) → open_after open_host choice one ≡ open_after open_host choice other
  open_same open_host None one other same = refl
  open_same open_host (Some host) one other same = ap (λ b. if b then None else Some host) (same host)

  shows_choice : (c : ℕ) (o : Option ℕ) → (chosen (grant c) (asks_now inputs c)).host ≡ o →
      MatchOption o (IsFalse (shows below.commands.signals c)) (λ host. raw_at below c ≡ raw_at (above host) c)
  shows_choice c None is = ap (λ o. is_raised (by_option o 0 (λ host. (inputs.asker host).signals.read c)) || is_raised (by_option o 0 (λ host. (inputs.asker host).signals.write c))) is
  shows_choice c (Some host) is = ap (λ o. record {
    levels = record {
      read = by_option o 0 (λ host. (inputs.asker host).signals.read c);
      write = by_option o 0 (λ host. (inputs.asker host).signals.write c);
      address = by_option o 0 (λ host. (inputs.asker host).signals.address c);
      word = by_option o 0 (λ host. (inputs.asker host).signals.word c);
      enables = by_option o 0 (λ host. (inputs.asker host).signals.enables c);
      count = by_option o 0 (λ host. (inputs.asker host).signals.count c);
    };
    more = by_option o 0 (λ host. (inputs.asker host).more c);
    tag = by_option o 0 (λ host. (inputs.asker host).tag c);
  }) is

  pub arbiter_runs : IsArbiterMachine seats hosts above (arbiter_lower inputs grant) grant end
  arbiter_runs = record {
    shapes = λ h there. refl;
    begins = ap (λ (r : ArbiterRegisters). r.grant) first;
    next = λ c low. ap (λ (r : ArbiterRegisters). r.grant) (next c) ∙ ap (λ o. record { open_host = o; round = (chosen (grant c) (asks_now inputs c)).round }) (open_same (grant c).open_host (chosen (grant c) (asks_now inputs c)).host _ _ (ends_same c));
    shown = λ c low. shows_choice c (chosen (grant c) (asks_now inputs c)).host refl;
    wait = λ h c there low asks. raised _;
    valid = λ h c there low. raised _;
    word = λ h c there low valid. refl;
    code = λ h c there low valid. refl;
  }

-- an offset in whole words is one in whole units
in_units : (offset word unit units : ℕ) → 0 < word → 0 < unit → word ≡ units * unit → offset % word ≡ 0 → (offset / unit) * unit ≡ offset
in_units offset word unit units some one whole aligned =
    let words = div-add-mod' offset word in
    let all : offset ≡ (offset / word) * word = omega (arith, words, aligned) in
    let units_all : offset ≡ (offset / word * units) * unit = all ∙ ap (λ w. (offset / word) * w) whole ∙ sym (mul_assoc (offset / word) units unit) in
    ap (λ n. (n / unit) * unit) units_all ∙ ap (λ n. n * unit) (mul-div_cancel (offset / word * units) one) ∙ sym units_all

gate : {A : Type 0} (b : Bool) (x y : A) → b ≡ true → (if b then x else y) ≡ x
gate true x y e = refl
gate false x y e = cc

shut : {A : Type 0} (b : Bool) (x y : A) → b ≡ false → (if b then x else y) ≡ y
shut false x y e = refl
shut true x y e = cc

module _ (responses : Responses) (side : AgentSide) (inputs : AgentInputs) (end : ℕ) (suits : SuitsAgent side inputs.shape) (registers : ℕ → AgentRegisters)
    (begins : registers 0 ≡ agent_at_rest) (steps : (c : ℕ) → registers (suc c) ≡ agent_step responses side inputs (registers c) c) where
  abbrev holding : AgentState
  holding = agent_state registers

  abbrev view : AgentView
  view = agent_view side inputs holding

  abbrev upper : TaggedPort
  upper = agent_upper responses side inputs holding

  address_is : (c : ℕ) → view.address c * side.unit_bytes ≡ byte_address inputs.shape (inputs.commands.signals.address c) % side.span
  address_is c =
      let at = inputs.commands.signals.address c * inputs.shape.unit_bytes in
      let plan = suits.plan in
      in_units (byte_address inputs.shape (inputs.commands.signals.address c) % side.span) side.word_bytes side.unit_bytes suits.units plan.word plan.unit suits.whole
      (ap (λ w. ((at - at % w) % side.span) % side.word_bytes) suits.words ∙ aligned_rest at side.word_bytes plan.span side.span plan.spans)

  all_ones : (bytes : ℕ) → (2 ^ bytes - 1) + 1 ≡ 2 ^ bytes
  all_ones bytes = let some = pow_pos bytes in omega (arith, some)

  commands_run : ShowsToAgent side view upper holding end
  commands_run = record {
    words = suits.words;
    bursts = suits.bursts;
    plain = suits.plain;
    read = λ c low has. gate side.has_read _ 0 has;
    no_read = λ c low has. shut side.has_read _ 0 has;
    write = λ c low has. gate side.has_write _ 0 has;
    no_write = λ c low has. shut side.has_write _ 0 has;
    address = λ c low. address_is c;
    word = λ c low has. gate side.has_write _ 0 has;
    no_word = λ c low has. shut side.has_write _ 0 has;
    enables = λ c low has. gate side.has_enables _ _ has;
    all_lanes = λ c low has. ap (λ n. n + 1) (shut side.has_enables _ _ has) ∙ all_ones side.word_bytes;
    count = λ c low. refl;
    grant = λ c low. refl;
    wait = λ c low. raised _;
    stood_first = ap (λ (r : AgentRegisters). r.stood) begins;
    stood_next = λ c low has. ap (λ (r : AgentRegisters). r.stood) (steps c);
    queues = λ has. record { begins = ap (λ (r : AgentRegisters). r.queue) begins; next = λ c low. ap (λ (r : AgentRegisters). r.queue) (steps c) };
  }

  queued_run : IsTrue side.has_readdatavalid → GivesQueued responses view upper holding end
  queued_run has = record {
    valid = λ c low. ap is_raised (gate side.has_readdatavalid _ _ has);
    word = λ c low. gate side.has_readdatavalid _ _ has;
    code = λ c low. gate side.has_readdatavalid _ _ has;
    tag = λ c low some. gate side.has_readdatavalid _ _ has;
  }

  at_once : (level : ℕ → ℕ) (c : ℕ) → IsFalse side.has_readdatavalid → 1 ≤ side.read_latency → timed side level c ≡ level c
  at_once level c has some = shut side.has_readdatavalid _ _ has ∙ shut (nat_eq side.read_latency 0) _ _ (ne_eqb side.read_latency 0 (λ none. omega (arith, none, some)))

  late : (level : ℕ → ℕ) (c : ℕ) → IsFalse side.has_readdatavalid → side.read_latency ≡ 0 → timed side level (suc c) ≡ level c
  late level c has none = shut side.has_readdatavalid _ _ has ∙ gate (nat_eq side.read_latency 0) _ _ (ap (λ n. nat_eq n 0) none)

  own_tag : (o : Option ℕ) (tag : ℕ) → tag ≡ by_option o 0 (λ tag. tag) → MatchOption o (Unit {0}) (λ own. tag ≡ own)
  own_tag None tag is = tt
  own_tag (Some own) tag is = is

  fixed_run : IsFalse side.has_readdatavalid → GivesFixed responses side view upper holding end
  fixed_run has = record {
    empty = λ i. ap (λ (r : AgentRegisters). r.row i) begins;
    first = λ c low. ap (λ (r : AgentRegisters). r.row 0) (steps c);
    next = λ c i low. ap (λ (r : AgentRegisters). r.row (suc i)) (steps c);
    valid = λ c low. ap is_raised (shut side.has_readdatavalid _ _ has) ∙ raised _;
    tag = λ c low. own_tag (holding.row c (row_places side - 1)) _ (shut side.has_readdatavalid _ _ has);
    word = λ c low some. at_once inputs.readdata c has some;
    code = λ c low some. at_once (λ c. code_by responses (inputs.response c)) c has some;
    word_late = λ c low none. late inputs.readdata c has none;
    code_late = λ c low none. late (λ c. code_by responses (inputs.response c)) c has none;
  }

  pub agent_runs : IsAgentMachine responses side view upper holding end
  agent_runs = record { commands = commands_run; queued = queued_run; fixed = fixed_run }
