-- What is said of a plan's module holds of the one with constants for settled nets, and of the one without what no output depends on.
use Rattle.std.proofs.Common.{◌≡◌, ℕ, zero, suc, ◌+◌, ◌-◌, ◌^◌, ◌<◌, ◌≤◌, Bool, true, false, cond, List, [], ◌∷◌, take, count_by, slice_get, Option, Some, refl, sym, ap, subst, ◌∙◌, arith}
use Rattle.std.specs.Prelude.{codes, if◌then◌else◌}
use Rattle.std.proofs.lemmas.Option.{same_Some}
use Rattle.std.specs.Option.{option_map_or}
use Rattle.std.proofs.Math.Path.{fun_ext}
use Rattle.std.proofs.lemmas.List.Sums.{sum_by-cons}
use Rattle.av_base.specs.Word.{word}
use Rattle.system_tables.specs.declared.tables.EndId.{EndId}
use Rattle.address_map.specs.Maps.{hosts_of, agents_of}
use Rattle.link_rules.specs.Plans.{PlanTable}
use Rattle.netlist.specs.declared.line.Line.{Line}
use Rattle.netlist.specs.declared.line.PortLine.{PortLine}
use Rattle.netlist.specs.declared.line.Equation.TheVariants.{Input, Constant}
use Rattle.netlist.specs.Netlists.{Netlist, IsWellMade, driver_of, input_count, input_lines, input_net, line_of}
use Rattle.netlist.specs.Runs.{Cycle, Run, IsRun}
use Rattle.netlist.specs.Signals.{signal, port_named}
use Rattle.stream_runs.specs.Source.{IsLegalSource}
use Rattle.stream_runs.specs.Awake.{IsServedAwake}
use Rattle.stream_runs.specs.Ends.{Declared, Signals, side_of, view_of, signal_or, stream_of, run_of}
use Rattle.memory_runs.specs.Views.{Signals as CommandSignals, HostView, AgentView, Run as MemoryRun}
use Rattle.memory_runs.specs.Views.Responses.{AreCodes}
use Rattle.memory_runs.specs.Order.{ActsAsMemory, ReadsFromMemory}
use Rattle.memory_runs.specs.Whole.{IsLegalRun, IsSafe}
use Rattle.memory_runs.specs.Awake.{NeverIdles, IsFair}
use Rattle.memory_runs.specs.Onward.{NoHostHangs, AcceptsSoon}
use Rattle.memory_runs.specs.Moment.{Moment}
use Rattle.memory_runs.specs.Packed.{ReadsEachTouchedWordOnce}
use Rattle.memory_awake.specs.Onward.{prompt_window}
use Rattle.memory_waits.specs.Windows.{host_window}
use Rattle.memory_plans.specs.Systems.{memory_system}
use Rattle.memory_plans.specs.Shown.{silent_host, silent_agent, moment_in, standing_still}
use Rattle.port_tables.specs.Ports.{EndName, port_name, name_at, is_forward, role_word}
use Rattle.pruned_netlists.specs.Needed.{IsNeeded}
use Rattle.pruned_netlists.specs.Pruned.{IsPruned, HasWholeRun, HasWholeState, AreNeededBelow, over_and_over}
use Rattle.pruned_netlists.specs.Inputs.{inputs_needed, input_net_few}
use Rattle.settled_netlists.specs.Settled.{IsSettled}
use Rattle.narrowed_netlists.specs.Narrowed.{IsNarrowed, AreFixed, is_fixed}
use Rattle.port_tables.specs.Lists.{slice_get-some}
use Rattle.interconnect.proofs.LowNets.{length-input_lines}
use Rattle.interconnect.specs.Memory.{ServesMemory, CanShow, module_run}
use Rattle.interconnect.specs.Streams.{ServesStream, IsDrivenBy, IsJoinedBy, IsWired}

-- ---- what is shown hangs on the signals alone

-- the signal at the port of each name
abbrev Shows : Type 0
Shows = List ℕ → Option (ℕ → ℕ)

abbrev level_by : Shows → EndName → ℕ → List ℕ → ℕ → ℕ
level_by shows name absent role = signal_or absent (shows (port_name name role))

abbrev commands_by : Shows → ℕ → EndName → CommandSignals
commands_by shows bytes name = record {
  read = level_by shows name 0 (codes "read");
  write = level_by shows name 0 (codes "write");
  address = level_by shows name 0 (codes "address");
  word = level_by shows name 0 (codes "writedata");
  enables = level_by shows name (2 ^ bytes - 1) (codes "byteenable");
  count = level_by shows name 1 (codes "burstcount");
}

abbrev host_by : Shows → ℕ → EndName → HostView
host_by shows bytes name = record {
  signals = commands_by shows bytes name;
  waitrequest = level_by shows name 0 (codes "waitrequest");
  readdata = level_by shows name 0 (codes "readdata");
  readdatavalid = level_by shows name 0 (codes "readdatavalid");
  response = level_by shows name 0 (codes "response");
}

abbrev agent_by : Shows → ℕ → EndName → AgentView
agent_by shows bytes name = record {
  signals = commands_by shows bytes name;
  waitrequest = level_by shows name 0 (codes "waitrequest");
  readdata = level_by shows name 0 (codes "readdata");
  readdatavalid = level_by shows name 0 (codes "readdatavalid");
  response = level_by shows name 0 (codes "response");
  grant = level_by shows name 0 (codes "grant");
}

abbrev run_by : PlanTable → Shows → MemoryRun
run_by plan shows = record {
  at_host = λ h. option_map_or (λ (end : EndId). host_by shows ((memory_system plan).host h).word_bytes (name_at plan.system end)) (slice_get (hosts_of plan.system) h) silent_host;
  at_agent = λ a. option_map_or (λ (end : EndId). agent_by shows ((memory_system plan).agent a).word_bytes (name_at plan.system end)) (slice_get (agents_of plan.system) a) silent_agent;
}

same_memory : (plan : PlanTable) (whole pruned : Netlist) (one other : Run) → ((name : List ℕ) → signal whole one name ≡ signal pruned other name) → module_run plan whole one ≡ module_run plan pruned other
same_memory plan whole pruned one other h = ap (run_by plan) (fun_ext h)

abbrev ends_by : Shows → EndName → Signals
ends_by shows name = record {
  ready = shows (port_name name (codes "ready"));
  valid = shows (port_name name (codes "valid"));
  word = shows (port_name name (codes "data"));
  channel = shows (port_name name (codes "channel"));
  error = shows (port_name name (codes "error"));
  startofpacket = shows (port_name name (codes "startofpacket"));
  endofpacket = shows (port_name name (codes "endofpacket"));
  empty = shows (port_name name (codes "empty"));
}

-- ---- modules that show the same

-- each run and each valuation of the other module shows what one of the whole module shows
pub record Replaces (whole other : Netlist) : Type 0 where
  pub runs : (run : Run) (cycles : ℕ) → IsRun other run cycles → HasWholeRun whole other run cycles
  pub states : (state : Cycle) → HasWholeState whole other state

pub pruned_replaces : (whole pruned : Netlist) → IsPruned whole pruned → Replaces whole pruned
pruned_replaces whole pruned p = record { runs = p.runs; states = p.states }

pub settled_replaces : (whole settled : Netlist) → IsSettled whole settled → Replaces whole settled
settled_replaces whole settled s = record {
  runs = λ run cycles is. record { whole_run = run; is_run = s.runs run cycles is; inputs = refl; signals = λ name. sym (s.signals run name) };
  states = λ state. record {
    whole_state = (s.states state).whole_state;
    each = λ cycle v same. record {
      whole_cycle = cycle;
      valuation = s.valuations cycle v;
      same_state = (s.states state).each cycle v same;
      inputs = refl;
      signals = λ name. sym (s.signals (over_and_over cycle) name);
    };
  };
}

pub narrowed_replaces : (whole narrowed : Netlist) → IsNarrowed whole narrowed → Replaces whole narrowed
narrowed_replaces whole narrowed n = record { runs = n.runs; states = n.states }

-- ---- memory and streams

can_show : (plan : PlanTable) (whole pruned : Netlist) (state : Cycle) (moment : Moment) → (s : HasWholeState whole pruned state) → CanShow plan pruned state moment → CanShow plan whole s.whole_state moment
can_show plan whole pruned state moment s c =
    let w = s.each c.0 c.1 c.2 in
    (w.whole_cycle, w.valuation, w.same_state, c.3 ∙ ap (λ (m : MemoryRun). moment_in m 0) (sym (same_memory plan whole pruned (standing_still w.whole_cycle) (standing_still c.0) w.signals)))

pub memory_as : (plan : PlanTable) (whole pruned : Netlist) → Replaces whole pruned → ServesMemory plan whole → ServesMemory plan pruned
memory_as plan whole pruned p h = record {
  kept = h.kept;
  safe = λ run cycles is legal. (let w = p.runs run cycles is in
      let same = same_memory plan whole pruned w.whole_run run w.signals in
      subst (λ (m : MemoryRun). IsSafe AreCodes (memory_system plan) m cycles) same (h.safe w.whole_run cycles w.is_run (subst (λ (m : MemoryRun). IsLegalRun (memory_system plan) m cycles) (sym same) legal)));
  awake = λ run cycles is legal. (let w = p.runs run cycles is in
      let same = same_memory plan whole pruned w.whole_run run w.signals in
      subst (λ (m : MemoryRun). NeverIdles (memory_system plan) m cycles) same (h.awake w.whole_run cycles w.is_run (subst (λ (m : MemoryRun). IsLegalRun (memory_system plan) m cycles) (sym same) legal)));
  moves = λ run cycles is legal. (let w = p.runs run cycles is in
      let same = same_memory plan whole pruned w.whole_run run w.signals in
      subst (λ (m : MemoryRun). NoHostHangs (host_window (memory_system plan)) (memory_system plan) m cycles) same
      (h.moves w.whole_run cycles w.is_run (subst (λ (m : MemoryRun). IsLegalRun (memory_system plan) m cycles) (sym same) legal)));
  accepts = λ run cycles is legal. (let w = p.runs run (cycles + 2) is in
      let same = same_memory plan whole pruned w.whole_run run w.signals in
      subst (λ (m : MemoryRun). AcceptsSoon (prompt_window (memory_system plan)) (memory_system plan) m cycles) same
      (h.accepts w.whole_run cycles w.is_run (subst (λ (m : MemoryRun). IsLegalRun (memory_system plan) m (cycles + 2)) (sym same) legal)));
  fair = λ run cycles is legal. (let w = p.runs run cycles is in
      let same = same_memory plan whole pruned w.whole_run run w.signals in
      subst (λ (m : MemoryRun). IsFair (memory_system plan) m cycles) same (h.fair w.whole_run cycles w.is_run (subst (λ (m : MemoryRun). IsLegalRun (memory_system plan) m cycles) (sym same) legal)));
  reads_back = λ run cycles host agent contents a b is legal acts. (let w = p.runs run cycles is in
      let same = same_memory plan whole pruned w.whole_run run w.signals in
      subst (λ (m : MemoryRun). ReadsFromMemory (memory_system plan) m host agent contents cycles) same
      (h.reads_back w.whole_run cycles host agent contents a b w.is_run (subst (λ (m : MemoryRun). IsLegalRun (memory_system plan) m cycles) (sym same) legal)
      (subst (λ (m : MemoryRun). ActsAsMemory (memory_system plan) m contents agent cycles) (sym same) acts)));
  packed = λ run cycles host agent a b is legal. (let w = p.runs run cycles is in
      let same = same_memory plan whole pruned w.whole_run run w.signals in
      subst (λ (m : MemoryRun). ReadsEachTouchedWordOnce (memory_system plan) m host agent cycles) same
      (h.packed w.whole_run cycles host agent a b w.is_run (subst (λ (m : MemoryRun). IsLegalRun (memory_system plan) m cycles) (sym same) legal)));
  ignores_readdata = λ state one other shows_one shows_other inputs a lt. (let s = p.states state in
      h.ignores_readdata s.whole_state one other (can_show plan whole pruned state one s shows_one) (can_show plan whole pruned state other s shows_other) inputs a lt);
}

pub stream_as : (whole pruned : Netlist) (from to : EndName) (source sink : Declared) (fifo : ℕ) → Replaces whole pruned → ServesStream whole from to source sink fifo → ServesStream pruned from to source sink fifo
stream_as whole pruned from to source sink fifo p h run cycles is legal =
    let w = p.runs run cycles is in
    let same : signal whole w.whole_run ≡ signal pruned run = fun_ext w.signals in
    subst (λ (shows : Shows). IsServedAwake (stream_of source sink fifo) (run_of (ends_by shows from) (ends_by shows to) (signal_or 0 (shows (port_name to (codes "dropped"))))) cycles) same
    (h w.whole_run cycles w.is_run (subst (λ (shows : Shows). IsLegalSource (side_of source) (view_of (ends_by shows from)) cycles) (sym same) legal))

-- ---- wires

-- the other module has the same ports; an input drives what it drove, and so does this low net, which is as it was
pub record KeepsWires (whole other : Netlist) (low : ℕ) : Type 0 where
  pub ports : other.ports ≡ whole.ports
  pub inputs : (k j : ℕ) → driver_of whole k ≡ Some (input_net whole.ports j) → driver_of other k ≡ Some (input_net whole.ports j)
  pub dropped : (k : ℕ) → driver_of whole k ≡ Some low → driver_of other k ≡ Some low
  pub is_low : (k : ℕ) → driver_of whole k ≡ Some low → slice_get whole.lines low ≡ Some (line_of 1 (Constant (word 1 0))) → slice_get other.lines low ≡ Some (line_of 1 (Constant (word 1 0)))

pub pruned_keeps : (whole pruned : Netlist) (low : ℕ) → IsWellMade whole → IsPruned whole pruned → AreNeededBelow whole low → KeepsWires whole pruned low
pruned_keeps whole pruned low m p below = record {
  ports = p.ports;
  inputs = λ k j e. p.drivers k (input_net whole.ports j) e (inputs_needed whole (input_net whole.ports j) m (input_net_few whole.ports j));
  dropped = λ k e. p.drivers k low e below;
  is_low = λ k e at. p.constants low 1 (word 1 0) at (IsNeeded.drives k low e) below;
}

pub settled_keeps : (whole settled : Netlist) (low : ℕ) → IsSettled whole settled → KeepsWires whole settled low
settled_keeps whole settled low s = record {
  ports = s.ports;
  inputs = λ k j e. s.drivers k ∙ e;
  dropped = λ k e. s.drivers k ∙ e;
  is_low = λ k e at. s.constants low 1 (word 1 0) at;
}

pub narrowed_keeps : (whole narrowed : Netlist) (low : ℕ) → input_count whole.ports ≤ low → AreFixed whole (low + 1) → IsNarrowed whole narrowed → KeepsWires whole narrowed low
narrowed_keeps whole narrowed low behind fixed n = record {
  ports = n.ports;
  inputs = λ k j e. n.drivers k (input_net whole.ports j) e (λ m line lt at. (let few = input_net_few whole.ports j in fixed m line (omega (arith, lt, few, behind)) at));
  dropped = λ k e. n.drivers k low e fixed;
  is_low = λ k e at. n.lines low (line_of 1 (Constant (word 1 0))) at fixed;
}

driven_as : (whole other : Netlist) (output input : List ℕ) (low : ℕ) → KeepsWires whole other low → IsDrivenBy whole output input → IsDrivenBy other output input
driven_as whole other output input low w d = record {
  output_port = d.output_port;
  input_port = d.input_port;
  output_is = subst (λ (ps : List PortLine). port_named ps output ≡ Some d.output_port) (sym w.ports) d.output_is;
  input_is = subst (λ (ps : List PortLine). port_named ps input ≡ Some d.input_port) (sym w.ports) d.input_is;
  driver = subst (λ (ps : List PortLine). driver_of other d.output_port ≡ Some (input_net ps d.input_port)) (sym w.ports) (w.inputs d.output_port d.input_port d.driver);
}

joined_as : (forward : Bool) (whole other : Netlist) (from to : EndName) (role : List ℕ) (low : ℕ) → KeepsWires whole other low → IsJoinedBy forward whole from to role → IsJoinedBy forward other from to role
joined_as true whole other from to role low w h = driven_as whole other (port_name to role) (port_name from role) low w h
joined_as false whole other from to role low w h = driven_as whole other (port_name from role) (port_name to role) low w h

pub wired_as : (whole other : Netlist) (from to : EndName) (declared : Declared) (low : ℕ) → KeepsWires whole other low → IsWired whole from to declared low → IsWired other from to declared low
wired_as whole other from to declared low w h = record {
  joined = λ k port at. joined_as (is_forward port.role) whole other from to (role_word port.role) low w (h.joined k port at);
  dropped_port = h.dropped_port;
  dropped_is = subst (λ (ps : List PortLine). port_named ps (port_name to (codes "dropped")) ≡ Some h.dropped_port) (sym w.ports) h.dropped_is;
  dropped = w.dropped h.dropped_port h.dropped;
  is_low = w.is_low h.dropped_port h.dropped h.is_low;
}

-- ---- the low nets stand behind those of inputs, each of them needed

input_fixed : (p : PortLine) (ports : List PortLine) (j n : ℕ) (line : Line) (t : Bool) → slice_get (if t then input_lines (j + 1) ports else line_of p.width (Input j) ∷ input_lines (j + 1) ports) n ≡ Some line
    → ((m : ℕ) → slice_get (input_lines (j + 1) ports) m ≡ Some line → is_fixed line.equation ≡ true) → is_fixed line.equation ≡ true
input_fixed p ports j n line true at rest = rest n at
input_fixed p ports j zero line false at rest = ap (λ (l : Line). is_fixed l.equation) (sym (same_Some _ _ at))
input_fixed p ports j (suc m) line false at rest = rest m at

inputs_fixed : (ports : List PortLine) (j n : ℕ) (line : Line) → slice_get (input_lines j ports) n ≡ Some line → is_fixed line.equation ≡ true
inputs_fixed [] j n line e = cc
inputs_fixed (p ∷ ports) j n line e = input_fixed p ports j n line p.output e (λ m at. inputs_fixed ports (j + 1) m line at)

-- the first nets are those of inputs
pub first_fixed : (netlist : Netlist) (n : ℕ) (line : Line) → IsWellMade netlist → n < input_count netlist.ports → slice_get netlist.lines n ≡ Some line → is_fixed line.equation ≡ true
first_fixed netlist n line m lt at =
    let many = length-input_lines netlist.ports 0 in
    let some = slice_get-some (input_lines 0 netlist.ports) n (omega (arith, lt, many)) in
    let same : some.0 ≡ line = same_Some _ _ (sym (m.inputs.first n some.0 some.1) ∙ at) in
    subst (λ (l : Line). is_fixed l.equation ≡ true) same (inputs_fixed netlist.ports 0 n some.0 some.1)

-- the place at which a test holds for the j-th time
pub record IsCounted (test : ℕ → Bool) (xs : List ℕ) (j : ℕ) : Type 0 where
  pub place : ℕ
  pub item : ℕ
  pub at : slice_get xs place ≡ Some item
  pub test_is : test item ≡ true
  pub count : count_by test (take place xs) ≡ j

counted_here : (test : ℕ → Bool) (x : ℕ) (xs : List ℕ) (j : ℕ) (t : Bool) → test x ≡ t → (rest : ℕ) → j < cond (test x) 1 0 + rest → ((i : ℕ) → i < rest → IsCounted test xs i) → IsCounted test (x ∷ xs) j
counted_here test x xs zero true e rest lt more = record { place = 0; item = x; at = refl; test_is = e; count = refl }
counted_here test x xs (suc j) true e rest lt more =
    let less : suc j < 1 + rest = rw e at lt in
    let its = more j (omega (arith, less)) in
    let one = sum_by-cons (λ (y : ℕ). cond (test y) 1 0) x (take its.place xs) in
    let here : ◌≡◌ {A = ℕ} (cond (test x) 1 0) 1 = rw e refl in
    let count = its.count in
    record { place = suc its.place; item = its.item; at = its.at; test_is = its.test_is; count = omega (arith, one, here, count) }
counted_here test x xs j false e rest lt more =
    let less : j < 0 + rest = rw e at lt in
    let its = more j (omega (arith, less)) in
    let one = sum_by-cons (λ (y : ℕ). cond (test y) 1 0) x (take its.place xs) in
    let here : ◌≡◌ {A = ℕ} (cond (test x) 1 0) 0 = rw e refl in
    let count = its.count in
    record { place = suc its.place; item = its.item; at = its.at; test_is = its.test_is; count = omega (arith, one, here, count) }

pub counted_at : (test : ℕ → Bool) (xs : List ℕ) (number j : ℕ) → j < count_by test (take number xs) → IsCounted test xs j
counted_at test xs zero j h = absurd (omega arith)
counted_at test [] (suc number) j h = absurd (omega arith)
counted_at test (x ∷ xs) (suc number) j h = counted_here test x xs j (test x) refl (count_by test (take number xs)) (let one = sum_by-cons (λ (y : ℕ). cond (test y) 1 0) x (take number xs) in omega (arith, one, h)) (λ i lt. counted_at test xs number i lt)
