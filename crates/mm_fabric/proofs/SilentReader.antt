-- A host that doesn't read is never given a word.
use Rattle.std.proofs.Common.{◌≡◌, ℕ, zero, suc, ◌<◌, List, Bool, true, false, ◌&&◌, if◌then◌else◌, nat_lt, Option, None, IsTrue, refl, sym, ap, ◌∙◌, arith}
use Rattle.std.proofs.lemmas.Bool.{false≢true}
use Rattle.histories.specs.History.{is_raised, one_if}
use Rattle.netlist.specs.Netlists.{Netlist}
use Rattle.netlist.specs.Runs.{Run, cycle_of}
use Rattle.memory_runs.specs.Views.{System}
use Rattle.memory_runs.specs.Views.Responses.{AreCodes}
use Rattle.memory_machines.specs.Link.{Port, takes}
use Rattle.memory_parts.specs.Host.{HostState, IsHostMachine, is_shut}
use Rattle.memory_parts.specs.Queue.{takes_read, by_option}
use Rattle.memory_parts.specs.Route.{RouteState, IsRouteMachine, place_now, read_count}
use Rattle.memory_runs.specs.Sides.{host_side}
use Rattle.memory_runs.specs.declared.sides.route.Route.{Route}
use Rattle.command_nets.specs.Ports.{value_or}
use Rattle.mm_host.specs.Hosts.{host_view}
use Rattle.mm_fabric.specs.declared.parts.HostPart.{HostPart}
use Rattle.mm_fabric.specs.Parts.{IsHostPart}
use Rattle.mm_fabric.specs.Fabrics.{seen_at_host}
use Rattle.mm_fabric.proofs.Levels.{level_absent}

-- a route that takes no read gives no word
module _ (system : System) (host room : ℕ) (up : Port) (down : ℕ → Port) (state : RouteState) (end : ℕ) (machine : IsRouteMachine AreCodes system host room up down state end)
    (some : 0 < room) (never : (c : ℕ) → c < end → takes_read up c ≡ false) where
  nobody : (c : ℕ) → c < end → state.owing c ≡ None
  nobody zero low = machine.nobody
  nobody (suc c) low = machine.owes c low ∙ ap (λ b. if b then place_now system host up state c else state.owing c) (never c (omega (arith, low))) ∙ nobody c (omega (arith, low))

  quiet_by : (c : ℕ) → c < end → state.owed c ≡ 0 → is_raised (up.answers.valid c) ≡ false
  quiet_by c low none =
      machine.valid c low
      ∙ ap (λ (o : Option ℕ). by_option o (nat_lt 0 (state.owed c)) (λ a. is_raised ((down a).answers.valid c))) (nobody c low)
      ∙ ap (nat_lt 0) none

  nothing : (c : ℕ) → c < end → state.owed c ≡ 0
  nothing zero low = machine.nothing
  nothing (suc c) low =
      let within : c < end = omega (arith, low) in
      let before = nothing c within in
      let asked : read_count up c ≡ 0 = ap (λ b. if b then up.commands.count c else 0) (never c within) in
      let word : one_if (is_raised (up.answers.valid c)) ≡ 0 = ap one_if (quiet_by c within before) in
      let next = machine.counts c low (omega (arith, before, asked, some)) (omega (arith, word)) in
      omega (arith, before, asked, word, next)

  pub no_word : (c : ℕ) → c < end → is_raised (up.answers.valid c) ≡ false
  no_word c low = quiet_by c low (nothing c low)

and_low : (b : Bool) → (b && false) ≡ false
and_low true = refl
and_low false = refl

low_either : (b : Bool) (n : ℕ) → n ≡ 0 → (if b then 0 else n) ≡ 0
low_either true n none = refl
low_either false n none = none

module _ (netlist : Netlist) (number : ℕ) (routes : List Route) (part : HostPart) (is : IsHostPart netlist number routes part) (run : Run)
    (down : Port) (state : HostState) (end : ℕ) (machine : IsHostMachine AreCodes (host_side part.port) (host_view part.port part.held.nets part.told run) down state end) where
  -- a host without `read` has none taken below
  pub never_reads : part.port.reads ≡ false → (c : ℕ) → c < end → takes_read down c ≡ false
  never_reads none c low =
      let absent : value_or 0 part.held.nets.read (cycle_of run c) ≡ 0 = level_absent netlist part.port.reads 1 0 part.held.nets.read is.held.host.read none (cycle_of run c) in
      let read : down.commands.read c ≡ 0 = machine.read c low ∙ low_either (is_shut (host_side part.port) state c) (value_or 0 part.held.nets.read (cycle_of run c)) absent in
      ap (λ n. takes down c && is_raised n) read ∙ and_low (takes down c)

  -- so its `readdata`, which isn't there, may be seen as low
  pub seen_as_machine : (part.port.reads ≡ false → (c : ℕ) → c < end → is_raised (down.answers.valid c) ≡ false) → IsHostMachine AreCodes (host_side part.port) (seen_at_host part run) down state end
  seen_as_machine quiet = record {
    words = machine.words;
    units = machine.units;
    bursts = machine.bursts;
    read = machine.read;
    write = machine.write;
    address = machine.address;
    word = machine.word;
    enables = machine.enables;
    count = machine.count;
    more = machine.more;
    tag = machine.tag;
    wait = machine.wait;
    starts = machine.starts;
    lasts = machine.lasts;
    quiet = machine.quiet;
    asks = machine.asks;
    queues = machine.queues;
    valid = machine.valid;
    answer = λ c low valid. told c low valid part.port.reads refl;
    response = machine.response;
  }
    where
      told : (c : ℕ) → c < end → IsTrue (is_raised (down.answers.valid c)) → (b : Bool) → part.port.reads ≡ b → (if part.port.reads then run.net c part.told.readdata.number else 0) ≡ down.answers.word c
      told c low valid true reads = ap (λ b. if b then run.net c part.told.readdata.number else 0) reads ∙ machine.answer c low valid
      told c low valid false none = absurd (false≢true (sym (quiet none c low) ∙ valid))
