-- The commands of the hosts that ask an agent.
use Rattle.std.proofs.Common.{◌≡◌, ℕ, zero, suc, ◌*◌, ◌^◌, ◌<◌, ◌≤◌, Bool, true, false, if◌then◌else◌, max, nat_eq, List, [], ◌∷◌, get_or, length, drop, Some, slice_get, ◌⊎◌, inl, inr, refl, sym, subst, ap, ◌∙◌, arith}
use Rattle.std.specs.List.{AllZip}
use Rattle.std.proofs.lemmas.Bool.{ne_eqb, cases_lt}
use Rattle.std.proofs.Math.Pow.{pow_mono}
use Rattle.std.proofs.lemmas.Nat.{pow_pos}
use Rattle.std.proofs.lemmas.Option.{slice_get_within, slice_get-get_or}
use Rattle.std.proofs.Math.Nat.{mul-le-mul_left, mul-one, mul_comm}
use Rattle.iface_roles.specs.declared.records.AgentPort.{AgentPort}
use Rattle.iface_roles.specs.declared.records.HostPort.{HostPort}
use Rattle.iface_roles.specs.Proper.{IsBoundedHost, range_of, span_of}
use Rattle.link_rules.specs.Plans.{PlanTable}
use Rattle.netlist.specs.Netlists.{Netlist}
use Rattle.netlist.specs.Runs.{Always}
use Rattle.memory_runs.specs.declared.sides.route.Route.{Route}
use Rattle.command_nets.specs.declared.nets.CommandNets.{CommandNets}
use Rattle.command_nets.specs.Nets.{AreCommandNets, Widths, widths_of}
use Rattle.mm_host.specs.declared.host.HeldHost.{HeldHost}
use Rattle.mm_host.specs.Forms.{IsHeld}
use Rattle.mm_route.specs.Shown.{AreCommandsOf, widths_below}
use Rattle.mm_route.specs.Forward.{BearTag, as_many_commands, commands_bear}
use Rattle.mm_arbiter.specs.declared.asker.Asker.{Asker}
use Rattle.mm_width.specs.Pairs.{MayMeet, MayAskOf}
use Rattle.mm_fabric.specs.declared.begun.BegunHost.{BegunHost}
use Rattle.mm_fabric.specs.declared.parts.Asking.{Asking}
use Rattle.mm_fabric.specs.declared.parts.Seat.{Seat}
use Rattle.mm_fabric.specs.Wide.{AsksFor, IsSeated}
use Rattle.mm_fabric.specs.Asks.{command_to, IsCommandFor, AsksAs, AllHaveCommands, CanAsk, AllCanAsk, IsSeatFor}

-- ---- the first route to an agent

pub past_route : (agent : ℕ) (routes : List Route) (commands : List CommandNets) (k : ℕ) (r : Route) → k < length routes → length commands ≡ length routes → ¬ ((get_or routes k r).agent ≡ agent) →
    command_to agent (drop k routes) (drop k commands) ≡ command_to agent (drop (suc k) routes) (drop (suc k) commands)
past_route agent [] commands k r lt e other = absurd (omega arith)
past_route agent (route ∷ routes) [] k r lt e other = absurd (omega (arith, e))
past_route agent (route ∷ routes) (command ∷ commands) zero r lt e other = let differs = ne_eqb route.agent agent other in rw differs refl
past_route agent (route ∷ routes) (command ∷ commands) (suc k) r lt e other = past_route agent routes commands k r (omega arith) (omega (arith, e)) other

-- what its command is
pub record IsOneOf (netlist : Netlist) (widths : Widths) (tag : ℕ) (command : CommandNets) : Type 0 where
  pub nets : AreCommandNets netlist command
  pub widths_are : widths_of command ≡ widths
  pub bears : Always netlist (λ cycle. cycle.net command.tag.number ≡ tag)

found : (netlist : Netlist) (widths : Widths) (tag agent : ℕ) (routes : List Route) (commands : List CommandNets) (command : CommandNets) → AreCommandsOf netlist widths commands → BearTag netlist tag commands → command_to agent routes commands ≡ Some command → IsOneOf netlist widths tag command
found netlist widths tag agent [] commands command w s e = absurd (cc)
found netlist widths tag agent (route ∷ routes) [] command w s e = absurd (cc)
found netlist widths tag agent (route ∷ routes) (first ∷ commands) command w s e = by (nat_eq route.agent agent) e (λ is. found netlist widths tag agent routes commands command w.1 s.1 is)
  where
    by : (b : Bool) → (if b then Some first else command_to agent routes commands) ≡ Some command → (command_to agent routes commands ≡ Some command → IsOneOf netlist widths tag command) → IsOneOf netlist widths tag command
    by true is later = subst (IsOneOf netlist widths tag) (cc) (record { nets = w.0.0; widths_are = w.0.1; bears = s.0 })
    by false is later = later is

-- ---- one of the hosts

pub have_at : (agent : ℕ) (begun : List BegunHost) (askers : List Asker) (k : ℕ) (d : Asker) → AllHaveCommands agent begun askers → k < length askers → (command : CommandNets) × IsCommandFor agent begun (get_or askers k d) command
have_at agent begun [] k d h lt = absurd (omega arith)
have_at agent begun (asker ∷ later) zero d h lt = h.0
have_at agent begun (asker ∷ later) (suc k) d h lt = have_at agent begun later k d h.1 (omega arith)

pub same_host : (begun : List BegunHost) (n : ℕ) (host x : BegunHost) → slice_get begun n ≡ Some host → x ≡ get_or begun n x → host ≡ x
same_host begun n host x at is = let there = slice_get-get_or begun n x (slice_get_within begun n host at) in cc

-- ---- all of them

pub can_have : (plan : PlanTable) (netlist : Netlist) (agent : ℕ) (port : AgentPort) (begun : List BegunHost) (askers : List Asker) → AllCanAsk plan netlist agent port begun askers → AllHaveCommands agent begun askers
can_have plan netlist agent port begun [] h = tt
can_have plan netlist agent port begun (asker ∷ later) h =
    ((h.0.command, record { host = h.0.host; at = h.0.at; many = as_many_commands _ _ _ _ h.0.host.trunk.route _ h.0.is.forward; leads = h.0.leads }), can_have plan netlist agent port begun later h.1)

-- a word of an agent is within its span
word_within : (byte_units : Bool) (bits word : ℕ) → word ≤ (if byte_units then max (2 ^ bits) word else 2 ^ bits * word)
word_within true bits word = omega arith
word_within false bits word =
    let more = mul-le-mul_left word (pow_pos bits) in
    let one = mul-one word in
    let turn = mul_comm word (2 ^ bits) in
    omega (arith, more, one, turn)

-- an address within such a range has few bits
few_address : (bits : ℕ) → 2 ^ bits ≤ 2 ^ 32 → bits ≤ 64
few_address bits within = by (cases_lt bits 64)
  where
    by : (bits < 64) ⊎ (64 ≤ bits) → bits ≤ 64
    by (inl few) = omega (arith, few)
    by (inr many) = absurd (let more = pow_mono many in omega (arith, more, within))

-- the command of a host's route may ask the agent
may_ask : (netlist : Netlist) (host : HostPort) (port : AgentPort) (held : HeldHost) (command : CommandNets) → IsHeld netlist host held → widths_of command ≡ widths_below held.command 4 → IsBoundedHost host → host.word_bytes ≤ range_of host → span_of port ≤ range_of host → MayAskOf host port (widths_of command)
may_ask netlist host port held command h widths bounded word span =
    let fields = h.fields in
    let low = bounded.range in
    let address = ap (λ (w : Widths). 2 ^ w.address) widths ∙ fields.reaches in
    let within = word_within port.byte_units port.address_bits port.word_bytes in
    record {
      word = ap (λ (w : Widths). w.word) widths ∙ fields.word.has_width;
      enables = ap (λ (w : Widths). w.enables) widths ∙ fields.enables.has_width;
      reaches_word = omega (arith, address, word);
      reaches_agent = omega (arith, address, within, span);
      count = ap (λ (w : Widths). w.count) widths ∙ fields.count.has_width;
      few = few_address (widths_of command).address (omega (arith, address, low));
    }

asks_one : (plan : PlanTable) (netlist : Netlist) (agent : ℕ) (port : AgentPort) (begun : List BegunHost) (asker : Asker) (one : Asking) → CanAsk plan netlist agent port begun asker → AsksAs agent begun asker one → AsksFor netlist port asker one
asks_one plan netlist agent port begun asker one h f =
    let same : f.is.host ≡ h.host = (let mine = f.is.at in let other = h.at in cc) in
    let own : h.host.port ≡ one.port = sym (f.port ∙ ap (λ (b : BegunHost). b.port) same) in
    let leads : command_to agent h.host.routes h.host.commands.items ≡ Some one.command = subst (λ (b : BegunHost). command_to agent b.routes b.commands.items ≡ Some one.command) same f.is.leads in
    let is = found netlist _ asker.host agent h.host.routes h.host.commands.items one.command h.is.commands (commands_bear _ _ _ _ h.host.trunk.route _ h.is.forward) leads in
    record {
      nets = is.nets;
      pair = subst (λ (p : HostPort). MayMeet p port) own h.pair;
      widths = subst (λ (p : HostPort). MayAskOf p port (widths_of one.command)) own (may_ask netlist h.host.port port h.host.trunk.host one.command h.is.trunk.held is.widths_are h.is.bounded h.word h.span);
      reaches = subst (λ n. span_of port ≤ n) (sym (ap (λ (w : Widths). 2 ^ w.address) is.widths_are ∙ h.is.trunk.held.fields.reaches)) h.span;
      tag = ap (λ (w : Widths). w.tag) is.widths_are;
      bears = is.bears;
    }

pub all_ask : (plan : PlanTable) (netlist : Netlist) (agent : ℕ) (port : AgentPort) (begun : List BegunHost) (askers : List Asker) (asking : List Asking) → AllCanAsk plan netlist agent port begun askers → AllZip (AsksAs agent begun) askers asking → AllZip (AsksFor netlist port) askers asking
all_ask plan netlist agent port begun [] [] h f = tt
all_ask plan netlist agent port begun [] (one ∷ asking) h f = absurd f
all_ask plan netlist agent port begun (asker ∷ askers) [] h f = absurd f
all_ask plan netlist agent port begun (asker ∷ askers) (one ∷ asking) h f = (asks_one plan netlist agent port begun asker one h.0 f.0, all_ask plan netlist agent port begun askers asking h.1 f.1)

pub all_seated : (netlist : Netlist) (port : AgentPort) (agent : ℕ) (begun : List BegunHost) (askers : List Asker) (asking : List Asking) (seats : List Seat) → AllZip (AsksAs agent begun) askers asking → AllZip (IsSeated netlist port) asking seats → AllZip (IsSeatFor netlist port agent begun) askers seats
all_seated netlist port agent begun [] [] [] f s = tt
all_seated netlist port agent begun [] [] (seat ∷ seats) f s = absurd s
all_seated netlist port agent begun [] (one ∷ asking) seats f s = absurd f
all_seated netlist port agent begun (asker ∷ askers) [] seats f s = absurd f
all_seated netlist port agent begun (asker ∷ askers) (one ∷ asking) [] f s = absurd s
all_seated netlist port agent begun (asker ∷ askers) (one ∷ asking) (seat ∷ seats) f s = (record { one = one; asks = f.0; seated = s.0 }, all_seated netlist port agent begun askers asking seats f.1 s.1)
