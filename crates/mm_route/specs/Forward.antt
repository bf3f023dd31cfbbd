-- What the first call leaves in a netlist: the registers, the place of the command, the gate, and the commands below.
use Rattle.std.specs.Prelude.{◌≡◌, ℕ, ◌+◌, ◌*◌, Bool, true, false, ◌||◌, ◌==◌, if◌then◌else◌, nat_eq, nat_lt, List, [], ◌∷◌, length, Option, Some, None, is_some}
use Rattle.std.proofs.Common.{sym, subst, ap, ◌∙◌}
use Rattle.histories.specs.History.{is_raised, one_if}
use Rattle.netlist.specs.Nets.{NetValue}
use Rattle.netlist.specs.Netlists.{Netlist, IsWaiting}
use Rattle.netlist.specs.Runs.{Cycle, Always}
use Rattle.netlist.specs.Longer.{Extends}
use Rattle.net_parts.specs.Nets.{IsBit}
use Rattle.net_parts.specs.Groups.{InGroup}
use Rattle.net_parts.specs.Laws.{net_lasts}
use Rattle.command_nets.specs.declared.nets.CommandNets.{CommandNets}
use Rattle.memory_runs.specs.declared.sides.route.Route.{Route}
use Rattle.mm_route.specs.declared.registers.LatchNets.{LatchNets}
use Rattle.mm_route.specs.declared.registers.RegisterNets.{RegisterNets}
use Rattle.mm_route.specs.declared.shown.ShownNets.{ShownNets}
use Rattle.mm_route.specs.declared.route.HeldRoute.{HeldRoute}
use Rattle.mm_route.specs.declared.route.HeldRoute.TheVariants.{Wired, Routed}
use Rattle.mm_route.specs.declared.router.HeldRouter.{HeldRouter}
use Rattle.mm_route.specs.Entries.{AreEntries, kind_of, hits, is_lone, one_entry}
use Rattle.mm_route.specs.Registers.{registers_of, AreRegisterNets, RegistersStartLow, RegistersWait, register_nets_last, start_lasts, registers_wait_on}
use Rattle.mm_route.specs.Shown.{AreShownNets, AreShown, shown_nets_last, shown_last}
use Rattle.mm_route.specs.Wire.{WireKeeps, WireForward, wire_keeps_last, wire_forward_lasts}

-- this place, or inside a burst the latched one
abbrev pub latched_in : Cycle → Option LatchNets → ℕ → ℕ
latched_in cycle None place = place
latched_in cycle (Some latch) place = if cycle.net latch.inside.number == 0 then place else cycle.net latch.kept.number

-- the place of the command above, as a bit for each entry: latched inside a burst, else by its address
abbrev pub place_in : Cycle → List Route → RegisterNets → CommandNets → ℕ
place_in cycle entries registers command =
    latched_in cycle registers.latch (hits entries (kind_of (cycle.net command.write.number)) (cycle.net command.address.number))

-- where no place is latched, each command has one beat
abbrev pub HasSingleBeats : Netlist → RegisterNets → CommandNets → Type 0
HasSingleBeats netlist registers command = registers.latch ≡ None → Always netlist (λ cycle. cycle.net command.more.number ≡ 0)

-- a write goes on; a read does where no word is owed, or this very place owes them
abbrev pub opens : ℕ → ℕ → ℕ → ℕ → Bool
opens write owed owing place = is_raised write || nat_eq owed 0 || nat_eq owing place

-- the net is up where the command goes on
abbrev pub IsGate : Cycle → RegisterNets → NetValue → NetValue → NetValue → Type 0
IsGate cycle registers write place gate =
    is_raised (cycle.net gate.number)
    ≡ opens (cycle.net write.number) (cycle.net registers.owed.number) (cycle.net registers.owing.number)
    (cycle.net place.number)

-- the numbers of the registers that hold the state of a router
abbrev pub router_owns : HeldRouter → ℕ → Type 0
router_owns held n = InGroup (registers_of held.registers) n

-- the numbers of the registers that hold the state of a route
abbrev pub owns : HeldRoute → ℕ → Type 0
owns (Wired wire) n = n ≡ wire.owing.number
owns (Routed router) n = router_owns router n

-- the most nets that the first call makes for so many entries
abbrev pub forward_nets : ℕ → ℕ
forward_nets entries = 12 + 9 * entries

-- between the calls: the nets of a router stand, and its registers wait
pub record RouterKeeps (held : HeldRouter) (entries room_bits : ℕ) (netlist : Netlist) : Type 0 where
  pub registers : AreRegisterNets netlist held.registers entries room_bits
  pub waits : RegistersWait netlist held.registers
  pub shown : AreShownNets netlist held.shown entries
  pub owes : IsBit netlist held.owes
  pub owes_is : Always netlist (λ cycle. cycle.net held.owes.number ≡ one_if (nat_lt 0 (cycle.net held.registers.owed.number)))

-- after the first call, of a router: the commands below, one for each entry, each shown where the place is this entry and the
-- gate is open
pub record RouterForward (entries : List Route) (host : ℕ) (command : CommandNets) (commands : List CommandNets)
    (held : HeldRouter) (netlist : Netlist) : Type 0 where
  pub command_is : held.shown.command ≡ command
  pub count : length commands ≡ length entries
  pub entries_are : AreEntries held.shown.command.address.width entries
  pub nets : AreShownNets netlist held.shown (length entries)
  pub starts : RegistersStartLow netlist held.registers
  pub single : HasSingleBeats netlist held.registers held.shown.command
  pub place : Always netlist (λ cycle. cycle.net held.shown.place.number
      ≡ place_in cycle entries held.registers held.shown.command)
  pub gate : Always netlist (λ cycle. IsGate cycle held.registers held.shown.command.write held.shown.place held.shown.gate)
  pub tag : Always netlist (λ cycle. cycle.net held.shown.tag.number ≡ host)
  pub shown : AreShown netlist held.shown 0 commands

-- ---- a route: a wire where it is alone, else a router

abbrev pub RouteKeeps : HeldRoute → ℕ → ℕ → Netlist → Type 0
RouteKeeps (Wired wire) entries room_bits netlist = WireKeeps wire entries netlist
RouteKeeps (Routed router) entries room_bits netlist = RouterKeeps router entries room_bits netlist

abbrev pub is_wired : HeldRoute → Bool
is_wired (Wired wire) = true
is_wired (Routed router) = false

abbrev pub IsForward : List Route → ℕ → CommandNets → List CommandNets → HeldRoute → Netlist → Type 0
IsForward entries host command commands (Wired wire) netlist = WireForward entries host command commands wire netlist
IsForward entries host command commands (Routed router) netlist = RouterForward entries host command commands router netlist

-- after the first call: exactly a route that is alone is a wire
pub record RouteForward (entries : List Route) (host : ℕ) (command : CommandNets) (commands : List CommandNets) (held : HeldRoute)
    (netlist : Netlist) : Type 0 where
  pub kind : is_wired held ≡ is_lone entries command.address.width
  pub made : IsForward entries host command commands held netlist

-- a router latches the place of a burst exactly where there are bursts
abbrev pub LatchesFor : Bool → HeldRoute → Type 0
LatchesFor bursts (Wired wire) = Unit {0}
LatchesFor bursts (Routed router) = is_some router.registers.latch ≡ bursts

-- ---- what stands lasts

pub router_keeps_last : (held : HeldRouter) (entries room_bits : ℕ) (old new : Netlist) → RouterKeeps held entries room_bits old
    → Extends old new → ((n : ℕ) → router_owns held n → IsWaiting old n → IsWaiting new n)
    → RouterKeeps held entries room_bits new
router_keeps_last held entries room_bits old new h e w = record {
  registers = register_nets_last old new held.registers entries room_bits e h.registers;
  waits = registers_wait_on old new held.registers w h.waits;
  shown = shown_nets_last old new held.shown entries e h.shown;
  owes = net_lasts old new held.owes 1 e h.owes;
  owes_is = λ cycle v. h.owes_is cycle (e.valuations cycle v);
}

pub router_forward_lasts : (entries : List Route) (host : ℕ) (command : CommandNets) (commands : List CommandNets)
    (held : HeldRouter) (old new : Netlist) →
    RouterForward entries host command commands held old → Extends old new → RouterForward entries host command commands held new
router_forward_lasts entries host command commands held old new h e = record {
  command_is = h.command_is;
  count = h.count;
  entries_are = h.entries_are;
  nets = shown_nets_last old new held.shown (length entries) e h.nets;
  starts = start_lasts old new held.registers e h.starts;
  single = λ none cycle v. h.single none cycle (e.valuations cycle v);
  place = λ cycle v. h.place cycle (e.valuations cycle v);
  gate = λ cycle v. h.gate cycle (e.valuations cycle v);
  tag = λ cycle v. h.tag cycle (e.valuations cycle v);
  shown = shown_last old new held.shown 0 commands e h.shown;
}

pub keeps_lasts : (held : HeldRoute) (entries room_bits : ℕ) (old new : Netlist) → RouteKeeps held entries room_bits old
    → Extends old new → ((n : ℕ) → owns held n → IsWaiting old n → IsWaiting new n) → RouteKeeps held entries room_bits new
keeps_lasts (Wired wire) entries room_bits old new h e w = wire_keeps_last wire entries old new h e w
keeps_lasts (Routed router) entries room_bits old new h e w = router_keeps_last router entries room_bits old new h e w

is_forward_lasts : (entries : List Route) (host : ℕ) (command : CommandNets) (commands : List CommandNets) (held : HeldRoute)
    (old new : Netlist) →
    IsForward entries host command commands held old → Extends old new → IsForward entries host command commands held new
is_forward_lasts entries host command commands (Wired wire) old new h e =
    wire_forward_lasts entries host command commands wire old new h e
is_forward_lasts entries host command commands (Routed router) old new h e =
    router_forward_lasts entries host command commands router old new h e

pub forward_lasts : (entries : List Route) (host : ℕ) (command : CommandNets) (commands : List CommandNets) (held : HeldRoute)
    (old new : Netlist) →
    RouteForward entries host command commands held old → Extends old new → RouteForward entries host command commands held new
forward_lasts entries host command commands held old new h e =
    record { kind = h.kind; made = is_forward_lasts entries host command commands held old new h.made e }

-- ---- what a route is, whichever it is

pub as_many_commands : (entries : List Route) (host : ℕ) (command : CommandNets) (commands : List CommandNets) (held : HeldRoute)
    (netlist : Netlist)
    → RouteForward entries host command commands held netlist → length commands ≡ length entries
as_many_commands entries host command commands (Wired wire) netlist h =
    ap (length {A = CommandNets}) h.made.only ∙ sym (one_entry entries command.address.width (sym h.kind))
as_many_commands entries host command commands (Routed router) netlist h = h.made.count

-- each command always bears this tag
abbrev pub BearTag : Netlist → ℕ → List CommandNets → Type 0
BearTag netlist tag [] = Unit {0}
BearTag netlist tag (made ∷ later) = Always netlist (λ cycle. cycle.net made.tag.number ≡ tag) × BearTag netlist tag later

shown_bear : (netlist : Netlist) (tag : ℕ) (shown : ShownNets) (k : ℕ) (commands : List CommandNets)
    → Always netlist (λ cycle. cycle.net shown.tag.number ≡ tag) → AreShown netlist shown k commands
    → BearTag netlist tag commands
shown_bear netlist tag shown k [] is h = tt
shown_bear netlist tag shown k (made ∷ later) is h = (
  (λ cycle v. ap (λ (net : NetValue). cycle.net net.number) h.0.tag ∙ is cycle v),
  shown_bear netlist tag shown
      (k + 1) later is h.1,
)

pub commands_bear : (entries : List Route) (host : ℕ) (command : CommandNets) (commands : List CommandNets) (held : HeldRoute)
    (netlist : Netlist)
    → RouteForward entries host command commands held netlist → BearTag netlist host commands
commands_bear entries host command commands (Wired wire) netlist h =
    subst (λ (made : List CommandNets). BearTag netlist host made) (sym h.made.only) (h.made.tag, tt)
commands_bear entries host command commands (Routed router) netlist h =
    shown_bear netlist host router.shown 0 commands h.made.tag h.made.shown

pub owned_wait : (held : HeldRoute) (entries room_bits : ℕ) (netlist : Netlist) → RouteKeeps held entries room_bits netlist
    → (n : ℕ) → owns held n → IsWaiting netlist n
owned_wait (Wired wire) entries room_bits netlist h n is = subst (IsWaiting netlist) (sym is) h.waits
owned_wait (Routed router) entries room_bits netlist h n is = h.waits.wait n is
