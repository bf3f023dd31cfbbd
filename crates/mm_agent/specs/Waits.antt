-- How the wait of an agent is told: what two calls leave in a netlist.
use Rattle.std.specs.Prelude.{◌≡◌, ℕ, ◌+◌, ◌-◌, ◌^◌, ◌<◌, min, Bool, true, false, not, ◌&&◌, ◌||◌, nat_eq, if◌then◌else◌, Option, Some}
use Rattle.histories.specs.History.{is_raised}
use Rattle.iface_roles.specs.declared.records.AgentPort.{AgentPort}
use Rattle.netlist.specs.Nets.{NetValue}
use Rattle.netlist.specs.Netlists.{Netlist, IsNet}
use Rattle.netlist.specs.Runs.{Run, IsRun, Always}
use Rattle.netlist.specs.Longer.{Extends}
use Rattle.net_parts.specs.Nets.{StartsLow}
use Rattle.mm_agent.specs.declared.waits.HeldWait.{HeldWait}
use Rattle.mm_agent.specs.declared.waits.HeldWait.TheVariants.{Given, Soon, Counts}

-- without waitrequest a beat is accepted in its first cycle: no kind of beat that the agent has is to wait
abbrev pub accepts_soon : AgentPort → Bool
accepts_soon port = not (port.writes && not (nat_eq port.write_wait 0)) && not (port.reads && not (nat_eq port.read_wait 0))

-- for how many cycles the beat is to stand before it is accepted, by the level of `write`
abbrev pub wait_by : AgentPort → ℕ → ℕ
wait_by port write = if is_raised (if port.writes then write else 0) then port.write_wait else port.read_wait

-- the agent is shown a beat, by the levels of `read` and `write`
abbrev pub shows_beat : AgentPort → ℕ → ℕ → Bool
shows_beat port read write = is_raised (if port.reads then read else 0) || is_raised (if port.writes then write else 0)

-- the numbers of the registers
abbrev pub owns_wait : HeldWait → ℕ → Type 0
owns_wait Given n = ⊥
owns_wait Soon n = ⊥
owns_wait (Counts stood) n = n ≡ stood.number

-- ---- whether the agent is busy

-- it is where its waitrequest is high
pub record WaitsAsGiven (port : AgentPort) (given : Option NetValue) (busy : NetValue) : Type 0 where
  pub waits : port.waitrequest ≡ true
  pub is : given ≡ Some busy

-- no beat that it is shown waits
pub record WaitsNever (netlist : Netlist) (port : AgentPort) (write busy : NetValue) : Type 0 where
  pub waits : port.waitrequest ≡ false
  pub soon : accepts_soon port ≡ true
  pub is_busy : Always netlist (λ cycle. is_raised (cycle.net busy.number)
      ≡ not (nat_eq 0 (wait_by port (cycle.net write.number))))

-- it is until the beat has stood for as long as it is to stand. The register has room for one cycle more
pub record WaitsCount (netlist : Netlist) (port : AgentPort) (write busy stood : NetValue) : Type 0 where
  pub waits : port.waitrequest ≡ false
  pub late : accepts_soon port ≡ false
  pub net : IsNet netlist stood
  pub fits : (write : ℕ) → wait_by port write + 1 < 2 ^ stood.width
  pub starts : StartsLow netlist stood
  pub is_busy : Always netlist (λ cycle. is_raised (cycle.net busy.number)
      ≡ not (nat_eq (cycle.net stood.number) (wait_by port (cycle.net write.number))))

-- by the net that the agent gives, or by its times
abbrev pub IsWaitHeld : Netlist → AgentPort → Option NetValue → NetValue → NetValue → HeldWait → Type 0
IsWaitHeld netlist port given write busy Given = WaitsAsGiven port given busy
IsWaitHeld netlist port given write busy Soon = WaitsNever netlist port write busy
IsWaitHeld netlist port given write busy (Counts stood) = WaitsCount netlist port write busy stood

-- a register that counts is a net of this netlist
abbrev pub IsWaitStood : Netlist → HeldWait → Type 0
IsWaitStood netlist Given = Unit {0}
IsWaitStood netlist Soon = Unit {0}
IsWaitStood netlist (Counts stood) = IsNet netlist stood

-- ---- how the registers go on

-- while a beat stands, a count of so many bits rises by one, up to its largest value; else it is 0
abbrev pub stood_next : ℕ → Bool → ℕ → ℕ
stood_next bits stands stood = if stands then min (stood + 1) (2 ^ bits - 1) else 0

pub record StoodOn (netlist : Netlist) (port : AgentPort) (read write busy stood : NetValue) : Type 0 where
  pub next : (run : Run) (cycles : ℕ) → IsRun netlist run cycles → (c : ℕ) → c + 1 < cycles
      → run.net (c + 1) stood.number
      ≡ stood_next stood.width
      (shows_beat port (run.net c read.number) (run.net c write.number) && is_raised (run.net c busy.number))
      (run.net c stood.number)

abbrev pub WaitGoesOn : Netlist → AgentPort → NetValue → NetValue → NetValue → HeldWait → Type 0
WaitGoesOn netlist port read write busy Given = Unit {0}
WaitGoesOn netlist port read write busy Soon = Unit {0}
WaitGoesOn netlist port read write busy (Counts stood) = StoodOn netlist port read write busy stood

-- ---- what stands lasts. No contract reads these proofs; the laws of the agent cite them

pub stood_is_net : (netlist : Netlist) (port : AgentPort) (given : Option NetValue) (write busy : NetValue) (held : HeldWait)
    → IsWaitHeld netlist port given write busy held → IsWaitStood netlist held
stood_is_net netlist port given write busy Given h = tt
stood_is_net netlist port given write busy Soon h = tt
stood_is_net netlist port given write busy (Counts stood) h = h.net

pub wait_lasts : (old new : Netlist) (port : AgentPort) (given : Option NetValue) (write busy : NetValue) (held : HeldWait)
    → IsWaitHeld old port given write busy held → Extends old new → IsWaitHeld new port given write busy held
wait_lasts old new port given write busy Given h e = h
wait_lasts old new port given write busy Soon h e =
    record { waits = h.waits; soon = h.soon; is_busy = λ cycle v. h.is_busy cycle (e.valuations cycle v) }
wait_lasts old new port given write busy (Counts stood) h e = record {
  waits = h.waits;
  late = h.late;
  net = e.nets stood.number stood.width h.net;
  fits = h.fits;
  starts = λ run cycles r. h.starts run cycles (e.runs run cycles r);
  is_busy = λ cycle v. h.is_busy cycle (e.valuations cycle v);
}

pub wait_goes_on : (old new : Netlist) (port : AgentPort) (read write busy : NetValue) (held : HeldWait)
    → WaitGoesOn old port read write busy held → Extends old new → WaitGoesOn new port read write busy held
wait_goes_on old new port read write busy Given h e = h
wait_goes_on old new port read write busy Soon h e = h
wait_goes_on old new port read write busy (Counts stood) h e =
    record { next = λ run cycles r. h.next run cycles (e.runs run cycles r) }
