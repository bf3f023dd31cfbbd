-- A legal run of a module goes on: in the next cycle each beat that waits is fed once more, and nothing else.
use Rattle.std.proofs.Common.{◌≡◌, ◌⊎◌, inl, inr, ℕ, zero, suc, ◌+◌, ◌-◌, ◌*◌, ◌^◌, ◌<◌, ◌≤◌, Bool, true, false, not, ◌&&◌, ◌||◌, nat_eq, List, [], ◌∷◌, codes, slice_get, Option, Some, None, refl, sym, ap, ap₂, ◌∙◌, subst, arith}
use Rattle.std.specs.Prelude.{if◌then◌else◌, IsTrue, IsFalse}
use Rattle.std.specs.List.{list_any}
use Rattle.std.specs.Option.{option_map_or}
use Rattle.std.proofs.lemmas.Bool.{false≢true, and_parts, and_from, or_cases, or_left, or_right, eqb-true, eq-eqb, cond-true, cond-false}
use Rattle.std.proofs.lemmas.Nat.{pow_pos}
use Rattle.netlist.specs.declared.line.PortLine.{PortLine}
use Rattle.netlist.specs.Netlists.{Netlist, IsInputPort}
use Rattle.netlist.specs.Runs.{Cycle, Run, cycle_of, IsRun, Always, InputsFit}
use Rattle.netlist.specs.Signals.{port_net}
use Rattle.netlist.specs.Fed.{GoesOnFed}
use Rattle.stream_runs.specs.Ends.{signal_or}
use Rattle.histories.specs.History.{is_raised}
use Rattle.memory_runs.specs.Views.{Signals, Levels, HostView, AgentView, System, Run as MemoryRun, levels_at}
use Rattle.memory_runs.specs.Beginnings.{RunsAgreeBefore}
use Rattle.memory_runs.specs.Commands.{shows, is_held}
use Rattle.memory_runs.specs.Legal.{host_accepts}
use Rattle.memory_runs.specs.Whole.{IsLegalRun}
use Rattle.memory_runs.specs.Going.{waits_on, HostRests, AgentRests, AreAtRest}
use Rattle.iface_roles.specs.declared.records.Finished.{Finished}
use Rattle.iface_roles.specs.declared.records.Finished.TheVariants.{Host, Agent, Source, Sink, Other}
use Rattle.iface_roles.specs.declared.records.HostPort.{HostPort}
use Rattle.iface_roles.specs.declared.records.AgentPort.{AgentPort}
use Rattle.system_tables.specs.declared.tables.EndId.{EndId}
use Rattle.system_tables.specs.Tables.{SystemTable}
use Rattle.address_map.specs.Footprints.{known_at}
use Rattle.address_map.specs.Maps.{hosts_of, agents_of}
use Rattle.link_rules.specs.Plans.{PlanTable}
use Rattle.memory_plans.specs.Systems.{memory_system}
use Rattle.memory_plans.specs.Shown.{silent_host, silent_agent}
use Rattle.port_tables.specs.declared.roles.PortRole.{PortRole}
use Rattle.port_tables.specs.declared.roles.PortRole.TheVariants as role
use Rattle.port_tables.specs.Lists.{Among, among_at}
use Rattle.port_tables.specs.Ports.{role_word, name_at, ends_of, ports_of}
use Rattle.port_tables.specs.PortMaps.{IsPortIf, HasKnownPorts, port_at}
use Rattle.interconnect.specs.Memory.{level, host_view, agent_view, host_in, agent_in, module_run}
use Rattle.interconnect.specs.Going.{GoesOnLegally, LegalRunsGoOn}
use Rattle.interconnect.proofs.Apart.{sort, host_end, agent_end}
use Rattle.interconnect.proofs.HostPorts.{host_ports_are, agent_ports_are}
use Rattle.interconnect.proofs.Shown.{shown, shown_at}
use Rattle.interconnect.proofs.HostsShown.{level_same, same_levels}
use Rattle.interconnect.proofs.HostsServed.{agree_before, module_same, host_by, agent_by}

-- ---- some member passes a test

any_of : {X : Type 0} (test : X → Bool) (xs : List X) (x : X) → Among x xs → test x ≡ true → list_any test xs ≡ true
any_of test [] x among passes = absurd among
any_of test (y ∷ ys) x (inl same) passes = or_left (test y) (list_any test ys) (ap test same ∙ passes)
any_of test (y ∷ ys) x (inr among) passes = or_right (test y) (list_any test ys) (any_of test ys x among passes)

pub record Passes {X : Type 0} (test : X → Bool) (xs : List X) : Type 0 where
  pub member : X
  pub among : Among member xs
  pub passes : test member ≡ true

of_any : {X : Type 0} (test : X → Bool) (xs : List X) → list_any test xs ≡ true → Passes test xs
of_any test [] any = absurd (false≢true any)
of_any test (y ∷ ys) any = elim (or_cases (test y) (list_any test ys) any) [
  | inl first ↦ record { member = y; among = inl refl; passes = first }
  | inr later ↦ (let rest = of_any test ys later in record { member = rest.member; among = inr rest.among; passes = rest.passes })
]

-- ---- what is fed

-- the roles of a host's command
abbrev command_roles : List PortRole
command_roles = role.Read ∷ role.Write ∷ role.Address ∷ role.WriteData ∷ role.ByteEnable ∷ role.BurstCount ∷ []

abbrev is_number : ℕ → Option ℕ → Bool
is_number k None = false
is_number k (Some n) = nat_eq n k

-- the port is one of the command at an end
abbrev is_of_command : SystemTable → ℕ → EndId → Bool
is_of_command system k end = list_any (λ r. is_number k (port_at system end r)) command_roles

-- a beat waits at the end of a host
abbrev waits_at : SystemTable → Netlist → Run → ℕ → EndId → Bool
waits_at system netlist run cycle end =
    let view = host_view netlist run 0 (name_at system end) in
    is_held view.signals (host_accepts view) cycle

abbrev stands_on : SystemTable → Netlist → Run → ℕ → ℕ → Bool
stands_on system netlist run cycle k = list_any (λ end. waits_at system netlist run cycle end && is_of_command system k end) (hosts_of system)

-- the inputs of the cycle that follows so many of a run
abbrev feed : SystemTable → Netlist → Run → ℕ → ℕ → ℕ
feed system netlist run zero k = 0
feed system netlist run (suc last) k = if stands_on system netlist run last k then run.input last k else 0

number_is : (k : ℕ) (o : Option ℕ) → is_number k o ≡ true → o ≡ Some k
number_is k None e = absurd (false≢true e)
number_is k (Some n) e = ap Some (eqb-true n k e)

is_its_number : (k : ℕ) (o : Option ℕ) → o ≡ Some k → is_number k o ≡ true
is_its_number k o e = ap (is_number k) e ∙ eq-eqb k k refl

-- a beat is shown and waits, by the levels of its host
abbrev held_by : ℕ → ℕ → ℕ → Bool
held_by read write wait = (is_raised read || is_raised write) && not ((is_raised read || is_raised write) && not (is_raised wait))

-- the hosts and agents of a module show the same in two runs whose first cycles are the same
module_agrees : (plan : PlanTable) (netlist : Netlist) (run other : Run) (end : ℕ) → ((c : ℕ) → c < end → cycle_of other c ≡ cycle_of run c) → RunsAgreeBefore (module_run plan netlist run) (module_run plan netlist other) end
module_agrees plan netlist run other end same =
    agree_before (module_run plan netlist run) (module_run plan netlist other) end (λ c low. module_same plan netlist run other c (same c low))

-- ---- ends

record IsHost (known : Finished) : Type 0 where
  host : HostPort
  is : known ≡ Host host

host_of_sort : (known : Finished) → sort known ≡ 0 → IsHost known
host_of_sort (Host host) e = record { host = host; is = refl }
host_of_sort (Agent agent) e = absurd (omega (arith, e))
host_of_sort (Source source) e = absurd (omega (arith, e))
host_of_sort (Sink sink) e = absurd (omega (arith, e))
host_of_sort Other e = absurd (omega (arith, e))

record IsAgent (known : Finished) : Type 0 where
  agent : AgentPort
  is : known ≡ Agent agent

agent_of_sort : (known : Finished) → sort known ≡ 1 → IsAgent known
agent_of_sort (Host host) e = absurd (omega (arith, e))
agent_of_sort (Agent agent) e = record { agent = agent; is = refl }
agent_of_sort (Source source) e = absurd (omega (arith, e))
agent_of_sort (Sink sink) e = absurd (omega (arith, e))
agent_of_sort Other e = absurd (omega (arith, e))

-- ---- a module, and the laws that are used of it

pub record GoingLaws (plan : PlanTable) (netlist : Netlist) : Type 0 where
  pub known : HasKnownPorts plan.system
  pub ports : netlist.ports ≡ ports_of plan.system
  pub input : (k w : ℕ) → IsInputPort netlist.ports k w → Always netlist (λ (cycle : Cycle). cycle.net (port_net netlist k) ≡ cycle.input k)
  pub fits : Always netlist (λ (cycle : Cycle). InputsFit netlist.ports cycle.input)
  pub feeds : (run : Run) (cycles : ℕ) (inputs : ℕ → ℕ) → IsRun netlist run cycles → InputsFit netlist.ports inputs → GoesOnFed netlist run cycles inputs
  pub alike : (system : System) (run other : MemoryRun) (end : ℕ) → RunsAgreeBefore run other end → IsLegalRun system run end → AreAtRest system other end → IsLegalRun system other (suc end)

module _ (plan : PlanTable) (netlist : Netlist) (laws : GoingLaws plan netlist) where
  abbrev system : SystemTable
  system = plan.system

  feed_fits : (run : Run) (cycles : ℕ) → IsRun netlist run cycles → InputsFit netlist.ports (feed system netlist run cycles)
  feed_fits run zero r k w i = pow_pos w
  feed_fits run (suc last) r k w i = by (stands_on system netlist run last k)
    where
      by : (b : Bool) → (if b then run.input last k else 0) < 2 ^ w
      by true = laws.fits (cycle_of run last) (r.valuations last (omega arith)) k w i
      by false = pow_pos w

  -- ---- the ports of one end

  host_among : (end : EndId) → Among end (hosts_of system) → Among end (ends_of system)
  host_among end among = (host_end system end laws.known.planned among).among

  -- a port of a host's command is fed where a beat waits at that host
  stands_with : (run : Run) (last : ℕ) (end : EndId) (r : PortRole) (k : ℕ) → Among end (hosts_of system) → Among r command_roles → port_at system end r ≡ Some k
      → stands_on system netlist run last k ≡ waits_at system netlist run last end
  stands_with run last end r k among of at = by (waits_at system netlist run last end) (stands_on system netlist run last k) refl refl
    where
      by : (waits stands : Bool) → waits_at system netlist run last end ≡ waits → stands_on system netlist run last k ≡ stands → stands ≡ waits
      by true true e f = refl
      by false false e f = refl
      by true false e f =
          let its = any_of (λ r. is_number k (port_at system end r)) command_roles r of (is_its_number k (port_at system end r) at) in
          let any = any_of (λ other. waits_at system netlist run last other && is_of_command system k other) (hosts_of system) end among (and_from _ _ e its) in
          sym f ∙ any
      by false true e f =
          let some = of_any (λ other. waits_at system netlist run last other && is_of_command system k other) (hosts_of system) f in
          let parts = and_parts (waits_at system netlist run last some.member) (is_of_command system k some.member) some.passes in
          let port = of_any (λ r. is_number k (port_at system some.member r)) command_roles parts.1 in
          let same = (laws.known.one_role some.member end port.member r k (host_among some.member some.among) (host_among end among) (number_is k _ port.passes) at).end in
          sym parts.0 ∙ ap (waits_at system netlist run last) same ∙ e

  -- and one of an agent never
  never_with : (run : Run) (last : ℕ) (end : EndId) (r : PortRole) (k : ℕ) → Among end (agents_of system) → port_at system end r ≡ Some k → stands_on system netlist run last k ≡ false
  never_with run last end r k among at = by (stands_on system netlist run last k) refl
    where
      by : (stands : Bool) → stands_on system netlist run last k ≡ stands → stands ≡ false
      by false f = refl
      by true f =
          let some = of_any (λ other. waits_at system netlist run last other && is_of_command system k other) (hosts_of system) f in
          let parts = and_parts (waits_at system netlist run last some.member) (is_of_command system k some.member) some.passes in
          let port = of_any (λ r. is_number k (port_at system some.member r)) command_roles parts.1 in
          let host = host_end system some.member laws.known.planned some.among in
          let agent = agent_end system end laws.known.planned among in
          let same = (laws.known.one_role some.member end port.member r k host.among agent.among (number_is k _ port.passes) at).end in
          let sorts : 0 ≡ 1 = sym host.sort_is ∙ ap (λ (e : EndId). sort (known_at system e)) same ∙ agent.sort_is in
          absurd (omega (arith, sorts))

  -- so where no beat waits at a host its command isn't fed
  feed_none : (run : Run) (n : ℕ) (end : EndId) (r : PortRole) (k : ℕ) → Among end (hosts_of system) → Among r command_roles → port_at system end r ≡ Some k
      → ((last : ℕ) → suc last ≡ n → waits_at system netlist run last end ≡ false) → feed system netlist run n k ≡ 0
  feed_none run zero end r k among of at rests = refl
  feed_none run (suc last) end r k among of at rests = cond-false (stands_on system netlist run last k) _ _ (stands_with run last end r k among of at ∙ rests last refl)

  feed_never : (run : Run) (n : ℕ) (end : EndId) (r : PortRole) (k : ℕ) → Among end (agents_of system) → port_at system end r ≡ Some k → feed system netlist run n k ≡ 0
  feed_never run zero end r k among at = refl
  feed_never run (suc last) end r k among at = cond-false (stands_on system netlist run last k) _ _ (never_with run last end r k among at)

  -- ---- what is shown in the cycle that is fed

  module _ (run : Run) (n : ℕ) (r : IsRun netlist run n) (on : GoesOnFed netlist run n (feed system netlist run n)) where
    abbrev longer : Run
    longer = on.longer

    is_input : (k w : ℕ) (o : Option ℕ) → o ≡ Some k → IsPortIf (ports_of system) false w o → IsInputPort netlist.ports k w
    is_input k w None at port = absurd (cc)
    is_input k w (Some j) at port =
        let same : j ≡ k = cc in
        subst (λ (ps : List PortLine). IsInputPort ps k w) (sym laws.ports)
        (subst (λ i. IsInputPort (ports_of system) i w) same (record { port = port.port; is = port.is; input = port.output_is; width = port.width_is }))

    -- the level of a role whose port is fed so, or isn't there
    level_is : (end : EndId) (role : PortRole) (absent w value : ℕ) → IsPortIf (ports_of system) false w (port_at system end role)
        → ((k : ℕ) → IsInputPort netlist.ports k w → port_at system end role ≡ Some k → feed system netlist run n k ≡ value) → (port_at system end role ≡ None → absent ≡ value)
        → level netlist longer (name_at system end) absent (role_word role) n ≡ value
    level_is end role absent w value port fed none =
        ap (λ (s : Option (ℕ → ℕ)). signal_or absent s n) (shown_at system netlist longer end role laws.ports) ∙ by (port_at system end role) refl
      where
        by : (o : Option ℕ) → port_at system end role ≡ o → signal_or absent (shown netlist longer o) n ≡ value
        by None at = none at
        by (Some k) at =
            let input = is_input k w (port_at system end role) at port in
            laws.input k w input (cycle_of longer n) (on.is_run.valuations n (omega arith)) ∙ ap (λ (inputs : ℕ → ℕ). inputs k) on.fed ∙ fed k input at

    -- what a role of the run shows in one of its cycles
    level_was : (end : EndId) (role : PortRole) (absent w last : ℕ) → IsPortIf (ports_of system) false w (port_at system end role) → last < n
        → ((k : ℕ) → IsInputPort netlist.ports k w → port_at system end role ≡ Some k → run.input last k ≡ level netlist run (name_at system end) absent (role_word role) last)
        × (port_at system end role ≡ None → absent ≡ level netlist run (name_at system end) absent (role_word role) last)
    level_was end role absent w last port low =
        let shows = ap (λ (s : Option (ℕ → ℕ)). signal_or absent s last) (shown_at system netlist run end role laws.ports) in (
          λ k input at. sym (shows ∙ ap (λ (o : Option ℕ). signal_or absent (shown netlist run o) last) at ∙ laws.input k w input (cycle_of run last) (r.valuations last low)),
          λ at. sym (shows ∙ ap (λ (o : Option ℕ). signal_or absent (shown netlist run o) last) at),
        )

    -- a role of a host's command stands on where its beat waits
    level_stays : (end : EndId) (role : PortRole) (absent w c : ℕ) → Among end (hosts_of system) → Among role command_roles → IsPortIf (ports_of system) false w (port_at system end role)
        → suc c ≡ n → waits_at system netlist run c end ≡ true
        → level netlist longer (name_at system end) absent (role_word role) c ≡ level netlist longer (name_at system end) absent (role_word role) (suc c)
    level_stays end role absent w c among of port e waits =
        let low : c < n = omega (arith, e) in
        let was = level_was end role absent w c port low in
        let now = level_is end role absent w (level netlist run (name_at system end) absent (role_word role) c) port
        (λ k input at. ap (λ m. feed system netlist run m k) (sym e) ∙ cond-true (stands_on system netlist run c k) _ _ (stands_with run c end role k among of at ∙ waits) ∙ was.0 k input at)
        was.1 in
        sym (level_same netlist run longer (name_at system end) absent (role_word role) c (on.begins c low)) ∙ sym now
        ∙ ap (level netlist longer (name_at system end) absent (role_word role)) (sym e)

    -- and is low where none does
    level_none : (end : EndId) (role : PortRole) (w : ℕ) → Among end (hosts_of system) → Among role command_roles → IsPortIf (ports_of system) false w (port_at system end role)
        → ((last : ℕ) → suc last ≡ n → waits_at system netlist run last end ≡ false) → level netlist longer (name_at system end) 0 (role_word role) n ≡ 0
    level_none end role w among of port rests =
        level_is end role 0 w 0 port (λ k input at. feed_none run n end role k among of at rests) (λ at. refl)

    -- the same beats wait
    waits_same : (end : EndId) (c : ℕ) → c < n → waits_at system netlist longer c end ≡ waits_at system netlist run c end
    waits_same end c low =
        let here = λ (word : List ℕ). sym (level_same netlist run longer (name_at system end) 0 word c (on.begins c low)) in
        ap₂ (λ r w. held_by r w (level netlist longer (name_at system end) 0 (codes "waitrequest") c)) (here (codes "read")) (here (codes "write"))
        ∙ ap (held_by (level netlist run (name_at system end) 0 (codes "read") c) (level netlist run (name_at system end) 0 (codes "write") c)) (here (codes "waitrequest"))

    view_rests : (end : EndId) (bytes : ℕ) → Among end (hosts_of system) → HostRests (host_view netlist longer bytes (name_at system end)) n
    view_rests end bytes among =
        let of = host_end system end laws.known.planned among in
        let known = host_of_sort (known_at system end) of.sort_is in
        let ports = host_ports_are system end known.host laws.known of.among known.is in
        record {
          held = λ c e is. (let waits = sym (waits_same end c (omega (arith, e))) ∙ is in
              same_levels
              (level_stays end role.Read 0 _ c among (inl refl) ports.read e waits)
              (level_stays end role.Write 0 _ c among (inr (inl refl)) ports.write e waits)
              (level_stays end role.Address 0 _ c among (inr (inr (inl refl))) ports.address e waits)
              (level_stays end role.WriteData 0 _ c among (inr (inr (inr (inl refl)))) ports.writedata e waits)
              (level_stays end role.ByteEnable (2 ^ bytes - 1) _ c among (inr (inr (inr (inr (inl refl))))) ports.byteenable e waits)
              (level_stays end role.BurstCount 1 _ c among (inr (inr (inr (inr (inr (inl refl)))))) ports.burstcount e waits));
          silent = λ quiet. (let view = host_view netlist longer 0 (name_at system end) in
              let rests = λ (last : ℕ) (e : suc last ≡ n). sym (waits_same end last (omega (arith, e))) ∙ subst (λ m. IsFalse (waits_on view.signals (host_accepts view) m)) (sym e) quiet in
              ap₂ (λ r w. is_raised r || is_raised w) (level_none end role.Read _ among (inl refl) ports.read rests) (level_none end role.Write _ among (inr (inl refl)) ports.write rests));
        }

    gives_none : (end : EndId) → Among end (agents_of system) → is_raised (level netlist longer (name_at system end) 0 (codes "readdatavalid") n) ≡ false
    gives_none end among =
        let of = agent_end system end laws.known.planned among in
        let known = agent_of_sort (known_at system end) of.sort_is in
        let ports = agent_ports_are system end known.agent laws.known of.among known.is in
        ap is_raised (level_is end role.ReadDataValid 0 _ 0 ports.readdatavalid (λ k input at. feed_never run n end role.ReadDataValid k among at) (λ at. refl))

    -- all components rest in that cycle
    at_rest : AreAtRest (memory_system plan) (module_run plan netlist longer) n
    at_rest = record {
      hosts = λ h below. host h (slice_get (hosts_of system) h) refl;
      agents = λ a below has. agent a (slice_get (agents_of system) a) refl;
    }
      where
        host : (h : ℕ) (o : Option EndId) → slice_get (hosts_of system) h ≡ o → HostRests (host_by plan netlist longer h o) n
        host h None at = record { held = λ c e is. absurd (false≢true is); silent = λ quiet. refl }
        host h (Some end) at = view_rests end ((memory_system plan).host h).word_bytes (among_at (hosts_of system) h end at)

        agent : (a : ℕ) (o : Option EndId) → slice_get (agents_of system) a ≡ o → is_raised ((agent_by plan netlist longer a o).readdatavalid n) ≡ false
        agent a None at = refl
        agent a (Some end) at = gives_none end (among_at (agents_of system) a end at)

  -- cycle after cycle
  pub go_on : LegalRunsGoOn plan netlist
  go_on run cycles zero r legal =
      let none : cycles ≡ cycles + 0 = omega arith in
      record {
        longer = run;
        is_run = subst (IsRun netlist run) none r;
        begins = λ c low. refl;
        legal = subst (IsLegalRun (memory_system plan) (module_run plan netlist run)) none legal;
        same = module_agrees plan netlist run run cycles (λ c low. refl);
      }
  go_on run cycles (suc more) r legal =
      let so_far = go_on run cycles more r legal in
      let end : ℕ = cycles + more in
      let on = laws.feeds so_far.longer end (feed system netlist so_far.longer end) so_far.is_run (feed_fits so_far.longer end so_far.is_run) in
      let rests = at_rest so_far.longer end so_far.is_run on in
      let next = laws.alike (memory_system plan) (module_run plan netlist so_far.longer) (module_run plan netlist on.longer) end (module_agrees plan netlist so_far.longer on.longer end on.begins) so_far.legal rests in
      let one : suc (cycles + more) ≡ cycles + suc more = omega arith in
      let begins = λ (c : ℕ) (low : c < cycles). on.begins c (omega (arith, low)) ∙ so_far.begins c low in
      record {
        longer = on.longer;
        is_run = subst (IsRun netlist on.longer) one on.is_run;
        begins = begins;
        legal = subst (IsLegalRun (memory_system plan) (module_run plan netlist on.longer)) one next;
        same = module_agrees plan netlist run on.longer cycles begins;
      }
