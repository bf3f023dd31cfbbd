-- The hosts and agents of a finished module: what each run does for them.
use Rattle.std.proofs.Common.{◌≡◌, inl, inr, ℕ, zero, suc, ◌+◌, ◌<◌, ◌≤◌, Bool, true, false, not, nat_lt, List, [], ◌∷◌, length, slice_get, Option, Some, None, refl, sym, ap, subst, ◌∙◌, arith}
use Rattle.std.specs.Prelude.{if◌then◌else◌}
use Rattle.std.specs.Option.{option_map_or}
use Rattle.std.proofs.lemmas.Bool.{false≢true}
use Rattle.std.proofs.lemmas.Bool.Decides.{Decides-ltb}
use Rattle.std.proofs.lemmas.Option.{same_Some}
use Rattle.iface_roles.specs.declared.records.Finished.{Finished}
use Rattle.iface_roles.specs.declared.records.Finished.TheVariants.{Host, Other}
use Rattle.iface_roles.specs.declared.records.HostPort.{HostPort}
use Rattle.iface_roles.specs.declared.records.AgentPort.{AgentPort}
use Rattle.system_tables.specs.declared.tables.EndId.{EndId}
use Rattle.system_tables.specs.Tables.{SystemTable}
use Rattle.address_map.specs.Footprints.{known_at}
use Rattle.address_map.specs.Maps.{hosts_of, agents_of}
use Rattle.link_rules.specs.Links.{tests_as}
use Rattle.link_rules.specs.Plans.{PlanTable}
use Rattle.link_rules.specs.Pairs.{KeepsAll, mm_tests}
use Rattle.netlist.specs.Netlists.{Netlist, IsWellMade}
use Rattle.netlist.specs.Runs.{Run, cycle_of, IsRun, IsEndlessRun, GoesOn}
use Rattle.netlist.specs.Longer.{Extends}
use Rattle.memory_runs.specs.Views.{HostView, AgentView, System, Responses, Run as MemoryRun, levels_at}
use Rattle.memory_runs.specs.Views.Responses.{AreCodes}
use Rattle.memory_runs.specs.Beginnings.{RunsAgreeBefore}
use Rattle.memory_runs.specs.Plan.{IsMemoryPlan}
use Rattle.memory_runs.specs.Order.{ActsAsMemory, ReadsFromMemory, ReturnsInCommandOrder}
use Rattle.memory_runs.specs.Whole.{IsLegalRun, IsSafe}
use Rattle.memory_runs.specs.Awake.{NeverIdles, IsFair}
use Rattle.memory_runs.specs.Onward.{NoHostHangs, AcceptsSoon}
use Rattle.memory_runs.specs.Moment.{Moment, AgentSees, HaveAlikeInputs, IgnoresReaddata}
use Rattle.memory_runs.specs.Packed.{ReadsEachTouchedWordOnce}
use Rattle.memory_awake.specs.Onward.{prompt_window}
use Rattle.memory_waits.specs.Windows.{host_window}
use Rattle.memory_plans.specs.Systems.{side_of_host, side_of_agent, memory_system}
use Rattle.memory_plans.specs.Maps.{IsAgentOf}
use Rattle.memory_plans.specs.Shown.{silent_host, silent_agent, moment_in, standing_still}
use Rattle.mm_fabric.specs.declared.fabric.FabricParts.{FabricParts}
use Rattle.mm_fabric.specs.Fabrics.{Fabric, IsFabric, seen_at_host, seen_at_agent, seen_in, FabricShows}
use Rattle.port_tables.specs.Lists.{among_at}
use Rattle.port_tables.specs.Ports.{name_at, ports_of}
use Rattle.port_tables.specs.PortMaps.{HasKnownPorts}
use Rattle.interconnect.specs.Memory.{host_view, agent_view, host_in, agent_in, module_run, CanShow, ServesMemory}
use Rattle.interconnect.specs.Fabrics.{HasFabric}
use Rattle.interconnect.specs.Going.{LegalRunsGoOn}
use Rattle.interconnect.proofs.Driving.{nat_cases, extends-refl}
use Rattle.interconnect.proofs.Apart.{host_end, agent_end}
use Rattle.interconnect.proofs.Links.{LinkLaws, of_connection, start_known, end_known, host_below, host_has_link, agent_has_link}
use Rattle.interconnect.proofs.HostPorts.{host_ports_are, agent_ports_are}
use Rattle.interconnect.proofs.FabricJoins.{IsFabricOf, fabric_there}
use Rattle.interconnect.proofs.HostsShown.{HostsAgreeAt, AgentsAgreeAt, host_same, agent_same, IsEndIn, host_shown, agent_shown}

-- ---- numbers past a list

past : {X : Type 0} (xs : List X) (k : ℕ) → length xs ≤ k → slice_get xs k ≡ None
past [] k h = refl
past (x ∷ xs) zero h = absurd (omega (arith, h))
past (x ∷ xs) (suc k) h = past xs k (omega (arith, h))

not_below : (a b : ℕ) → b ≤ a → nat_lt a b ≡ false
not_below a b h = by (nat_lt a b) refl
  where
    by : (t : Bool) → nat_lt a b ≡ t → nat_lt a b ≡ false
    by true e = (let less = (Decides-ltb a b).0 e in absurd (omega (arith, h, less)))
    by false e = e

-- ---- runs that agree

-- the hosts and agents of two runs agree in a cycle
pub record AgreeAt (one two : MemoryRun) (c : ℕ) : Type 0 where
  pub hosts : (h : ℕ) → HostsAgreeAt (one.at_host h) (two.at_host h) c
  pub agents : (a : ℕ) → AgentsAgreeAt (one.at_agent a) (two.at_agent a) c

pub agree_before : (one two : MemoryRun) (end : ℕ) → ((c : ℕ) → c < end → AgreeAt one two c) → RunsAgreeBefore one two end
agree_before one two end each = record {
  hosts = λ h. record {
    signals = λ c below. ((each c below).hosts h).signals;
    waitrequest = λ c below. ((each c below).hosts h).waitrequest;
    readdata = λ c below. ((each c below).hosts h).readdata;
    readdatavalid = λ c below. ((each c below).hosts h).readdatavalid;
    response = λ c below. ((each c below).hosts h).response;
  };
  agents = λ a. record {
    signals = λ c below. ((each c below).agents a).signals;
    waitrequest = λ c below. ((each c below).agents a).waitrequest;
    readdata = λ c below. ((each c below).agents a).readdata;
    readdatavalid = λ c below. ((each c below).agents a).readdatavalid;
    response = λ c below. ((each c below).agents a).response;
    grant = λ c below. ((each c below).agents a).grant;
  };
}

hosts_then : (x y z : HostView) (c : ℕ) → HostsAgreeAt x y c → HostsAgreeAt y z c → HostsAgreeAt x z c
hosts_then x y z c a b = record {
  signals = a.signals ∙ b.signals;
  waitrequest = a.waitrequest ∙ b.waitrequest;
  readdata = a.readdata ∙ b.readdata;
  readdatavalid = a.readdatavalid ∙ b.readdatavalid;
  response = a.response ∙ b.response;
}

agents_then : (x y z : AgentView) (c : ℕ) → AgentsAgreeAt x y c → AgentsAgreeAt y z c → AgentsAgreeAt x z c
agents_then x y z c a b = record {
  signals = a.signals ∙ b.signals;
  waitrequest = a.waitrequest ∙ b.waitrequest;
  readdata = a.readdata ∙ b.readdata;
  readdatavalid = a.readdatavalid ∙ b.readdatavalid;
  response = a.response ∙ b.response;
  grant = a.grant ∙ b.grant;
}

host_itself : (x : HostView) (c : ℕ) → HostsAgreeAt x x c
host_itself x c = record { signals = refl; waitrequest = refl; readdata = refl; readdatavalid = refl; response = refl }

agent_itself : (x : AgentView) (c : ℕ) → AgentsAgreeAt x x c
agent_itself x c = record { signals = refl; waitrequest = refl; readdata = refl; readdatavalid = refl; response = refl; grant = refl }

abbrev pub host_by : PlanTable → Netlist → Run → ℕ → Option EndId → HostView
host_by plan netlist run h o = option_map_or (λ (end : EndId). host_view netlist run ((memory_system plan).host h).word_bytes (name_at plan.system end)) o silent_host

abbrev pub agent_by : PlanTable → Netlist → Run → ℕ → Option EndId → AgentView
agent_by plan netlist run a o = option_map_or (λ (end : EndId). agent_view netlist run ((memory_system plan).agent a).word_bytes (name_at plan.system end)) o silent_agent

-- a module shows the same in two runs that are the same in a cycle
pub module_same : (plan : PlanTable) (netlist : Netlist) (run other : Run) (c : ℕ) → cycle_of other c ≡ cycle_of run c → AgreeAt (module_run plan netlist run) (module_run plan netlist other) c
module_same plan netlist run other c same = record { hosts = λ h. host h (slice_get (hosts_of plan.system) h); agents = λ a. agent a (slice_get (agents_of plan.system) a) }
  where
    host : (h : ℕ) (o : Option EndId) → HostsAgreeAt (host_by plan netlist run h o) (host_by plan netlist other h o) c
    host h None = host_itself silent_host c
    host h (Some end) = host_same netlist run other ((memory_system plan).host h).word_bytes (name_at plan.system end) c same

    agent : (a : ℕ) (o : Option EndId) → AgentsAgreeAt (agent_by plan netlist run a o) (agent_by plan netlist other a o) c
    agent a None = agent_itself silent_agent c
    agent a (Some end) = agent_same netlist run other ((memory_system plan).agent a).word_bytes (name_at plan.system end) c same

-- ---- a module whose hosts and agents are joined

-- the hosts and agents of a finished module
pub record IsMemoryIn (plan : PlanTable) (netlist : Netlist) : Type 0 where
  pub laws : LinkLaws plan
  pub known : HasKnownPorts plan.system
  pub well_made : IsWellMade netlist
  pub ports : netlist.ports ≡ ports_of plan.system
  pub joined : 0 < length (hosts_of plan.system) → HasFabric plan netlist

-- a host that can't wait is refused
waits_by : (host : HostPort) (agent : AgentPort) (clock : Bool) → KeepsAll (mm_tests host agent clock) → host.waitrequest ≡ true
waits_by host agent clock kept = by host.waitrequest (kept 1)
  where
    by : (b : Bool) → not b ≡ false → b ≡ true
    by true e = refl
    by false e = absurd (false≢true (sym e))

module _ (plan : PlanTable) (netlist : Netlist) (m : IsMemoryIn plan netlist) (some : 0 < length (hosts_of plan.system)) where
  abbrev pub system : SystemTable
  system = plan.system

  abbrev pub hosts : ℕ
  hosts = length (hosts_of plan.system)

  abbrev pub agents : ℕ
  agents = length (agents_of plan.system)

  abbrev pub memory : HasFabric plan netlist
  memory = m.joined some

  abbrev pub parts : FabricParts
  parts = (m.joined some).parts

  -- ---- the fabric

  pub standing : IsFabricOf plan netlist parts
  standing = fabric_there plan netlist parts some memory.joined.of memory.joined.stands

  abbrev pub fabric : Fabric
  fabric = standing.fabric

  host_part : (h : ℕ) → h < hosts → slice_get parts.hosts h ≡ Some (fabric.host h)
  host_part h below = standing.has.hosts h below

  agent_part : (a : ℕ) → a < agents → slice_get parts.agents a ≡ Some (fabric.agent a)
  agent_part a below = standing.has.agents a below

  -- ---- what a run shows

  module _ (run : Run) (c : ℕ) where
    abbrev pub at_end : IsEndIn plan.system netlist
    at_end = record { well_made = m.well_made; ports = m.ports }

    host_waits : (h : ℕ) → h < hosts → (fabric.host h).port.waitrequest ≡ true
    host_waits h below =
        let in_system = memory.joined.of.hosts h (fabric.host h) (host_part h below) in
        let l = host_has_link plan m.laws h below in
        let of = of_connection plan m.laws l.place l.link l.at in
        let tests = m.known.planned.rules l.link.connection of.connection of.connection_is in
        let kept = subst (λ (b : Finished). KeepsAll (tests_as of.connection.clock_fits (Host l.link.host) b)) (end_known plan m.laws l.place l.link l.at)
        (subst (λ (a : Finished). KeepsAll (tests_as of.connection.clock_fits a (known_at system of.connection.end))) (start_known plan m.laws l.place l.link l.at) tests) in
        let start : of.connection.start ≡ in_system.end = same_Some of.connection.start in_system.end (sym of.host_is ∙ ap (slice_get (hosts_of system)) l.is ∙ in_system.end_is) in
        let both : Host l.link.host ≡ Host (fabric.host h).port = sym (start_known plan m.laws l.place l.link l.at) ∙ ap (known_at system) start ∙ in_system.port_is in
        let same : l.link.host ≡ (fabric.host h).port = cc in
        ap (λ (p : HostPort). p.waitrequest) (sym same) ∙ waits_by l.link.host l.link.agent of.connection.clock_fits kept

    host_agrees : (h : ℕ) → h < hosts → HostsAgreeAt (host_in plan netlist run h) (seen_at_host (fabric.host h) run) c
    host_agrees h below =
        let part = fabric.host h in
        let at = host_part h below in
        let in_system = memory.joined.of.hosts h part at in
        let end = in_system.end in
        let bytes : ((memory_system plan).host h).word_bytes ≡ part.port.word_bytes =
        ap (λ (known : Finished). (side_of_host known).word_bytes) (ap (λ (o : Option EndId). option_map_or (known_at system) o Other) in_system.end_is ∙ in_system.port_is) in
        let view : host_in plan netlist run h ≡ host_view netlist run part.port.word_bytes (name_at system end) =
        ap (λ (o : Option EndId). option_map_or (λ (end : EndId). host_view netlist run ((memory_system plan).host h).word_bytes (name_at system end)) o silent_host) in_system.end_is
        ∙ ap (λ (n : ℕ). host_view netlist run n (name_at system end)) bytes in
        let ports = host_ports_are system end part.port m.known (host_end system end m.known.planned (among_at (hosts_of system) h end in_system.end_is)).among in_system.port_is in
        let stands = standing.is.host h below in
        subst (λ (v : HostView). HostsAgreeAt v (seen_at_host part run) c) (sym view)
        (host_shown system netlist at_end end run c part ports stands.bounded (host_waits h below) in_system.inputs stands.told (memory.joined.hosts_driven h end part in_system.end_is at))

    host_seen : (h : ℕ) → HostsAgreeAt (host_in plan netlist run h) ((seen_in plan fabric run).at_host h) c
    host_seen h = elim (nat_cases h hosts) [
      | inl below ↦ (let test : nat_lt h hosts ≡ true = (Decides-ltb h hosts).1 below in
          subst (λ (b : Bool). HostsAgreeAt (host_in plan netlist run h) (if b then seen_at_host (fabric.host h) run else silent_host) c) (sym test) (host_agrees h below))
      | inr beyond ↦ (let test = not_below h hosts beyond in
          let none : host_in plan netlist run h ≡ silent_host =
          ap (λ (o : Option EndId). option_map_or (λ (end : EndId). host_view netlist run ((memory_system plan).host h).word_bytes (name_at system end)) o silent_host) (past (hosts_of system) h beyond) in
          subst (λ (b : Bool). HostsAgreeAt (host_in plan netlist run h) (if b then seen_at_host (fabric.host h) run else silent_host) c) (sym test)
          (subst (λ (v : HostView). HostsAgreeAt v silent_host c) (sym none) (host_itself silent_host c)))
    ]

    agent_agrees : (a : ℕ) → a < agents → AgentsAgreeAt (agent_in plan netlist run a) (seen_at_agent (fabric.agent a) run) c
    agent_agrees a below =
        let part = fabric.agent a in
        let at = agent_part a below in
        let in_system = memory.joined.of.agents a part at in
        let end = in_system.end in
        let is : IsAgentOf plan a part.port = ap (λ (o : Option EndId). option_map_or (known_at system) o Other) in_system.end_is ∙ in_system.port_is in
        let bytes : ((memory_system plan).agent a).word_bytes ≡ part.port.word_bytes = ap (λ (known : Finished). (side_of_agent known).word_bytes) is in
        let view : agent_in plan netlist run a ≡ agent_view netlist run part.port.word_bytes (name_at system end) =
        ap (λ (o : Option EndId). option_map_or (λ (end : EndId). agent_view netlist run ((memory_system plan).agent a).word_bytes (name_at system end)) o silent_agent) in_system.end_is
        ∙ ap (λ (n : ℕ). agent_view netlist run n (name_at system end)) bytes in
        let ports = agent_ports_are system end part.port m.known (agent_end system end m.known.planned (among_at (agents_of system) a end in_system.end_is)).among in_system.port_is in
        let stands = standing.is.agent a below in
        subst (λ (v : AgentView). AgentsAgreeAt v (seen_at_agent part run) c) (sym view)
        (agent_shown system netlist at_end end run c part ports stands.bounded in_system.inputs stands.made (memory.joined.agents_driven a end part in_system.end_is at))

    agent_seen : (a : ℕ) → AgentsAgreeAt (agent_in plan netlist run a) ((seen_in plan fabric run).at_agent a) c
    agent_seen a = elim (nat_cases a agents) [
      | inl below ↦ (let test : nat_lt a agents ≡ true = (Decides-ltb a agents).1 below in
          subst (λ (b : Bool). AgentsAgreeAt (agent_in plan netlist run a) (if b then seen_at_agent (fabric.agent a) run else silent_agent) c) (sym test) (agent_agrees a below))
      | inr beyond ↦ (let test = not_below a agents beyond in
          let none : agent_in plan netlist run a ≡ silent_agent =
          ap (λ (o : Option EndId). option_map_or (λ (end : EndId). agent_view netlist run ((memory_system plan).agent a).word_bytes (name_at system end)) o silent_agent) (past (agents_of system) a beyond) in
          subst (λ (b : Bool). AgentsAgreeAt (agent_in plan netlist run a) (if b then seen_at_agent (fabric.agent a) run else silent_agent) c) (sym test)
          (subst (λ (v : AgentView). AgentsAgreeAt v silent_agent c) (sym none) (agent_itself silent_agent c)))
    ]

    pub seen : AgreeAt (module_run plan netlist run) (seen_in plan fabric run) c
    seen = record { hosts = host_seen; agents = agent_seen }

-- ---- the hosts and agents are served

-- what the laws of fabrics say of a plan
pub record FabricLaws (plan : PlanTable) : Type 0 where
  pub kept : IsMemoryPlan (memory_system plan)
  pub safe : (netlist : Netlist) (fabric : Fabric) → IsFabric plan netlist fabric → (longer : Netlist) → Extends netlist longer → (run : Run) → IsEndlessRun longer run → (end : ℕ)
      → IsLegalRun (memory_system plan) (seen_in plan fabric run) end → IsSafe AreCodes (memory_system plan) (seen_in plan fabric run) end
  pub awake : (netlist : Netlist) (fabric : Fabric) → IsFabric plan netlist fabric → (longer : Netlist) → Extends netlist longer → (run : Run) → IsEndlessRun longer run → (end : ℕ)
      → IsLegalRun (memory_system plan) (seen_in plan fabric run) (end + 2) → NeverIdles (memory_system plan) (seen_in plan fabric run) end
  pub moves : (netlist : Netlist) (fabric : Fabric) → IsFabric plan netlist fabric → (longer : Netlist) → Extends netlist longer → (run : Run) → IsEndlessRun longer run → (end : ℕ)
      → IsLegalRun (memory_system plan) (seen_in plan fabric run) (end + 2) → NoHostHangs (host_window (memory_system plan)) (memory_system plan) (seen_in plan fabric run) end
  pub accepts : (netlist : Netlist) (fabric : Fabric) → IsFabric plan netlist fabric → (longer : Netlist) → Extends netlist longer → (run : Run) → IsEndlessRun longer run → (end : ℕ)
      → IsLegalRun (memory_system plan) (seen_in plan fabric run) (end + 2) → AcceptsSoon (prompt_window (memory_system plan)) (memory_system plan) (seen_in plan fabric run) end
  pub fair : (netlist : Netlist) (fabric : Fabric) → IsFabric plan netlist fabric → (longer : Netlist) → Extends netlist longer → (run : Run) → IsEndlessRun longer run → (end : ℕ)
      → IsLegalRun (memory_system plan) (seen_in plan fabric run) end → IsFair (memory_system plan) (seen_in plan fabric run) end
  pub packed : (netlist : Netlist) (fabric : Fabric) → IsFabric plan netlist fabric → (longer : Netlist) → Extends netlist longer → (run : Run) → IsEndlessRun longer run → (end : ℕ)
      → IsLegalRun (memory_system plan) (seen_in plan fabric run) end → (host agent : ℕ) → host < (memory_system plan).hosts → agent < (memory_system plan).agents
      → ReadsEachTouchedWordOnce (memory_system plan) (seen_in plan fabric run) host agent end
  pub ignores : (netlist : Netlist) (fabric : Fabric) → IsFabric plan netlist fabric → (longer : Netlist) → Extends netlist longer → IgnoresReaddata AreCodes (memory_system plan) (FabricShows plan longer fabric)

-- and what those of runs say
pub record RunLaws : Type 0 where
  pub turned : (one two : MemoryRun) (end : ℕ) → RunsAgreeBefore one two end → RunsAgreeBefore two one end
  pub legal : (system : System) (one two : MemoryRun) (end : ℕ) → RunsAgreeBefore one two end → IsLegalRun system one end → IsLegalRun system two end
  pub safe : (responses : Responses) (system : System) (one two : MemoryRun) (end : ℕ) → RunsAgreeBefore one two end → IsSafe responses system one end → IsSafe responses system two end
  pub awake : (system : System) (one two : MemoryRun) (end : ℕ) → RunsAgreeBefore one two end → NeverIdles system one end → NeverIdles system two end
  pub onward : (window : ℕ → ℕ → ℕ) (system : System) (one two : MemoryRun) (end : ℕ) → RunsAgreeBefore one two end → NoHostHangs window system one end → NoHostHangs window system two end
  pub accepts : (window : ℕ → ℕ → ℕ → ℕ) (system : System) (one two : MemoryRun) (end : ℕ) → RunsAgreeBefore one two (end + 2) → AcceptsSoon window system one end → AcceptsSoon window system two end
  pub fair : (system : System) (one two : MemoryRun) (end : ℕ) → RunsAgreeBefore one two end → IsFair system one end → IsFair system two end
  pub packed : (system : System) (one two : MemoryRun) (host agent end : ℕ) → RunsAgreeBefore one two end → ReadsEachTouchedWordOnce system one host agent end → ReadsEachTouchedWordOnce system two host agent end
  pub reads : (system : System) (run : MemoryRun) (agent : ℕ) (contents : ℕ → ℕ) (end host : ℕ) → ActsAsMemory system run contents agent end → ReturnsInCommandOrder system run host end
      → ReadsFromMemory system run host agent contents end

-- what is given to agents of one run is what is given in another that agrees
sees : (one two : AgentView) (c : ℕ) → AgentsAgreeAt one two c →
    let this : AgentSees = record { levels = levels_at one.signals c; grant = one.grant c } in
    let that : AgentSees = record { levels = levels_at two.signals c; grant = two.grant c } in
    this ≡ that
sees one two c h = (let a = h.signals in let b = h.grant in cc)

module _ (plan : PlanTable) (netlist : Netlist) (m : IsMemoryIn plan netlist) (fabrics : FabricLaws plan) (runs : RunLaws) (goes_on : (run : Run) (cycles : ℕ) → IsRun netlist run cycles → GoesOn netlist run cycles)
    (going : LegalRunsGoOn plan netlist) where
  abbrev pub whole : System
  whole = memory_system plan

  -- ---- where there is a host

  module _ (some : 0 < length (hosts_of plan.system)) where
    abbrev pub made : Fabric
    made = fabric plan netlist m some

    is_made : IsFabric plan netlist made
    is_made = (standing plan netlist m some).is

    -- the endless run shows the same in the cycles of the run
    agree : (run : Run) (cycles : ℕ) (r : IsRun netlist run cycles) → RunsAgreeBefore (module_run plan netlist run) (seen_in plan made (goes_on run cycles r).endless) cycles
    agree run cycles r =
        let on = goes_on run cycles r in
        agree_before (module_run plan netlist run) (seen_in plan made on.endless) cycles (λ c below.
        (let first = module_same plan netlist run on.endless c (on.begins c below) in
        let second = seen plan netlist m some on.endless c in
        record {
          hosts = λ h. hosts_then _ _ _ c (first.hosts h) (second.hosts h);
          agents = λ a. agents_then _ _ _ c (first.agents a) (second.agents a);
        }))

    fewer : (one two : MemoryRun) (end : ℕ) → RunsAgreeBefore one two (end + 2) → RunsAgreeBefore one two end
    fewer one two end a = record {
      hosts = λ h. record {
        signals = λ c below. (a.hosts h).signals c (omega (arith, below));
        waitrequest = λ c below. (a.hosts h).waitrequest c (omega (arith, below));
        readdata = λ c below. (a.hosts h).readdata c (omega (arith, below));
        readdatavalid = λ c below. (a.hosts h).readdatavalid c (omega (arith, below));
        response = λ c below. (a.hosts h).response c (omega (arith, below));
      };
      agents = λ x. record {
        signals = λ c below. (a.agents x).signals c (omega (arith, below));
        waitrequest = λ c below. (a.agents x).waitrequest c (omega (arith, below));
        readdata = λ c below. (a.agents x).readdata c (omega (arith, below));
        readdatavalid = λ c below. (a.agents x).readdatavalid c (omega (arith, below));
        response = λ c below. (a.agents x).response c (omega (arith, below));
        grant = λ c below. (a.agents x).grant c (omega (arith, below));
      };
    }

    safe_there : (run : Run) (cycles : ℕ) → IsRun netlist run cycles → IsLegalRun whole (module_run plan netlist run) cycles → IsSafe AreCodes whole (module_run plan netlist run) cycles
    safe_there run cycles r legal =
        let on = goes_on run cycles r in
        let a = agree run cycles r in
        runs.safe AreCodes whole (seen_in plan made on.endless) (module_run plan netlist run) cycles (runs.turned _ _ cycles a)
        (fabrics.safe netlist made is_made netlist (extends-refl netlist) on.endless on.is_run cycles (runs.legal whole _ _ cycles a legal))

    awake_there : (run : Run) (cycles : ℕ) → IsRun netlist run (cycles + 2) → IsLegalRun whole (module_run plan netlist run) (cycles + 2) → NeverIdles whole (module_run plan netlist run) cycles
    awake_there run cycles r legal =
        let on = goes_on run (cycles + 2) r in
        let a = agree run (cycles + 2) r in
        runs.awake whole (seen_in plan made on.endless) (module_run plan netlist run) cycles (runs.turned _ _ cycles (fewer _ _ cycles a))
        (fabrics.awake netlist made is_made netlist (extends-refl netlist) on.endless on.is_run cycles (runs.legal whole _ _ (cycles + 2) a legal))

    moves_there : (run : Run) (cycles : ℕ) → IsRun netlist run (cycles + 2) → IsLegalRun whole (module_run plan netlist run) (cycles + 2) → NoHostHangs (host_window whole) whole (module_run plan netlist run) cycles
    moves_there run cycles r legal =
        let on = goes_on run (cycles + 2) r in
        let a = agree run (cycles + 2) r in
        runs.onward (host_window whole) whole (seen_in plan made on.endless) (module_run plan netlist run) cycles (runs.turned _ _ cycles (fewer _ _ cycles a))
        (fabrics.moves netlist made is_made netlist (extends-refl netlist) on.endless on.is_run cycles (runs.legal whole _ _ (cycles + 2) a legal))

    accepts_there : (run : Run) (cycles : ℕ) → IsRun netlist run (cycles + 2) → IsLegalRun whole (module_run plan netlist run) (cycles + 2) → AcceptsSoon (prompt_window whole) whole (module_run plan netlist run) cycles
    accepts_there run cycles r legal =
        let on = goes_on run (cycles + 2) r in
        let a = agree run (cycles + 2) r in
        runs.accepts (prompt_window whole) whole (seen_in plan made on.endless) (module_run plan netlist run) cycles (runs.turned _ _ (cycles + 2) a)
        (fabrics.accepts netlist made is_made netlist (extends-refl netlist) on.endless on.is_run cycles (runs.legal whole _ _ (cycles + 2) a legal))

    -- a run that goes on legally loses nothing at its end
    awake_whole : (run : Run) (cycles : ℕ) → IsRun netlist run cycles → IsLegalRun whole (module_run plan netlist run) cycles → NeverIdles whole (module_run plan netlist run) cycles
    awake_whole run cycles r legal =
        let on = going run cycles 2 r legal in
        runs.awake whole (module_run plan netlist on.longer) (module_run plan netlist run) cycles (runs.turned _ _ cycles on.same) (awake_there on.longer cycles on.is_run on.legal)

    moves_whole : (run : Run) (cycles : ℕ) → IsRun netlist run cycles → IsLegalRun whole (module_run plan netlist run) cycles → NoHostHangs (host_window whole) whole (module_run plan netlist run) cycles
    moves_whole run cycles r legal =
        let on = going run cycles 2 r legal in
        runs.onward (host_window whole) whole (module_run plan netlist on.longer) (module_run plan netlist run) cycles (runs.turned _ _ cycles on.same) (moves_there on.longer cycles on.is_run on.legal)

    fair_there : (run : Run) (cycles : ℕ) → IsRun netlist run cycles → IsLegalRun whole (module_run plan netlist run) cycles → IsFair whole (module_run plan netlist run) cycles
    fair_there run cycles r legal =
        let on = goes_on run cycles r in
        let a = agree run cycles r in
        runs.fair whole (seen_in plan made on.endless) (module_run plan netlist run) cycles (runs.turned _ _ cycles a)
        (fabrics.fair netlist made is_made netlist (extends-refl netlist) on.endless on.is_run cycles (runs.legal whole _ _ cycles a legal))

    packed_there : (run : Run) (cycles host agent : ℕ) → host < whole.hosts → agent < whole.agents → IsRun netlist run cycles → IsLegalRun whole (module_run plan netlist run) cycles
        → ReadsEachTouchedWordOnce whole (module_run plan netlist run) host agent cycles
    packed_there run cycles host agent here there r legal =
        let on = goes_on run cycles r in
        let a = agree run cycles r in
        runs.packed whole (seen_in plan made on.endless) (module_run plan netlist run) host agent cycles (runs.turned _ _ cycles a)
        (fabrics.packed netlist made is_made netlist (extends-refl netlist) on.endless on.is_run cycles (runs.legal whole _ _ cycles a legal) host agent here there)

    ignores_there : IgnoresReaddata AreCodes whole (CanShow plan netlist)
    ignores_there state one other can_one can_other alike a below =
        let x = can_one.0 in
        let y = can_other.0 in
        let at_x = seen plan netlist m some (standing_still x) 0 in
        let at_y = seen plan netlist m some (standing_still y) 0 in
        let inputs = subst (λ (n : Moment). HaveAlikeInputs AreCodes whole (moment_in (module_run plan netlist (standing_still x)) 0) n) can_other.3 (subst (λ (n : Moment). HaveAlikeInputs AreCodes whole n other) can_one.3 alike) in
        let same = fabrics.ignores netlist made is_made netlist (extends-refl netlist) state
        (moment_in (seen_in plan made (standing_still x)) 0) (moment_in (seen_in plan made (standing_still y)) 0)
        (x, can_one.1, can_one.2, refl) (y, can_other.1, can_other.2, refl)
        (record {
          hosts = λ h inside. sym (at_x.hosts h).signals ∙ inputs.hosts h inside ∙ (at_y.hosts h).signals;
          agents = λ b inside. (let gives = inputs.agents b inside in (
            sym (at_x.agents b).waitrequest ∙ gives.0 ∙ (at_y.agents b).waitrequest,
            sym (at_x.agents b).readdatavalid ∙ gives.1 ∙ (at_y.agents b).readdatavalid,
          ));
        }) a below in
        ap (λ (n : Moment). n.to_agent a) can_one.3
        ∙ sees (agent_in plan netlist (standing_still x) a) ((seen_in plan made (standing_still x)).at_agent a) 0 (at_x.agents a)
        ∙ same
        ∙ sym (sees (agent_in plan netlist (standing_still y) a) ((seen_in plan made (standing_still y)).at_agent a) 0 (at_y.agents a))
        ∙ ap (λ (n : Moment). n.to_agent a) (sym can_other.3)

    pub served_there : ServesMemory plan netlist
    served_there = record {
      kept = fabrics.kept;
      safe = safe_there;
      awake = awake_whole;
      moves = moves_whole;
      accepts = accepts_there;
      fair = fair_there;
      reads_back = λ run cycles host agent contents here there r legal acts.
          runs.reads whole (module_run plan netlist run) agent contents cycles host acts ((safe_there run cycles r legal).returned host here);
      packed = packed_there;
      ignores_readdata = ignores_there;
    }

  -- ---- where there is none

  module _ (none : length (hosts_of plan.system) ≡ 0) where
    -- there is no agent either
    no_agent : (a : ℕ) → a < length (agents_of plan.system) → ⊥
    no_agent a below =
        let l = agent_has_link plan m.laws a below in
        let inside = host_below plan m.laws l.place l.link l.at in
        omega (arith, inside, none)

    no_host : (h : ℕ) → h < length (hosts_of plan.system) → ⊥
    no_host h below = omega (arith, below, none)

    pub served_nowhere : ServesMemory plan netlist
    served_nowhere = record {
      kept = fabrics.kept;
      safe = λ run cycles r legal. record {
        at_hosts = λ h below. absurd (no_host h below);
        at_agents = λ a below. absurd (no_agent a below);
        ordered = λ a below. absurd (no_agent a below);
        returned = λ h below. absurd (no_host h below);
        responds = λ h below. absurd (no_host h below);
        limited = λ h a below inside. absurd (no_host h below);
        lags = λ h a below inside. absurd (no_host h below);
      };
      awake = λ run cycles r legal. record {
        agents = λ a below. absurd (no_agent a below);
        default = λ from host number fits below. absurd (no_host host below);
        ahead = λ a below. absurd (no_agent a below);
        hosts_at_default = λ h below. absurd (no_host h below);
      };
      moves = λ run cycles r legal. record { moves = λ a h below. absurd (no_agent a below) };
      accepts = λ run cycles r legal. record { accepts = λ a h late below. absurd (no_agent a below) };
      fair = λ run cycles r legal. record { few = λ a below. absurd (no_agent a below); turns = λ a below. absurd (no_agent a below) };
      reads_back = λ run cycles host agent contents here there. absurd (no_host host here);
      packed = λ run cycles host agent here there. absurd (no_host host here);
      ignores_readdata = λ state one other can_one can_other alike a below. absurd (no_agent a below);
    }

  pub served : ServesMemory plan netlist
  served = elim (nat_cases 0 (length (hosts_of plan.system))) [ inl some ↦ served_there some | inr few ↦ served_nowhere (omega (arith, few)) ]
