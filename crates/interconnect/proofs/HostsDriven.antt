-- Each output at a host or an agent of a finished module is driven.
use Rattle.std.proofs.Common.{◌≡◌, ℕ, true, false, slice_get, Some, refl, sym, ap, subst, ◌∙◌, arith}
use Rattle.std.specs.Prelude.{IsSome}
use Rattle.std.proofs.lemmas.Option.{same_Some, slice_get_within}
use Rattle.iface_roles.specs.declared.records.Finished.{Finished}
use Rattle.iface_roles.specs.declared.records.Finished.TheVariants.{Host, Agent}
use Rattle.system_tables.specs.declared.tables.EndId.{EndId}
use Rattle.system_tables.specs.Tables.{SystemTable}
use Rattle.address_map.specs.Footprints.{known_at}
use Rattle.address_map.specs.Maps.{hosts_of, agents_of}
use Rattle.link_rules.specs.Plans.{PlanTable}
use Rattle.netlist.specs.Netlists.{Netlist, driver_of}
use Rattle.mm_fabric.specs.declared.parts.HostPart.{HostPart}
use Rattle.mm_fabric.specs.declared.parts.AgentPart.{AgentPart}
use Rattle.port_tables.specs.declared.roles.PortRole.{PortRole}
use Rattle.port_tables.specs.declared.roles.PortRole.TheVariants as role
use Rattle.port_tables.specs.declared.roles.RolePort.{RolePort}
use Rattle.port_tables.specs.Lists.{Among}
use Rattle.port_tables.specs.Ports.{host_ports, agent_ports, is_output, may_have, starts}
use Rattle.port_tables.specs.PortMaps.{port_at}
use Rattle.interconnect.specs.Outputs.{AreDrivenAt}
use Rattle.interconnect.specs.Hosts.{host_roles, host_net, host_outputs}
use Rattle.interconnect.specs.Agents.{agent_roles, agent_net, agent_outputs}
use Rattle.interconnect.proofs.Driving.{role_driven, each_among}
use Rattle.interconnect.proofs.Shown.{driven_some, no_input}
use Rattle.interconnect.proofs.Passing.{there_at}
use Rattle.interconnect.proofs.Links.{agent_has_host}
use Rattle.interconnect.proofs.HostsServed.{IsMemoryIn}

host_ports_driven : (system : SystemTable) (netlist : Netlist) (end : EndId) (part : HostPart) (k : ℕ) (p : RolePort) → AreDrivenAt system end (host_outputs part) netlist → Among p (host_ports part.port)
    → is_output true p.role ≡ true → port_at system end p.role ≡ Some k → IsSome (driver_of netlist k)
host_ports_driven system netlist end part k p driven among =
    each_among (λ (p : RolePort). is_output true p.role ≡ true → port_at system end p.role ≡ Some k → IsSome (driver_of netlist k)) (host_ports part.port) p (
      λ way is. no_input _ way refl,
      (
        λ way is. no_input _ way refl,
        (
          λ way is. no_input _ way refl,
          (
            λ way is. no_input _ way refl,
            (
              λ way is. no_input _ way refl,
              (
                λ way is. no_input _ way refl,
                (λ way is. drives 0 role.WaitRequest refl is, (λ way is. drives 1 role.ReadData refl is, (λ way is. drives 2 role.ReadDataValid refl is, (λ way is. drives 3 role.Response refl is, tt)))),
              ),
            ),
          ),
        ),
      ),
    ) among
  where
    drives : (n : ℕ) (r : PortRole) → slice_get host_roles n ≡ Some r → port_at system end r ≡ Some k → IsSome (driver_of netlist k)
    drives n r e is = driven_some netlist k (port_at system end r) (host_net part.told r) is (role_driven system end (host_net part.told) host_roles netlist driven n r e)

agent_ports_driven : (system : SystemTable) (netlist : Netlist) (end : EndId) (part : AgentPart) (k : ℕ) (p : RolePort) → AreDrivenAt system end (agent_outputs part) netlist
    → Among p (agent_ports part.port)
    → is_output false p.role ≡ true → port_at system end p.role ≡ Some k → IsSome (driver_of netlist k)
agent_ports_driven system netlist end part k p driven among =
    each_among (λ (p : RolePort). is_output false p.role ≡ true → port_at system end p.role ≡ Some k → IsSome (driver_of netlist k)) (agent_ports part.port) p (
      λ way is. drives 0 role.Address refl is,
      (
        λ way is. drives 1 role.Read refl is,
        (
          λ way is. drives 2 role.Write refl is,
          (
            λ way is. drives 3 role.WriteData refl is,
            (
              λ way is. drives 4 role.ByteEnable refl is,
              (
                λ way is. drives 5 role.BurstCount refl is,
                (
                  λ way is. no_input _ way refl,
                  (λ way is. no_input _ way refl, (λ way is. no_input _ way refl, (λ way is. no_input _ way refl, (λ way is. drives 6 role.Grant refl is, tt)))),
                ),
              ),
            ),
          ),
        ),
      ),
    ) among
  where
    drives : (n : ℕ) (r : PortRole) → slice_get agent_roles n ≡ Some r → port_at system end r ≡ Some k → IsSome (driver_of netlist k)
    drives n r e is = driven_some netlist k (port_at system end r) (agent_net part r) is (role_driven system end (agent_net part) agent_roles netlist driven n r e)

module _ (plan : PlanTable) (netlist : Netlist) (m : IsMemoryIn plan netlist) where
  abbrev pub system : SystemTable
  system = plan.system

  pub host_driven : (h : ℕ) (end : EndId) → slice_get (hosts_of plan.system) h ≡ Some end → (k : ℕ) (p : RolePort) → port_at plan.system end p.role ≡ Some k
      → is_output (starts (known_at plan.system end)) p.role ≡ true → Among p (may_have (known_at plan.system end)) → IsSome (driver_of netlist k)
  host_driven h end at k p named output may =
      let below = slice_get_within (hosts_of system) h end at in
      let j = (m.joined (omega (arith, below))).joined in
      let parts = (m.joined (omega (arith, below))).parts in
      let many = j.of.many_hosts in
      let there = there_at parts.hosts h (omega (arith, below, many)) in
      let in_system = j.of.hosts h there.0 there.1 in
      let same : in_system.end ≡ end = same_Some in_system.end end (sym in_system.end_is ∙ at) in
      let known : known_at system end ≡ Host there.0.port = ap (known_at system) (sym same) ∙ in_system.port_is in
      host_ports_driven system netlist end there.0 k p (j.hosts_driven h end there.0 at there.1)
      (subst (λ (f : Finished). Among p (may_have f)) known may) (subst (λ (f : Finished). is_output (starts f) p.role ≡ true) known output) named

  pub agent_driven : (a : ℕ) (end : EndId) → slice_get (agents_of plan.system) a ≡ Some end → (k : ℕ) (p : RolePort) → port_at plan.system end p.role ≡ Some k
      → is_output (starts (known_at plan.system end)) p.role ≡ true → Among p (may_have (known_at plan.system end)) → IsSome (driver_of netlist k)
  agent_driven a end at k p named output may =
      let below = slice_get_within (agents_of system) a end at in
      let some = agent_has_host plan m.laws a below in
      let j = (m.joined some).joined in
      let parts = (m.joined some).parts in
      let many = j.of.many_agents in
      let there = there_at parts.agents a (omega (arith, below, many)) in
      let in_system = j.of.agents a there.0 there.1 in
      let same : in_system.end ≡ end = same_Some in_system.end end (sym in_system.end_is ∙ at) in
      let known : known_at system end ≡ Agent there.0.port = ap (known_at system) (sym same) ∙ in_system.port_is in
      agent_ports_driven system netlist end there.0 k p (j.agents_driven a end there.0 at there.1)
      (subst (λ (f : Finished). Among p (may_have f)) known may) (subst (λ (f : Finished). is_output (starts f) p.role ≡ true) known output) named
