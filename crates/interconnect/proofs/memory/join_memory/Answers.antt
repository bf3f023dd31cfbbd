use Rattle.std.proofs.Common.{◌≡◌, ◌<◌, Bool, false, nat_eq, List, length, sym, ap, subst, ◌∙◌}
use Rattle.system_tables.specs.declared.tables.EndId.{EndId}
use Rattle.address_map.specs.Maps.{hosts_of, agents_of}
use Rattle.mm_fabric.specs.declared.parts.HostPart.{HostPart}
use Rattle.mm_fabric.specs.declared.parts.AgentPart.{AgentPart}
use Rattle.interconnect.specs.Each.{MayDriveEach, AreEachDriven}
use Rattle.interconnect.specs.Hosts.{host_outputs}
use Rattle.interconnect.specs.Agents.{agent_outputs}
use Rattle.interconnect.proofs.FabricJoins.{hosts_may, agents_may, memory_joined}
use Rattle.interconnect.proofs.HostPorts.{some_number}
use Rattle.interconnect.proofs.memory.join_memory.Goals as goal

some_found : (hosts all : List EndId) (b : Bool) → hosts ≡ all → b ≡ nat_eq (length hosts) 0 → b ≡ false → 0 < length all
some_found hosts all b same is e = some_number (length all) (ap (λ (es : List EndId). nat_eq (length es) 0) (sym same) ∙ sym is ∙ e)

pub drive_hosts-requires-clause-can : goal.drive_hosts-requires-clause-can
drive_hosts-requires-clause-can c =
    let plan = c.args.plan.now in
    let some = some_found c.hosts.result.now (hosts_of plan.system) c.is_empty.result c.hosts.ensures c.is_empty.ensures c.if-is_empty.false in
    subst (λ (parts : List HostPart). MayDriveEach plan.system host_outputs (hosts_of plan.system) parts c.add_fabric.new.builder) (sym c.as_slice.ensures)
    (hosts_may plan c.args.builder.now c.add_fabric.new.builder c.in_ok-parts.parts some c.ports_are_known.ensures (λ side. c.ends_have_one_number.ensures.one plan.system side) c.requires.begun c.in_ok-parts.ensures)

pub drive_agents-requires-clause-can : goal.drive_agents-requires-clause-can
drive_agents-requires-clause-can c =
    let plan = c.args.plan.now in
    let some = some_found c.hosts.result.now (hosts_of plan.system) c.is_empty.result c.hosts.ensures c.is_empty.ensures c.if-is_empty.false in
    subst (λ (parts : List AgentPart). MayDriveEach plan.system agent_outputs (agents_of plan.system) parts c.drive_hosts.new.builder) (sym c.as_slice-2.ensures)
    (agents_may plan c.args.builder.now c.add_fabric.new.builder c.in_ok-parts.parts some c.ports_are_known.ensures (λ side. c.ends_have_one_number.ensures.one plan.system side) c.requires.begun c.in_ok-parts.ensures
    c.drive_hosts.new.builder c.drive_hosts.ensures.extends c.drive_hosts.ensures.others)

pub returns : goal.returns
returns c =
    let plan = c.args.plan.now in
    let some = some_found c.hosts.result.now (hosts_of plan.system) c.is_empty.result c.hosts.ensures c.is_empty.ensures c.if-is_empty.false in
    memory_joined plan c.args.builder.now c.add_fabric.new.builder c.in_ok-parts.parts some c.ports_are_known.ensures (λ side. c.ends_have_one_number.ensures.one plan.system side) c.requires.begun c.in_ok-parts.ensures
    c.drive_hosts.new.builder c.drive_agents.new.builder (record {
      same_hosts = c.drive_hosts.ensures.same;
      extends_hosts = c.drive_hosts.ensures.extends;
      hosts_driven = subst (λ (parts : List HostPart). AreEachDriven plan.system host_outputs (hosts_of plan.system) parts c.drive_hosts.new.builder) c.as_slice.ensures c.drive_hosts.ensures.driven;
      no_other_hosts = c.drive_hosts.ensures.others;
      same_agents = c.drive_agents.ensures.same;
      extends_agents = c.drive_agents.ensures.extends;
      agents_driven = subst (λ (parts : List AgentPart). AreEachDriven plan.system agent_outputs (agents_of plan.system) parts c.drive_agents.new.builder) c.as_slice-2.ensures c.drive_agents.ensures.driven;
      no_other_agents = c.drive_agents.ensures.others;
    })
