-- The hosts and agents of a system gathered one after the other.
use Rattle.std.proofs.Common.{◌≡◌, ℕ, ◌+◌, List, [], ◌∷◌, ◌++◌, sym, subst, arith, length-append}
use Rattle.std.proofs.lemmas.Option.{none-some}
use Rattle.system_tables.specs.Tables.{SystemTable}
use Rattle.netlist.specs.Netlists.{Netlist}
use Rattle.mm_host.specs.Hosts.{AreHostNets}
use Rattle.mm_agent.specs.Agents.{AreAgentNets}
use Rattle.mm_fabric.specs.declared.begun.HostEnd.{HostEnd}
use Rattle.mm_fabric.specs.declared.asks.AgentEnd.{AgentEnd}
use Rattle.interconnect.specs.Hosts.{IsHostIn, AreHostsIn}
use Rattle.interconnect.specs.Agents.{IsAgentIn, AreAgentsIn}
use Rattle.interconnect.proofs.Passing.{each_more}

pub no_host : (system : SystemTable) (netlist : Netlist) (hosts : List HostEnd) → hosts ≡ [] → AreHostsIn system netlist 0 hosts
no_host system netlist hosts none = subst (AreHostsIn system netlist 0) (sym none) (record {
  many = omega arith;
  each = λ h host at. absurd (none-some host at);
  nets = λ h host at. absurd (none-some host at);
})

pub one_host_more : (system : SystemTable) (netlist : Netlist) (count : ℕ) (hosts new : List HostEnd) (host : HostEnd) → AreHostsIn system netlist count hosts → IsHostIn system count host → AreHostNets netlist host.port host.nets
    → new ≡ hosts ++ host ∷ [] → AreHostsIn system netlist (count + 1) new
one_host_more system netlist count hosts new host to is nets more = subst (AreHostsIn system netlist (count + 1)) (sym more) (record {
  many = (let many = to.many in let long = length-append hosts (host ∷ []) in omega (arith, many, long));
  each = each_more (IsHostIn system) hosts host to.each (subst (λ (n : ℕ). IsHostIn system n host) (sym to.many) is);
  nets = each_more (λ (n : ℕ) (h : HostEnd). AreHostNets netlist h.port h.nets) hosts host to.nets nets;
})

pub no_agent : (system : SystemTable) (netlist : Netlist) (agents : List AgentEnd) → agents ≡ [] → AreAgentsIn system netlist 0 agents
no_agent system netlist agents none = subst (AreAgentsIn system netlist 0) (sym none) (record {
  many = omega arith;
  each = λ a agent at. absurd (none-some agent at);
  nets = λ a agent at. absurd (none-some agent at);
})

pub one_agent_more : (system : SystemTable) (netlist : Netlist) (count : ℕ) (agents new : List AgentEnd) (agent : AgentEnd) → AreAgentsIn system netlist count agents → IsAgentIn system count agent → AreAgentNets netlist agent.port agent.nets
    → new ≡ agents ++ agent ∷ [] → AreAgentsIn system netlist (count + 1) new
one_agent_more system netlist count agents new agent to is nets more = subst (AreAgentsIn system netlist (count + 1)) (sym more) (record {
  many = (let many = to.many in let long = length-append agents (agent ∷ []) in omega (arith, many, long));
  each = each_more (IsAgentIn system) agents agent to.each (subst (λ (n : ℕ). IsAgentIn system n agent) (sym to.many) is);
  nets = each_more (λ (n : ℕ) (a : AgentEnd). AreAgentNets netlist a.port a.nets) agents agent to.nets nets;
})
