-- What a plan, a stream and a run say of transactions.
use Rattle.std.proofs.Common.{◌≡◌, ℕ, ◌*◌, ◌^◌, ◌<◌, ◌≤◌, ◌⊎◌, inl, inr, List, refl, sym, subst}
use Rattle.iface_roles.specs.declared.records.HostPort.{HostPort}
use Rattle.iface_roles.specs.Proper.{range_of}
use Rattle.link_rules.specs.Links.{weight_of}
use Rattle.link_rules.specs.Plans.{PlanTable}
use Rattle.system_plan.specs.Plans.{IsPlanned, IsAccepted}
use Rattle.netlist.specs.Netlists.{Netlist, IsModule}
use Rattle.interconnect.specs.Interconnect.{IsInterconnect}
use Rattle.scenario_tables.specs.declared.scenario.Scenario.{Scenario}
use Rattle.simulations.specs.Noted.{IsNoted}
use Rattle.packet_bytes.specs.declared.faults.PacketFault.{PacketFault}
use Rattle.packet_bytes.specs.declared.faults.PacketFault.TheVariants as packet
use Rattle.packet_bytes.specs.declared.transfers.Transfers.{Transfers}
use Rattle.packet_bytes.specs.declared.replies.Replies.{Replies}
use Rattle.packet_bytes.specs.Rules.{AreTransfers, IsFaultOf}
use Rattle.packet_bytes.specs.Noted.{HasNoted}
use Rattle.scenario_runs.specs.Hosts.{IsTransferHost, HasNoTransferHost}
use Rattle.scenario_runs.specs.Stated.{scenario_of}
use Rattle.scenario_runs.specs.declared.bridges.faults.BridgeFault.{BridgeFault}
use Rattle.scenario_runs.specs.declared.bridges.faults.BridgeFault.TheVariants as fault
use Rattle.scenario_runs.specs.Bridged.{IsRunOf, HaveNoted}
use Rattle.scenario_runs.specs.Refused.{AreDue, CanBridge, IsBridgeFault, fault_of_packets}

planned_is_accepted : (files : List (List ℕ)) (plan : PlanTable) → IsPlanned files plan → IsAccepted files
planned_is_accepted files plan is = record { system = plan.system; stated = is.stated; maps = is.is_plan.maps.kept; links = is.is_plan.links; limits = is.is_plan.limits }

due : (files : List (List ℕ)) (bytes : List ℕ) (plan : PlanTable) (port : HostPort) (transfers : Transfers) → IsPlanned files plan → IsTransferHost plan.system port → AreTransfers port.word_bytes (range_of port) bytes transfers → AreDue files bytes
unfolding planned_is_accepted
due files bytes plan port transfers planned host read = record {
  accepted = planned_is_accepted files plan planned;
  port = port;
  host = host;
  packets = transfers.packets.items;
  read = read.read;
  faultless = read.faultless;
}

pub can_be_done : (files : List (List ℕ)) (bytes : List ℕ) (cycles : ℕ) (plan : PlanTable) (port : HostPort) (transfers : Transfers) → IsPlanned files plan → IsTransferHost plan.system port
    → AreTransfers port.word_bytes (range_of port) bytes transfers → cycles * weight_of plan.system ≤ 2 ^ 32 → CanBridge files bytes cycles
unfolding planned_is_accepted due
can_be_done files bytes cycles plan port transfers planned host read few = record { due = due files bytes plan port transfers planned host read; few = few }

pub too_long : (files : List (List ℕ)) (bytes : List ℕ) (cycles : ℕ) (plan : PlanTable) (port : HostPort) (transfers : Transfers) (count : ℕ) → IsPlanned files plan → IsTransferHost plan.system port
    → AreTransfers port.word_bytes (range_of port) bytes transfers → count ≡ cycles * weight_of plan.system → 2 ^ 32 < count → IsBridgeFault files bytes cycles (fault.TooManyValues count)
unfolding planned_is_accepted due
too_long files bytes cycles plan port transfers count planned host read is passed = record { due = due files bytes plan port transfers planned host read; count_is = is; passed = passed }

pub unfit : (files : List (List ℕ)) (bytes : List ℕ) (cycles : ℕ) (plan : PlanTable) → IsPlanned files plan → HasNoTransferHost plan.system → IsBridgeFault files bytes cycles (fault.PacketRefused 0 8)
unfolding planned_is_accepted
unfit files bytes cycles plan planned none = inl (refl, refl, record { accepted = planned_is_accepted files plan planned; none = none })

pub faulty : (files : List (List ℕ)) (bytes : List ℕ) (cycles : ℕ) (plan : PlanTable) (port : HostPort) (f : PacketFault) → IsPlanned files plan → IsTransferHost plan.system port → IsFaultOf port.word_bytes (range_of port) bytes f
    → (fault_of_packets f ≡ fault.NoMemory) ⊎ IsBridgeFault files bytes cycles (fault_of_packets f)
unfolding planned_is_accepted
faulty files bytes cycles plan port (packet.Refused byte rule) planned host is = inr (inr (record { accepted = planned_is_accepted files plan planned; port = port; host = host; is = is }))
faulty files bytes cycles plan port packet.NoMemory planned host is = inl refl

-- what was noted of a run of the scenario of these transactions
pub noted : (files : List (List ℕ)) (bytes : List ℕ) (cycles : ℕ) (plan : PlanTable) (port : HostPort) (transfers : Transfers) (netlist : Netlist) (scenario : Scenario) (replies : Replies) (beats : ℕ) (words : List ℕ)
    → IsPlanned files plan → IsTransferHost plan.system port → AreTransfers port.word_bytes (range_of port) bytes transfers → IsInterconnect plan netlist → IsModule netlist → scenario ≡ scenario_of plan.system cycles transfers
    → replies.transfers ≡ transfers → IsNoted plan scenario netlist 0 beats words → HasNoted beats words replies → HaveNoted files bytes cycles replies
noted files bytes cycles plan port transfers netlist scenario replies beats words planned host read built sound states same run has = record {
  beats = beats;
  words = words;
  is_run = subst (λ (t : Transfers). IsRunOf files bytes cycles t beats words) (sym same) (record {
    plan = plan;
    planned = planned;
    port = port;
    host = host;
    read = read;
    netlist = netlist;
    interconnect = built;
    is_module = sound;
    noted = subst (λ (s : Scenario). IsNoted plan s netlist 0 beats words) states run;
  });
  noted = has;
}
