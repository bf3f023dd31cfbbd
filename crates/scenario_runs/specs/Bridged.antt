-- The replies that a run gives to transactions.
use Rattle.std.specs.Prelude.{◌≡◌, ℕ, List}
use Rattle.iface_roles.specs.declared.records.HostPort.{HostPort}
use Rattle.iface_roles.specs.Proper.{range_of}
use Rattle.link_rules.specs.Plans.{PlanTable}
use Rattle.system_plan.specs.Plans.{IsPlanned}
use Rattle.netlist.specs.Netlists.{Netlist, IsModule}
use Rattle.interconnect.specs.Interconnect.{IsInterconnect}
use Rattle.simulations.specs.Noted.{IsNoted}
use Rattle.packet_bytes.specs.declared.transfers.Transfers.{Transfers}
use Rattle.packet_bytes.specs.declared.replies.Replies.{Replies}
use Rattle.packet_bytes.specs.Rules.{AreTransfers}
use Rattle.packet_bytes.specs.Noted.{HasNoted, sent}
use Rattle.scenario_runs.specs.Hosts.{IsTransferHost}
use Rattle.scenario_runs.specs.Stated.{scenario_of}

-- so many write beats of host 0 are accepted and these words given to it, in a simulation of so many cycles, on a module of the
-- plan that files state, of the scenario in which it does the commands of the transactions of a stream and nothing else is stated
pub record IsRunOf (files : List (List ℕ)) (bytes : List ℕ) (cycles : ℕ) (transfers : Transfers) (beats : ℕ)
    (words : List ℕ) : Type 0 where
  pub plan : PlanTable
  pub planned : IsPlanned files plan
  pub port : HostPort
  pub host : IsTransferHost plan.system port
  pub read : AreTransfers port.word_bytes (range_of port) bytes transfers
  pub netlist : Netlist
  pub interconnect : IsInterconnect plan netlist
  pub is_module : IsModule netlist
  pub noted : IsNoted plan (scenario_of plan.system cycles transfers) netlist 0 beats words

-- the text is the replies to the leading transactions of a stream all of whose write beats are accepted and words given in such a
-- run: to a read with the bytes that it asks for of these words
pub record IsBridged (files : List (List ℕ)) (bytes : List ℕ) (cycles : ℕ) (text : List ℕ) : Type 0 where
  pub transfers : Transfers
  pub beats : ℕ
  pub words : List ℕ
  pub is_run : IsRunOf files bytes cycles transfers beats words
  pub is_text : text ≡ sent transfers beats words

-- replies that have noted such a run
pub record HaveNoted (files : List (List ℕ)) (bytes : List ℕ) (cycles : ℕ) (replies : Replies) : Type 0 where
  pub beats : ℕ
  pub words : List ℕ
  pub is_run : IsRunOf files bytes cycles replies.transfers beats words
  pub noted : HasNoted beats words replies
