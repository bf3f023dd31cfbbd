-- What the hosts and agents of a plan see of its module, and what every run of it does for them.
use Rattle.std.specs.Prelude.{ℕ, ◌≡◌, ◌+◌, ◌-◌, ◌^◌, ◌<◌, List, codes, slice_get}
use Rattle.std.specs.Option.{option_map_or}
use Rattle.system_tables.specs.declared.tables.EndId.{EndId}
use Rattle.address_map.specs.Maps.{hosts_of, agents_of}
use Rattle.link_rules.specs.Plans.{PlanTable}
use Rattle.netlist.specs.Netlists.{Netlist}
use Rattle.netlist.specs.Runs.{Cycle, Run, IsValuation, SameState, IsRun}
use Rattle.netlist.specs.Signals.{signal}
use Rattle.stream_runs.specs.Ends.{signal_or}
use Rattle.memory_runs.specs.Views.{Signals as CommandSignals, HostView, AgentView, Run as MemoryRun}
use Rattle.memory_runs.specs.Views.Responses.{AreCodes}
use Rattle.memory_runs.specs.Plan.{IsMemoryPlan}
use Rattle.memory_runs.specs.Order.{ActsAsMemory, ReadsFromMemory}
use Rattle.memory_runs.specs.Whole.{IsLegalRun, IsSafe}
use Rattle.memory_runs.specs.Awake.{NeverIdles, IsFair}
use Rattle.memory_runs.specs.Onward.{NoHostHangs, AcceptsSoon}
use Rattle.memory_runs.specs.Moment.{Moment, IgnoresReaddata}
use Rattle.memory_runs.specs.Packed.{ReadsEachTouchedWordOnce}
use Rattle.memory_awake.specs.Onward.{prompt_window}
use Rattle.memory_waits.specs.Windows.{host_window}
use Rattle.memory_plans.specs.Systems.{memory_system}
use Rattle.memory_plans.specs.Shown.{silent_host, silent_agent, moment_in, standing_still}
use Rattle.port_tables.specs.Ports.{EndName, port_name, name_at}

-- ---- what a run shows

-- the level at the port of a role in a cycle, and a stated one where there is no such port
abbrev pub level : Netlist → Run → EndName → ℕ → List ℕ → ℕ → ℕ
level netlist run name absent role = signal_or absent (signal netlist run (port_name name role))

-- the command signals at an end with words of so many bytes; without byteenable all lanes are enabled, and without burstcount a
-- command is of one beat
abbrev pub command_signals : Netlist → Run → ℕ → EndName → CommandSignals
command_signals netlist run bytes name =
    record {
      read = level netlist run name 0 (codes "read");
      write = level netlist run name 0 (codes "write");
      address = level netlist run name 0 (codes "address");
      word = level netlist run name 0 (codes "writedata");
      enables = level netlist run name (2 ^ bytes - 1) (codes "byteenable");
      count = level netlist run name 1 (codes "burstcount");
    }

abbrev pub host_view : Netlist → Run → ℕ → EndName → HostView
host_view netlist run bytes name =
    record {
      signals = command_signals netlist run bytes name;
      waitrequest = level netlist run name 0 (codes "waitrequest");
      readdata = level netlist run name 0 (codes "readdata");
      readdatavalid = level netlist run name 0 (codes "readdatavalid");
      response = level netlist run name 0 (codes "response");
    }

abbrev pub agent_view : Netlist → Run → ℕ → EndName → AgentView
agent_view netlist run bytes name =
    record {
      signals = command_signals netlist run bytes name;
      waitrequest = level netlist run name 0 (codes "waitrequest");
      readdata = level netlist run name 0 (codes "readdata");
      readdatavalid = level netlist run name 0 (codes "readdatavalid");
      response = level netlist run name 0 (codes "response");
      grant = level netlist run name 0 (codes "grant");
    }

-- what a run shows at the hosts and agents of a plan, found by the names of their ports; past their numbers nothing
abbrev pub host_in : PlanTable → Netlist → Run → ℕ → HostView
host_in plan netlist run h =
    option_map_or (λ (end : EndId). host_view netlist run ((memory_system plan).host h).word_bytes (name_at plan.system end))
    (slice_get (hosts_of plan.system) h) silent_host

abbrev pub agent_in : PlanTable → Netlist → Run → ℕ → AgentView
agent_in plan netlist run a =
    option_map_or (λ (end : EndId). agent_view netlist run ((memory_system plan).agent a).word_bytes (name_at plan.system end))
    (slice_get (agents_of plan.system) a) silent_agent

abbrev pub module_run : PlanTable → Netlist → Run → MemoryRun
module_run plan netlist run = record { at_host = host_in plan netlist run; at_agent = agent_in plan netlist run }

-- with registers and memories as in `state` the module can show this moment
abbrev pub CanShow : PlanTable → Netlist → Cycle → Moment → Type 0
CanShow plan netlist state moment =
    (cycle : Cycle) × IsValuation netlist cycle × SameState netlist state cycle
    × (moment ≡ moment_in (module_run plan netlist (standing_still cycle)) 0)

-- ---- what every run does

-- In every run of the module whose hosts and agents are legal, the module keeps its own side of the rules at them all, the
-- granted order, the return of words in command order, and the lag; a wanted agent is served within its window, and where nothing
-- but the module can hold a host's oldest command up, the command itself moves on within its window; among hosts like their
-- agent, which is prompt, a beat is accepted soon; hosts that ask have their shares; every byte that a host is given from an
-- agent that acts as memory is what the writes before its read have left; each word of an agent that a read touches, of a host
-- whose word is no larger, is read once; and no command depends on the word that comes in its cycle, nor on its code
pub record ServesMemory (plan : PlanTable) (netlist : Netlist) : Type 0 where
  pub kept : IsMemoryPlan (memory_system plan)
  pub safe : (run : Run) (cycles : ℕ) → IsRun netlist run cycles
      → IsLegalRun (memory_system plan) (module_run plan netlist run) cycles
      → IsSafe AreCodes (memory_system plan) (module_run plan netlist run) cycles
  pub awake : (run : Run) (cycles : ℕ) → IsRun netlist run cycles
      → IsLegalRun (memory_system plan) (module_run plan netlist run) cycles
      → NeverIdles (memory_system plan) (module_run plan netlist run) cycles
  pub moves : (run : Run) (cycles : ℕ) → IsRun netlist run cycles
      → IsLegalRun (memory_system plan) (module_run plan netlist run) cycles
      → NoHostHangs (host_window (memory_system plan)) (memory_system plan) (module_run plan netlist run) cycles
  pub accepts : (run : Run) (cycles : ℕ) → IsRun netlist run (cycles + 2)
      → IsLegalRun (memory_system plan) (module_run plan netlist run) (cycles + 2)
      → AcceptsSoon (prompt_window (memory_system plan)) (memory_system plan) (module_run plan netlist run) cycles
  pub fair : (run : Run) (cycles : ℕ) → IsRun netlist run cycles
      → IsLegalRun (memory_system plan) (module_run plan netlist run) cycles
      → IsFair (memory_system plan) (module_run plan netlist run) cycles
  pub reads_back : (run : Run) (cycles host agent : ℕ) (contents : ℕ → ℕ) → host < (memory_system plan).hosts
      → agent < (memory_system plan).agents
      → IsRun netlist run cycles → IsLegalRun (memory_system plan) (module_run plan netlist run) cycles
      → ActsAsMemory (memory_system plan) (module_run plan netlist run) contents agent cycles
      → ReadsFromMemory (memory_system plan) (module_run plan netlist run) host agent contents cycles
  pub packed : (run : Run) (cycles host agent : ℕ) → host < (memory_system plan).hosts → agent < (memory_system plan).agents
      → IsRun netlist run cycles → IsLegalRun (memory_system plan) (module_run plan netlist run) cycles
      → ReadsEachTouchedWordOnce (memory_system plan) (module_run plan netlist run) host agent cycles
  pub ignores_readdata : IgnoresReaddata AreCodes (memory_system plan) (CanShow plan netlist)
