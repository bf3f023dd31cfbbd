-- What components may do in each cycle, whatever came before it and whatever the module shows: a legal run goes on so.
use Rattle.std.specs.Prelude.{◌≡◌, ℕ, zero, suc, ◌+◌, ◌<◌, Bool, false, nat_eq, IsTrue, IsFalse, if◌then◌else◌}
use Rattle.histories.specs.History.{is_raised}
use Rattle.memory_runs.specs.Views.{Signals, HostView, AgentSide, AgentView, System, Run, levels_at}
use Rattle.memory_runs.specs.Commands.{shows, is_held}
use Rattle.memory_runs.specs.Legal.{host_accepts}

-- a beat was shown in the cycle before this one, and not accepted
abbrev pub waits_on : Signals → (ℕ → Bool) → ℕ → Bool
waits_on signals accepts zero = false
waits_on signals accepts (suc cycle) = is_held signals accepts cycle

-- a host rests in a cycle: a beat that waits stands on unchanged, and where none waits the host shows none
pub record HostRests (view : HostView) (cycle : ℕ) : Type 0 where
  pub held : (c : ℕ) → suc c ≡ cycle → IsTrue (is_held view.signals (host_accepts view) c)
      → levels_at view.signals c ≡ levels_at view.signals (suc c)
  pub silent : IsFalse (waits_on view.signals (host_accepts view) cycle) → IsFalse (shows view.signals cycle)

-- an agent with readdatavalid rests: it gives no word. Whether it lets its command wait is its own choice
abbrev pub AgentRests : AgentSide → AgentView → ℕ → Type 0
AgentRests side view cycle = IsTrue side.has_readdatavalid → IsFalse (is_raised (view.readdatavalid cycle))

-- all components rest in a cycle
pub record AreAtRest (system : System) (run : Run) (cycle : ℕ) : Type 0 where
  pub hosts : (h : ℕ) → h < system.hosts → HostRests (run.at_host h) cycle
  pub agents : (a : ℕ) → a < system.agents → AgentRests (system.agent a) (run.at_agent a) cycle

-- ---- the same as a run: what the module shows stays, and in one cycle the components rest

-- in two runs the module shows the same in each cycle, whatever the components do
pub record ModuleShowsAlike (one two : Run) : Type 0 where
  pub waitrequest : (h : ℕ) → (one.at_host h).waitrequest ≡ (two.at_host h).waitrequest
  pub readdata : (h : ℕ) → (one.at_host h).readdata ≡ (two.at_host h).readdata
  pub readdatavalid : (h : ℕ) → (one.at_host h).readdatavalid ≡ (two.at_host h).readdatavalid
  pub response : (h : ℕ) → (one.at_host h).response ≡ (two.at_host h).response
  pub commands : (a : ℕ) → (one.at_agent a).signals ≡ (two.at_agent a).signals
  pub grant : (a : ℕ) → (one.at_agent a).grant ≡ (two.at_agent a).grant

-- the signal stands on in a cycle where a beat waits
abbrev pub resting : Bool → (ℕ → ℕ) → ℕ → ℕ
resting waits signal zero = 0
resting waits signal (suc cycle) = if waits then signal cycle else 0

-- the signal with another level in one cycle
abbrev pub with_level : (ℕ → ℕ) → ℕ → ℕ → ℕ → ℕ
with_level signal end level cycle = if nat_eq cycle end then level else signal cycle

abbrev pub rested_signal : Bool → ℕ → (ℕ → ℕ) → ℕ → ℕ
rested_signal waits end signal = with_level signal end (resting waits signal end)

abbrev pub rested_signals : Bool → ℕ → Signals → Signals
rested_signals waits end signals = record {
  read = rested_signal waits end signals.read;
  write = rested_signal waits end signals.write;
  address = rested_signal waits end signals.address;
  word = rested_signal waits end signals.word;
  enables = rested_signal waits end signals.enables;
  count = rested_signal waits end signals.count;
}

abbrev pub rested_host : ℕ → HostView → HostView
rested_host end view = record view { signals = rested_signals (waits_on view.signals (host_accepts view) end) end view.signals }

abbrev pub rested_agent : ℕ → AgentView → AgentView
rested_agent end view = record view { readdatavalid = with_level view.readdatavalid end 0 }

-- the run in which all components rest in cycle `end`
abbrev pub rested : Run → ℕ → Run
rested run end = record { at_host = λ h. rested_host end (run.at_host h); at_agent = λ a. rested_agent end (run.at_agent a) }

-- and in each of so many cycles from there on
abbrev pub rested_on : Run → ℕ → ℕ → Run
rested_on run end zero = run
rested_on run end (suc more) = rested (rested_on run end more) (end + more)
