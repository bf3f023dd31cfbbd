-- No host hangs: where nothing but the module can hold a command up, the command itself moves on.
use Rattle.std.specs.Prelude.{ℕ, suc, ◌+◌, ◌-◌, ◌<◌, ◌≤◌, Bool, not, ◌&&◌, ◌||◌, nat_eq, IsTrue, IsFalse, Some}
use Rattle.std.specs.List.{list_all}
use Rattle.histories.specs.History.{is_raised, numbers}
use Rattle.memory_runs.specs.Views.{System, Run}
use Rattle.memory_runs.specs.Commands.{longest_burst, agent_accepts}
use Rattle.memory_runs.specs.Legal.{host_accepts}
use Rattle.memory_runs.specs.Order.{is_joined}
use Rattle.memory_runs.specs.Awake.{are_taken, are_given, is_given_from, is_accepted_now, is_alike, is_for, is_oldest, lacks_beats, owes, shows_its_burst, IsWanted, Throughout, Sometime}

-- the agent takes a beat with the host's tag while operations of the command lack there
abbrev pub is_taken_now : System → Run → ℕ → ℕ → ℕ → ℕ → Bool
is_taken_now system run agent host number cycle =
    agent_accepts (system.agent agent) (run.at_agent agent) cycle && nat_eq ((run.at_agent agent).grant cycle) host
    && not (are_taken system run host number cycle agent)

-- the host is given a word from the agent while words of the command lack
abbrev pub is_given_now : System → Run → ℕ → ℕ → ℕ → ℕ → Bool
is_given_now system run agent host number cycle =
    is_given_from system run (Some agent) cycle host && not (are_given system run host number cycle)

-- the oldest command of a host, which is for the agent, moves on
abbrev pub moves_on : System → Run → ℕ → ℕ → ℕ → ℕ → Bool
moves_on system run agent host number cycle =
    is_accepted_now system run host number cycle || is_taken_now system run agent host number cycle
    || is_given_now system run agent host number cycle

-- throughout a window of so many cycles the command is the oldest unfinished one of its host, and it is for the agent, which
-- neither stalls nor owes an answer, and each host with a write burst for the agent under way shows a beat: then the command
-- moves on in it
abbrev pub MovesWithin : ℕ → System → Run → ℕ → ℕ → ℕ → Type 0
MovesWithin size system run agent host end =
    (from number : ℕ) → from + size ≤ end → Throughout from size (IsWanted system run agent host number) →
    Sometime from size (λ c. IsTrue (moves_on system run agent host number c))

-- each host that is joined to an agent
pub record NoHostHangs (window : ℕ → ℕ → ℕ) (system : System) (run : Run) (end : ℕ) : Type 0 where
  pub moves : (a h : ℕ) → a < system.agents → h < system.hosts → IsTrue (is_joined system a h)
      → MovesWithin (window a h) system run a h end

-- the longest burst of a host, in beats
abbrev pub longest_of : System → ℕ → ℕ
longest_of system host = longest_burst (system.host host).burst_bits

-- ---- where an agent owes answers meanwhile

-- each host with a write burst for the agent under way shows a beat
abbrev pub bursts_go_on : System → Run → ℕ → ℕ → Bool
bursts_go_on system run agent cycle = list_all (shows_its_burst system run (Some agent) cycle) (numbers 0 system.hosts)

-- an agent that never stalls, and that owes nothing by the end of so many cycles in which it takes nothing
pub record IsPrompt (system : System) (run : Run) (agent late end : ℕ) : Type 0 where
  pub ready : (c : ℕ) → c < end → IsFalse (is_raised ((run.at_agent agent).waitrequest c))
  pub answers : (c : ℕ) → c + late ≤ end
      → Throughout c late (λ k. IsFalse (agent_accepts (system.agent agent) (run.at_agent agent) k))
      → IsFalse (owes system run agent (c + late - 1))

-- the oldest command lacks beats, whether or not one is accepted in this cycle
pub record IsLacking (system : System) (run : Run) (agent host number cycle : ℕ) : Type 0 where
  pub oldest : IsTrue (is_oldest system run host number cycle)
  pub for_agent : IsTrue (is_for system run host (Some agent) number (suc cycle))
  pub lacking : IsTrue (lacks_beats system run host number cycle)
  pub bursts : IsTrue (bursts_go_on system run agent cycle)
  pub passes : IsTrue (is_raised ((run.at_host host).write cycle) || (system.host host).has_readdatavalid)

-- in each window of so many cycles in which the oldest command lacks beats one is accepted
abbrev pub AcceptsWithin : ℕ → System → Run → ℕ → ℕ → ℕ → Type 0
AcceptsWithin size system run agent host end =
    (from number : ℕ) → from + size ≤ end → Throughout from size (IsLacking system run agent host number) →
    Sometime from size (λ c. IsTrue (host_accepts (run.at_host host) c))

-- each host among hosts whose plain commands reach the agent one for one, where the agent is prompt
pub record AcceptsSoon (window : ℕ → ℕ → ℕ → ℕ) (system : System) (run : Run) (end : ℕ) : Type 0 where
  pub accepts : (a h late : ℕ) → a < system.agents → h < system.hosts → IsTrue (is_joined system a h)
      → IsTrue (list_all (λ host. is_alike (system.host host) (system.agent a)) (system.joined a)) →
      1 ≤ late → IsPrompt system run a late (end + 2) → AcceptsWithin (window a h late) system run a h end
