-- How long a beat may stand at its host, and within how many cycles a command moves on beside its neighbours.
use Rattle.std.specs.Prelude.{ℕ, suc, ◌+◌, ◌-◌, ◌*◌, ◌<◌, ◌≤◌, Bool, not, ◌&&◌, ◌||◌, IsTrue, IsFalse, Some}
use Rattle.histories.specs.History.{is_raised, numbers}
use Rattle.memory_runs.specs.Views.{System, Run}
use Rattle.memory_runs.specs.Commands.{agent_accepts}
use Rattle.memory_runs.specs.Legal.{host_accepts}
use Rattle.memory_runs.specs.Awake.{owes, is_oldest, is_for, lacks_beats, Throughout, longest_wait}
use Rattle.memory_runs.specs.Onward.{bursts_go_on, longest_of}
use Rattle.memory_machines.specs.Link.{Port}
use Rattle.memory_machines.specs.Rank.{is_owed}
use Rattle.memory_machines.specs.Turns.{seats_of}
use Rattle.memory_awake.specs.Ways.{count_in}
use Rattle.memory_awake.specs.Steps.{beats_of_others}

-- the agent neither stalls nor owes an answer, and no burst for it lacks a beat
abbrev pub is_good : System → Run → ℕ → ℕ → Bool
is_good system run agent cycle =
    bursts_go_on system run agent cycle && not (is_raised ((run.at_agent agent).waitrequest cycle))
    && not (owes system run agent cycle)

-- one round of the others at an agent: each host's share of its longest bursts
abbrev pub round_of_others : System → ℕ → ℕ → ℕ
round_of_others system agent host = beats_of_others (longest_of system) host (seats_of system agent)

-- the same by other numbers of steps
abbrev pub round_by : (ℕ → ℕ) → System → ℕ → ℕ → ℕ
round_by steps system agent host = beats_of_others steps host (seats_of system agent)

-- a round of the others and a host's own beat, each with the agent's wait states, and a cycle
abbrev pub moves_by : ℕ → System → ℕ → ℕ
moves_by round system agent = (round + 1) * (longest_wait (system.agent agent) + 1) + 1

abbrev pub wired_window : System → ℕ → ℕ → ℕ
wired_window system agent host = moves_by (round_of_others system agent host) system agent

-- where an agent owes nothing by the end of a cycle, no word is owed above the part next to it. So it is but at read latency 0,
-- where a word goes up one cycle later
abbrev pub SendsWordsUp : System → Run → ℕ → Port → ℕ → Type 0
SendsWordsUp system run agent port end = (c : ℕ) → suc c < end → IsFalse (owes system run agent c) → IsFalse (is_owed port c)

-- a beat of the oldest command, which is for the agent, stands at its host and isn't accepted, while no burst for the agent lacks
-- a beat. A read of a host without readdatavalid is left out: it stands until its word comes
pub record IsStanding (system : System) (run : Run) (agent host number cycle : ℕ) : Type 0 where
  pub oldest : IsTrue (is_oldest system run host number cycle)
  pub for_agent : IsTrue (is_for system run host (Some agent) number (suc cycle))
  pub lacking : IsTrue (lacks_beats system run host number cycle)
  pub waits : IsFalse (host_accepts (run.at_host host) cycle)
  pub bursts : IsTrue (bursts_go_on system run agent cycle)
  pub passes : IsTrue (is_raised ((run.at_host host).write cycle) || (system.host host).has_readdatavalid)

-- the good cycles in which a beat may stand. Each beat of the others may bring its wait states, a cycle in which its word comes,
-- and one for each stage
abbrev pub standing_by : ℕ → System → ℕ → ℕ
standing_by round system agent =
    round * (longest_wait (system.agent agent) + system.stages + 2) + (longest_wait (system.agent agent) + system.stages + 1)

-- the beats that the agent accepts meanwhile: those of one round, and those that stand in the pipe
abbrev pub accepted_by : ℕ → System → ℕ
accepted_by round system = round + 2 * system.stages

abbrev pub standing_window : System → ℕ → ℕ → ℕ
standing_window system agent host = standing_by (round_of_others system agent host) system agent

abbrev pub beats_before : System → ℕ → ℕ → ℕ
beats_before system agent host = accepted_by (round_of_others system agent host) system

-- a beat stands for few good cycles, and few beats of others are taken meanwhile
abbrev pub StandsFor : ℕ → ℕ → System → Run → ℕ → ℕ → ℕ → Type 0
StandsFor cycles beats system run agent host end =
    (from size number : ℕ) → from + size ≤ end → Throughout from size (IsStanding system run agent host number) →
    (count_in (is_good system run agent) from size ≤ cycles)
    × (count_in (agent_accepts (system.agent agent) (run.at_agent agent)) from size ≤ beats)

-- a beat stands at its host for fewer cycles than these: the good ones, and the agent's latency for each beat that it accepts
-- meanwhile, and once more
abbrev pub prompt_by : ℕ → System → ℕ → ℕ → ℕ
prompt_by round system agent late = standing_by round system agent + late * (accepted_by round system + 1)

abbrev pub prompt_window : System → ℕ → ℕ → ℕ → ℕ
prompt_window system agent host late = prompt_by (round_of_others system agent host) system agent late
