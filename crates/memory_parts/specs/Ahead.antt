-- What the part next to an agent with readdatavalid does of a beat that stands before it, while the agent bears more reads. Reads
-- that travel while others are owed rest on it.
use Rattle.std.specs.Prelude.{◌≡◌, ℕ, suc, ◌-◌, ◌<◌, ◌≤◌, IsTrue, IsFalse}
use Rattle.histories.specs.History.{is_raised}
use Rattle.memory_runs.specs.Views.{System, Run}
use Rattle.memory_runs.specs.Commands.{shows, agent_accepts, stood_before, words_before}
use Rattle.memory_runs.specs.Legal.{unanswered}
use Rattle.memory_runs.specs.Order.{taken}
use Rattle.memory_runs.specs.Awake.{longest_wait}
use Rattle.memory_machines.specs.Link.{taken_at}
use Rattle.memory_machines.specs.Lines.{TaggedPort, target_of, tagged_operations, groups_of}

-- fewer reads are unanswered than the agent bears, as the cycle begins
abbrev pub BearsMore : System → Run → ℕ → ℕ → Type 0
BearsMore system run agent c =
    unanswered (system.agent agent).shape (run.at_agent agent).signals (agent_accepts (system.agent agent) (run.at_agent agent))
    (words_before (run.at_agent agent).readdatavalid c) c
    < (system.agent agent).pending

-- the wait states that the beat at the agent lacks
abbrev pub waits_left : System → Run → ℕ → ℕ → ℕ
waits_left system run agent c = longest_wait (system.agent agent) - stood_before (system.agent agent) (run.at_agent agent) c

pub record AcceptsAhead (system : System) (run : Run) (agent : ℕ) (up : TaggedPort) (end : ℕ) : Type 0 where
  -- nothing is kept: what the agent has taken is what was taken before its part
  pub taken : (c : ℕ) → c ≤ end
      → taken system run agent c ≡ tagged_operations (groups_of (target_of system agent) up.shape (taken_at up.port c))
  -- in each cycle the agent accepts the beat, or a wait state is over
  pub nears : (c : ℕ) → c < end → IsTrue (system.agent agent).has_readdatavalid → IsTrue (shows up.commands.signals c)
      → IsFalse (is_raised ((run.at_agent agent).waitrequest c)) → BearsMore system run agent c →
      IsFalse (agent_accepts (system.agent agent) (run.at_agent agent) c)
      → waits_left system run agent (suc c) < waits_left system run agent c
