-- What leads to each agent of a system, where a wanted agent and the default agent are served within their windows. Go on to
-- `Front`, `Ways` and `Slack`.
use Rattle.std.specs.Prelude.{ℕ, ◌<◌}
use Rattle.memory_runs.specs.Views.{System, Run}
use Rattle.memory_runs.specs.Whole.{IsLegalRun}
use Rattle.memory_runs.specs.Awake.{ServesWithin, ServesDefaultWithin, agent_window, window_of}
use Rattle.memory_machines.specs.Turns.{seats_of}
use Rattle.histories.specs.Turns.{AllShare}
use Rattle.memory_awake.specs.Ways.{Ways, Standings}
use Rattle.memory_awake.specs.Front.{KeepsWhole, IsDefaultFront}
use Rattle.memory_awake.specs.Slack.{Slacks, AllPassOn, AreModest}

-- what leads to an agent: the boundaries, the ranks of the parts between them, and what these hold back
pub record Approach : Type 0 where
  pub ways : Ways
  pub standings : Standings
  pub slacks : Slacks

-- every part that leads to an agent keeps its record, each host that is joined has a share, and ranks and slacks are modest
pub record IsApproach (system : System) (run : Run) (agent : ℕ) (approach : Approach) (end : ℕ) : Type 0 where
  pub shares : AllShare (seats_of system agent)
  pub parts : KeepsWhole system run agent approach.ways approach.standings end
  pub pass : AllPassOn system approach.ways approach.slacks end
  pub modest : AreModest system agent approach.ways approach.standings approach.slacks

-- all parts of a system, and what is asked of the components
pub record IsAwake (system : System) (run : Run) (approach : ℕ → Approach) (end : ℕ) : Type 0 where
  pub legal : IsLegalRun system run end
  pub agents : (a : ℕ) → a < system.agents → IsApproach system run a (approach a) end
  pub default : (h : ℕ) → h < system.hosts → IsDefaultFront system run h end

-- a wanted agent, and the default agent, are served within their windows
pub record ServesWanted (system : System) (run : Run) (end : ℕ) : Type 0 where
  pub agents : (a : ℕ) → a < system.agents → ServesWithin (agent_window system a) system run a end
  pub default : ServesDefaultWithin (window_of system 0) system run end
