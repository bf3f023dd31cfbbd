-- All parts that lead to one agent, as paths of parts.
use Rattle.std.specs.Prelude.{ℕ, zero, suc, ◌+◌, ◌<◌, Bool, false, not, ◌&&◌, ◌||◌, List, length, nat_lt, IsTrue, IsFalse}
use Rattle.histories.specs.History.{is_raised, numbers, one_if}
use Rattle.memory_runs.specs.Views.{System, Run}
use Rattle.memory_runs.specs.Commands.{shows, agent_accepts}
use Rattle.memory_runs.specs.Order.{taken}
use Rattle.memory_runs.specs.Awake.{owes}
use Rattle.memory_machines.specs.Link.{Target, Port, takes, shown_at, operations_among}
use Rattle.memory_machines.specs.Lines.{TaggedPort, target_of}
use Rattle.memory_machines.specs.Rank.{is_unclosed, moves_commands, path_at}
use Rattle.histories.specs.Path.{Path}
use Rattle.histories.specs.Window.{allowances}
use Rattle.histories.specs.Junction.{Junctions, Ranked, all_budgets, has_work}
use Rattle.memory_parts.specs.Steps.{IsArbiterPart, IsAgentPart}
use Rattle.memory_links.specs.Going.{is_behind, KeepsGoing}

-- the boundaries that lead to one agent
pub record Ways : Type 0 where
  pub stages : ℕ
  pub lower : ℕ → Port  -- 0 is before the agent's part, `stages` behind the arbiter
  pub answer_tag : ℕ → ℕ → ℕ
  pub above : ℕ → ℕ  -- the links of a host
  pub upper : ℕ → ℕ → Port  -- of a host: 0 is before the arbiter, `above` behind the route

abbrev pub tagged : Ways → ℕ → TaggedPort
tagged ways i = record { port = ways.lower i; answer_tag = ways.answer_tag i }

-- a part's rank and its largest value
pub record Standing : Type 0 where
  pub rank : ℕ → ℕ
  pub largest : ℕ

pub record Standings : Type 0 where
  pub agent : Standing
  pub lower : ℕ → Standing
  pub upper : ℕ → ℕ → Standing

-- every part that leads to an agent keeps what it promises
pub record KeepsAwake (system : System) (run : Run) (agent : ℕ) (ways : Ways) (standings : Standings) (end : ℕ) : Type 0 where
  pub agent_part : IsAgentPart system run agent (tagged ways 0) standings.agent.rank standings.agent.largest end
  pub lower : (i : ℕ) → i < ways.stages
      → KeepsGoing (target_of system agent) (ways.lower (suc i)) (ways.lower i) (standings.lower i).rank
      (standings.lower i).largest end
  pub arbiter : IsArbiterPart system agent (λ h. ways.upper h 0) (tagged ways ways.stages) end
  pub upper : (h i : ℕ) → h < system.hosts → i < ways.above h
      → KeepsGoing (target_of system agent) (ways.upper h (suc i)) (ways.upper h i) (standings.upper h i).rank
      (standings.upper h i).largest end

abbrev pub at_port : {A : Type 0} → A → (ℕ → A) → ℕ → A
at_port {A} x f zero = x
at_port {A} x f (suc p) = f p

-- one cycle of a path of links
abbrev pub links_at : Target → (ℕ → Port) → ℕ → Path
links_at target ports c =
    record (path_at target ports c) {
      untaken =
          λ i. is_behind target (ports (suc i)) (ports i) c;
      ready =
          λ i. moves_commands (ports (suc i)) (ports i) c || is_raised ((ports (suc i)).answers.valid (suc c));
    }

-- below the arbiter: port 0 is the agent's own
abbrev pub lower_at : System → Run → ℕ → Ways → ℕ → Path
lower_at system run agent ways c =
    let links = links_at (target_of system agent) ways.lower c in
    record {
      shown = at_port ((system.agent agent).has_waitrequest && shows (run.at_agent agent).signals c) links.shown;
      taken = at_port (agent_accepts (system.agent agent) (run.at_agent agent) c) links.taken;
      owed = at_port (owes system run agent c) links.owed;
      unclosed = at_port false links.unclosed;
      last_writes = at_port false links.last_writes;
      untaken =
          at_port
          (nat_lt (length (taken system run agent (suc c)))
          (length
          (operations_among (target_of system agent) (ways.lower 0).shape (shown_at (ways.lower 0) (suc c))))) links.untaken;
      ready = at_port (agent_accepts (system.agent agent) (run.at_agent agent) c) links.ready;
    }

-- a beat is taken or accepted, or a word comes up in the next cycle
abbrev pub moves_at : Port → Port → ℕ → Bool
moves_at up down c = moves_commands up down c || is_raised (up.answers.valid (suc c))

abbrev pub agent_moves : System → Run → ℕ → Ways → ℕ → Bool
agent_moves system run agent ways c =
    agent_accepts (system.agent agent) (run.at_agent agent) c || takes (ways.lower 0) c

-- in how many of so many cycles a test holds
abbrev pub count_in : (ℕ → Bool) → ℕ → ℕ → ℕ
count_in test from zero = 0
count_in test from (suc size) = count_in test from size + one_if (test (from + size))

abbrev pub ranked : Standing → (ℕ → Bool) → ℕ → ℕ → Ranked
ranked standing moves from size =
    record {
      rank =
          λ c. standing.rank (from + c);
      largest = standing.largest;
      moves = λ c. moves (from + c);
      few = count_in moves from size;
    }

abbrev pub unranked : Standing
unranked = record { rank = λ c. 0; largest = 0 }

-- a window of all parts that lead to an agent. The arbiter's rank is always 0
abbrev pub window : System → Run → ℕ → Ways → Standings → ℕ → ℕ → Junctions
window system run agent ways standings from size = record {
  below = ways.stages;
  hosts = system.hosts;
  above = ways.above;
  lower = λ c. lower_at system run agent ways (from + c);
  upper = λ h c. links_at (target_of system agent) (ways.upper h) (from + c);
  untaken = λ h c. false;
  ready = λ h c. false;
  lower_rank =
      at_port
      (ranked standings.agent (agent_moves system run agent ways) from size) (λ i. ranked (standings.lower i)
      (moves_at (ways.lower (suc i)) (ways.lower i)) from size);
  arbiter_rank = ranked unranked (takes (ways.lower ways.stages)) from size;
  upper_rank = λ h i. ranked (standings.upper h i) (moves_at (ways.upper h (suc i)) (ways.upper h i)) from size;
}

abbrev pub all_hosts : System → List ℕ
all_hosts system = numbers 0 system.hosts

-- a window in which a host has work on its way, the agent neither waits nor owes, and each host shows the rest of what it left
-- open
pub record IsAtWork (system : System) (run : Run) (agent : ℕ) (ways : Ways) (standings : Standings)
    (host from size : ℕ) : Type 0 where
  pub host_is : host < system.hosts
  pub ready : (c : ℕ) → c < size
      → IsFalse
      ((system.agent agent).has_waitrequest && shows (run.at_agent agent).signals (from + c)
      && not (agent_accepts (system.agent agent) (run.at_agent agent) (from + c)))
  pub answered : (c : ℕ) → c < size → IsFalse (owes system run agent (from + c))
  pub bursts : (h c : ℕ) → h < system.hosts → c < size → IsTrue (is_unclosed (ways.upper h (ways.above h)) (from + c))
      → IsTrue (shows (ways.upper h (ways.above h)).commands.signals (from + c))
  pub work : (c : ℕ) → c < size → IsTrue (has_work (window system run agent ways standings from size) host c)

-- the longest time that the ranks and the moves of the parts in a window allow
abbrev pub longest : System → Run → ℕ → Ways → Standings → ℕ → ℕ → ℕ
longest system run agent ways standings from size =
    allowances (all_budgets (window system run agent ways standings from size) (all_hosts system))
