-- Reads travel while others are owed in a whole system.
use Rattle.std.proofs.Common.{ℕ, ◌<◌, ◌≤◌, ◌+◌, arith, IsTrue, lt-ltb}
use Rattle.std.specs.List.{list_all}
use Rattle.histories.specs.Turns.{AllShare}
use Rattle.memory_runs.specs.Views.{System, Run}
use Rattle.memory_runs.specs.Commands.{agent_accepts}
use Rattle.memory_runs.specs.Legal.{IsLegalHost}
use Rattle.memory_runs.specs.Awake.{IsAsked, ReadsAheadWithin, asks_only, agent_window, longest_wait, is_alike, Throughout, Sometime}
use Rattle.memory_machines.specs.Turns.{seats_of}
use Rattle.memory_awake.specs.Ways.{Ways, Standings}
use Rattle.memory_awake.specs.Front.{KeepsWhole, owes_alone}
use Rattle.memory_awake.specs.Ahead.{LeadsAhead, CanTakeMore}
use Rattle.memory_awake.specs.Approach.{Approach, IsAwake}

pub record Laws : Type 0 where
  pub owed : (system : System) (run : Run) (host end : ℕ) → IsLegalHost (system.host host) (run.at_host host) end → (agent c : ℕ) → c < end → IsTrue (asks_only system run host agent c) → IsTrue (owes_alone system run host agent c)
  pub accepts : (system : System) (run : Run) (agent : ℕ) (ways : Ways) (standings : Standings) (host from size end : ℕ) → from + size + 2 ≤ end → host < system.hosts → ways.stages + longest_wait (system.agent agent) + 2 ≤ size →
      AllShare (seats_of system agent) → KeepsWhole system run agent ways standings end → LeadsAhead system run agent ways end → IsTrue (system.agent agent).has_readdatavalid →
      IsTrue (list_all (λ host. is_alike (system.host host) (system.agent agent)) (system.joined agent)) → Throughout from size (CanTakeMore system run agent host) →
      Sometime from size (λ c. IsTrue (agent_accepts (system.agent agent) (run.at_agent agent) c))

can_take : Laws → (system : System) (run : Run) (agent host end c : ℕ) → IsLegalHost (system.host host) (run.at_host host) end → c < end → IsAsked system run agent host c → CanTakeMore system run agent host c
can_take laws system run agent host end c legal fit asked = record {
  ready = asked.ready;
  bears = asked.room;
  room = lt-ltb _ 16 asked.few;
  alone = laws.owed system run host end legal agent c fit asked.only;
  untaken = asked.untaken;
}

pub reads_ahead : Laws → (system : System) (run : Run) (approach : ℕ → Approach) (end : ℕ) → IsAwake system run approach (end + 2) →
    ((a : ℕ) → a < system.agents → IsTrue (system.agent a).has_readdatavalid → LeadsAhead system run a (approach a).ways (end + 2)) → (a : ℕ) → a < system.agents → ReadsAheadWithin (agent_window system a) system run a end
reads_ahead laws system run approach end is lead a there has alike from host inside low asked =
    let way = is.agents a there in
    let stages = way.modest.stages in
    laws.accepts system run a (approach a).ways (approach a).standings host from (agent_window system a) (end + 2) (omega (arith, inside)) low (omega (arith, stages)) way.shares way.parts (lead a there has) has alike
    (λ c above below. can_take laws system run a host (end + 2) c (is.legal.hosts host low) (omega (arith, below, inside)) (asked c above below))
