-- A whole system serves what is wanted of it.
use Rattle.std.proofs.Common.{ℕ, suc, ◌<◌, ◌≤◌, ◌≡◌, ◌+◌, ◌-◌, arith, subst}
use Rattle.std.proofs.Math.Nat.{lt_of_le_of_lt}
use Rattle.histories.specs.Turns.{AllShare}
use Rattle.memory_runs.specs.Views.{System, Run}
use Rattle.memory_runs.specs.Awake.{ServesWithin, ServesDefaultWithin, agent_window, window_of}
use Rattle.memory_machines.specs.Turns.{seats_of}
use Rattle.memory_awake.specs.Front.{KeepsWhole, IsDefaultFront, AreLegalHosts, AllowLessThan, IsUnserved}
use Rattle.memory_awake.specs.Slack.{Slacks, AllPassOn, CostsAtMost, AreModest, all_allow}
use Rattle.memory_awake.specs.Approach.{Approach, IsAwake, ServesWanted}
use Rattle.memory_awake.specs.Ways.{Ways, Standings, longest}

pub record Laws : Type 0 where
  pub agents : (system : System) (run : Run) (agent : ℕ) (ways : Ways) (standings : Standings) (size end longer : ℕ) → end + 2 ≤ longer → AllShare (seats_of system agent) → KeepsWhole system run agent ways standings longer →
      AreLegalHosts system run longer → AllowLessThan size system run agent ways standings end → ServesWithin (suc size) system run agent end
  pub default : (system : System) (run : Run) (size end longer : ℕ) → 2 ≤ size → end + 2 ≤ longer → AreLegalHosts system run longer → ((h : ℕ) → h < system.hosts → IsDefaultFront system run h longer) → ServesDefaultWithin size system run end
  pub few : (system : System) (run : Run) (agent : ℕ) (ways : Ways) (standings : Standings) (slacks : Slacks) (from size most end : ℕ) → from + size + 2 ≤ end → KeepsWhole system run agent ways standings end → AllPassOn system ways slacks end →
      CostsAtMost most system ways standings → IsUnserved system run agent from (suc size) → longest system run agent ways standings from size ≤ all_allow system ways standings slacks most
  pub fit : (system : System) (agent : ℕ) (ways : Ways) (standings : Standings) (slacks : Slacks) → AreModest system agent ways standings slacks → all_allow system ways standings slacks 5 + 1 < agent_window system agent

pub awake : Laws → (system : System) (run : Run) (approach : ℕ → Approach) (end : ℕ) → IsAwake system run approach (end + 2) → ServesWanted system run end
awake laws system run approach end is = record {
  agents = λ a there.
      let way = is.agents a there in
      let on = approach a in
      let size = agent_window system a - 1 in
      let fit = laws.fit system a on.ways on.standings on.slacks way.modest in
      let one_more : suc size ≡ agent_window system a = omega arith in
      subst (λ n. ServesWithin n system run a end) one_more
      (laws.agents system run a on.ways on.standings size end (end + 2) (omega arith) way.shares way.parts is.legal.hosts
      (λ from inside none. lt_of_le_of_lt
      (laws.few system run a on.ways on.standings on.slacks from size 5 (end + 2) (omega (arith, inside)) way.parts way.pass way.modest.toll none)
      (omega (arith, fit))));
  default = laws.default system run (window_of system 0) end (end + 2) (omega arith) (omega arith) is.legal.hosts is.default;
}
