-- A system of machines whose links are machines too is built: its boundaries settle, so its rows of links keep going and hold little back.
use Rattle.std.proofs.Common.{ℕ, ◌<◌, ◌≤◌, Bool, true, false, ◌≡◌, arith, refl, le_refl, nat_lt, IsTrue, IsFalse}
use Rattle.std.proofs.lemmas.Bool.{ltb-true, ltb-false, both_ways}
use Rattle.memory_runs.specs.Views.{System, Run, Responses}
use Rattle.memory_runs.specs.Legal.{IsLegalAgent}
use Rattle.memory_runs.specs.Order.{is_joined}
use Rattle.memory_runs.specs.Whole.{IsLegalRun}
use Rattle.memory_machines.specs.Link.{Port, Target, AreLegalAt, AnswersAreOwed}
use Rattle.memory_machines.specs.Lines.{TaggedPort, IsFit, AreTaggedInOrder, AreOwedByTag, target_of}
use Rattle.memory_machines.specs.PartRanks.{JoinsAlike}
use Rattle.memory_machines.specs.Settled.{IsSettled}
use Rattle.memory_parts.specs.Agent.{AgentState, IsAgentMachine, IsAgentPlan}
use Rattle.memory_links.specs.Selects.{EnablesFit}
use Rattle.memory_awake.specs.RowSystem.{RowPorts, AreRows, boundaries_of}
use Rattle.memory_awake.specs.Rows.{IsModestRow, CutsBursts, FitsWords, DropsBeats, GathersBelowCut, ports_of_three, one_beat_lowest}
use Rattle.memory_awake.specs.Slack.{Slacks, host_allows, toll}
use Rattle.memory_awake.specs.Theorem.{Boundaries, States, LinkRanks, ArePlanned, KeepLines, AreMachines, AreLinks, IsBuilt, inside_of, ways_of, standings_of, slacks_of}
use Rattle.memory_awake.specs.Ways.{Ways, Standing, Standings}
use Rattle.memory_awake.proofs.Piped.{StageLaws, tagged_at}
use Rattle.memory_awake.proofs.RowSettled.{Laws as SettleLaws, AreAbove, by_idle, some_word, enables_behind, alike_behind, legal_behind, quiet_apart, rows_kept, boundaries_settle}
use Rattle.memory_awake.proofs.SilentRow.{silent_is_modest}

-- links stand between a host and an agent that are joined
pub links_there : {system : System} {run : Run} {ports : RowPorts} {end : ℕ} (rows : AreRows system run ports end) (h a : ℕ) → h < system.hosts → a < system.agents → IsTrue (is_joined system a h) → IsFalse (rows.idle h a)
links_there {system} {run} {ports} {end} rows h a low there joined = by_idle rows h a (λ links. links) (λ wires. absurd (both_ways (is_joined system a h) (rows.apart h a low there wires).0 joined))

pub record Laws : Type 0 where
  pub settle : SettleLaws
  pub lines : (responses : Responses) (system : System) (run : Run) (inside : Boundaries) (states : States) (end : ℕ) → ArePlanned system inside states → AreMachines responses system run inside states end → KeepLines responses system run inside states end
  pub tags : (responses : Responses) (system : System) (run : Run) (agent : ℕ) (up : TaggedPort) (state : AgentState) (end : ℕ) → IsAgentPlan (system.agent agent) → IsFit system agent up.port end → IsLegalAgent (system.agent agent) (run.at_agent agent) end →
      IsAgentMachine responses (system.agent agent) (run.at_agent agent) up state end → AreTaggedInOrder up end
  pub stages : StageLaws
  pub modest : (target : Target) (top middle low down : Port) (end : ℕ) (cuts : CutsBursts top middle) (fits : FitsWords target middle low) → DropsBeats target low down → GathersBelowCut cuts fits → EnablesFit top end → AreLegalAt top end → AnswersAreOwed down end → JoinsAlike target top end →
      (standing : ℕ → Standing) × IsModestRow target 3 (ports_of_three down low middle top) standing one_beat_lowest end
  pub fit : (system : System) (ways : Ways) (standings : Standings) (slacks : Slacks) (target : Target) (h end : ℕ) → IsModestRow target (ways.above h) (ways.upper h) (standings.upper h) (slacks.upper h) end →
      (host_allows system ways standings slacks h ≤ 15) × (toll ways standings h ≤ 5)
  pub owed_tags : (system : System) (tagged : TaggedPort) (end : ℕ) → AreTaggedInOrder tagged end → AreOwedByTag system tagged end

module _ (laws : Laws) (responses : Responses) (system : System) (run : Run) (ports : RowPorts) (states : States) (end : ℕ) (plan : ArePlanned system (boundaries_of ports) states)
    (machines : AreMachines responses system run (boundaries_of ports) states end) (rows : AreRows system run ports end) (legal : IsLegalRun system run end) where
  abbrev inside : Boundaries
  inside = boundaries_of ports

  abbrev above : AreAbove responses system run ports states end
  above = record {
    host = machines.host;
    route = machines.route;
    arbiter = machines.arbiter;
    stage = machines.stage;
    words = λ a there. (machines.agent a there).commands.words;
    lines = laws.lines responses system run inside states end plan machines;
  }

  settled : IsSettled system run (inside_of system inside) states.room end
  settled = boundaries_settle laws.settle responses system run ports states end plan above rows legal

  pub enables_top : (h a : ℕ) → h < system.hosts → a < system.agents → EnablesFit (ports.after_route h a) end
  enables_top = enables_behind laws.settle responses system run ports states end plan above rows legal

  pub alike : (h a : ℕ) → h < system.hosts → a < system.agents → JoinsAlike (target_of system a) (ports.after_route h a) end
  alike = alike_behind laws.settle responses system run ports states end plan above rows legal

  pub legal_top : (h a : ℕ) → h < system.hosts → a < system.agents → AreLegalAt (ports.after_route h a) end
  legal_top = legal_behind laws.settle responses system run ports states end plan above rows legal

  -- answers are owed before the arbiters
  pub owed_down : (h a : ℕ) → h < system.hosts → a < system.agents → AnswersAreOwed (ports.before_arbiter h a) end
  owed_down h a low there = ((above.lines.arbiter a there).answers end (le_refl end) (settled.asks a there) (laws.owed_tags system (ports.lower a system.stages) end tagged)).owed h low
    where
      bottom : AreTaggedInOrder (ports.lower a 0) end
      bottom = laws.tags responses system run a (ports.lower a 0) (states.agent a) end (plan.agents a there) (settled.before_agent a there) (legal.agents a there) (machines.agent a there)

      tagged : AreTaggedInOrder (ports.lower a system.stages) end
      tagged = tagged_at laws.stages (target_of system a) (ports.lower a) (states.stage a) system.stages end (λ i less. machines.stage a i there less) (some_word laws.settle responses system run ports states end plan above rows legal a there) (settled.after_arbiter a there).legal bottom system.stages (le_refl system.stages)

  -- a row that holds little back, where there is one
  pub record Row (h a : ℕ) : Type 0 where
    pub standing : ℕ → Standing
    pub modest : h < system.hosts → a < system.agents → IsModestRow (target_of system a) 3 (ports_of_three (ports.before_arbiter h a) (ports.above_dropper h a) (ports.below_cutter h a) (ports.after_route h a)) standing one_beat_lowest end

  row_of : (h a : ℕ) → Row h a
  row_of h a = by_place (nat_lt h system.hosts) (nat_lt a system.agents) refl refl
    where
      by_place : (x y : Bool) → nat_lt h system.hosts ≡ x → nat_lt a system.agents ≡ y → Row h a
      by_place true true e f =
          let low = ltb-true h system.hosts e in
          let there = ltb-true a system.agents f in
          by_idle rows h a
          (λ joined.
          let found = laws.modest (target_of system a) (ports.after_route h a) (ports.below_cutter h a) (ports.above_dropper h a) (ports.before_arbiter h a) end (rows.cuts h a low there joined) (rows.fits h a low there joined) (rows.drops h a low there joined) (rows.gathers h a low there joined) (enables_top h a low there)
          (legal_top h a low there) (owed_down h a low there) (alike h a low there) in
          record { standing = found.0; modest = λ low there. found.1 })
          (λ wires.
          let apart = rows.apart h a low there wires in
          let idle = apart.1 in
          record {
            standing = λ i. record { rank = λ c. 0; largest = 0 };
            modest = λ low there. silent_is_modest (target_of system a) (ports.after_route h a) (ports.below_cutter h a) (ports.above_dropper h a) (ports.before_arbiter h a) end idle.high idle.mid idle.low (quiet_apart laws.settle responses system run ports states end plan above rows legal h a low there apart.0);
          })
      by_place true false e f = let past = ltb-false a system.agents f in record { standing = λ i. record { rank = λ c. 0; largest = 0 }; modest = λ low there. absurd (omega (arith, there, past)) }
      by_place false y e f = let past = ltb-false h system.hosts e in record { standing = λ i. record { rank = λ c. 0; largest = 0 }; modest = λ low there. absurd (omega (arith, low, past)) }

  abbrev ranks : LinkRanks
  ranks = record { standing = λ h a. (row_of h a).standing; slack = λ h a. one_beat_lowest }

  links : AreLinks system run inside states ranks end
  links = record {
    some = λ h a low there. omega arith;
    going = λ h a i low there fit. ((row_of h a).modest low there).going i fit;
    pass = λ h a i low there fit. ((row_of h a).modest low there).pass i fit;
    allow = λ h a low there. (laws.fit system (ways_of system inside a) (standings_of system run states ranks a) (slacks_of states ranks a) (target_of system a) h end ((row_of h a).modest low there)).0;
    toll = λ h a low there. (laws.fit system (ways_of system inside a) (standings_of system run states ranks a) (slacks_of states ranks a) (target_of system a) h end ((row_of h a).modest low there)).1;
    wired = λ h a low there joined has alike. rows.wired h a low there joined alike;
  }

  pub rows_built : (ranks : LinkRanks) × IsBuilt responses system run inside states ranks end
  rows_built = (ranks, record { plan = plan; rows = rows_kept laws.settle responses system run ports states end plan above rows legal; machines = machines; links = links })
