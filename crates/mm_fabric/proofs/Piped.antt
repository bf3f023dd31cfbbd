-- The pipe of each agent of a fabric, as a system of machines numbers its boundaries.
use Rattle.std.proofs.Common.{◌≡◌, ℕ, suc, ◌<◌, [], sym, subst, ◌∙◌}
use Rattle.std.proofs.lemmas.Nat.{pow_pos}
use Rattle.netlist.specs.Netlists.{Netlist}
use Rattle.netlist.specs.Runs.{Run, IsEndlessRun}
use Rattle.netlist.specs.Longer.{Extends}
use Rattle.link_rules.specs.Plans.{PlanTable}
use Rattle.memory_plans.specs.Systems.{memory_system}
use Rattle.memory_machines.specs.Link.{Port}
use Rattle.memory_links.specs.Pipes.{PipeSides, RunsAsPipe, tagged_side}
use Rattle.mm_agent.specs.Agents.{shape_above}
use Rattle.memory_awake.specs.PipeStages.{lower_of, stage_of}
use Rattle.memory_awake.specs.Theorem.{IsStageBetween}
use Rattle.mm_fabric.specs.declared.parts.AgentPart.{AgentPart}
use Rattle.mm_fabric.specs.Parts.{IsAgentPart}
use Rattle.mm_fabric.specs.Fabrics.{Fabric, IsFabric}
use Rattle.mm_fabric.proofs.Boundaries.{above_agent, below_arbiter}
use Rattle.mm_fabric.proofs.Choices.{choose}

-- its stages stand between the arbiter and the part next to the agent
pub record IsPipeAt (plan : PlanTable) (fabric : Fabric) (run : Run) (a : ℕ) (pipe : PipeSides) : Type 0 where
  pub highest : lower_of plan.system.stages pipe plan.system.stages ≡ below_arbiter (fabric.agent a) run
  pub lowest : lower_of plan.system.stages pipe 0 ≡ above_agent (fabric.agent a) run
  pub stage : (i : ℕ) → i < plan.system.stages → IsStageBetween (stage_of plan.system.stages pipe i) (lower_of plan.system.stages pipe (suc i)) (lower_of plan.system.stages pipe i)

-- what the law of pipes gives
pub record PipesHaveStages : Type 0 where
  pub stages : (stages : ℕ) (pipe : PipeSides) → RunsAsPipe stages pipe → (i : ℕ) → i < stages → IsStageBetween (stage_of stages pipe i) (lower_of stages pipe (suc i)) (lower_of stages pipe i)
  pub highest : (stages : ℕ) (pipe : PipeSides) → lower_of stages pipe stages ≡ tagged_side pipe 0
  pub lowest : (stages : ℕ) (pipe : PipeSides) → lower_of stages pipe 0 ≡ tagged_side pipe stages

some_word : (netlist : Netlist) (stages : ℕ) (part : AgentPart) → IsAgentPart netlist stages part → 0 < part.port.word_bytes
some_word netlist stages part is = let size = is.bounded.ports.word in subst (λ n. 0 < n) (sym size.power) (pow_pos size.exponent)

-- where there is no agent
no_pipe : Port → PipeSides
no_pipe port = record { shape = port.shape; commands = λ i. port.commands; answers = λ i. port.answers; answer_tag = λ i c. 0; queue = λ i c. [] }

pub pipes : (plan : PlanTable) (netlist : Netlist) (fabric : Fabric) → IsFabric plan netlist fabric → (longer : Netlist) → Extends netlist longer → (run : Run) → IsEndlessRun longer run → PipesHaveStages →
    (pipe : ℕ → PipeSides) × ((a : ℕ) → a < (memory_system plan).agents → IsPipeAt plan fabric run a (pipe a))
pipes plan netlist fabric is longer extends run endless law =
    choose {X = PipeSides} (λ a pipe. IsPipeAt plan fabric run a pipe) (memory_system plan).agents (no_pipe (above_agent (fabric.agent 0) run).port)
    (λ a there.
    (let part = is.agent a there in
    let found = part.stages_run longer extends run endless (shape_above (fabric.agent a).port) (some_word netlist plan.system.stages (fabric.agent a) part) in (
      found.pipe,
      record {
        highest = law.highest plan.system.stages found.pipe ∙ found.highest;
        lowest = law.lowest plan.system.stages found.pipe ∙ found.lowest;
        stage = law.stages plan.system.stages found.pipe found.runs;
      },
    )))
