-- A plain system of machines has a run.
use Rattle.std.proofs.Common.{ℕ, ◌<◌, ◌≤◌, ◌≡◌, ◌+◌, ◌*◌, Bool, true, false, ◌||◌, IsTrue, arith, refl, subst}
use Rattle.memory_runs.specs.Views.{Responses, System}
use Rattle.memory_runs.specs.Operations.{pieces}
use Rattle.memory_runs.specs.Commands.{longest_burst}
use Rattle.memory_runs.specs.Plan.{IsMemoryPlan, AreViews}
use Rattle.memory_machines.specs.Link.{Port, Target}
use Rattle.memory_machines.specs.Lines.{TaggedPort, KeepsRow, IsPipeLine, target_of}
use Rattle.memory_machines.specs.Lines.BringsLanes.{made}
use Rattle.memory_machines.specs.Turns.{seats_of}
use Rattle.memory_parts.specs.System.{RunsAsMachines}
use Rattle.memory_parts.specs.SystemRun.{PlainPlan, HaveOneShape, Outside, Registers, plain_system, registers_of, inner_shape, to_host, to_route, to_arbiter, to_agent, before_arbiter, ports_run, inside_run, states_run}
use Rattle.memory_parts.proofs.MachineRuns.{host_runs, route_runs, arbiter_runs, agent_runs}
use Rattle.memory_parts.proofs.PlanLaws.{agent_suits, some_bytes}

-- a wire is a row of links, and no stage is a pipe
pub record Wires : Type 0 where
  pub row : (target : Target) (port : Port) (end : ℕ) → 0 < port.shape.word_bytes → KeepsRow target 0 port port end
  pub pipe : (system : System) (agent : ℕ) (port : TaggedPort) (end : ℕ) → IsPipeLine system agent 0 0 port port end

with_lanes : (has rest : Bool) → has ≡ true → IsTrue (has || rest)
with_lanes true rest e = refl
with_lanes false rest e = cc

module _ (wires : Wires) (responses : Responses) (plan : PlainPlan) (outside : Outside) (end : ℕ) where
  abbrev all : ℕ → Registers
  all = registers_of responses plan outside

  abbrev system : System
  system = plain_system plan

  pub system_runs : IsMemoryPlan system → HaveOneShape plan → AreViews system (ports_run responses plan outside all) end →
      RunsAsMachines responses system (ports_run responses plan outside all) (inside_run responses plan outside all) (states_run responses plan outside all) (record { links = 0; pipe = 0 }) end
  system_runs is_plan one views = record {
    plan = is_plan;
    views = views;
    host = λ h is. host_runs responses plan.host (to_host responses plan outside all h) end (λ c. (all c).host h) refl (λ c. refl);
    room = λ h. 16 * longest_burst plan.host.burst_bits + 1;
    large = λ h is. omega arith;
    route = λ h is. route_runs responses system h (16 * longest_burst plan.host.burst_bits + 1) (to_route responses plan outside all h) end (λ c. (all c).route h) refl (λ c. refl);
    links = λ h a is there. wires.row (target_of system a) (before_arbiter responses plan outside all h a) end (some_bytes plan.host.word_bytes (is_plan.hosts h is).word);
    lanes = λ h a is there. made (λ c low legal owed k less. with_lanes plan.agent.has_enables _ one.lanes);
    words = λ h a is there. few_pieces;
    arbiter = λ a there. arbiter_runs (seats_of system a) plan.hosts (to_arbiter responses plan outside all a) end (λ c. (all c).arbiter a) refl (λ c. refl);
    pipe = λ a there. wires.pipe system a _ end;
    agent = λ a there. agent_runs responses plan.agent (to_agent responses plan outside all a) end (agent_suits system is_plan a (inner_shape plan) there one.words one.bursts) (λ c. (all c).agent a) refl (λ c. refl);
    few = omega arith;
  }
    where
      few_pieces : pieces (inner_shape plan) (inner_shape plan) ≤ pieces plan.host.shape plan.agent.shape
      few_pieces = subst (λ w. pieces (inner_shape plan) (inner_shape plan) ≤ pieces plan.host.shape (record { word_bytes = w; unit_bytes = 1; burst_bits = 1; has_enables = true })) one.words (omega arith)
