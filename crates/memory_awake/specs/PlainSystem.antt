-- A plain system of machines, wired without links and stages: its boundaries, states and ranks, as `IsBuilt` asks for them.
use Rattle.std.specs.Prelude.{ℕ, ◌≤◌, [], IsFalse}
use Rattle.memory_runs.specs.Views.{Responses}
use Rattle.memory_runs.specs.Commands.{shows}
use Rattle.memory_machines.specs.Link.{Port}
use Rattle.memory_machines.specs.Machines.{Stage}
use Rattle.memory_parts.specs.SystemRun.{PlainPlan, Outside, Registers, after_host, before_arbiter, before_agent, states_run}
use Rattle.memory_awake.specs.RowSystem.{RowPorts}
use Rattle.memory_awake.specs.Theorem.{Boundaries, States, LinkRanks}

-- hosts beyond those of the plan show nothing
abbrev pub AreQuietPast : PlainPlan → Outside → Type 0
AreQuietPast plan outside = (h c : ℕ) → plan.hosts ≤ h → IsFalse (shows (outside.host h) c)

-- a wire keeps nothing back, and has nothing to do
abbrev pub wire_ranks : LinkRanks
wire_ranks = record { standing = λ h a i. record { rank = λ c. 0; largest = 0 }; slack = λ h a i. record { hold = 0; kept = 0 } }

-- where no stage is there: this one is of no boundary
abbrev pub no_stage : Port → Stage
no_stage port = record {
  depth = 0;
  shape = port.shape;
  sides =
      record {
        commands_above =
            port.commands;
        answers_above = port.answers;
        commands_below = port.commands;
        answers_below = port.answers;
      };
  queue = λ c. [];
}

module _ (responses : Responses) (plan : PlainPlan) (outside : Outside) (registers : ℕ → Registers) where
  -- each host's route is wired to each arbiter, and each arbiter to its agent's part
  abbrev pub wired_inside : Boundaries
  wired_inside = record {
    after_host = after_host responses plan outside registers;
    links = λ h a. 1;
    upper = λ h a i. before_arbiter responses plan outside registers h a;
    lower = λ a i. before_agent responses plan outside registers a;
  }

  abbrev pub wired_states : (ℕ → ℕ) → States
  wired_states room =
      let states = states_run responses plan outside registers in
      record {
        host =
            states.host;
        route =
            states.route;
        room =
            room;
        grant =
            states.arbiter;
        stage = λ a i. no_stage (before_agent responses plan outside registers a).port;
        agent = states.agent;
      }

  -- the same wires as rows of three
  abbrev pub wired_ports : RowPorts
  wired_ports =
      let wire : ℕ → ℕ → Port = before_arbiter responses plan outside registers in
      record {
        after_host =
            after_host responses plan outside registers;
        after_route =
            wire;
        below_cutter =
            wire;
        above_dropper = wire;
        before_arbiter = wire;
        lower = λ a i. before_agent responses plan outside registers a;
      }
