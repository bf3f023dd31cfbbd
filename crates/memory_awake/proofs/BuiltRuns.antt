-- A plain system of machines is built.
use Rattle.std.proofs.Common.{ℕ, ◌≡◌, ◌*◌, ◌<◌, arith, refl}
use Rattle.memory_runs.specs.Views.{System, Run, Responses}
use Rattle.memory_runs.specs.Commands.{longest_burst}
use Rattle.memory_runs.specs.Plan.{IsMemoryPlan, AreViews}
use Rattle.memory_runs.specs.Whole.{IsLegalRun}
use Rattle.memory_machines.specs.Link.{Port, Target, AreLegalAt}
use Rattle.memory_machines.specs.Lines.{target_of}
use Rattle.memory_machines.specs.Settled.{IsSettled}
use Rattle.memory_links.specs.Going.{KeepsGoing}
use Rattle.memory_parts.specs.Host.{ReadsWords}
use Rattle.memory_parts.specs.Steps.{AreSilentPast}
use Rattle.memory_parts.specs.System.{RunsAsMachines}
use Rattle.memory_parts.specs.SystemRun.{PlainPlan, Outside, Registers, plain_system, registers_of, ports_run, inside_run, states_run, before_arbiter}
use Rattle.memory_awake.specs.PlainSystem.{AreQuietPast, wire_ranks, wired_inside, wired_states}
use Rattle.memory_awake.specs.Slack.{PassesOn}
use Rattle.memory_awake.specs.Theorem.{Boundaries, States, ArePlanned, KeepRows, AreMachines, AreLinks, IsBuilt, inside_of}
use Rattle.memory_awake.proofs.LinksPass.{on_while_still}
use Rattle.memory_awake.proofs.Widened.{wire_self}

pub record Laws : Type 0 where
  pub planned : (system : System) (inside : Boundaries) (states : States) → IsMemoryPlan system → ((h : ℕ) → h < system.hosts → (inside.after_host h).shape.word_bytes ≡ (system.host h).word_bytes) →
      ((h : ℕ) → h < system.hosts → 16 * longest_burst (inside.after_host h).shape.burst_bits < states.room h) → ArePlanned system inside states
  pub reads_words : (system : System) (run : Run) (h end : ℕ) → AreViews system run end → h < system.hosts → ReadsWords (system.host h) (run.at_host h) end
  pub settle : (responses : Responses) (system : System) (run : Run) (inside : Boundaries) (states : States) (end : ℕ) → ArePlanned system inside states → KeepRows system run inside states end → AreMachines responses system run inside states end → IsLegalRun system run end →
      IsSettled system run (inside_of system inside) states.room end
  pub going : (target : Target) (port : Port) (end : ℕ) → AreLegalAt port end → KeepsGoing target port port (λ c. 0) 0 end
  pub pass : (port : Port) (end : ℕ) → PassesOn (record { hold = 0; kept = 0 }) port port end

module _ (laws : Laws) (responses : Responses) (plan : PlainPlan) (outside : Outside) (end : ℕ) where
  abbrev system : System
  system = plain_system plan

  abbrev registers : ℕ → Registers
  registers = registers_of responses plan outside

  abbrev run : Run
  run = ports_run responses plan outside registers

  -- a route shows nothing of a host that shows nothing
  silent : AreQuietPast plan outside → (a : ℕ) → AreSilentPast plan.hosts (λ h. before_arbiter responses plan outside registers h a) end
  silent quiet a h c past low = grind arith

  module _ (is_plan : IsMemoryPlan system) (views : AreViews system run end) (machines : RunsAsMachines responses system run (inside_run responses plan outside registers) (states_run responses plan outside registers) (record { links = 0; pipe = 0 }) end)
      (quiet : AreQuietPast plan outside) (legal : IsLegalRun system run end) where
    planned : ArePlanned system (wired_inside responses plan outside registers) (wired_states responses plan outside registers machines.room)
    planned = laws.planned system (wired_inside responses plan outside registers) (wired_states responses plan outside registers machines.room) is_plan (λ h low. refl) machines.large

    rows : KeepRows system run (wired_inside responses plan outside registers) (wired_states responses plan outside registers machines.room) end
    rows = record { link_hold = 0; pipe_hold = 0; few = omega arith; links = machines.links; lanes = machines.lanes; words = machines.words; pipe = machines.pipe }

    are_machines : AreMachines responses system run (wired_inside responses plan outside registers) (wired_states responses plan outside registers machines.room) end
    are_machines = record {
      one_word = λ h low. laws.reads_words system run h end views low;
      host = machines.host;
      route = machines.route;
      arbiter = machines.arbiter;
      silent = λ a there. silent quiet a;
      stage = λ a i there low. absurd (omega (arith, low));
      agent = machines.agent;
    }

    settled : IsSettled system run (inside_of system (wired_inside responses plan outside registers)) machines.room end
    settled = laws.settle responses system run (wired_inside responses plan outside registers) (wired_states responses plan outside registers machines.room) end planned rows are_machines legal

    links : AreLinks system run (wired_inside responses plan outside registers) (wired_states responses plan outside registers machines.room) wire_ranks end
    links = record {
      some = λ h a low there. omega arith;
      going = λ h a i low there only. laws.going (target_of system a) (before_arbiter responses plan outside registers h a) end (settled.asks a there h low).legal;
      pass = λ h a i low there only. on_while_still (before_arbiter responses plan outside registers h a) (laws.pass (before_arbiter responses plan outside registers h a) end);
      allow = λ h a low there. omega arith;
      toll = λ h a low there. omega arith;
      wired = λ h a low there is valid alike. wire_self _;
    }

    pub built : (room : ℕ → ℕ) × IsBuilt responses system run (wired_inside responses plan outside registers) (wired_states responses plan outside registers room) wire_ranks end
    built = (machines.room, record { plan = planned; rows = rows; machines = are_machines; links = links })
