-- A plain system of machines is one whose rows of links are wires.
use Rattle.std.proofs.Common.{ℕ, ◌<◌, false, arith, ap}
use Rattle.std.proofs.lemmas.Bool.{or_left}
use Rattle.memory_runs.specs.Plan.{AreViews}
use Rattle.memory_runs.specs.Views.{Run, Responses}
use Rattle.memory_parts.specs.SystemRun.{PlainPlan, HaveOneShape, Outside, Registers, plain_system, registers_of, ports_run}
use Rattle.memory_awake.specs.PlainSystem.{wired_inside, wired_ports, wired_states}
use Rattle.memory_awake.specs.RowSystem.{RowPorts, AreRows, boundaries_of}
use Rattle.memory_awake.specs.Rows.{IsWired, CutsBursts.no_cutter, FitsWords.no_width, DropsBeats.no_dropper}
use Rattle.memory_awake.specs.Theorem.{ArePlanned, AreMachines, States}
use Rattle.memory_awake.proofs.Widened.{wire_self}

module _ (responses : Responses) (plan : PlainPlan) (outside : Outside) (end : ℕ) (room : ℕ → ℕ) where
  abbrev registers : ℕ → Registers
  registers = registers_of responses plan outside

  abbrev run : Run
  run = ports_run responses plan outside registers

  abbrev ports : RowPorts
  ports = wired_ports responses plan outside registers

  abbrev states : States
  states = wired_states responses plan outside registers room

  module _ (planned : ArePlanned (plain_system plan) (wired_inside responses plan outside registers) states)
      (machines : AreMachines responses (plain_system plan) run (wired_inside responses plan outside registers) states end) where
    pub plain_machines : AreMachines responses (plain_system plan) run (boundaries_of ports) states end
    plain_machines = record {
      one_word = machines.one_word;
      host = machines.host;
      route = machines.route;
      arbiter = machines.arbiter;
      silent = machines.silent;
      stage = machines.stage;
      agent = machines.agent;
    }

    wired : (h a : ℕ) → h < plan.hosts → a < plan.agents → IsWired (ports.before_arbiter h a) (ports.before_arbiter h a)
    wired h a low there =
        let same = ap (λ s. s.word_bytes) ((machines.arbiter a there).shapes h low) in
        let own = (machines.agent a there).commands.words in
        let some = (planned.agents a there).word in
        record { wire = wire_self _; some = omega (arith, same, own, some) }

    pub plain_rows : AreViews (plain_system plan) run end → HaveOneShape plan → AreRows (plain_system plan) run ports end
    plain_rows views shape = record {
      idle = λ h a. false;
      views = views.hosts;
      cuts = λ h a low there links. no_cutter (wired h a low there);
      fits = λ h a low there links. no_width (wired h a low there);
      gathers = λ h a low there links. tt;
      drops = λ h a low there links. no_dropper (wired h a low there);
      lanes = λ h a low there links none. or_left plan.agent.has_enables _ shape.lanes;
      wired = λ h a low there joined alike. wire_self _;
      apart = λ h a low there idle. absurd cc;
    }
