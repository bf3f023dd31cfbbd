-- Runs in which a part keeps back a read while a word is owed, and one in which reads travel.
use Rattle.std.specs.Prelude.{ℕ, [], ◌∷◌, true, nat_eq, if◌then◌else◌}
use Rattle.memory_runs.specs.Views.{System, Run}
use Rattle.memory_machines.specs.Link.{Port}
use Rattle.memory_machines.specs.Lines.{TaggedPort}
use Rattle.runs_tests.specs.Examples.{signal, always, shape_of}
use Rattle.runs_tests.specs.MoreExamples.{one_by_one_run, held_read_run}
use Rattle.runs_tests.specs.SmallSystem.{nothing, no_word, port_with}
use Rattle.runs_tests.specs.PartRows.{answers_in}
use Rattle.runs_tests.specs.WaitingSystem.{waiting_side, waiting_small}
use Rattle.memory_awake.specs.Ways.{Ways}

-- before the part next to the agent: the first read is taken, and the second one stands
abbrev pub second_stands : TaggedPort
second_stands = record {
  port =
      record {
        shape =
            shape_of 4 1 true;
        commands =
            record {
              signals =
                  (one_by_one_run.at_host 0).signals;
              more =
                  always 0;
              tag = always 0;
              waitrequest = (one_by_one_run.at_host 0).waitrequest;
            };
        answers =
            no_word;
      };
  answer_tag = always 0;
}

-- behind a route that holds the second read back, though the agent alone owes words
abbrev pub second_held : Port
second_held =
    record {
      shape =
          shape_of 4 1 true;
      commands =
          record {
            signals =
                record (held_read_run.at_host 0).signals { read = signal (1 ∷ []); write = always 0 };
            more =
                always 0;
            tag = always 0;
            waitrequest = always 0;
          };
      answers =
          no_word;
    }

-- a host with readdatavalid reads an agent in two cycles, and the words come two cycles later. All is wired
abbrev pub travel_system : System
travel_system = record waiting_small { host = λ h. record waiting_side { has_readdatavalid = true } }

abbrev pub travel_port : ℕ → Port
travel_port h =
    if nat_eq h 0
    then port_with (record nothing { read = signal (1 ∷ 1 ∷ []); address = signal (3 ∷ 4 ∷ []) }) (always 0) (always 0)
    (answers_in (0 ∷ 0 ∷ 1 ∷ 1 ∷ []) (0 ∷ 0 ∷ 7 ∷ 8 ∷ []))
    else port_with nothing (always h) (always 0) no_word

abbrev pub travel_run : Run
travel_run = record {
  at_host =
      λ h. record {
        signals =
            (travel_port h).commands.signals;
        waitrequest =
            always 0;
        readdata = (travel_port h).answers.word;
        readdatavalid = (travel_port h).answers.valid;
        response = always 0;
      };
  at_agent =
      λ a. record {
        signals =
            (travel_port 0).commands.signals;
        waitrequest =
            always 0;
        readdata =
            (travel_port 0).answers.word;
        readdatavalid = (travel_port 0).answers.valid;
        response = always 0;
        grant = always 0;
      };
}

abbrev pub travel_ways : Ways
travel_ways =
    record { stages = 0; lower = λ i. travel_port 0; answer_tag = λ i c. 0; above = λ h. 1; upper = λ h i. travel_port h }
