-- What is seen where there is no host or agent, and in one cycle.
use Rattle.std.specs.Prelude.{ℕ}
use Rattle.netlist.specs.Runs.{Cycle, Run}
use Rattle.memory_runs.specs.Views.{Signals, HostView, AgentView, Run as MemoryRun, levels_at}
use Rattle.memory_runs.specs.Moment.{Moment}

abbrev pub silent_signals : Signals
silent_signals = record { read = λ c. 0; write = λ c. 0; address = λ c. 0; word = λ c. 0; enables = λ c. 0; count = λ c. 0 }

abbrev pub silent_host : HostView
silent_host =
    record { signals = silent_signals; waitrequest = λ c. 0; readdata = λ c. 0; readdatavalid = λ c. 0; response = λ c. 0 }

abbrev pub silent_agent : AgentView
silent_agent =
    record {
      signals =
          silent_signals;
      waitrequest = λ c. 0;
      readdata = λ c. 0;
      readdatavalid = λ c. 0;
      response = λ c. 0;
      grant = λ c. 0;
    }

-- what a run shows in one cycle
abbrev pub moment_in : MemoryRun → ℕ → Moment
moment_in run cycle =
    record {
      from_host = λ h. levels_at (run.at_host h).signals cycle;
      from_agent = λ a. record {
        waitrequest = (run.at_agent a).waitrequest cycle;
        readdatavalid = (run.at_agent a).readdatavalid cycle;
        readdata = (run.at_agent a).readdata cycle;
        response = (run.at_agent a).response cycle;
      };
      to_agent = λ a. record { levels = levels_at (run.at_agent a).signals cycle; grant = (run.at_agent a).grant cycle };
    }

-- the same cycle over and over
abbrev pub standing_still : Cycle → Run
standing_still cycle = record { input = λ _. cycle.input; net = λ _. cycle.net; cell = λ _. cycle.cell }
