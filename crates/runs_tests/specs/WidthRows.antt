-- A burst of eight words, read from an agent whose bursts have at most four beats.
use Rattle.std.specs.Prelude.{ℕ, true, List, [], ◌∷◌}
use Rattle.memory_runs.specs.Views.{AgentSide, AgentView, System, Run}
use Rattle.runs_tests.specs.Examples.{signal, always, agent_of, host_of, no_host, system_of, run_of}
use Rattle.runs_tests.specs.MoreExamples.{reads_eight}

abbrev pub short_agent : AgentSide
short_agent =
    record (agent_of 4 true 256) { shape = record { word_bytes = 4; unit_bytes = 4; burst_bits = 3; has_enables = true } }

abbrev pub short_system : System
short_system = system_of (host_of 4 true) short_agent (0 ∷ [])

-- reads of so many beats each, from these words on
abbrev pub bursts_read : List ℕ → List ℕ → AgentView
bursts_read word count = record {
  signals =
      record {
        read =
            signal (1 ∷ 1 ∷ []);
        write = always 0;
        address = signal word;
        word = always 0;
        enables = always 15;
        count = signal count;
      };
  waitrequest = always 0;
  readdata = always 0;
  readdatavalid = always 0;
  response = always 0;
  grant = always 0;
}

abbrev pub parts_run : List ℕ → List ℕ → Run
parts_run word count =
    run_of
    (record reads_eight {
      signals =
          record {
            read =
                signal (1 ∷ []);
            write = always 0;
            address = always 0;
            word = always 0;
            enables = always 15;
            count = always 8;
          };
    })
    no_host (bursts_read word count)
