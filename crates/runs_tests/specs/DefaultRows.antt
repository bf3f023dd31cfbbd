-- Reads in no footprint, alone and beside reads of an agent.
use Rattle.std.specs.Prelude.{ℕ, List, [], ◌∷◌}
use Rattle.memory_runs.specs.Views.{HostView, Run}
use Rattle.runs_tests.specs.Examples.{signal, always}
use Rattle.runs_tests.specs.MoreExamples.{read_once, two_agent_run}

-- a host that reads a word in each cycle: the addresses, the waits, and when which words are given
abbrev pub reads_at : List ℕ → List ℕ → List ℕ → List ℕ → List ℕ → HostView
reads_at read address wait valid word = record {
  signals =
      record
      { read = signal read; write = always 0; address = signal address; word = always 0; enables = always 15; count = always 1 };
  waitrequest = signal wait;
  readdata = signal word;
  readdatavalid = signal valid;
  response = always 0;
}

-- 1024 lies in no footprint, and a word that isn't 0 is given for it
abbrev pub odd_word_run : Run
odd_word_run =
    two_agent_run (reads_at (1 ∷ []) (1024 ∷ []) [] (0 ∷ 1 ∷ []) (0 ∷ 0x100 ∷ [])) (read_once [] [] []) (read_once [] [] [])

-- the read goes to agent 0 all the same
abbrev pub strayed_read_run : Run
strayed_read_run =
    two_agent_run (reads_at (1 ∷ []) (1024 ∷ []) [] (0 ∷ 1 ∷ []) []) (read_once (1 ∷ []) (0 ∷ 1 ∷ []) []) (read_once [] [] [])

-- the read of agent 0 waits until the default agent's word is given
abbrev pub behind_default_run : Run
behind_default_run =
    two_agent_run (reads_at (1 ∷ 1 ∷ 1 ∷ []) (1024 ∷ 0 ∷ 0 ∷ []) (0 ∷ 1 ∷ 0 ∷ []) (0 ∷ 0 ∷ 1 ∷ 1 ∷ []) (0 ∷ 0 ∷ 0 ∷ 0x11 ∷ []))
    (read_once (0 ∷ 0 ∷ 1 ∷ []) (0 ∷ 0 ∷ 0 ∷ 1 ∷ []) (0 ∷ 0 ∷ 0 ∷ 0x11 ∷ [])) (read_once [] [] [])

-- agent 0 takes it while that word is owed, and the host is given these words
abbrev pub past_default_run : List ℕ → Run
past_default_run words = two_agent_run (reads_at (1 ∷ 1 ∷ []) (1024 ∷ 0 ∷ []) [] (0 ∷ 0 ∷ 1 ∷ 1 ∷ []) words)
    (read_once (0 ∷ 1 ∷ []) (0 ∷ 0 ∷ 1 ∷ []) (0 ∷ 0 ∷ 0x11 ∷ [])) (read_once [] [] [])

-- the default agent's word is given before that of an earlier read of agent 0
abbrev pub default_first_run : Run
default_first_run = two_agent_run (reads_at (1 ∷ 1 ∷ []) (0 ∷ 1024 ∷ []) [] (0 ∷ 0 ∷ 1 ∷ 1 ∷ []) (0 ∷ 0 ∷ 0 ∷ 0x11 ∷ []))
    (read_once (1 ∷ []) (0 ∷ 0 ∷ 0 ∷ 1 ∷ []) (0 ∷ 0 ∷ 0 ∷ 0x11 ∷ [])) (read_once [] [] [])

-- two reads of agent 0 are taken, and one of the default agent between them is owed
abbrev pub around_default_run : Run
around_default_run = two_agent_run (reads_at (1 ∷ 1 ∷ 1 ∷ []) (0 ∷ 1024 ∷ 4 ∷ []) [] [] [])
    (record (read_once (1 ∷ 0 ∷ 1 ∷ []) [] []) {
      signals =
          record {
            read =
                signal (1 ∷ 0 ∷ 1 ∷ []);
            write =
                always 0;
            address = signal (0 ∷ 0 ∷ 1 ∷ []);
            word = always 0;
            enables = always 15;
            count = always 1;
          };
    }) (read_once [] [] [])
