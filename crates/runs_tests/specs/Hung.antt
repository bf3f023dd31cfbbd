-- Runs of links that meet lax clauses and hang, starve or block.
-- First a burst of two writes through two links that hang: the upper one waits until the wait below it falls, the lower one keeps
-- it high until it is shown a beat.
use Rattle.std.specs.Prelude.{ℕ, zero, suc, false, [], ◌∷◌, Some, nat_eq, nat_lt, if◌then◌else◌}
use Rattle.memory_runs.specs.Views.{System, Run, Signals}
use Rattle.memory_machines.specs.Link.{Port}
use Rattle.runs_tests.specs.Examples.{quiet, always, shape_of, host_of, agent_of, system_of, no_host, run_of}

-- one level in cycle 0, another from cycle 1 on
abbrev pub first_then : ℕ → ℕ → ℕ → ℕ
first_then first later zero = first
first_then first later (suc cycle) = later

-- two beats from address 0 on; the second is shown from cycle 1 on, or never
abbrev pub two_beats : ℕ → Signals
two_beats later =
    record {
      read =
          always 0;
      write = first_then 1 later;
      address = always 0;
      word = first_then 0xaa 0xbb;
      enables = always 1;
      count = always 2;
    }

abbrev pub burst_port : ℕ → ℕ → Port
burst_port later wait = record {
  shape = shape_of 1 1 false;
  commands = record { signals = two_beats later; more = first_then 1 0; tag = always 0; waitrequest = first_then 0 wait };
  answers = record { valid = always 0; word = always 0; code = always 0 };
}

-- the host shows its second beat, and waits
abbrev pub hung_top : Port
hung_top = burst_port 1 1

-- between the links nothing is shown, and `waitrequest` is high
abbrev pub hung_middle : Port
hung_middle = burst_port 0 1

-- the agent is shown nothing, and doesn't wait
abbrev pub hung_bottom : Port
hung_bottom = burst_port 0 0

abbrev pub hung_system : System
hung_system = system_of (host_of 1 false) (agent_of 1 false 16) (0 ∷ [])

abbrev pub hung_run : Run
hung_run = run_of
    (record {
      signals =
          two_beats 1;
      waitrequest = first_then 0 1;
      readdata = always 0;
      readdatavalid = always 0;
      response = always 0;
    })
    no_host
    (record {
      signals =
          two_beats 0;
      waitrequest =
          always 0;
      readdata = always 0;
      readdatavalid = always 0;
      response = always 0;
      grant = always 0;
    })

-- levels in cycles 0, 1 and from 2 on
abbrev pub two_then : ℕ → ℕ → ℕ → ℕ → ℕ
two_then first second later zero = first
two_then first second later (suc zero) = second
two_then first second later (suc (suc cycle)) = later

-- a read, then a burst of two writes, whose second beat is shown from cycle 2 on, or never
abbrev pub read_and_burst : ℕ → Signals
read_and_burst later =
    record {
      read =
          two_then 1 0 0;
      write =
          two_then 0 1 later;
      address = always 0;
      word = two_then 0 0xaa 0xbb;
      enables = always 1;
      count = two_then 1 2 2;
    }

abbrev pub read_and_burst_port : ℕ → ℕ → ℕ → Port
read_and_burst_port later wait valid = record {
  shape = shape_of 1 1 false;
  commands = record { signals = read_and_burst later; more = two_then 0 1 0; tag = always 0; waitrequest = two_then 0 0 wait };
  answers = record { valid = two_then 0 valid 0; word = always 0x77; code = always 0 };
}

-- the host shows the second beat of its burst, and waits; the word of its read hasn't come
abbrev pub owing_top : Port
owing_top = read_and_burst_port 1 1 0

-- between the links nothing is shown, nothing waits, and the word isn't given
abbrev pub owing_middle : Port
owing_middle = read_and_burst_port 0 0 0

-- the agent gave the word in cycle 1, doesn't wait, and is shown nothing more
abbrev pub owing_bottom : Port
owing_bottom = read_and_burst_port 0 0 1

abbrev pub owing_run : Run
owing_run = run_of
    (record {
      signals =
          read_and_burst 1;
      waitrequest = two_then 0 0 1;
      readdata = always 0;
      readdatavalid = always 0;
      response = always 0;
    })
    no_host
    (record {
      signals =
          read_and_burst 0;
      waitrequest =
          always 0;
      readdata = always 0x77;
      readdatavalid = two_then 0 1 0;
      response = always 0;
      grant = always 0;
    })

-- a read of agent 0, whose word is never given, and then a write of one beat to agent 1 in each cycle
abbrev pub read_and_writes : Signals
read_and_writes =
    record {
      read =
          first_then 1 0;
      write = first_then 0 1;
      address = first_then 0 16;
      word = always 5;
      enables = always 1;
      count = always 1;
    }

abbrev pub starving_port : ℕ → Port
starving_port valid = record {
  shape = shape_of 1 1 false;
  commands = record { signals = read_and_writes; more = always 0; tag = always 0; waitrequest = always 0 };
  answers = record { valid = two_then 0 valid 0; word = always 0x77; code = always 0 };
}

abbrev pub starving_top : Port
starving_top = starving_port 0

abbrev pub starving_bottom : Port
starving_bottom = starving_port 1

abbrev pub starving_system : System
starving_system =
    record hung_system {
      agents =
          2;
      place = λ h kind address. if nat_lt address 16 then Some 0 else Some 1;
      base = λ h a. if nat_eq a 0 then 0 else 16;
    }

abbrev pub starving_run : Run
starving_run = record (run_of
    (record {
      signals =
          read_and_writes;
      waitrequest = always 0;
      readdata = always 0;
      readdatavalid = always 0;
      response = always 0;
    })
    no_host
    (record {
      signals =
          quiet;
      waitrequest = always 0;
      readdata = always 0;
      readdatavalid = always 0;
      response = always 0;
      grant = always 0;
    })) {
      at_agent = λ a. if nat_eq a 0
          then record {
            signals =
                record {
                  read =
                      first_then 1 0;
                  write = always 0;
                  address = always 0;
                  word = always 0;
                  enables = always 1;
                  count = always 1;
                };
            waitrequest =
                always 0;
            readdata = always 0x77;
            readdatavalid = two_then 0 1 0;
            response = always 0;
            grant = always 0;
          }
          else record {
            signals =
                record {
                  read =
                      always 0;
                  write = first_then 0 1;
                  address = always 0;
                  word = always 5;
                  enables = always 1;
                  count = always 1;
                };
            waitrequest =
                always 0;
            readdata = always 0;
            readdatavalid = always 0;
            response = always 0;
            grant = always 0;
          };
    }

-- host 0 reads agent 1, which never answers, and then begins a burst of two writes to agent 0
abbrev pub debt_burst : ℕ → Signals
debt_burst later =
    record {
      read =
          two_then 1 0 0;
      write =
          two_then 0 1 later;
      address = two_then 16 0 0;
      word = two_then 0 0xaa 0xbb;
      enables = always 1;
      count = two_then 1 2 2;
    }

abbrev pub debt_port : ℕ → ℕ → Port
debt_port later wait = record {
  shape = shape_of 1 1 false;
  commands = record { signals = debt_burst later; more = two_then 0 1 0; tag = always 0; waitrequest = two_then 0 0 wait };
  answers = record { valid = always 0; word = always 0; code = always 0 };
}

abbrev pub debt_top : Port
debt_top = debt_port 1 1

abbrev pub debt_bottom : Port
debt_bottom = debt_port 0 0

-- host 1 waits with a write to agent 0
abbrev pub debt_run : Run
debt_run = record {
  at_host = λ h. if nat_eq h 0
      then record {
        signals =
            debt_burst 1;
        waitrequest = two_then 0 0 1;
        readdata = always 0;
        readdatavalid = always 0;
        response = always 0;
      }
      else record {
        signals =
            record {
              read =
                  always 0;
              write = two_then 0 0 1;
              address = always 0;
              word = always 7;
              enables = always 1;
              count = always 1;
            };
        waitrequest =
            always 1;
        readdata = always 0;
        readdatavalid = always 0;
        response = always 0;
      };
  at_agent = λ a. if nat_eq a 0
      then record {
        signals =
            record {
              read =
                  always 0;
              write = two_then 0 1 0;
              address = always 0;
              word = always 0xaa;
              enables = always 1;
              count = always 2;
            };
        waitrequest =
            always 0;
        readdata = always 0;
        readdatavalid = always 0;
        response = always 0;
        grant = always 0;
      }
      else record {
        signals =
            record {
              read =
                  two_then 1 0 0;
              write = always 0;
              address = always 0;
              word = always 0;
              enables = always 1;
              count = always 1;
            };
        waitrequest =
            always 0;
        readdata = always 0;
        readdatavalid = always 0;
        response = always 0;
        grant = always 0;
      };
}

abbrev pub debt_system : System
debt_system = record starving_system { joined = λ a. 0 ∷ 1 ∷ [] }
