-- Runs that let a wanted agent, or the default agent, wait for ever, and right runs of registered limiters.
use Rattle.std.specs.Prelude.{ℕ, true, [], ◌∷◌, List, Some, None, nat_eq, nat_lt, if◌then◌else◌}
use Rattle.histories.specs.Turns.{Seat}
use Rattle.memory_runs.specs.Views.{System, Run, Signals}
use Rattle.memory_machines.specs.Link.{Port}
use Rattle.runs_tests.specs.Examples.{signal, quiet, always, shape_of, host_of, agent_of, system_of, no_host, run_of}
use Rattle.runs_tests.specs.Hung.{first_then, two_then}
use Rattle.runs_tests.specs.Joint.{no_answers}

abbrev pub port : Signals → (ℕ → ℕ) → (ℕ → ℕ) → (ℕ → ℕ) → Port
port signals more tag wait =
    record {
      shape =
          shape_of 1 1 true;
      commands = record { signals = signals; more = more; tag = tag; waitrequest = wait };
      answers = no_answers;
    }

-- ---- A burst of two beats. The second one has no lane, and the route holds it back for ever. Host 1 waits at the arbiter
abbrev pub empty_end : ℕ → Signals
empty_end later =
    record {
      read =
          always 0;
      write = first_then 1 later;
      address = always 0;
      word = always 0xaa;
      enables = first_then 1 0;
      count = always 2;
    }

abbrev pub other_write : Signals
other_write =
    record { read = always 0; write = two_then 0 0 1; address = always 0; word = always 7; enables = always 1; count = always 1 }

abbrev pub pair_system : System
pair_system = system_of (host_of 1 true) (agent_of 1 true 16) (0 ∷ 1 ∷ [])

abbrev pub held_top : ℕ → Port
held_top h =
    if nat_eq h 0 then port (empty_end 1) (first_then 1 0) (always 0) (first_then 0 1)
    else port other_write (always 0) (always 1) (always 1)

-- behind the route of host 0 nothing is shown after the first beat
abbrev pub held_below : ℕ → Port
held_below h =
    if nat_eq h 0 then port (empty_end 0) (first_then 1 0) (always 0) (always 0)
    else port other_write (always 0) (always 1) (always 1)

abbrev pub held_seats : List Seat
held_seats = record { host = 0; shares = 1 } ∷ record { host = 1; shares = 1 } ∷ []

abbrev pub held_run : Run
held_run = record {
  at_host = λ h. if nat_eq h 0
      then record {
        signals =
            empty_end 1;
        waitrequest = first_then 0 1;
        readdata = always 0;
        readdatavalid = always 0;
        response = always 0;
      }
      else record
      { signals = other_write; waitrequest = always 1; readdata = always 0; readdatavalid = always 0; response = always 0 };
  at_agent =
      λ a. record {
        signals =
            empty_end 0;
        waitrequest = always 0;
        readdata = always 0;
        readdatavalid = always 0;
        response = always 0;
        grant = always 0;
      };
}

-- ---- A read whose word comes from the agent in cycle 1 and is never given to the host
abbrev pub one_read : Signals
one_read =
    record { read = first_then 1 0; write = always 0; address = always 0; word = always 0; enables = always 1; count = always 1 }

abbrev pub read_port : ℕ → Port
read_port valid =
    record {
      shape =
          shape_of 1 1 true;
      commands =
          record { signals = one_read; more = always 0; tag = always 0; waitrequest = always 0 };
      answers =
          record { valid = two_then 0 valid 0; word = always 0x77; code = always 0 };
    }

abbrev pub swallow_run : Run
swallow_run = run_of
    (record { signals = one_read; waitrequest = always 0; readdata = always 0; readdatavalid = always 0; response = always 0 })
    no_host
    (record {
      signals =
          one_read;
      waitrequest =
          always 0;
      readdata = always 0x77;
      readdatavalid = two_then 0 1 0;
      response = always 0;
      grant = always 0;
    })

-- ---- A write to no footprint that waits for ever
abbrev pub stray_system : System
stray_system = record pair_system { place = λ h kind address. if nat_lt address 16 then Some 0 else None }

abbrev pub stray_write : Signals
stray_write =
    record { read = always 0; write = always 1; address = always 99; word = always 7; enables = always 1; count = always 1 }

abbrev pub stray_run : Run
stray_run = run_of
    (record { signals = stray_write; waitrequest = always 1; readdata = always 0; readdatavalid = always 0; response = always 0 })
    no_host
    (record {
      signals =
          quiet;
      waitrequest = always 0;
      readdata = always 0;
      readdatavalid = always 0;
      response = always 0;
      grant = always 0;
    })

-- ---- A read of agent 1 in cycle 0, whose word comes in cycle 2, and a read of agent 0 from cycle 1 on, let through by a
-- registered limiter in cycle 3
abbrev pub two_places : System
two_places =
    record pair_system {
      agents =
          2;
      place = λ h kind address. if nat_lt address 16 then Some 0 else Some 1;
      base = λ h a. if nat_eq a 0 then 0 else 16;
    }

abbrev pub limited_top : Port
limited_top = record {
  shape = shape_of 1 1 true;
  commands = record {
    signals =
        record {
          read =
              signal (1 ∷ 1 ∷ 1 ∷ 1 ∷ []);
          write =
              always 0;
          address = first_then 16 0;
          word = always 0;
          enables = always 1;
          count = always 1;
        };
    more = always 0;
    tag = always 0;
    waitrequest = signal (0 ∷ 1 ∷ 1 ∷ 0 ∷ []);
  };
  answers = record { valid = signal (0 ∷ 0 ∷ 1 ∷ []); word = always 0x77; code = always 0 };
}

abbrev pub limited_down : ℕ → Port
limited_down a = if nat_eq a 0
    then port
    (record {
      read =
          signal (0 ∷ 0 ∷ 0 ∷ 1 ∷ []);
      write =
          always 0;
      address = always 0;
      word = always 0;
      enables = always 1;
      count = always 1;
    })
    (always 0) (always 0) (always 0)
    else record {
      shape = shape_of 1 1 true;
      commands = record {
        signals =
            record {
              read =
                  signal (1 ∷ []);
              write = always 0;
              address = always 16;
              word = always 0;
              enables = always 1;
              count = always 1;
            };
        more = always 0;
        tag = always 0;
        waitrequest = always 0;
      };
      answers = record { valid = signal (0 ∷ 0 ∷ 1 ∷ []); word = always 0x77; code = always 0 };
    }

-- ---- The same at a splitter: a read of lane 0 in cycle 0, whose word comes in cycle 2, and a read of lane 1 from cycle 1 on,
-- which waits until nothing is owed
abbrev pub sets_top : Port
sets_top = record {
  shape = shape_of 2 1 true;
  commands = record {
    signals =
        record {
          read =
              signal (1 ∷ 1 ∷ 1 ∷ 1 ∷ []);
          write =
              always 0;
          address = always 0;
          word = always 0;
          enables = first_then 1 2;
          count = always 1;
        };
    more = always 0;
    tag = always 0;
    waitrequest = signal (0 ∷ 1 ∷ 1 ∷ 0 ∷ []);
  };
  answers = record { valid = signal (0 ∷ 0 ∷ 1 ∷ []); word = always 0x77; code = always 0 };
}

abbrev pub sets_down : Port
sets_down = record {
  shape = shape_of 1 1 true;
  commands = record {
    signals =
        record {
          read =
              signal (1 ∷ 0 ∷ 0 ∷ 1 ∷ []);
          write =
              always 0;
          address = first_then 0 1;
          word = always 0;
          enables = always 1;
          count = always 1;
        };
    more = always 0;
    tag = always 0;
    waitrequest = always 0;
  };
  answers = record { valid = signal (0 ∷ 0 ∷ 1 ∷ []); word = always 0x77; code = always 0 };
}

-- ---- An asker whose beat bears a tag that isn't its host's; the beat has no lane, so no line above the arbiter says anything of
-- its tag
abbrev pub mistagged : ℕ → Port
mistagged h = if nat_eq h 0
    then port
    (record
    { read = always 0; write = signal (1 ∷ []); address = always 0; word = always 0; enables = always 0; count = always 1 })
    (always 0) (always 7) (always 0)
    else port
    (record { read = always 0; write = always 0; address = always 0; word = always 0; enables = always 0; count = always 1 })
    (always 0) (always 1) (always 0)

-- ---- A write to agent 0 is accepted into the route in cycle 0 and stays there, while a write to agent 1 goes through in each
-- later cycle
abbrev pub passing_writes : Signals
passing_writes =
    record { read = always 0; write = always 1; address = first_then 0 16; word = always 5; enables = always 1; count = always 1 }

abbrev pub passing_top : Port
passing_top = port passing_writes (always 0) (always 0) (always 0)

abbrev pub passing_down : ℕ → Port
passing_down a = if nat_eq a 0 then port quiet (always 0) (always 0) (always 0)
    else port
    (record
    { read = always 0; write = first_then 0 1; address = always 16; word = always 5; enables = always 1; count = always 1 })
    (always 0) (always 0) (always 0)

abbrev pub passing_run : Run
passing_run = record {
  at_host =
      λ h. record {
        signals =
            if nat_eq h 0 then passing_writes else quiet;
        waitrequest =
            always 0;
        readdata = always 0;
        readdatavalid = always 0;
        response = always 0;
      };
  at_agent =
      λ a. record {
        signals =
            if nat_eq a 0 then quiet
            else record {
              read =
                  always 0;
              write = first_then 0 1;
              address = always 0;
              word = always 5;
              enables = always 1;
              count = always 1;
            };
        waitrequest =
            always 0;
        readdata = always 0;
        readdatavalid = always 0;
        response = always 0;
        grant = always 0;
      };
}
