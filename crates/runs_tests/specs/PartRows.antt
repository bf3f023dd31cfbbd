-- Inputs for the machines of agent, host, route and arbiter.
use Rattle.std.specs.Prelude.{Some, None, nat_lt, ℕ, true, false, List, [], ◌∷◌, map, replicate, nat_eq, if◌then◌else◌}
use Rattle.histories.specs.History.{numbers}
use Rattle.histories.specs.Turns.{Seat}
use Rattle.memory_runs.specs.Views.{Signals, HostSide, AgentSide, HostView, AgentView, Run}
use Rattle.memory_runs.specs.Views.Responses.{AreCodes}
use Rattle.memory_machines.specs.Link.{Port}
use Rattle.memory_machines.specs.Paths.{AnswerView}
use Rattle.memory_machines.specs.Lines.{TaggedPort}
use Rattle.memory_parts.specs.Inputs.{Commands}
use Rattle.memory_parts.specs.AgentRun.{AgentInputs, agent_registers, agent_state, agent_view, agent_upper}
use Rattle.memory_parts.specs.HostRun.{HostInputs, host_registers, host_state, host_view, host_lower}
use Rattle.memory_parts.specs.RouteRun.{RouteInputs, route_registers, route_state, route_upper, route_lower}
use Rattle.memory_parts.specs.ArbiterRun.{ArbiterInputs, arbiter_grant, arbiter_upper, arbiter_lower}
use Rattle.memory_parts.specs.SystemRun.{PlainPlan, Outside, registers_of, ports_run}
use Rattle.runs_tests.specs.Examples.{host_of, signal, always, shape_of}
use Rattle.runs_tests.specs.MoreExamples.{agent_with_bound, two_agents}

-- the levels of the first cycles
abbrev pub levels : (ℕ → ℕ) → ℕ → List ℕ
levels level cycles = map level (numbers 0 cycles)

-- commands of one beat at address 0
abbrev pub plain : List ℕ → List ℕ → Signals
plain read write =
    record
    { read = signal read; write = signal write; address = always 0; word = always 7; enables = always 15; count = always 1 }

abbrev pub tagged : Signals → List ℕ → Commands
tagged signals tags = record { signals = signals; more = always 0; tag = signal tags }

-- ---- agent

abbrev pub asks_agent : Commands → List ℕ → List ℕ → List ℕ → AgentInputs
asks_agent commands wait valid word = record {
  shape = shape_of 4 1 true;
  commands = commands;
  waitrequest = signal wait;
  readdata = signal word;
  readdatavalid = signal valid;
  response = always 0;
}

abbrev pub at_agent : AgentSide → AgentInputs → AgentView
at_agent side inputs = agent_view side inputs (agent_state (agent_registers AreCodes side inputs))

abbrev pub above_agent : AgentSide → AgentInputs → TaggedPort
above_agent side inputs = agent_upper AreCodes side inputs (agent_state (agent_registers AreCodes side inputs))

-- two reads with the tags 0 and 1, whose words come two cycles after they are taken
abbrev pub two_reads_in : AgentInputs
two_reads_in =
    asks_agent (tagged (plain (1 ∷ 1 ∷ 1 ∷ 1 ∷ []) []) (0 ∷ 1 ∷ 1 ∷ 1 ∷ [])) [] (0 ∷ 0 ∷ 1 ∷ 0 ∷ 1 ∷ [])
    (0 ∷ 0 ∷ 0x11 ∷ 0 ∷ 0x22 ∷ [])

-- three reads, of which an agent bears two
abbrev pub three_reads_in : AgentInputs
three_reads_in =
    asks_agent (tagged (plain (replicate 5 1) []) (0 ∷ 1 ∷ 0 ∷ 0 ∷ 0 ∷ [])) [] (0 ∷ 0 ∷ 0 ∷ 1 ∷ 0 ∷ 1 ∷ 1 ∷ [])
    (0 ∷ 0 ∷ 0 ∷ 0x11 ∷ 0 ∷ 0x22 ∷ 0x33 ∷ [])

-- a write that the agent accepts in its third cycle
abbrev pub stalled_in : AgentInputs
stalled_in = asks_agent (tagged (plain [] (replicate 3 1)) []) (1 ∷ 1 ∷ 0 ∷ []) [] []

-- without waitrequest and readdatavalid
abbrev pub timed_agent : ℕ → ℕ → ℕ → AgentSide
timed_agent latency read_wait write_wait = record {
  shape = record { word_bytes = 4; unit_bytes = 4; burst_bits = 1; has_enables = true };
  has_read = true;
  has_write = true;
  has_burst = false;
  has_waitrequest = false;
  has_readdatavalid = false;
  has_response = false;
  read_latency = latency;
  read_wait = read_wait;
  write_wait = write_wait;
  pending = 1;
  span = 256;
}

-- a write and then a read
abbrev pub write_then_read_in : AgentInputs
write_then_read_in = asks_agent (tagged (plain (0 ∷ 0 ∷ 0 ∷ 0 ∷ 1 ∷ []) (replicate 4 1)) []) [] [] []

-- reads with the tags 0 and 1 in cycles 0 and 1, and a word of the agent in each cycle
abbrev pub fixed_reads_in : AgentInputs
fixed_reads_in =
    asks_agent (tagged (plain (1 ∷ 1 ∷ []) []) (0 ∷ 1 ∷ [])) [] [] (0x10 ∷ 0x11 ∷ 0x12 ∷ 0x13 ∷ 0x14 ∷ 0x15 ∷ 0x16 ∷ 0x17 ∷ [])

-- read bursts of one word to four with the tags 0 and 1 in turn, and then their ten words
abbrev pub burst_reads_in : AgentInputs
burst_reads_in =
    asks_agent
    (tagged
    (record {
      read =
          signal (replicate 4 1);
      write =
          always 0;
      address = always 0;
      word = always 0;
      enables = always 15;
      count = signal (1 ∷ 2 ∷ 3 ∷ 4 ∷ []);
    })
    (0 ∷ 1 ∷ 0 ∷ 1 ∷ []))
    []
    (0 ∷ 0 ∷ 0 ∷ 0 ∷ 1 ∷ 1 ∷ 1 ∷ 1 ∷ 1 ∷ 1 ∷ 1 ∷ 1 ∷ 1 ∷ 1 ∷ []) []

-- ---- host

abbrev pub no_answers : AnswerView
no_answers = record { valid = always 0; word = always 0; code = always 0 }

abbrev pub answers_in : List ℕ → List ℕ → AnswerView
answers_in valid word = record { valid = signal valid; word = signal word; code = always 0 }

abbrev pub at_host : HostSide → HostInputs → HostView
at_host side inputs = host_view AreCodes side inputs (host_state (host_registers AreCodes side inputs))

abbrev pub below_host : HostSide → HostInputs → Port
below_host side inputs = host_lower side inputs (at_host side inputs) (host_state (host_registers AreCodes side inputs))

-- write bursts of one beat to four; on later beats the count is free
abbrev pub burst_writes_in : HostInputs
burst_writes_in = record {
  signals =
      record {
        read =
            always 0;
        write =
            signal (replicate 10 1);
        address =
            always 0;
        word = always 7;
        enables = always 15;
        count = signal (1 ∷ 2 ∷ 0 ∷ 3 ∷ 0 ∷ 9 ∷ 4 ∷ 1 ∷ 0 ∷ 2 ∷ []);
      };
  waitrequest = always 0;
  answers = no_answers;
}

-- 17 reads without a word
abbrev pub many_reads_in : HostInputs
many_reads_in = record { signals = plain (replicate 17 1) []; waitrequest = always 0; answers = no_answers }

-- a host without readdatavalid
abbrev pub waiting_host : HostSide
waiting_host = record { shape = shape_of 4 4 true; has_burst = false; has_readdatavalid = false; has_response = false }

-- its read of word 3 is taken below in the second cycle and answered in the fourth
abbrev pub waiting_read_in : HostInputs
waiting_read_in = record {
  signals =
      record {
        read =
            signal (replicate 4 1);
        write =
            always 0;
        address = signal (replicate 4 3);
        word = always 0;
        enables = always 15;
        count = always 1;
      };
  waitrequest = signal (1 ∷ 0 ∷ []);
  answers = answers_in (0 ∷ 0 ∷ 0 ∷ 1 ∷ []) (0 ∷ 0 ∷ 0 ∷ 0x11 ∷ []);
}

-- ---- route

abbrev pub above_route : RouteInputs → Port
above_route inputs = route_upper AreCodes two_agents 0 inputs (route_state (route_registers AreCodes two_agents 0 inputs))

abbrev pub below_route : RouteInputs → ℕ → Port
below_route inputs = route_lower two_agents 0 inputs (route_state (route_registers AreCodes two_agents 0 inputs))

-- a read of agent 0 and then one of agent 1
abbrev pub other_read_in : RouteInputs
other_read_in = record {
  shape = shape_of 4 1 true;
  commands = record {
    signals =
        record {
          read =
              signal (replicate 4 1);
          write =
              always 0;
          address = signal (0 ∷ 256 ∷ 256 ∷ 256 ∷ []);
          word = always 0;
          enables = always 15;
          count = always 1;
        };
    more = always 0;
    tag = always 0;
  };
  waitrequest = λ a. always 0;
  answers =
      λ a. if nat_eq a 0 then answers_in (0 ∷ 0 ∷ 1 ∷ []) (0 ∷ 0 ∷ 0x11 ∷ [])
      else answers_in (0 ∷ 0 ∷ 0 ∷ 0 ∷ 1 ∷ []) (0 ∷ 0 ∷ 0 ∷ 0 ∷ 0x22 ∷ []);
}

-- a read burst of three words in no footprint
abbrev pub default_read_in : RouteInputs
default_read_in = record {
  shape = shape_of 4 1 true;
  commands = record {
    signals =
        record {
          read =
              signal (1 ∷ []);
          write = always 0;
          address = always 1024;
          word = always 0;
          enables = always 15;
          count = always 3;
        };
    more = always 0;
    tag = always 0;
  };
  waitrequest = λ a. always 0;
  answers = λ a. no_answers;
}

-- a write burst of three beats to agent 1; on later beats the address is free
abbrev pub placed_burst_in : RouteInputs
placed_burst_in = record {
  shape = shape_of 4 1 true;
  commands = record {
    signals =
        record {
          read =
              always 0;
          write =
              signal (replicate 4 1);
          address =
              signal (256 ∷ 0 ∷ 0 ∷ 0 ∷ []);
          word = always 7;
          enables = always 15;
          count = signal (3 ∷ 0 ∷ 0 ∷ 1 ∷ []);
        };
    more = signal (1 ∷ 1 ∷ 0 ∷ 0 ∷ []);
    tag = always 0;
  };
  waitrequest = λ a. always 0;
  answers = λ a. no_answers;
}

-- ---- arbiter

abbrev pub one_and_three : List Seat
one_and_three = record { host = 0; shares = 1 } ∷ record { host = 1; shares = 3 } ∷ []

-- two hosts that write plain beats in every cycle
abbrev pub two_writers_in : List ℕ → List ℕ → List ℕ → ArbiterInputs
two_writers_in wait valid answer_tag = record {
  shape = shape_of 4 1 true;
  asker = λ host. record {
    signals =
        record { read = always 0; write = always 1; address = always 0; word = always 7; enables = always 15; count = always 1 };
    more = always 0;
    tag = always host;
  };
  waitrequest = signal wait;
  answers = answers_in valid [];
  answer_tag = signal answer_tag;
}

abbrev pub above_arbiter : ArbiterInputs → ℕ → Port
above_arbiter inputs = arbiter_upper inputs (arbiter_grant one_and_three inputs)

abbrev pub below_arbiter : ArbiterInputs → TaggedPort
below_arbiter inputs = arbiter_lower inputs (arbiter_grant one_and_three inputs)

-- ---- a whole system: two hosts with 1 and 3 shares, and an agent of 256 bytes at 0

abbrev pub shared_plan : PlainPlan
shared_plan = record {
  hosts = 2;
  agents = 1;
  host = host_of 4 true;
  agent = agent_with_bound 4;
  place = λ h kind address. if nat_lt address 256 then Some 0 else None;
  base = λ h a. 0;
  joined = λ a. 0 ∷ 1 ∷ [];
  shares = λ h a. if nat_eq h 0 then 1 else 3;
}

abbrev pub whole_run : Outside → Run
whole_run outside = ports_run AreCodes shared_plan outside (registers_of AreCodes shared_plan outside)

-- both hosts write in every cycle
abbrev pub both_write : Outside
both_write = record {
  host = λ h. plain [] (replicate 8 1);
  waitrequest = λ a. always 0;
  readdata = λ a. always 0;
  readdatavalid = λ a. always 0;
  response = λ a. always 0;
}

-- host 0 reads the agent, which waits once and gives its word two cycles after it takes the read; host 1 reads in no footprint
abbrev pub both_read : Outside
both_read = record {
  host = λ h.
      record {
        read =
            signal (if nat_eq h 0 then 1 ∷ 1 ∷ [] else 1 ∷ []);
        write =
            always 0;
        address = always (if nat_eq h 0 then 8 else 1024);
        word = always 0;
        enables = always 15;
        count = always 1;
      };
  waitrequest = λ a. signal (1 ∷ []);
  readdata = λ a. signal (0 ∷ 0 ∷ 0 ∷ 0x11 ∷ []);
  readdatavalid = λ a. signal (0 ∷ 0 ∷ 0 ∷ 1 ∷ []);
  response = λ a. always 0;
}
