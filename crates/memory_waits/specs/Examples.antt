-- Small runs of the parts, and wrong ones.
use Rattle.std.specs.Prelude.{ℕ, Bool, true, false, List, [], ◌∷◌, Some, slice_index}
use Rattle.memory_runs.specs.Views.{Shape, Signals, HostSide, HostView, AgentSide, AgentView, System, Run}
use Rattle.memory_runs.specs.Views.Responses.{AreCodes}
use Rattle.memory_machines.specs.Lines.{TaggedPort}
use Rattle.memory_machines.specs.Link.{Port}
use Rattle.memory_machines.specs.Paths.{AnswerView}
use Rattle.memory_machines.specs.Straight.{port_of_host}
use Rattle.memory_parts.specs.AgentRun.{AgentInputs, agent_registers, agent_state, agent_view, agent_upper}
use Rattle.memory_parts.specs.HostRun.{HostInputs, host_registers, host_state, host_view, host_lower}
use Rattle.memory_parts.specs.RouteRun.{RouteInputs, route_registers, route_state, route_upper, route_lower}

-- a signal by its values from cycle 0 on, and 0 after them
abbrev pub signal : List ℕ → ℕ → ℕ
signal values cycle = slice_index values cycle

abbrev pub always : ℕ → ℕ → ℕ
always level cycle = level

-- single beats
abbrev pub words_of : ℕ → Shape
words_of bytes = record { word_bytes = bytes; unit_bytes = 1; burst_bits = 1; has_enables = true }

abbrev pub host_with : Bool → ℕ → HostSide
host_with has_readdatavalid bytes =
    record { shape = words_of bytes; has_burst = false; has_readdatavalid = has_readdatavalid; has_response = false }

-- it bears one read
abbrev pub agent_of : ℕ → AgentSide
agent_of bytes = record {
  shape = words_of bytes;
  has_read = true;
  has_write = true;
  has_burst = false;
  has_waitrequest = true;
  has_readdatavalid = true;
  has_response = false;
  read_latency = 0;
  read_wait = 0;
  write_wait = 0;
  pending = 1;
  span = 256;
}

-- one host and one agent, which all addresses are for
abbrev pub pair_of : HostSide → AgentSide → System
pair_of host agent = record {
  hosts = 1;
  agents = 1;
  host = λ h. host;
  agent = λ a. agent;
  place = λ h kind address. Some 0;
  base = λ h a. 0;
  joined = λ a. 0 ∷ [];
  shares = λ h a. 1;
  stages = 0;
}

abbrev pub commands_of : List ℕ → List ℕ → ℕ → Signals
commands_of read write enables =
    record
    { read = signal read; write = signal write; address = always 0; word = always 7; enables = always enables; count = always 1 }

abbrev pub words_in : List ℕ → AnswerView
words_in valid = record { valid = signal valid; word = always 0x11; code = always 0 }

abbrev pub port_with : Signals → Port
port_with signals = record {
  shape = words_of 4;
  commands = record { signals = signals; more = always 0; tag = always 0; waitrequest = always 0 };
  answers = words_in [];
}

abbrev pub host_run : HostView → Run
host_run view = record {
  at_host = λ h. view;
  at_agent =
      λ a. record {
        signals =
            commands_of [] [] 0;
        waitrequest =
            always 0;
        readdata = always 0;
        readdatavalid = always 0;
        response = always 0;
        grant = always 0;
      };
}

abbrev pub agent_run : AgentView → Run
agent_run view = record {
  at_host =
      λ h. record {
        signals =
            commands_of [] [] 0;
        waitrequest = always 0;
        readdata = always 0;
        readdatavalid = always 0;
        response = always 0;
      };
  at_agent = λ a. view;
}

-- ---- next to a host

abbrev pub host_in : List ℕ → List ℕ → List ℕ → HostInputs
host_in read write valid = record { signals = commands_of read write 15; waitrequest = always 0; answers = words_in valid }

abbrev pub at_host : HostSide → HostInputs → HostView
at_host side inputs = host_view AreCodes side inputs (host_state (host_registers AreCodes side inputs))

abbrev pub below_host : HostSide → HostInputs → Port
below_host side inputs = host_lower side inputs (at_host side inputs) (host_state (host_registers AreCodes side inputs))

abbrev pub above_host : HostSide → HostInputs → Port
above_host side inputs = port_of_host side (at_host side inputs) 0

-- a write behind a read whose word comes one cycle later
abbrev pub write_ahead : HostInputs
write_ahead = host_in (1 ∷ []) (0 ∷ 1 ∷ []) (0 ∷ 0 ∷ 1 ∷ [])

-- without readdatavalid: the read stands until its word comes, and the write behind it
abbrev pub write_behind : HostInputs
write_behind = host_in (1 ∷ 1 ∷ 1 ∷ []) (0 ∷ 0 ∷ 0 ∷ 1 ∷ []) (0 ∷ 0 ∷ 1 ∷ [])

-- a host whose write stands for two cycles
abbrev pub writing : HostView
writing =
    record {
      signals =
          commands_of [] (1 ∷ 1 ∷ []) 15;
      waitrequest =
          signal (1 ∷ []);
      readdata = always 0;
      readdatavalid = always 0;
      response = always 0;
    }

-- it is shown one cycle late
abbrev pub late : Port
late = port_with (commands_of [] (0 ∷ 1 ∷ []) 15)

-- ---- the route

abbrev pub route_in : ℕ → Signals → List ℕ → RouteInputs
route_in bytes signals valid = record {
  shape = words_of bytes;
  commands = record { signals = signals; more = always 0; tag = always 0 };
  waitrequest = λ a. always 0;
  answers = λ a. words_in valid;
}

abbrev pub above_route : System → RouteInputs → Port
above_route system inputs = route_upper AreCodes system 0 inputs (route_state (route_registers AreCodes system 0 inputs))

abbrev pub below_route : System → RouteInputs → ℕ → Port
below_route system inputs = route_lower system 0 inputs (route_state (route_registers AreCodes system 0 inputs))

abbrev pub even_pair : System
even_pair = pair_of (host_with true 4) (agent_of 4)

abbrev pub routed_ahead : RouteInputs
routed_ahead = route_in 4 (commands_of (1 ∷ []) (0 ∷ 1 ∷ []) 15) (0 ∷ 0 ∷ 1 ∷ [])

-- words of three bytes for an agent with words of two, which aren't those of a plan: the last lane lies in none of them
abbrev pub odd_pair : System
odd_pair = pair_of (host_with true 3) (agent_of 2)

abbrev pub last_lane : RouteInputs
last_lane = route_in 3 (commands_of [] (1 ∷ []) 4) []

-- ---- next to an agent

-- a read, and a write in the next cycle, in which its word is owed
abbrev pub asked_twice : AgentInputs
asked_twice = record {
  shape = words_of 4;
  commands = record { signals = commands_of (1 ∷ []) (0 ∷ 1 ∷ []) 15; more = always 0; tag = always 0 };
  waitrequest = always 0;
  readdata = always 0x11;
  readdatavalid = signal (0 ∷ 0 ∷ 1 ∷ []);
  response = always 0;
}

abbrev pub at_agent : AgentInputs → AgentView
at_agent inputs = agent_view (agent_of 4) inputs (agent_state (agent_registers AreCodes (agent_of 4) inputs))

abbrev pub above_agent : AgentInputs → TaggedPort
above_agent inputs = agent_upper AreCodes (agent_of 4) inputs (agent_state (agent_registers AreCodes (agent_of 4) inputs))

-- it is shown nothing
abbrev pub idle : AgentView
idle =
    record {
      signals =
          commands_of [] [] 15;
      waitrequest =
          always 0;
      readdata = always 0;
      readdatavalid = always 0;
      response = always 0;
      grant = always 0;
    }
