-- Small systems and runs, right and wrong.
use Rattle.std.specs.Prelude.{ℕ, Bool, true, false, List, [], ◌∷◌, Some, slice_index, nat_eq, if◌then◌else◌}
use Rattle.memory_runs.specs.Views.{Signals, Shape, HostSide, AgentSide, HostView, AgentView, System, Run}
use Rattle.memory_runs.specs.Views.Kind.{Writes}
use Rattle.memory_runs.specs.Order.{TaggedBeat}

-- a signal by its values from cycle 0 on, and 0 after them
abbrev pub signal : List ℕ → ℕ → ℕ
signal values cycle = slice_index values cycle

abbrev pub always : ℕ → ℕ → ℕ
always level cycle = level

abbrev pub shape_of : ℕ → ℕ → Bool → Shape
shape_of word_bytes unit_bytes has_enables =
    record { word_bytes = word_bytes; unit_bytes = unit_bytes; burst_bits = 4; has_enables = has_enables }

abbrev pub host_of : ℕ → Bool → HostSide
host_of word_bytes has_enables =
    record { shape = shape_of word_bytes 1 has_enables; has_burst = true; has_readdatavalid = true; has_response = false }

abbrev pub agent_of : ℕ → Bool → ℕ → AgentSide
agent_of word_bytes has_enables span = record {
  shape = shape_of word_bytes word_bytes has_enables;
  has_read = true;
  has_write = true;
  has_burst = true;
  has_waitrequest = true;
  has_readdatavalid = true;
  has_response = false;
  read_latency = 0;
  read_wait = 0;
  write_wait = 0;
  pending = 4;
  span = span;
}

-- hosts and agents all alike, every agent at base 0 and every address in agent 0
abbrev pub system_of : HostSide → AgentSide → List ℕ → System
system_of host agent joined = record {
  hosts = 2;
  agents = 1;
  host = λ h. host;
  agent = λ a. agent;
  place = λ h kind address. Some 0;
  base = λ h a. 0;
  joined = λ a. joined;
  shares = λ h a. 1;
  stages = 0;
}

abbrev pub quiet : Signals
quiet = record { read = always 0; write = always 0; address = always 0; word = always 0; enables = always 0; count = always 0 }

-- a host that only writes
abbrev pub writer : List ℕ → List ℕ → List ℕ → ℕ → ℕ → List ℕ → HostView
writer write address word enables count wait = record {
  signals =
      record {
        read =
            always 0;
        write =
            signal write;
        address = signal address;
        word = signal word;
        enables = always enables;
        count = always count;
      };
  waitrequest = signal wait;
  readdata = always 0;
  readdatavalid = always 0;
  response = always 0;
}

-- an agent that takes writes of one beat
abbrev pub written_to : List ℕ → List ℕ → List ℕ → ℕ → List ℕ → AgentView
written_to write address word enables grant = record {
  signals =
      record {
        read =
            always 0;
        write = signal write;
        address = signal address;
        word = signal word;
        enables = always enables;
        count = always 1;
      };
  waitrequest = always 0;
  readdata = always 0;
  readdatavalid = always 0;
  response = always 0;
  grant = signal grant;
}

abbrev pub no_host : HostView
no_host = record { signals = quiet; waitrequest = always 0; readdata = always 0; readdatavalid = always 0; response = always 0 }

abbrev pub run_of : HostView → HostView → AgentView → Run
run_of first second agent = record {
  at_host = λ h. if nat_eq h 0 then first else if nat_eq h 1 then second else no_host;
  at_agent = λ a. agent;
}

-- a 32-bit host writes aabbccdd at 4 with the lanes 6 to an 8-bit agent without byte enables
abbrev pub narrow_system : System
narrow_system = system_of (host_of 4 true) (agent_of 1 false 16) (0 ∷ [])

abbrev pub narrow_host : HostView
narrow_host = writer (1 ∷ 1 ∷ []) (4 ∷ 4 ∷ []) (0xaabbccdd ∷ 0xaabbccdd ∷ []) 6 1 (1 ∷ 0 ∷ [])

abbrev pub narrow_run : Run
narrow_run = run_of narrow_host no_host (written_to (1 ∷ 1 ∷ []) (5 ∷ 6 ∷ []) (0xcc ∷ 0xbb ∷ []) 1 (0 ∷ 0 ∷ []))

-- the same with a piece for every lane
abbrev pub all_lanes_run : Run
all_lanes_run =
    run_of
    (writer (1 ∷ 1 ∷ 1 ∷ 1 ∷ []) (4 ∷ 4 ∷ 4 ∷ 4 ∷ []) (0xaabbccdd ∷ 0xaabbccdd ∷ 0xaabbccdd ∷ 0xaabbccdd ∷ []) 6 1
    (1 ∷ 1 ∷ 1 ∷ 0 ∷ []))
    no_host (written_to (1 ∷ 1 ∷ 1 ∷ 1 ∷ []) (4 ∷ 5 ∷ 6 ∷ 7 ∷ []) (0xdd ∷ 0xcc ∷ 0xbb ∷ 0xaa ∷ []) 1 (0 ∷ 0 ∷ 0 ∷ 0 ∷ []))

-- a write under a tag that no host has
abbrev pub stray_run : Run
stray_run = run_of no_host no_host (written_to (1 ∷ []) (5 ∷ []) (0xcc ∷ []) 1 (7 ∷ []))

-- a 32-bit agent with byte enables and a span of 256 bytes, and two 32-bit hosts
abbrev pub wide_system : System
wide_system = system_of (host_of 4 true) (agent_of 4 true 256) (0 ∷ 1 ∷ [])

-- a burst of four words from f8 on
abbrev pub burst_host : HostView
burst_host = writer (1 ∷ 1 ∷ 1 ∷ 1 ∷ []) (0xf8 ∷ 0 ∷ 0 ∷ 0 ∷ []) (1 ∷ 2 ∷ 3 ∷ 4 ∷ []) 1 4 (0 ∷ 0 ∷ 0 ∷ 0 ∷ [])

abbrev pub wrap_run : Run
wrap_run =
    run_of burst_host no_host
    (written_to (1 ∷ 1 ∷ 1 ∷ 1 ∷ []) (0x3e ∷ 0x3f ∷ 0 ∷ 1 ∷ []) (1 ∷ 2 ∷ 3 ∷ 4 ∷ []) 1 (0 ∷ 0 ∷ 0 ∷ 0 ∷ []))

-- two hosts each write a burst of two words; one burst after the other, or one within the other
abbrev pub first_pair : HostView
first_pair = writer (1 ∷ 1 ∷ 0 ∷ 0 ∷ []) (0 ∷ 0 ∷ []) (1 ∷ 2 ∷ []) 1 2 (0 ∷ 0 ∷ [])

abbrev pub second_pair : HostView
second_pair = writer (1 ∷ 1 ∷ 1 ∷ 1 ∷ []) (8 ∷ 8 ∷ 8 ∷ 8 ∷ []) (3 ∷ 3 ∷ 3 ∷ 4 ∷ []) 1 2 (1 ∷ 1 ∷ 0 ∷ 0 ∷ [])

abbrev pub whole_bursts_run : Run
whole_bursts_run = run_of first_pair second_pair
    (written_to (1 ∷ 1 ∷ 1 ∷ 1 ∷ []) (0 ∷ 1 ∷ 2 ∷ 3 ∷ []) (1 ∷ 2 ∷ 3 ∷ 4 ∷ []) 1 (0 ∷ 0 ∷ 1 ∷ 1 ∷ []))

abbrev pub mixed_bursts_run : Run
mixed_bursts_run = run_of
    (writer (1 ∷ 1 ∷ 1 ∷ 0 ∷ []) (0 ∷ 0 ∷ 0 ∷ []) (1 ∷ 2 ∷ 2 ∷ []) 1 2 (0 ∷ 1 ∷ 0 ∷ []))
    (writer (1 ∷ 1 ∷ 1 ∷ 1 ∷ []) (8 ∷ 8 ∷ 8 ∷ 8 ∷ []) (3 ∷ 3 ∷ 4 ∷ 4 ∷ []) 1 2 (1 ∷ 0 ∷ 1 ∷ 0 ∷ []))
    (written_to (1 ∷ 1 ∷ 1 ∷ 1 ∷ []) (0 ∷ 2 ∷ 1 ∷ 3 ∷ []) (1 ∷ 3 ∷ 2 ∷ 4 ∷ []) 1 (0 ∷ 1 ∷ 0 ∷ 1 ∷ []))

-- an 8-bit host reads byte 5 of a 64-bit agent with byte enables
abbrev pub packed_system : System
packed_system = system_of (host_of 1 false) (agent_of 8 true 256) (0 ∷ [])

abbrev pub reader : HostView
reader = record {
  signals =
      record {
        read =
            signal (1 ∷ []);
        write = always 0;
        address = signal (5 ∷ []);
        word = always 0;
        enables = always 1;
        count = always 1;
      };
  waitrequest = always 0;
  readdata = signal (0 ∷ 0x15 ∷ []);
  readdatavalid = signal (0 ∷ 1 ∷ []);
  response = always 0;
}

abbrev pub read_from : AgentView
read_from = record {
  signals =
      record {
        read =
            signal (1 ∷ []);
        write = always 0;
        address = always 0;
        word = always 0;
        enables = signal (0x20 ∷ []);
        count = always 1;
      };
  waitrequest = always 0;
  readdata = signal (0 ∷ 0x1716151413121110 ∷ []);
  readdatavalid = signal (0 ∷ 1 ∷ []);
  response = always 0;
  grant = always 0;
}

abbrev pub read_run : Run
read_run = run_of reader no_host read_from

-- one write, and beats without a lane under its tag
abbrev pub busy_run : Run
busy_run = run_of (writer (1 ∷ 1 ∷ 1 ∷ []) (0 ∷ 0 ∷ 0 ∷ []) (9 ∷ 9 ∷ 9 ∷ []) 1 1 (1 ∷ 1 ∷ 1 ∷ []))
    no_host (written_to (1 ∷ 1 ∷ 1 ∷ []) (0 ∷ 0 ∷ 0 ∷ []) (0 ∷ 0 ∷ 0 ∷ []) 0 (0 ∷ 0 ∷ 0 ∷ []))

-- a byte that the first host writes, as an agent of one byte takes it
abbrev pub byte_write : ℕ → ℕ → TaggedBeat
byte_write address byte = record { tag = 0; beat = record { kind = Writes; address = address; word = byte; enables = 1 } }
