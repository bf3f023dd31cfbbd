-- A host before an agent that bears one unanswered read, both of 32 bits.
use Rattle.std.specs.Prelude.{ℕ, ◌*◌, ◌^◌, Bool, true, false, List, [], ◌∷◌, if◌then◌else◌, nat_lt, Option, Some, None}
use Rattle.memory_runs.specs.Views.{Signals, Shape, HostSide, AgentSide, HostView, AgentView, System, Run, Kind}
use Rattle.runs_tests.specs.Examples.{signal, always}

-- what differs among such systems
pub record WireForm : Type 0 where
  pub address_bits : ℕ  -- of the agent, which counts words; the host counts bytes, with two bits more
  pub has_enables : Bool  -- byteenable, at both ends
  pub pending : ℕ  -- how many unanswered reads the agent bears

-- words of four bytes, and no bursts
abbrev pub word_shape : ℕ → Bool → Shape
word_shape unit_bytes has_enables = record { word_bytes = 4; unit_bytes = unit_bytes; burst_bits = 1; has_enables = has_enables }

abbrev pub span_of : WireForm → ℕ
span_of form = 4 * 2 ^ form.address_bits

abbrev pub host_side : WireForm → HostSide
host_side form =
    record { shape = word_shape 1 form.has_enables; has_burst = false; has_readdatavalid = true; has_response = false }

abbrev pub agent_side : WireForm → AgentSide
agent_side form = record {
  shape = word_shape 4 form.has_enables;
  has_read = true;
  has_write = true;
  has_burst = false;
  has_waitrequest = true;
  has_readdatavalid = true;
  has_response = false;
  read_latency = 0;
  read_wait = 1;
  write_wait = 0;
  pending = form.pending;
  span = span_of form;
}

-- the agent fills the host's whole range of addresses
abbrev pub place_in : WireForm → ℕ → Kind → ℕ → Option ℕ
place_in form host kind address = if nat_lt address (span_of form) then Some 0 else None

-- the plan of one host and one agent
abbrev pub wire_system : WireForm → System
wire_system form = record {
  hosts = 1;
  agents = 1;
  host = λ _. host_side form;
  agent = λ _. agent_side form;
  place = place_in form;
  base = λ _ _. 0;
  joined = λ _. 0 ∷ [];
  shares = λ _ _. 1;
  stages = 0;
}

abbrev pub wire_run : HostView → AgentView → Run
wire_run host agent = record { at_host = λ _. host; at_agent = λ _. agent }

abbrev pub one_read : WireForm
one_read = record { address_bits = 4; has_enables = true; pending = 1 }

abbrev pub one_read_system : System
one_read_system = wire_system one_read

-- reads of the words at 8 and 12, and then a write of aabbccdd at 4 with the lanes 6
abbrev pub two_reads_and_write : List ℕ → List ℕ → Signals
two_reads_and_write read address = record {
  read = signal read;
  write = signal (0 ∷ 0 ∷ 0 ∷ 1 ∷ []);
  address = signal address;
  word = signal (0 ∷ 0 ∷ 0 ∷ 0xaabbccdd ∷ []);
  enables = signal (15 ∷ 15 ∷ 15 ∷ 6 ∷ []);
  count = always 1;
}

abbrev pub wire_host : List ℕ → List ℕ → HostView
wire_host wait valid = record {
  signals = two_reads_and_write (1 ∷ 1 ∷ 1 ∷ 0 ∷ []) (8 ∷ 12 ∷ 12 ∷ 4 ∷ []);
  waitrequest = signal wait;
  readdata = signal (0 ∷ 0x11 ∷ 0 ∷ 0x22 ∷ []);
  readdatavalid = signal valid;
  response = always 0;
}

abbrev pub wire_agent : List ℕ → List ℕ → AgentView
wire_agent read valid = record {
  signals = two_reads_and_write read (2 ∷ 3 ∷ 3 ∷ 1 ∷ []);
  waitrequest = always 0;
  readdata = signal (0 ∷ 0x11 ∷ 0 ∷ 0x22 ∷ []);
  readdatavalid = signal valid;
  response = always 0;
  grant = always 0;
}

-- the second read is held back until the first is answered
abbrev pub held_back_host : HostView
held_back_host = wire_host (0 ∷ 1 ∷ 0 ∷ 0 ∷ []) (0 ∷ 1 ∷ 0 ∷ 1 ∷ [])

abbrev pub held_back_agent : AgentView
held_back_agent = wire_agent (1 ∷ 0 ∷ 1 ∷ 0 ∷ []) (0 ∷ 1 ∷ 0 ∷ 1 ∷ [])

abbrev pub held_back_run : Run
held_back_run = wire_run held_back_host held_back_agent

-- the second read is let through while the first is unanswered
abbrev pub let_through_host : HostView
let_through_host = wire_host [] []

abbrev pub let_through_agent : AgentView
let_through_agent = wire_agent (1 ∷ 1 ∷ []) []
