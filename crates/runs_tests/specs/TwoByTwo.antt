-- What systems of two hosts, two agents and the default agent share: host and agent are told by their numbers, and each agent
-- takes 16 bytes.
use Rattle.std.specs.Prelude.{ℕ, zero, suc, ◌*◌, Bool, true, false, List, [], ◌∷◌, Some, None, nat_eq, nat_lt, if◌then◌else◌}
use Rattle.memory_runs.specs.Views.{Signals, Shape, HostSide, AgentSide, System}
use Rattle.memory_machines.specs.Link.{Port}
use Rattle.memory_parts.specs.Queue.{Entry, queue_after}
use Rattle.runs_tests.specs.Examples.{signal}

-- of the first, and of any other
abbrev pub first_or : {A : Type 0} → A → A → ℕ → A
first_or {A} first second number = if nat_eq number 0 then first else second

-- of the first, of the second, and of any other
abbrev pub of_two : {A : Type 0} → A → A → A → ℕ → A
of_two {A} first second none number = if nat_eq number 0 then first else if nat_eq number 1 then second else none

-- words of single beats with byte enables
abbrev pub plain_shape : ℕ → Shape
plain_shape bytes = record { word_bytes = bytes; unit_bytes = 1; burst_bits = 1; has_enables = true }

-- those of bursts of up to four beats
abbrev pub burst_shape : ℕ → Shape
burst_shape bytes = record (plain_shape bytes) { burst_bits = 3 }

-- an agent with waitrequest, readdatavalid and such bursts that bears two reads
abbrev pub small_agent : ℕ → Bool → AgentSide
small_agent bytes has_enables = record {
  shape = record { word_bytes = bytes; unit_bytes = bytes; burst_bits = 3; has_enables = has_enables };
  has_read = true;
  has_write = true;
  has_burst = true;
  has_waitrequest = true;
  has_readdatavalid = true;
  has_response = false;
  read_latency = 0;
  read_wait = 0;
  write_wait = 0;
  pending = 2;
  span = 16;
}

abbrev pub two_by_two : (ℕ → HostSide) → (ℕ → AgentSide) → ℕ → System
two_by_two host agent stages = record {
  hosts = 2;
  agents = 2;
  host = host;
  agent = agent;
  place = λ h kind address. if nat_lt address 16 then Some 0 else if nat_lt address 32 then Some 1 else None;
  base = λ h a. a * 16;
  joined = λ a. 0 ∷ 1 ∷ [];
  shares = λ h a. 1;
  stages = stages;
}

-- those of a host's beats that go to one agent
abbrev pub gated : Signals → List ℕ → List ℕ → Signals
gated asked read write = record asked { read = signal read; write = signal write }

-- the reads that a side has taken and that aren't answered
abbrev pub reads_queued : Port → ℕ → List Entry
reads_queued port zero = []
reads_queued port (suc c) = queue_after port port.answers.valid (reads_queued port c) c
