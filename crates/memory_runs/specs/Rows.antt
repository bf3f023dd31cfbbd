-- A host and an agent that can't do in a cycle what they do in these rows.
use Rattle.std.specs.Prelude.{ℕ, true, false, List, [], ◌∷◌, slice_index}
use Rattle.memory_runs.specs.Views.{Shape, HostSide, AgentSide, HostView, AgentView}

-- a signal by its values from cycle 0 on, and 0 after them
abbrev signal : List ℕ → ℕ → ℕ
signal values cycle = slice_index values cycle

abbrev always : ℕ → ℕ → ℕ
always level cycle = level

-- words of four bytes, in bursts of one or two beats
abbrev two_beats : Shape
two_beats = record { word_bytes = 4; unit_bytes = 1; burst_bits = 2; has_enables = true }

abbrev pub burst_host : HostSide
burst_host = record { shape = two_beats; has_burst = true; has_readdatavalid = true; has_response = false }

abbrev pub burst_agent : AgentSide
burst_agent = record {
  shape = two_beats;
  has_read = true;
  has_write = true;
  has_burst = true;
  has_waitrequest = true;
  has_readdatavalid = true;
  has_response = false;
  read_latency = 0;
  read_wait = 0;
  write_wait = 0;
  pending = 4;
  span = 16;
}

-- commands of two beats at byte 4, and in which cycles they wait
abbrev host_with : List ℕ → List ℕ → List ℕ → HostView
host_with read write wait = record {
  signals =
      record
      { read = signal read; write = signal write; address = always 4; word = always 0; enables = always 15; count = always 2 };
  waitrequest = signal wait;
  readdata = always 0;
  readdatavalid = always 0;
  response = always 0;
}

-- a read that waits is taken back
abbrev pub taken_back : HostView
taken_back = host_with (1 ∷ 0 ∷ []) [] (1 ∷ 0 ∷ [])

-- a read comes behind the first beat of a write burst
abbrev pub broken_burst : HostView
broken_burst = host_with (0 ∷ 1 ∷ []) (1 ∷ 0 ∷ []) []

-- an agent gives a word in a cycle before which none was asked
abbrev pub early_word : AgentView
early_word = record {
  signals = (host_with (1 ∷ []) [] []).signals;
  waitrequest = always 0;
  readdata = always 0;
  readdatavalid = signal (1 ∷ []);
  response = always 0;
  grant = always 0;
}
