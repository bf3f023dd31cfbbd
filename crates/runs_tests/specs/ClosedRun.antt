-- A run of a host and an agent, in which the agent gives what was written.
use Rattle.std.specs.Prelude.{ℕ, true, false, Some, [], ◌∷◌, List, slice_index}
use Rattle.memory_runs.specs.Views.{Signals, Shape, System, Run}

abbrev pub signal : List ℕ → ℕ → ℕ
signal values cycle = slice_index values cycle

abbrev pub always : ℕ → ℕ → ℕ
always level cycle = level

abbrev pub word_shape : Shape
word_shape = record { word_bytes = 4; unit_bytes = 1; burst_bits = 1; has_enables = true }

abbrev pub closed_system : System
closed_system = record {
  hosts = 1;
  agents = 1;
  host = λ h. record { shape = word_shape; has_burst = false; has_readdatavalid = true; has_response = false };
  agent = λ a. record {
    shape = word_shape;
    has_read = true;
    has_write = true;
    has_burst = false;
    has_waitrequest = true;
    has_readdatavalid = true;
    has_response = false;
    read_latency = 0;
    read_wait = 0;
    write_wait = 0;
    pending = 4;
    span = 16;
  };
  place = λ h kind address. Some 0;
  base = λ h a. 0;
  joined = λ a. 0 ∷ [];
  shares = λ h a. 1;
  stages = 0;
}

-- 5 is written to byte 4, bytes 4 and 5 are read, 9 is written, and they are read again. Both words come behind both writes
abbrev pub commands : Signals
commands = record {
  read = signal (0 ∷ 1 ∷ 0 ∷ 1 ∷ []);
  write = signal (1 ∷ 0 ∷ 1 ∷ []);
  address = always 4;
  word = signal (5 ∷ 0 ∷ 9 ∷ []);
  enables = signal (1 ∷ 3 ∷ 1 ∷ 3 ∷ []);
  count = always 1;
}

abbrev pub given_valid : ℕ → ℕ
given_valid = signal (0 ∷ 0 ∷ 0 ∷ 1 ∷ 1 ∷ [])

-- the agent gives these words, and the host is given these
abbrev pub closed_run : List ℕ → List ℕ → Run
closed_run from to = record {
  at_host =
      λ h. record {
        signals =
            commands;
        waitrequest = always 0;
        readdata = signal (0 ∷ 0 ∷ 0 ∷ to);
        readdatavalid = given_valid;
        response = always 0;
      };
  at_agent = λ a. record {
    signals = commands;
    waitrequest = always 0;
    readdata = signal (0 ∷ 0 ∷ 0 ∷ from);
    readdatavalid = given_valid;
    response = always 0;
    grant = always 0;
  };
}

-- byte 5 holds 7 at first, and the others 0
abbrev pub first_contents : ℕ → ℕ
first_contents place = slice_index (0 ∷ 0 ∷ 0 ∷ 0 ∷ 0 ∷ 7 ∷ []) place

-- the words that a memory gives, and those of one that reads behind the second write, or writes lanes that aren't enabled
abbrev pub right_words : List ℕ
right_words = 0x0705 ∷ 0x0709 ∷ []

abbrev pub late_words : List ℕ
late_words = 0x0709 ∷ 0x0709 ∷ []

abbrev pub wide_words : List ℕ
wide_words = 0x0005 ∷ 0x0009 ∷ []
