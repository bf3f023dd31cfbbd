-- Runs in which a machine does too much or too little.
use Rattle.std.specs.Prelude.{ℕ, zero, suc, ◌-◌, true, false, Some, [], ◌∷◌}
use Rattle.stream_runs.specs.View.{EndView, Side}
use Rattle.stream_runs.specs.Rows.{always, signal_of, showing, word, on_channel, with_error, later, byte_side, both_wait, kept_out}
use Rattle.stream_machines.specs.Stage.{Shape, StageRun, pass_shape, pass_run}
use Rattle.stream_machines.specs.Wires.{wire_shape, wire_run, delayed_side}

-- two symbols a beat, without packets, channels 0 and 1
abbrev pub pair_of_channels : Side
pair_of_channels =
    record { pace = later 0; symbols = 2; symbol_bits = 8; first_high = true; packets = false; max_channel = 1; error_bits = 0 }

-- a beat on channel 0, then one on channel 1
abbrev pub two_channel_source : EndView
two_channel_source = showing always (Some (word 0xa1) ∷ Some (on_channel 1 (word 0xa2)) ∷ [])

-- a beat 0102 that is accepted in the second cycle, and its symbols one by one from the first cycle on
abbrev pub waiting_source : EndView
waiting_source = showing (signal_of (0 ∷ 1 ∷ [])) (Some (word 0x0102) ∷ Some (word 0x0102) ∷ [])

abbrev pub eager_sink : EndView
eager_sink = showing always (Some (word 1) ∷ Some (word 2) ∷ [])

-- a beat with an error, and the same without it, at ends with an error of one bit
abbrev pub noisy_side : Side
noisy_side = record (byte_side (later 0) 0) { error_bits = 1 }

abbrev pub noisy_source : EndView
noisy_source = showing always (Some (with_error 1 (word 0x11)) ∷ [])

abbrev pub quiet_sink : EndView
quiet_sink = showing always (Some (word 0x11) ∷ [])

-- ready in the first cycle alone, and the same a cycle later
abbrev pub early_ready : EndView
early_ready = showing (signal_of (1 ∷ [])) []

abbrev pub late_ready : EndView
late_ready = showing (signal_of (0 ∷ 1 ∷ [])) []

-- ready latency 1, then a delay of one cycle, and a wire behind it
abbrev pub front_delay : Shape
front_delay = wire_shape (λ _. true) (byte_side (later 1) 0) (delayed_side (byte_side (later 1) 0) 1) 1 false

abbrev pub back_wire : Shape
back_wire = pass_shape (λ _. true) (delayed_side (byte_side (later 1) 0) 1)

abbrev pub front_run : StageRun
front_run = wire_run (byte_side (later 1) 0) late_ready early_ready

abbrev pub back_run : StageRun
back_run = pass_run (delayed_side (byte_side (later 1) 0) 1) early_ready

-- ready in every other cycle
abbrev pub every_other : ℕ → ℕ
every_other zero = 1
every_other (suc c) = 1 - every_other c

-- an idle source that sees ready in every other cycle, as a buffer with one place behind ready latency 1 shows it, and
-- an idle sink that is always ready
abbrev pub blinking : EndView
blinking = showing every_other []

abbrev pub waiting_sink : EndView
waiting_sink = showing always []

-- a stage from ready latency 1 to 0, with any numbers
abbrev pub any_stage : ℕ → ℕ → ℕ → ℕ → Shape
any_stage hold rest step largest =
    record {
      up =
          byte_side (later 1) 0;
      down =
          byte_side (later 0) 0;
      passes = λ _. true;
      hold = hold;
      rest = rest;
      step = step;
      largest = largest;
      needs_ready = false;
    }

-- a run between idle ends, with any rank
abbrev pub idle_run : (ℕ → ℕ) → StageRun
idle_run rank = record { up = blinking; down = waiting_sink; rank = rank }

-- a stage between ends of ready latency 0, with any numbers
abbrev pub any_direct : ℕ → ℕ → ℕ → ℕ → Shape
any_direct hold rest step largest = record (any_stage hold rest step largest) { up = byte_side (later 0) 0 }

-- a machine that shows the ready of its sink alone, as a filter that waits for it before it drops, or one that gathers
-- beats and waits for it before it takes one in: the source's beats wait, and none is shown
abbrev pub held_back_run : (ℕ → ℕ) → StageRun
held_back_run rank = record { up = kept_out.source; down = kept_out.sink; rank = rank }

-- a machine that shows the beat that it has taken in only where its sink is ready
abbrev pub hidden_run : (ℕ → ℕ) → StageRun
hidden_run rank = record { up = both_wait.source; down = both_wait.sink; rank = rank }
