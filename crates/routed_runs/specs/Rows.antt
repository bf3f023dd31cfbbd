-- Runs that were worked out by hand, cycle by cycle, and runs with a fault. All beats are of one byte, but for those that a
-- gatherer gives.
use Rattle.std.specs.Prelude.{ℕ, Option, Some, None, [], ◌∷◌, List, ◌==◌, if◌then◌else◌}
use Rattle.stream_runs.specs.View.{EndView, Beat}
use Rattle.stream_runs.specs.Rows.{always, never, signal_of, showing, word, on_channel, opens, closes}
use Rattle.routed_runs.specs.Multiplexed.{Multiplexer, MultiplexerRun}
use Rattle.routed_runs.specs.Demultiplexed.{Demultiplexer, DemultiplexerRun}
use Rattle.routed_runs.specs.Gathered.{Gatherer, GathererRun}

-- a packet of one beat
abbrev pub alone : ℕ → Beat
alone value = opens (closes 0 (word value))

-- one view or the other, by number
abbrev pub either : EndView → EndView → ℕ → EndView
either zeroth first i = if i == 0 then zeroth else first

-- ---- two inputs: 11 and 12 are a packet of input 0, with a gap, and 21 and 22 are packets of input 1. The output isn't ready in
-- cycle 1

abbrev pub two_inputs : Multiplexer
two_inputs = record { inputs = 2; symbols = 1; bits = 8 }

abbrev pub output_ready : ℕ → ℕ
output_ready = signal_of (1 ∷ 0 ∷ 1 ∷ 1 ∷ 1 ∷ 1 ∷ [])

abbrev pub gapped_input : EndView
gapped_input =
    showing (signal_of (0 ∷ 0 ∷ 1 ∷ 1 ∷ 1 ∷ 0 ∷ []))
    (Some (opens (word 0x11)) ∷ Some (opens (word 0x11)) ∷ Some (opens (word 0x11)) ∷ None ∷ Some (closes 0 (word 0x12)) ∷ None
    ∷ [])

abbrev pub other_input : EndView
other_input =
    showing (signal_of (1 ∷ 0 ∷ 0 ∷ 0 ∷ 0 ∷ 1 ∷ []))
    (Some (alone 0x21) ∷ None ∷ Some (alone 0x22) ∷ Some (alone 0x22) ∷ Some (alone 0x22) ∷ Some (alone 0x22) ∷ [])

-- 21, then 11 twice, since it stalls, and a gap; then these two
abbrev pub shown_output : Option Beat → Option Beat → Option Beat → EndView
shown_output gap fifth sixth =
    showing output_ready
    (Some (on_channel 1 (alone 0x21)) ∷ Some (opens (word 0x11)) ∷ Some (opens (word 0x11)) ∷ gap ∷ fifth ∷ sixth ∷ [])

abbrev pub multiplexed : EndView → MultiplexerRun
multiplexed output = record { inputs = either gapped_input other_input; output = output }

abbrev pub right_output : EndView
right_output = shown_output None (Some (closes 0 (word 0x12))) (Some (on_channel 1 (alone 0x22)))

-- 22 comes on the channel of input 0
abbrev pub low_channel_output : EndView
low_channel_output = shown_output None (Some (closes 0 (word 0x12))) (Some (alone 0x22))

-- the packet of input 0 has no end
abbrev pub endless_output : EndView
endless_output = shown_output None (Some (word 0x12)) (Some (on_channel 1 (alone 0x22)))

-- 22 comes in the gap of the other packet
abbrev pub torn_run : MultiplexerRun
torn_run =
    record {
      inputs = either gapped_input
          (showing (signal_of (1 ∷ 0 ∷ 0 ∷ 1 ∷ 0 ∷ 0 ∷ []))
          (Some (alone 0x21) ∷ None ∷ Some (alone 0x22) ∷ Some (alone 0x22) ∷ None ∷ None ∷ []));
      output = shown_output (Some (on_channel 1 (alone 0x22))) (Some (closes 0 (word 0x12))) None;
    }

-- input 0 is served each time, and input 1 waits
abbrev pub greedy_run : MultiplexerRun
greedy_run =
    record {
      inputs = either (showing always (Some (alone 0x11) ∷ Some (alone 0x12) ∷ Some (alone 0x13) ∷ []))
          (showing never (Some (alone 0x21) ∷ Some (alone 0x21) ∷ Some (alone 0x21) ∷ []));
      output = showing always (Some (alone 0x11) ∷ Some (alone 0x12) ∷ Some (alone 0x13) ∷ []);
    }

-- a packet of one byte, 0, that waits throughout
abbrev pub waiting_input : EndView
waiting_input = record (showing never []) { valid = always; first = always; last = always }

-- packets wait, and the output is ready, but nothing is accepted
abbrev pub idle_multiplexer : MultiplexerRun
idle_multiplexer = record { inputs = λ i. waiting_input; output = showing always [] }

-- a packet is accepted, and the output shows nothing
abbrev pub swallowing_multiplexer : MultiplexerRun
swallowing_multiplexer = record { inputs = λ i. showing always (Some (alone 0x11) ∷ []); output = showing always [] }

-- ---- two outputs: 21 to output 1, then 11 and 12 to output 0, which isn't ready in cycle 1

abbrev pub two_outputs : Demultiplexer
two_outputs = record { outputs = 2; symbols = 1; bits = 8 }

abbrev pub routed_input : EndView
routed_input =
    showing (signal_of (1 ∷ 0 ∷ 1 ∷ 1 ∷ []))
    (Some (on_channel 1 (alone 0x21)) ∷ Some (opens (word 0x11)) ∷ Some (opens (word 0x11)) ∷ Some (closes 0 (word 0x12)) ∷ [])

abbrev pub zeroth_output : Option Beat → EndView
zeroth_output fourth =
    showing (signal_of (1 ∷ 0 ∷ 1 ∷ 1 ∷ [])) (None ∷ Some (opens (word 0x11)) ∷ Some (opens (word 0x11)) ∷ fourth ∷ [])

abbrev pub first_output : EndView
first_output = showing always (Some (alone 0x21) ∷ [])

abbrev pub demultiplexed : EndView → EndView → DemultiplexerRun
demultiplexed zeroth first = record { input = routed_input; outputs = either zeroth first }

-- 11 goes where it isn't taken
abbrev pub dropping_run : DemultiplexerRun
dropping_run =
    record {
      input = showing always (Some (on_channel 1 (alone 0x21)) ∷ Some (opens (word 0x11)) ∷ Some (closes 0 (word 0x12)) ∷ []);
      outputs =
          either
          (showing (signal_of (1 ∷ 0 ∷ 1 ∷ 1 ∷ []))
          (None ∷ Some (opens (word 0x11)) ∷ Some (closes 0 (word 0x12)) ∷ [])) first_output;
    }

-- a packet waits at the input, and both outputs are ready, but it isn't accepted
abbrev pub idle_demultiplexer : DemultiplexerRun
idle_demultiplexer = record { input = waiting_input; outputs = λ k. showing always [] }

-- a packet is accepted, and no output shows it
abbrev pub swallowing_demultiplexer : DemultiplexerRun
swallowing_demultiplexer = record { input = showing always (Some (alone 0x11) ∷ []); outputs = λ k. showing always [] }

-- ---- two channels, two parts a beat: 11, aa, 22 and bb on channels 0, 1, 0 and 1, then 33 on channel 0

abbrev pub two_channels : Gatherer
two_channels = record { channels = 2; symbols = 1; parts = 2; bits = 8 }

abbrev pub mixed_input : EndView
mixed_input =
    showing always
    (Some (word 0x11) ∷ Some (on_channel 1 (word 0xaa)) ∷ Some (word 0x22) ∷ Some (on_channel 1 (word 0xbb)) ∷ Some (word 0x33)
    ∷ [])

abbrev pub gathered : List (Option Beat) → GathererRun
gathered beats = record { input = mixed_input; output = showing always beats }

abbrev pub right_beats : List (Option Beat)
right_beats = None ∷ None ∷ Some (word 0x1122) ∷ Some (on_channel 1 (word 0xaabb)) ∷ []

-- one started beat for all channels
abbrev pub mixed_beats : List (Option Beat)
mixed_beats = None ∷ Some (on_channel 1 (word 0x11aa)) ∷ None ∷ Some (on_channel 1 (word 0x22bb)) ∷ []

-- the second part on the first channel's
abbrev pub crossed_beats : List (Option Beat)
crossed_beats = None ∷ None ∷ Some (word 0xaa22) ∷ Some (on_channel 1 (word 0x11bb)) ∷ []

-- the first part comes with what stood in a place before
abbrev pub unwritten_beats : List (Option Beat)
unwritten_beats = Some (word 0x0011) ∷ []

-- the count isn't cleared where a beat goes
abbrev pub uncleared_beats : List (Option Beat)
uncleared_beats = None ∷ None ∷ Some (word 0x1122) ∷ Some (on_channel 1 (word 0xaabb)) ∷ Some (word 0x2233) ∷ []

-- the source sees no ready
abbrev pub idle_gatherer : GathererRun
idle_gatherer = record { input = showing never []; output = showing always [] }

-- two parts are accepted, and the output shows nothing
abbrev pub swallowing_gatherer : GathererRun
swallowing_gatherer = record { input = showing always (Some (word 0x11) ∷ Some (word 0x22) ∷ []); output = showing always [] }
