-- What modules share that lead beats of a stream by their channels.
use Rattle.std.specs.Prelude.{ℕ, ◌+◌, ◌≤◌, ◌==◌, true, Bool, List, map, filter, length}
use Rattle.histories.specs.History.{IsPrefix}
use Rattle.stream_runs.specs.View.{Pace, Side}
use Rattle.stream_runs.specs.Symbols.{Symbol}

-- ready latency 0
abbrev pub direct : Pace
direct = record { latency = 0; allowance = 0 }

-- an end with ready latency 0, the first symbol in the high-order bits and no error port: with packets or without, of so many
-- symbols of so many bits a beat, with channels up to the last number
abbrev pub direct_end : Bool → ℕ → ℕ → ℕ → Side
direct_end packets symbols bits max_channel =
    record {
      pace =
          direct;
      symbols =
          symbols;
      symbol_bits = bits;
      first_high = true;
      packets = packets;
      max_channel = max_channel;
      error_bits = 0;
    }

-- the data and the marks of a symbol alone
abbrev pub data_and_marks : Symbol → Symbol
data_and_marks symbol = record symbol { channel = 0; error = 0 }

-- those of the symbols that are on the channel
abbrev pub symbols_on : ℕ → List Symbol → List Symbol
symbols_on channel symbols = filter (λ symbol. symbol.channel == channel) symbols

-- the delivered symbols are the first of the accepted ones, in data and marks, and at most so many fewer
pub record FollowWithin (lag : ℕ) (accepted delivered : List Symbol) : Type 0 where
  pub in_order : IsPrefix (map data_and_marks delivered) (map data_and_marks accepted)
  pub few : length accepted ≤ length delivered + lag

-- how many cycles a module may stand still where beats wait and its outputs are ready
abbrev pub routing_window : ℕ
routing_window = 8
