-- The symbols that pass an end, in order.
use Rattle.std.specs.Prelude.{ℕ, ◌+◌, ◌-◌, ◌*◌, ◌/◌, ◌%◌, ◌^◌, Bool, ◌&&◌, ◌==◌, if◌then◌else◌, List, [], map, filter, fold, bit_or}
use Rattle.std.specs.List.{range_with_len}
use Rattle.histories.specs.History.{before}
use Rattle.stream_runs.specs.View.{EndView, Beat, Side, beat_at, is_transfer}

-- a symbol with the channel, the marks and the error of its beat
pub record Symbol : Type 0 where
  pub value : ℕ
  pub channel : ℕ
  pub first : Bool
  pub last : Bool
  pub error : ℕ

-- the symbol without its error
abbrev pub without_error : Symbol → Symbol
without_error symbol = record symbol { error = 0 }

-- where symbol k of a beat stands in the word, counted from the low-order end
abbrev pub place_of : Side → ℕ → ℕ
place_of side k = if side.first_high then side.symbols - 1 - k else k

-- the data of symbol k of a word
abbrev pub value_of : Side → ℕ → ℕ → ℕ
value_of side word k = word / 2 ^ (side.symbol_bits * place_of side k) % 2 ^ side.symbol_bits

-- how many symbols of the beat hold data: all of them, but for the empty ones at the end of a packet
abbrev pub symbol_count : Side → Beat → ℕ
symbol_count side beat = if beat.last == 1 then side.symbols - beat.empty else side.symbols

-- symbol k of a beat: the first one bears the first mark, and the last that holds data the last mark
abbrev pub symbol_in : Side → Beat → ℕ → Symbol
symbol_in side beat k =
    record {
      value = value_of side beat.word k;
      channel = beat.channel;
      first = (beat.first == 1) && (k == 0);
      last = (beat.last == 1) && (k + 1 == symbol_count side beat);
      error = beat.error;
    }

-- the symbols of a beat, without the empty ones
abbrev pub symbols_of : Side → Beat → List Symbol
symbols_of side beat = map (symbol_in side beat) (range_with_len 0 (symbol_count side beat))

-- the same of the beat that is shown in a cycle
abbrev pub shown_count : Side → EndView → ℕ → ℕ
shown_count side view c = symbol_count side (beat_at view c)

abbrev pub shown_symbol : Side → EndView → ℕ → ℕ → Symbol
shown_symbol side view c = symbol_in side (beat_at view c)

abbrev pub shown_symbols : Side → EndView → ℕ → List Symbol
shown_symbols side view c = symbols_of side (beat_at view c)

-- the symbols that transfer in the cycle
abbrev pub symbols_in : Side → EndView → ℕ → List Symbol
symbols_in side view c = if is_transfer side.pace view c then shown_symbols side view c else []

-- the symbols that transferred before the cycle
abbrev pub transferred_symbols : Side → EndView → ℕ → List Symbol
transferred_symbols side view c = before (symbols_in side view) c

-- at a source they are accepted, and at a sink delivered
abbrev pub accepted_symbols : Side → EndView → ℕ → List Symbol
accepted_symbols source view c = transferred_symbols source view c

abbrev pub delivered_symbols : Side → EndView → ℕ → List Symbol
delivered_symbols sink view c = transferred_symbols sink view c

-- the accepted symbols whose channel passes the test
abbrev pub kept_symbols : (ℕ → Bool) → Side → EndView → ℕ → List Symbol
kept_symbols passes source view c = filter (λ symbol. passes symbol.channel) (accepted_symbols source view c)

-- all bits that are set in the error of one of the symbols
abbrev pub joined_error : List Symbol → ℕ
joined_error symbols = fold (λ error symbol. bit_or error symbol.error) 0 symbols
