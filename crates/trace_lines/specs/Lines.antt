-- The lines of a trace. Each begins with the number of its cycle, what is told, and the name of the interface.
use Rattle.std.specs.Prelude.{ℕ, List, ◌++◌, codes, decimal, Option, if◌then◌else◌}
use Rattle.av_base.specs.Word.{Word}
use Rattle.verilog_writer.specs.Text.{hex_digits}
use Rattle.trace_lines.specs.declared.events.ShownBeat.{ShownBeat}
use Rattle.trace_lines.specs.Spelling.{value_text, short_hex, code_text, flags_text}

-- a host is given a word, with this code where it has `response`
abbrev pub get_line : ℕ → List ℕ → Word → Option ℕ → List ℕ
get_line cycle host word code =
    decimal cycle ++ codes " get " ++ host ++ codes " " ++ value_text word ++ code_text code ++ codes "\n"

-- what an agent takes, of the host of this number
abbrev pub taken_text : List ℕ → ℕ → List ℕ → ℕ → ℕ → Word → List ℕ
taken_text what cycle agent host offset enables =
    decimal cycle ++ what ++ agent ++ codes " " ++ decimal host ++ codes " " ++ hex_digits 8 offset ++ codes " "
    ++ value_text enables

-- a beat of a write
abbrev pub write_line : ℕ → List ℕ → ℕ → ℕ → Word → Word → List ℕ
write_line cycle agent host offset enables word =
    taken_text (codes " write ") cycle agent host offset enables ++ codes " " ++ value_text word ++ codes "\n"

-- or a read of so many words
abbrev pub read_line : ℕ → List ℕ → ℕ → ℕ → Word → ℕ → List ℕ
read_line cycle agent host offset enables count =
    taken_text (codes " read ") cycle agent host offset enables ++ codes " " ++ decimal count ++ codes "\n"

-- `empty` counts at the end of a packet alone
abbrev pub told_empty : ShownBeat → ℕ
told_empty beat = if beat.last then beat.empty else 0

-- a beat passes an end
abbrev pub beat_line : List ℕ → ℕ → List ℕ → ShownBeat → List ℕ
beat_line what cycle end beat =
    decimal cycle ++ what ++ end ++ codes " " ++ value_text beat.word ++ codes " " ++ short_hex beat.channel ++ codes " "
    ++ short_hex beat.error ++ codes " " ++ flags_text beat.first beat.last ++ codes " " ++ short_hex (told_empty beat)
    ++ codes "\n"

-- a source sends it
abbrev pub sent_line : ℕ → List ℕ → ShownBeat → List ℕ
sent_line cycle source beat = beat_line (codes " sent ") cycle source beat

-- a sink is given it
abbrev pub got_line : ℕ → List ℕ → ShownBeat → List ℕ
got_line cycle sink beat = beat_line (codes " got ") cycle sink beat

-- a beat never reaches the sink, for its channel
abbrev pub dropped_line : ℕ → List ℕ → List ℕ
dropped_line cycle sink = decimal cycle ++ codes " dropped " ++ sink ++ codes "\n"

-- behind the lines of so many cycles
abbrev pub end_line : ℕ → List ℕ
end_line cycles = codes "end " ++ decimal cycles ++ codes "\n"
