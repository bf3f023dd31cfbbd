-- The statements of sources.
use Rattle.std.specs.Prelude.{◌≡◌, ℕ, ◌*◌, ◌^◌, Bool, true, false, ◌&&◌, ◌||◌, ◌==◌, not, nat_lt, nat_le, List, [], ◌∷◌, length, Option, Some, None, is_some, unwrap_or, if◌then◌else◌}
use Rattle.iface_roles.specs.declared.records.StreamPort.{StreamPort}
use Rattle.scenario_tables.specs.declared.statements.SourceBeat.{SourceBeat}
use Rattle.scenario_tables.specs.declared.statements.SourceStatement.{SourceStatement}
use Rattle.scenario_tables.specs.declared.statements.SourceStatement.TheVariants.{Beat, Gap}
use Rattle.scenario_tables.specs.Statements.{open_behind}
use Rattle.waves.specs.declared.marks.Flags.{Flags}
use Rattle.waves.specs.Words.{word_at}
use Rattle.waves.specs.Spelling.{is_hexadecimal, hexadecimal_in, count_in, flags_in}
use Rattle.scenarios.specs.declared.faults.ScenarioRule.{ScenarioRule}
use Rattle.scenarios.specs.declared.faults.ScenarioRule.TheVariants.{Spelling, Ranges, Beginning, Packets, Limits}
use Rattle.scenarios.specs.declared.interfaces.Named.{Named}
use Rattle.scenarios.specs.declared.so_far.SoFar.{SoFar}
use Rattle.scenarios.specs.Rules.{first_broken}
use Rattle.scenarios.specs.SoFar.{Reading, judged, is_early, script_at, with_source}
use Rattle.scenarios.specs.Hosts.{is_full, rest_rule}

-- ---- `beat SOURCE WORD CHANNEL ERROR FLAGS EMPTY`

abbrev pub spells_beat : List (List ℕ) → Bool
spells_beat words =
    is_hexadecimal (word_at 2 words)
    && (is_hexadecimal (word_at 3 words)
    && (is_hexadecimal (word_at 4 words) && (is_some (flags_in (word_at 5 words)) && is_hexadecimal (word_at 6 words))))

abbrev pub flags_of : List (List ℕ) → Flags
flags_of words = unwrap_or (flags_in (word_at 5 words)) (record { first = false; last = false })

abbrev pub beat_of : List (List ℕ) → SourceBeat
beat_of words = record {
  word = hexadecimal_in (word_at 2 words);
  channel = hexadecimal_in (word_at 3 words);
  error = hexadecimal_in (word_at 4 words);
  first = (flags_of words).first;
  last = (flags_of words).last;
  empty = hexadecimal_in (word_at 6 words);
}

-- the ports have room for what a beat shows; an absent one bears 0
abbrev pub fits_channel : StreamPort → ℕ → Bool
fits_channel port channel = nat_lt channel (2 ^ port.channel_bits) && nat_le channel port.max_channel

abbrev pub fits_empty : StreamPort → ℕ → Bool
fits_empty port empty = nat_lt empty (2 ^ port.empty_bits) && nat_lt empty port.symbols

abbrev pub fits_ports : StreamPort → SourceBeat → Bool
fits_ports port beat =
    nat_lt beat.word (2 ^ (port.symbols * port.symbol_bits))
    && (fits_channel port beat.channel && (nat_lt beat.error (2 ^ port.error_bits) && fits_empty port beat.empty))

-- the channel of the packet that is open behind statements; none where none is open
abbrev pub opened_by : Option ℕ → List SourceStatement → Option ℕ
opened_by opened [] = opened
opened_by opened (Beat beat ∷ later) = opened_by (open_behind beat) later
opened_by opened (Gap cycles ∷ later) = opened_by opened later

-- a beat begins a packet exactly where none is open, and keeps to the open one's channel
abbrev pub goes_on : Option ℕ → SourceBeat → Bool
goes_on None beat = beat.first
goes_on (Some channel) beat = not beat.first && beat.channel == channel

abbrev pub is_marked_well : StreamPort → Option ℕ → SourceBeat → Bool
is_marked_well port opened beat = if port.packets then goes_on opened beat else not beat.first && not beat.last

-- and `empty` counts at the end of a packet alone
abbrev pub keeps_packets : StreamPort → Option ℕ → SourceBeat → Bool
keeps_packets port opened beat = is_marked_well port opened beat && (beat.last || beat.empty == 0)

unfoldable pub beat_rule : StreamPort → Bool → List SourceStatement → List (List ℕ) → Option ScenarioRule
beat_rule port early script words = first_broken
    ((not (spells_beat words), Spelling)
    ∷ (not (fits_ports port (beat_of words)), Ranges)
    ∷ (early, Beginning)
    ∷ (not (keeps_packets port (opened_by None script) (beat_of words)), Packets)
    ∷ (is_full (length script), Limits)
    ∷ [])

unfoldable pub beat_in : SoFar → Named StreamPort → List (List ℕ) → Reading
beat_in so_far source words =
    judged (beat_rule source.port (is_early so_far) (script_at source.number so_far.sources) words)
    (with_source source.number (Beat (beat_of words)) so_far)

-- ---- `gap SOURCE CYCLES`

unfoldable pub gap_in : SoFar → Named StreamPort → List (List ℕ) → Reading
gap_in so_far source words =
    judged (rest_rule (is_early so_far) (length (script_at source.number so_far.sources)) words)
    (with_source source.number (Gap (count_in (word_at 2 words))) so_far)

-- ---- beats whose words their ports have room for

pub record IsShown (port : StreamPort) (words : List (List ℕ)) : Type 0 where
  pub spelled : spells_beat words ≡ true
  pub fits : fits_ports port (beat_of words) ≡ true
