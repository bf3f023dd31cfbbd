-- Ends of a byte a beat, a script of two beats with a gap of two cycles between them, and what sources show of it.
use Rattle.std.specs.Prelude.{ℕ, true, false, List, [], ◌∷◌, Option, Some}
use Rattle.iface_roles.specs.declared.records.StreamPort.{StreamPort}
use Rattle.stream_runs.specs.View.{EndView, Beat}
use Rattle.stream_runs.specs.Rows.{signal_of, showing, word}
use Rattle.scenario_tables.specs.declared.statements.SourceStatement.{SourceStatement}
use Rattle.scenario_tables.specs.declared.statements.SourceStatement.TheVariants as states
use Rattle.scenario_tables.specs.declared.statements.Pattern.{Pattern}

abbrev pub byte_port : ℕ → ℕ → StreamPort
byte_port latency allowance = record {
  symbols = 1;
  symbol_bits = 8;
  first_high = true;
  ready = true;
  latency = latency;
  allowance = allowance;
  channel_bits = 0;
  max_channel = 0;
  error_bits = 0;
  packets = false;
  empty_bits = 0;
}

abbrev pub sends : ℕ → SourceStatement
sends value = states.Beat (record { word = value; channel = 0; error = 0; first = false; last = false; empty = 0 })

abbrev pub with_gap : List SourceStatement
with_gap = sends 0x11 ∷ states.Gap 2 ∷ sends 0x22 ∷ []

abbrev pub two_beats : List SourceStatement
two_beats = sends 0x11 ∷ sends 0x22 ∷ []

abbrev pub four_beats : List SourceStatement
four_beats = sends 0x11 ∷ sends 0x22 ∷ sends 0x33 ∷ sends 0x44 ∷ []

abbrev pub one : Option Beat
one = Some (word 0x11)

abbrev pub two : Option Beat
two = Some (word 0x22)

abbrev pub three : Option Beat
three = Some (word 0x33)

abbrev pub four : Option Beat
four = Some (word 0x44)

-- ready in these cycles, and these beats shown
abbrev pub row : List ℕ → List (Option Beat) → EndView
row ready beats = showing (signal_of ready) beats

-- stalls in the second and the third of three cycles
abbrev pub two_of_three : List Pattern
two_of_three = record { stalls = false ∷ true ∷ true ∷ [] } ∷ []
