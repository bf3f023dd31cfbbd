-- What sources send and when sinks stall, in a drawn scenario.
use Rattle.std.specs.Prelude.{◌≤◌, ℕ, ◌+◌, ◌*◌, ◌^◌, nat_lt, min, List, [], ◌∷◌, map, if◌then◌else◌}
use Rattle.iface_roles.specs.declared.records.StreamPort.{StreamPort}
use Rattle.iface_roles.specs.Proper.{IsBoundedStream}
use Rattle.link_rules.specs.declared.plan_connections.StreamConnection.{StreamConnection}
use Rattle.scenario_tables.specs.declared.statements.Pattern.{Pattern}
use Rattle.scenario_tables.specs.declared.statements.SourceBeat.{SourceBeat}
use Rattle.scenario_tables.specs.declared.statements.SourceStatement.{SourceStatement}
use Rattle.scenario_tables.specs.declared.statements.SourceStatement.TheVariants.{Beat}
use Rattle.drawn_scenarios.specs.Draws.{Draws, always, ◌>>=◌, draw, repeated, for_each, word_of, pattern}

-- symbols are drawn below 256, or below the bound of their bits
abbrev pub symbol_bound : ℕ → ℕ
symbol_bound bits = min 256 (2 ^ bits)

unfoldable pub channel_of : StreamPort → Draws ℕ
channel_of source = if nat_lt 0 source.channel_bits then draw (source.max_channel + 1) else always 0

-- with packets each beat is one
abbrev pub beat_with : StreamPort → ℕ → ℕ → SourceBeat
beat_with source word channel =
    record { word = word; channel = channel; error = 0; first = source.packets; last = source.packets; empty = 0 }

unfoldable pub source_statement : StreamPort → Draws SourceStatement
source_statement source = do
  word ← word_of source.first_high source.symbol_bits (symbol_bound source.symbol_bits) source.symbols
  channel ← channel_of source
  always (Beat (beat_with source word channel))

unfoldable pub source_script : StreamPort → Draws (List SourceStatement)
source_script source = repeated 32 (source_statement source)

unfoldable pub sink_pattern : Draws (List Pattern)
sink_pattern = do
  stalls ← pattern
  always (stalls ∷ [])

unfoldable pub sink_script : StreamPort → Draws (List Pattern)
sink_script sink = if sink.ready then sink_pattern else always []

-- what the source and the sink of a stream do
unfoldable pub stream_script : StreamConnection → Draws (List SourceStatement × List Pattern)
stream_script link = do
  beats ← source_script link.source
  stalls ← sink_script link.sink
  always (beats, stalls)

-- what the sources and the sinks do
abbrev pub apart : List (List SourceStatement × List Pattern) → List (List SourceStatement) × List (List Pattern)
apart scripts = (map (λ script. script.0) scripts, map (λ script. script.1) scripts)

unfoldable pub stream_scripts : List StreamConnection → Draws (List (List SourceStatement) × List (List Pattern))
stream_scripts links = do
  scripts ← for_each stream_script links
  always (apart scripts)

-- a source of which a beat has room
pub record IsDrawable (source : StreamPort) : Type 0 where
  pub bounded : IsBoundedStream source
  pub short : source.symbols * source.symbol_bits ≤ 128
