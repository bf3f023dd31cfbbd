-- A small source, for the rows that show what the definitions say.
use Rattle.std.specs.Prelude.{List, [], ◌∷◌, Some, None}
use Rattle.av_base.specs.Word.{Word, word}
use Rattle.stream_runs.specs.View.{Beat}
use Rattle.port_rows.specs.declared.stream_ends.places.SourcePlaces.{SourcePlaces}

-- it has valid, data and endofpacket in this order
abbrev pub talker : SourcePlaces
talker = record { valid = Some 0; word = Some 1; channel = None; error = None; first = None; last = Some 2; empty = None }

-- the last beat of a packet
abbrev pub last_beat : Beat
last_beat = record { word = 90; channel = 0; error = 0; first = 0; last = 1; empty = 0 }

-- a row of its three inputs, in which another beat stood
abbrev pub talker_row : List Word
talker_row = word 1 1 ∷ word 8 65 ∷ word 1 0 ∷ []
