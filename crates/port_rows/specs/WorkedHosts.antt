-- A small host, for the rows that show what the definitions say.
use Rattle.std.specs.Prelude.{List, [], ◌∷◌, Some, None}
use Rattle.av_base.specs.Word.{Word, word}
use Rattle.memory_runs.specs.Views.{Levels}
use Rattle.port_rows.specs.declared.host_ends.places.HostPlaces.{HostPlaces}

-- it writes alone, and has address, write and writedata in this order
abbrev pub writer : HostPlaces
writer = record { address = Some 0; read = None; write = Some 1; word = Some 2; enables = None; count = None }

-- it writes 7 at address 4
abbrev pub seven_at_four : Levels
seven_at_four = record { read = 0; write = 1; address = 4; word = 7; enables = 15; count = 1 }

-- a row of its three inputs
abbrev pub writer_row : List Word
writer_row = word 8 0 ∷ word 1 0 ∷ word 32 0 ∷ []
