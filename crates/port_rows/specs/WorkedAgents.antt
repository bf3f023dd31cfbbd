-- A small agent, for the rows that show what the definitions say.
use Rattle.std.specs.Prelude.{true, false, List, [], ◌∷◌, Some}
use Rattle.av_base.specs.Word.{Word, word}
use Rattle.port_rows.specs.declared.agent_ends.places.AgentLevels.{AgentLevels}
use Rattle.port_rows.specs.declared.agent_ends.places.AgentPlaces.{AgentPlaces}

-- it has waitrequest, readdata, readdatavalid and response in this order
abbrev pub reader : AgentPlaces
reader = record { wait = Some 0; valid = Some 2; word = Some 1; response = Some 3 }

-- it gives 7 with code 2 and doesn't stall
abbrev pub seven_given : AgentLevels
seven_given = record { wait = false; valid = true; word = 7; code = 2 }

-- a row of its four inputs, in which it stalls
abbrev pub reader_row : List Word
reader_row = word 1 1 ∷ word 32 0 ∷ word 1 0 ∷ word 2 0 ∷ []
