-- What a script says: its commands, each a list of words with their places, and the place of its end.
use Rattle.std.specs.Prelude.{ℕ, ◌+◌, Bool, true, false, ◌==◌, List, [], ◌∷◌, length, count_by}
use Rattle.av_base.specs.declared.faults.Place.{Place}
use Rattle.tcl_words.specs.declared.words.Word.{Word}
use Rattle.tcl_words.specs.Bytes.{line_feed}

-- the commands in order, and the place behind the last byte
pub record Script : Type 0 where
  pub commands : List (List Word)
  pub end : Place

abbrev pub placed : List ℕ → Place → Word
placed text place = record { text = text; place = place }

-- the place behind the bytes at the front of a file: lines are counted from 1 by line feeds, bytes from 0
abbrev pub place_after : ℕ → List ℕ → Place
place_after file front = record { file = file; line = 1 + count_by (λ byte. byte == line_feed) front; byte = length front }

abbrev pub has_word : List Word → Bool
has_word [] = false
has_word (word ∷ words) = true
