-- Lines that are written to a sink.
use Rattle.std.specs.Prelude.{◌≡◌, ℕ, ◌<◌, List, flat_map, length, take, Option}
use Rattle.av_files.specs.Outside.{with_more}

-- the bytes of lines, one behind the other
abbrev pub text_of : List (List ℕ) → List ℕ
text_of lines = flat_map (λ (line : List ℕ). line) lines

-- a sink holds a proper part of a text besides, from its beginning on
pub record HoldsPart (held holds : Option (List ℕ)) (text : List ℕ) : Type 0 where
  pub count : ℕ
  pub part : count < length text
  pub written : holds ≡ with_more held (take count text)
