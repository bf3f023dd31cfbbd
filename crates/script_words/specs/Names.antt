-- Places of names, and words that name two parts.
use Rattle.std.specs.Prelude.{ℕ, Bool, ◌&&◌, ◌||◌, ◌==◌, not, List, length, position, Option, Some, None, option_and_then, if◌then◌else◌}
use Rattle.std.specs.List.{list_any, before_first, after_first}
use Rattle.std.specs.Str.{bytes_eq}

-- the place of a name in a list of names
abbrev pub place_of : List (List ℕ) → List ℕ → Option ℕ
place_of names name = position (bytes_eq name) names

abbrev pub is_empty : List ℕ → Bool
is_empty text = length text == 0

abbrev pub stands_in : ℕ → List ℕ → Bool
stands_in mark text = list_any (λ byte. byte == mark) text

-- the parts of a text round a mark that stands in it exactly once
unfoldable pub parts_round : ℕ → List ℕ → Option (List ℕ × List ℕ)
parts_round mark text =
    let rest = after_first (λ byte. byte == mark) text in
    if stands_in mark text && not (stands_in mark rest) then Some (before_first (λ byte. byte == mark) text, rest) else None

abbrev pub both_there : List ℕ × List ℕ → Option (List ℕ × List ℕ)
both_there parts = if is_empty parts.0 || is_empty parts.1 then None else Some parts

-- `instance.interface`: the names of an instance and of one of its interfaces, round the only '.'
unfoldable pub end_named : List ℕ → Option (List ℕ × List ℕ)
end_named text = option_and_then both_there (parts_round 46 text)
