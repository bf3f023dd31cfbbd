-- Ends of connections, each once.
use Rattle.std.specs.Prelude.{ℕ, Bool, ◌&&◌, ◌++◌, ◌==◌, not, List, [], ◌∷◌, filter, Option, position, if◌then◌else◌}
use Rattle.std.specs.List.{list_any}
use Rattle.system_tables.specs.declared.tables.EndId.{EndId}

abbrev pub is_same_end : EndId → EndId → Bool
is_same_end a b = a.instance == b.instance && a.interface == b.interface

-- ends, each once, in the order in which they come first
abbrev pub each_once : List EndId → List EndId
each_once [] = []
each_once (end ∷ ends) = end ∷ filter (λ other. not (is_same_end end other)) (each_once ends)

-- the place of an end in such a list
abbrev pub place_in : List EndId → EndId → Option ℕ
place_in ends end = position (is_same_end end) ends

-- a list of ends with one more, unless it is there
abbrev pub with_end : List EndId → EndId → List EndId
with_end ends end = if list_any (is_same_end end) ends then ends else ends ++ end ∷ []
