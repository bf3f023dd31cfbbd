-- What is set in a row of values, place by place.
use Rattle.std.specs.Prelude.{◌≡◌, ◌≢◌, ◌^◌, ◌<◌, ℕ, List, [], ◌∷◌, length, flat_map, slice_set, slice_index_or, Option, Some, None}
use Rattle.av_base.specs.Word.{Word, word}
use Rattle.cycle_sim.specs.Sims.{bits_at}
use Rattle.port_rows.specs.declared.driven.Driven.{Driven}

-- the bits that are set at a place
pub record Level : Type 0 where
  pub place : ℕ
  pub bits : ℕ

-- what is set at a place that may be missing
abbrev pub level_if : Option ℕ → ℕ → List Level
level_if None bits = []
level_if (Some place) bits = record { place = place; bits = bits } ∷ []

-- what is driven, where it has a place
abbrev pub levels_for : List Driven → List Level
levels_for driven = flat_map (λ (one : Driven). level_if one.place one.bits) driven

-- the width at a place of a row
abbrev pub width_in : List Word → ℕ → ℕ
width_in row place = (slice_index_or row place (word 0 0)).width

abbrev pub set_level : List Word → Level → List Word
set_level row level = slice_set row level.place (word (width_in row level.place) level.bits)

-- one after another
abbrev pub set_levels : List Word → List Level → List Word
set_levels row [] = row
set_levels row (level ∷ later) = set_levels (set_level row level) later

-- the level has room at its place
pub record Fits (row : List Word) (level : Level) : Type 0 where
  pub there : level.place < length row
  pub width : level.bits < 2 ^ width_in row level.place

-- and so has each of these
abbrev pub AllFit : List Word → List Level → Type 0
AllFit row [] = Unit {0}
AllFit row (level ∷ later) = Fits row level × AllFit row later

-- each of these stands in a row
abbrev pub AllStand : List Word → List Level → Type 0
AllStand row [] = Unit {0}
AllStand row (level ∷ later) = (bits_at row level.place ≡ level.bits) × AllStand row later

-- a place that none of these sets
abbrev pub IsLeftOut : ℕ → List Level → Type 0
IsLeftOut place [] = Unit {0}
IsLeftOut place (level ∷ later) = (place ≢ level.place) × IsLeftOut place later

-- no place is set twice
abbrev pub AreApart : List Level → Type 0
AreApart [] = Unit {0}
AreApart (level ∷ later) = IsLeftOut level.place later × AreApart later
