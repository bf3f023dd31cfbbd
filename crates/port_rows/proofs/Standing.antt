-- What stands in a row where levels were set.
use Rattle.std.proofs.Common.{◌≡◌, ◌^◌, ◌<◌, ℕ, zero, suc, List, [], ◌∷◌, ◌++◌, slice_set, refl, sym, ap, subst, ◌∙◌}
use Rattle.std.proofs.lemmas.List.{get_or-set_same, get_or-set_other, length-set}
use Rattle.av_base.specs.Word.{Word, word}
use Rattle.cycle_sim.specs.Sims.{bits_at, widths_of}
use Rattle.port_rows.specs.Levels.{Level, width_in, set_level, set_levels, Fits, AllFit, AllStand, AreApart, IsLeftOut}

-- setting keeps the widths
width_stays : (row : List Word) (place bits : ℕ) → widths_of (slice_set row place (word (width_in row place) bits)) ≡ widths_of row
width_stays [] place bits = refl
width_stays (value ∷ later) zero bits = refl
width_stays (value ∷ later) (suc place) bits = ap (λ rest. value.width ∷ rest) (width_stays later place bits)

width_at_stays : (row : List Word) (place bits other : ℕ) → width_in (slice_set row place (word (width_in row place) bits)) other ≡ width_in row other
width_at_stays [] place bits other = refl
width_at_stays (value ∷ later) zero bits zero = refl
width_at_stays (value ∷ later) zero bits (suc other) = refl
width_at_stays (value ∷ later) (suc place) bits zero = refl
width_at_stays (value ∷ later) (suc place) bits (suc other) = width_at_stays later place bits other

-- what fits a row fits it behind a level that is set
fits_on : (row : List Word) (level next : Level) → Fits row next → Fits (set_level row level) next
fits_on row level next h = record {
  there = subst (λ (n : ℕ). next.place < n) (sym (length-set row level.place (word (width_in row level.place) level.bits))) h.there;
  width = subst (λ (n : ℕ). next.bits < 2 ^ n) (sym (width_at_stays row level.place level.bits next.place)) h.width;
}

all_fit_on : (row : List Word) (level : Level) (levels : List Level) → AllFit row levels → AllFit (set_level row level) levels
all_fit_on row level [] h = tt
all_fit_on row level (next ∷ later) h = (fits_on row level next h.0, all_fit_on row level later h.1)

pub widths_stay : (row : List Word) (levels : List Level) → AllFit row levels → widths_of (set_levels row levels) ≡ widths_of row
widths_stay row [] h = refl
widths_stay row (level ∷ later) h = widths_stay (set_level row level) later (all_fit_on row level later h.1) ∙ width_stays row level.place level.bits

pub others_stay : (row : List Word) (levels : List Level) (place : ℕ) → IsLeftOut place levels → bits_at (set_levels row levels) place ≡ bits_at row place
others_stay row [] place h = refl
others_stay row (level ∷ later) place h =
    others_stay (set_level row level) later place h.1
    ∙ ap (λ (value : Word). value.bits) (get_or-set_other row level.place place (word (width_in row level.place) level.bits) (word 0 0) h.0)

set_stands : (row : List Word) (level : Level) → Fits row level → bits_at (set_level row level) level.place ≡ level.bits
set_stands row level h = ap (λ (value : Word). value.bits) (get_or-set_same row level.place (word (width_in row level.place) level.bits) (word 0 0) h.there)

pub each_stands : (row : List Word) (levels : List Level) → AllFit row levels → AreApart levels → AllStand (set_levels row levels) levels
each_stands row [] fits apart = tt
each_stands row (first ∷ later) fits apart = (
  others_stay (set_level row first) later first.place apart.0 ∙ set_stands row first fits.0,
  each_stands (set_level row first) later (all_fit_on row first later fits.1) apart.1,
)

pub front_stands : (row : List Word) (one other : List Level) → AllStand row (one ++ other) → AllStand row one
front_stands row [] other h = tt
front_stands row (first ∷ later) other h = (h.0, front_stands row later other h.1)

pub back_stands : (row : List Word) (one other : List Level) → AllStand row (one ++ other) → AllStand row other
back_stands row [] other h = h
back_stands row (first ∷ later) other h = back_stands row later other h.1

-- the same in two steps
pub set_in_two : (row : List Word) (one other : List Level) → set_levels row (one ++ other) ≡ set_levels (set_levels row one) other
set_in_two row [] other = refl
set_in_two row (first ∷ later) other = set_in_two (set_level row first) later other

pub fits_front : (row : List Word) (one other : List Level) → AllFit row (one ++ other) → AllFit row one
fits_front row [] other h = tt
fits_front row (first ∷ later) other h = (h.0, fits_front row later other h.1)

pub fits_behind : (row : List Word) (one other : List Level) → AllFit row (one ++ other) → AllFit (set_levels row one) other
fits_behind row [] other h = h
fits_behind row (first ∷ later) other h = fits_behind (set_level row first) later other (all_fit_on row first (later ++ other) h.1)
