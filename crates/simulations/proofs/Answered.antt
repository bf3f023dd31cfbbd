-- A row in which the agents' words alone change.
use Rattle.std.proofs.Common.{◌≡◌, ℕ, List, [], ◌∷◌, ◌++◌, set, sym, ap, subst, ◌∙◌, refl}
use Rattle.std.proofs.lemmas.List.{append_assoc, get_or-set_other, set-get_or}
use Rattle.av_base.specs.Word.{Word, word}
use Rattle.cycle_sim.specs.Sims.{bits_at}
use Rattle.port_rows.specs.Levels.{Level, AllFit, AllStand, AreApart, IsLeftOut, set_level, set_levels, width_in}
use Rattle.simulations.proofs.Stepping.{SetInTwo}

-- a level that stands is set in vain
level_still : (row : List Word) (level : Level) → bits_at row level.place ≡ level.bits → set_level row level ≡ row
level_still row level stands =
    ap (λ bits. set row level.place (word (width_in row level.place) bits)) (sym stands) ∙ set-get_or row level.place (word 0 0)

levels_still : (row : List Word) (levels : List Level) → AllStand row levels → set_levels row levels ≡ row
levels_still row [] stand = refl
levels_still row (level ∷ later) stand = ap (λ (r : List Word). set_levels r later) (level_still row level stand.0) ∙ levels_still row later stand.1

left_out_behind : (place : ℕ) (one other : List Level) → IsLeftOut place (one ++ other) → IsLeftOut place other
left_out_behind place [] other out = out
left_out_behind place (level ∷ later) other out = left_out_behind place later other out.1

apart_behind : (one other : List Level) → AreApart (one ++ other) → AreApart other
apart_behind [] other apart = apart
apart_behind (level ∷ later) other apart = apart_behind later other apart.1

-- what stands still does where another place was set
stand_beside_one : (row : List Word) (level : Level) (levels : List Level) → IsLeftOut level.place levels → AllStand row levels → AllStand (set_level row level) levels
stand_beside_one row level [] out stand = tt
stand_beside_one row level (first ∷ later) out stand = (
  ap (λ (x : Word). x.bits) (get_or-set_other row level.place first.place (word (width_in row level.place) level.bits) (word 0 0) (λ e. out.0 (sym e))) ∙ stand.0,
  stand_beside_one row level later out.1 stand.1,
)

stand_beside : (row : List Word) (one other : List Level) → AreApart (one ++ other) → AllStand row other → AllStand (set_levels row one) other
stand_beside row [] other apart stand = stand
stand_beside row (level ∷ later) other apart stand =
    stand_beside (set_level row level) later other apart.1 (stand_beside_one row level other (left_out_behind level.place later other apart.0) stand)

-- what fits fits without what stands before it
pub fits_behind : (row : List Word) (one other : List Level) → AllFit row (one ++ other) → AllFit row other
fits_behind row [] other fits = fits
fits_behind row (level ∷ later) other fits = fits_behind row later other fits.1

-- where the first and the last of three stand, all three are set by the second alone
pub set_in_the_middle : (two : SetInTwo) (row : List Word) (a b c : List Level) → AreApart (a ++ b ++ c) → AllStand row a → AllStand row c → set_levels row (a ++ b ++ c) ≡ set_levels row b
set_in_the_middle two row a b c apart first last =
    let begun : set_levels row (a ++ b) ≡ set_levels row b = two row a b ∙ ap (λ (r : List Word). set_levels r b) (levels_still row a first) in
    let behind : AreApart (b ++ c) = apart_behind a (b ++ c) (subst AreApart (append_assoc a b c) apart) in
    two row (a ++ b) c ∙ ap (λ (r : List Word). set_levels r c) begun ∙ levels_still (set_levels row b) c (stand_beside row b c behind last)
