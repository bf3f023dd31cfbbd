-- A plain simulator that steps, and takes the clock's edge.
use Rattle.std.proofs.Common.{◌≡◌, List, refl, sym, ap, subst, ◌∙◌}
use Rattle.av_base.specs.Word.{Word}
use Rattle.cycle_sim.specs.Sims.{SimValue}
use Rattle.lane_sim.specs.LaneSims.{IsStepWith}
use Rattle.simulations.specs.Benches.{BenchValue}

-- with other inputs that are the same
pub stepped_with : (before after : SimValue) (inputs given : List Word) → inputs ≡ given → IsStepWith before after inputs → IsStepWith before after given
stepped_with before after inputs given same step = subst (IsStepWith before after) same step

-- the row of a bench that is another
pub row_is : (given row : List Word) (bench other : BenchValue) → given ≡ row → bench ≡ other → row ≡ bench.row → given ≡ other.row
row_is given row bench other is same stands = is ∙ stands ∙ ap (λ (b : BenchValue). b.row) same

-- and so with another simulator
pub with_sim : (sim : SimValue) (bench other : BenchValue) → bench ≡ other → record bench { sim = sim } ≡ record other { sim = sim }
with_sim sim bench other same = ap (λ (b : BenchValue). record b { sim = sim }) same
