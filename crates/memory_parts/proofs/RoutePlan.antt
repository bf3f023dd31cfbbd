-- What the proofs of the route rest on: the plan of its places, and that a base may be left where it is.
use Rattle.std.specs.Prelude.{ℕ, ◌≡◌, ◌*◌, ◌≤◌}
use Rattle.memory_runs.specs.Views.{System, Shape}
use Rattle.memory_runs.specs.Operations.{Beat, operations_of}
use Rattle.memory_runs.specs.Order.{from_base}
use Rattle.memory_parts.specs.Route.{IsRoutePlan}

abbrev pub BaseIsFree : Type 0
BaseIsFree = (from to : Shape) (span base k : ℕ) (beat : Beat) → base ≡ k * span → base ≤ beat.address → operations_of from to span (from_base base beat) ≡ operations_of from to span beat

pub record RoutePlan (system : System) (host : ℕ) (shape : Shape) : Type 0 where
  pub says : IsRoutePlan system host shape
  pub open says use *
  pub base_is_free : BaseIsFree
