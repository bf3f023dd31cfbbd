-- The stage that passes each beat as it is.
use Rattle.std.specs.Prelude.{◌≡◌, ◌<◌}
use Rattle.stream_machines.specs.Stage.{Shape, PassesAll, pass_shape}

-- any side, the same at both ends, with a test that all its channels pass
pub record IsPassShape (shape : Shape) : Type 0 where
  pub is : shape ≡ pass_shape shape.passes shape.up
  pub some : 0 < shape.up.symbols
  pub passes : PassesAll shape.passes shape.up
