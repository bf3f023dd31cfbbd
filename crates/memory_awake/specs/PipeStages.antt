-- The stages of a pipe as a wired system numbers them: boundary 0 is the lowest, stage 0 stands above it.
use Rattle.std.specs.Prelude.{ℕ, suc, ◌-◌}
use Rattle.memory_machines.specs.Lines.{TaggedPort}
use Rattle.memory_machines.specs.Machines.{Stage}
use Rattle.memory_links.specs.Pipes.{PipeSides, tagged_side}

abbrev pub lower_of : ℕ → PipeSides → ℕ → TaggedPort
lower_of stages pipe i = tagged_side pipe (stages - i)

abbrev pub stage_of : ℕ → PipeSides → ℕ → Stage
stage_of stages pipe i = record {
  depth = 2;
  shape = pipe.shape;
  sides = record {
    commands_above = pipe.commands (stages - suc i);
    answers_above = pipe.answers (stages - suc i);
    commands_below = pipe.commands (stages - i);
    answers_below = pipe.answers (stages - i);
  };
  queue = pipe.queue (stages - suc i);
}
