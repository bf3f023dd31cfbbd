-- The boundaries of stages in a row, with the tags that go up through them.
use Rattle.std.specs.Prelude.{◌≡◌, ℕ, suc, ◌<◌}
use Rattle.memory_machines.specs.Lines.{TaggedPort}
use Rattle.memory_links.specs.Pipes.{PipeSides, RunsAsPipe, tagged_side}

-- each cycle the tags of answers rise by one boundary, of which 0 is the highest
abbrev pub TagsRise : ℕ → (ℕ → ℕ → ℕ) → Type 0
TagsRise stages tag = (i c : ℕ) → i < stages → tag i (suc c) ≡ tag (suc i) c

-- a pipe from one side to another
pub record HasPipe (stages : ℕ) (up down : TaggedPort) : Type 0 where
  pub pipe : PipeSides
  pub highest : tagged_side pipe 0 ≡ up
  pub lowest : tagged_side pipe stages ≡ down
  pub runs : RunsAsPipe stages pipe
