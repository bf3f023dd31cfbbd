-- A pipeline stage for commands, as one register with its equations.
use Rattle.std.specs.Prelude.{◌≡◌, ℕ, suc, if◌then◌else◌, IsFalse}
use Rattle.histories.specs.History.{is_raised}
use Rattle.memory_runs.specs.Views.{levels_at}
use Rattle.memory_runs.specs.Commands.{shows, is_held}
use Rattle.memory_machines.specs.Link.{Port, takes}
use Rattle.memory_machines.specs.Lines.{TaggedPort}

-- the register shows what it holds. It takes the next beat where it is empty or given on
pub record IsRegister (up down : Port) : Type 0 where
  pub shape : down.shape ≡ up.shape
  pub empty : IsFalse (shows down.commands.signals 0)
  pub levels : (c : ℕ)
      → levels_at down.commands.signals (suc c)
      ≡ (if is_held down.commands.signals (takes down) c then levels_at down.commands.signals c
      else levels_at up.commands.signals c)
  pub tag : (c : ℕ)
      → down.commands.tag (suc c)
      ≡ (if is_held down.commands.signals (takes down) c then down.commands.tag c else up.commands.tag c)
  pub more : (c : ℕ)
      → down.commands.more (suc c)
      ≡ (if is_held down.commands.signals (takes down) c then down.commands.more c else up.commands.more c)
  pub waitrequest : (c : ℕ) → is_raised (up.commands.waitrequest c) ≡ is_held down.commands.signals (takes down) c

-- and registers for the answers and their tags
pub record AreRegisters (up down : TaggedPort) : Type 0 where
  pub commands : IsRegister up.port down.port
  pub empty : IsFalse (is_raised (up.answers.valid 0))
  pub valid : (c : ℕ) → up.answers.valid (suc c) ≡ down.answers.valid c
  pub word : (c : ℕ) → up.answers.word (suc c) ≡ down.answers.word c
  pub code : (c : ℕ) → up.answers.code (suc c) ≡ down.answers.code c
  pub answer_tag : (c : ℕ) → up.answer_tag (suc c) ≡ down.answer_tag c
