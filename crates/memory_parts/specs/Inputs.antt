-- What the sides of a machine give it, cycle by cycle.
use Rattle.std.specs.Prelude.{ℕ, zero, suc}
use Rattle.memory_runs.specs.Views.{Signals}
use Rattle.memory_machines.specs.Paths.{CommandView}

-- the commands of a path, without its wait
pub record Commands : Type 0 where
  pub signals : Signals
  pub more : ℕ → ℕ
  pub tag : ℕ → ℕ

abbrev pub with_wait : Commands → (ℕ → ℕ) → CommandView
with_wait commands wait = record { signals = commands.signals; more = commands.more; tag = commands.tag; waitrequest = wait }

-- a register behind a signal: 0 at first
abbrev pub one_later : (ℕ → ℕ) → ℕ → ℕ
one_later level zero = 0
one_later level (suc c) = level c
