-- How many steps a command of a neighbour comes to behind any row of links.
use Rattle.std.specs.Prelude.{ℕ, ◌+◌, ◌*◌, max}
use Rattle.memory_runs.specs.Views.{System}
use Rattle.memory_runs.specs.Operations.{pieces}
use Rattle.memory_runs.specs.Onward.{longest_of}

-- at an agent's words: for each beat its pieces, and the cycles in which the words of a wide one are given out
abbrev pub fitted_steps : System → ℕ → ℕ → ℕ
fitted_steps system agent host =
    (longest_of system host + 1)
    * (max 1 (pieces (system.host host).shape (system.agent agent).shape)
    + pieces (system.agent agent).shape (system.host host).shape)

-- and where beats without a lane are dropped, a cycle without one for each beat, and two more
abbrev pub row_steps : System → ℕ → ℕ → ℕ
row_steps system agent host = 2 * fitted_steps system agent host + 2
