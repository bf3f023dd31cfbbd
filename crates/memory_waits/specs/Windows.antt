-- How long a command of a host may wait behind any row of links, beside hosts behind any.
use Rattle.std.specs.Prelude.{ℕ, ◌+◌, ◌*◌, Bool, if◌then◌else◌}
use Rattle.std.specs.List.{list_all}
use Rattle.memory_runs.specs.Views.{System}
use Rattle.memory_runs.specs.Awake.{is_alike}
use Rattle.memory_awake.specs.Onward.{round_by}
use Rattle.memory_waits.specs.Neighbours.{fitted_steps, row_steps}
use Rattle.memory_waits.specs.Waits.{waiting_window}
use Rattle.memory_waits.specs.Watched.{waits_for_words}

-- those of its own beats at the agent's words, twice where one of them may be kept behind, and as many again until that one is
-- sent
abbrev pub own_steps : System → ℕ → ℕ → ℕ
own_steps system agent host = 4 * fitted_steps system agent host + 3

-- behind any row of links
abbrev pub row_window : System → ℕ → ℕ → ℕ
row_window system agent host =
    waits_for_words (own_steps system agent host) (round_by (row_steps system agent) system agent host) system agent

-- the plain commands of each joined host reach the agent one for one
abbrev pub are_alike : System → ℕ → Bool
are_alike system agent = list_all (λ host. is_alike (system.host host) (system.agent agent)) (system.joined agent)

-- then all are wired to its arbiter, and none waits for more than a round of the others and what stands in the pipe
abbrev pub host_window : System → ℕ → ℕ → ℕ
host_window system agent host = if are_alike system agent then waiting_window system agent host else row_window system agent host
