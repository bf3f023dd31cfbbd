-- What a row of links swallows: beats without a lane, each of which stirs the port behind the route.
use Rattle.std.specs.Prelude.{ℕ, ◌<◌, Bool, not, ◌&&◌, IsTrue}
use Rattle.memory_machines.specs.Link.{Port, takes}
use Rattle.memory_links.specs.Drops.{any_lane}
use Rattle.memory_awake.specs.Slack.{stirs}

-- a beat without a lane is taken, and stirs its port: a link may have swallowed it
abbrev pub is_spent : Port → ℕ → Bool
is_spent port c = (takes port c && not (any_lane port.shape (port.commands.enables c))) && stirs port c

-- what stirs a lower port stirs an upper one in the same cycle
abbrev pub StirsAbove : Port → Port → ℕ → Type 0
StirsAbove up down end = (c : ℕ) → c < end → IsTrue (stirs down c) → IsTrue (stirs up c)

-- each beat that may be swallowed below a lower port stirs an upper one
abbrev pub SpentStirs : Port → Port → ℕ → Type 0
SpentStirs up down end = (c : ℕ) → c < end → IsTrue (is_spent down c) → IsTrue (stirs up c)
