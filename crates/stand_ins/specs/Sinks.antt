-- What stands in for a sink: in which cycles it is ready.
use Rattle.std.specs.Prelude.{◌≡◌, ℕ, ◌%◌, ◌<◌, Bool, true, false, not, List, [], ◌∷◌, length, slice_index_or}
use Rattle.histories.specs.History.{one_if}
use Rattle.stream_runs.specs.View.{EndView}
use Rattle.scenario_tables.specs.declared.statements.Pattern.{Pattern}

-- a pattern stalls in a cycle, over and over
abbrev pub stalls_in : Pattern → ℕ → Bool
stalls_in pattern c = slice_index_or pattern.stalls (c % length pattern.stalls) false

-- a sink is ready by its pattern, and always where it has none
abbrev pub ready_in : List Pattern → ℕ → Bool
ready_in [] c = true
ready_in (pattern ∷ others) c = not (stalls_in pattern c)

-- in the cycles before `end` the sink is ready by its script
abbrev pub IsSinkStandIn : List Pattern → EndView → ℕ → Type 0
IsSinkStandIn script view end = (c : ℕ) → c < end → view.ready c ≡ one_if (ready_in script c)
