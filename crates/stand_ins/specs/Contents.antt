-- An agent as a map of bytes, and the words that it holds.
use Rattle.std.specs.Prelude.{ℕ, zero, suc, ◌+◌, ◌*◌, ◌%◌, List, [], ◌∷◌, flat_map}
use Rattle.memory_runs.specs.Views.{AgentSide, AgentView}
use Rattle.memory_runs.specs.Operations.{Operation, own_operations, memory_after}
use Rattle.memory_runs.specs.Operations.Operation.{Write}
use Rattle.memory_runs.specs.Commands.{Transfer, accepted, agent_accepts}
use Rattle.scenario_tables.specs.declared.statements.AgentStatement.{AgentStatement}
use Rattle.scenario_tables.specs.declared.statements.AgentStatement.TheVariants.{Stall, Latency, Fill, Code}

-- bytes that are written one after another from an offset on
abbrev pub writes_from : ℕ → List ℕ → List Operation
writes_from offset [] = []
writes_from offset (byte ∷ later) = Write offset byte ∷ writes_from (offset + 1) later

abbrev pub fills : AgentStatement → List Operation
fills (Stall pattern) = []
fills (Latency cycles) = []
fills (Fill offset bytes) = writes_from offset bytes
fills (Code offset code) = []

-- the bytes at first: 0 but for those that are filled, a later statement over an earlier one
abbrev pub filled : List AgentStatement → ℕ → ℕ
filled script = memory_after (λ _. 0) (flat_map fills script)

-- the bytes when a cycle begins, by the beats that were taken before
abbrev pub contents_before : AgentSide → List AgentStatement → AgentView → ℕ → ℕ → ℕ
contents_before side script view cycle =
    memory_after (filled script)
    (flat_map (own_operations side.shape side.span)
    (flat_map (λ (taken : Transfer). taken.beats) (accepted side.shape view.signals (agent_accepts side view) cycle)))

-- the number that these bytes write from a place on, the lowest first
abbrev pub number_of : (ℕ → ℕ) → ℕ → ℕ → ℕ
number_of bytes place zero = 0
number_of bytes place (suc more) = bytes place + 256 * number_of bytes (place + 1) more

-- the whole word at a byte address, whatever the enables. Offsets are modulo the span
abbrev pub word_at : AgentSide → (ℕ → ℕ) → ℕ → ℕ
word_at side contents address = number_of (λ lane. contents ((address + lane) % side.span)) 0 side.word_bytes
