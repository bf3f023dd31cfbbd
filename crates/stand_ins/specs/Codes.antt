-- The codes that words are answered with.
use Rattle.std.specs.Prelude.{ℕ, ◌/◌, ◌%◌, Bool, nat_eq, List, [], ◌∷◌, if◌then◌else◌}
use Rattle.memory_runs.specs.Views.{AgentSide}
use Rattle.scenario_tables.specs.declared.statements.AgentStatement.{AgentStatement}
use Rattle.scenario_tables.specs.declared.statements.AgentStatement.TheVariants.{Stall, Latency, Fill, Code}

-- the word at a byte address holds the byte at an offset. Addresses are modulo the span
abbrev pub holds : AgentSide → ℕ → ℕ → Bool
holds side address offset = nat_eq (offset / side.word_bytes) (address % side.span / side.word_bytes)

-- the codes that are stated of bytes of the word at an address, in order
abbrev pub codes_stated : AgentSide → List AgentStatement → ℕ → List ℕ
codes_stated side [] address = []
codes_stated side (Stall pattern ∷ later) address = codes_stated side later address
codes_stated side (Latency cycles ∷ later) address = codes_stated side later address
codes_stated side (Fill offset bytes ∷ later) address = codes_stated side later address
codes_stated side (Code offset code ∷ later) address =
    if holds side address offset then code ∷ codes_stated side later address else codes_stated side later address

-- the last of some numbers, or else another one
abbrev pub last_or : ℕ → List ℕ → ℕ
last_or other [] = other
last_or other (number ∷ later) = last_or number later

-- the code of the word at a byte address: what is stated last of a byte of it, 0 where nothing is
abbrev pub code_at : AgentSide → List AgentStatement → ℕ → ℕ
code_at side script address = last_or 0 (codes_stated side script address)
