-- The agents of a plan.
use Rattle.std.proofs.Common.{◌≡◌, ℕ, slice_get, Some}
use Rattle.system_tables.specs.declared.tables.EndId.{EndId}
use Rattle.system_tables.specs.Tables.{SystemTable}
use Rattle.address_map.specs.Maps.{agents_of}
use Rattle.port_tables.specs.Ends.{IsAnEnd}
use Rattle.port_tables.specs.Lists.{at_among}
use Rattle.port_tables.specs.Ports.{ends_of}
use Rattle.benches.proofs.agents.Outputs.{agent_among}

pub an_end : (system : SystemTable) (number : ℕ) (end : EndId) → slice_get (agents_of system) number ≡ Some end → IsAnEnd system end
an_end system number end at = let there = at_among (ends_of system) end (agent_among system number end at) in (there.place, there.is)
