-- What a host does by its statements, step by step.
use Rattle.std.specs.Prelude.{ℕ, ◌/◌, Bool, nat_eq, List, [], ◌∷◌, length, map, replicate, flat_map, if◌then◌else◌}
use Rattle.iface_roles.specs.declared.records.HostPort.{HostPort}
use Rattle.histories.specs.History.{one_if}
use Rattle.memory_runs.specs.Views.{Levels}
use Rattle.scenario_tables.specs.declared.statements.HostStatement.{HostStatement}
use Rattle.scenario_tables.specs.declared.statements.HostStatement.TheVariants.{Idle, Write, Read}
use Rattle.scenario_tables.specs.Statements.{all_lanes}
use Rattle.stand_ins.specs.declared.hosts.levels.CommandLevels.{CommandLevels}

-- a cycle in which nothing is presented, or a beat, which stands until it is accepted
pub data Step : Type 0 where
  Rests : Step
  Presents : Levels → Step

-- a byte address as the port counts it
abbrev pub port_address : HostPort → ℕ → ℕ
port_address port address = if port.byte_units then address else address / port.word_bytes

abbrev pub write_beat : HostPort → ℕ → ℕ → ℕ → ℕ → Levels
write_beat port address enables count word = record {
  read = 0;
  write = 1;
  address = port_address port address;
  word = word;
  enables = enables;
  count = count;
}

abbrev pub read_command : HostPort → ℕ → ℕ → ℕ → Levels
read_command port address enables count = record {
  read = 1;
  write = 0;
  address = port_address port address;
  word = 0;
  enables = enables;
  count = count;
}

-- the steps of a statement: a rest for each cycle, a beat for each word that is written, one command for all that are read
abbrev pub steps_of : HostPort → HostStatement → List Step
steps_of port (Idle cycles) = replicate cycles Rests
steps_of port (Write address enables words) = map (λ word. Presents (write_beat port address enables (length words) word)) words
steps_of port (Read address enables count) = Presents (read_command port address enables count) ∷ []

abbrev pub all_steps : HostPort → List HostStatement → List Step
all_steps port script = flat_map (steps_of port) script

-- what stands at the port while nothing is presented: absent byte enables count as all ones, an absent burst count as 1
abbrev pub resting : HostPort → Levels
resting port = record {
  read = 0;
  write = 0;
  address = 0;
  word = 0;
  enables = if port.enables then 0 else all_lanes port.word_bytes;
  count = if nat_eq port.burst_bits 0 then 1 else 0;
}

-- what stands at the port while these steps are left
abbrev pub shown : HostPort → List Step → Levels
shown port [] = resting port
shown port (Rests ∷ later) = resting port
shown port (Presents levels ∷ later) = levels

-- what is left after a cycle: a rest is over with it, a beat where `waitrequest` was low
abbrev pub left_after : List Step → Bool → List Step
left_after [] waits = []
left_after (Rests ∷ later) waits = later
left_after (Presents levels ∷ later) waits = if waits then Presents levels ∷ later else later

-- the levels as numbers
abbrev pub levels_of : CommandLevels → Levels
levels_of levels = record {
  read = one_if levels.read;
  write = one_if levels.write;
  address = levels.address;
  word = levels.word;
  enables = levels.enables;
  count = levels.count;
}
