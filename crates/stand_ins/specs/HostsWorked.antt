-- A host of 32-bit words whose addresses count words, and a small script of it.
use Rattle.std.specs.Prelude.{ℕ, ◌==◌, true, false, List, [], ◌∷◌}
use Rattle.iface_roles.specs.declared.records.HostPort.{HostPort}
use Rattle.histories.specs.History.{one_if}
use Rattle.memory_runs.specs.Views.{Levels}
use Rattle.scenario_tables.specs.declared.statements.HostStatement.{HostStatement}
use Rattle.scenario_tables.specs.declared.statements.HostStatement.TheVariants.{Idle, Write, Read}
use Rattle.stand_ins.specs.Steps.{all_steps, shown}
use Rattle.stand_ins.specs.HostsStandIns.{left_before}

abbrev pub word_host : HostPort
word_host = record {
  address_bits = 8;
  byte_units = false;
  word_bytes = 4;
  reads = true;
  writes = true;
  enables = true;
  burst_bits = 3;
  readdatavalid = true;
  waitrequest = true;
  response = false;
  lock = false;
  write_response = false;
  allowance = 0;
  wraps = false;
}

abbrev pub small_script : List HostStatement
small_script = Idle 1 ∷ Write 16 15 (7 ∷ 9 ∷ []) ∷ Read 32 3 2 ∷ []

-- what the host shows in a cycle where `waitrequest` is raised in the second one alone
abbrev pub shown_at : ℕ → Levels
shown_at cycle = shown word_host (left_before (all_steps word_host small_script) (λ c. one_if (c == 1)) cycle)

abbrev pub nothing : Levels
nothing = record { read = 0; write = 0; address = 0; word = 0; enables = 0; count = 0 }

abbrev pub write_of : ℕ → Levels
write_of word = record { read = 0; write = 1; address = 4; word = word; enables = 15; count = 2 }

abbrev pub read_of_two : Levels
read_of_two = record { read = 1; write = 0; address = 8; word = 0; enables = 3; count = 2 }
