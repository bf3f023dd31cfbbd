-- Hosts that can do transactions.
use Rattle.std.specs.Prelude.{◌≡◌, Bool, true, ◌&&◌, ◌||◌, ◌==◌}
use Rattle.iface_roles.specs.declared.records.HostPort.{HostPort}
use Rattle.system_tables.specs.Tables.{SystemTable}
use Rattle.scenario_tables.specs.Scenarios.{IsHostAt}

-- it reads, it writes, and it can leave out lanes of a word that has more than one
abbrev pub can_transfer : HostPort → Bool
can_transfer port = port.reads && (port.writes && (port.word_bytes == 1 || port.enables))

-- host 0 of a system, which can do transactions
pub record IsTransferHost (system : SystemTable) (port : HostPort) : Type 0 where
  pub at : IsHostAt system 0 port
  pub can : can_transfer port ≡ true

-- there is none: the system has no host, or its host 0 can't do them
abbrev pub HasNoTransferHost : SystemTable → Type 0
HasNoTransferHost system = (port : HostPort) → ¬ IsTransferHost system port
