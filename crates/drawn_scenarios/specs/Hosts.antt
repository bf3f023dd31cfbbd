-- What hosts do in a drawn scenario.
use Rattle.std.specs.Prelude.{◌≤◌, ℕ, ◌+◌, ◌*◌, ◌/◌, Bool, false, ◌&&◌, ◌||◌, ◌==◌, not, nat_lt, min, max, List, [], ◌∷◌, length, filter, Option, Some, None, slice_get, if◌then◌else◌}
use Rattle.iface_roles.specs.declared.records.HostPort.{HostPort}
use Rattle.iface_roles.specs.Proper.{IsBoundedHost, IsBoundedAgent, range_of, span_of}
use Rattle.system_tables.specs.Tables.{SystemTable}
use Rattle.address_map.specs.Footprints.{footprint_bytes}
use Rattle.link_rules.specs.declared.plan_connections.MemoryConnection.{MemoryConnection}
use Rattle.link_rules.specs.PlanConnections.{memory_connections}
use Rattle.scenario_tables.specs.declared.statements.HostStatement.{HostStatement}
use Rattle.scenario_tables.specs.declared.statements.HostStatement.TheVariants.{Idle, Write, Read}
use Rattle.scenario_tables.specs.Statements.{all_lanes}
use Rattle.drawn_scenarios.specs.Draws.{Draws, always, ◌>>=◌, draw, repeated, word_of}

-- among how many words of the agent one is drawn: those of its span, up to 65,536 bytes
abbrev pub words_reached : MemoryConnection → ℕ
words_reached link = max 1 (min (span_of link.agent) 65536 / link.host.word_bytes)

-- a write of one word, all lanes enabled
unfoldable pub write : HostPort → ℕ → Draws HostStatement
write host address = do
  word ← word_of false 8 256 host.word_bytes
  always (Write address (all_lanes host.word_bytes) (word ∷ []))

-- a transfer is a write where the choice is 0 or 1, or the host can't read; and never where it can't write
abbrev pub is_write : HostPort → ℕ → Bool
is_write host choice = host.writes && (nat_lt choice 2 || not host.reads)

unfoldable pub transfer : HostPort → ℕ → ℕ → Draws HostStatement
transfer host choice address =
    if is_write host choice then write host address else always (Read address (all_lanes host.word_bytes) 1)

-- a transfer at a word of the agent of a link; there is no link only where the host has none
unfoldable pub reach : ℕ → Option MemoryConnection → Draws HostStatement
reach choice None = always (Idle 1)
reach choice (Some link) = do
  words ← draw (words_reached link)
  transfer link.host choice (link.base + words * link.host.word_bytes)

unfoldable pub idle : Draws HostStatement
idle = do
  more ← draw 8
  always (Idle (1 + more))

-- a transfer at one of the host's links
unfoldable pub access : List MemoryConnection → ℕ → Draws HostStatement
access links choice = do
  number ← draw (length links)
  reach choice (slice_get links number)

-- a choice of 3 is to idle
unfoldable pub host_statement : List MemoryConnection → Draws HostStatement
host_statement links = do
  choice ← draw 4
  if choice == 3 then idle else access links choice

unfoldable pub host_script : List MemoryConnection → Draws (List HostStatement)
host_script links = repeated 16 (host_statement links)

-- those links that are the host's
abbrev pub links_among : ℕ → List MemoryConnection → List MemoryConnection
links_among host links = filter (λ link. link.host_number == host) links

-- the links of a host, in the order of their connections
abbrev pub links_of : SystemTable → ℕ → List MemoryConnection
links_of system host = links_among host (memory_connections system)

-- the host reaches all that the agent takes in its map
pub record IsReached (link : MemoryConnection) : Type 0 where
  pub host : IsBoundedHost link.host
  pub agent : IsBoundedAgent link.agent
  pub within : link.base + footprint_bytes link.host link.agent ≤ range_of link.host
