-- The statements of hosts.
use Rattle.std.specs.Prelude.{◌≡◌, ℕ, ◌*◌, ◌^◌, Bool, true, ◌&&◌, ◌||◌, ◌==◌, not, nat_lt, nat_le, List, [], ◌∷◌, length, drop, map, Option, if◌then◌else◌}
use Rattle.std.specs.List.{list_all}
use Rattle.iface_roles.specs.declared.records.HostPort.{HostPort}
use Rattle.iface_roles.specs.Proper.{range_of}
use Rattle.scenario_tables.specs.declared.statements.HostStatement.{HostStatement}
use Rattle.scenario_tables.specs.declared.statements.HostStatement.TheVariants.{Idle, Write, Read}
use Rattle.scenario_tables.specs.Statements.{longest_of, all_lanes}
use Rattle.waves.specs.Words.{word_at}
use Rattle.waves.specs.Spelling.{is_hexadecimal, hexadecimal_in, is_count, count_in}
use Rattle.scenarios.specs.declared.faults.ScenarioRule.{ScenarioRule}
use Rattle.scenarios.specs.declared.faults.ScenarioRule.TheVariants.{Spelling, Ranges, Beginning, Transfers, Limits}
use Rattle.scenarios.specs.declared.interfaces.Named.{Named}
use Rattle.scenarios.specs.declared.so_far.SoFar.{SoFar}
use Rattle.scenarios.specs.Rules.{first_broken}
use Rattle.scenarios.specs.SoFar.{Reading, judged, is_early, script_at, with_host}

-- a number of cycles to wait
abbrev pub is_rest : ℕ → Bool
is_rest cycles = nat_le 1 cycles && nat_le cycles 65536

-- so many statements leave no room for one more
abbrev pub is_full : ℕ → Bool
is_full count = nat_le 4096 count

abbrev pub fits_address : HostPort → ℕ → Bool
fits_address port address = nat_lt address (range_of port)

-- without byte enables all lanes are enabled
abbrev pub fits_enables : HostPort → ℕ → Bool
fits_enables port enables = nat_le enables (all_lanes port.word_bytes) && (port.enables || enables == all_lanes port.word_bytes)

-- the bits of the words that a host writes; none where it doesn't write
abbrev pub word_bits : HostPort → ℕ
word_bits port = if port.writes then 8 * port.word_bytes else 0

abbrev pub fits_word : HostPort → List ℕ → Bool
fits_word port text = nat_lt (hexadecimal_in text) (2 ^ word_bits port)

abbrev pub fits_command : HostPort → List (List ℕ) → Bool
fits_command port words =
    fits_address port (hexadecimal_in (word_at 2 words)) && fits_enables port (hexadecimal_in (word_at 3 words))

-- so many words by one command
abbrev pub is_burst : HostPort → ℕ → Bool
is_burst port count = nat_le 1 count && nat_le count (longest_of port)

-- ---- `write HOST ADDRESS ENABLES WORD ..`

abbrev pub spells_write : List (List ℕ) → Bool
spells_write words =
    is_hexadecimal (word_at 2 words) && (is_hexadecimal (word_at 3 words) && list_all is_hexadecimal (drop 4 words))

abbrev pub can_write : HostPort → ℕ → Bool
can_write port beats = port.writes && is_burst port beats

-- the least rule that a write breaks, behind so many statements of its host
unfoldable pub write_rule : HostPort → Bool → ℕ → List (List ℕ) → Option ScenarioRule
write_rule port early count words = first_broken
    ((not (spells_write words), Spelling)
    ∷ (not (fits_command port words && list_all (fits_word port) (drop 4 words)), Ranges)
    ∷ (early, Beginning)
    ∷ (not (can_write port (length (drop 4 words))), Transfers)
    ∷ (is_full count, Limits)
    ∷ [])

abbrev pub write_of : List (List ℕ) → HostStatement
write_of words = Write (hexadecimal_in (word_at 2 words)) (hexadecimal_in (word_at 3 words)) (map hexadecimal_in (drop 4 words))

unfoldable pub write_in : SoFar → Named HostPort → List (List ℕ) → Reading
write_in so_far host words =
    judged (write_rule host.port (is_early so_far) (length (script_at host.number so_far.hosts)) words)
    (with_host host.number (write_of words) so_far)

-- ---- `read HOST ADDRESS ENABLES COUNT`

abbrev pub spells_read : List (List ℕ) → Bool
spells_read words = is_hexadecimal (word_at 2 words) && (is_hexadecimal (word_at 3 words) && is_count (word_at 4 words))

abbrev pub can_read : HostPort → ℕ → Bool
can_read port count = port.reads && is_burst port count

unfoldable pub read_rule : HostPort → Bool → ℕ → List (List ℕ) → Option ScenarioRule
read_rule port early count words = first_broken
    ((not (spells_read words), Spelling)
    ∷ (not (fits_command port words), Ranges)
    ∷ (early, Beginning)
    ∷ (not (can_read port (count_in (word_at 4 words))), Transfers)
    ∷ (is_full count, Limits)
    ∷ [])

abbrev pub read_of : List (List ℕ) → HostStatement
read_of words = Read (hexadecimal_in (word_at 2 words)) (hexadecimal_in (word_at 3 words)) (count_in (word_at 4 words))

unfoldable pub read_in : SoFar → Named HostPort → List (List ℕ) → Reading
read_in so_far host words =
    judged (read_rule host.port (is_early so_far) (length (script_at host.number so_far.hosts)) words)
    (with_host host.number (read_of words) so_far)

-- ---- `idle HOST CYCLES`, and `gap SOURCE CYCLES`

unfoldable pub rest_rule : Bool → ℕ → List (List ℕ) → Option ScenarioRule
rest_rule early count words = first_broken
    ((not (is_count (word_at 2 words)), Spelling)
    ∷ (not (is_rest (count_in (word_at 2 words))), Ranges)
    ∷ (early, Beginning)
    ∷ (is_full count, Limits)
    ∷ [])

unfoldable pub idle_in : SoFar → Named HostPort → List (List ℕ) → Reading
idle_in so_far host words =
    judged (rest_rule (is_early so_far) (length (script_at host.number so_far.hosts)) words)
    (with_host host.number (Idle (count_in (word_at 2 words))) so_far)

-- ---- commands that break no rule

pub record CanWrite (port : HostPort) (words : List (List ℕ)) : Type 0 where
  pub spelled : spells_write words ≡ true
  pub command : fits_command port words ≡ true
  pub words_fit : list_all (fits_word port) (drop 4 words) ≡ true
  pub can : can_write port (length (drop 4 words)) ≡ true

pub record CanRead (port : HostPort) (words : List (List ℕ)) : Type 0 where
  pub spelled : spells_read words ≡ true
  pub command : fits_command port words ≡ true
  pub can : can_read port (count_in (word_at 4 words)) ≡ true
