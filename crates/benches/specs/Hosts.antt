-- The hosts of a test bench.
use Rattle.std.specs.Prelude.{◌≡◌, ◌*◌, ℕ, Bool, not, ◌&&◌, List, length, slice_get, Option, Some, None, if◌then◌else◌}
use Rattle.av_base.specs.Word.{Word, word}
use Rattle.histories.specs.History.{is_raised, one_if, only_if}
use Rattle.address_map.specs.Maps.{hosts_of}
use Rattle.system_tables.specs.Tables.{SystemTable}
use Rattle.map_text.specs.Text.{end_name}
use Rattle.cycle_sim.specs.Sims.{SimValue}
use Rattle.memory_runs.specs.Views.{Levels, HostView, levels_at}
use Rattle.port_rows.specs.Levels.{Level}
use Rattle.scenario_tables.specs.declared.statements.HostStatement.{HostStatement}
use Rattle.scenario_tables.specs.Scenarios.{IsHostAt}
use Rattle.stand_ins.specs.Steps.{all_steps, shown, left_after}
use Rattle.stand_ins.specs.HostsStandIns.{HostStandInValue}
use Rattle.port_rows.specs.declared.host_ends.places.HostPlaces.{HostPlaces}
use Rattle.port_rows.specs.declared.host_ends.places.HostPorts.{HostPorts}
use Rattle.port_rows.specs.Hosts.{host_places, host_outputs, host_levels}
use Rattle.trace_lines.specs.declared.counts.Counts.{Counts}
use Rattle.trace_lines.specs.Lines.{get_line}
use Rattle.benches.specs.Outputs.{level_now, IsOutputIf}

-- a host of a bench as contracts see it: the name that a trace tells, where its signals stand, which outputs answer it, and what
-- stands in for it
pub record BenchHostValue : Type 0 where
  pub name : List ℕ
  pub places : HostPlaces
  pub ports : HostPorts
  pub stand_in : HostStandInValue

-- ---- what it is

-- it is the host of this number in a system
pub record IsHostOf (system : SystemTable) (number : ℕ) (host : BenchHostValue) : Type 0 where
  pub at : IsHostAt system number host.stand_in.port
  pub name : host.name ≡ end_name system at.end
  pub places : host.places ≡ host_places system at.end
  pub ports : host.ports ≡ host_outputs system at.end

-- it is, and stands before the first statement of its script
pub record IsFirstHost (system : SystemTable) (number : ℕ) (script : List HostStatement) (host : BenchHostValue) : Type 0 where
  pub of : IsHostOf system number host
  pub left : host.stand_in.left ≡ all_steps host.stand_in.port script

-- these are the hosts of a system, each before its first statement
pub record AreFirstHosts (system : SystemTable) (scripts : List (List HostStatement)) (hosts : List BenchHostValue) : Type 0 where
  pub count : length hosts ≡ length (hosts_of system)
  pub each : (h : ℕ) (host : BenchHostValue) (script : List HostStatement) → slice_get hosts h ≡ Some host
      → slice_get scripts h ≡ Some script → IsFirstHost system h script host

-- ---- one cycle

-- the levels that it shows
abbrev pub shown_by : BenchHostValue → Levels
shown_by host = shown host.stand_in.port host.stand_in.left

-- what they set in a row
abbrev pub sets : BenchHostValue → List Level
sets host = host_levels host.places (shown_by host)

-- the outputs that answer it are there, as wide as its ports
pub record Fits (host : BenchHostValue) (sim : SimValue) : Type 0 where
  pub wait : IsOutputIf sim.netlist 1 host.ports.wait
  pub valid : IsOutputIf sim.netlist 1 host.ports.valid
  pub word : IsOutputIf sim.netlist (8 * host.stand_in.port.word_bytes) host.ports.word
  pub response : IsOutputIf sim.netlist 2 host.ports.response

-- it is given a word
abbrev pub is_given : BenchHostValue → SimValue → Bool
is_given host sim =
    if host.stand_in.port.readdatavalid then is_raised (level_now sim 0 host.ports.valid)
    else is_raised (shown_by host).read && not (is_raised (level_now sim 0 host.ports.wait))

-- the word that it is given
abbrev pub word_given : BenchHostValue → SimValue → Option Word
word_given host sim =
    if is_given host sim then Some (word (8 * host.stand_in.port.word_bytes) (level_now sim 0 host.ports.word)) else None

-- the code beside it, where the host has `response`
abbrev pub code_shown : BenchHostValue → SimValue → Option ℕ
code_shown host sim = if host.stand_in.port.response then Some (level_now sim 0 host.ports.response) else None

-- a write beat of it is accepted
abbrev pub is_write_taken : BenchHostValue → SimValue → Bool
is_write_taken host sim = is_raised (shown_by host).write && not (is_raised (level_now sim 0 host.ports.wait))

-- the line that tells of a word
abbrev pub tells : BenchHostValue → SimValue → ℕ → List (List ℕ)
tells host sim c =
    only_if (is_given host sim)
    (get_line c host.name (word (8 * host.stand_in.port.word_bytes) (level_now sim 0 host.ports.word)) (code_shown host sim))

-- what it adds to the counts
abbrev pub counts : BenchHostValue → SimValue → Counts
counts host sim = record { taken = 0; answered = one_if (is_given host sim); delivered = 0; dropped = 0 }

-- how it stands behind the cycle
abbrev pub behind : BenchHostValue → SimValue → BenchHostValue
behind host sim = record host {
  stand_in =
      record { port = host.stand_in.port; left = left_after host.stand_in.left (is_raised (level_now sim 0 host.ports.wait)) };
}

-- a view of a host shows in a cycle what the bench shows and what the outputs answer
pub record IsSeen (view : HostView) (c : ℕ) (sim : SimValue) (host : BenchHostValue) : Type 0 where
  pub signals : levels_at view.signals c ≡ shown_by host
  pub waitrequest : view.waitrequest c ≡ level_now sim 0 host.ports.wait
  pub readdatavalid : view.readdatavalid c ≡ level_now sim 0 host.ports.valid
  pub readdata : view.readdata c ≡ level_now sim 0 host.ports.word
  pub response : view.response c ≡ level_now sim 0 host.ports.response
