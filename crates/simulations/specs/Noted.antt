-- What a host does in a simulation, as it is noted.
use Rattle.std.specs.Prelude.{◌≡◌, ℕ, zero, suc, ◌+◌, Bool, ◌&&◌, not, List, [], ◌∷◌, ◌++◌, map, Option, Some, None, if◌then◌else◌}
use Rattle.av_base.specs.Word.{Word as Bits}
use Rattle.histories.specs.History.{is_raised}
use Rattle.link_rules.specs.Plans.{PlanTable}
use Rattle.netlist.specs.Netlists.{Netlist}
use Rattle.netlist.specs.Runs.{Run}
use Rattle.memory_runs.specs.Views.{HostView}
use Rattle.memory_runs.specs.Legal.{Word, given}
use Rattle.memory_plans.specs.Systems.{memory_system}
use Rattle.interconnect.specs.Memory.{host_in}
use Rattle.scenario_tables.specs.declared.scenario.Scenario.{Scenario}
use Rattle.simulated_runs.specs.Simulated.{IsSimulated}

-- a cycle's write beat and word, behind those before it
abbrev pub with_beat : ℕ → Bool → ℕ
with_beat beats taken = if taken then beats + 1 else beats

abbrev pub with_word : List ℕ → Option Bits → List ℕ
with_word words None = words
with_word words (Some word) = words ++ word.bits ∷ []

-- a write beat of a host is accepted in a cycle
abbrev pub takes_write : HostView → ℕ → Bool
takes_write view c = is_raised (view.write c) && not (is_raised (view.waitrequest c))

-- how many were accepted before a cycle
abbrev pub write_beats_before : HostView → ℕ → ℕ
write_beats_before view zero = 0
write_beats_before view (suc c) = with_beat (write_beats_before view c) (takes_write view c)

-- in a simulation of a scenario on a module so many write beats of the host of this number are accepted, and these words given to
-- it
pub record IsNoted (plan : PlanTable) (scenario : Scenario) (netlist : Netlist) (host beats : ℕ) (words : List ℕ) : Type 0 where
  pub run : Run
  pub simulated : IsSimulated plan scenario netlist run scenario.cycles
  pub beats_are : beats ≡ write_beats_before (host_in plan netlist run host) scenario.cycles
  pub words_are : words
      ≡ map (λ (w : Word). w.word) (given ((memory_system plan).host host) (host_in plan netlist run host) scenario.cycles)
