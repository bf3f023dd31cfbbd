-- A file is read in one way.
use Rattle.std.proofs.Common.{◌≡◌, ℕ, ◌⊎◌, inl, inr, List, Ok, Err, refl, sym, ap, ◌∙◌}
use Rattle.system_tables.specs.Tables.{SystemTable}
use Rattle.scenario_tables.specs.declared.scenario.Scenario.{Scenario}
use Rattle.scenarios.specs.declared.faults.ScenarioRule.{ScenarioRule}
use Rattle.scenarios.specs.declared.faults.ScenarioFault.TheVariants.{Refused}
use Rattle.scenarios.specs.Files.{FileReading, file_in, IsScenarioOf, IsFaultOf}

by_reading : (reading : FileReading) → ((scenario : Scenario) × (reading ≡ Ok scenario)) ⊎ ((line : ℕ) × (rule : ScenarioRule) × (reading ≡ Err (line, rule)))
by_reading (Ok scenario) = inl (scenario, refl)
by_reading (Err fault) = inr (fault.0, fault.1, refl)

pub one_or_other : (system : SystemTable) (bytes : List ℕ) → ((scenario : Scenario) × IsScenarioOf system bytes scenario) ⊎ ((line : ℕ) × (rule : ScenarioRule) × IsFaultOf system bytes (Refused line rule))
one_or_other system bytes = by_reading (file_in system bytes)

pub not_both : (system : SystemTable) (bytes : List ℕ) (scenario : Scenario) (line : ℕ) (rule : ScenarioRule) → IsScenarioOf system bytes scenario → IsFaultOf system bytes (Refused line rule) → ⊥
not_both system bytes scenario line rule one other = let same = sym one ∙ other in cc

pub one_scenario : (system : SystemTable) (bytes : List ℕ) (one other : Scenario) → IsScenarioOf system bytes one → IsScenarioOf system bytes other → one ≡ other
one_scenario system bytes one other h g = let same = sym h ∙ g in cc

fault_of : FileReading → ℕ × ScenarioRule → ℕ × ScenarioRule
fault_of (Ok scenario) before = before
fault_of (Err fault) before = fault

pub one_fault : (system : SystemTable) (bytes : List ℕ) (line other : ℕ) (rule second : ScenarioRule) → IsFaultOf system bytes (Refused line rule) → IsFaultOf system bytes (Refused other second) → (line ≡ other) × (rule ≡ second)
unfolding fault_of
one_fault system bytes line other rule second h g =
    let same = ap (λ (reading : FileReading). fault_of reading (line, rule)) (sym h ∙ g) in
    (ap (λ (fault : ℕ × ScenarioRule). fault.0) same, ap (λ (fault : ℕ × ScenarioRule). fault.1) same)
