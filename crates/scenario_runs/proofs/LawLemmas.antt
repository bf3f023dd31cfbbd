-- a scenario is simulated on the system of files or refused, never both, and for one reason
use Rattle.std.proofs.Common.{◌≡◌, ℕ, ◌^◌, ◌⊎◌, inl, inr, Bool, true, false, List, refl, sym, ap, subst, ◌∙◌, arith}
use Rattle.std.specs.Prelude.{nat_lt}
use Rattle.std.proofs.lemmas.Bool.{ltb-false}
use Rattle.std.proofs.lemmas.Bool.Decides.{Decides-ltb}
use Rattle.system_tables.specs.Tables.{SystemTable}
use Rattle.system_plan.specs.declared.faults.Refusal.{Refusal}
use Rattle.system_plan.specs.Plans.{IsAccepted, IsRefusedBy}
use Rattle.scenario_tables.specs.declared.scenario.Scenario.{Scenario}
use Rattle.scenarios.specs.declared.faults.ScenarioRule.{ScenarioRule}
use Rattle.scenarios.specs.declared.faults.ScenarioFault.TheVariants as scenario
use Rattle.scenarios.specs.Files.{IsScenarioOf, IsFaultOf}
use Rattle.scenario_runs.specs.declared.faults.SimulateFault.{SimulateFault}
use Rattle.scenario_runs.specs.declared.faults.SimulateFault.TheVariants as fault
use Rattle.scenario_runs.specs.Simulations.{value_count, CanSimulate, IsBroken, IsSimulateFault}

-- ---- one of them

by_count : (files : List (List ℕ)) (bytes : List ℕ) (accepted : IsAccepted files) (s : Scenario) → IsScenarioOf accepted.system bytes s
    → (b : Bool) → nat_lt (2 ^ 32) (value_count accepted.system s) ≡ b → CanSimulate files bytes ⊎ ((f : SimulateFault) × IsSimulateFault files bytes f)
by_count files bytes accepted s is true e =
    inr (fault.TooManyValues (value_count accepted.system s), record { accepted = accepted; scenario = s; stated = is; count_is = refl; passed = (Decides-ltb (2 ^ 32) (value_count accepted.system s)).0 e })
by_count files bytes accepted s is false e = inl record { accepted = accepted; scenario = s; stated = is; few = ltb-false (2 ^ 32) (value_count accepted.system s) e }

by_scenario : (files : List (List ℕ)) (bytes : List ℕ) (accepted : IsAccepted files)
    → ((s : Scenario) × IsScenarioOf accepted.system bytes s) ⊎ ((line : ℕ) × (rule : ScenarioRule) × IsFaultOf accepted.system bytes (scenario.Refused line rule))
    → CanSimulate files bytes ⊎ ((f : SimulateFault) × IsSimulateFault files bytes f)
by_scenario files bytes accepted (inl s) = by_count files bytes accepted s.0 s.1 (nat_lt (2 ^ 32) (value_count accepted.system s.0)) refl
by_scenario files bytes accepted (inr f) = inr (fault.ScenarioRefused f.0 f.1, record { accepted = accepted; is = f.2 })

pub either : (files : List (List ℕ)) (bytes : List ℕ)
    → ((system : SystemTable) → ((s : Scenario) × IsScenarioOf system bytes s) ⊎ ((line : ℕ) × (rule : ScenarioRule) × IsFaultOf system bytes (scenario.Refused line rule)))
    → IsAccepted files ⊎ ((r : Refusal) × IsRefusedBy files r) → CanSimulate files bytes ⊎ ((f : SimulateFault) × IsSimulateFault files bytes f)
either files bytes read (inl accepted) = by_scenario files bytes accepted (read accepted.system)
either files bytes read (inr r) = inr (fault.SystemRefused r.0, r.1)

-- ---- and no other

-- what is known of the files of a system, and of a scenario
pub record AreJudged (files : List (List ℕ)) (bytes : List ℕ) : Type 0 where
  pub accepted_or_refused : IsAccepted files → (r : Refusal) → IsRefusedBy files r → ⊥
  pub one_system : (one other : IsAccepted files) → one.system ≡ other.system
  pub one_refusal : (r s : Refusal) → IsRefusedBy files r → IsRefusedBy files s → r ≡ s
  pub stated_or_broken : (system : SystemTable) (s : Scenario) (line : ℕ) (rule : ScenarioRule) → IsScenarioOf system bytes s → IsFaultOf system bytes (scenario.Refused line rule) → ⊥
  pub one_scenario : (system : SystemTable) (s t : Scenario) → IsScenarioOf system bytes s → IsScenarioOf system bytes t → s ≡ t
  pub one_fault : (system : SystemTable) (line other : ℕ) (rule second : ScenarioRule) → IsFaultOf system bytes (scenario.Refused line rule) → IsFaultOf system bytes (scenario.Refused other second)
      → (line ≡ other) × (rule ≡ second)

-- a scenario that is stated has no fault
none_broken : (files : List (List ℕ)) (bytes : List ℕ) → AreJudged files bytes → (accepted : IsAccepted files) (s : Scenario) → IsScenarioOf accepted.system bytes s
    → (line : ℕ) (rule : ScenarioRule) → IsBroken files bytes line rule → ⊥
none_broken files bytes law accepted s is line rule broken =
    law.stated_or_broken accepted.system s line rule is
    (subst (λ (system : SystemTable). IsFaultOf system bytes (scenario.Refused line rule)) (law.one_system broken.accepted accepted) broken.is)

-- and is the same for each system of the files, with one count
one_count : (files : List (List ℕ)) (bytes : List ℕ) → AreJudged files bytes → (one other : IsAccepted files) (s t : Scenario) → IsScenarioOf one.system bytes s
    → IsScenarioOf other.system bytes t → value_count one.system s ≡ value_count other.system t
one_count files bytes law one other s t is also =
    let same = law.one_system one other in
    let there : IsScenarioOf other.system bytes s = subst (λ (system : SystemTable). IsScenarioOf system bytes s) same is in
    ap (λ (system : SystemTable). value_count system s) same ∙ ap (value_count other.system) (law.one_scenario other.system s t there also)

pub never : (files : List (List ℕ)) (bytes : List ℕ) (f : SimulateFault) → AreJudged files bytes → CanSimulate files bytes → IsSimulateFault files bytes f → ⊥
never files bytes (fault.SystemRefused r) law can is = law.accepted_or_refused can.accepted r is
never files bytes (fault.ScenarioRefused line rule) law can is = none_broken files bytes law can.accepted can.scenario can.stated line rule is
never files bytes (fault.TooManyValues count) law can long =
    let same = one_count files bytes law can.accepted long.accepted can.scenario long.scenario can.stated long.stated in
    let few = can.few in
    let passed = long.passed in
    let is = long.count_is in
    absurd (omega arith)
never files bytes fault.NoMemory law can is = is

one_break : (files : List (List ℕ)) (bytes : List ℕ) → AreJudged files bytes → (line other : ℕ) (rule second : ScenarioRule) → IsBroken files bytes line rule → IsBroken files bytes other second
    → fault.ScenarioRefused line rule ≡ fault.ScenarioRefused other second
one_break files bytes law line other rule second f g =
    let there : IsFaultOf g.accepted.system bytes (scenario.Refused line rule) =
    subst (λ (system : SystemTable). IsFaultOf system bytes (scenario.Refused line rule)) (law.one_system f.accepted g.accepted) f.is in
    let same = law.one_fault g.accepted.system line other rule second there g.is in
    ap (λ (n : ℕ). fault.ScenarioRefused n rule) same.0 ∙ ap (fault.ScenarioRefused other) same.1

pub one_fault : (files : List (List ℕ)) (bytes : List ℕ) (one other : SimulateFault) → AreJudged files bytes → IsSimulateFault files bytes one → IsSimulateFault files bytes other
    → one ≡ other
one_fault files bytes (fault.SystemRefused r) (fault.SystemRefused s) law f g = ap fault.SystemRefused (law.one_refusal r s f g)
one_fault files bytes (fault.SystemRefused r) (fault.ScenarioRefused line rule) law f g = absurd (law.accepted_or_refused g.accepted r f)
one_fault files bytes (fault.SystemRefused r) (fault.TooManyValues count) law f g = absurd (law.accepted_or_refused g.accepted r f)
one_fault files bytes (fault.ScenarioRefused line rule) (fault.SystemRefused s) law f g = absurd (law.accepted_or_refused f.accepted s g)
one_fault files bytes (fault.ScenarioRefused line rule) (fault.ScenarioRefused other second) law f g = one_break files bytes law line other rule second f g
one_fault files bytes (fault.ScenarioRefused line rule) (fault.TooManyValues count) law f g = absurd (none_broken files bytes law g.accepted g.scenario g.stated line rule f)
one_fault files bytes (fault.TooManyValues count) (fault.SystemRefused s) law f g = absurd (law.accepted_or_refused f.accepted s g)
one_fault files bytes (fault.TooManyValues count) (fault.ScenarioRefused line rule) law f g = absurd (none_broken files bytes law f.accepted f.scenario f.stated line rule g)
one_fault files bytes (fault.TooManyValues count) (fault.TooManyValues number) law f g =
    ap fault.TooManyValues (f.count_is ∙ one_count files bytes law f.accepted g.accepted f.scenario g.scenario f.stated g.stated ∙ sym g.count_is)
one_fault files bytes fault.NoMemory other law f g = absurd f
one_fault files bytes one fault.NoMemory law f g = absurd g
