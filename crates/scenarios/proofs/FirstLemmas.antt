-- A fault is that of the first line that has one.
use Rattle.std.proofs.Common.{◌≡◌, ℕ, ◌+◌, ◌≤◌, suc, List, [], ◌∷◌, length, take, slice_get, Option, Some, None, Ok, Err, refl, sym, ap, ◌∙◌, arith}
use Rattle.system_tables.specs.Tables.{SystemTable}
use Rattle.waves.specs.Cuts.{lines}
use Rattle.scenario_tables.specs.declared.scenario.Scenario.{Scenario}
use Rattle.scenarios.specs.declared.faults.ScenarioRule.{ScenarioRule}
use Rattle.scenarios.specs.declared.faults.ScenarioRule.TheVariants.{Beginning}
use Rattle.scenarios.specs.declared.faults.ScenarioFault.TheVariants.{Refused}
use Rattle.scenarios.specs.declared.so_far.SoFar.{SoFar}
use Rattle.scenarios.specs.SoFar.{Reading, blank, scenario_by, scenario_of}
use Rattle.scenarios.specs.Lines.{line_in}
use Rattle.scenarios.specs.Files.{FileReading, at_end, gone_on, lines_in, file_in, IsScenarioOf, IsFaultOf, Leads, IsBrokenBy, IsFirstFault, IsStatedByAll}

number_in : FileReading → ℕ → ℕ
number_in (Ok scenario) other = other
number_in (Err fault) other = fault.0

rule_in : FileReading → ScenarioRule → ScenarioRule
rule_in (Ok scenario) other = other
rule_in (Err fault) other = fault.1

pub record IsFirstIn (system : SystemTable) (so_far : SoFar) (left : List (List ℕ)) (number line : ℕ) (rule : ScenarioRule) : Type 0 where
  pub place : ℕ
  pub before : SoFar
  pub line_is : line ≡ number + place
  pub within : place ≤ length left
  pub led : Leads system so_far (take place left) before
  pub broken : IsBrokenBy system before (slice_get left place) rule

same_number : (number line : ℕ) (one rule : ScenarioRule) → (let fault : FileReading = Err (number, one) in fault) ≡ Err (line, rule) → line ≡ number
unfolding number_in
same_number number line one rule e = sym (ap (λ (reading : FileReading). number_in reading number) e)

same_rule : (number line : ℕ) (one rule : ScenarioRule) → (let fault : FileReading = Err (number, one) in fault) ≡ Err (line, rule) → one ≡ rule
unfolding rule_in
same_rule number line one rule e = ap (λ (reading : FileReading). rule_in reading one) e

at_end_first : (system : SystemTable) (so_far : SoFar) (cycles : Option ℕ) (number line : ℕ) (rule : ScenarioRule) → so_far.cycles ≡ cycles → at_end number (scenario_by so_far cycles) ≡ Err (line, rule) → IsFirstIn system so_far [] number line rule
at_end_first system so_far (Some cycles) number line rule is e = cc
at_end_first system so_far None number line rule is e =
    let same = same_number number line Beginning rule e in
    record { place = 0; before = so_far; line_is = omega arith; within = omega arith; led = refl; broken = (is, sym (same_rule number line Beginning rule e)) }

line_first : (system : SystemTable) (so_far : SoFar) (text : List ℕ) (others : List (List ℕ)) (reading : Reading) (number line : ℕ) (rule : ScenarioRule) → line_in system so_far text ≡ reading
    → ((next : SoFar) → lines_in system (number + 1) next others ≡ Err (line, rule) → IsFirstIn system next others (number + 1) line rule)
    → gone_on number reading (λ (next : SoFar). lines_in system (number + 1) next others) ≡ Err (line, rule) → IsFirstIn system so_far (text ∷ others) number line rule
line_first system so_far text others (Ok next) number line rule r later e =
    let first = later next e in
    let same = first.line_is in
    let within = first.within in
    record { place = suc first.place; before = first.before; line_is = omega arith; within = omega arith; led = (next, r, first.led); broken = first.broken }
line_first system so_far text others (Err one) number line rule r later e =
    let same = same_number number line one rule e in
    record { place = 0; before = so_far; line_is = omega arith; within = omega arith; led = refl; broken = r ∙ ap Err (same_rule number line one rule e) }

lines_first : (system : SystemTable) (number : ℕ) (so_far : SoFar) (left : List (List ℕ)) (line : ℕ) (rule : ScenarioRule) → lines_in system number so_far left ≡ Err (line, rule) → IsFirstIn system so_far left number line rule
lines_first system number so_far [] line rule e = at_end_first system so_far so_far.cycles number line rule refl e
lines_first system number so_far (text ∷ others) line rule e =
    line_first system so_far text others (line_in system so_far text) number line rule refl (λ next same. lines_first system (number + 1) next others line rule same) e

pub first_fault : (system : SystemTable) (bytes : List ℕ) (line : ℕ) (rule : ScenarioRule) → IsFaultOf system bytes (Refused line rule) → IsFirstFault system bytes line rule
unfolding file_in
first_fault system bytes line rule e =
    let first = lines_first system 1 (blank system) (lines bytes) line rule e in
    let same = first.line_is in
    record { place = first.place; before = first.before; number_is = omega arith; within = first.within; led = first.led; broken = first.broken }

-- ---- and a scenario is what all lines state

abbrev IsStatedIn : SystemTable → SoFar → List (List ℕ) → Scenario → Type 0
IsStatedIn system so_far left scenario = (after : SoFar) × Leads system so_far left after × (scenario_of after ≡ Some scenario)

at_end_stated : (system : SystemTable) (so_far : SoFar) (o : Option Scenario) (number : ℕ) (scenario : Scenario) → scenario_of so_far ≡ o → at_end number o ≡ Ok scenario → IsStatedIn system so_far [] scenario
at_end_stated system so_far None number scenario is e = cc
at_end_stated system so_far (Some stated) number scenario is e = let same : stated ≡ scenario = cc in (so_far, refl, is ∙ ap Some same)

line_stated : (system : SystemTable) (so_far : SoFar) (text : List ℕ) (others : List (List ℕ)) (reading : Reading) (number : ℕ) (scenario : Scenario) → line_in system so_far text ≡ reading
    → ((next : SoFar) → lines_in system (number + 1) next others ≡ Ok scenario → IsStatedIn system next others scenario)
    → gone_on number reading (λ (next : SoFar). lines_in system (number + 1) next others) ≡ Ok scenario → IsStatedIn system so_far (text ∷ others) scenario
line_stated system so_far text others (Ok next) number scenario r later e = let rest = later next e in (rest.0, (next, r, rest.1), rest.2)
line_stated system so_far text others (Err one) number scenario r later e = cc

lines_stated : (system : SystemTable) (number : ℕ) (so_far : SoFar) (left : List (List ℕ)) (scenario : Scenario) → lines_in system number so_far left ≡ Ok scenario → IsStatedIn system so_far left scenario
lines_stated system number so_far [] scenario e = at_end_stated system so_far (scenario_of so_far) number scenario refl e
lines_stated system number so_far (text ∷ others) scenario e =
    line_stated system so_far text others (line_in system so_far text) number scenario refl (λ next same. lines_stated system (number + 1) next others scenario same) e

pub stated_by_all : (system : SystemTable) (bytes : List ℕ) (scenario : Scenario) → IsScenarioOf system bytes scenario → IsStatedByAll system bytes scenario
unfolding file_in
stated_by_all system bytes scenario e =
    let all = lines_stated system 1 (blank system) (lines bytes) scenario e in
    record { after = all.0; led = all.1; is = all.2 }
