-- The files of every number are accepted.
use Rattle.std.proofs.Common.{◌≡◌, ℕ, zero, suc, ◌+◌, ◌%◌, ◌^◌, ◌<◌, ◌≤◌, Bool, true, false, ◌&&◌, not, Result, Ok, Err, List, [], ◌∷◌, length, map, take, refl, sym, ap, subst, ◌∙◌, arith}
use Rattle.std.specs.Prelude.{nat_lt, All, slice_get, slice_index_or, Option, Some, None}
use Rattle.std.specs.List.{list_all, range_with_len}
use Rattle.std.proofs.lemmas.Bool.{ltb-false}
use Rattle.std.proofs.lemmas.Bool.Decides.{Decides-ltb}
use Rattle.std.proofs.lemmas.Option.{same_Some, none-some}
use Rattle.script_words.specs.declared.judge.Refusal.{Refusal}
use Rattle.system_tables.specs.Tables.{SystemTable}
use Rattle.component_scripts.specs.Tables.{ComponentTable}
use Rattle.system_scripts.specs.Clocks.{system_of}
use Rattle.address_map.specs.declared.footprint.Footprint.{Footprint}
use Rattle.address_map.specs.Footprints.{footprints}
use Rattle.address_map.specs.MapRules as maps
use Rattle.link_rules.specs.Links.{tests_of, limit_tests, KeepsLinkRules}
use Rattle.link_rules.specs.Pairs.{KeepsAll}
use Rattle.system_plan.specs.Scripts.{States}
use Rattle.system_plan.specs.Systems.{SaysComponent, AreComponents}
use Rattle.system_plan.specs.Plans.{FitsMaps, IsAccepted}
use Rattle.workload_systems.specs.Texts.{text_of}
use Rattle.workload_systems.specs.Components.{component_lines}
use Rattle.workload_systems.specs.Systems.{system_lines, files_of}
use Rattle.workload_systems.proofs.Spelled.{script_of, are_plain, both, spells}
use Rattle.workload_systems.specs.Workloads.{IsWorkload}
use Rattle.workload_systems.proofs.Accepting.{Facts, facts_of, facts, workload_facts, library, fits_maps, fits_ends, fits_limits, fits}
use Rattle.workload_systems.proofs.Computed.{State, state, is_accepted, all_accepted, EachFrom, IsAsTold, all_told}
use Rattle.workload_systems.proofs.Residues.{same_lines, same_facts}

-- ---- tests of all items

passes_at : {X : Type 0} (p : X → Bool) (xs : List X) (k : ℕ) (x : X) → list_all p xs ≡ true → slice_get xs k ≡ Some x → p x ≡ true
passes_at p [] k x e at = absurd (none-some x at)
passes_at p (y ∷ xs) zero x e at = ap p (sym (same_Some y x at)) ∙ (both (p y) (list_all p xs) e).0
passes_at p (y ∷ xs) (suc k) x e at = passes_at p xs k x (both (p y) (list_all p xs) e).1 at

passes_in : (p : ℕ → Bool) (a count k : ℕ) → list_all p (range_with_len a count) ≡ true → k < count → p (a + k) ≡ true
passes_in p a zero k e less = absurd (omega arith)
passes_in p a (suc count) zero e less = let same : a + 0 ≡ a = omega arith in ap p same ∙ (both (p a) (list_all p (range_with_len (a + 1) count)) e).0
passes_in p a (suc count) (suc k) e less =
    let same : a + suc k ≡ a + 1 + k = omega arith in
    ap p same ∙ passes_in p (a + 1) count k (both (p a) (list_all p (range_with_len (a + 1) count)) e).1 (omega arith)

turned : (b : Bool) → not b ≡ true → b ≡ false
turned false e = refl
turned true e = cc

none_fails : (tests : List Bool) → list_all not tests ≡ true → (rule : ℕ) → slice_index_or tests rule false ≡ false
none_fails [] e rule = refl
none_fails (test ∷ tests) e zero = turned test (both (not test) (list_all not tests) e).0
none_fails (test ∷ tests) e (suc rule) = none_fails tests (both (not test) (list_all not tests) e).1 rule

keeps_all : (tests : List Bool) → list_all not tests ≡ true → KeepsAll tests
keeps_all tests e zero = refl
keeps_all tests e (suc rule) = none_fails tests e rule

past : {X : Type 0} (xs : List X) (k : ℕ) (d : X) → length xs ≤ k → slice_index_or xs k d ≡ d
past [] k d more = refl
past (x ∷ xs) zero d more = absurd (omega arith)
past (x ∷ xs) (suc k) d more = past xs k d (omega arith)

-- ---- the rules

maps_at : (prints : List (Option Footprint)) (k : ℕ) → list_all (λ j. list_all not (maps.tests (take j prints) (slice_index_or prints j None))) (range_with_len 0 (length prints)) ≡ true
    → list_all not (maps.tests (take k prints) (slice_index_or prints k None)) ≡ true
maps_at prints k e = by (nat_lt k (length prints)) refl
  where
    by : (b : Bool) → nat_lt k (length prints) ≡ b → list_all not (maps.tests (take k prints) (slice_index_or prints k None)) ≡ true
    by true less =
        let here : 0 + k ≡ k = omega arith in
        let P : ℕ → Type 0 = λ j. list_all not (maps.tests (take j prints) (slice_index_or prints j None)) ≡ true in
        subst P here (passes_in (λ j. list_all not (maps.tests (take j prints) (slice_index_or prints j None))) 0 (length prints) k e ((Decides-ltb k (length prints)).0 less))
    by false none =
        let none_there : slice_index_or prints k None ≡ None = past prints k None (ltb-false k (length prints) none) in
        ap (λ o. list_all not (maps.tests (take k prints) o)) none_there

maps_kept : (system : SystemTable) → fits_maps system ≡ true → FitsMaps system
maps_kept system e k zero = refl
maps_kept system e k (suc rule) = none_fails _ (maps_at (footprints system) k e) rule

ends_kept : (system : SystemTable) → fits_ends system ≡ true → (k : ℕ) → KeepsLinkRules system k
ends_kept system e k connection at = keeps_all (tests_of system connection) (passes_at (λ c. list_all not (tests_of system c)) system.connections k connection e at)

-- a system that passes the tests
record IsFit (stated : Result SystemTable Refusal) : Type 0 where
  pub system : SystemTable
  pub is : stated ≡ Ok system
  pub maps : FitsMaps system
  pub links : (k : ℕ) → KeepsLinkRules system k
  pub limits : KeepsAll (limit_tests system)
  pub told : facts stated ≡ Some (facts_of system)

fit : (stated : Result SystemTable Refusal) → fits stated ≡ true → IsFit stated
fit (Ok system) e =
    let parts = both (fits_maps system) (fits_ends system && fits_limits system) e in
    let later = both (fits_ends system) (fits_limits system) parts.1 in
    record { system = system; is = refl; maps = maps_kept system parts.0; links = ends_kept system later.0; limits = keeps_all (limit_tests system) later.1; told = refl }
fit (Err refusal) e = cc

-- ---- the components

stated_at : (before : ℕ) (scripts : List (List (List (List ℕ)))) (components : List ComponentTable) → State before scripts components → (k : ℕ) (bytes : List ℕ) (component : ComponentTable)
    → slice_get (map text_of scripts) k ≡ Some bytes → slice_get components k ≡ Some component → States (SaysComponent (take (before + k) library)) (before + k + 2) bytes component
stated_at before [] components s k bytes component at component_at = absurd (none-some bytes at)
stated_at before (lines ∷ scripts) [] s k bytes component at component_at = absurd (none-some component component_at)
stated_at before (lines ∷ scripts) (first ∷ components) s zero bytes component at component_at =
    let here : before ≡ before + 0 = omega arith in
    let P : ℕ → Type 0 = λ n. States (SaysComponent (take n library)) (n + 2) bytes component in
    let same_bytes : text_of lines ≡ bytes = same_Some (text_of lines) bytes at in
    let same_component : first ≡ component = same_Some first component component_at in
    let Q : List ℕ → Type 0 = λ b. States (SaysComponent (take before library)) (before + 2) b component in
    let R : ComponentTable → Type 0 = λ c. States (SaysComponent (take before library)) (before + 2) (text_of lines) c in
    let states : States (SaysComponent (take before library)) (before + 2) (text_of lines) first =
    record { script = script_of (before + 2) lines; spelled = spells (before + 2) lines s.1.1.0; is = record { stated = s.0; new_type = s.1.0 } } in
    subst P here (subst Q same_bytes (subst R same_component states))
stated_at before (lines ∷ scripts) (first ∷ components) s (suc k) bytes component at component_at =
    let here : suc before + k ≡ before + suc k = omega arith in
    let P : ℕ → Type 0 = λ n. States (SaysComponent (take n library)) (n + 2) bytes component in
    subst P here (stated_at (suc before) scripts components s.1.1.1.1 k bytes component at component_at)

are_components : AreComponents (map text_of component_lines) library
are_components = record {
  count = refl;
  each = λ k bytes component at component_at.
      let here : 0 + k ≡ k = omega arith in
      let P : ℕ → Type 0 = λ n. States (SaysComponent (take n library)) (n + 2) bytes component in
      subst P here (stated_at 0 component_lines library state k bytes component at component_at);
}

-- ---- the law

residue : (number : ℕ) → is_accepted (number % 24) ≡ true
residue number =
    let small : number % 24 < 24 = omega arith in
    let here : 0 + number % 24 ≡ number % 24 = omega arith in
    ap is_accepted (sym here) ∙ passes_in is_accepted 0 24 (number % 24) all_accepted small

record IsGood (lines : List (List (List ℕ))) : Type 0 where
  pub plain : are_plain lines ≡ true
  pub short : length (text_of lines) < 2 ^ 31
  pub fit : IsFit (system_of library (script_of 1 lines))

good : (number : ℕ) → IsGood (system_lines number)
unfolding is_accepted
good number =
    let lines = system_lines (number % 24) in
    let parts = both (are_plain lines) _ (residue number) in
    let later = both (nat_lt (length (text_of lines)) (2 ^ 31)) (fits (system_of library (script_of 1 lines))) parts.1 in
    subst IsGood (sym (same_lines number)) (record { plain = parts.0; short = (Decides-ltb (length (text_of lines)) (2 ^ 31)).0 later.0; fit = fit (system_of library (script_of 1 lines)) later.1 })

pub accepted : (number : ℕ) → IsAccepted (files_of number)
accepted number =
    let lines = system_lines number in
    let is = good number in
    record {
      system = is.fit.system;
      stated = record {
        components = library;
        are_components = are_components;
        bytes = text_of lines;
        first = refl;
        stated = record { script = script_of 1 lines; spelled = spells 1 lines is.plain; is = is.fit.is };
      };
      maps = is.fit.maps;
      links = is.fit.links;
      limits = is.fit.limits;
    }

told_in : (a count k : ℕ) → EachFrom a count IsAsTold → k < count → IsAsTold (a + k)
told_in a zero k all less = absurd (omega arith)
told_in a (suc count) zero all less = let here : a ≡ a + 0 = omega arith in subst IsAsTold here all.0
told_in a (suc count) (suc k) all less = let here : a + 1 + k ≡ a + suc k = omega arith in subst IsAsTold here (told_in (a + 1) count k all.1 (omega arith))

told : (number : ℕ) → facts (system_of library (script_of 1 (system_lines number))) ≡ Some (workload_facts number)
unfolding IsAsTold
told number =
    let small : number % 24 < 24 = omega arith in
    let here : 0 + number % 24 ≡ number % 24 = omega arith in
    let at : IsAsTold (number % 24) = subst IsAsTold here (told_in 0 24 (number % 24) all_told small) in
    ap (λ lines. facts (system_of library (script_of 1 lines))) (same_lines number) ∙ at ∙ ap Some (sym (same_facts number))

pub is_workload : (number : ℕ) → (is : IsAccepted (files_of number)) × IsWorkload number is.system
unfolding accepted good
is_workload number =
    let system = (accepted number).system in
    let same : facts_of system ≡ workload_facts number = same_Some (facts_of system) (workload_facts number) (sym (good number).fit.told ∙ told number) in (
      accepted number,
      record {
        name = ap (λ (f : Facts). f.0) same;
        links = ap (λ (f : Facts). f.1.0) same;
        streams_are = ap (λ (f : Facts). f.1.1.0) same;
        hosts_are = ap (λ (f : Facts). f.1.1.1.0) same;
        agents_are = ap (λ (f : Facts). f.1.1.1.1) same;
      },
    )

-- no file is too long to be read
short_components : (before : ℕ) (scripts : List (List (List (List ℕ)))) (components : List ComponentTable) → State before scripts components → All (λ bytes. length bytes < 2 ^ 31) (map text_of scripts)
short_components before [] components s k d less = absurd (omega arith)
short_components before (lines ∷ scripts) [] s k d less = absurd s
short_components before (lines ∷ scripts) (first ∷ components) s zero d less = (Decides-ltb (length (text_of lines)) (2 ^ 31)).0 s.1.1.1.0
short_components before (lines ∷ scripts) (first ∷ components) s (suc k) d less = short_components (suc before) scripts components s.1.1.1.1 k d (omega arith)

pub short : (number : ℕ) → All (λ bytes. length bytes < 2 ^ 31) (files_of number)
short number zero d less = (good number).short
short number (suc k) d less = short_components 0 component_lines library state k d (omega arith)
