-- Files are accepted, or a rule or a limit refuses them.
use Rattle.std.proofs.Common.{◌≡◌, ℕ, ◌+◌, ◌-◌, ◌<◌, ◌≤◌, zero, suc, List, [], ◌∷◌, ◌++◌, Bool, true, false, IsTrue, Option, Some, None, Result, Ok, Err, length, take, drop, slice_get, slice_index_or, refl, sym, subst, ◌∙◌, arith, ◌⊎◌, inl, inr, take_all}
use Rattle.std.proofs.lemmas.Option.{same_Some, none-some, slice_get_within}
use Rattle.av_base.specs.declared.faults.Place.{Place}
use Rattle.tcl_words.specs.Reading.{Fault, first_word_fault}
use Rattle.tcl_words.specs.Rules.{number_of}
use Rattle.tcl_words.specs.Script.{Script}
use Rattle.tcl_words.specs.Spelling.{Spells}
use Rattle.script_words.specs.declared.faults.ScriptRule.{ScriptRule}
use Rattle.script_words.specs.declared.faults.ScriptRule.TheVariants.{Words, Command}
use Rattle.script_words.specs.declared.judge.Refusal.{Refusal as ScriptRefusal}
use Rattle.component_scripts.specs.Catalog.{is_refused}
use Rattle.component_scripts.specs.Component.{component_of}
use Rattle.component_scripts.specs.Tables.{ComponentTable}
use Rattle.system_scripts.specs.Clocks.{system_of}
use Rattle.system_tables.specs.declared.tables.Connection.{Connection}
use Rattle.system_tables.specs.Tables.{SystemTable}
use Rattle.address_map.specs.declared.footprint.Footprint.{Footprint}
use Rattle.address_map.specs.Footprints.{footprints}
use Rattle.address_map.specs.MapRules.{KeepsMapRules, tests, breaks, breaks_after, other_of}
use Rattle.address_map.specs.Maps.{hosts_of, agents_of}
use Rattle.link_rules.specs.declared.faults.LinkRule.{LinkRule}
use Rattle.link_rules.specs.declared.faults.LinkRule.TheVariants.{Map}
use Rattle.link_rules.specs.Links.{tests_of, link_rule, limit_tests, too_many, streams_of, KeepsLinkRules}
use Rattle.link_rules.specs.Pairs.{fails, KeepsAll, IsLeastFailing}
use Rattle.system_plan.specs.declared.faults.Refusal.{Refusal}
use Rattle.system_plan.specs.declared.faults.Refusal.TheVariants.{Script as ByScript, Link, Limit}
use Rattle.system_plan.specs.Plans.{FitsMaps, IsMapRefused, AreEndsRefused, IsTooLarge, IsAccepted, IsRefusedBy}
use Rattle.system_plan.specs.Scripts.{States, IsRefused}
use Rattle.system_plan.specs.Systems.{SaysComponent, RefusesComponent, AreComponents, IsComponentRefused, SaysSystem, RefusesSystem, IsSystemOf, IsScriptRefused}
use Rattle.system_plan.proofs.ComponentLemmas.{AreComponents-none, AreComponents-next}
use Rattle.system_plan.proofs.FirstLemmas.{First, all_or_first, either, past_end, kept_or_failing}
use Rattle.system_plan.proofs.FrontLemmas.{slice_get_some}

-- the bytes of each file spell a script or have a first fault
abbrev pub Spelled : Type 0
Spelled = (file : ℕ) (bytes : List ℕ) → ((script : Script) × Spells file bytes script) ⊎ ((fault : Fault) × (first_word_fault file bytes ≡ Some fault))

-- something is refused at some place by some rule
abbrev Somewhere : (Place → ScriptRule → Type 0) → Type 0
Somewhere refuses = (place : Place) × (rule : ScriptRule) × refuses place rule

-- ---- one file

stated_or_refused : {X : Type 0} (says : Script → X → Type 0) (refuses : Script → Place → ScriptRule → Type 0) (file : ℕ) (bytes : List ℕ)
    → ((script : Script) → ((x : X) × says script x) ⊎ Somewhere (refuses script))
    → ((script : Script) × Spells file bytes script) ⊎ ((fault : Fault) × (first_word_fault file bytes ≡ Some fault))
    → ((x : X) × States says file bytes x) ⊎ Somewhere (IsRefused refuses file bytes)
stated_or_refused says refuses file bytes said (inr f) =
    inr (f.0.place, Words (number_of f.0.rule), inl (record { fault = f.0; first = f.1; place_is = refl; rule_is = refl }))
stated_or_refused says refuses file bytes said (inl s) =
    elim (said s.0) [
      | inl x ↦ inl (x.0, record { script = s.0; spelled = s.1; is = x.1 })
      | inr r ↦ inr (r.0, r.1, inr (record { script = s.0; spelled = s.1; is = r.2 }))
    ]

-- ---- components

new_or_taken : (earlier : List ComponentTable) (script : Script) (component : ComponentTable) → component_of script ≡ Ok component → (b : Bool) → is_refused earlier component ≡ b
    → ((x : ComponentTable) × SaysComponent earlier script x) ⊎ Somewhere (RefusesComponent earlier script)
new_or_taken earlier script component is false e = inl (component, record { stated = is; new_type = e })
new_or_taken earlier script component is true e =
    inr (component.place, Command 15, inr (record { component = component; stated = is; taken = e; place_is = refl; rule_is = refl }))

component_by : (earlier : List ComponentTable) (script : Script) (answer : Result ComponentTable ScriptRefusal) → component_of script ≡ answer
    → ((x : ComponentTable) × SaysComponent earlier script x) ⊎ Somewhere (RefusesComponent earlier script)
component_by earlier script (Ok component) e = new_or_taken earlier script component e (is_refused earlier component) refl
component_by earlier script (Err refusal) e = inr (refusal.place, refusal.rule, inl e)

next_component : (files : List (List ℕ)) (n : ℕ) (components : List ComponentTable) (bytes : List ℕ) → AreComponents (take n files) components → slice_get files n ≡ Some bytes
    → ((x : ComponentTable) × States (SaysComponent components) (n + 2) bytes x) ⊎ Somewhere (IsRefused (RefusesComponent components) (n + 2) bytes)
    → ((all : List ComponentTable) × AreComponents (take (suc n) files) all) ⊎ Somewhere (IsComponentRefused files)
next_component files n components bytes are at (inl x) = inl (components ++ x.0 ∷ [], AreComponents-next files n components bytes x.0 are at x.1)
next_component files n components bytes are at (inr r) =
    inr (r.0, r.1, record { number = n; components = components; before = are; bytes = bytes; is = at; refused = r.2 })

components_before : Spelled → (files : List (List ℕ)) (n : ℕ) → n ≤ length files
    → ((all : List ComponentTable) × AreComponents (take n files) all) ⊎ Somewhere (IsComponentRefused files)
components_before spelled files zero within = inl ([], AreComponents-none files)
components_before spelled files (suc n) within =
    let file = slice_get_some files n (omega arith) in
    elim (components_before spelled files n (omega arith)) [
      | inl c ↦ next_component files n c.0 file.0 c.1 file.1
          (stated_or_refused (SaysComponent c.0) (RefusesComponent c.0) (n + 2) file.0 (λ script. component_by c.0 script (component_of script) refl) (spelled (n + 2) file.0))
      | inr r ↦ inr r
    ]

all_components : Spelled → (files : List (List ℕ)) → ((all : List ComponentTable) × AreComponents files all) ⊎ Somewhere (IsComponentRefused files)
all_components spelled files =
    let n = length files in
    let whole : take n files ≡ files = take_all n files (omega arith) in
    elim (components_before spelled files n (omega arith))
    [ inl c ↦ inl (c.0, subst (λ l. AreComponents l c.0) whole c.1) | inr r ↦ inr r ]

-- ---- the system

system_by : (components : List ComponentTable) (script : Script) (answer : Result SystemTable ScriptRefusal) → system_of components script ≡ answer
    → ((x : SystemTable) × SaysSystem components script x) ⊎ Somewhere (RefusesSystem components script)
system_by components script (Ok system) e = inl (system, e)
system_by components script (Err refusal) e = inr (refusal.place, refusal.rule, e)

system_over : (files : List (List ℕ)) (components : List ComponentTable) (bytes : List ℕ) → AreComponents (drop 1 files) components → slice_get files 0 ≡ Some bytes
    → ((x : SystemTable) × States (SaysSystem components) 1 bytes x) ⊎ Somewhere (IsRefused (RefusesSystem components) 1 bytes)
    → ((x : SystemTable) × IsSystemOf files x) ⊎ Somewhere (IsScriptRefused files)
system_over files components bytes are at (inl x) = inl (x.0, record { components = components; are_components = are; bytes = bytes; first = at; stated = x.1 })
system_over files components bytes are at (inr r) =
    inr (r.0, r.1, inr (record { components = components; are_components = are; bytes = bytes; first = at; refused = r.2 }))

stated_system : Spelled → (files : List (List ℕ)) → 1 ≤ length files → ((x : SystemTable) × IsSystemOf files x) ⊎ Somewhere (IsScriptRefused files)
stated_system spelled files some =
    let file = slice_get_some files 0 (omega arith) in
    elim (all_components spelled (drop 1 files)) [
      | inl c ↦ system_over files c.0 file.0 c.1 file.1
          (stated_or_refused (SaysSystem c.0) (RefusesSystem c.0) 1 file.0 (λ script. system_by c.0 script (system_of c.0 script) refl) (spelled 1 file.0))
      | inr r ↦ inr (r.0, r.1, inl r.2)
    ]

-- ---- connections

few_tests : (earlier : List (Option Footprint)) (print : Option Footprint) → length (tests earlier print) ≤ 3
few_tests earlier None = omega arith
few_tests earlier (Some f) = omega arith

breaks_past : (earlier : List (Option Footprint)) (print : Option Footprint) (rule : ℕ) → 4 ≤ rule → breaks_after earlier print rule ≡ false
breaks_past earlier print zero h = refl
breaks_past earlier print (suc k) h = past_end (tests earlier print) k false (omega (arith, few_tests earlier print))

breaks_none : (earlier : List (Option Footprint)) (rule : ℕ) → breaks_after earlier None rule ≡ false
breaks_none earlier zero = refl
breaks_none earlier (suc k) = refl

-- a connection keeps the rules on maps, or this is the first that it breaks
abbrev BreaksMaps : List (Option Footprint) → ℕ → Type 0
BreaksMaps prints k = First (λ rule. breaks prints k rule ≡ false) (λ rule. IsTrue (breaks prints k rule))

fits_or_breaks : (prints : List (Option Footprint)) (k : ℕ) → KeepsMapRules prints k ⊎ BreaksMaps prints k
fits_or_breaks prints k =
    all_or_first (λ rule. breaks prints k rule ≡ false) (λ rule. IsTrue (breaks prints k rule)) (λ rule. either (breaks prints k rule)) 4
    (λ rule past. breaks_past (take k prints) (slice_index_or prints k None) rule past)

fits_past : (prints : List (Option Footprint)) (k : ℕ) → length prints ≤ k → KeepsMapRules prints k
fits_past prints k past rule =
    subst (λ print. breaks_after (take k prints) print rule ≡ false) (sym (past_end prints k None past)) (breaks_none (take k prints) rule)

maps_fit_or_not : (system : SystemTable) → FitsMaps system ⊎ ((connection : ℕ) × (rule : LinkRule) × (other : Option ℕ) × IsMapRefused system connection rule other)
maps_fit_or_not system =
    let prints = footprints system in
    elim (all_or_first (KeepsMapRules prints) (BreaksMaps prints) (fits_or_breaks prints) (length prints) (fits_past prints)) [
      | inl all ↦ inl all
      | inr found ↦ inr (
        found.number,
        Map found.is.number,
        other_of prints found.number found.is.number,
        record {
          number = found.is.number;
          refused = record { refused = record { broken = found.is.is; least = found.is.before; named = refl }; first = found.before };
          rule_is = refl;
        },
      )
    ]

-- a connection breaks a rule on its ends, this one first
record BreaksEnds (system : SystemTable) (k : ℕ) : Type 0 where
  connection : Connection
  at : slice_get system.connections k ≡ Some connection
  number : ℕ
  least : IsLeastFailing (tests_of system connection) number

keeps_or_breaks_at : (system : SystemTable) (k : ℕ) (connection : Connection) → slice_get system.connections k ≡ Some connection
    → KeepsAll (tests_of system connection) ⊎ ((rule : ℕ) × IsLeastFailing (tests_of system connection) rule) → KeepsLinkRules system k ⊎ BreaksEnds system k
keeps_or_breaks_at system k connection at (inl all) =
    inl (λ c e. subst (λ (x : Connection). KeepsAll (tests_of system x)) (same_Some connection c (sym at ∙ e)) all)
keeps_or_breaks_at system k connection at (inr r) = inr (record { connection = connection; at = at; number = r.0; least = r.1 })

keeps_or_breaks_by : (system : SystemTable) (k : ℕ) (found : Option Connection) → slice_get system.connections k ≡ found → KeepsLinkRules system k ⊎ BreaksEnds system k
keeps_or_breaks_by system k None e = inl (λ c at. absurd (none-some c (sym e ∙ at)))
keeps_or_breaks_by system k (Some connection) e = keeps_or_breaks_at system k connection e (kept_or_failing (tests_of system connection))

keeps_past : (system : SystemTable) (k : ℕ) → length system.connections ≤ k → KeepsLinkRules system k
keeps_past system k past c at = let within : k < length system.connections = slice_get_within system.connections k c at in absurd (omega arith)

links_fit_or_not : (system : SystemTable) → FitsMaps system
    → ((k : ℕ) → KeepsLinkRules system k) ⊎ ((connection : ℕ) × (rule : LinkRule) × AreEndsRefused system connection rule None)
links_fit_or_not system maps =
    elim (all_or_first (KeepsLinkRules system) (BreaksEnds system) (λ k. keeps_or_breaks_by system k (slice_get system.connections k) refl) (length system.connections) (keeps_past system)) [
      | inl all ↦ inl all
      | inr found ↦ inr (
        found.number,
        link_rule found.is.connection found.is.number,
        record {
          maps = maps;
          refused = record {
            refused = record { connection = found.is.connection; number = found.is.number; is = found.is.at; least = found.is.least; named = refl };
            first = found.before;
          };
          alone = refl;
        },
      )
    ]

-- ---- limits

count_of : (hosts agents streams which : ℕ) → IsTrue (fails (too_many hosts agents streams) which) → (count : ℕ) × (slice_get (hosts ∷ agents ∷ streams ∷ []) (which - 1) ≡ Some count)
count_of hosts agents streams zero h = cc
count_of hosts agents streams (suc zero) h = (hosts, refl)
count_of hosts agents streams (suc (suc zero)) h = (agents, refl)
count_of hosts agents streams (suc (suc (suc zero))) h = (streams, refl)
count_of hosts agents streams (suc (suc (suc (suc k)))) h = cc

limits_fit_or_not : (system : SystemTable) → FitsMaps system → ((k : ℕ) → KeepsLinkRules system k)
    → KeepsAll (limit_tests system) ⊎ ((which : ℕ) × (count : ℕ) × IsTooLarge system which count)
limits_fit_or_not system maps links =
    elim (kept_or_failing (limit_tests system)) [
      | inl all ↦ inl all
      | inr r ↦
          let counted = count_of (length (hosts_of system)) (length (agents_of system)) (length (streams_of system)) r.0 r.1.broken in
          inr (r.0, counted.0, record { maps = maps; passed = record { kept = links; passed = record { least = r.1; count_is = counted.1 } } })
    ]

-- ---- all of it

abbrev AcceptedOrNot : List (List ℕ) → Type 0
AcceptedOrNot files = IsAccepted files ⊎ ((refusal : Refusal) × IsRefusedBy files refusal)

judged_limits : (files : List (List ℕ)) (system : SystemTable) → IsSystemOf files system → FitsMaps system → ((k : ℕ) → KeepsLinkRules system k) → AcceptedOrNot files
judged_limits files system stated maps links =
    elim (limits_fit_or_not system maps links) [
      | inl all ↦ inl (record { system = system; stated = stated; maps = maps; links = links; limits = all })
      | inr r ↦ inr (Limit r.0 r.1, record { system = system; stated = stated; passed = r.2 })
    ]

judged_links : (files : List (List ℕ)) (system : SystemTable) → IsSystemOf files system → FitsMaps system → AcceptedOrNot files
judged_links files system stated maps =
    elim (links_fit_or_not system maps) [
      | inl all ↦ judged_limits files system stated maps all
      | inr r ↦ inr (Link r.0 r.1 None, record { system = system; stated = stated; refused = inr r.2 })
    ]

judged_system : (files : List (List ℕ)) (system : SystemTable) → IsSystemOf files system → AcceptedOrNot files
judged_system files system stated =
    elim (maps_fit_or_not system) [
      | inl all ↦ judged_links files system stated all
      | inr r ↦ inr (Link r.0 r.1 r.2, record { system = system; stated = stated; refused = inl r.3 })
    ]

-- files are accepted, or a rule or a limit refuses them
pub accepted_or_refused : Spelled → (files : List (List ℕ)) → 1 ≤ length files → IsAccepted files ⊎ ((refusal : Refusal) × IsRefusedBy files refusal)
accepted_or_refused spelled files some =
    elim (stated_system spelled files some) [
      | inl s ↦ judged_system files s.0 s.1
      | inr r ↦ inr (ByScript r.0 r.1, r.2)
    ]
