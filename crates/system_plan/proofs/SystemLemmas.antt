-- Files state one system at most, or a script of theirs is refused once, and never both.
use Rattle.std.proofs.Common.{◌≡◌, ℕ, List, drop, sym, subst, ◌∙◌, inl, inr}
use Rattle.std.proofs.lemmas.Option.{same_Some}
use Rattle.av_base.specs.declared.faults.Place.{Place}
use Rattle.script_words.specs.declared.faults.ScriptRule.{ScriptRule}
use Rattle.system_tables.specs.Tables.{SystemTable}
use Rattle.component_scripts.specs.Tables.{ComponentTable}
use Rattle.tcl_words.specs.Script.{Script}
use Rattle.system_plan.specs.Scripts.{States, IsRefused}
use Rattle.system_plan.specs.Systems.{SaysSystem, RefusesSystem, IsSystemOf, IsSystemRefused, IsScriptRefused}
use Rattle.system_plan.proofs.ComponentLemmas.{components_once, components-unrefused, component_refused_once}
use Rattle.system_plan.proofs.ScriptLemmas.{Readings, stated_once, stated-unrefused, refused_once, refusal_once}

said_once : (components : List ComponentTable) (script : Script) (x y : SystemTable) → SaysSystem components script x → SaysSystem components script y → x ≡ y
said_once components script x y a b = cc

said-unrefused : (components : List ComponentTable) (script : Script) (x : SystemTable) (place : Place) (rule : ScriptRule) → SaysSystem components script x → RefusesSystem components script place rule → ⊥
said-unrefused components script x place rule a b = cc

unsaid_once : (components : List ComponentTable) (script : Script) (p q : Place) (r s : ScriptRule) → RefusesSystem components script p r → RefusesSystem components script q s → (p ≡ q) × (r ≡ s)
unsaid_once components script p q r s a b = refusal_once a b (λ refusal. refusal.place) (λ refusal. refusal.rule)

-- files state one system at most
pub system_once : Readings → (files : List (List ℕ)) (x y : SystemTable) → IsSystemOf files x → IsSystemOf files y → x ≡ y
system_once readings files x y a b =
    let components_are : b.components ≡ a.components = components_once readings (drop 1 files) b.components a.components b.are_components a.are_components in
    let bytes_are : b.bytes ≡ a.bytes = same_Some b.bytes a.bytes (sym b.first ∙ a.first) in
    let by_b : States (SaysSystem a.components) 1 a.bytes y =
    subst (λ l. States (SaysSystem l) 1 a.bytes y) components_are (subst (λ z. States (SaysSystem b.components) 1 z y) bytes_are b.stated) in
    stated_once (SaysSystem a.components) readings (said_once a.components) 1 a.bytes x y a.stated by_b

-- files that state a system aren't refused
pub system-unrefused : Readings → (files : List (List ℕ)) (x : SystemTable) (place : Place) (rule : ScriptRule) → IsSystemOf files x → IsScriptRefused files place rule → ⊥
system-unrefused readings files x place rule a (inl r) = components-unrefused readings (drop 1 files) a.components place rule a.are_components r
system-unrefused readings files x place rule a (inr r) =
    let components_are : r.components ≡ a.components = components_once readings (drop 1 files) r.components a.components r.are_components a.are_components in
    let bytes_are : r.bytes ≡ a.bytes = same_Some r.bytes a.bytes (sym r.first ∙ a.first) in
    let refused : IsRefused (RefusesSystem a.components) 1 a.bytes place rule =
    subst (λ l. IsRefused (RefusesSystem l) 1 a.bytes place rule) components_are (subst (λ z. IsRefused (RefusesSystem r.components) 1 z place rule) bytes_are r.refused) in
    stated-unrefused (SaysSystem a.components) (RefusesSystem a.components) readings (said-unrefused a.components) 1 a.bytes x place rule a.stated refused

system_refused_once : Readings → (files : List (List ℕ)) (p q : Place) (r s : ScriptRule) → IsSystemRefused files p r → IsSystemRefused files q s → (p ≡ q) × (r ≡ s)
system_refused_once readings files p q r s a b =
    let components_are : b.components ≡ a.components = components_once readings (drop 1 files) b.components a.components b.are_components a.are_components in
    let bytes_are : b.bytes ≡ a.bytes = same_Some b.bytes a.bytes (sym b.first ∙ a.first) in
    let there : IsRefused (RefusesSystem a.components) 1 a.bytes q s =
    subst (λ l. IsRefused (RefusesSystem l) 1 a.bytes q s) components_are (subst (λ z. IsRefused (RefusesSystem b.components) 1 z q s) bytes_are b.refused) in
    refused_once (RefusesSystem a.components) readings (unsaid_once a.components) 1 a.bytes p q r s a.refused there

-- a script of the files is refused once
pub script_refused_once : Readings → (files : List (List ℕ)) (p q : Place) (r s : ScriptRule) → IsScriptRefused files p r → IsScriptRefused files q s → (p ≡ q) × (r ≡ s)
script_refused_once readings files p q r s (inl a) (inl b) = component_refused_once readings (drop 1 files) p q r s a b
script_refused_once readings files p q r s (inl a) (inr b) = absurd (components-unrefused readings (drop 1 files) b.components p r b.are_components a)
script_refused_once readings files p q r s (inr a) (inl b) = absurd (components-unrefused readings (drop 1 files) a.components q s a.are_components b)
script_refused_once readings files p q r s (inr a) (inr b) = system_refused_once readings files p q r s a b
