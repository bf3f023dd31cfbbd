-- A file states one thing at most, or is refused once, and never both.
use Rattle.std.proofs.Common.{◌≡◌, ℕ, List, None, Result, Err, sym, ap, subst, ◌∙◌, inl, inr}
use Rattle.std.proofs.lemmas.Option.{same_Some, none-some}
use Rattle.av_base.specs.declared.faults.Place.{Place}
use Rattle.script_words.specs.declared.faults.ScriptRule.{ScriptRule}
use Rattle.script_words.specs.declared.faults.ScriptRule.TheVariants.{Words}
use Rattle.tcl_words.specs.Reading.{Fault, first_word_fault}
use Rattle.tcl_words.specs.Rules.{number_of}
use Rattle.tcl_words.specs.Script.{Script}
use Rattle.tcl_words.specs.Spelling.{Spells}
use Rattle.system_plan.specs.declared.faults.Refusal.{Refusal}
use Rattle.system_plan.specs.declared.faults.Refusal.TheVariants.{Script as InScript, Link, Limit, NoMemory}
use Rattle.system_plan.specs.Plans.{IsScriptCause}
use Rattle.system_plan.specs.Scripts.{States, IsMisspelled, IsRefused}

-- bytes spell one script at most, and none where they have a fault
pub record Readings : Type 0 where
  pub one : (file : ℕ) (bytes : List ℕ) (one other : Script) → Spells file bytes one → Spells file bytes other → one ≡ other
  pub clean : (file : ℕ) (bytes : List ℕ) (script : Script) → Spells file bytes script → first_word_fault file bytes ≡ None

pub stated_once : {X : Type 0} (says : Script → X → Type 0) → Readings → ((script : Script) (x y : X) → says script x → says script y → x ≡ y)
    → (file : ℕ) (bytes : List ℕ) (x y : X) → States says file bytes x → States says file bytes y → x ≡ y
stated_once says readings once file bytes x y a b =
    once a.script x y a.is (subst (λ script. says script y) (readings.one file bytes b.script a.script b.spelled a.spelled) b.is)

misspelled-unspelled : Readings → (file : ℕ) (bytes : List ℕ) (script : Script) (place : Place) (rule : ScriptRule) → Spells file bytes script → IsMisspelled file bytes place rule → ⊥
misspelled-unspelled readings file bytes script place rule spelled m = none-some m.fault (sym (readings.clean file bytes script spelled) ∙ m.first)

pub stated-unrefused : {X : Type 0} (says : Script → X → Type 0) (refuses : Script → Place → ScriptRule → Type 0) → Readings
    → ((script : Script) (x : X) (place : Place) (rule : ScriptRule) → says script x → refuses script place rule → ⊥)
    → (file : ℕ) (bytes : List ℕ) (x : X) (place : Place) (rule : ScriptRule) → States says file bytes x → IsRefused refuses file bytes place rule → ⊥
stated-unrefused says refuses readings never file bytes x place rule a (inl m) = misspelled-unspelled readings file bytes a.script place rule a.spelled m
stated-unrefused says refuses readings never file bytes x place rule a (inr m) =
    never a.script x place rule a.is (subst (λ script. refuses script place rule) (readings.one file bytes m.script a.script m.spelled a.spelled) m.is)

misspelled_once : (file : ℕ) (bytes : List ℕ) (p q : Place) (r s : ScriptRule) → IsMisspelled file bytes p r → IsMisspelled file bytes q s → (p ≡ q) × (r ≡ s)
misspelled_once file bytes p q r s a b =
    let same : a.fault ≡ b.fault = same_Some a.fault b.fault (sym a.first ∙ b.first) in
    (a.place_is ∙ ap (λ (f : Fault). f.place) same ∙ sym b.place_is, a.rule_is ∙ ap (λ (f : Fault). Words (number_of f.rule)) same ∙ sym b.rule_is)

pub refused_once : (refuses : Script → Place → ScriptRule → Type 0) → Readings
    → ((script : Script) (p q : Place) (r s : ScriptRule) → refuses script p r → refuses script q s → (p ≡ q) × (r ≡ s))
    → (file : ℕ) (bytes : List ℕ) (p q : Place) (r s : ScriptRule) → IsRefused refuses file bytes p r → IsRefused refuses file bytes q s → (p ≡ q) × (r ≡ s)
refused_once refuses readings once file bytes p q r s (inl a) (inl b) = misspelled_once file bytes p q r s a b
refused_once refuses readings once file bytes p q r s (inl a) (inr b) = absurd (misspelled-unspelled readings file bytes b.script p r b.spelled a)
refused_once refuses readings once file bytes p q r s (inr a) (inl b) = absurd (misspelled-unspelled readings file bytes a.script q s a.spelled b)
refused_once refuses readings once file bytes p q r s (inr a) (inr b) =
    once a.script p q r s a.is (subst (λ script. refuses script q s) (readings.one file bytes b.script a.script b.spelled a.spelled) b.is)

-- an answer has one refusal at most
pub refusal_once : {X R A B : Type 0} {answer : Result X R} {x y : R} → answer ≡ Err x → answer ≡ Err y → (f : R → A) (g : R → B) → (f x ≡ f y) × (g x ≡ g y)
refusal_once {answer} {x} {y} at_x at_y f g = let same : x ≡ y = cc in (ap f same, ap g same)

-- where more is refused, what is a cause stays one
pub IsScriptCause-weaker : (P Q : Place → ScriptRule → Type 0) → ((place : Place) (rule : ScriptRule) → P place rule → Q place rule)
    → (answer : Refusal) → IsScriptCause P answer → IsScriptCause Q answer
IsScriptCause-weaker P Q more (InScript place rule) cause = more place rule cause
IsScriptCause-weaker P Q more (Link connection rule other) cause = absurd cause
IsScriptCause-weaker P Q more (Limit which count) cause = absurd cause
IsScriptCause-weaker P Q more NoMemory cause = tt
