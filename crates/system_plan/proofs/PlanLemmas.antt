-- Files are accepted, or refused once, and never both.
use Rattle.std.proofs.Common.{◌≡◌, ℕ, ◌-◌, ◌<◌, List, [], ◌∷◌, Bool, false, Option, IsTrue, slice_get, length, refl, sym, ap, subst, ◌∙◌, ◌⊎◌, inl, inr}
use Rattle.std.proofs.lemmas.Bool.{false≢true}
use Rattle.std.proofs.lemmas.Option.{same_Some}
use Rattle.av_base.specs.declared.faults.Place.{Place}
use Rattle.script_words.specs.declared.faults.ScriptRule.{ScriptRule}
use Rattle.system_tables.specs.declared.tables.Connection.{Connection}
use Rattle.system_tables.specs.Tables.{SystemTable}
use Rattle.address_map.specs.declared.footprint.Footprint.{Footprint}
use Rattle.address_map.specs.Footprints.{footprints}
use Rattle.address_map.specs.MapRules.{breaks, other_of, IsFirstRefused as IsFirstInMaps}
use Rattle.address_map.specs.Maps.{hosts_of, agents_of}
use Rattle.link_rules.specs.declared.faults.LinkRule.{LinkRule}
use Rattle.link_rules.specs.declared.faults.LinkRule.TheVariants.{Map}
use Rattle.link_rules.specs.Links.{tests_of, link_rule, limit_tests, too_many, streams_of, KeepsLinkRules, IsPassed, IsFirstRefused as IsFirstOfEnds}
use Rattle.link_rules.specs.Pairs.{fails, KeepsAll, IsLeastFailing}
use Rattle.link_rules.specs.Plans.{PlanTable, IsPlan}
use Rattle.system_plan.specs.declared.faults.Refusal.{Refusal}
use Rattle.system_plan.specs.declared.faults.Refusal.TheVariants.{Script, Link, Limit, NoMemory}
use Rattle.system_plan.specs.Plans.{FitsMaps, IsMapRefused, IsConnectionRefused, IsTooLarge, IsLinkRefused, IsLimitPassed, IsPlanned, IsAccepted, IsRefusedBy, IsSystemCause, IsCause}
use Rattle.system_plan.specs.Systems.{IsSystemOf, IsScriptRefused}
use Rattle.system_plan.proofs.FrontLemmas.{same_number}
use Rattle.system_plan.proofs.ScriptLemmas.{Readings}
use Rattle.system_plan.proofs.SystemLemmas.{system_once, system-unrefused, script_refused_once}

-- the least number that passes a test is one
least_once : (test : ℕ → Bool) (a b : ℕ) → IsTrue (test a) → ((k : ℕ) → k < a → test k ≡ false) → IsTrue (test b) → ((k : ℕ) → k < b → test k ≡ false) → a ≡ b
least_once test a b at_a before_a at_b before_b =
    same_number a b (λ less. false≢true (sym (before_b a less) ∙ at_a)) (λ less. false≢true (sym (before_a b less) ∙ at_b))

-- the first connection that a rule on maps refuses
record SameInMaps (a b n m : ℕ) (o p : Option ℕ) : Type 0 where
  connection : a ≡ b
  number : n ≡ m
  other : o ≡ p

same_in_maps : (prints : List (Option Footprint)) (a b n m : ℕ) (o p : Option ℕ) → IsFirstInMaps prints a n o → IsFirstInMaps prints b m p → SameInMaps a b n m o p
same_in_maps prints a b n m o p x y =
    let connection : a ≡ b = same_number a b (λ less. false≢true (sym (y.first a less n) ∙ x.refused.broken)) (λ less. false≢true (sym (x.first b less m) ∙ y.refused.broken)) in
    let broken : IsTrue (breaks prints a m) = subst (λ k. IsTrue (breaks prints k m)) (sym connection) y.refused.broken in
    let least : (k : ℕ) → k < m → breaks prints a k ≡ false = λ k less. subst (λ c. breaks prints c k ≡ false) (sym connection) (y.refused.least k less) in
    let number : n ≡ m = least_once (breaks prints a) n m x.refused.broken x.refused.least broken least in
    let named : other_of prints a n ≡ other_of prints b m = ap (λ k. other_of prints k n) connection ∙ ap (other_of prints b) number in
    record { connection = connection; number = number; other = x.refused.named ∙ named ∙ sym y.refused.named }

fits-unrefused : (system : SystemTable) (a : ℕ) (r : LinkRule) (o : Option ℕ) → FitsMaps system → IsMapRefused system a r o → ⊥
fits-unrefused system a r o fits x = false≢true (sym (fits a x.number) ∙ x.refused.refused.broken)

keeps-unbroken : (system : SystemTable) (a : ℕ) (r : LinkRule) → KeepsLinkRules system a → (x : IsFirstOfEnds system a r) → ⊥
keeps-unbroken system a r keeps x = false≢true (sym (keeps x.refused.connection x.refused.is x.refused.number) ∙ x.refused.least.broken)

same_rule : (system : SystemTable) (a : ℕ) (r s : LinkRule) → IsFirstOfEnds system a r → IsFirstOfEnds system a s → r ≡ s
same_rule system a r s x y =
    let same : x.refused.connection ≡ y.refused.connection = same_Some x.refused.connection y.refused.connection (sym x.refused.is ∙ y.refused.is) in
    let least : IsLeastFailing (tests_of system x.refused.connection) y.refused.number =
    subst (λ (c : Connection). IsLeastFailing (tests_of system c) y.refused.number) (sym same) y.refused.least in
    let number : x.refused.number ≡ y.refused.number =
    least_once (fails (tests_of system x.refused.connection)) x.refused.number y.refused.number x.refused.least.broken x.refused.least.least least.broken least.least in
    x.refused.named ∙ ap (λ (c : Connection). link_rule c x.refused.number) same ∙ ap (link_rule y.refused.connection) number ∙ sym y.refused.named

-- the first connection that a rule on ends refuses
ends_once : (system : SystemTable) (a b : ℕ) (r s : LinkRule) → IsFirstOfEnds system a r → IsFirstOfEnds system b s → (a ≡ b) × (r ≡ s)
ends_once system a b r s x y =
    let connection : a ≡ b = same_number a b (λ less. keeps-unbroken system a r (y.first a less) x) (λ less. keeps-unbroken system b s (x.first b less) y) in
    (connection, same_rule system a r s x (subst (λ k. IsFirstOfEnds system k s) (sym connection) y))

linked_once : (a b : ℕ) (r s : LinkRule) (o p : Option ℕ) → a ≡ b → r ≡ s → o ≡ p → Link a r o ≡ Link b s p
linked_once a b r s o p x y z = cc

connection_once : (system : SystemTable) (a b : ℕ) (r s : LinkRule) (o p : Option ℕ) → IsConnectionRefused system a r o → IsConnectionRefused system b s p → Link a r o ≡ Link b s p
connection_once system a b r s o p (inl x) (inl y) =
    let same = same_in_maps (footprints system) a b x.number y.number o p x.refused y.refused in
    linked_once a b r s o p same.connection (x.rule_is ∙ ap Map same.number ∙ sym y.rule_is) same.other
connection_once system a b r s o p (inl x) (inr y) = absurd (fits-unrefused system a r o y.maps x)
connection_once system a b r s o p (inr x) (inl y) = absurd (fits-unrefused system b s p x.maps y)
connection_once system a b r s o p (inr x) (inr y) =
    let same = ends_once system a b r s x.refused y.refused in
    linked_once a b r s o p same.0 same.1 (x.alone ∙ sym y.alone)

kept-unrefused : (system : SystemTable) (a : ℕ) (r : LinkRule) (o : Option ℕ) → FitsMaps system → ((k : ℕ) → KeepsLinkRules system k) → IsConnectionRefused system a r o → ⊥
kept-unrefused system a r o fits keeps (inl x) = fits-unrefused system a r o fits x
kept-unrefused system a r o fits keeps (inr x) = keeps-unbroken system a r (keeps a) x.refused

limited_once : (w v n m : ℕ) → w ≡ v → n ≡ m → Limit w n ≡ Limit v m
limited_once w v n m x y = cc

passed_once : (hosts agents streams w v n m : ℕ) → IsPassed hosts agents streams w n → IsPassed hosts agents streams v m → Limit w n ≡ Limit v m
passed_once hosts agents streams w v n m x y =
    let counts = hosts ∷ agents ∷ streams ∷ [] in
    let which : w ≡ v = least_once (fails (too_many hosts agents streams)) w v x.least.broken x.least.least y.least.broken y.least.least in
    limited_once w v n m which (same_Some n m (sym x.count_is ∙ ap (λ (k : ℕ). slice_get counts (k - 1)) which ∙ y.count_is))

too_large_once : (system : SystemTable) (w v n m : ℕ) → IsTooLarge system w n → IsTooLarge system v m → Limit w n ≡ Limit v m
too_large_once system w v n m x y =
    passed_once (length (hosts_of system)) (length (agents_of system)) (length (streams_of system)) w v n m x.passed.passed y.passed.passed

within-fits : (system : SystemTable) (w n : ℕ) → KeepsAll (limit_tests system) → IsTooLarge system w n → ⊥
within-fits system w n keeps x = false≢true (sym (keeps w) ∙ x.passed.passed.least.broken)

linked-fits : (system : SystemTable) (a w n : ℕ) (r : LinkRule) (o : Option ℕ) → IsConnectionRefused system a r o → IsTooLarge system w n → ⊥
linked-fits system a w n r o x y = kept-unrefused system a r o y.maps y.passed.kept x

-- accepted files aren't refused
pub accepted-unrefused : Readings → (files : List (List ℕ)) → IsAccepted files → (x : Refusal) → IsRefusedBy files x → ⊥
accepted-unrefused readings files a (Script place rule) x = system-unrefused readings files a.system place rule a.stated x
accepted-unrefused readings files a (Link connection rule other) x =
    let same : x.system ≡ a.system = system_once readings files x.system a.system x.stated a.stated in
    kept-unrefused a.system connection rule other a.maps a.links (subst (λ s. IsConnectionRefused s connection rule other) same x.refused)
accepted-unrefused readings files a (Limit which count) x =
    let same : x.system ≡ a.system = system_once readings files x.system a.system x.stated a.stated in
    within-fits a.system which count a.limits (subst (λ s. IsTooLarge s which count) same x.passed)
accepted-unrefused readings files a NoMemory x = x

script_once : Readings → (files : List (List ℕ)) (p q : Place) (r s : ScriptRule) → IsScriptRefused files p r → IsScriptRefused files q s → Script p r ≡ Script q s
script_once readings files p q r s x y =
    let same = script_refused_once readings files p q r s x y in
    let place : p ≡ q = same.0 in
    let rule : r ≡ s = same.1 in
    cc

link_once : Readings → (files : List (List ℕ)) (a b : ℕ) (r s : LinkRule) (o p : Option ℕ) → IsLinkRefused files a r o → IsLinkRefused files b s p → Link a r o ≡ Link b s p
link_once readings files a b r s o p x y =
    let same : y.system ≡ x.system = system_once readings files y.system x.system y.stated x.stated in
    connection_once x.system a b r s o p x.refused (subst (λ t. IsConnectionRefused t b s p) same y.refused)

limit_once : Readings → (files : List (List ℕ)) (w v n m : ℕ) → IsLimitPassed files w n → IsLimitPassed files v m → Limit w n ≡ Limit v m
limit_once readings files w v n m x y =
    let same : y.system ≡ x.system = system_once readings files y.system x.system y.stated x.stated in
    too_large_once x.system w v n m x.passed (subst (λ t. IsTooLarge t v m) same y.passed)

link-within : Readings → (files : List (List ℕ)) (a w n : ℕ) (r : LinkRule) (o : Option ℕ) → IsLinkRefused files a r o → IsLimitPassed files w n → ⊥
link-within readings files a w n r o x y =
    let same : y.system ≡ x.system = system_once readings files y.system x.system y.stated x.stated in
    linked-fits x.system a w n r o x.refused (subst (λ t. IsTooLarge t w n) same y.passed)

-- files are refused once
pub refusal_once : Readings → (files : List (List ℕ)) (x y : Refusal) → IsRefusedBy files x → IsRefusedBy files y → x ≡ y
refusal_once readings files (Script p r) (Script q s) x y = script_once readings files p q r s x y
refusal_once readings files (Script p r) (Link b s o) x y = absurd (system-unrefused readings files y.system p r y.stated x)
refusal_once readings files (Script p r) (Limit v m) x y = absurd (system-unrefused readings files y.system p r y.stated x)
refusal_once readings files (Link a r o) (Script q s) x y = absurd (system-unrefused readings files x.system q s x.stated y)
refusal_once readings files (Link a r o) (Link b s p) x y = link_once readings files a b r s o p x y
refusal_once readings files (Link a r o) (Limit v m) x y = absurd (link-within readings files a v m r o x y)
refusal_once readings files (Limit w n) (Script q s) x y = absurd (system-unrefused readings files x.system q s x.stated y)
refusal_once readings files (Limit w n) (Link b s p) x y = absurd (link-within readings files b w n s p y x)
refusal_once readings files (Limit w n) (Limit v m) x y = limit_once readings files w v n m x y
refusal_once readings files NoMemory y a b = absurd a
refusal_once readings files (Script p r) NoMemory a b = absurd b
refusal_once readings files (Link c r o) NoMemory a b = absurd b
refusal_once readings files (Limit w n) NoMemory a b = absurd b

-- an answer to a system of the files is one to the files
pub IsCause-from_system : (files : List (List ℕ)) (system : SystemTable) (answer : Refusal) → IsSystemOf files system → IsSystemCause system answer → IsCause files answer
IsCause-from_system files system (Script place rule) stated x = absurd x
IsCause-from_system files system (Link connection rule other) stated x = inr (record { system = system; stated = stated; refused = x })
IsCause-from_system files system (Limit which count) stated x = inr (record { system = system; stated = stated; passed = x })
IsCause-from_system files system NoMemory stated x = inl refl

-- what a cause and a fact of the files leave of an answer
pub only_memory : Readings → (files : List (List ℕ)) (answer : Refusal) → IsCause files answer → IsAccepted files → answer ≡ NoMemory
only_memory readings files answer (inl memory) accepted = memory
only_memory readings files answer (inr refused) accepted = absurd (accepted-unrefused readings files accepted answer refused)

pub only_this : Readings → (files : List (List ℕ)) (answer refusal : Refusal) → IsCause files answer → IsRefusedBy files refusal → (answer ≡ refusal) ⊎ (answer ≡ NoMemory)
only_this readings files answer refusal (inl memory) refused = inr memory
only_this readings files answer refusal (inr cause) refused = inl (refusal_once readings files answer refusal cause refused)

-- planned files are accepted
pub planned-accepted : (files : List (List ℕ)) (plan : PlanTable) → IsPlanned files plan → IsAccepted files
planned-accepted files plan p = record { system = plan.system; stated = p.stated; maps = p.is_plan.maps.kept; links = p.is_plan.links; limits = p.is_plan.limits }

-- a plan over the system of the files is one of the files
pub IsPlanned-from_system : (files : List (List ℕ)) (system : SystemTable) (plan : PlanTable) → IsSystemOf files system → plan.system ≡ system → IsPlan plan → IsPlanned files plan
IsPlanned-from_system files system plan stated same is_plan = record { stated = subst (IsSystemOf files) (sym same) stated; is_plan = is_plan }
