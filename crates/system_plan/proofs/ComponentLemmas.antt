-- The components that files state, one by one.
use Rattle.std.proofs.Common.{◌≡◌, ℕ, ◌+◌, ◌<◌, ◌≤◌, zero, suc, List, [], ◌∷◌, ◌++◌, Some, length, take, slice_get, refl, sym, ap, subst, ◌∙◌, arith, ◌⊎◌, inl, inr, length-append, length-take-le, take-take, take_all}
use Rattle.std.proofs.lemmas.Bool.{cases_lt, false≢true}
use Rattle.std.proofs.lemmas.List.{take-append-le}
use Rattle.std.proofs.lemmas.Option.{slice_get_within, same_Some, none-some}
use Rattle.av_base.specs.declared.faults.Place.{Place}
use Rattle.script_words.specs.declared.faults.ScriptRule.{ScriptRule}
use Rattle.component_scripts.specs.Catalog.{is_refused}
use Rattle.component_scripts.specs.Tables.{ComponentTable}
use Rattle.tcl_words.specs.Script.{Script}
use Rattle.system_plan.specs.Scripts.{States, IsRefused}
use Rattle.system_plan.specs.Systems.{SaysComponent, RefusesComponent, AreComponents, IsComponentRefused}
use Rattle.system_plan.proofs.FrontLemmas.{slice_get-take, slice_get-last, slice_get-front, slice_get_some, take-next, same_number}
use Rattle.system_plan.proofs.ScriptLemmas.{Readings, stated_once, stated-unrefused, refused_once, refusal_once}

said_once : (earlier : List ComponentTable) (script : Script) (x y : ComponentTable) → SaysComponent earlier script x → SaysComponent earlier script y → x ≡ y
said_once earlier script x y a b = let p = a.stated in let q = b.stated in cc

said-unrefused : (earlier : List ComponentTable) (script : Script) (x : ComponentTable) (place : Place) (rule : ScriptRule) → SaysComponent earlier script x → RefusesComponent earlier script place rule → ⊥
said-unrefused earlier script x place rule a (inl fault) = let p = a.stated in cc
said-unrefused earlier script x place rule a (inr taken) =
    let p = a.stated in
    let q = taken.stated in
    let same : taken.component ≡ x = cc in
    false≢true (sym a.new_type ∙ sym (ap (is_refused earlier) same) ∙ taken.taken)

unsaid_once : (earlier : List ComponentTable) (script : Script) (p q : Place) (r s : ScriptRule) → RefusesComponent earlier script p r → RefusesComponent earlier script q s → (p ≡ q) × (r ≡ s)
unsaid_once earlier script p q r s (inl a) (inl b) = refusal_once a b (λ refusal. refusal.place) (λ refusal. refusal.rule)
unsaid_once earlier script p q r s (inl a) (inr b) = let e = b.stated in absurd (cc)
unsaid_once earlier script p q r s (inr a) (inl b) = let e = a.stated in absurd (cc)
unsaid_once earlier script p q r s (inr a) (inr b) =
    let d = a.stated in
    let e = b.stated in
    let same : a.component ≡ b.component = cc in
    (a.place_is ∙ ap (λ (c : ComponentTable). c.place) same ∙ sym b.place_is, a.rule_is ∙ sym b.rule_is)

pub AreComponents-none : (files : List (List ℕ)) → AreComponents (take 0 files) []
AreComponents-none files = record { count = refl; each = λ k bytes component at there. absurd (none-some component there) }

-- a file among some, with its component, and the next file with its own
at_last : (files : List (List ℕ)) (n : ℕ) (components : List ComponentTable) (bytes b : List ℕ) (component c : ComponentTable) → length components ≡ n
    → slice_get files n ≡ Some bytes → States (SaysComponent components) (n + 2) bytes component → slice_get files n ≡ Some b → slice_get (components ++ component ∷ []) n ≡ Some c
    → States (SaysComponent (take n (components ++ component ∷ []))) (n + 2) b c
at_last files n components bytes b component c long at states file there =
    let last : slice_get (components ++ component ∷ []) n ≡ Some component = subst (λ k. slice_get (components ++ component ∷ []) k ≡ Some component) long (slice_get-last components component) in
    let bytes_are : bytes ≡ b = same_Some bytes b (sym at ∙ file) in
    let component_is : component ≡ c = same_Some component c (sym last ∙ there) in
    let front : take n (components ++ component ∷ []) ≡ components = take-append-le n components (component ∷ []) (omega arith) ∙ take_all n components (omega arith) in
    subst (λ l. States (SaysComponent l) (n + 2) b c) (sym front)
    (subst (λ x. States (SaysComponent components) (n + 2) b x) component_is (subst (λ x. States (SaysComponent components) (n + 2) x component) bytes_are states))

in_front : (files : List (List ℕ)) (n : ℕ) (components : List ComponentTable) (component : ComponentTable) → AreComponents (take n files) components → length components ≡ n
    → (k : ℕ) (b : List ℕ) (c : ComponentTable) → k < n → slice_get files k ≡ Some b → slice_get (components ++ component ∷ []) k ≡ Some c
    → States (SaysComponent (take k (components ++ component ∷ []))) (k + 2) b c
in_front files n components component are long k b c less file there =
    let old : slice_get components k ≡ Some c = sym (slice_get-front components component k (omega arith)) ∙ there in
    let front : take k (components ++ component ∷ []) ≡ take k components = take-append-le k components (component ∷ []) (omega arith) in
    subst (λ l. States (SaysComponent l) (k + 2) b c) (sym front) (are.each k b c (slice_get-take files n k less ∙ file) old)

front_or_last : (files : List (List ℕ)) (n : ℕ) (components : List ComponentTable) (bytes : List ℕ) (component : ComponentTable) → AreComponents (take n files) components
    → length components ≡ n → slice_get files n ≡ Some bytes → States (SaysComponent components) (n + 2) bytes component
    → (k : ℕ) (b : List ℕ) (c : ComponentTable) → (k < n) ⊎ (k ≡ n) → slice_get files k ≡ Some b → slice_get (components ++ component ∷ []) k ≡ Some c
    → States (SaysComponent (take k (components ++ component ∷ []))) (k + 2) b c
front_or_last files n components bytes component are long at states k b c (inl less) file there = in_front files n components component are long k b c less file there
front_or_last files n components bytes component are long at states k b c (inr same) file there =
    let all = components ++ component ∷ [] in
    let P : ℕ → Type 0 = λ j. slice_get files j ≡ Some b → slice_get all j ≡ Some c → States (SaysComponent (take j all)) (j + 2) b c in
    subst P (sym same) (at_last files n components bytes b component c long at states) file there

below_or_same : (k n : ℕ) → k < suc n → (k < n) ⊎ (k ≡ n)
below_or_same k n less = elim (cases_lt k n) [ inl below ↦ inl below | inr above ↦ inr (omega arith) ]

-- one more file, which states one more component
pub AreComponents-next : (files : List (List ℕ)) (n : ℕ) (components : List ComponentTable) (bytes : List ℕ) (component : ComponentTable)
    → AreComponents (take n files) components → slice_get files n ≡ Some bytes → States (SaysComponent components) (n + 2) bytes component
    → AreComponents (take (suc n) files) (components ++ component ∷ [])
AreComponents-next files n components bytes component are at states =
    let within : n < length files = slice_get_within files n bytes at in
    let long : length components ≡ n = are.count ∙ length-take-le n files (omega arith) in
    let files_long : length (take (suc n) files) ≡ suc n = length-take-le (suc n) files (omega arith) in
    let all_long : length (components ++ component ∷ []) ≡ suc n = omega (arith, length-append components (component ∷ [])) in
    record {
      count = all_long ∙ sym files_long;
      each = λ k b c file there.
          let below : k < length (take (suc n) files) = slice_get_within (take (suc n) files) k b file in
          let less : k < suc n = omega arith in
          front_or_last files n components bytes component are long at states k b c (below_or_same k n less) (sym (slice_get-take files (suc n) k less) ∙ file) there;
    }

-- the first of the files state the first of the components
AreComponents-take : (files : List (List ℕ)) (components : List ComponentTable) (n : ℕ) → n ≤ length files → AreComponents files components → AreComponents (take n files) (take n components)
AreComponents-take files components n within are =
    let many = are.count in
    let files_long : length (take n files) ≡ n = length-take-le n files within in
    let long : length (take n components) ≡ n = length-take-le n components (omega arith) in
    record {
      count = long ∙ sym files_long;
      each = λ k b c file there.
          let below : k < length (take n files) = slice_get_within (take n files) k b file in
          let less : k < n = omega arith in
          subst (λ l. States (SaysComponent l) (k + 2) b c) (sym (take-take k n components (omega arith)))
          (are.each k b c (sym (slice_get-take files n k less) ∙ file) (sym (slice_get-take components n k less) ∙ there));
    }

same_fronts : Readings → (files : List (List ℕ)) (xs ys : List ComponentTable) → AreComponents files xs → AreComponents files ys → (n : ℕ) → n ≤ length files → take n xs ≡ take n ys
same_fronts readings files xs ys a b zero within = refl
same_fronts readings files xs ys a b (suc n) within =
    let a_many = a.count in
    let b_many = b.count in
    let before : take n xs ≡ take n ys = same_fronts readings files xs ys a b n (omega arith) in
    let file = slice_get_some files n (omega arith) in
    let x = slice_get_some xs n (omega arith) in
    let y = slice_get_some ys n (omega arith) in
    let by_a : States (SaysComponent (take n xs)) (n + 2) file.0 x.0 = a.each n file.0 x.0 file.1 x.1 in
    let by_b : States (SaysComponent (take n xs)) (n + 2) file.0 y.0 = subst (λ l. States (SaysComponent l) (n + 2) file.0 y.0) (sym before) (b.each n file.0 y.0 file.1 y.1) in
    let same : x.0 ≡ y.0 = stated_once (SaysComponent (take n xs)) readings (said_once (take n xs)) (n + 2) file.0 x.0 y.0 by_a by_b in
    take-next xs n x.0 x.1 ∙ ap (λ l. l ++ x.0 ∷ []) before ∙ ap (λ z. take n ys ++ z ∷ []) same ∙ sym (take-next ys n y.0 y.1)

-- files state one list of components at most
pub components_once : Readings → (files : List (List ℕ)) (xs ys : List ComponentTable) → AreComponents files xs → AreComponents files ys → xs ≡ ys
components_once readings files xs ys a b =
    let a_many = a.count in
    let b_many = b.count in
    sym (take_all (length files) xs (omega arith)) ∙ same_fronts readings files xs ys a b (length files) (omega arith) ∙ take_all (length files) ys (omega arith)

-- files that state components aren't refused
pub components-unrefused : Readings → (files : List (List ℕ)) (components : List ComponentTable) (place : Place) (rule : ScriptRule)
    → AreComponents files components → IsComponentRefused files place rule → ⊥
components-unrefused readings files components place rule are r =
    let many = are.count in
    let n = r.number in
    let within : n < length files = slice_get_within files n r.bytes r.is in
    let front : AreComponents (take n files) (take n components) = AreComponents-take files components n (omega arith) are in
    let same : r.components ≡ take n components = components_once readings (take n files) r.components (take n components) r.before front in
    let component = slice_get_some components n (omega arith) in
    let refused : IsRefused (RefusesComponent (take n components)) (n + 2) r.bytes place rule = subst (λ l. IsRefused (RefusesComponent l) (n + 2) r.bytes place rule) same r.refused in
    stated-unrefused (SaysComponent (take n components)) (RefusesComponent (take n components)) readings (said-unrefused (take n components)) (n + 2) r.bytes component.0 place rule
    (are.each n r.bytes component.0 r.is component.1) refused

not_earlier : Readings → (files : List (List ℕ)) (p q : Place) (r s : ScriptRule) (a : IsComponentRefused files p r) (b : IsComponentRefused files q s) → a.number < b.number → ⊥
not_earlier readings files p q r s a b less =
    let front : IsComponentRefused (take b.number files) p r =
    record {
      number = a.number;
      components = a.components;
      before = subst (λ l. AreComponents l a.components) (sym (take-take a.number b.number files (omega arith))) a.before;
      bytes = a.bytes;
      is = slice_get-take files b.number a.number less ∙ a.is;
      refused = a.refused;
    } in
    components-unrefused readings (take b.number files) b.components p r b.before front

refused_here : Readings → (files : List (List ℕ)) (p q : Place) (r s : ScriptRule) (n : ℕ) (xs ys : List ComponentTable) (x y : List ℕ)
    → AreComponents (take n files) xs → slice_get files n ≡ Some x → IsRefused (RefusesComponent xs) (n + 2) x p r
    → AreComponents (take n files) ys → slice_get files n ≡ Some y → IsRefused (RefusesComponent ys) (n + 2) y q s → (p ≡ q) × (r ≡ s)
refused_here readings files p q r s n xs ys x y before_a at_a a before_b at_b b =
    let components_are : ys ≡ xs = components_once readings (take n files) ys xs before_b before_a in
    let bytes_are : y ≡ x = same_Some y x (sym at_b ∙ at_a) in
    let there : IsRefused (RefusesComponent xs) (n + 2) x q s =
    subst (λ l. IsRefused (RefusesComponent l) (n + 2) x q s) components_are (subst (λ z. IsRefused (RefusesComponent ys) (n + 2) z q s) bytes_are b) in
    refused_once (RefusesComponent xs) readings (unsaid_once xs) (n + 2) x p q r s a there

-- component files are refused once
pub component_refused_once : Readings → (files : List (List ℕ)) (p q : Place) (r s : ScriptRule) → IsComponentRefused files p r → IsComponentRefused files q s → (p ≡ q) × (r ≡ s)
component_refused_once readings files p q r s a b =
    let same : a.number ≡ b.number = same_number a.number b.number (not_earlier readings files p q r s a b) (not_earlier readings files q p s r b a) in
    let P : ℕ → Type 0 = λ n. AreComponents (take n files) b.components → slice_get files n ≡ Some b.bytes → IsRefused (RefusesComponent b.components) (n + 2) b.bytes q s → (p ≡ q) × (r ≡ s) in
    subst P same (refused_here readings files p q r s a.number a.components b.components a.bytes b.bytes a.before a.is a.refused) b.before b.is b.refused

-- the same, as the loop over the files goes on
pub AreComponents-step : (files : List (List ℕ)) (k : ℕ) (components next : List ComponentTable) (bytes : List ℕ) (component : ComponentTable)
    → AreComponents (take k files) components → slice_get files k ≡ Some bytes → States (SaysComponent components) (k + 2) bytes component → next ≡ components ++ component ∷ []
    → AreComponents (take (k + 1) files) next
AreComponents-step files k components next bytes component are at states added =
    let more : AreComponents (take (suc k) files) (components ++ component ∷ []) = AreComponents-next files k components bytes component are at states in
    let number : suc k ≡ k + 1 = omega arith in
    subst (λ n. AreComponents (take n files) next) number (subst (AreComponents (take (suc k) files)) (sym added) more)
