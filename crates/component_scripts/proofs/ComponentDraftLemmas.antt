-- The interfaces of a draft, by name and by place.
use Rattle.std.proofs.Common.{Result, ◌≡◌, ℕ, zero, suc, ◌+◌, ◌<◌, ◌≤◌, Bool, true, false, cond, not, List, [], ◌∷◌, ◌++◌, length, map, drop, lit<, get_or, set, slice_get, Option, Some, None, refl, sym, ap, ◌∙◌, subst, arith, nat_lt}
use Rattle.std.specs.Prelude.{find, position, is_some, IsTrue, All, ◌&&◌}
use Rattle.std.proofs.lemmas.Bool.{not-false}
use Rattle.std.proofs.lemmas.List.{map-append, at_drop_more, at_drop_all, length-map, get_or-map}
use Rattle.system_tables.specs.declared.tables.InterfaceTable.{InterfaceTable}
use Rattle.component_scripts.specs.Tables.{ComponentTable}
use Rattle.av_base.specs.declared.faults.Place.{Place}
use Rattle.std.proofs.lemmas.List.Elements.{All-push}
use Rattle.std.specs.List.{position_or_len}
use Rattle.std.specs.Option.{option_map, option_map_or, option_or}
use Rattle.std.specs.Str.{bytes_eq}
use Rattle.std.proofs.lemmas.Bool.Decides.{nat_tests}
use Rattle.std.proofs.lemmas.List.Folds.{find_at}
use Rattle.std.proofs.lemmas.Option.{slice_get_past, slice_get-get_or, slice_get_within, cond_some, get_or_from_slice_get}
use Rattle.iface_roles.specs.Held.{Held}
use Rattle.component_scripts.specs.Component.{DraftedComponent, empty_component_draft, component_refusal, component_after, first_component_refusal, component_after_all, ended, component_of, IsComponentDraft, interface_table, module_checks, interface_checks, names_type, held_named, changed, property_checks, property_at, property_effect, port_checks, port_effect, is_outside, set_as, has_role, with_role}
use Rattle.script_words.specs.Judgements.{judged, IsFaultOf, first_some}
use Rattle.script_words.specs.Kinds.{property_named}
use Rattle.system_tables.specs.Names.{is_name}
use Rattle.script_words.specs.Names.{place_of}
use Rattle.script_words.specs.Words.{IsRefusal, text_at, check, refusal_of}
use Rattle.component_scripts.specs.declared.component_draft.ComponentDraft.TheInside.{Inside}
use Rattle.script_words.specs.declared.rule.CommandRule.TheVariants.{NotAName, Taken, OutOfRange}
use Rattle.script_words.specs.declared.judge.Refusal.{Refusal}
use Rattle.tcl_words.specs.declared.words.Word.{Word}
use Rattle.tcl_words.specs.Script.{Script}
use Rattle.script_words.specs.declared.faults.ScriptFault.{ScriptFault}
use Rattle.script_words.specs.declared.faults.ScriptFault.TheVariants.{Refused, NoMemory}
use Rattle.component_scripts.specs.declared.component.DeclaredInterface.{DeclaredInterface}
use Rattle.script_words.specs.Laws.{position-map, position_within, none_fails}

-- the first item that passes is the one at the first place
pub find_by_position : {A : Type 0} (p : A → Bool) (xs : List A) (k : ℕ) → position p xs ≡ Some k → find p xs ≡ slice_get xs k
find_by_position p xs k h =
    let parts = cond_some (nat_lt (position_or_len p xs) (length xs)) (position_or_len p xs) k h in
    find_at p xs ∙ ap (slice_get xs) parts.1

pub find_by_none : {A : Type 0} (p : A → Bool) (xs : List A) → position p xs ≡ None → find p xs ≡ None
find_by_none p xs h = by (nat_lt (position_or_len p xs) (length xs)) refl h
  where
    by : (b : Bool) → nat_lt (position_or_len p xs) (length xs) ≡ b → cond b (Some (position_or_len p xs)) None ≡ None → find p xs ≡ None
    by true e q = cc
    by false e q = find_at p xs ∙ slice_get_past xs (position_or_len p xs) (grind (arith, nat_tests))

abbrev pub names_of : List DeclaredInterface → List (List ℕ)
names_of interfaces = map (λ declared. declared.name) interfaces

-- where a name stands among the names of interfaces, it stands among the interfaces
pub place_of-names : (interfaces : List DeclaredInterface) (name : List ℕ) → place_of (names_of interfaces) name ≡ position (λ declared. bytes_eq name declared.name) interfaces
place_of-names interfaces name = position-map (bytes_eq name) (λ declared. declared.name) interfaces

pub held_named-none : (names : List (List ℕ)) (interfaces : List DeclaredInterface) (name : List ℕ) → names ≡ names_of interfaces
    → place_of names name ≡ None → held_named interfaces name ≡ None
held_named-none names interfaces name same none =
    ap (option_map (λ (declared : DeclaredInterface). declared.interface))
    (find_by_none _ interfaces (sym (place_of-names interfaces name) ∙ ap (λ ns. place_of ns name) (sym same) ∙ none))

pub name_within : (names : List (List ℕ)) (interfaces : List DeclaredInterface) (name : List ℕ) (k : ℕ) → names ≡ names_of interfaces
    → place_of names name ≡ Some k → k < length interfaces
name_within names interfaces name k same some =
    position_within _ interfaces k (sym (place_of-names interfaces name) ∙ ap (λ ns. place_of ns name) (sym same) ∙ some)

pub held_named-at : (names : List (List ℕ)) (interfaces : List DeclaredInterface) (name : List ℕ) (k : ℕ) → names ≡ names_of interfaces
    → place_of names name ≡ Some k → held_named interfaces name ≡ option_map (λ (d : DeclaredInterface). d.interface) (slice_get interfaces k)
held_named-at names interfaces name k same some =
    ap (option_map (λ (d : DeclaredInterface). d.interface))
    (find_by_position _ interfaces k (sym (place_of-names interfaces name) ∙ ap (λ ns. place_of ns name) (sym same) ∙ some))

pub held_named-some : (names : List (List ℕ)) (interfaces : List DeclaredInterface) (name : List ℕ) (k : ℕ) (declared : DeclaredInterface) → names ≡ names_of interfaces
    → place_of names name ≡ Some k → declared ≡ get_or interfaces k declared → held_named interfaces name ≡ Some declared.interface
held_named-some names interfaces name k declared same some at =
    ap (option_map (λ (d : DeclaredInterface). d.interface))
    (find_by_position _ interfaces k (sym (place_of-names interfaces name) ∙ ap (λ ns. place_of ns name) (sym same) ∙ some)
    ∙ slice_get-get_or interfaces k declared (name_within names interfaces name k same some)
    ∙ ap Some (sym at))

there : {A : Type 0} (xs : List A) (k : ℕ) → k < length xs → slice_get xs k ≡ None → ⊥
there [] k h e = omega arith
there (x ∷ xs) zero h e = cc
there (x ∷ xs) (suc k) h e = there xs k (omega arith) e

-- a name stands among the names exactly where an interface has it
pub is_some-held : (names : List (List ℕ)) (interfaces : List DeclaredInterface) (name : List ℕ) → names ≡ names_of interfaces
    → is_some (place_of names name) ≡ is_some (held_named interfaces name)
is_some-held names interfaces name same = by (place_of names name) refl
  where
    by : (o : Option ℕ) → place_of names name ≡ o → is_some o ≡ is_some (held_named interfaces name)
    by None e = sym (ap is_some (held_named-none names interfaces name same e))
    by (Some k) e =
        within (slice_get interfaces k) refl
      where
        within : (o : Option DeclaredInterface) → slice_get interfaces k ≡ o → true ≡ is_some (held_named interfaces name)
        within (Some d) q = sym (ap is_some (held_named-at names interfaces name k same e ∙ ap (option_map (λ (d : DeclaredInterface). d.interface)) q))
        within None q = absurd (there interfaces k (name_within names interfaces name k same e) q)

-- the first place of a longer list
position-cons : {A : Type 0} (p : A → Bool) (x : A) (xs : List A) → position p (x ∷ xs) ≡ cond (p x) (Some 0) (option_map suc (position p xs))
position-cons p x xs = by (p x) (nat_lt (position_or_len p xs) (length xs)) refl refl
  where
    by : (b c : Bool) → p x ≡ b → nat_lt (position_or_len p xs) (length xs) ≡ c → position p (x ∷ xs) ≡ cond b (Some 0) (option_map suc (cond c (Some (position_or_len p xs)) None))
    by true c e l = grind (arith, nat_tests)
    by false true e l = grind (arith, nat_tests)
    by false false e l = grind (arith, nat_tests)

-- a change by name is a write at the first place of the name
pub changed-set : (interfaces : List DeclaredInterface) (name : List ℕ) (change : DeclaredInterface → DeclaredInterface) (k : ℕ) (d : DeclaredInterface)
    → position (λ (declared : DeclaredInterface). bytes_eq name declared.name) interfaces ≡ Some k → changed interfaces name change ≡ set interfaces k (change (get_or interfaces k d))
changed-set [] name change k d h = cc
changed-set (declared ∷ rest) name change k d h =
    by (bytes_eq name declared.name) refl (position (λ (i : DeclaredInterface). bytes_eq name i.name) rest) refl (λ j. changed-set rest name change j d)
  where
    by : (b : Bool) → bytes_eq name declared.name ≡ b → (o : Option ℕ) → position (λ (i : DeclaredInterface). bytes_eq name i.name) rest ≡ o
        → ((j : ℕ) → o ≡ Some j → changed rest name change ≡ set rest j (change (get_or rest j d)))
        → cond b (change declared ∷ rest) (declared ∷ changed rest name change) ≡ set (declared ∷ rest) k (change (get_or (declared ∷ rest) k d))
    by true e o q further =
        let at : Some 0 ≡ Some k = sym (position-cons (λ (i : DeclaredInterface). bytes_eq name i.name) declared rest ∙ ap (λ b. cond b (Some 0) (option_map suc (position (λ (i : DeclaredInterface). bytes_eq name i.name) rest))) e) ∙ h in
        let zero_is : 0 ≡ k = cc in
        subst (λ j. (change declared ∷ rest) ≡ set (declared ∷ rest) j (change (get_or (declared ∷ rest) j d))) zero_is refl
    by false e (Some j) q further =
        let at : Some (suc j) ≡ Some k = sym (position-cons (λ (i : DeclaredInterface). bytes_eq name i.name) declared rest ∙ ap (λ b. cond b (Some 0) (option_map suc (position (λ (i : DeclaredInterface). bytes_eq name i.name) rest))) e ∙ ap (option_map suc) q) ∙ h in
        let next : suc j ≡ k = cc in
        subst (λ i. (declared ∷ changed rest name change) ≡ set (declared ∷ rest) i (change (get_or (declared ∷ rest) i d))) next (ap (λ xs. declared ∷ xs) (further j refl))
    by false e None q further =
        let at : None ≡ Some k = sym (position-cons (λ (i : DeclaredInterface). bytes_eq name i.name) declared rest ∙ ap (λ b. cond b (Some 0) (option_map suc (position (λ (i : DeclaredInterface). bytes_eq name i.name) rest))) e ∙ ap (option_map suc) q) ∙ h in
        cc

pub changed-none : (interfaces : List DeclaredInterface) (name : List ℕ) (change : DeclaredInterface → DeclaredInterface)
    → find (λ (declared : DeclaredInterface). bytes_eq name declared.name) interfaces ≡ None → changed interfaces name change ≡ interfaces
changed-none [] name change h = refl
changed-none (declared ∷ rest) name change h =
    by (bytes_eq name declared.name) h (changed-none rest name change)
  where
    by : (b : Bool) → cond b (Some declared) (find (λ (i : DeclaredInterface). bytes_eq name i.name) rest) ≡ None
        → (find (λ (i : DeclaredInterface). bytes_eq name i.name) rest ≡ None → changed rest name change ≡ rest)
        → cond b (change declared ∷ rest) (declared ∷ changed rest name change) ≡ declared ∷ rest
    by true q further = cc
    by false q further = ap (λ xs. declared ∷ xs) (further q)

-- what kept fields show
abbrev pub shown : Inside → DraftedComponent
shown kept = record { type_name = kept.type_name; interfaces = kept.interfaces.items; ports = kept.ports }

-- a write that keeps the name keeps the names
pub names_of-set : (xs : List DeclaredInterface) (k : ℕ) (old new : DeclaredInterface) → old ≡ get_or xs k old → new.name ≡ old.name
    → names_of (set xs k new) ≡ names_of xs
names_of-set [] k old new at same = refl
names_of-set (x ∷ xs) zero old new at same = ap (λ n. n ∷ names_of xs) (same ∙ ap (λ (d : DeclaredInterface). d.name) at)
names_of-set (x ∷ xs) (suc k) old new at same = ap (λ ns. x.name ∷ ns) (names_of-set xs k old new at same)

pub names_kept : (names : List (List ℕ)) (xs : List DeclaredInterface) (k : ℕ) (old new : DeclaredInterface) → names ≡ names_of xs
    → old ≡ get_or xs k old → new.name ≡ old.name → names ≡ names_of (set xs k new)
names_kept names xs k old new same at name = same ∙ sym (names_of-set xs k old new at name)

-- the interface of a name, where the name stands at this place
pub record IsNamedAt (names : List (List ℕ)) (draft : DraftedComponent) (name : List ℕ) (k : ℕ) (declared : DeclaredInterface) : Type 0 where
  pub all : names ≡ names_of draft.interfaces
  pub stands : place_of names name ≡ Some k
  pub there : declared ≡ get_or draft.interfaces k declared

held_at : (names : List (List ℕ)) (draft : DraftedComponent) (name : List ℕ) (k : ℕ) (declared : DeclaredInterface)
    → IsNamedAt names draft name k declared → held_named draft.interfaces name ≡ Some declared.interface
held_at names draft name k declared h = held_named-some names draft.interfaces name k declared h.all h.stands h.there

changed_at : (names : List (List ℕ)) (draft : DraftedComponent) (name : List ℕ) (k : ℕ) (declared : DeclaredInterface) (change : DeclaredInterface → DeclaredInterface)
    → IsNamedAt names draft name k declared → changed draft.interfaces name change ≡ set draft.interfaces k (change declared)
changed_at names draft name k declared change h =
    changed-set draft.interfaces name change k declared (sym (place_of-names draft.interfaces name) ∙ ap (λ ns. place_of ns name) (sym h.all) ∙ h.stands)
    ∙ ap (λ d. set draft.interfaces k (change d)) (sym h.there)

changed_nowhere : (names : List (List ℕ)) (draft : DraftedComponent) (name : List ℕ) (change : DeclaredInterface → DeclaredInterface) → names ≡ names_of draft.interfaces
    → place_of names name ≡ None → changed draft.interfaces name change ≡ draft.interfaces
changed_nowhere names draft name change same none =
    changed-none draft.interfaces name change (find_by_none _ draft.interfaces (sym (place_of-names draft.interfaces name) ∙ ap (λ ns. place_of ns name) (sym same) ∙ none))

-- a setting that isn't refused is within its range
pub property_not_outside : (names : List (List ℕ)) (draft : DraftedComponent) (words : List Word) (k : ℕ) (declared : DeclaredInterface)
    → IsNamedAt names draft (text_at words 1) k declared → refusal_of words (property_checks draft words) ≡ None
    → is_outside (property_named declared.interface.kind (text_at words 2)) (text_at words 3) ≡ false
unfolding property_checks property_at
property_not_outside names draft words k declared h clean =
    let passes = none_fails words (property_checks draft words) 3 (check OutOfRange 3 (option_map_or (λ known. is_outside known (text_at words 3)) (property_at draft words) false)) clean (lit< tt) refl in
    ap (λ held. option_map_or (λ known. is_outside known (text_at words 3)) (option_map (λ (i : Held). property_named i.kind (text_at words 2)) held) false)
    (sym (held_at names draft (text_at words 1) k declared h))
    ∙ passes

pub property_stated : (names : List (List ℕ)) (draft : DraftedComponent) (words : List Word) (k : ℕ) (declared : DeclaredInterface)
    → IsNamedAt names draft (text_at words 1) k declared
    → property_effect draft words ≡ record draft { interfaces = set draft.interfaces k (set_as declared (property_named declared.interface.kind (text_at words 2)) (text_at words 3)) }
unfolding property_effect
property_stated names draft words k declared h =
    ap (λ (xs : List DeclaredInterface). record draft { interfaces = xs }) (changed_at names draft (text_at words 1) k declared _ h)

pub property_unstated : (names : List (List ℕ)) (draft : DraftedComponent) (words : List Word) → names ≡ names_of draft.interfaces
    → place_of names (text_at words 1) ≡ None → property_effect draft words ≡ draft
unfolding property_effect
property_unstated names draft words same none =
    ap (λ (xs : List DeclaredInterface). record draft { interfaces = xs }) (changed_nowhere names draft (text_at words 1) _ same none)

-- of a port that isn't refused, the name is new, and its role too
pub port_is_new : (draft : DraftedComponent) (words : List Word) → refusal_of words (port_checks draft words) ≡ None
    → is_some (place_of draft.ports (text_at words 2)) ≡ false
unfolding port_checks
port_is_new draft words clean =
    none_fails words (port_checks draft words) 1 (check Taken 2 (is_some (place_of draft.ports (text_at words 2)))) clean (lit< tt) refl

pub role_is_new : (names : List (List ℕ)) (draft : DraftedComponent) (words : List Word) (k : ℕ) (declared : DeclaredInterface)
    → IsNamedAt names draft (text_at words 1) k declared → refusal_of words (port_checks draft words) ≡ None
    → has_role (text_at words 3) declared.interface ≡ false
unfolding port_checks
role_is_new names draft words k declared h clean =
    let passes = none_fails words (port_checks draft words) 2 (check Taken 3 (option_map_or (has_role (text_at words 3)) (held_named draft.interfaces (text_at words 1)) false)) clean (lit< tt) refl in
    ap (λ held. option_map_or (has_role (text_at words 3)) held false) (sym (held_at names draft (text_at words 1) k declared h)) ∙ passes

pub port_added : (names : List (List ℕ)) (draft : DraftedComponent) (words : List Word) (k : ℕ) (declared : DeclaredInterface)
    → IsNamedAt names draft (text_at words 1) k declared
    → port_effect draft words ≡ record draft { interfaces = set draft.interfaces k (with_role declared words); ports = draft.ports ++ text_at words 2 ∷ [] }
unfolding port_effect
port_added names draft words k declared h =
    ap (λ (xs : List DeclaredInterface). record draft { interfaces = xs; ports = draft.ports ++ text_at words 2 ∷ [] }) (changed_at names draft (text_at words 1) k declared _ h)

pub port_alone : (names : List (List ℕ)) (draft : DraftedComponent) (words : List Word) → names ≡ names_of draft.interfaces
    → place_of names (text_at words 1) ≡ None → port_effect draft words ≡ record draft { ports = draft.ports ++ text_at words 2 ∷ [] }
unfolding port_effect
port_alone names draft words same none =
    ap (λ (xs : List DeclaredInterface). record draft { interfaces = xs; ports = draft.ports ++ text_at words 2 ∷ [] }) (changed_nowhere names draft (text_at words 1) _ same none)

-- what a draft keeps stays: as a setting or a port changes an interface, as the type is named, as an interface is added
pub IsComponentDraft-set : (names : List (List ℕ)) (type_name : Option Word) (xs : List DeclaredInterface) (k : ℕ) (old new : DeclaredInterface)
    → IsComponentDraft names type_name xs → old ≡ get_or xs k old → new.name ≡ old.name → IsComponentDraft names type_name (set xs k new)
IsComponentDraft-set names type_name xs k old new kept at name =
    record { all = names_kept names xs k old new kept.all at name; are_names = kept.are_names; type_is_name = kept.type_is_name }

pub IsComponentDraft-named : (names : List (List ℕ)) (type_name : Option Word) (xs : List DeclaredInterface) (word : Word)
    → IsComponentDraft names type_name xs → IsTrue (is_name word.text) → IsComponentDraft names (Some word) xs
IsComponentDraft-named names type_name xs word kept name = record { all = kept.all; are_names = kept.are_names; type_is_name = name }

pub IsComponentDraft-push : (names more : List (List ℕ)) (type_name : Option Word) (xs longer : List DeclaredInterface) (declared : DeclaredInterface)
    → IsComponentDraft names type_name xs → IsTrue (is_name declared.name) → more ≡ names ++ declared.name ∷ [] → longer ≡ xs ++ declared ∷ []
    → IsComponentDraft more type_name longer
IsComponentDraft-push names more type_name xs longer declared kept name e f =
    let P : List ℕ → Type 0 = λ n. IsTrue (is_name n) in
    record {
      all = e ∙ ap (λ ns. ns ++ declared.name ∷ []) kept.all ∙ sym (ap (λ (l : List DeclaredInterface). names_of l) f ∙ map-append (λ (d : DeclaredInterface). d.name) xs (declared ∷ []));
      are_names = subst (λ ns. All P ns) (sym e) (All-push P names declared.name kept.are_names name);
      type_is_name = kept.type_is_name;
    }

-- the name of a type, or of an interface, that isn't refused is a name
pub type_is_named : (draft : DraftedComponent) (words : List Word) → refusal_of words (module_checks draft words) ≡ None → names_type words ≡ true
    → IsTrue (is_name (text_at words 2))
unfolding module_checks
type_is_named draft words clean names =
    let passes = none_fails words (module_checks draft words) 0 (check NotAName 2 (names_type words && not (is_name (text_at words 2)))) clean (lit< tt) refl in
    not-false (is_name (text_at words 2)) (ap (λ b. b && not (is_name (text_at words 2))) (sym names) ∙ passes)

pub interface_is_named : (draft : DraftedComponent) (words : List Word) → refusal_of words (interface_checks draft words) ≡ None
    → IsTrue (is_name (text_at words 1))
unfolding interface_checks
interface_is_named draft words clean =
    let passes = none_fails words (interface_checks draft words) 0 (check NotAName 1 (not (is_name (text_at words 1)))) clean (lit< tt) refl in
    not-false (is_name (text_at words 1)) passes

pub interface_is_new : (draft : DraftedComponent) (words : List Word) → refusal_of words (interface_checks draft words) ≡ None
    → is_some (held_named draft.interfaces (text_at words 1)) ≡ false
unfolding interface_checks
interface_is_new draft words clean =
    none_fails words (interface_checks draft words) 1 (check Taken 1 (is_some (held_named draft.interfaces (text_at words 1)))) clean (lit< tt) refl

-- of an interface that isn't refused, the rest decides
pub first_some-more : (f : DeclaredInterface → Option Refusal) (xs : List DeclaredInterface) (i : ℕ) (d : DeclaredInterface) → i < length xs → d ≡ get_or xs i d
    → f d ≡ None → first_some f (drop i xs) ≡ first_some f (drop (i + 1) xs)
first_some-more f xs i d within at none =
    at_drop_more (first_some f) xs i d within
    ∙ ap (λ o. option_or o (first_some f (drop (i + 1) xs))) (ap f (sym at) ∙ none)

-- of an interface that is refused, so is the whole
pub first_some-found : (f : DeclaredInterface → Option Refusal) (xs : List DeclaredInterface) (i : ℕ) (d : DeclaredInterface) (refusal : Refusal) → i < length xs → d ≡ get_or xs i d
    → f d ≡ Some refusal → first_some f (drop i xs) ≡ Some refusal
first_some-found f xs i d refusal within at some =
    at_drop_more (first_some f) xs i d within
    ∙ ap (λ o. option_or o (first_some f (drop (i + 1) xs))) (ap f (sym at) ∙ some)

-- the names in a draft are those of its interfaces
pub are_named : (names : List (List ℕ)) (type_name : Option Word) (xs : List DeclaredInterface) → IsComponentDraft names type_name xs
    → All (λ (d : DeclaredInterface). IsTrue (is_name d.name)) xs
are_named names type_name xs kept = λ k d h.
    let P : List ℕ → Type 0 = λ n. IsTrue (is_name n) in
    subst P (get_or-map (λ (i : DeclaredInterface). i.name) xs k d d.name h)
    (subst (λ ns. All P ns) kept.all kept.are_names k d.name (subst (λ n. k < n) (sym (length-map xs (λ (i : DeclaredInterface). i.name))) h))

-- the tables have the names of the interfaces
pub names_of-tables : (xs : List DeclaredInterface) → map (λ (t : InterfaceTable). t.name) (map interface_table xs) ≡ names_of xs
unfolding interface_table
names_of-tables [] = refl
names_of-tables (x ∷ xs) = ap (λ ns. x.name ∷ ns) (names_of-tables xs)

-- one command on: what refuses the first of what is left, or else the rest; and what all of them state
pub command-refused : (draft : DraftedComponent) (commands : List (List Word)) (i : ℕ) (words : List Word) (refusal : Refusal) → slice_get commands i ≡ Some words
    → component_refusal draft words ≡ Some refusal → first_component_refusal draft (drop i commands) ≡ Some refusal
command-refused draft commands i words refusal at some =
    at_drop_more (first_component_refusal draft) commands i words (slice_get_within commands i words at)
    ∙ ap (λ (w : List Word). first_component_refusal draft (w ∷ drop (i + 1) commands)) (get_or_from_slice_get commands i words words at)
    ∙ ap (λ o. option_or o (first_component_refusal (component_after draft words) (drop (i + 1) commands))) some

pub command-accepted : (draft : DraftedComponent) (commands : List (List Word)) (i : ℕ) (words : List Word) → slice_get commands i ≡ Some words
    → component_refusal draft words ≡ None → first_component_refusal draft (drop i commands) ≡ first_component_refusal (component_after draft words) (drop (i + 1) commands)
command-accepted draft commands i words at none =
    at_drop_more (first_component_refusal draft) commands i words (slice_get_within commands i words at)
    ∙ ap (λ (w : List Word). first_component_refusal draft (w ∷ drop (i + 1) commands)) (get_or_from_slice_get commands i words words at)
    ∙ ap (λ o. option_or o (first_component_refusal (component_after draft words) (drop (i + 1) commands))) none

pub command-stated : (draft : DraftedComponent) (commands : List (List Word)) (i : ℕ) (words : List Word) → slice_get commands i ≡ Some words
    → component_after_all draft (drop i commands) ≡ component_after_all (component_after draft words) (drop (i + 1) commands)
command-stated draft commands i words at =
    at_drop_more (component_after_all draft) commands i words (slice_get_within commands i words at)
    ∙ ap (λ (w : List Word). component_after_all draft (w ∷ drop (i + 1) commands)) (get_or_from_slice_get commands i words words at)

-- a fault that is the refusal of the first commands is the component's
pub IsFaultOf-first : (script : Script) (first : Option Refusal) (fault : ScriptFault) → first_component_refusal empty_component_draft script.commands ≡ first → IsRefusal fault first
    → IsFaultOf fault (component_of script)
unfolding component_of
IsFaultOf-first script first (Refused place rule) e h =
    ap (λ o. judged o (ended script.end (component_after_all empty_component_draft script.commands))) (e ∙ h)
IsFaultOf-first script first NoMemory e h = tt

pub component_of-ended : (script : Script) (draft : DraftedComponent) → first_component_refusal empty_component_draft script.commands ≡ None → component_after_all empty_component_draft script.commands ≡ draft
    → component_of script ≡ ended script.end draft
unfolding component_of
component_of-ended script draft none same =
    ap (λ o. judged o (ended script.end (component_after_all empty_component_draft script.commands))) none ∙ ap (ended script.end) same

-- a fault of the next command is the component's, where nothing before it is refused
pub fault_of_next : (script : Script) (draft : DraftedComponent) (i : ℕ) (words : List Word) (fault : ScriptFault)
    → first_component_refusal empty_component_draft script.commands ≡ first_component_refusal draft (drop i script.commands) → slice_get script.commands i ≡ Some words
    → IsRefusal fault (component_refusal draft words) → IsFaultOf fault (component_of script)
fault_of_next script draft i words (Refused place rule) so_far at h =
    IsFaultOf-first script (Some (record { place = place; rule = rule })) (Refused place rule) (so_far ∙ command-refused draft script.commands i words (record { place = place; rule = rule }) at h) refl
fault_of_next script draft i words NoMemory so_far at h = tt

-- behind the last command, what was stated decides
pub component_of-all : (script : Script) (draft : DraftedComponent) (i : ℕ) (end : Place) → length script.commands ≤ i → end ≡ script.end
    → first_component_refusal empty_component_draft script.commands ≡ first_component_refusal draft (drop i script.commands)
    → component_after_all empty_component_draft script.commands ≡ component_after_all draft (drop i script.commands)
    → component_of script ≡ ended end draft
component_of-all script draft i end past at refusal states =
    component_of-ended script draft (refusal ∙ at_drop_all (first_component_refusal draft) script.commands i past) (states ∙ at_drop_all (component_after_all draft) script.commands i past)
    ∙ ap (λ e. ended e draft) (sym at)

pub IsFaultOf-along : (answer same : Result ComponentTable Refusal) (fault : ScriptFault) → answer ≡ same → IsFaultOf fault same → IsFaultOf fault answer
IsFaultOf-along answer same fault e h = subst (IsFaultOf fault) (sym e) h
