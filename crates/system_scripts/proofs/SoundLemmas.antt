-- What each command of a system file keeps, where nothing refuses it.
use Rattle.std.proofs.Common.{◌≡◌, ◌≢◌, ℕ, zero, suc, Bool, true, false, cond, not, ◌&&◌, ◌||◌, List, [], ◌∷◌, ◌++◌, map, slice_get, Option, Some, None, refl, sym, ap, ◌∙◌, arith, lit<, lit≤}
use Rattle.std.specs.Prelude.{All, IsTrue, is_some, option_and_then, codes}
use Rattle.std.specs.List.{list_any}
use Rattle.std.specs.Option.{option_map, option_map_or}
use Rattle.std.specs.Str.{bytes_eq}
use Rattle.std.proofs.lemmas.Bool.{not-false, or_parts, true≢false}
use Rattle.std.proofs.lemmas.List.Elements.{All-nil, All-cons, All-push, All-weaker}
use Rattle.std.proofs.lemmas.List.Quantifiers.{all_pairs_push}
use Rattle.std.proofs.lemmas.Option.{option_and_then_some}
use Rattle.std.proofs.lemmas.Slice.Eq.{bytes_eq-Decides}
use Rattle.tcl_words.specs.declared.words.Word.{Word}
use Rattle.iface_roles.specs.declared.kinds.Kind.{Kind}
use Rattle.iface_roles.specs.declared.kinds.Side.{Side}
use Rattle.script_words.specs.declared.system.joints.Joint.{Joint}
use Rattle.script_words.specs.declared.system.joints.Terminal.{Terminal}
use Rattle.system_tables.specs.declared.system.Instance.{Instance}
use Rattle.component_scripts.specs.Catalog.{type_place}
use Rattle.system_tables.specs.Names.{is_name}
use Rattle.script_words.specs.Names.{place_of}
use Rattle.script_words.specs.Numbers.{number_of}
use Rattle.system_scripts.specs.Sound.{IsSoundJoint, IsSoundSystemDraft}
use Rattle.system_scripts.specs.System.{DraftedSystem, empty_system_draft, create_checks, create_effect, component_at, instance_checks, instance_effect, requirement_checks, requirement_effect, exported_effect, sort_at, sort_of}
use Rattle.script_words.specs.Commands.{has_word, sets_stages}
use Rattle.component_scripts.specs.Tables.{ComponentTable}
use Rattle.script_words.specs.Words.{text_at, check, refusal_of}
use Rattle.script_words.specs.Laws.{none_fails}
use Rattle.script_words.specs.Laws.{none_passes}
use Rattle.system_scripts.proofs.SystemDraftLemmas.{stages_are_few, instance_is_new}
use Rattle.script_words.specs.declared.rule.CommandRule.TheVariants.{NotAName}

pub sound_nothing : (components : List ComponentTable) → IsSoundSystemDraft components empty_system_draft
sound_nothing components =
    record {
      name = tt;
      stages = lit≤ tt;
      names = All-nil _;
      distinct = λ i j d below within. absurd (omega arith);
      joints = All-nil _;
      apart = λ i j d below within. absurd (omega arith);
    }

-- the name of a created system is a name
created_name : (asked : Bool) (name : List ℕ) → (asked && not (is_name name)) ≡ false → IsTrue (is_name (cond asked name (codes "system")))
unfolding is_name
created_name true name h = not-false (is_name name) h
created_name false name h = refl

pub sound_create : (components : List ComponentTable) (draft : DraftedSystem) (words : List Word) → IsSoundSystemDraft components draft
    → refusal_of words (create_checks draft words) ≡ None → IsSoundSystemDraft components (create_effect draft words)
unfolding create_checks create_effect
sound_create components draft words kept clean =
    let named = none_fails words (create_checks draft words) 0 (check NotAName 1 (has_word words 1 && not (is_name (text_at words 1)))) clean (lit< tt) refl in
    record {
      name = created_name (has_word words 1) (text_at words 1) named;
      stages = kept.stages;
      names = kept.names;
      distinct = kept.distinct;
      joints = kept.joints;
      apart = kept.apart;
    }

-- the items in front stay where they are
slice_get-front : {A : Type 0} (xs more : List A) (k : ℕ) (x : A) → slice_get xs k ≡ Some x → slice_get (xs ++ more) k ≡ Some x
slice_get-front [] more k x h = cc
slice_get-front (y ∷ ys) more zero x h = h
slice_get-front (y ∷ ys) more (suc k) x h = slice_get-front ys more k x h

-- an interface stays what it is as instances are added
sort_at-front : (components : List ComponentTable) (instances more : List Instance) (end : Terminal) (sort : Kind × Side)
    → sort_at components instances end ≡ Some sort → sort_at components (instances ++ more) end ≡ Some sort
unfolding sort_at
sort_at-front components instances more end sort h =
    option_and_then_some _ (component_at components instances end.instance) sort h (λ component there is.
    option_and_then_some _ (slice_get instances end.instance) component there (λ instance at is_component.
    ap (λ o. option_and_then (λ (c : ComponentTable). option_map sort_of (slice_get c.interfaces end.interface)) (option_and_then (λ (i : Instance). slice_get components i.component) o))
    (slice_get-front instances more end.instance instance at)
    ∙ ap (λ o. option_and_then (λ (c : ComponentTable). option_map sort_of (slice_get c.interfaces end.interface)) o) is_component
    ∙ is))

sound_joint-front : (components : List ComponentTable) (instances more : List Instance) (joint : Joint)
    → IsSoundJoint components instances joint → IsSoundJoint components (instances ++ more) joint
sound_joint-front components instances more joint kept =
    record {
      start_side = kept.start_side;
      end_side = kept.end_side;
      start = sort_at-front components instances more joint.start _ kept.start;
      end = sort_at-front components instances more joint.end _ kept.end;
      starts = kept.starts;
      ends = kept.ends;
      base = kept.base;
      some_share = kept.some_share;
      shares = kept.shares;
      fifo = kept.fifo;
    }

-- a test that passes nowhere fails at each item
pub all_fail : {A : Type 0} (p : A → Bool) (xs : List A) → list_any p xs ≡ false → All (λ x. p x ≡ false) xs
all_fail p [] h = All-nil _
all_fail p (x ∷ xs) h = All-cons (λ y. p y ≡ false) x xs (or_parts _ _ h).0 (all_fail p xs (or_parts _ _ h).1)

list_any-map : {A B : Type 0} (p : B → Bool) (f : A → B) (xs : List A) → list_any p (map f xs) ≡ list_any (λ x. p (f x)) xs
list_any-map p f [] = refl
list_any-map p f (x ∷ xs) = ap (λ b. p (f x) || b) (list_any-map p f xs)

-- no instance has the name of one that is added
is_new : (instances : List Instance) (name : List ℕ) → is_some (place_of (map (λ (i : Instance). i.name) instances) name) ≡ false
    → All (λ (i : Instance). i.name ≢ name) instances
is_new instances name h =
    let none : list_any (bytes_eq name) (map (λ (i : Instance). i.name) instances) ≡ false = (none_passes (bytes_eq name) _ h).1 in
    All-weaker (λ (i : Instance). bytes_eq name i.name ≡ false) (λ (i : Instance). i.name ≢ name)
    (λ i fails same. true≢false (sym ((bytes_eq-Decides name i.name).1 (sym same)) ∙ fails))
    instances
    (all_fail (λ (i : Instance). bytes_eq name i.name) instances (sym (list_any-map (bytes_eq name) (λ (i : Instance). i.name) instances) ∙ none))

sound_added : (components : List ComponentTable) (draft : DraftedSystem) (instance : Instance) → IsSoundSystemDraft components draft
    → IsTrue (is_name instance.name) → All (λ (i : Instance). i.name ≢ instance.name) draft.instances
    → IsSoundSystemDraft components (record draft { instances = draft.instances ++ instance ∷ [] })
sound_added components draft instance kept named new =
    record {
      name = kept.name;
      stages = kept.stages;
      names = All-push (λ (i : Instance). IsTrue (is_name i.name)) draft.instances instance kept.names named;
      distinct = all_pairs_push (λ (a b : Instance). a.name ≢ b.name) draft.instances instance kept.distinct new;
      joints = All-weaker (IsSoundJoint components draft.instances) (IsSoundJoint components (draft.instances ++ instance ∷ []))
          (sound_joint-front components draft.instances (instance ∷ [])) draft.joints kept.joints;
      apart = kept.apart;
    }

pub sound_instance : (components : List ComponentTable) (draft : DraftedSystem) (words : List Word) → IsSoundSystemDraft components draft
    → refusal_of words (instance_checks components draft words) ≡ None → IsSoundSystemDraft components (instance_effect components draft words)
unfolding instance_checks instance_effect
sound_instance components draft words kept clean = by (type_place components (text_at words 2))
  where
    named : IsTrue (is_name (text_at words 1))
    named = not-false (is_name (text_at words 1)) (none_fails words (instance_checks components draft words) 0 (check NotAName 1 (not (is_name (text_at words 1)))) clean (lit< tt) refl)

    by : (place : Option ℕ) → IsSoundSystemDraft components (option_map_or (λ component. record draft { instances = draft.instances ++ record { name = text_at words 1; component = component } ∷ [] }) place draft)
    by None = kept
    by (Some component) = sound_added components draft (record { name = text_at words 1; component = component }) kept named (is_new draft.instances (text_at words 1) (instance_is_new components draft words clean))

pub sound_requirement : (components : List ComponentTable) (draft : DraftedSystem) (words : List Word) → IsSoundSystemDraft components draft
    → refusal_of words (requirement_checks draft words) ≡ None → IsSoundSystemDraft components (requirement_effect draft words)
unfolding requirement_effect
sound_requirement components draft words kept clean = by (sets_stages words) (number_of (text_at words 3)) refl refl
  where
    by : (sets : Bool) (number : Option ℕ) → sets_stages words ≡ sets → number_of (text_at words 3) ≡ number
        → IsSoundSystemDraft components (cond sets (option_map_or (λ stages. record draft { stages = stages }) number draft) draft)
    by true (Some stages) e is =
        record {
          name = kept.name;
          stages = stages_are_few draft words stages clean e is;
          names = kept.names;
          distinct = kept.distinct;
          joints = kept.joints;
          apart = kept.apart;
        }
    by true None e is = kept
    by false number e is = kept

pub sound_exported : (components : List ComponentTable) (draft : DraftedSystem) (words : List Word) → IsSoundSystemDraft components draft
    → IsSoundSystemDraft components (exported_effect draft words)
unfolding exported_effect
sound_exported components draft words kept =
    record { name = kept.name; stages = kept.stages; names = kept.names; distinct = kept.distinct; joints = kept.joints; apart = kept.apart }
