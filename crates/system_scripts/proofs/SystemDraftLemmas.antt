-- What a system's commands are asked, where nothing refuses them, and what they state.
use Rattle.std.proofs.Common.{◌≡◌, ℕ, zero, suc, ◌+◌, ◌<◌, ◌≤◌, Bool, true, false, ◌&&◌, List, [], ◌∷◌, map, drop, set, get_or, slice_get, Option, Some, None, nat_lt, lit<, refl, sym, ap, ◌∙◌, arith}
use Rattle.std.specs.Prelude.{◌||◌, position, is_some, if◌then◌else◌, length}
use Rattle.std.specs.List.{list_any}
use Rattle.std.specs.Option.{option_map, option_map_or, option_or}
use Rattle.std.proofs.Math.Seq.{map-set_same}
use Rattle.std.proofs.lemmas.Bool.Decides.{nat_tests}
use Rattle.std.proofs.lemmas.List.{at_drop_more}
use Rattle.std.proofs.lemmas.Option.{option_and_then_some, slice_get-get_or, slice_get_within, get_or_from_slice_get}
use Rattle.tcl_words.specs.declared.words.Word.{Word}
use Rattle.iface_roles.specs.declared.kinds.Kind.{Kind}
use Rattle.iface_roles.specs.declared.kinds.Kind.TheVariants.{Stream}
use Rattle.iface_roles.specs.Kinds.{is_avalon}
use Rattle.script_words.specs.declared.rule.CommandRule.TheVariants.{Taken, OutOfRange}
use Rattle.script_words.specs.declared.faults.ScriptFault.{ScriptFault}
use Rattle.script_words.specs.declared.faults.ScriptFault.TheVariants.{Refused, NoMemory}
use Rattle.script_words.specs.declared.system.joints.Joint.{Joint}
use Rattle.script_words.specs.declared.system.joints.Link.{Link}
use Rattle.script_words.specs.declared.system.joints.Parameter.{Parameter}
use Rattle.script_words.specs.declared.system.joints.Parameter.TheVariants.{BaseAddress, ArbitrationPriority, FifoDepth, DefaultConnection}
use Rattle.script_words.specs.declared.system.joints.Terminal.{Terminal}
use Rattle.script_words.specs.declared.judge.Refusal.{Refusal}
use Rattle.system_scripts.specs.declared.system_draft.SystemDraft.TheInside.{Inside}
use Rattle.system_tables.specs.declared.system.Instance.{Instance}
use Rattle.script_words.specs.Kinds.{same_kind}
use Rattle.script_words.specs.Names.{place_of}
use Rattle.script_words.specs.Numbers.{number_of}
use Rattle.system_scripts.specs.System.{DraftedSystem, IsSystemDraft, requirement_checks, exported_checks, instance_checks, instance_place, connection_checks, first_end, second_end, joins, link_of, end_of, joint_place, kind_of_joint, parameter_checks, parameter_effect, with_parameter, with_number, set_at, system_refusal, system_after, first_system_refusal, system_after_all}
use Rattle.script_words.specs.Commands.{sets_stages, of_both, pair_named, parameter_named, exceeds}
use Rattle.script_words.specs.Joints.{same_end}
use Rattle.component_scripts.specs.Tables.{ComponentTable}
use Rattle.script_words.specs.Words.{IsRefusal, text_at, check, refusal_of}
use Rattle.script_words.specs.Laws.{none_fails, position_within}

pub stages_are_few : (draft : DraftedSystem) (words : List Word) (stages : ℕ) → refusal_of words (requirement_checks draft words) ≡ None
    → sets_stages words ≡ true → number_of (text_at words 3) ≡ Some stages → stages ≤ 4
unfolding requirement_checks
stages_are_few draft words stages clean sets is =
    let passes = none_fails words (requirement_checks draft words) 1 (check OutOfRange 3 (sets_stages words && option_map_or (λ number. nat_lt 4 number) (number_of (text_at words 3)) false)) clean (lit< tt) refl in
    let few : nat_lt 4 stages ≡ false =
    ap (λ o. option_map_or (λ number. nat_lt 4 number) o false) (sym is) ∙ ap (λ b. b && option_map_or (λ number. nat_lt 4 number) (number_of (text_at words 3)) false) (sym sets) ∙ passes in
    grind (arith, nat_tests)

pub exported_is_new : (draft : DraftedSystem) (words : List Word) → refusal_of words (exported_checks draft words) ≡ None
    → is_some (place_of draft.exported (text_at words 1)) ≡ false
unfolding exported_checks
exported_is_new draft words clean =
    none_fails words (exported_checks draft words) 1 (check Taken 1 (is_some (place_of draft.exported (text_at words 1)))) clean (lit< tt) refl

pub instance_is_new : (components : List ComponentTable) (draft : DraftedSystem) (words : List Word) → refusal_of words (instance_checks components draft words) ≡ None
    → is_some (place_of (map (λ (instance : Instance). instance.name) draft.instances) (text_at words 1)) ≡ false
unfolding instance_checks instance_place
instance_is_new components draft words clean =
    none_fails words (instance_checks components draft words) 1 (check Taken 1 (is_some (instance_place draft.instances (text_at words 1)))) clean (lit< tt) refl

pub connection_is_new : (components : List ComponentTable) (draft : DraftedSystem) (words : List Word) (start end : Terminal)
    → refusal_of words (connection_checks components draft words) ≡ None
    → first_end components draft words ≡ Some start → second_end components draft words ≡ Some end
    → is_some (position (joins start end) draft.joints) ≡ false
unfolding connection_checks
connection_is_new components draft words start end clean first second =
    let there : Terminal → Terminal → Bool = λ a b. is_some (position (joins a b) draft.joints) in
    let passes = none_fails words (connection_checks components draft words) 0 (check Taken 0 (of_both (first_end components draft words) (second_end components draft words) there)) clean (lit< tt) refl in
    sym (ap (λ o. of_both o (second_end components draft words) there) first ∙ ap (λ o. of_both (Some start) o there) second) ∙ passes

-- a connection that a word names stands among the connections
pub joint_place-within : (components : List ComponentTable) (draft : DraftedSystem) (text : List ℕ) (k : ℕ) → joint_place components draft text ≡ Some k
    → k < length draft.joints
unfolding joint_place
joint_place-within components draft text k h =
    option_and_then_some _ (pair_named text) k h
    (λ pair _ at_pair. option_and_then_some _ (end_of components draft.instances pair.0) k at_pair
    (λ start _ at_start. option_and_then_some _ (end_of components draft.instances pair.1) k at_start
    (λ end _ at_end. position_within (joins start end) draft.joints k at_end)))

-- what kept fields show
abbrev pub shown : Inside → DraftedSystem
shown kept = record { name = kept.name; stages = kept.stages; instances = kept.instances.items; exported = kept.exported; joints = kept.joints.items }

-- the words set this parameter of the connection at a place
pub record IsSetAt (components : List ComponentTable) (draft : DraftedSystem) (words : List Word) (k : ℕ) (joint : Joint) (parameter : Parameter) : Type 0 where
  pub stands : joint_place components draft (text_at words 1) ≡ Some k
  pub there : joint ≡ get_or draft.joints k joint
  pub named : parameter_named (text_at words 2) ≡ Some parameter

-- a connection's parameter that isn't refused is within its range
pub parameter_not_exceeds : (components : List ComponentTable) (draft : DraftedSystem) (words : List Word) (k : ℕ) (joint : Joint) (parameter : Parameter)
    → IsSetAt components draft words k joint parameter → refusal_of words (parameter_checks components draft words) ≡ None
    → exceeds (text_at words 3) joint.kind parameter ≡ false
unfolding parameter_checks
parameter_not_exceeds components draft words k joint parameter is_set clean =
    let value = text_at words 3 in
    let kind = kind_of_joint draft.joints (joint_place components draft (text_at words 1)) in
    let passes = none_fails words (parameter_checks components draft words) 2 (check OutOfRange 3 (of_both kind (parameter_named (text_at words 2)) (exceeds value))) clean (lit< tt) refl in
    let at : slice_get draft.joints k ≡ Some joint = slice_get-get_or draft.joints k joint (joint_place-within components draft (text_at words 1) k is_set.stands) ∙ ap Some (sym is_set.there) in
    let kind_is : kind ≡ Some joint.kind = ap (kind_of_joint draft.joints) is_set.stands ∙ ap (option_map (λ (j : Joint). j.kind)) at in
    sym (ap (λ o. of_both o (parameter_named (text_at words 2)) (exceeds value)) kind_is ∙ ap (λ o. of_both (Some joint.kind) o (exceeds value)) is_set.named) ∙ passes

set_at-set : (joints : List Joint) (k : ℕ) (change : Joint → Joint) (joint : Joint) → joint ≡ get_or joints k joint
    → set_at joints k change ≡ set joints k (change joint)
set_at-set [] k change joint there = refl
set_at-set (first ∷ rest) zero change joint there = ap (λ j. change j ∷ rest) (sym there)
set_at-set (first ∷ rest) (suc k) change joint there = ap (λ js. first ∷ js) (set_at-set rest k change joint there)

pub parameter_stated : (components : List ComponentTable) (draft : DraftedSystem) (words : List Word) (k : ℕ) (joint : Joint) (parameter : Parameter)
    → IsSetAt components draft words k joint parameter
    → parameter_effect components draft words ≡ record draft { joints = set draft.joints k (with_number words parameter joint) }
unfolding parameter_effect
parameter_stated components draft words k joint parameter is_set =
    let at : ℕ → Option Parameter → DraftedSystem = λ i o. option_map_or (λ p. record draft { joints = set_at draft.joints i (with_number words p) }) o draft in
    ap (λ o. option_map_or (λ i. at i (parameter_named (text_at words 2))) o draft) is_set.stands
    ∙ ap (at k) is_set.named
    ∙ ap (λ (joints : List Joint). record draft { joints = joints }) (set_at-set draft.joints k (with_number words parameter) joint is_set.there)

-- what no parameter changes: a connection's ends and kind
abbrev pub ends_and_kind : Joint → Terminal × Terminal × Kind
ends_and_kind joint = (joint.start, joint.end, joint.kind)

ends_and_kind-with_parameter : (joint : Joint) (parameter : Parameter) (number : ℕ) → ends_and_kind (with_parameter joint parameter number) ≡ ends_and_kind joint
ends_and_kind-with_parameter joint BaseAddress number = refl
ends_and_kind-with_parameter joint ArbitrationPriority number = refl
ends_and_kind-with_parameter joint FifoDepth number = refl
ends_and_kind-with_parameter joint DefaultConnection number = refl

pub ends_and_kind-with_number : (words : List Word) (parameter : Parameter) (joint : Joint) → ends_and_kind (with_number words parameter joint) ≡ ends_and_kind joint
ends_and_kind-with_number words parameter joint = by (is_avalon joint.kind) (number_of (text_at words 3))
  where
    by : (b : Bool) (o : Option ℕ) → ends_and_kind (if b then option_map_or (with_parameter joint parameter) o joint else joint) ≡ ends_and_kind joint
    by true (Some number) = ends_and_kind-with_parameter joint parameter number
    by true None = refl
    by false o = refl

list_any-set_same : {A : Type 0} (p : A → Bool) (xs : List A) (k : ℕ) (old new : A) → old ≡ get_or xs k old → p new ≡ p old
    → list_any p (set xs k new) ≡ list_any p xs
list_any-set_same p [] k old new there same = refl
list_any-set_same p (x ∷ xs) zero old new there same = ap (λ b. b || list_any p xs) (same ∙ ap p there)
list_any-set_same p (x ∷ xs) (suc k) old new there same = ap (λ b. p x || b) (list_any-set_same p xs k old new there same)

-- what is kept of a draft stays: as a parameter is set, as a connection is added
pub IsSystemDraft-set : (names : List (List ℕ)) (links : List Link) (taken : List Terminal) (instances : List Instance) (joints : List Joint) (k : ℕ) (old new : Joint)
    → IsSystemDraft names links taken instances joints → old ≡ get_or joints k old → ends_and_kind new ≡ ends_and_kind old
    → IsSystemDraft names links taken instances (set joints k new)
IsSystemDraft-set names links taken instances joints k old new kept there same =
    let link : Terminal × Terminal × Kind → Link = λ t. record { start = t.0; end = t.1 } in
    record {
      all = kept.all;
      linked = kept.linked ∙ sym (map-set_same link_of joints k new old (ap link same ∙ ap link_of there));
      streams = λ end.
          let takes : Terminal × Terminal × Kind → Bool = λ t. same_kind t.2 Stream && (same_end end t.0 || same_end end t.1) in
          kept.streams end ∙ sym (list_any-set_same (λ joint. takes (ends_and_kind joint)) joints k old new there (ap takes same));
    }

-- one command on: what refuses the first of what is left, or else the rest; and what all of them state
draft-refused : (components : List ComponentTable) (draft : DraftedSystem) (commands : List (List Word)) (i : ℕ) (words : List Word) (refusal : Refusal)
    → slice_get commands i ≡ Some words → system_refusal components draft words ≡ Some refusal
    → first_system_refusal components draft (drop i commands) ≡ Some refusal
draft-refused components draft commands i words refusal at some =
    at_drop_more (first_system_refusal components draft) commands i words (slice_get_within commands i words at)
    ∙ ap (λ (w : List Word). first_system_refusal components draft (w ∷ drop (i + 1) commands)) (get_or_from_slice_get commands i words words at)
    ∙ ap (λ o. option_or o (first_system_refusal components (system_after components draft words) (drop (i + 1) commands))) some

pub draft-accepted : (components : List ComponentTable) (draft : DraftedSystem) (commands : List (List Word)) (i : ℕ) (words : List Word)
    → slice_get commands i ≡ Some words → system_refusal components draft words ≡ None
    → first_system_refusal components draft (drop i commands) ≡ first_system_refusal components (system_after components draft words) (drop (i + 1) commands)
draft-accepted components draft commands i words at none =
    at_drop_more (first_system_refusal components draft) commands i words (slice_get_within commands i words at)
    ∙ ap (λ (w : List Word). first_system_refusal components draft (w ∷ drop (i + 1) commands)) (get_or_from_slice_get commands i words words at)
    ∙ ap (λ o. option_or o (first_system_refusal components (system_after components draft words) (drop (i + 1) commands))) none

pub draft-stated : (components : List ComponentTable) (draft : DraftedSystem) (commands : List (List Word)) (i : ℕ) (words : List Word)
    → slice_get commands i ≡ Some words
    → system_after_all components draft (drop i commands) ≡ system_after_all components (system_after components draft words) (drop (i + 1) commands)
draft-stated components draft commands i words at =
    at_drop_more (system_after_all components draft) commands i words (slice_get_within commands i words at)
    ∙ ap (λ (w : List Word). system_after_all components draft (w ∷ drop (i + 1) commands)) (get_or_from_slice_get commands i words words at)

-- a fault of the next command is that of all, where nothing before it is refused
pub IsRefusal-next : (components : List ComponentTable) (draft : DraftedSystem) (commands : List (List Word)) (i : ℕ) (words : List Word) (fault : ScriptFault) (first : Option Refusal)
    → first ≡ first_system_refusal components draft (drop i commands) → slice_get commands i ≡ Some words
    → IsRefusal fault (system_refusal components draft words) → IsRefusal fault first
IsRefusal-next components draft commands i words (Refused place rule) first so_far at h =
    so_far ∙ draft-refused components draft commands i words (record { place = place; rule = rule }) at h
IsRefusal-next components draft commands i words NoMemory first so_far at h = tt
