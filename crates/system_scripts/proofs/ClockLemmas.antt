-- The first root of some connections, and the connections of a system, one by one.
use Rattle.std.proofs.Common.{◌≡◌, ℕ, ◌+◌, ◌<◌, Bool, true, false, cond, List, [], ◌∷◌, ◌++◌, length, map, take, drop, get_or, Option, Some, None, refl, sym, ap, ◌∙◌}
use Rattle.std.specs.Option.{option_or}
use Rattle.std.proofs.lemmas.List.{at_drop_more, map-append, append-nil}
use Rattle.std.proofs.lemmas.List.Elements.{filter_more}
use Rattle.iface_roles.specs.Kinds.{is_avalon}
use Rattle.script_words.specs.declared.system.joints.Joint.{Joint}
use Rattle.script_words.specs.declared.system.joints.Terminal.{Terminal}
use Rattle.system_scripts.specs.Clocks.{root_of, system_clock, logic_joints}
use Rattle.system_tables.specs.declared.tables.Connection.{Connection}
use Rattle.script_words.specs.Judgements.{first_some}
use Rattle.system_scripts.specs.System.{DraftedSystem}
use Rattle.component_scripts.specs.Tables.{ComponentTable}

abbrev pub joint_root : List ComponentTable → DraftedSystem → Joint → Option Terminal
joint_root components draft joint = option_or (root_of components draft joint.start) (root_of components draft joint.end)

abbrev pub first_root : List ComponentTable → DraftedSystem → List Joint → Option Terminal
first_root components draft joints = first_some (joint_root components draft) (logic_joints joints)

first_some-cond : {A B : Type 0} (f : A → Option B) (x : A) (xs : List A) (b : Bool) → first_some f (cond b (x ∷ xs) xs) ≡ cond b (option_or (f x) (first_some f xs)) (first_some f xs)
first_some-cond f x xs true = refl
first_some-cond f x xs false = refl

first_root-more : (components : List ComponentTable) (draft : DraftedSystem) (joints : List Joint) (i : ℕ) (d : Joint) → i < length joints
    → first_root components draft (drop i joints)
    ≡ cond (is_avalon (get_or joints i d).kind) (option_or (joint_root components draft (get_or joints i d)) (first_root components draft (drop (i + 1) joints))) (first_root components draft (drop (i + 1) joints))
first_root-more components draft joints i d within =
    at_drop_more (first_root components draft) joints i d within
    ∙ first_some-cond (joint_root components draft) (get_or joints i d) (logic_joints (drop (i + 1) joints)) (is_avalon (get_or joints i d).kind)

-- a connection of hosts or streams decides, where it has a root; the others are passed
pub first_root-found : (components : List ComponentTable) (draft : DraftedSystem) (joints : List Joint) (i : ℕ) (d : Joint) (root : Terminal) → i < length joints
    → is_avalon (get_or joints i d).kind ≡ true → joint_root components draft (get_or joints i d) ≡ Some root
    → first_root components draft (drop i joints) ≡ Some root
first_root-found components draft joints i d root within avalon some =
    first_root-more components draft joints i d within
    ∙ ap (λ b. cond b (option_or (joint_root components draft (get_or joints i d)) (first_root components draft (drop (i + 1) joints))) (first_root components draft (drop (i + 1) joints))) avalon
    ∙ ap (λ o. option_or o (first_root components draft (drop (i + 1) joints))) some

pub first_root-none : (components : List ComponentTable) (draft : DraftedSystem) (joints : List Joint) (i : ℕ) (d : Joint) → i < length joints
    → is_avalon (get_or joints i d).kind ≡ true → joint_root components draft (get_or joints i d) ≡ None
    → first_root components draft (drop i joints) ≡ first_root components draft (drop (i + 1) joints)
first_root-none components draft joints i d within avalon none =
    first_root-more components draft joints i d within
    ∙ ap (λ b. cond b (option_or (joint_root components draft (get_or joints i d)) (first_root components draft (drop (i + 1) joints))) (first_root components draft (drop (i + 1) joints))) avalon
    ∙ ap (λ o. option_or o (first_root components draft (drop (i + 1) joints))) none

pub first_root-passed : (components : List ComponentTable) (draft : DraftedSystem) (joints : List Joint) (i : ℕ) (d : Joint) → i < length joints
    → is_avalon (get_or joints i d).kind ≡ false → first_root components draft (drop i joints) ≡ first_root components draft (drop (i + 1) joints)
first_root-passed components draft joints i d within other =
    first_root-more components draft joints i d within
    ∙ ap (λ b. cond b (option_or (joint_root components draft (get_or joints i d)) (first_root components draft (drop (i + 1) joints))) (first_root components draft (drop (i + 1) joints))) other

pub system_clock-first : (components : List ComponentTable) (draft : DraftedSystem) (joints : List Joint) → joints ≡ draft.joints
    → system_clock components draft ≡ first_root components draft (drop 0 joints)
unfolding system_clock
system_clock-first components draft [] e = ap (first_root components draft) (sym e)
system_clock-first components draft (joint ∷ joints) e = ap (first_root components draft) (sym e)

-- the connections of the system, one more
pub connections-more : (f : Joint → Connection) (joints : List Joint) (i : ℕ) (d : Joint) (connection : Connection) (made : List Connection) → i < length joints
    → is_avalon (get_or joints i d).kind ≡ true → connection ≡ f (get_or joints i d) → made ≡ map f (logic_joints (take i joints)) ++ connection ∷ []
    → made ≡ map f (logic_joints (take (i + 1) joints))
connections-more f joints i d connection made within avalon is pushed =
    pushed
    ∙ ap (λ c. map f (logic_joints (take i joints)) ++ c ∷ []) is
    ∙ sym (ap (map f) (filter_more (λ (joint : Joint). is_avalon joint.kind) joints i d within
    ∙ ap (λ b. logic_joints (take i joints) ++ cond b (get_or joints i d ∷ []) []) avalon)
    ∙ map-append f (logic_joints (take i joints)) (get_or joints i d ∷ []))

pub connections-passed : (f : Joint → Connection) (joints : List Joint) (i : ℕ) (d : Joint) → i < length joints → is_avalon (get_or joints i d).kind ≡ false
    → map f (logic_joints (take i joints)) ≡ map f (logic_joints (take (i + 1) joints))
connections-passed f joints i d within other =
    sym (ap (map f) (filter_more (λ (joint : Joint). is_avalon joint.kind) joints i d within
    ∙ ap (λ b. logic_joints (take i joints) ++ cond b (get_or joints i d ∷ []) []) other
    ∙ append-nil (logic_joints (take i joints))))
