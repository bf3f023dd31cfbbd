-- What all the commands of a system file keep, where nothing refuses them, and the system that they state.
use Rattle.std.proofs.Common.{◌≡◌, ◌≢◌, ℕ, ◌<◌, ◌≤◌, ◌⊎◌, inl, inr, Bool, true, false, List, [], ◌∷◌, map, get_or, slice_get, Option, Some, None, refl, sym, ap, ◌∙◌, subst, arith}
use Rattle.std.specs.Prelude.{All, AllPairs, IsTrue, IfSome}
use Rattle.std.specs.Option.{option_map, option_map_or, option_or}
use Rattle.std.proofs.lemmas.Bool.{cases_lt}
use Rattle.std.proofs.lemmas.List.Elements.{All-filter, filter_passes}
use Rattle.std.proofs.lemmas.List.Kept.{AllPairs-filter}
use Rattle.std.proofs.lemmas.Map.Made.{AllPairs-from_IsDistinct}
use Rattle.std.proofs.lemmas.Option.{option_and_then_some, some_pair_parts, slice_get-map, slice_get_within, get_or_from_slice_get}
use Rattle.std.proofs.lemmas.Slice.Eq.{bytes_eq-Decides}
use Rattle.tcl_words.specs.declared.words.Word.{Word}
use Rattle.iface_roles.specs.declared.kinds.Kind.{Kind}
use Rattle.iface_roles.specs.declared.kinds.Kind.TheVariants.{Clock, Reset, Mm, Stream, Conduit, Interrupt}
use Rattle.iface_roles.specs.declared.kinds.Side.{Side}
use Rattle.iface_roles.specs.declared.kinds.Side.TheVariants.{Start, End}
use Rattle.iface_roles.specs.declared.records.Finished.{Finished}
use Rattle.iface_roles.specs.declared.records.Finished.TheVariants.{Host, Agent, Source, Sink, Other}
use Rattle.iface_roles.specs.Kinds.{is_avalon}
use Rattle.iface_roles.specs.Proper.{IsProper}
use Rattle.script_words.specs.declared.system.joints.Joint.{Joint}
use Rattle.script_words.specs.declared.system.joints.SystemCommand.{SystemCommand}
use Rattle.script_words.specs.declared.system.joints.SystemCommand.TheVariants.{Package, CreateSystem, AddInstance, AddConnection, SetParameter, AddInterface, SetInterfaceProperty, SetRequirement, SaveSystem, PassedOver}
use Rattle.script_words.specs.declared.system.joints.Terminal.{Terminal}
use Rattle.script_words.specs.declared.judge.Refusal.{Refusal}
use Rattle.system_tables.specs.declared.system.Instance.{Instance}
use Rattle.system_tables.specs.declared.tables.Connection.{Connection}
use Rattle.system_tables.specs.declared.tables.EndId.{EndId}
use Rattle.system_scripts.specs.Clocks.{logic_joints, system_clock, end_id, connection_of, instance_table, stated_system}
use Rattle.script_words.specs.Judgements.{counted}
use Rattle.system_tables.specs.Names.{is_name}
use Rattle.system_scripts.specs.Sound.{IsSoundJoint, AreApart, IsSoundSystemDraft}
use Rattle.system_scripts.specs.System.{DraftedSystem, empty_system_draft, component_at, sort_at, sort_of, system_checks, system_effect, system_refusal_at, system_refusal, system_after, first_system_refusal, system_after_all}
use Rattle.script_words.specs.Commands.{has_sides, system_command}
use Rattle.system_tables.specs.declared.tables.InterfaceTable.{InterfaceTable}
use Rattle.system_tables.specs.Tables.{InstanceTable, IsEnd, Joins, IsLogic, HasNames, IsSystem}
use Rattle.component_scripts.specs.Tables.{ComponentTable, Fits, IsSound, IsComponent}
use Rattle.script_words.specs.Words.{text_at, refusal_of}
use Rattle.system_scripts.proofs.JointLemmas.{sound_connection, sound_setting, option_map_some}
use Rattle.system_scripts.proofs.SoundLemmas.{sound_nothing, sound_create, sound_instance, sound_requirement, sound_exported}

sound_effect : (command : SystemCommand) (components : List ComponentTable) (draft : DraftedSystem) (words : List Word) → IsSoundSystemDraft components draft
    → refusal_of words (system_checks command components draft words) ≡ None → IsSoundSystemDraft components (system_effect command components draft words)
sound_effect Package components draft words kept clean = kept
sound_effect CreateSystem components draft words kept clean = sound_create components draft words kept clean
sound_effect AddInstance components draft words kept clean = sound_instance components draft words kept clean
sound_effect AddConnection components draft words kept clean = sound_connection components draft words kept clean
sound_effect SetParameter components draft words kept clean = sound_setting components draft words kept clean
sound_effect AddInterface components draft words kept clean = sound_exported components draft words kept
sound_effect SetInterfaceProperty components draft words kept clean = kept
sound_effect SetRequirement components draft words kept clean = sound_requirement components draft words kept clean
sound_effect SaveSystem components draft words kept clean = kept
sound_effect PassedOver components draft words kept clean = kept

counted_clean : (right : Bool) (words : List Word) (refusal : Option Refusal) → counted right words refusal ≡ None → refusal ≡ None
counted_clean true words refusal h = h
counted_clean false words refusal h = cc

pub sound_after : (components : List ComponentTable) (draft : DraftedSystem) (words : List Word) → IsSoundSystemDraft components draft
    → system_refusal components draft words ≡ None → IsSoundSystemDraft components (system_after components draft words)
unfolding system_refusal system_after
sound_after components draft words kept clean = by (system_command (text_at words 0)) clean
  where
    by : (o : Option SystemCommand) → system_refusal_at components draft words o ≡ None
        → IsSoundSystemDraft components (option_map_or (λ command. system_effect command components draft words) o draft)
    by None h = kept
    by (Some command) h = sound_effect command components draft words kept (counted_clean _ words _ h)

neither : {A : Type 0} (a b : Option A) → option_or a b ≡ None → (a ≡ None) × (b ≡ None)
neither None b h = (refl, h)
neither (Some x) b h = cc

pub sound_all : (components : List ComponentTable) (draft : DraftedSystem) (commands : List (List Word)) → IsSoundSystemDraft components draft
    → first_system_refusal components draft commands ≡ None → IsSoundSystemDraft components (system_after_all components draft commands)
sound_all components draft [] kept clean = kept
sound_all components draft (words ∷ rest) kept clean =
    let parts = neither (system_refusal components draft words) (first_system_refusal components (system_after components draft words) rest) clean in
    sound_all components (system_after components draft words) rest (sound_after components draft words kept parts.0) parts.1

-- the draft of a file that nothing refuses
pub sound_draft : (components : List ComponentTable) (commands : List (List Word)) → first_system_refusal components empty_system_draft commands ≡ None
    → IsSoundSystemDraft components (system_after_all components empty_system_draft commands)
sound_draft components commands clean = sound_all components empty_system_draft commands (sound_nothing components) clean

-- what holds of each item holds of one
All-at : {A : Type 0} (P : A → Type 0) (xs : List A) (k : ℕ) (x : A) → All P xs → slice_get xs k ≡ Some x → P x
All-at P xs k x all at = subst P (get_or_from_slice_get xs k x x at) (all k x (slice_get_within xs k x at))

pairs_at : {A : Type 0} (R : A → A → Type 0) (xs : List A) (j k : ℕ) (a b : A) → AllPairs R xs → slice_get xs j ≡ Some a → slice_get xs k ≡ Some b
    → j < k → R a b
pairs_at R xs j k a b all first second below =
    subst (λ x. R x b) (get_or_from_slice_get xs j a a first)
    (subst (R (get_or xs j a)) (get_or_from_slice_get xs k b a second) (all j k a below (slice_get_within xs k b second)))

-- two items that stand in no such relation are one
same_place : {A : Type 0} (R : A → A → Type 0) (xs : List A) (j k : ℕ) (a b : A) → AllPairs R xs → slice_get xs j ≡ Some a → slice_get xs k ≡ Some b
    → (R a b → ⊥) → (R b a → ⊥) → j ≡ k
same_place R xs j k a b all first second not_first not_second = by (cases_lt j k) (cases_lt k j)
  where
    by : (j < k) ⊎ (k ≤ j) → (k < j) ⊎ (j ≤ k) → j ≡ k
    by (inl l) other = absurd (not_first (pairs_at R xs j k a b all first second l))
    by (inr l) (inl m) = absurd (not_second (pairs_at R xs k j b a all second first m))
    by (inr l) (inr m) = omega arith

-- the interfaces of a component have names that are distinct
has_names : (components : List ComponentTable) (instance : Instance) → All IsComponent components → IsTrue (is_name instance.name) → HasNames (instance_table components instance)
has_names components instance sound named = by (slice_get components instance.component) refl
  where
    by : (o : Option ComponentTable) → slice_get components instance.component ≡ o
        → HasNames (record { name = instance.name; interfaces = option_map_or (λ (component : ComponentTable). component.interfaces) o [] })
    by None e = record { name = named; interfaces = λ k a h. cc; distinct = λ j k a b h i same. cc }
    by (Some component) e =
        let made = All-at IsComponent components instance.component component sound e in
        let names = map (λ (interface : InterfaceTable). interface.name) component.interfaces in
        let apart = AllPairs-from_IsDistinct bytes_eq-Decides names made.distinct in
        record {
          name = named;
          interfaces = λ k a h. (All-at IsSound component.interfaces k a made.interfaces h).name;
          distinct = λ j k a b h i same.
              same_place (λ x y. x ≢ y) names j k a.name b.name apart
              (slice_get-map (λ (interface : InterfaceTable). interface.name) component.interfaces j ∙ ap (option_map (λ (interface : InterfaceTable). interface.name)) h)
              (slice_get-map (λ (interface : InterfaceTable). interface.name) component.interfaces k ∙ ap (option_map (λ (interface : InterfaceTable). interface.name)) i)
              (λ apart_ab. apart_ab same) (λ apart_ba. apart_ba (sym same));
        }

-- the interface at an end
record Stands (components : List ComponentTable) (instances : List Instance) (end : Terminal) (kind : Kind) (side : Side) : Type 0 where
  instance : Instance
  component : ComponentTable
  interface : InterfaceTable
  instance_is : slice_get instances end.instance ≡ Some instance
  component_is : slice_get components instance.component ≡ Some component
  interface_is : slice_get component.interfaces end.interface ≡ Some interface
  kind_is : interface.kind ≡ kind
  side_is : interface.side ≡ side

stands_at : (components : List ComponentTable) (instances : List Instance) (end : Terminal) (kind : Kind) (side : Side)
    → sort_at components instances end ≡ Some (kind, side) → Stands components instances end kind side
unfolding sort_at
stands_at components instances end kind side h =
    option_and_then_some _ (component_at components instances end.instance) (kind, side) h (λ component there rest.
    option_and_then_some _ (slice_get instances end.instance) component there (λ instance at is_component.
    option_map_some sort_of (slice_get component.interfaces end.interface) (kind, side) rest (λ interface stands is.
    record {
      instance = instance;
      component = component;
      interface = interface;
      instance_is = at;
      component_is = is_component;
      interface_is = stands;
      kind_is = ap (λ (s : Kind × Side). s.0) is;
      side_is = ap (λ (s : Kind × Side). s.1) is;
    })))

-- an interface that stands at an end is that of the system's end
end_known : (components : List ComponentTable) (draft : DraftedSystem) (name : List ℕ) (end : Terminal) (kind : Kind) (side : Side)
    → (s : Stands components draft.instances end kind side) → IsEnd (stated_system components draft name) (end_id end) s.interface.finished
unfolding stated_system
end_known components draft name end kind side s =
    record {
      instance = instance_table components s.instance;
      interface = s.interface;
      instance_is = slice_get-map (instance_table components) draft.instances end.instance ∙ ap (option_map (instance_table components)) s.instance_is;
      interface_is = ap (λ o. slice_get (option_map_or (λ (component : ComponentTable). component.interfaces) o []) end.interface) s.component_is ∙ s.interface_is;
      is = refl;
    }

fits_at : (components : List ComponentTable) (instances : List Instance) (end : Terminal) (kind : Kind) (side : Side) → All IsComponent components
    → (s : Stands components instances end kind side) → IsProper s.interface.finished × Fits kind side s.interface.finished
fits_at components instances end kind side sound s =
    let made = All-at IsComponent components s.instance.component s.component sound s.component_is in
    let of_interface = All-at IsSound s.component.interfaces end.interface s.interface made.interfaces s.interface_is in
    (of_interface.proper, subst (λ k. Fits k side s.interface.finished) s.kind_is (subst (λ d. Fits s.interface.kind d s.interface.finished) s.side_is of_interface.fits))

joins_of : (kind : Kind) (start end : Finished) → is_avalon kind ≡ true → Fits kind Start start → Fits kind End end → Joins kind start end
joins_of Mm (Host a) (Agent b) h f g = tt
joins_of Mm (Host a) (Host b) h f g = g
joins_of Mm (Host a) (Source b) h f g = g
joins_of Mm (Host a) (Sink b) h f g = g
joins_of Mm (Host a) Other h f g = g
joins_of Mm (Agent a) end h f g = absurd f
joins_of Mm (Source a) end h f g = absurd f
joins_of Mm (Sink a) end h f g = absurd f
joins_of Mm Other end h f g = absurd f
joins_of Stream (Source a) (Sink b) h f g = tt
joins_of Stream (Source a) (Host b) h f g = g
joins_of Stream (Source a) (Agent b) h f g = g
joins_of Stream (Source a) (Source b) h f g = g
joins_of Stream (Source a) Other h f g = g
joins_of Stream (Host a) end h f g = absurd f
joins_of Stream (Agent a) end h f g = absurd f
joins_of Stream (Sink a) end h f g = absurd f
joins_of Stream Other end h f g = absurd f
joins_of Clock start end h f g = cc
joins_of Reset start end h f g = cc
joins_of Conduit start end h f g = cc
joins_of Interrupt start end h f g = cc

avalon_sides : (kind : Kind) → is_avalon kind ≡ true → has_sides kind ≡ true
avalon_sides Mm h = refl
avalon_sides Stream h = refl
avalon_sides Clock h = refl
avalon_sides Reset h = h
avalon_sides Conduit h = h
avalon_sides Interrupt h = h

-- a sound connection of hosts or streams is one of the system
is_logic : (components : List ComponentTable) (draft : DraftedSystem) (name : List ℕ) (clock : Option Terminal) (joint : Joint) → All IsComponent components
    → IsSoundJoint components draft.instances joint → is_avalon joint.kind ≡ true
    → IsLogic (stated_system components draft name) (connection_of components draft clock joint)
unfolding connection_of
is_logic components draft name clock joint made sound avalon =
    let sided = avalon_sides joint.kind avalon in
    let start = stands_at components draft.instances joint.start joint.kind sound.start_side sound.start in
    let end = stands_at components draft.instances joint.end joint.kind sound.end_side sound.end in
    let starts = fits_at components draft.instances joint.start joint.kind sound.start_side made start in
    let ends = fits_at components draft.instances joint.end joint.kind sound.end_side made end in
    record {
      start_known = start.interface.finished;
      end_known = end.interface.finished;
      start = end_known components draft name joint.start joint.kind sound.start_side start;
      end = end_known components draft name joint.end joint.kind sound.end_side end;
      joins = joins_of joint.kind start.interface.finished end.interface.finished avalon
          (subst (λ side. Fits joint.kind side start.interface.finished) (sound.starts sided) starts.1)
          (subst (λ side. Fits joint.kind side end.interface.finished) (sound.ends sided) ends.1);
      start_proper = starts.0;
      end_proper = ends.0;
      base = sound.base;
      some_share = sound.some_share;
      shares = sound.shares;
      fifo = sound.fifo;
    }

abbrev terminal_of : EndId → Terminal
terminal_of end = record { instance = end.instance; interface = end.interface }

-- the connection of a draft that a connection of its system is made of
record IsMadeOf (components : List ComponentTable) (draft : DraftedSystem) (k : ℕ) (connection : Connection) : Type 0 where
  joint : Joint
  at : slice_get (logic_joints draft.joints) k ≡ Some joint
  is : connection_of components draft (system_clock components draft) joint ≡ connection
  start : joint.start ≡ terminal_of connection.start
  end : joint.end ≡ terminal_of connection.end
  kind : joint.kind ≡ connection.kind

made_of_joint : (components : List ComponentTable) (draft : DraftedSystem) (name : List ℕ) (k : ℕ) (connection : Connection)
    → slice_get (stated_system components draft name).connections k ≡ Some connection → IsMadeOf components draft k connection
unfolding stated_system connection_of
made_of_joint components draft name k connection h =
    option_map_some (connection_of components draft (system_clock components draft)) (slice_get (logic_joints draft.joints) k) connection
    (sym (slice_get-map (connection_of components draft (system_clock components draft)) (logic_joints draft.joints) k) ∙ h)
    (λ joint at is. record {
      joint = joint;
      at = at;
      is = is;
      start = ap (λ (c : Connection). terminal_of c.start) is;
      end = ap (λ (c : Connection). terminal_of c.end) is;
      kind = ap (λ (c : Connection). c.kind) is;
    })

-- what is known of the connections of a system that are made of two connections of the draft
record Are (components : List ComponentTable) (draft : DraftedSystem) (j k : ℕ) (a b : Connection) : Type 0 where
  first : IsMadeOf components draft j a
  second : IsMadeOf components draft k b
  first_sound : IsSoundJoint components draft.instances first.joint
  second_sound : IsSoundJoint components draft.instances second.joint

-- connections of which none stands apart from the other are one
one_place : (components : List ComponentTable) (draft : DraftedSystem) (j k : ℕ) (a b : Connection) → IsSoundSystemDraft components draft → (both : Are components draft j k a b)
    → (AreApart both.first.joint both.second.joint → ⊥) → (AreApart both.second.joint both.first.joint → ⊥) → j ≡ k
one_place components draft j k a b kept both =
    same_place AreApart (logic_joints draft.joints) j k both.first.joint both.second.joint
    (AllPairs-filter AreApart (λ (joint : Joint). is_avalon joint.kind) draft.joints kept.apart) both.first.at both.second.at

are_sound : (components : List ComponentTable) (draft : DraftedSystem) (name : List ℕ) (j k : ℕ) (a b : Connection) → IsSoundSystemDraft components draft
    → slice_get (stated_system components draft name).connections j ≡ Some a → slice_get (stated_system components draft name).connections k ≡ Some b
    → Are components draft j k a b
are_sound components draft name j k a b kept at_a at_b =
    let first = made_of_joint components draft name j a at_a in
    let second = made_of_joint components draft name k b at_b in
    let all = All-filter (λ (joint : Joint). is_avalon joint.kind) (IsSoundJoint components draft.instances) draft.joints kept.joints in
    record {
      first = first;
      second = second;
      first_sound = All-at (IsSoundJoint components draft.instances) (logic_joints draft.joints) j first.joint all first.at;
      second_sound = All-at (IsSoundJoint components draft.instances) (logic_joints draft.joints) k second.joint all second.at;
    }

-- at one end connections have one kind
same_kind_at : (components : List ComponentTable) (instances : List Instance) (a b : Terminal) (kind other : Kind) (side turn : Side)
    → a ≡ b → sort_at components instances a ≡ Some (kind, side) → sort_at components instances b ≡ Some (other, turn) → kind ≡ other
same_kind_at components instances a b kind other side turn same first second =
    (some_pair_parts kind other side turn (sym first ∙ ap (λ e. sort_at components instances e) same ∙ second)).0

pub stated_is_system : (components : List ComponentTable) (draft : DraftedSystem) (name : List ℕ) → All IsComponent components → IsSoundSystemDraft components draft
    → draft.name ≡ Some name → IsSystem (stated_system components draft name)
unfolding stated_system
stated_is_system components draft name made kept named =
    record {
      name = subst (λ o. IfSome o (λ (n : List ℕ). IsTrue (is_name n))) named kept.name;
      stages = kept.stages;
      instances = λ k a h. option_map_some (instance_table components) (slice_get draft.instances k) a (sym (slice_get-map (instance_table components) draft.instances k) ∙ h)
          (λ instance at is. subst HasNames is (has_names components instance made (All-at (λ (i : Instance). IsTrue (is_name i.name)) draft.instances k instance kept.names at)));
      distinct = λ j k a b h i same.
          option_map_some (instance_table components) (slice_get draft.instances j) a (sym (slice_get-map (instance_table components) draft.instances j) ∙ h) (λ first at_first is_first.
          option_map_some (instance_table components) (slice_get draft.instances k) b (sym (slice_get-map (instance_table components) draft.instances k) ∙ i) (λ second at_second is_second.
          let one : first.name ≡ second.name = ap (λ (t : InstanceTable). t.name) is_first ∙ same ∙ sym (ap (λ (t : InstanceTable). t.name) is_second) in
          same_place (λ (x y : Instance). x.name ≢ y.name) draft.instances j k first second kept.distinct at_first at_second (λ apart. apart one) (λ apart. apart (sym one))));
      connections = λ k a h.
          let from = made_of_joint components draft name k a h in
          subst (IsLogic (stated_system components draft name)) from.is
          (is_logic components draft name (system_clock components draft) from.joint made
          (All-at (IsSoundJoint components draft.instances) (logic_joints draft.joints) k from.joint (All-filter (λ (joint : Joint). is_avalon joint.kind) (IsSoundJoint components draft.instances) draft.joints kept.joints) from.at)
          (All-at (λ (joint : Joint). is_avalon joint.kind ≡ true) (logic_joints draft.joints) k from.joint (filter_passes (λ (joint : Joint). is_avalon joint.kind) draft.joints) from.at));
      pairs = λ j k a b h i start end.
          let both = are_sound components draft name j k a b kept h i in
          let starts : both.first.joint.start ≡ both.second.joint.start = both.first.start ∙ ap terminal_of start ∙ sym both.second.start in
          let ends : both.first.joint.end ≡ both.second.joint.end = both.first.end ∙ ap terminal_of end ∙ sym both.second.end in
          one_place components draft j k a b kept both (λ apart. apart.ends starts ends) (λ apart. apart.ends (sym starts) (sym ends));
      sources = λ j k a b h i stream start.
          let both = are_sound components draft name j k a b kept h i in
          let starts : both.first.joint.start ≡ both.second.joint.start = both.first.start ∙ ap terminal_of start ∙ sym both.second.start in
          let kinds = same_kind_at components draft.instances both.first.joint.start both.second.joint.start both.first.joint.kind both.second.joint.kind both.first_sound.start_side both.second_sound.start_side starts both.first_sound.start both.second_sound.start in
          one_place components draft j k a b kept both (λ apart. apart.sources (both.first.kind ∙ stream) starts) (λ apart. apart.sources (sym kinds ∙ both.first.kind ∙ stream) (sym starts));
      sinks = λ j k a b h i stream end.
          let both = are_sound components draft name j k a b kept h i in
          let ends : both.first.joint.end ≡ both.second.joint.end = both.first.end ∙ ap terminal_of end ∙ sym both.second.end in
          let kinds = same_kind_at components draft.instances both.first.joint.end both.second.joint.end both.first.joint.kind both.second.joint.kind both.first_sound.end_side both.second_sound.end_side ends both.first_sound.end both.second_sound.end in
          one_place components draft j k a b kept both (λ apart. apart.sinks (both.first.kind ∙ stream) ends) (λ apart. apart.sinks (sym kinds ∙ both.first.kind ∙ stream) (sym ends));
    }
