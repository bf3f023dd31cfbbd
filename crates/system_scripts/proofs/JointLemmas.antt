-- What a connection's command and the setting of its parameters keep, where nothing refuses them.
use Rattle.std.proofs.Common.{◌≡◌, ℕ, zero, suc, ◌<◌, ◌^◌, Bool, true, false, cond, not, ◌&&◌, ◌||◌, List, [], ◌∷◌, ◌++◌, length, map, get_or, slice_get, drop, nat_eq, Option, Some, None, refl, sym, ap, ◌∙◌, subst, arith, lit<, lit≤, nat_lt, nat_le}
use Rattle.std.specs.Prelude.{All, AllPairs, is_some, position, option_and_then, codes}
use Rattle.std.specs.List.{starts_with}
use Rattle.std.specs.Option.{option_map, option_map_or}
use Rattle.std.specs.Str.{bytes_eq}
use Rattle.std.specs.Str.Parse.{digits_value}
use Rattle.std.proofs.lemmas.Bool.{not-false, or_parts, true≢false, and_parts, leb-true, ltb-true}
use Rattle.std.proofs.lemmas.Bool.Decides.{nat_tests}
use Rattle.std.proofs.lemmas.List.{length-map}
use Rattle.std.proofs.lemmas.List.Elements.{All-cons, All-head, All-tail, All-push, All-weaker}
use Rattle.std.proofs.lemmas.List.Kept.{AllPairs-cons}
use Rattle.std.proofs.lemmas.List.Quantifiers.{all_pairs_push}
use Rattle.std.proofs.lemmas.Option.{option_and_then_some, same_Some, cond_some, get_or_from_slice_get}
use Rattle.tcl_words.specs.declared.words.Word.{Word}
use Rattle.iface_roles.specs.declared.kinds.Kind.{Kind}
use Rattle.iface_roles.specs.declared.kinds.Kind.TheVariants.{Stream}
use Rattle.iface_roles.specs.declared.kinds.Side.{Side}
use Rattle.iface_roles.specs.declared.kinds.Side.TheVariants.{Start, End}
use Rattle.iface_roles.specs.Kinds.{is_avalon}
use Rattle.script_words.specs.declared.system.joints.Joint.{Joint}
use Rattle.script_words.specs.declared.system.joints.Parameter.{Parameter}
use Rattle.script_words.specs.declared.system.joints.Parameter.TheVariants.{BaseAddress, ArbitrationPriority, FifoDepth, DefaultConnection}
use Rattle.script_words.specs.declared.system.joints.Terminal.{Terminal}
use Rattle.system_tables.specs.declared.system.Instance.{Instance}
use Rattle.script_words.specs.Kinds.{same_kind}
use Rattle.script_words.specs.Numbers.{number_of, number_in, is_numeral}
use Rattle.system_scripts.specs.Sound.{IsSoundJoint, AreApart, IsSoundSystemDraft}
use Rattle.system_scripts.specs.System.{DraftedSystem, joins, is_taken, is_start, is_mismatched, component_at, instance_place, end_of, sort_at, sort_of, first_end, second_end, connection_checks, connection_effect, joint_of, joined_at, joint_place, parameter_checks, parameter_effect, with_parameter, with_number, set_at}
use Rattle.script_words.specs.Joints.{same_end}
use Rattle.script_words.specs.Commands.{has_sides, of_both, first_named, second_named, parameter_named, is_number, may_be, exceeds}
use Rattle.system_tables.specs.declared.tables.InterfaceTable.{InterfaceTable}
use Rattle.component_scripts.specs.Tables.{ComponentTable, interface_place}
use Rattle.script_words.specs.Words.{text_at, check, refusal_of}
use Rattle.script_words.specs.Laws.{none_fails, position_within}
use Rattle.script_words.specs.Laws.{none_passes}
use Rattle.system_scripts.proofs.SystemDraftLemmas.{connection_is_new, parameter_not_exceeds, ends_and_kind-with_number}
use Rattle.system_scripts.proofs.SoundLemmas.{all_fail}
use Rattle.script_words.specs.Laws.{same_kind-Decides}
use Rattle.script_words.specs.declared.rule.CommandRule.TheVariants.{UnlikeEnds, StreamTaken}

some_at : {A : Type 0} (xs : List A) (k : ℕ) → k < length xs → (x : A) × (slice_get xs k ≡ Some x)
some_at [] k h = absurd (omega arith)
some_at (x ∷ xs) zero h = (x, refl)
some_at (x ∷ xs) (suc k) h = some_at xs k (omega arith)

pub option_map_some : {A B P : Type 0} (f : A → B) (o : Option A) (y : B) → option_map f o ≡ Some y → ((x : A) → o ≡ Some x → f x ≡ y → P) → P
option_map_some f None y h then_p = cc
option_map_some f (Some x) y h then_p = then_p x refl (same_Some _ _ h)

-- an interface stands at an end that is there
sort_of_end : (components : List ComponentTable) (instances : List Instance) (names : List ℕ × List ℕ) (end : Terminal)
    → end_of components instances names ≡ Some end → (sort : Kind × Side) × (sort_at components instances end ≡ Some sort)
unfolding end_of sort_at interface_place
sort_of_end components instances names end h =
    option_and_then_some _ (instance_place instances names.0) end h (λ k at rest.
    option_and_then_some _ (component_at components instances k) end rest (λ component there named.
    option_map_some _ (interface_place component.interfaces names.1) end named (λ i found is.
    let within : i < length component.interfaces = subst (λ n. i < n) (length-map component.interfaces (λ (t : InterfaceTable). t.name)) (position_within (bytes_eq names.1) (map (λ (t : InterfaceTable). t.name) component.interfaces) i found) in
    let interface = some_at component.interfaces i within in (
      sort_of interface.0,
      ap (λ (e : Terminal). sort_at components instances e) (sym is)
          ∙ ap (option_and_then (λ (c : ComponentTable). option_map sort_of (slice_get c.interfaces i))) there
          ∙ ap (option_map sort_of) interface.1,
    ))))

same_end-same : (a : Terminal) → same_end a a ≡ true
same_end-same a = grind (arith, nat_tests)

start_is : (side : Side) → is_start side ≡ true → side ≡ Start
start_is Start h = refl
start_is End h = cc

end_is : (side : Side) → is_start side ≡ false → side ≡ End
end_is Start h = cc
end_is End h = refl

-- what a match of two sorts says
record Match (start end : Kind × Side) : Type 0 where
  kinds : start.0 ≡ end.0
  starts : has_sides start.0 ≡ true → start.1 ≡ Start
  ends : has_sides start.0 ≡ true → end.1 ≡ End

match_of : (words : List Word) (start end : Kind × Side) → is_mismatched words start end ≡ false → Match start end
match_of words start end h =
    let outer = or_parts _ (has_sides start.0 && (not (is_start start.1) || is_start end.1)) h in
    let inner = or_parts (not (same_kind start.0 end.0)) _ outer.0 in
    let sides : has_sides start.0 ≡ true → (not (is_start start.1) || is_start end.1) ≡ false = λ e. ap (λ b. b && (not (is_start start.1) || is_start end.1)) (sym e) ∙ outer.1 in
    record {
      kinds = (same_kind-Decides start.0 end.0).0 (not-false _ inner.0);
      starts = λ e. start_is start.1 (not-false _ (or_parts _ _ (sides e)).0);
      ends = λ e. end_is end.1 (or_parts (not (is_start start.1)) _ (sides e)).1;
    }

sound_joint_of : (components : List ComponentTable) (instances : List Instance) (words : List Word) (start end : Terminal) (sort other : Kind × Side)
    → sort_at components instances start ≡ Some sort → sort_at components instances end ≡ Some other → is_mismatched words sort other ≡ false
    → IsSoundJoint components instances (joint_of start end sort.0)
sound_joint_of components instances words start end sort other starts ends fits =
    let both = match_of words sort other fits in
    record {
      start_side = sort.1;
      end_side = other.1;
      start = starts;
      end = ends ∙ ap (λ (k : Kind). Some (k, other.1)) (sym both.kinds);
      starts = both.starts;
      ends = both.ends;
      base = lit< tt;
      some_share = lit≤ tt;
      shares = lit≤ tt;
      fifo = lit≤ tt;
    }

-- a connection where none joins these ends, and no stream has one of them
apart_from : (old new : Joint) → joins new.start new.end old ≡ false
    → (same_kind old.kind Stream && (same_end new.start old.start || same_end new.start old.end)) ≡ false
    → (same_kind old.kind Stream && (same_end new.end old.start || same_end new.end old.end)) ≡ false → AreApart old new
apart_from old new joined sources sinks =
    record {
      ends = λ s e. true≢false (sym (ap (λ (a : Terminal). same_end new.start a && same_end new.end old.end) s ∙ ap (λ (b : Terminal). same_end new.start new.start && same_end new.end b) e ∙ ap (λ a. a && same_end new.end new.end) (same_end-same new.start) ∙ same_end-same new.end) ∙ joined);
      sources = λ k s. true≢false (sym (ap (λ (kind : Kind). same_kind kind Stream && (same_end new.start old.start || same_end new.start old.end)) k ∙ ap (λ (a : Terminal). same_end new.start a || same_end new.start old.end) s ∙ ap (λ b. b || same_end new.start old.end) (same_end-same new.start)) ∙ sources);
      sinks = λ k e. true≢false (sym (ap (λ (kind : Kind). same_kind kind Stream && (same_end new.end old.start || same_end new.end old.end)) k ∙ ap (λ (a : Terminal). same_end new.end old.start || same_end new.end a) e ∙ any_or (same_end new.end old.start) (same_end new.end new.end) (same_end-same new.end)) ∙ sinks);
    }
  where
    any_or : (a b : Bool) → b ≡ true → (a || b) ≡ true
    any_or true b e = refl
    any_or false b e = e

sound_joined : (components : List ComponentTable) (draft : DraftedSystem) (joint : Joint) → IsSoundSystemDraft components draft
    → IsSoundJoint components draft.instances joint → ((k : ℕ) (d : Joint) → k < length draft.joints → AreApart (get_or draft.joints k d) joint)
    → IsSoundSystemDraft components (record draft { joints = draft.joints ++ joint ∷ [] })
sound_joined components draft joint kept sound new =
    record {
      name = kept.name;
      stages = kept.stages;
      names = kept.names;
      distinct = kept.distinct;
      joints = All-push (IsSoundJoint components draft.instances) draft.joints joint kept.joints sound;
      apart = all_pairs_push AreApart draft.joints joint kept.apart new;
    }

-- the ends of a connection that isn't refused
record Ends (components : List ComponentTable) (draft : DraftedSystem) (words : List Word) (start end : Terminal) : Type 0 where
  sort : Kind × Side
  other : Kind × Side
  starts : sort_at components draft.instances start ≡ Some sort
  ends : sort_at components draft.instances end ≡ Some other
  fits : is_mismatched words sort other ≡ false
  joined : is_some (position (joins start end) draft.joints) ≡ false
  free : (is_taken draft.joints start || is_taken draft.joints end) ≡ false

ends_of : (components : List ComponentTable) (draft : DraftedSystem) (words : List Word) (start end : Terminal)
    → refusal_of words (connection_checks components draft words) ≡ None
    → first_end components draft words ≡ Some start → second_end components draft words ≡ Some end → Ends components draft words start end
unfolding connection_checks first_end second_end
ends_of components draft words start end clean first second =
    option_and_then_some (end_of components draft.instances) (first_named words) start first (λ names at starts.
    option_and_then_some (end_of components draft.instances) (second_named words) end second (λ others at_other ends.
    let sort = sort_of_end components draft.instances names start starts in
    let other = sort_of_end components draft.instances others end ends in
    let first_sort : option_and_then (sort_at components draft.instances) (first_end components draft words) ≡ Some sort.0 = ap (option_and_then (sort_at components draft.instances)) first ∙ sort.1 in
    let second_sort : option_and_then (sort_at components draft.instances) (second_end components draft words) ≡ Some other.0 = ap (option_and_then (sort_at components draft.instances)) second ∙ other.1 in
    let fits = none_fails words (connection_checks components draft words) 5 (check UnlikeEnds 0 (of_both (option_and_then (sort_at components draft.instances) (first_end components draft words)) (option_and_then (sort_at components draft.instances) (second_end components draft words)) (is_mismatched words))) clean (lit< tt) refl in
    let taken = none_fails words (connection_checks components draft words) 6 (check StreamTaken 0 (of_both (first_end components draft words) (second_end components draft words) (λ a b. is_taken draft.joints a || is_taken draft.joints b))) clean (lit< tt) refl in
    record {
      sort = sort.0;
      other = other.0;
      starts = sort.1;
      ends = other.1;
      fits = both_are first_sort second_sort (is_mismatched words) fits;
      joined = connection_is_new components draft words start end clean first second;
      free = both_are first second (λ a b. is_taken draft.joints a || is_taken draft.joints b) taken;
    }))
  where
    both_are : {A B : Type 0} {a : Option A} {b : Option B} {x : A} {y : B} → a ≡ Some x → b ≡ Some y → (test : A → B → Bool) → of_both a b test ≡ false → test x y ≡ false
    both_are {A} {B} {a} {b} {x} {y} first second test h =
        ap (λ o. of_both o (Some y) test) (sym first) ∙ ap (λ o. of_both a o test) (sym second) ∙ h

-- the new connection stands apart from each that is there
apart_from_all : (joints : List Joint) (start end : Terminal) (kind : Kind) → is_some (position (joins start end) joints) ≡ false
    → (is_taken joints start || is_taken joints end) ≡ false → (k : ℕ) (d : Joint) → k < length joints → AreApart (get_or joints k d) (joint_of start end kind)
apart_from_all joints start end kind joined free k d within =
    let taken = or_parts (is_taken joints start) (is_taken joints end) free in
    apart_from (get_or joints k d) (joint_of start end kind)
    (all_fail (joins start end) joints (none_passes (joins start end) joints joined).1 k d within)
    (all_fail (λ (joint : Joint). same_kind joint.kind Stream && (same_end start joint.start || same_end start joint.end)) joints taken.0 k d within)
    (all_fail (λ (joint : Joint). same_kind joint.kind Stream && (same_end end joint.start || same_end end joint.end)) joints taken.1 k d within)

pub sound_connection : (components : List ComponentTable) (draft : DraftedSystem) (words : List Word) → IsSoundSystemDraft components draft
    → refusal_of words (connection_checks components draft words) ≡ None → IsSoundSystemDraft components (connection_effect components draft words)
unfolding connection_effect
sound_connection components draft words kept clean = by (first_end components draft words) (second_end components draft words) refl refl
  where
    at : (start end : Terminal) → first_end components draft words ≡ Some start → second_end components draft words ≡ Some end
        → IsSoundSystemDraft components (joined_at components draft start end)
    at start end first second =
        let ends = ends_of components draft words start end clean first second in
        subst (λ o. IsSoundSystemDraft components (option_map_or (λ (sort : Kind × Side). record draft { joints = draft.joints ++ joint_of start end sort.0 ∷ [] }) o draft)) (sym ends.starts)
        (sound_joined components draft (joint_of start end ends.sort.0) kept
        (sound_joint_of components draft.instances words start end ends.sort ends.other ends.starts ends.ends ends.fits)
        (apart_from_all draft.joints start end ends.sort.0 ends.joined ends.free))

    by : (first second : Option Terminal) → first_end components draft words ≡ first → second_end components draft words ≡ second
        → IsSoundSystemDraft components (option_map_or (λ start. option_map_or (joined_at components draft start) second draft) first draft)
    by None second e f = kept
    by (Some start) None e f = kept
    by (Some start) (Some end) e f = at start end e f

-- a number that a word writes is below 2^32
number_in-small : (radix : ℕ) (text : List ℕ) (number : ℕ) → number_in radix text ≡ Some number → number < 2 ^ 32
unfolding number_in
number_in-small radix text number h =
    let parts = cond_some _ _ number h in
    let passes = (and_parts (is_numeral radix text) (nat_lt (digits_value radix text) (2 ^ 32)) parts.0).1 in
    subst (λ n. n < 2 ^ 32) parts.1 (ltb-true (digits_value radix text) (2 ^ 32) passes)

number_of-small : (text : List ℕ) (number : ℕ) → number_of text ≡ Some number → number < 2 ^ 32
unfolding number_of
number_of-small text number h = by (starts_with nat_eq text (codes "0x")) h
  where
    by : (b : Bool) → cond b (number_in 16 (drop 2 text)) (number_in 10 text) ≡ Some number → number < 2 ^ 32
    by true e = number_in-small 16 (drop 2 text) number e
    by false e = number_in-small 10 text number e

-- a parameter's setting keeps the ends and the kind
with_number-start : (words : List Word) (parameter : Parameter) (joint : Joint) → (with_number words parameter joint).start ≡ joint.start
with_number-start words parameter joint = ap (λ (t : Terminal × Terminal × Kind). t.0) (ends_and_kind-with_number words parameter joint)

with_number-end : (words : List Word) (parameter : Parameter) (joint : Joint) → (with_number words parameter joint).end ≡ joint.end
with_number-end words parameter joint = ap (λ (t : Terminal × Terminal × Kind). t.1) (ends_and_kind-with_number words parameter joint)

with_number-kind : (words : List Word) (parameter : Parameter) (joint : Joint) → (with_number words parameter joint).kind ≡ joint.kind
with_number-kind words parameter joint = ap (λ (t : Terminal × Terminal × Kind). t.2) (ends_and_kind-with_number words parameter joint)

-- a parameter that doesn't exceed its range is within it
sound_parameter : (components : List ComponentTable) (instances : List Instance) (joint : Joint) (parameter : Parameter) (number : ℕ)
    → IsSoundJoint components instances joint → number < 2 ^ 32
    → (is_number parameter && not (may_be parameter number)) ≡ false
    → IsSoundJoint components instances (with_parameter joint parameter number)
sound_parameter components instances joint BaseAddress number kept small within =
    record { start_side = kept.start_side; end_side = kept.end_side; start = kept.start; end = kept.end; starts = kept.starts; ends = kept.ends; base = small; some_share = kept.some_share; shares = kept.shares; fifo = kept.fifo }
sound_parameter components instances joint ArbitrationPriority number kept small within =
    let range = and_parts (nat_le 1 number) (nat_le number 63) (not-false _ within) in
    record { start_side = kept.start_side; end_side = kept.end_side; start = kept.start; end = kept.end; starts = kept.starts; ends = kept.ends; base = kept.base; some_share = leb-true 1 number range.0; shares = leb-true number 63 range.1; fifo = kept.fifo }
sound_parameter components instances joint FifoDepth number kept small within =
    record { start_side = kept.start_side; end_side = kept.end_side; start = kept.start; end = kept.end; starts = kept.starts; ends = kept.ends; base = kept.base; some_share = kept.some_share; shares = kept.shares; fifo = leb-true number 64 (not-false _ within) }
sound_parameter components instances joint DefaultConnection number kept small within = kept

sound_number : (components : List ComponentTable) (instances : List Instance) (words : List Word) (parameter : Parameter) (joint : Joint)
    → IsSoundJoint components instances joint → exceeds (text_at words 3) joint.kind parameter ≡ false
    → IsSoundJoint components instances (with_number words parameter joint)
sound_number components instances words parameter joint kept within = by (is_avalon joint.kind) (number_of (text_at words 3)) refl refl
  where
    by : (avalon : Bool) (number : Option ℕ) → is_avalon joint.kind ≡ avalon → number_of (text_at words 3) ≡ number
        → IsSoundJoint components instances (cond avalon (option_map_or (with_parameter joint parameter) number joint) joint)
    by true (Some number) e is =
        sound_parameter components instances joint parameter number kept (number_of-small (text_at words 3) number is)
        (ap (λ o. is_number parameter && option_map_or (λ n. not (may_be parameter n)) o false) (sym is)
        ∙ ap (λ a. a && is_number parameter && option_map_or (λ n. not (may_be parameter n)) (number_of (text_at words 3)) false) (sym e)
        ∙ within)
    by true None e is = kept
    by false number e is = kept

-- what holds of each connection holds as one of them changes
All-set_at : (P : Joint → Type 0) (change : Joint → Joint) (xs : List Joint) (k : ℕ) → ((x : Joint) → slice_get xs k ≡ Some x → P x → P (change x))
    → All P xs → All P (set_at xs k change)
All-set_at P change [] k next h = h
All-set_at P change (x ∷ xs) zero next h = All-cons P (change x) xs (next x refl (All-head P x xs h)) (All-tail P x xs h)
All-set_at P change (x ∷ xs) (suc k) next h = All-cons P x (set_at xs k change) (All-head P x xs h) (All-set_at P change xs k next (All-tail P x xs h))

AllPairs-set_at : (R : Joint → Joint → Type 0) (change : Joint → Joint) (xs : List Joint) (k : ℕ) → ((a b : Joint) → R a b → R (change a) b) → ((a b : Joint) → R a b → R a (change b))
    → AllPairs R xs → AllPairs R (set_at xs k change)
AllPairs-set_at R change [] k first second h = h
AllPairs-set_at R change (x ∷ xs) zero first second h =
    AllPairs-cons R (change x) xs (All-weaker (R x) (R (change x)) (first x) xs (λ i d within. h 0 (suc i) d (omega arith) (omega arith)))
    (λ i j d below within. h (suc i) (suc j) d (omega arith) (omega arith))
AllPairs-set_at R change (x ∷ xs) (suc k) first second h =
    AllPairs-cons R x (set_at xs k change) (All-set_at (R x) change xs k (λ y at r. second x y r) (λ i d within. h 0 (suc i) d (omega arith) (omega arith)))
    (AllPairs-set_at R change xs k first second (λ i j d below within. h (suc i) (suc j) d (omega arith) (omega arith)))

apart_first : (words : List Word) (parameter : Parameter) (a b : Joint) → AreApart a b → AreApart (with_number words parameter a) b
apart_first words parameter a b h =
    record {
      ends = λ s e. h.ends (sym (with_number-start words parameter a) ∙ s) (sym (with_number-end words parameter a) ∙ e);
      sources = λ k s. h.sources (sym (with_number-kind words parameter a) ∙ k) (sym (with_number-start words parameter a) ∙ s);
      sinks = λ k e. h.sinks (sym (with_number-kind words parameter a) ∙ k) (sym (with_number-end words parameter a) ∙ e);
    }

apart_second : (words : List Word) (parameter : Parameter) (a b : Joint) → AreApart a b → AreApart a (with_number words parameter b)
apart_second words parameter a b h =
    record {
      ends = λ s e. h.ends (s ∙ with_number-start words parameter b) (e ∙ with_number-end words parameter b);
      sources = λ k s. h.sources k (s ∙ with_number-start words parameter b);
      sinks = λ k e. h.sinks k (e ∙ with_number-end words parameter b);
    }

pub sound_setting : (components : List ComponentTable) (draft : DraftedSystem) (words : List Word) → IsSoundSystemDraft components draft
    → refusal_of words (parameter_checks components draft words) ≡ None → IsSoundSystemDraft components (parameter_effect components draft words)
unfolding parameter_effect
sound_setting components draft words kept clean = by (joint_place components draft (text_at words 1)) (parameter_named (text_at words 2)) refl refl
  where
    by : (place : Option ℕ) (named : Option Parameter) → joint_place components draft (text_at words 1) ≡ place → parameter_named (text_at words 2) ≡ named
        → IsSoundSystemDraft components (option_map_or (λ k. option_map_or (λ parameter. record draft { joints = set_at draft.joints k (with_number words parameter) }) named draft) place draft)
    by None named e f = kept
    by (Some k) None e f = kept
    by (Some k) (Some parameter) e f =
        record {
          name = kept.name;
          stages = kept.stages;
          names = kept.names;
          distinct = kept.distinct;
          joints = All-set_at (IsSoundJoint components draft.instances) (with_number words parameter) draft.joints k
              (λ joint at sound. sound_number components draft.instances words parameter joint sound
              (parameter_not_exceeds components draft words k joint parameter (record { stands = e; there = sym (get_or_from_slice_get draft.joints k joint joint at); named = f }) clean)) kept.joints;
          apart = AllPairs-set_at AreApart (with_number words parameter) draft.joints k (apart_first words parameter) (apart_second words parameter) kept.apart;
        }
