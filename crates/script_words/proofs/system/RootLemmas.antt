-- The first clock connections to ends, as they are added one by one.
use Rattle.std.proofs.Common.{◌≡◌, ℕ, ◌+◌, ◌<◌, Bool, true, false, cond, not, ◌&&◌, List, [], ◌∷◌, length, take, get_or, Option, Some, None, refl, sym, ap, ◌∙◌}
use Rattle.std.specs.Prelude.{find, is_some}
use Rattle.std.specs.Borrow.{Bor}
use Rattle.std.specs.Option.{option_map, option_or, option_copied}
use Rattle.std.proofs.lemmas.List.{take_more}
use Rattle.std.proofs.lemmas.List.Folds.{find-append}
use Rattle.iface_roles.specs.declared.kinds.Kind.TheVariants.{Clock}
use Rattle.script_words.specs.declared.system.joints.Joint.{Joint}
use Rattle.script_words.specs.declared.system.joints.Terminal.{Terminal}
use Rattle.script_words.specs.Roots.{clocks, source_of, start_for}
use Rattle.script_words.specs.Kinds.{same_kind}
use Rattle.script_words.specs.Joints.{same_end}
use Rattle.script_words.proofs.system.LinkLemmas.{same_end-true, same_end-comm}

or_none : {A : Type 0} (o : Option A) → o ≡ option_or o None
or_none None = refl
or_none (Some x) = refl

-- a start that is added for an end that had none
pub start_for-added : (old new : Terminal → Option Terminal) (end start other : Terminal) → old end ≡ None
    → ((q : Terminal) → new q ≡ cond (same_end end q) (Some start) (old q))
    → new other ≡ option_or (old other) (cond (same_end other end) (Some start) None)
start_for-added old new end start other none update = by (same_end end other) refl
  where
    by : (b : Bool) → same_end end other ≡ b → new other ≡ option_or (old other) (cond (same_end other end) (Some start) None)
    by true e =
        update other ∙ ap (λ b. cond b (Some start) (old other)) e
        ∙ sym (ap (λ b. option_or (old other) (cond b (Some start) None)) (same_end-comm other end ∙ e)
        ∙ ap (λ o. option_or o (Some start)) (ap old (sym (same_end-true end other e)) ∙ none))
    by false e =
        update other ∙ ap (λ b. cond b (Some start) (old other)) e
        ∙ or_none (old other)
        ∙ sym (ap (λ b. option_or (old other) (cond b (Some start) None)) (same_end-comm other end ∙ e))

option_map-or : {A B : Type 0} (f : A → B) (a b : Option A) → option_map f (option_or a b) ≡ option_or (option_map f a) (option_map f b)
option_map-or f None b = refl
option_map-or f (Some x) b = refl

start_alone : (joint : Joint) (b : Bool) → option_map (λ (j : Joint). j.start) (cond b (Some joint) None) ≡ cond b (Some joint.start) None
start_alone joint true = refl
start_alone joint false = refl

-- one connection more
source_of-more : (joints : List Joint) (i : ℕ) (d : Joint) (end : Terminal) → i < length joints
    → source_of (take (i + 1) joints) end ≡ option_or (source_of (take i joints) end) (cond (clocks end (get_or joints i d)) (Some (get_or joints i d).start) None)
source_of-more joints i d end within =
    ap (λ (xs : List Joint). source_of xs end) (take_more joints i d within)
    ∙ ap (option_map (λ (j : Joint). j.start)) (find-append (clocks end) (take i joints) (get_or joints i d ∷ []))
    ∙ option_map-or (λ (j : Joint). j.start) (find (clocks end) (take i joints)) (cond (clocks end (get_or joints i d)) (Some (get_or joints i d)) None)
    ∙ ap (option_or (source_of (take i joints) end)) (start_alone (get_or joints i d) (clocks end (get_or joints i d)))

-- a connection of another kind changes no root
pub source_of-passed : (joints : List Joint) (i : ℕ) (d : Joint) (end : Terminal) → i < length joints
    → same_kind (get_or joints i d).kind Clock ≡ false → source_of (take i joints) end ≡ source_of (take (i + 1) joints) end
source_of-passed joints i d end within other =
    sym (source_of-more joints i d end within
    ∙ ap (λ b. option_or (source_of (take i joints) end) (cond (b && same_end end (get_or joints i d).end) (Some (get_or joints i d).start) None)) other
    ∙ sym (or_none (source_of (take i joints) end)))

source_of-clock : (joints : List Joint) (i : ℕ) (d : Joint) (end : Terminal) → i < length joints
    → same_kind (get_or joints i d).kind Clock ≡ true
    → option_or (source_of (take i joints) end) (cond (same_end end (get_or joints i d).end) (Some (get_or joints i d).start) None) ≡ source_of (take (i + 1) joints) end
source_of-clock joints i d end within clock =
    sym (source_of-more joints i d end within
    ∙ ap (λ b. option_or (source_of (take i joints) end) (cond (b && same_end end (get_or joints i d).end) (Some (get_or joints i d).start) None)) clock)

-- nothing is found where no reference is
pub none_from : (r : Option (Bor Terminal)) (o : Option Terminal) (none : Bool) → option_copied r ≡ o → is_some r ≡ not none → none ≡ true → o ≡ None
none_from None o none e h t = sym e
none_from (Some x) o none e h t = cc

pub start_for-clock : (joints : List Joint) (i : ℕ) (d : Joint) (end : Terminal) (old new : List (Terminal × Terminal)) → i < length joints
    → same_kind (get_or joints i d).kind Clock ≡ true → start_for old end ≡ source_of (take i joints) end
    → start_for new end ≡ option_or (start_for old end) (cond (same_end end (get_or joints i d).end) (Some (get_or joints i d).start) None)
    → start_for new end ≡ source_of (take (i + 1) joints) end
start_for-clock joints i d end old new within clock kept added =
    added ∙ ap (λ o. option_or o (cond (same_end end (get_or joints i d).end) (Some (get_or joints i d).start) None)) kept ∙ source_of-clock joints i d end within clock
