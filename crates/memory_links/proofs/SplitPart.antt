-- What a splitter shows and accepts is a part of the beat that stands above.
use Rattle.std.proofs.Common.{ℕ, suc, ◌<◌, ◌≤◌, ◌≡◌, Bool, true, false, ◌&&◌, List, [], ◌∷◌, ◌++◌, arith, refl, sym, ap, subst, ◌∙◌, length, nat_eq, length-append}
use Rattle.std.proofs.lemmas.Bool.{and_parts, both_ways}
use Rattle.histories.specs.History.{only_if}
use Rattle.memory_runs.specs.Views.{Shape}
use Rattle.memory_runs.specs.Commands.{shows}
use Rattle.memory_machines.specs.Link.{Target, Port, Marked, AreLegalAt, AnswersAreOwed, takes, marked_at, operations_in, is_nonempty, words_at, words_owed}
use Rattle.memory_machines.specs.Machines.{Raw, raw_at, parts_sent, MaySplit}
use Rattle.memory_links.specs.Splits.{SplitState, RunsAsSplit, split_at, split_rest, opens}
use Rattle.memory_links.proofs.Gather.{HasPieces}
use Rattle.memory_links.proofs.OneBeat.{flat_mark, flat_at}
use Rattle.memory_links.proofs.SplitLink.{Carries, carried, one_up, one_down, shut}
use Rattle.memory_links.proofs.SplitParts.{parts_of}
use Rattle.memory_links.proofs.SplitShown.{IsPart, ArePartsOf, ArePartsOf.last_part, ArePartsOf.more_parts, ArePartsOf.no_parts, are_parts, acts, upper_acts}
use Rattle.memory_links.proofs.Splitting.{part_there, accepted_whole, no_parts as none_of, either_of}
use Rattle.memory_links.proofs.SplitWords.{none_owed}

-- ---- a part of a beat

module _ (law : HasPieces) (target : Target) (wide narrow : Shape) (count : ℕ) (may : MaySplit target wide narrow count) where
  abbrev pub PartOf : Raw → Raw → Type 0
  PartOf raw part = IsPart law target wide narrow count may raw part

  no_room : {A : Type 0} (before : List A) (x : A) (after : List A) → [] ≡ before ++ x ∷ after → ⊥
  no_room before x after e = let size = ap length e ∙ length-append before (x ∷ after) in omega (arith, size)

  -- one of the parts is a part, and the last one ends as the beat does
  pub part_in : (raw : Raw) (ps : List Raw) → ArePartsOf law target wide narrow count may raw ps → (before : List Raw) (part : Raw) (after : List Raw) → ps ≡ before ++ part ∷ after → PartOf raw part × (after ≡ [] → part.more ≡ raw.more)
  part_in raw ps (no_parts out) before part after e = absurd (no_room before part after e)
  part_in raw ps (last_part p is more) [] part after e = let same : p ≡ part = cc in (subst (PartOf raw) same is, λ none. ap (λ (r : Raw). r.more) (sym same) ∙ more)
  part_in raw ps (last_part p is more) (b ∷ before) part after e = let rest : [] ≡ before ++ part ∷ after = cc in absurd (no_room before part after rest)
  part_in raw ps (more_parts p next later is more rest) [] part after e =
      let same : p ≡ part = cc in
      let behind : next ∷ later ≡ after = cc in
      (subst (PartOf raw) same is, λ none. (let bad = behind ∙ none in cc))
  part_in raw ps (more_parts p next later is more rest) (b ∷ before) part after e = let behind : next ∷ later ≡ before ++ part ∷ after = cc in part_in raw (next ∷ later) rest before part after behind

module _ (law : HasPieces) (carries : Carries) (target : Target) (count room : ℕ) (up down : Port) (state : SplitState) (may : MaySplit target up.shape down.shape count) (some_room : 0 < room) (run : RunsAsSplit room up down state)
    (end : ℕ) (legal : AreLegalAt up end) where
  pub above_is : (c : ℕ) → c < end → shows up.commands.signals c ≡ true → marked_at up c ≡ flat_mark up.shape (raw_at up c)
  above_is = flat_at up end legal (one_up law carries target count room up down state may some_room run end legal)

  pub there_is : (c : ℕ) → c < end → shows down.commands.signals c ≡ true → marked_at down c ≡ flat_mark down.shape (raw_at down c)
  there_is = flat_at down end (carried law carries target count room up down state may some_room run end legal).legal (one_down law carries target count room up down state may some_room run end legal)

  abbrev pub Acts : Raw → Type 0
  Acts raw = acts law target up.shape down.shape count may raw ≡ true

  pub acts_above : (c : ℕ) → c < end → shows up.commands.signals c ≡ true → is_nonempty (operations_in target up.shape (marked_at up c)) ≡ true → Acts (raw_at up c)
  acts_above c h shown act = sym (upper_acts law target up.shape down.shape count may (raw_at up c)) ∙ ap (λ (m : Marked). is_nonempty (operations_in target up.shape m)) (sym (above_is c h shown)) ∙ act

  pub all_parts : (raw : Raw) → ArePartsOf law target up.shape down.shape count may raw (parts_of up.shape down.shape raw)
  all_parts raw = are_parts law target up.shape down.shape count may raw

  pub part_shown : (c : ℕ) → c < end → shows down.commands.signals c ≡ true → PartOf law target up.shape down.shape count may (raw_at up c) (raw_at down c)
  part_shown c h shown = (part_in law target up.shape down.shape count may (raw_at up c) (split_at up down c) (all_parts (raw_at up c)) (parts_sent up down c) (raw_at down c) (split_rest up down state c) (part_there room up down state run end legal c h shown)).0

  -- with what is accepted its last part is taken
  pub last_taken : (c : ℕ) → c < end → takes up c ≡ true → Acts (raw_at up c) → (takes down c ≡ true) × ((raw_at down c).more ≡ (raw_at up c).more)
  last_taken c h t act = by_take (takes down c) refl (accepted_whole room up down state run end legal c h t)
    where
      by_take : (d : Bool) → takes down c ≡ d → parts_sent up down c ++ only_if (takes down c) (raw_at down c) ≡ split_at up down c → (takes down c ≡ true) × ((raw_at down c).more ≡ (raw_at up c).more)
      by_take true d whole = (
        d,
        (part_in law target up.shape down.shape count may (raw_at up c) (split_at up down c) (all_parts (raw_at up c)) (parts_sent up down c) (raw_at down c) [] (sym whole ∙ ap (λ b. parts_sent up down c ++ only_if b (raw_at down c)) d)).1 refl,
      )
      by_take false d whole =
          let parts = and_parts (shows up.commands.signals c && opens room up down state c) _ (sym (run.accepts c) ∙ t) in
          either_of (nat_eq (length (split_at up down c)) 0) (takes down c && nat_eq (suc (state.place c)) (length (split_at up down c))) parts.1
          (λ empty. absurd (left_out (split_at up down c) (all_parts (raw_at up c)) (none_of (split_at up down c) empty)))
          (λ last. absurd (both_ways (takes down c) d (and_parts (takes down c) _ last).0))
        where
          left_out : (ps : List Raw) → ArePartsOf law target up.shape down.shape count may (raw_at up c) ps → ps ≡ [] → ⊥
          left_out ps (no_parts out) e = both_ways (acts law target up.shape down.shape count may (raw_at up c)) out.acts_not act
          left_out ps (last_part p is more) e = cc
          left_out ps (more_parts p next later is more rest) e = cc

  -- while no word is owed above, what waits is shown in part
  pub shows_there : AnswersAreOwed down end → (c : ℕ) → c < end → shows up.commands.signals c ≡ true → takes up c ≡ false → words_owed up c ≤ length (words_at up c) → shows down.commands.signals c ≡ true
  shows_there owed c h shown not_taken given = by_shown (shows down.commands.signals c) refl
    where
      by_shown : (b : Bool) → shows down.commands.signals c ≡ b → shows down.commands.signals c ≡ true
      by_shown true e = e
      by_shown false e =
          let waits = (shut law carries target count room up down state may some_room run end legal c h shown not_taken e).some in
          let none = none_owed law target count room up down state may run end legal c (omega (arith, h)) (λ k less. owed k (omega (arith, h, less))) given in
          absurd (omega (arith, waits, none))
