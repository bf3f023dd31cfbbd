-- A stage with a queue is a pipe of one stage.
use Rattle.std.proofs.Common.{ℕ, zero, suc, ◌≤◌, ◌<◌, ◌≡◌, ◌-◌, ◌+◌, [], ◌∷◌, ◌++◌, List, Bool, true, false, ◌&&◌, if◌then◌else◌, arith, refl, sym, ap, ap₂, ◌∙◌, subst, length, filter, nat_eq, nat_lt}
use Rattle.std.proofs.lemmas.Bool.{le-ltb}
use Rattle.std.proofs.lemmas.List.{length-map, map-append}
use Rattle.std.proofs.lemmas.List.Elements.{filter-append}
use Rattle.histories.specs.Laws.{prefix_trans, unreached_length}
use Rattle.histories.specs.History.{only_if, is_raised, unreached, total}
use Rattle.memory_runs.specs.Views.{System, Shape}
use Rattle.memory_machines.specs.Paths.{CommandView, AnswerView}
use Rattle.memory_machines.specs.Link.{Marked, taken_at}
use Rattle.memory_machines.specs.Lines.{TaggedPort, IsPipeLine, Group, words_with, target_of, group_of, groups_of, with_tag, sizes_of}
use Rattle.memory_machines.specs.Machines.{Raw, raws, idle, marked, burst_of, IsStageRun, port_of}
use Rattle.memory_machines.specs.SideLaws.{taken_is_shown}
use Rattle.memory_links.proofs.Stages.{StageLaws, bounded, taken_split, shown_front, shown_below, legal_down, length_marked, stage_hands_on}

unreached_past : (xs ys : List ℕ) → unreached (xs ++ ys) (total xs) ≤ length ys
unreached_past [] ys = unreached_length ys 0
unreached_past (x ∷ xs) ys =
    let rest = unreached_past xs ys in
    let left : (x + total xs) - x ≡ total xs = omega arith in
    let past : nat_lt (x + total xs) x ≡ false = le-ltb (x + total xs) x (omega arith) in
    rw (left, past) (omega (arith, rest))

kept_length : {A : Type 0} (test : A → Bool) (xs : List A) → length (filter test xs) ≤ length xs
kept_length test [] = omega arith
kept_length test (x ∷ xs) = by_test (test x) (kept_length test xs)
  where
    by_test : (b : Bool) → length (filter test xs) ≤ length xs → length (if b then x ∷ filter test xs else filter test xs) ≤ suc (length xs)
    by_test true rest = omega (arith, rest)
    by_test false rest = omega (arith, rest)

module _ (laws : StageLaws) (depth : ℕ) (shape : Shape) (uc dc : CommandView) (ua da : AnswerView) (queue : ℕ → List Raw) (run : IsStageRun depth (port_of shape uc ua) (port_of shape dc da) queue)
    (above_tag below_tag : ℕ → ℕ) (tags : (c : ℕ) → above_tag (suc c) ≡ below_tag c) (system : System) (agent : ℕ) where
  abbrev above_side : TaggedPort
  above_side = record { port = port_of shape uc ua; answer_tag = above_tag }

  abbrev below_side : TaggedPort
  below_side = record { port = port_of shape dc da; answer_tag = below_tag }

  held : (h c : ℕ) → unreached (sizes_of (groups_of (target_of system agent) shape (with_tag h (taken_at above_side.port c)))) (total (sizes_of (groups_of (target_of system agent) shape (with_tag h (taken_at below_side.port c))))) ≤ depth
  held h c =
      let f = λ (m : Marked). length (group_of (target_of system agent) shape m).operations in
      let q = marked shape (burst_of shape idle (raws below_side.port c)) (queue c) in
      let sizes = λ (ms : List Marked). sizes_of (groups_of (target_of system agent) shape (with_tag h ms)) in
      let split : sizes (taken_at above_side.port c) ≡ sizes (taken_at below_side.port c) ++ sizes q =
      ap sizes (taken_split laws depth shape uc dc ua da queue run c)
      ∙ ap (λ (l : List Marked). sizes_of (groups_of (target_of system agent) shape l)) (filter-append (λ (m : Marked). nat_eq m.tag h) (taken_at below_side.port c) q)
      ∙ ap sizes_of (map-append (group_of (target_of system agent) shape) (with_tag h (taken_at below_side.port c)) (with_tag h q))
      ∙ map-append (λ (g : Group). length g.operations) (groups_of (target_of system agent) shape (with_tag h (taken_at below_side.port c))) (groups_of (target_of system agent) shape (with_tag h q)) in
      let past = unreached_past (sizes (taken_at below_side.port c)) (sizes q) in
      let all : unreached (sizes (taken_at above_side.port c)) (total (sizes (taken_at below_side.port c))) ≤ length (sizes q) = subst (λ l. unreached l (total (sizes (taken_at below_side.port c))) ≤ length (sizes q)) (sym split) past in
      let one = length-map (groups_of (target_of system agent) shape (with_tag h q)) (λ (g : Group). length g.operations) in
      let two = length-map (with_tag h q) (group_of (target_of system agent) shape) in
      let three = kept_length (λ (m : Marked). nat_eq m.tag h) q in
      let four = length_marked shape (burst_of shape idle (raws below_side.port c)) (queue c) in
      let bound = bounded laws depth shape uc dc ua da queue run c in
      omega (arith, all, one, two, three, four, bound)

  tagged_later : (h c : ℕ) → words_with h above_side (suc c) ≡ words_with h below_side c
  tagged_later h zero = ap (λ b. only_if (b && nat_eq (above_tag 0) h) (record { word = ua.word 0; code = ua.code 0 })) run.quiet
  tagged_later h (suc c) =
      ap (λ l. l ++ only_if (is_raised (ua.valid (suc c)) && nat_eq (above_tag (suc c)) h) (record { word = ua.word (suc c); code = ua.code (suc c) })) (tagged_later h c)
      ∙ ap₂ (λ v t. words_with h below_side c ++ only_if (is_raised v && nat_eq t h) (record { word = ua.word (suc c); code = ua.code (suc c) })) (run.valid c) (tags c)
      ∙ ap₂ (λ w k. words_with h below_side c ++ only_if (is_raised (da.valid c) && nat_eq (below_tag c) h) (record { word = w; code = k })) (run.word c) (run.code c)

  delayed : (h c : ℕ) → words_with h above_side c ≡ words_with h below_side (c - 1)
  delayed h zero = refl
  delayed h (suc c) = let back : suc c - 1 ≡ c = omega arith in tagged_later h c ∙ ap (words_with h below_side) (sym back)

  pub stage_is_pipe : 0 < shape.word_bytes → (end : ℕ) → IsPipeLine system agent depth 1 above_side below_side end
  stage_is_pipe some end = record {
    same = refl;
    commands = λ c low legal owed. record {
      shown = λ k less. shown_front laws depth shape uc dc ua da queue run c k legal less;
      taken = λ k less. prefix_trans (taken_is_shown below_side.port c k (legal_down laws depth shape uc dc ua da queue run c some legal) less) (shown_below laws depth shape uc dc ua da queue run c k legal less);
      held = λ h k is less. held h k;
      legal = legal_down laws depth shape uc dc ua da queue run c some legal;
      hands_on = stage_hands_on laws depth shape uc dc ua da queue run c;
    };
    answers = λ c low legal owed h k is less. delayed h k;
  }
