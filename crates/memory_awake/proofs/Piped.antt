-- In a pipe of stages each boundary carries legal commands, owed answers and words under the tags of their reads.
use Rattle.std.proofs.Common.{ℕ, zero, suc, ◌<◌, ◌≤◌, ◌≡◌, ◌+◌, ◌-◌, [], ◌++◌, arith, sym, ap, ap₂, ◌∙◌, subst}
use Rattle.histories.specs.History.{IsPrefix, only_if, is_raised}
use Rattle.histories.specs.Laws.{prefix_refl, prefix_trans, prefix_length, prefix_flat_map, prefix_filter, before_extends}
use Rattle.memory_runs.specs.Legal.{Word}
use Rattle.memory_machines.specs.Link.{Target, Port, KeepsLinkLaw, AreLegalAt, AnswersAreOwed, taken_at, shown_at}
use Rattle.memory_machines.specs.Lines.{TaggedPort, AreTaggedInOrder, word_tags, asked_tags}
use Rattle.memory_machines.specs.Machines.{Stage, above, below, RunsAsStage}
use Rattle.memory_machines.specs.Shorter.{legal_at_before}
use Rattle.memory_machines.specs.SideLaws.{taken_is_shown, same_counts}
use Rattle.memory_awake.specs.Theorem.{IsStageBetween}
use Rattle.memory_awake.proofs.Owed.{all_words, all_asked}
use Rattle.memory_awake.proofs.StageLine.{words_are}

pub record StageLaws : Type 0 where
  pub link : (stage : Stage) → RunsAsStage stage → (target : Target) (end : ℕ) → 0 < stage.shape.word_bytes → KeepsLinkLaw target stage.depth (above stage) (below stage) end
  pub later : (stage : Stage) → RunsAsStage stage → (end : ℕ) → AreLegalAt (above stage) end → (c : ℕ) → c < end → IsPrefix (shown_at (below stage) (suc c)) (taken_at (above stage) c)

module _ (laws : StageLaws) (target : Target) (lower : ℕ → TaggedPort) (stage : ℕ → Stage) (n end : ℕ) (is : (i : ℕ) → i < n → IsStageBetween (stage i) (lower (suc i)) (lower i)) (some : 0 < (lower 0).shape.word_bytes)
    (top : AreLegalAt (lower n).port end) (bottom : AreTaggedInOrder (lower 0) end) where
  law : (i : ℕ) → i < n → KeepsLinkLaw target (stage i).depth (lower (suc i)).port (lower i).port end
  law i low =
      let here = laws.link (stage i) (is i low).runs target end (large (stage i).shape.word_bytes (lower 0).shape.word_bytes (ap (λ (p : Port). p.shape.word_bytes) (is i low).down_is ∙ words_are lower stage n is i (omega (arith, low))) some) in
      subst (λ p. KeepsLinkLaw target (stage i).depth p (lower i).port end) (is i low).up_is (subst (λ p. KeepsLinkLaw target (stage i).depth (above (stage i)) p end) (is i low).down_is here)
    where
      large : (a b : ℕ) → a ≡ b → 0 < b → 0 < a
      large a b same h = omega (arith, same, h)

  bottom_owed : (c : ℕ) → c ≤ end → AnswersAreOwed (lower 0).port c
  bottom_owed c low k fit =
      let p = prefix_length (bottom k (omega (arith, low, fit))) in
      let left = all_words (lower 0) (suc k) in
      let right = all_asked (taken_at (lower 0).port k) in
      let count = same_counts {B = Word} (λ c. is_raised ((lower 0).answers.valid c)) (λ c. c) (λ c. record { word = (lower 0).answers.word c; code = (lower 0).answers.code c }) (suc k) in
      omega (arith, p, left, right, count)

  legal_down : (c : ℕ) → c ≤ end → ((i : ℕ) → i ≤ n → AnswersAreOwed (lower i).port (c - 1)) → (d i : ℕ) → i + d ≡ n → AreLegalAt (lower i).port c
  legal_down c low owed zero i sum = let same : n ≡ i = omega (arith, sum) in subst (λ k. AreLegalAt (lower k).port c) same (legal_at_before (lower n).port c end low top)
  legal_down c low owed (suc d) i sum =
      let more = legal_down c low owed d (suc i) (omega (arith, sum)) in
      ((law i (omega (arith, sum))).commands c low more (owed i (omega (arith, sum)))).legal

  owed_up : (c : ℕ) → c ≤ end → ((i : ℕ) → i ≤ n → AreLegalAt (lower i).port c) → (i : ℕ) → i ≤ n → AnswersAreOwed (lower i).port c
  owed_up c low legal zero fit = bottom_owed c low
  owed_up c low legal (suc i) fit = ((law i fit).answers c low (legal (suc i) fit) (owed_up c low legal i (omega (arith, fit)))).owed

  legal_by : (c : ℕ) → c ≤ end → ((i : ℕ) → i ≤ n → AnswersAreOwed (lower i).port (c - 1)) → (i : ℕ) → i ≤ n → AreLegalAt (lower i).port c
  legal_by c low owed i fit = legal_down c low owed (n - i) i (omega (arith, fit))

  owed_at : (c : ℕ) → c ≤ end → (i : ℕ) → i ≤ n → AnswersAreOwed (lower i).port c
  owed_at zero low i fit = λ k less. absurd (omega (arith, less))
  owed_at (suc c) low i fit = owed_up (suc c) low (legal_by (suc c) low (λ i fit. at_last (owed_at c (omega (arith, low))) i fit)) i fit
    where
      at_last : ((i : ℕ) → i ≤ n → AnswersAreOwed (lower i).port c) → (i : ℕ) → i ≤ n → AnswersAreOwed (lower i).port (suc c - 1)
      at_last before i fit = let same : c ≡ suc c - 1 = omega arith in subst (λ k. AnswersAreOwed (lower i).port k) same (before i fit)

  pub legal_at : (i : ℕ) → i ≤ n → AreLegalAt (lower i).port end
  legal_at i fit = legal_by end (omega arith) (λ i fit. owed_at (end - 1) (omega arith) i fit) i fit

  -- a stage hands the words up one cycle later, each with its tag
  tags_later : (i : ℕ) (low : i < n) (c : ℕ) → word_tags (lower (suc i)) (suc c) ≡ word_tags (lower i) c
  tags_later i low zero = ap (λ b. only_if b ((lower (suc i)).answer_tag 0)) (ap (λ (p : Port). is_raised (p.answers.valid 0)) (sym (is i low).up_is) ∙ (is i low).runs.quiet)
  tags_later i low (suc c) = ap₂ (λ l m. l ++ m) (tags_later i low c) (ap₂ (λ v t. only_if (is_raised v) t) valid ((is i low).tags c))
    where
      valid : (lower (suc i)).answers.valid (suc c) ≡ (lower i).answers.valid c
      valid = ap (λ (p : Port). p.answers.valid (suc c)) (sym (is i low).up_is) ∙ (is i low).runs.valid c ∙ ap (λ (p : Port). p.answers.valid c) (is i low).down_is

  taken_front : (i : ℕ) (low : i < n) (c : ℕ) → c < end → IsPrefix (taken_at (lower i).port c) (taken_at (lower (suc i)).port c)
  taken_front i low c fit =
      let shown = taken_is_shown (lower i).port end c (legal_at i (omega (arith, low))) (omega (arith, fit)) in
      let later = laws.later (stage i) (is i low).runs end (subst (λ p. AreLegalAt p end) (sym (is i low).up_is) (legal_at (suc i) low)) c fit in
      let here = subst (λ p. IsPrefix (shown_at (lower i).port (suc c)) (taken_at p c)) (is i low).up_is (subst (λ p. IsPrefix (shown_at p (suc c)) (taken_at (above (stage i)) c)) (is i low).down_is later) in
      prefix_trans shown (prefix_trans (before_extends _ c) here)

  pub tagged_at : (i : ℕ) → i ≤ n → AreTaggedInOrder (lower i) end
  tagged_at zero low = bottom
  tagged_at (suc i) low = go (tagged_at i (omega (arith, low)))
    where
      front : (c : ℕ) → c < end → IsPrefix (asked_tags (taken_at (lower i).port c)) (asked_tags (taken_at (lower (suc i)).port (suc c)))
      front c fit = prefix_flat_map _ (prefix_filter _ (prefix_trans (taken_front i low c fit) (before_extends _ c)))

      go : AreTaggedInOrder (lower i) end → AreTaggedInOrder (lower (suc i)) end
      go down zero fit = subst (λ l. IsPrefix l (asked_tags (taken_at (lower (suc i)).port 0))) (sym (tags_later i low 0)) (prefix_refl [])
      go down (suc c) fit = subst (λ l. IsPrefix l (asked_tags (taken_at (lower (suc i)).port (suc c)))) (sym (tags_later i low (suc c))) (prefix_trans (down c (omega (arith, fit))) (front c (omega (arith, fit))))
