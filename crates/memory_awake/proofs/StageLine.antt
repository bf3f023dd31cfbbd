-- A pipe of stages of at most two places, one behind the other, keeps its line.
use Rattle.std.proofs.Common.{ℕ, zero, suc, ◌≡◌, ◌<◌, ◌≤◌, ◌+◌, ◌*◌, arith, refl, sym, ap, subst, ◌∙◌}
use Rattle.memory_runs.specs.Views.{System}
use Rattle.memory_machines.specs.Link.{Port}
use Rattle.memory_machines.specs.Lines.{TaggedPort, IsPipeLine, Pipe, KeepsPipeLine, joined_pipe}
use Rattle.memory_machines.specs.Machines.{Stage, above, below, RunsAsStage}
use Rattle.memory_awake.specs.Theorem.{IsStageBetween}

pub record PipeLaws : Type 0 where
  pub one : (stage : Stage) (above_tag below_tag : ℕ → ℕ) → RunsAsStage stage → ((c : ℕ) → above_tag (suc c) ≡ below_tag c) → 0 < stage.shape.word_bytes → (system : System) (agent end : ℕ) →
      IsPipeLine system agent stage.depth 1 (record { port = above stage; answer_tag = above_tag }) (record { port = below stage; answer_tag = below_tag }) end
  pub none : (system : System) (agent : ℕ) (port : TaggedPort) (end : ℕ) → IsPipeLine system agent 0 0 port port end
  pub two : (system : System) (agent : ℕ) (first second : Pipe) (up middle down : TaggedPort) (end : ℕ) → KeepsPipeLine system agent first up middle end → KeepsPipeLine system agent second middle down end → KeepsPipeLine system agent (joined_pipe first second) up down end

more_room : (system : System) (agent hold more stages : ℕ) (up down : TaggedPort) (end : ℕ) → hold ≤ more → IsPipeLine system agent hold stages up down end → IsPipeLine system agent more stages up down end
more_room system agent hold more stages up down end few line = record {
  same = line.same;
  commands = λ c h legal owed. let kept = line.commands c h legal owed in record {
    shown = kept.shown;
    taken = kept.taken;
    held = λ h k low fit. (let held = kept.held h k low fit in omega (arith, held, few));
    legal = kept.legal;
    hands_on = kept.hands_on;
  };
  answers = line.answers;
}

-- two beats for each stage
abbrev pub hold_of : ℕ → ℕ
hold_of zero = 0
hold_of (suc n) = 2 + hold_of n

pub hold_is : (n : ℕ) → hold_of n ≡ 2 * n
hold_is zero = refl
hold_is (suc n) = let more = hold_is n in omega (arith, more)

-- all words of a pipe are as large
pub words_are : (lower : ℕ → TaggedPort) (stage : ℕ → Stage) (stages : ℕ) → ((i : ℕ) → i < stages → IsStageBetween (stage i) (lower (suc i)) (lower i)) → (i : ℕ) → i ≤ stages → (lower i).shape.word_bytes ≡ (lower 0).shape.word_bytes
words_are lower stage stages between zero low = refl
words_are lower stage stages between (suc i) low =
    ap (λ (p : Port). p.shape.word_bytes) (sym (between i low).up_is) ∙ ap (λ (p : Port). p.shape.word_bytes) (between i low).down_is ∙ words_are lower stage stages between i (omega (arith, low))

module _ (laws : PipeLaws) (system : System) (agent end : ℕ) (lower : ℕ → TaggedPort) (stage : ℕ → Stage) (stages : ℕ) (between : (i : ℕ) → i < stages → IsStageBetween (stage i) (lower (suc i)) (lower i))
    (some : 0 < (lower 0).shape.word_bytes) where
  stage_line : (i : ℕ) → i < stages → IsPipeLine system agent 2 1 (lower (suc i)) (lower i) end
  stage_line i low =
      let is = between i low in
      let size : (stage i).shape.word_bytes ≡ (lower i).shape.word_bytes = ap (λ (p : Port). p.shape.word_bytes) is.down_is in
      let same = words_are lower stage stages between i (omega (arith, low)) in
      let line = laws.one (stage i) (lower (suc i)).answer_tag (lower i).answer_tag is.runs is.tags (omega (arith, size, same, some)) system agent end in
      more_room system agent (stage i).depth 2 1 (lower (suc i)) (lower i) end is.few
      (subst (λ p. IsPipeLine system agent (stage i).depth 1 (record { port = p; answer_tag = (lower (suc i)).answer_tag }) (lower i) end) is.up_is
      (subst (λ p. IsPipeLine system agent (stage i).depth 1 (record { port = above (stage i); answer_tag = (lower (suc i)).answer_tag }) (record { port = p; answer_tag = (lower i).answer_tag }) end) is.down_is line))

  line_of : (n : ℕ) → n ≤ stages → IsPipeLine system agent (hold_of n) n (lower n) (lower 0) end
  line_of zero low = laws.none system agent (lower 0) end
  line_of (suc n) low =
      let one : 1 + n ≡ suc n = omega arith in
      subst (λ k. IsPipeLine system agent (hold_of (suc n)) k (lower (suc n)) (lower 0) end) one (laws.two system agent (record { hold = 2; stages = 1 }) (record { hold = hold_of n; stages = n }) (lower (suc n)) (lower n) (lower 0) end (stage_line n low) (line_of n (omega (arith, low))))

  pub pipe_line : IsPipeLine system agent (hold_of stages) stages (lower stages) (lower 0) end
  pipe_line = line_of stages (omega arith)
