-- Reads in a pipe: three at most in each stage, two on their way down and one whose word is on its way up.
use Rattle.std.proofs.Common.{◌≡◌, ℕ, zero, suc, ◌+◌, ◌-◌, ◌*◌, ◌<◌, ◌≤◌, Bool, true, false, ◌&&◌, if◌then◌else◌, nat_eq, List, [], ◌∷◌, ◌++◌, drop, length, refl, sym, subst, ap, ◌∙◌, arith}
use Rattle.histories.specs.History.{is_raised, one_if, only_if}
use Rattle.memory_machines.specs.Lines.{TaggedPort}
use Rattle.memory_machines.specs.Link.{Port, takes}
use Rattle.memory_machines.specs.Machines.{Raw, raw_at, ShowsHead, IsStageRun}
use Rattle.memory_parts.specs.Queue.{takes_read}
use Rattle.memory_links.specs.Pipes.{PipeSides, RunsAsPipe, tagged_side}
use Rattle.link_core.specs.Boundaries.{HasPipe}
use Rattle.mm_fabric.proofs.Unanswered.{StandFor}

-- a read is taken at a side under a tag, and a word comes there under it
abbrev pub taken_under : TaggedPort → ℕ → ℕ → Bool
taken_under side tag c = takes_read side.port c && nat_eq (side.port.commands.tag c) tag

abbrev pub comes_under : TaggedPort → ℕ → ℕ → Bool
comes_under side tag c = is_raised (side.port.answers.valid c) && nat_eq (side.answer_tag c) tag

-- ---- the commands of a stage

abbrev is_under : ℕ → Raw → Bool
is_under tag raw = is_raised raw.levels.read && nat_eq raw.tag tag

abbrev reads_under : ℕ → List Raw → ℕ
reads_under tag [] = 0
reads_under tag (raw ∷ later) = one_if (is_under tag raw) + reads_under tag later

bit_most : (t : Bool) → one_if t ≤ 1
bit_most true = omega arith
bit_most false = omega arith

few_under : (tag : ℕ) (queue : List Raw) → reads_under tag queue ≤ length queue
few_under tag [] = omega arith
few_under tag (raw ∷ later) = let rest = few_under tag later in let one = bit_most (is_under tag raw) in omega (arith, rest, one)

both_under : (tag : ℕ) (xs ys : List Raw) → reads_under tag (xs ++ ys) ≡ reads_under tag xs + reads_under tag ys
both_under tag [] ys = omega arith
both_under tag (raw ∷ later) ys = let rest = both_under tag later ys in omega (arith, rest)

only_under : (tag : ℕ) (t : Bool) (raw : Raw) → reads_under tag (only_if t raw) ≡ one_if (t && is_under tag raw)
only_under tag true raw = omega arith
only_under tag false raw = refl

taken_is : (t read own : Bool) → ((t && read) && own) ≡ (t && (read && own))
taken_is true read own = refl
taken_is false read own = refl

-- the head goes where it is taken below
head_goes : (down : Port) (c tag : ℕ) (queue : List Raw) (t : Bool) → ShowsHead down c queue → reads_under tag queue ≤ reads_under tag (drop (if t then 1 else 0) queue) + one_if (t && is_under tag (raw_at down c))
head_goes down c tag [] true h = omega arith
head_goes down c tag [] false h = omega arith
head_goes down c tag (raw ∷ later) true h = subst (λ (r : Raw). one_if (is_under tag raw) + reads_under tag later ≤ reads_under tag later + one_if (is_under tag r)) (sym h.1) (omega arith)
head_goes down c tag (raw ∷ later) false h = omega arith

shorter : (queue : List Raw) (t : Bool) → length (drop (if t then 1 else 0) queue) ≤ length queue
shorter [] true = omega arith
shorter [] false = omega arith
shorter (raw ∷ later) true = omega arith
shorter (raw ∷ later) false = omega arith

long_both : (xs ys : List Raw) → length (xs ++ ys) ≡ length xs + length ys
long_both [] ys = omega arith
long_both (raw ∷ later) ys = let rest = long_both later ys in omega (arith, rest)

room_in : (queue kept : List Raw) (t : Bool) (raw : Raw) → length kept ≤ length queue → length queue ≤ 2 → (t ≡ true → length queue < 2) → length (kept ++ only_if t raw) ≤ 2
room_in queue kept true raw less few room = let both = long_both kept (raw ∷ []) in let low = room refl in omega (arith, less, both, low)
room_in queue kept false raw less few room = let both = long_both kept [] in omega (arith, less, few, both)

-- ---- one stage

stage_step : (held later wait wait_later came came_later word taken gone : ℕ) → (held - word) + gone ≤ later → wait + taken ≤ wait_later + gone → came_later ≡ word → (((held + wait) + came) - came) + taken ≤ (later + wait_later) + came_later
stage_step held later wait wait_later came came_later word taken gone step waits same = omega (arith, step, waits, same)

module _ (up down : TaggedPort) (queue : ℕ → List Raw) (h : IsStageRun 2 up.port down.port queue) (tags : (c : ℕ) → up.answer_tag (suc c) ≡ down.answer_tag c) (tag most : ℕ) (s : StandFor (taken_under down tag) (comes_under down tag) most) where
  few_waiting : (c : ℕ) → length (queue c) ≤ 2
  few_waiting zero = let none = ap (length {A = Raw}) h.begins in omega (arith, none)
  few_waiting (suc c) =
      subst (λ (q : List Raw). length q ≤ 2) (sym (h.next c))
      (room_in (queue c) (drop (if takes down.port c then 1 else 0) (queue c)) (takes up.port c) (raw_at up.port c) (shorter (queue c) (takes down.port c)) (few_waiting c) (h.room c))

  -- those that wait, with what comes and goes
  waiting : (c : ℕ) → reads_under tag (queue c) + one_if (taken_under up tag c) ≤ reads_under tag (queue (suc c)) + one_if (taken_under down tag c)
  waiting c =
      let kept : List Raw = drop (if takes down.port c then 1 else 0) (queue c) in
      let gone : reads_under tag (queue c) ≤ reads_under tag kept + one_if (takes down.port c && is_under tag (raw_at down.port c)) = head_goes down.port c tag (queue c) (takes down.port c) (h.heads c) in
      let both : reads_under tag (kept ++ only_if (takes up.port c) (raw_at up.port c)) ≡ reads_under tag kept + reads_under tag (only_if (takes up.port c) (raw_at up.port c)) = both_under tag kept (only_if (takes up.port c) (raw_at up.port c)) in
      let new : reads_under tag (only_if (takes up.port c) (raw_at up.port c)) ≡ one_if (takes up.port c && is_under tag (raw_at up.port c)) = only_under tag (takes up.port c) (raw_at up.port c) in
      let later : reads_under tag (queue (suc c)) ≡ reads_under tag (kept ++ only_if (takes up.port c) (raw_at up.port c)) = ap (reads_under tag) (h.next c) in
      let below : one_if (taken_under down tag c) ≡ one_if (takes down.port c && is_under tag (raw_at down.port c)) = ap one_if (taken_is (takes down.port c) (is_raised (down.port.commands.read c)) (nat_eq (down.port.commands.tag c) tag)) in
      let above : one_if (taken_under up tag c) ≡ one_if (takes up.port c && is_under tag (raw_at up.port c)) = ap one_if (taken_is (takes up.port c) (is_raised (up.port.commands.read c)) (nat_eq (up.port.commands.tag c) tag)) in
      omega (arith, gone, both, new, later, below, above)

  came_next : (c : ℕ) → comes_under up tag (suc c) ≡ comes_under down tag c
  came_next c = ap (λ v. is_raised v && nat_eq (up.answer_tag (suc c)) tag) (h.valid c) ∙ ap (λ t. is_raised (down.port.answers.valid c) && nat_eq t tag) (tags c)

  pub stage_stands : StandFor (taken_under up tag) (comes_under up tag) (most + 3)
  stage_stands = record {
    held = λ c. (s.held c + reads_under tag (queue c)) + one_if (comes_under up tag c);
    steps = λ c. stage_step (s.held c) (s.held (suc c)) (reads_under tag (queue c)) (reads_under tag (queue (suc c))) (one_if (comes_under up tag c)) (one_if (comes_under up tag (suc c))) (one_if (comes_under down tag c)) (one_if (taken_under up tag c)) (one_if (taken_under down tag c))
        (s.steps c) (waiting c) (ap one_if (came_next c));
    few = λ c. (let low = s.few c in let under = few_under tag (queue c) in let long = few_waiting c in let one = bit_most (comes_under up tag c) in omega (arith, low, under, long, one));
  }

-- ---- all stages

module _ (stages : ℕ) (pipe : PipeSides) (runs : RunsAsPipe stages pipe) (tag most : ℕ) (s : StandFor (taken_under (tagged_side pipe stages) tag) (comes_under (tagged_side pipe stages) tag) most) where
  stands_above : (below i : ℕ) → i + below ≡ stages → StandFor (taken_under (tagged_side pipe i) tag) (comes_under (tagged_side pipe i) tag) (most + 3 * below)
  stands_above zero i e =
      let same : stages ≡ i = omega (arith, e) in
      let none : most ≡ most + 3 * 0 = omega arith in
      subst (λ n. StandFor (taken_under (tagged_side pipe i) tag) (comes_under (tagged_side pipe i) tag) n) none (subst (λ k. StandFor (taken_under (tagged_side pipe k) tag) (comes_under (tagged_side pipe k) tag) most) same s)
  stands_above (suc below) i e =
      let low : i < stages = omega (arith, e) in
      let more : (most + 3 * below) + 3 ≡ most + 3 * suc below = omega arith in
      subst (λ n. StandFor (taken_under (tagged_side pipe i) tag) (comes_under (tagged_side pipe i) tag) n) more
      (stage_stands (tagged_side pipe i) (tagged_side pipe (suc i)) (pipe.queue i) (runs.stage i low) (λ c. runs.answer_tag i c low) tag (most + 3 * below) (stands_above below (suc i) (omega (arith, e))))

pub pipe_stands : (stages : ℕ) (up down : TaggedPort) → HasPipe stages up down → (tag most : ℕ) → StandFor (taken_under down tag) (comes_under down tag) most → StandFor (taken_under up tag) (comes_under up tag) (most + 3 * stages)
pipe_stands stages up down h tag most s =
    subst (λ (side : TaggedPort). StandFor (taken_under side tag) (comes_under side tag) (most + 3 * stages)) h.highest
    (stands_above stages h.pipe h.runs tag most (subst (λ (side : TaggedPort). StandFor (taken_under side tag) (comes_under side tag) most) (sym h.lowest) s) stages 0 (omega arith))
