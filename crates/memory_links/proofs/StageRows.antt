-- A pipe of any number of stages: its rank, its line, what it shows and how much it holds.
use Rattle.std.proofs.Common.{ℕ, zero, suc, ◌<◌, ◌≤◌, ◌≡◌, ◌+◌, ◌*◌, ◌⊎◌, inl, inr, Bool, true, false, not, ◌&&◌, if◌then◌else◌, IsTrue, [], ◌∷◌, ◌++◌, List, arith, refl, sym, ap, ap₂, ◌∙◌, subst, length, drop, replicate, le_refl, append-nil, length-append}
use Rattle.std.proofs.Math.Nat.{eq-or-lt_of_le, zero-add}
use Rattle.histories.specs.History.{is_raised, only_if}
use Rattle.histories.specs.Laws.{shown_is_accepted_and_standing}
use Rattle.memory_runs.specs.Views.{System}
use Rattle.memory_runs.specs.Commands.{shows}
use Rattle.memory_machines.specs.Link.{Target, Port, AreLegalAt, takes, marked_at, taken_at, shown_at}
use Rattle.memory_machines.specs.Lines.{TaggedPort, IsPipeLine, Pipe, KeepsPipeLine, joined_pipe}
use Rattle.memory_machines.specs.Straight.{KeepsShowing}
use Rattle.memory_machines.specs.Machines.{Raw, raws, raw_at, marked, burst_of, idle, IsStageRun, ShowsHead}
use Rattle.memory_machines.specs.SideLaws.{marked_keeps}
use Rattle.memory_links.proofs.StagePipe.{stage_is_pipe}
use Rattle.memory_links.specs.Going.{RowGoesOn}
use Rattle.memory_links.specs.Going.RowGoesOn.{at_end, further}
use Rattle.memory_links.specs.Pipes.{PipeSides, RunsAsPipe, side_of, tagged_side, stage_pace, HoldsFewBeats}
use Rattle.memory_links.proofs.Stages.{StageLaws, stage_goes_on, legal_down, length_marked, queued, bounded, taken_split}

-- the stages below the highest
abbrev lower_sides : PipeSides → PipeSides
lower_sides pipe = record {
  shape = pipe.shape;
  commands = λ i. pipe.commands (suc i);
  answers = λ i. pipe.answers (suc i);
  answer_tag = λ i. pipe.answer_tag (suc i);
  queue = λ i. pipe.queue (suc i);
}

lower_runs : (stages : ℕ) (pipe : PipeSides) → RunsAsPipe (suc stages) pipe → RunsAsPipe stages (lower_sides pipe)
lower_runs stages pipe runs = record {
  stage = λ i low. runs.stage (suc i) (omega arith);
  opens = λ i c low few. runs.opens (suc i) c (omega arith) few;
  answer_tag = λ i c low. runs.answer_tag (suc i) c (omega arith);
}

pub stages_go_on : StageLaws → (stages : ℕ) (pipe : PipeSides) → RunsAsPipe stages pipe → (target : Target) (end : ℕ) → 0 < pipe.shape.word_bytes → AreLegalAt (side_of pipe 0) end →
    RowGoesOn target end (replicate stages stage_pace) (side_of pipe 0) (side_of pipe stages)
stages_go_on laws zero pipe runs target end some legal = at_end
stages_go_on laws (suc stages) pipe runs target end some legal =
    let first = runs.stage 0 (omega arith) in
    further (stage_goes_on laws 2 pipe.shape (pipe.commands 0) (pipe.commands 1) (pipe.answers 0) (pipe.answers 1) (pipe.queue 0) first (omega arith) (λ c few. runs.opens 0 c (omega arith) few) target end legal
    (legal_down laws 2 pipe.shape (pipe.commands 0) (pipe.commands 1) (pipe.answers 0) (pipe.answers 1) (pipe.queue 0) first end some legal))
    (stages_go_on laws stages (lower_sides pipe) (lower_runs stages pipe runs) target end some (legal_down laws 2 pipe.shape (pipe.commands 0) (pipe.commands 1) (pipe.answers 0) (pipe.answers 1) (pipe.queue 0) first end some legal))

-- ---- the line of a pipe

pub pipe_line : StageLaws → ((system : System) (agent : ℕ) (port : TaggedPort) (end : ℕ) → IsPipeLine system agent 0 0 port port end) →
    ((system : System) (agent : ℕ) (first second : Pipe) (up middle down : TaggedPort) (end : ℕ) → KeepsPipeLine system agent first up middle end → KeepsPipeLine system agent second middle down end → KeepsPipeLine system agent (joined_pipe first second) up down end) →
    (stages : ℕ) (pipe : PipeSides) → RunsAsPipe stages pipe → 0 < pipe.shape.word_bytes → (system : System) (agent end : ℕ) → IsPipeLine system agent (2 * stages) stages (tagged_side pipe 0) (tagged_side pipe stages) end
pipe_line laws no_stage two zero pipe runs some system agent end = no_stage system agent (tagged_side pipe 0) end
pipe_line laws no_stage two (suc stages) pipe runs some system agent end =
    let first : KeepsPipeLine system agent (record { hold = 2; stages = 1 }) (tagged_side pipe 0) (tagged_side pipe 1) end =
    stage_is_pipe laws 2 pipe.shape (pipe.commands 0) (pipe.commands 1) (pipe.answers 0) (pipe.answers 1) (pipe.queue 0) (runs.stage 0 (omega arith)) (pipe.answer_tag 0) (pipe.answer_tag 1) (λ c. runs.answer_tag 0 c (omega arith)) system agent some end in
    let rest : KeepsPipeLine system agent (record { hold = 2 * stages; stages = stages }) (tagged_side pipe 1) (tagged_side pipe (suc stages)) end =
    pipe_line laws no_stage two stages (lower_sides pipe) (lower_runs stages pipe runs) some system agent end in
    let hold : 2 + 2 * stages ≡ 2 * suc stages = omega arith in
    let count : 1 + stages ≡ suc stages = omega arith in
    subst (λ n. IsPipeLine system agent n (suc stages) (tagged_side pipe 0) (tagged_side pipe (suc stages)) end) hold
    (subst (λ n. IsPipeLine system agent (2 + 2 * stages) n (tagged_side pipe 0) (tagged_side pipe (suc stages)) end) count
    (two system agent (record { hold = 2; stages = 1 }) (record { hold = 2 * stages; stages = stages }) (tagged_side pipe 0) (tagged_side pipe 1) (tagged_side pipe (suc stages)) end first rest))

-- ---- how much it holds

length_taken : StageLaws → (port : Port) (c : ℕ) → length (taken_at port c) ≡ length (raws port c)
length_taken laws port c = ap length (laws.beats port c) ∙ length_marked port.shape idle (raws port c)

pub pipe_few : StageLaws → (stages : ℕ) (pipe : PipeSides) → RunsAsPipe stages pipe → HoldsFewBeats stages (side_of pipe 0) (side_of pipe stages)
pipe_few laws zero pipe runs c = omega arith
pipe_few laws (suc stages) pipe runs c =
    let rest = pipe_few laws stages (lower_sides pipe) (lower_runs stages pipe runs) c in
    let first = runs.stage 0 (omega arith) in
    let queued_here = ap length (queued laws 2 pipe.shape (pipe.commands 0) (pipe.commands 1) (pipe.answers 0) (pipe.answers 1) (pipe.queue 0) first c) ∙ length-append (raws (side_of pipe 1) c) (pipe.queue 0 c) in
    let bound = bounded laws 2 pipe.shape (pipe.commands 0) (pipe.commands 1) (pipe.answers 0) (pipe.answers 1) (pipe.queue 0) first c in
    let up = length_taken laws (side_of pipe 0) c in
    let middle = length_taken laws (side_of pipe 1) c in
    omega (arith, rest, queued_here, bound, up, middle)

-- ---- what it shows

-- over some cycles a side shows nothing
abbrev Silent : Port → ℕ → ℕ → Type 0
Silent port c size = (d : ℕ) → c ≤ d → d ≤ c + size → shows port.commands.signals d ≡ false

-- below a stage that shows nothing its queue is empty, and nothing is shown above it
empty_queue : (up down : Port) (queue : ℕ → List Raw) → IsStageRun 2 up down queue → (c : ℕ) → shows down.commands.signals c ≡ false → queue c ≡ []
empty_queue up down queue run c silent = by_queue (queue c) refl (run.heads c)
  where
    by_queue : (q : List Raw) → queue c ≡ q → ShowsHead down c q → queue c ≡ []
    by_queue [] is head = is
    by_queue (raw ∷ later) is head = let shown = head.0 in cc

nothing_above : (up down : Port) (queue : ℕ → List Raw) → IsStageRun 2 up down queue → ((c : ℕ) → length (queue c) < 2 → is_raised (up.commands.waitrequest c) ≡ false) →
    (c : ℕ) → queue c ≡ [] → queue (suc c) ≡ [] → shows up.commands.signals c ≡ false
nothing_above up down queue run opens c now next = by_shown (shows up.commands.signals c) refl (by_take (takes up c) refl)
  where
    by_take : (b : Bool) → takes up c ≡ b → b ≡ false
    by_take false e = refl
    by_take true e =
        let grown = run.next c ∙ ap₂ (λ q b. drop (if takes down c then 1 else 0) q ++ only_if b (raw_at up c)) now e in
        let lengths = ap length (sym next ∙ grown) ∙ length-append (drop (if takes down c then 1 else 0) []) (raw_at up c ∷ []) in
        absurd (omega (arith, lengths))

    by_shown : (b : Bool) → shows up.commands.signals c ≡ b → takes up c ≡ false → b ≡ false
    by_shown false e f = refl
    by_shown true e f =
        let ready = opens c (subst (λ q. length q < 2) (sym now) (omega arith)) in
        let taken : takes up c ≡ true = ap₂ (λ s w. s && not w) e ready in cc

module _ (laws : StageLaws) where
  nothing_moves : (stages : ℕ) (pipe : PipeSides) → RunsAsPipe stages pipe → (c size : ℕ) → Silent (side_of pipe stages) c (stages + size) → Silent (side_of pipe 0) c size × (taken_at (side_of pipe 0) c ≡ taken_at (side_of pipe stages) c)
  nothing_moves zero pipe runs c size silent = (subst (Silent (side_of pipe 0) c) (zero-add size) silent, refl)
  nothing_moves (suc stages) pipe runs c size silent =
      let rest = nothing_moves stages (lower_sides pipe) (lower_runs stages pipe runs) c (suc size) (λ d low high. silent d low (omega (arith, high))) in
      let first = runs.stage 0 (omega arith) in
      let none : (d : ℕ) → c ≤ d → d ≤ c + suc size → pipe.queue 0 d ≡ [] = λ d low high. empty_queue (side_of pipe 0) (side_of pipe 1) (pipe.queue 0) first d (rest.0 d low high) in (
        (λ d low high. nothing_above (side_of pipe 0) (side_of pipe 1) (pipe.queue 0) first (λ k few. runs.opens 0 k (omega arith) few) d (none d low (omega (arith, high))) (none (suc d) (omega (arith, low)) (omega (arith, high)))),
        taken_split laws 2 pipe.shape (pipe.commands 0) (pipe.commands 1) (pipe.answers 0) (pipe.answers 1) (pipe.queue 0) first c
            ∙ ap (λ q. taken_at (side_of pipe 1) c ++ marked pipe.shape (burst_of pipe.shape idle (raws (side_of pipe 1) c)) q) (none c (le_refl c) (omega arith)) ∙ append-nil (taken_at (side_of pipe 1) c) ∙ rest.1,
      )

-- a side shows a beat in one of these cycles, or in none
either_way : (s : Bool) → IsTrue s ⊎ (s ≡ false)
either_way true = inl refl
either_way false = inr refl

one_more : (port : Port) (c n : ℕ) → IsTrue (shows port.commands.signals (c + suc n)) ⊎ (shows port.commands.signals (c + suc n) ≡ false) →
    ((d : ℕ) × (c ≤ d) × (d ≤ c + n) × IsTrue (shows port.commands.signals d)) ⊎ Silent port c n → ((d : ℕ) × (c ≤ d) × (d ≤ c + suc n) × IsTrue (shows port.commands.signals d)) ⊎ Silent port c (suc n)
one_more port c n (inl here) earlier = inl (c + suc n, omega arith, omega arith, here)
one_more port c n (inr none_here) (inl there) = inl (there.0, there.1, omega (arith, there.2), there.3)
one_more port c n (inr none_here) (inr none_there) = inr (λ d low high. elim (eq-or-lt_of_le high) [
  | inl same ↦ subst (λ k. shows port.commands.signals k ≡ false) (sym same) none_here
  | inr less ↦ none_there d low (omega (arith, less))
])

find : (port : Port) (c size : ℕ) → ((d : ℕ) × (c ≤ d) × (d ≤ c + size) × IsTrue (shows port.commands.signals d)) ⊎ Silent port c size
find port c zero = first (either_way (shows port.commands.signals c))
  where
    first : IsTrue (shows port.commands.signals c) ⊎ (shows port.commands.signals c ≡ false) → ((d : ℕ) × (c ≤ d) × (d ≤ c + 0) × IsTrue (shows port.commands.signals d)) ⊎ Silent port c 0
    first (inl here) = inl (c, le_refl c, omega arith, here)
    first (inr none_here) = inr (λ d low high. (let same : c ≡ d = omega (arith, low, high) in subst (λ k. shows port.commands.signals k ≡ false) same none_here))
find port c (suc n) = one_more port c n (either_way (shows port.commands.signals (c + suc n))) (find port c n)

-- where nothing is shown in a cycle, all that was shown was taken before it
all_taken : (port : Port) (end c : ℕ) → AreLegalAt port end → c < end → shows port.commands.signals c ≡ false → shown_at port (suc c) ≡ taken_at port c
all_taken port end c legal h silent =
    shown_is_accepted_and_standing (shows port.commands.signals) (takes port) (marked_at port) end (suc c) (marked_keeps port end legal) h
    ∙ ap (λ s. (taken_at port c ++ only_if (s && not (is_raised (port.commands.waitrequest c))) (marked_at port c)) ++ only_if (s && not (takes port c)) (marked_at port c)) silent
    ∙ append-nil (taken_at port c ++ []) ∙ append-nil (taken_at port c)

pub pipe_shows : StageLaws → (stages : ℕ) (pipe : PipeSides) → RunsAsPipe stages pipe → (end : ℕ) → AreLegalAt (side_of pipe 0) end → KeepsShowing stages (side_of pipe 0) (side_of pipe stages) end
pipe_shows laws stages pipe runs end legal c low untaken = by_find (find (side_of pipe stages) c (2 * stages))
  where
    by_find : ((d : ℕ) × (c ≤ d) × (d ≤ c + 2 * stages) × IsTrue (shows (side_of pipe stages).commands.signals d)) ⊎ Silent (side_of pipe stages) c (2 * stages) →
        (d : ℕ) × (c ≤ d) × (d ≤ c + 2 * stages) × IsTrue (shows (side_of pipe stages).commands.signals d)
    by_find (inl there) = there
    by_find (inr silent) =
        let still = nothing_moves laws stages pipe runs c stages (λ d least most. silent d least (omega (arith, most))) in
        let none = still.0 c (le_refl c) (omega arith) in
        let shown = ap length (all_taken (side_of pipe 0) end c legal (omega (arith, low)) none ∙ still.1) in
        let less = untaken c (le_refl c) (omega arith) in
        absurd (omega (arith, shown, less))
