-- The nets of a pipeline stage are the machine of a stage with a queue of two places.
use Rattle.std.proofs.Common.{◌≡◌, ℕ, zero, suc, ◌+◌, ◌<◌, ◌⊎◌, inl, Bool, true, false, not, ◌&&◌, if◌then◌else◌, List, [], ◌∷◌, ◌++◌, length, drop, refl, sym, subst, ap, ap₂, ◌∙◌, arith}
use Rattle.histories.specs.History.{only_if, is_raised}
use Rattle.netlist.specs.Nets.{NetValue}
use Rattle.netlist.specs.Netlists.{Netlist}
use Rattle.netlist.specs.Runs.{Cycle, Run, cycle_of, IsEndlessRun, IsValuation}
use Rattle.memory_runs.specs.Views.{Shape}
use Rattle.memory_machines.specs.Link.{Target, Port}
use Rattle.memory_machines.specs.Machines.{Raw, raw_at, ShowsHead, IsStageRun}
use Rattle.memory_links.specs.Links.{LinkForm, IsLink}
use Rattle.memory_links.specs.Pipes.{PipeSides, RunsAsPipe, side_of, stage_form}
use Rattle.command_nets.specs.declared.nets.CommandNets.{CommandNets}
use Rattle.command_nets.specs.declared.nets.AnswerNets.{AnswerNets}
use Rattle.link_core.specs.declared.stage.StageKept.{StageKept}
use Rattle.command_nets.specs.Nets.{raw_in, command_view, answer_view, port_in, ShowSame}
use Rattle.link_core.specs.Form.{Form, KeepsLaw}
use Rattle.command_nets.specs.Groups.{IsOfCommand, is_shown, hidden, nothing_shown, same_shown}
use Rattle.link_core.specs.StageNets.{IsStageForm, RunsAsPipeStage, StageCommand, StageAnswer, is_standing, coming_in}

-- ---- the machine

-- the commands in two places, by whether they are full
abbrev pub row_of : Bool → Bool → Raw → Raw → List Raw
row_of true true x y = x ∷ y ∷ []
row_of true false x y = x ∷ []
row_of false b x y = []

abbrev pub queue_of : Raw → Raw → List Raw
queue_of x y = row_of (is_shown x) (is_shown y) x y

-- one cycle: a and b are that the places are full, f that a command is shown above, w that the side below waits
one_step : (a b f w : Bool) (x y z : Raw) → is_shown x ≡ a → is_shown y ≡ b → is_shown z ≡ f → (b ≡ true → a ≡ true) →
    queue_of (if a && w then x else if b then y else z) (if a && w then (if b then y else z) else hidden (if b then y else z))
    ≡ drop (if a && not w then 1 else 0) (row_of a b x y) ++ only_if (f && not b) z
one_step true true true true x y z ex ey ez order = rw (ex, ey) refl
one_step true true false true x y z ex ey ez order = rw (ex, ey) refl
one_step true true true false x y z ex ey ez order = rw ey refl
one_step true true false false x y z ex ey ez order = rw ey refl
one_step true false true true x y z ex ey ez order = rw (ex, ez) refl
one_step true false false true x y z ex ey ez order = rw (ex, ez) refl
one_step true false true false x y z ex ey ez order = rw ez refl
one_step true false false false x y z ex ey ez order = rw ez refl
one_step false true f w x y z ex ey ez order = let bad = order refl in cc
one_step false false true w x y z ex ey ez order = rw ez refl
one_step false false false w x y z ex ey ez order = rw ez refl

-- the second place is full only while the first one is
order_step : (a w : Bool) (x y : Raw) → is_shown x ≡ a → is_shown (if a && w then y else hidden y) ≡ true → is_shown (if a && w then x else y) ≡ true
order_step true true x y e h = e
order_step true false x y e h = cc
order_step false w x y e h = cc

heads_of : (a b : Bool) (port : Port) (c : ℕ) (x y : Raw) → is_shown (raw_at port c) ≡ a → raw_at port c ≡ x → ShowsHead port c (row_of a b x y)
heads_of true true port c x y shown same = (shown, same)
heads_of true false port c x y shown same = (shown, same)
heads_of false b port c x y shown same = shown

few : (a b : Bool) (x y : Raw) → b ≡ false → length (row_of a b x y) < 2
few true true x y e = cc
few true false x y e = omega arith
few false b x y e = omega arith

no_wait : (f w b : Bool) → w ≡ b → (f && not w) ≡ true → b ≡ false
no_wait true true b e h = cc
no_wait true false b e h = sym e
no_wait false w b e h = cc

module _ (kept : StageKept) (wait : NetValue) (answer : AnswerNets) (up : NetValue) (back : AnswerNets) (netlist : Netlist) (f : StageCommand kept.from kept.first kept netlist) (b : StageAnswer kept wait answer up back netlist) (run : Run) (endless : IsEndlessRun netlist run) where
  valued : (c : ℕ) → IsValuation netlist (cycle_of run c)
  valued c = (endless (c + 1)).valuations c (omega arith)

  next_of : (c : ℕ) → c + 1 ≡ suc c
  next_of c = omega arith

  first_next : (c : ℕ) → raw_in (cycle_of run (suc c)) kept.first ≡ (if is_standing (cycle_of run c) kept.first wait then raw_in (cycle_of run c) kept.first else coming_in (cycle_of run c) kept)
  first_next c = sym (ap (λ k. raw_in (cycle_of run k) kept.first) (next_of c)) ∙ b.first_moves run (c + 2) (endless (c + 2)) c (omega arith)

  second_next : (c : ℕ) → raw_in (cycle_of run (suc c)) kept.second ≡ (if is_standing (cycle_of run c) kept.first wait then coming_in (cycle_of run c) kept else hidden (coming_in (cycle_of run c) kept))
  second_next c = sym (ap (λ k. raw_in (cycle_of run k) kept.second) (next_of c)) ∙ b.second_moves run (c + 2) (endless (c + 2)) c (omega arith)

  in_order : (c : ℕ) → is_shown (raw_in (cycle_of run c) kept.second) ≡ true → is_shown (raw_in (cycle_of run c) kept.first) ≡ true
  in_order zero h = let empty : is_shown (raw_in (cycle_of run 0) kept.second) ≡ false = ap is_shown (f.second_starts run 1 (endless 1) (omega arith)) in cc
  in_order (suc c) h =
      ap is_shown (first_next c)
      ∙ order_step (is_shown (raw_in (cycle_of run c) kept.first)) (is_raised (run.net c wait.number)) (raw_in (cycle_of run c) kept.first) (coming_in (cycle_of run c) kept) refl (sym (ap is_shown (second_next c)) ∙ h)

  abbrev queue : ℕ → List Raw
  queue c = queue_of (raw_in (cycle_of run c) kept.first) (raw_in (cycle_of run c) kept.second)

  moved : (c : ℕ) → queue (suc c) ≡
      drop (if is_shown (raw_in (cycle_of run c) kept.first) && not (is_raised (run.net c wait.number)) then 1 else 0) (queue c)
      ++ only_if (is_shown (raw_in (cycle_of run c) kept.from) && not (is_raised (run.net c up.number))) (raw_in (cycle_of run c) kept.from)
  moved c =
      let x = raw_in (cycle_of run c) kept.first in
      let y = raw_in (cycle_of run c) kept.second in
      let z = raw_in (cycle_of run c) kept.from in
      ap₂ queue_of (first_next c) (second_next c)
      ∙ one_step (is_shown x) (is_shown y) (is_shown z) (is_raised (run.net c wait.number)) x y z refl refl refl (in_order c)
      ∙ ap (λ t. drop (if is_shown x && not (is_raised (run.net c wait.number)) then 1 else 0) (queue_of x y) ++ only_if (is_shown z && not t) z) (sym (b.waits (cycle_of run c) (valued c)))

  later : (from net : NetValue) → ((c : ℕ) → c + 1 < c + 2 → run.net (c + 1) net.number ≡ run.net c from.number) → (c : ℕ) → run.net (suc c) net.number ≡ run.net c from.number
  later from net next c = sym (ap (λ k. run.net k net.number) (next_of c)) ∙ next c (omega arith)

  pub is_stage_run : (shape : Shape) → IsStageRun 2 (port_in shape run kept.from up back) (port_in shape run kept.first wait answer) (λ c. queue_of (raw_in (cycle_of run c) kept.first) (raw_in (cycle_of run c) kept.second))
  is_stage_run shape = record {
    begins = ap₂ queue_of (f.first_starts run 1 (endless 1) (omega arith)) (f.second_starts run 1 (endless 1) (omega arith)) ∙ nothing_held;
    heads = λ c. heads_of (is_shown (raw_in (cycle_of run c) kept.first)) (is_shown (raw_in (cycle_of run c) kept.second)) (port_in shape run kept.first wait answer) c (raw_in (cycle_of run c) kept.first) (raw_in (cycle_of run c) kept.second) refl refl;
    room = λ c taken. few (is_shown (raw_in (cycle_of run c) kept.first)) (is_shown (raw_in (cycle_of run c) kept.second)) (raw_in (cycle_of run c) kept.first) (raw_in (cycle_of run c) kept.second)
        (no_wait (is_shown (raw_in (cycle_of run c) kept.from)) (is_raised (run.net c up.number)) (is_shown (raw_in (cycle_of run c) kept.second)) (b.waits (cycle_of run c) (valued c)) taken);
    next = moved;
    quiet = ap is_raised (b.delayed.valid.starts run 1 (endless 1) (omega arith));
    valid = λ c. later answer.valid back.valid (λ k h. b.delayed.valid.next run (k + 2) (endless (k + 2)) k h) c;
    word = λ c. later answer.word back.word (λ k h. b.delayed.word.next run (k + 2) (endless (k + 2)) k h) c;
    code = λ c. later answer.code back.code (λ k h. b.delayed.code.next run (k + 2) (endless (k + 2)) k h) c;
  } where
    nothing_held : queue_of nothing_shown nothing_shown ≡ []
    nothing_held = refl

  -- and it waits above only when both places are full
  pub opens : (c : ℕ) → length (queue c) < 2 → is_raised (run.net c up.number) ≡ false
  opens c room = b.waits (cycle_of run c) (valued c) ∙ not_full (is_shown (raw_in (cycle_of run c) kept.first)) (is_shown (raw_in (cycle_of run c) kept.second)) _ _ (in_order c) room
    where
      not_full : (a b : Bool) (x y : Raw) → (b ≡ true → a ≡ true) → length (row_of a b x y) < 2 → b ≡ false
      not_full true true x y order room = absurd (omega arith)
      not_full true false x y order room = refl
      not_full false true x y order room = let bad = order refl in cc
      not_full false false x y order room = refl

-- one of two, by the number of a boundary: 0 is above
abbrev pub at_side : {A : Type 0} → A → A → ℕ → A
at_side one other zero = one
at_side one other (suc i) = other

-- a stage as a pipe of one
abbrev pub sides_in : Shape → Run → StageKept → NetValue → AnswerNets → NetValue → AnswerNets → PipeSides
sides_in shape run kept wait answer up back = record {
  shape = shape;
  commands = at_side (command_view run kept.from up) (command_view run kept.first wait);
  answers = at_side (answer_view run back) (answer_view run answer);
  answer_tag = λ i c. 0;
  queue = λ i c. queue_of (raw_in (cycle_of run c) kept.first) (raw_in (cycle_of run c) kept.second);
}

pub runs_as_pipe : (kept : StageKept) (wait : NetValue) (answer : AnswerNets) (up : NetValue) (back : AnswerNets) (netlist : Netlist) (f : StageCommand kept.from kept.first kept netlist) (b : StageAnswer kept wait answer up back netlist) (run : Run) (endless : IsEndlessRun netlist run) (shape : Shape) →
    RunsAsPipe 1 (sides_in shape run kept wait answer up back)
runs_as_pipe kept wait answer up back netlist f b run endless shape = record {
  stage = λ i few. first_only i few;
  opens = λ i c few room. first_opens i c few room;
  answer_tag = λ i c few. refl;
} where
  first_only : (i : ℕ) → i < 1 → IsStageRun 2 (side_of (sides_in shape run kept wait answer up back) i) (side_of (sides_in shape run kept wait answer up back) (suc i)) ((sides_in shape run kept wait answer up back).queue i)
  first_only zero few = is_stage_run kept wait answer up back netlist f b run endless shape
  first_only (suc i) few = absurd (omega arith)

  first_opens : (i c : ℕ) → i < 1 → length ((sides_in shape run kept wait answer up back).queue i c) < 2 → is_raised (((sides_in shape run kept wait answer up back).commands i).waitrequest c) ≡ false
  first_opens zero c few room = opens kept wait answer up back netlist f b run endless c room
  first_opens (suc i) c few room = absurd (omega arith)

-- the nets by those that are kept
pub at_kept : (from to : CommandNets) (kept : StageKept) (netlist : Netlist) (P : CommandNets → CommandNets → Type 0) → StageCommand from to kept netlist → (StageCommand kept.from kept.first kept netlist → P kept.from kept.first) → P from to
at_kept from to kept netlist P f g =
    let here = subst (λ (x : CommandNets). StageCommand x kept.first kept netlist) f.from_is (subst (λ (x : CommandNets). StageCommand from x kept netlist) f.to_is f) in
    subst (λ (x : CommandNets). P from x) (sym f.to_is) (subst (λ (x : CommandNets). P x kept.first) (sym f.from_is) (g here))

pub stage_between : (form : Form) (from to : CommandNets) (kept : StageKept) (wait up : NetValue) (answer back : AnswerNets) (netlist : Netlist) (run : Run) (end : ℕ) → IsStageForm form → StageCommand from to kept netlist → StageAnswer kept wait answer up back netlist → IsEndlessRun netlist run →
    ((pipe : PipeSides) → RunsAsPipe 1 pipe → (target : Target) (end : ℕ) → 0 < pipe.shape.word_bytes → IsLink (stage_form target) (side_of pipe 0) (side_of pipe 1) end) →
    KeepsLaw form (port_in form.up run from up back) (port_in form.down run to wait answer) end
stage_between form from to kept wait up answer back netlist run end p f b endless law =
    subst (λ (s : Shape). KeepsLaw form (port_in form.up run from up back) (port_in s run to wait answer) end) (sym p.same)
    (at_kept from to kept netlist (λ x y. KeepsLaw form (port_in form.up run x up back) (port_in form.up run y wait answer) end) f
    (λ here alike. subst (λ (l : LinkForm). IsLink l (port_in form.up run kept.from up back) (port_in form.up run kept.first wait answer) end) (sym p.is)
    (law (sides_in form.up run kept wait answer up back) (runs_as_pipe kept wait answer up back netlist here b run endless form.up) form.link.target end p.some)))

pub stage_runs_between : (form : Form) (from to : CommandNets) (kept : StageKept) (wait up : NetValue) (answer back : AnswerNets) (netlist : Netlist) (run : Run) → IsStageForm form → StageCommand from to kept netlist → StageAnswer kept wait answer up back netlist → IsEndlessRun netlist run →
    RunsAsPipeStage (port_in form.up run from up back) (port_in form.down run to wait answer)
stage_runs_between form from to kept wait up answer back netlist run p f b endless =
    subst (λ (s : Shape). RunsAsPipeStage (port_in form.up run from up back) (port_in s run to wait answer)) (sym p.same)
    (at_kept from to kept netlist (λ x y. RunsAsPipeStage (port_in form.up run x up back) (port_in form.up run y wait answer)) f
    (λ here. record {
      queue = λ c. queue_of (raw_in (cycle_of run c) kept.first) (raw_in (cycle_of run c) kept.second);
      runs = is_stage_run kept wait answer up back netlist here b run endless form.up;
      opens = opens kept wait answer up back netlist here b run endless;
    }))

pub stage_ignores : (from to : CommandNets) (kept : StageKept) (netlist : Netlist) (one other : Cycle) → StageCommand from to kept netlist → ((n : ℕ) → IsOfCommand kept.first n ⊎ IsOfCommand kept.second n → one.net n ≡ other.net n) → ShowSame to one other
stage_ignores from to kept netlist one other f state =
    subst (λ (x : CommandNets). ShowSame x one other) (sym f.to_is) (same_shown kept.first one other (λ n o. state n (inl o)))
