-- Stages in a row between sides of one shape are the machine of a pipe.
use Rattle.std.proofs.Common.{◌≡◌, ℕ, zero, suc, ◌<◌, List, [], ◌∷◌, length, false, refl, sym, ap, ◌∙◌, subst, arith}
use Rattle.histories.specs.History.{is_raised}
use Rattle.memory_runs.specs.Views.{Shape}
use Rattle.memory_machines.specs.Paths.{CommandView, AnswerView}
use Rattle.memory_machines.specs.Link.{Port}
use Rattle.memory_machines.specs.Machines.{Raw, ShowsHead, IsStageRun, port_of}
use Rattle.link_core.specs.Boundaries.{TagsRise, HasPipe}
use Rattle.link_core.specs.Lines.{RunsAsStages, tagged_port}
use Rattle.link_core.specs.Lines.RunsAsStages.{no_stage, one_more}
use Rattle.link_core.specs.StageNets.{RunsAsPipeStage}

-- the same nets under another shape
abbrev in_shape : Shape → Port → Port
in_shape shape port = port_of shape port.commands port.answers

head_in_shape : (shape : Shape) (port : Port) (c : ℕ) (queue : List Raw) → ShowsHead port c queue → ShowsHead (in_shape shape port) c queue
head_in_shape shape port c [] shown = shown
head_in_shape shape port c (raw ∷ later) shown = shown

-- a stage doesn't look at the shape
stage_in_shape : (shape : Shape) (up down : Port) (queue : ℕ → List Raw) → IsStageRun 2 up down queue → IsStageRun 2 (in_shape shape up) (in_shape shape down) queue
stage_in_shape shape up down queue runs = record {
  begins = runs.begins;
  heads = λ c. head_in_shape shape down c (queue c) (runs.heads c);
  room = runs.room;
  next = runs.next;
  quiet = runs.quiet;
  valid = runs.valid;
  word = runs.word;
  code = runs.code;
}

-- one more above those that are numbered
abbrev above_all : {A : Type 0} → A → (ℕ → A) → ℕ → A
above_all highest others zero = highest
above_all highest others (suc i) = others i

-- the views and queues by number, in any shape
record Numbered (shape : Shape) (stages : ℕ) (up down : Port) : Type 0 where
  commands : ℕ → CommandView
  answers : ℕ → AnswerView
  queue : ℕ → ℕ → List Raw
  highest : port_of shape (commands 0) (answers 0) ≡ in_shape shape up
  lowest : port_of shape (commands stages) (answers stages) ≡ in_shape shape down
  stage : (i : ℕ) → i < stages → IsStageRun 2 (port_of shape (commands i) (answers i)) (port_of shape (commands (suc i)) (answers (suc i))) (queue i)
  opens : (i c : ℕ) → i < stages → length (queue i c) < 2 → is_raised ((commands i).waitrequest c) ≡ false

numbered : (shape : Shape) {stages : ℕ} {up down : Port} → RunsAsStages stages up down → Numbered shape stages up down
numbered shape {up = up} no_stage = record {
  commands = λ i. up.commands;
  answers = λ i. up.answers;
  queue = λ i c. [];
  highest = refl;
  lowest = refl;
  stage = λ i low. absurd (omega (arith, low));
  opens = λ i c low few. absurd (omega (arith, low));
}
numbered shape {up = up} {down = down} (one_more {stages = stages} {middle = middle} stage rest) = further shape stages up middle down stage (numbered shape rest)
  where
    further : (shape : Shape) (stages : ℕ) (up middle down : Port) → RunsAsPipeStage up middle → Numbered shape stages middle down → Numbered shape (suc stages) up down
    further shape stages up middle down stage others = record {
      commands = above_all up.commands others.commands;
      answers = above_all up.answers others.answers;
      queue = above_all stage.queue others.queue;
      highest = refl;
      lowest = others.lowest;
      stage = stage_at;
      opens = opens_at;
    }
      where
        stage_at : (i : ℕ) → i < suc stages →
            IsStageRun 2 (port_of shape (above_all up.commands others.commands i) (above_all up.answers others.answers i)) (port_of shape (above_all up.commands others.commands (suc i)) (above_all up.answers others.answers (suc i))) (above_all stage.queue others.queue i)
        stage_at zero low = subst (λ (p : Port). IsStageRun 2 (in_shape shape up) p stage.queue) (sym others.highest) (stage_in_shape shape up middle stage.queue stage.runs)
        stage_at (suc i) low = others.stage i (omega (arith, low))

        opens_at : (i c : ℕ) → i < suc stages → length (above_all stage.queue others.queue i c) < 2 → is_raised ((above_all up.commands others.commands i).waitrequest c) ≡ false
        opens_at zero c low few = stage.opens c few
        opens_at (suc i) c low few = others.opens i c (omega (arith, low)) few

pub has_pipe : (stages : ℕ) (up down : Port) → RunsAsStages stages up down → up.shape ≡ down.shape → (tag : ℕ → ℕ → ℕ) → TagsRise stages tag → HasPipe stages (tagged_port up (tag 0)) (tagged_port down (tag stages))
has_pipe stages up down runs same tag rise =
    let all = numbered up.shape runs in
    record {
      pipe = record { shape = up.shape; commands = all.commands; answers = all.answers; answer_tag = tag; queue = all.queue };
      highest = ap (λ (p : Port). tagged_port p (tag 0)) all.highest;
      lowest = ap (λ (p : Port). tagged_port p (tag stages)) (all.lowest ∙ ap (λ (s : Shape). in_shape s down) same);
      runs = record { stage = all.stage; opens = all.opens; answer_tag = rise };
    }
