-- Where all commands above bear one tag, stages show that tag below.
use Rattle.std.proofs.Common.{◌≡◌, ℕ, zero, suc, ◌&&◌, Bool, true, false, if◌then◌else◌, List, [], ◌∷◌, ◌++◌, drop, refl, sym, subst, ap, ◌∙◌}
use Rattle.histories.specs.History.{only_if}
use Rattle.memory_runs.specs.Commands.{shows}
use Rattle.memory_machines.specs.Link.{Port, takes}
use Rattle.memory_machines.specs.Machines.{Raw, raw_at, ShowsHead, IsStageRun}
use Rattle.link_core.specs.Lines.{RunsAsStages, with_tag}
use Rattle.link_core.specs.Lines.RunsAsStages.{no_stage, one_more}
use Rattle.link_core.specs.StageNets.{RunsAsPipeStage}

-- what is shown bears the tag
abbrev ShowsTag : ℕ → Port → Type 0
ShowsTag tag port = (c : ℕ) → shows port.commands.signals c ≡ true → port.commands.tag c ≡ tag

-- all beats of a list bear it
abbrev AllBear : ℕ → List Raw → Type 0
AllBear tag [] = Unit {0}
AllBear tag (raw ∷ later) = (raw.tag ≡ tag) × AllBear tag later

rest_bear : (tag : ℕ) (taken : Bool) (queue : List Raw) → AllBear tag queue → AllBear tag (drop (if taken then 1 else 0) queue)
rest_bear tag true [] h = tt
rest_bear tag true (raw ∷ later) h = h.1
rest_bear tag false queue h = h

more_bear : (tag : ℕ) (queue more : List Raw) → AllBear tag queue → AllBear tag more → AllBear tag (queue ++ more)
more_bear tag [] more h m = m
more_bear tag (raw ∷ later) more h m = (h.0, more_bear tag later more h.1 m)

one_bears : (tag : ℕ) (taken : Bool) (raw : Raw) → (taken ≡ true → raw.tag ≡ tag) → AllBear tag (only_if taken raw)
one_bears tag true raw h = (h refl, tt)
one_bears tag false raw h = tt

left_of : (a b : Bool) → (a && b) ≡ true → a ≡ true
left_of true b e = refl
left_of false b e = e

queue_bears : (tag : ℕ) (up down : Port) (queue : ℕ → List Raw) → IsStageRun 2 up down queue → ShowsTag tag up → (c : ℕ) → AllBear tag (queue c)
queue_bears tag up down queue runs bears zero = subst (AllBear tag) (sym runs.begins) tt
queue_bears tag up down queue runs bears (suc c) =
    subst (AllBear tag) (sym (runs.next c))
    (more_bear tag (drop (if takes down c then 1 else 0) (queue c)) (only_if (takes up c) (raw_at up c)) (rest_bear tag (takes down c) (queue c) (queue_bears tag up down queue runs bears c))
    (one_bears tag (takes up c) (raw_at up c) (λ taken. bears c (left_of _ _ taken))))

head_bears : (tag : ℕ) (port : Port) (c : ℕ) (queue : List Raw) → ShowsHead port c queue → AllBear tag queue → shows port.commands.signals c ≡ true → port.commands.tag c ≡ tag
head_bears tag port c [] head h shown = absurd (cc)
head_bears tag port c (raw ∷ later) head h shown = ap (λ (r : Raw). r.tag) head.1 ∙ h.0

retagged_head : (tag : ℕ) (tags : ℕ → ℕ) (port : Port) (c : ℕ) (queue : List Raw) → tags c ≡ tag → ShowsHead port c queue → AllBear tag queue → ShowsHead (with_tag tags port) c queue
retagged_head tag tags port c [] is head h = head
retagged_head tag tags port c (raw ∷ later) is head h = (head.0, ap (λ (r : Raw). record r { tag = tags c }) head.1 ∙ ap (λ t. record raw { tag = t }) (is ∙ sym h.0))

stage_shows_tag : (tag : ℕ) (up down : Port) → RunsAsPipeStage up down → ShowsTag tag up → ShowsTag tag down
stage_shows_tag tag up down stage bears c shown = head_bears tag down c (stage.queue c) (stage.runs.heads c) (queue_bears tag up down stage.queue stage.runs bears c) shown

retagged_stage : (tag : ℕ) (tags : ℕ → ℕ) (up down : Port) → ((c : ℕ) → tags c ≡ tag) → RunsAsPipeStage up down → ShowsTag tag up → RunsAsPipeStage up (with_tag tags down)
retagged_stage tag tags up down is stage bears = record {
  queue = stage.queue;
  runs = record {
    begins = stage.runs.begins;
    heads = λ c. retagged_head tag tags down c (stage.queue c) (is c) (stage.runs.heads c) (queue_bears tag up down stage.queue stage.runs bears c);
    room = stage.runs.room;
    next = stage.runs.next;
    quiet = stage.runs.quiet;
    valid = stage.runs.valid;
    word = stage.runs.word;
    code = stage.runs.code;
  };
  opens = stage.opens;
}

retagged : (tag : ℕ) (tags : ℕ → ℕ) → ((c : ℕ) → tags c ≡ tag) → {stages : ℕ} {up middle down : Port} → RunsAsPipeStage up middle → RunsAsStages stages middle down → ShowsTag tag up → RunsAsStages (suc stages) up (with_tag tags down)
retagged tag tags is {up = up} {middle = middle} stage no_stage bears = one_more (retagged_stage tag tags up middle is stage bears) no_stage
retagged tag tags is {up = up} {middle = middle} stage (one_more next rest) bears = one_more stage (retagged tag tags is next rest (stage_shows_tag tag up middle stage bears))

pub one_tag : (tag : ℕ) (tags : ℕ → ℕ) → ((c : ℕ) → tags c ≡ tag) → {stages : ℕ} {up down : Port} → RunsAsStages stages up down → up.commands.tag ≡ tags → RunsAsStages stages up (with_tag tags down)
one_tag tag tags is {up = up} no_stage same = subst (λ (p : Port). RunsAsStages 0 up p) (ap (λ t. with_tag t up) same) no_stage
one_tag tag tags is {up = up} (one_more stage rest) same = retagged tag tags is stage rest (λ c shown. ap (λ t. t c) same ∙ is c)
