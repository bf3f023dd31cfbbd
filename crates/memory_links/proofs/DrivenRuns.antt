-- The runs that recursion on the cycle gives are runs of the machines.
use Rattle.std.proofs.Common.{ℕ, zero, suc, ◌<◌, ◌≡◌, ◌+◌, ◌-◌, ◌*◌, ◌%◌, ◌^◌, Bool, true, false, not, ◌&&◌, ◌||◌, List, [], ◌∷◌, ◌++◌, if◌then◌else◌, arith, refl, sym, ap, ap₂, subst, ◌∙◌, length, drop, nat_lt, Some, slice_get, lt-ltb, tests}
use Rattle.std.proofs.lemmas.Bool.{and_parts, not-true, ltb-true}
use Rattle.std.proofs.Math.Nat.{mod-lt, one-le-pow}
use Rattle.histories.specs.History.{is_raised, one_if, only_if}
use Rattle.memory_runs.specs.Legal.{Word}
use Rattle.memory_runs.specs.Operations.{Beat}
use Rattle.memory_runs.specs.Views.{levels_at}
use Rattle.memory_runs.specs.Commands.{Burst, shows, is_of_reads, burst_before, burst_after}
use Rattle.memory_machines.specs.Link.{takes, is_nonempty}
use Rattle.memory_machines.specs.Machines.{Raw, ShowsHead, IsStageRun, single, joined}
use Rattle.memory_links.specs.Pipes.{RunsAsPipe, side_of}
use Rattle.memory_links.specs.Selects.{RunsAsSelect}
use Rattle.memory_links.specs.Splits.{RunsAsSplit, AddsTo, nothing}
use Rattle.memory_links.specs.Cutters.{RunsAsCutter, read_burst_of, first_burst, write_of_burst, whole_read}
use Rattle.memory_links.specs.Gathers.{RunsAsGather}
use Rattle.memory_links.specs.DrivenGather.{GatherInputs, gather_above, gather_below, gather_state, gather_registers, gather_shuts, gather_held}
use Rattle.memory_links.specs.Driven.{CutInputs, CutRegisters, place_in, cut_raw, cut_sends, cut_beat, cut_shows, cut_part, cut_takes, cut_registers, cut_state, cut_above, cut_below}
use Rattle.memory_links.specs.Driven.{SelectInputs, PipeInputs, select_above, select_below, select_queue, shuts, pipe_run, pipe_queues, raw_there, waits_there, takes_there, shows_raw, head_of, late_by, SplitInputs, split_registers, split_above, split_below, split_state, split_list, split_shows, split_part, split_opens, split_completes, split_added, part_at, silent_raw}
use Rattle.memory_links.proofs.Gather.{piece_is_put}
use Rattle.memory_links.specs.Drops.{RunsAsDrop, sends, sent_beat}
use Rattle.memory_links.specs.Driven.{DropInputs, DropRegisters, drop_raw, drop_stands, drop_part, drop_registers, drop_state, drop_above, drop_below}

raised_one : (b : Bool) → is_raised (one_if b) ≡ b
raised_one true = refl
raised_one false = refl

pub select_runs : (given : SelectInputs) → RunsAsSelect given.room (select_above given) (select_below given) (select_queue given)
select_runs given = record {
  levels = λ c. refl;
  more = λ c. refl;
  tag = λ c. refl;
  waitrequest = λ c. raised_one (shuts given (select_queue given c) c || is_raised (given.inputs.waitrequest c));
  begins = refl;
  next = λ c. refl;
  valid = λ c. refl;
  word = λ c some. refl;
  code = λ c. refl;
}

-- ---- a pipe

abbrev AllShow : List Raw → Type 0
AllShow [] = Unit {0}
AllShow (raw ∷ later) = (shows_raw raw ≡ true) × AllShow later

show_later : (b : Bool) (q : List Raw) → AllShow q → AllShow (drop (if b then 1 else 0) q)
show_later true [] all = tt
show_later true (raw ∷ later) all = all.1
show_later false [] all = tt
show_later false (raw ∷ later) all = all

show_push : (q : List Raw) (b : Bool) (raw : Raw) → AllShow q → (b ≡ true → shows_raw raw ≡ true) → AllShow (q ++ only_if b raw)
show_push [] true raw all one = (one refl, tt)
show_push [] false raw all one = tt
show_push (x ∷ q) b raw all one = (all.0, show_push q b raw all.1 one)

all_show : (given : PipeInputs) (c i : ℕ) → AllShow (pipe_queues given c i)
all_show given zero i = tt
all_show given (suc c) i =
    show_push (drop (if takes_there given (pipe_queues given c) c (suc i) then 1 else 0) (pipe_queues given c i)) (takes_there given (pipe_queues given c) c i) (raw_there given (pipe_queues given c) c i)
    (show_later (takes_there given (pipe_queues given c) c (suc i)) (pipe_queues given c i) (all_show given c i))
    (λ t. (and_parts (shows_raw (raw_there given (pipe_queues given c) c i)) (not (is_raised (waits_there given (pipe_queues given c) c i))) t).0)

late_step : (cycles : ℕ) (signal : ℕ → ℕ) (c : ℕ) → late_by (suc cycles) signal (suc c) ≡ late_by cycles signal c
late_step cycles signal c =
    let both : nat_lt (suc c) (suc cycles) ≡ nat_lt c cycles = grind (arith, tests) in
    let place : suc c - suc cycles ≡ c - cycles = omega arith in
    ap₂ (λ b n. if b then 0 else signal n) both place

late_next : (stages i : ℕ) (signal : ℕ → ℕ) (c : ℕ) → i < stages → late_by (stages - i) signal (suc c) ≡ late_by (stages - suc i) signal c
late_next stages i signal c h =
    let one : stages - i ≡ suc (stages - suc i) = omega (arith, h) in
    ap (λ n. late_by n signal (suc c)) one ∙ late_step (stages - suc i) signal c

late_first : (stages i : ℕ) (signal : ℕ → ℕ) → i < stages → is_raised (late_by (stages - i) signal 0) ≡ false
late_first stages i signal h =
    let some : nat_lt 0 (stages - i) ≡ true = lt-ltb 0 (stages - i) (omega (arith, h)) in
    ap (λ b. is_raised (if b then 0 else signal (0 - (stages - i)))) some

waits_in : (given : PipeInputs) (c i : ℕ) → i < given.stages → waits_there given (pipe_queues given c) c i ≡ one_if (not (nat_lt (length (pipe_queues given c i)) 2))
waits_in given c i h = ap (λ b. if b then one_if (not (nat_lt (length (pipe_queues given c i)) 2)) else given.inputs.waitrequest c) (lt-ltb i given.stages h)

twice : (b : Bool) → not b ≡ false → b ≡ true
twice true e = refl
twice false e = sym e

stage_runs : (given : PipeInputs) (i : ℕ) → i < given.stages → IsStageRun 2 (side_of (pipe_run given) i) (side_of (pipe_run given) (suc i)) (λ c. pipe_queues given c i)
stage_runs given i h = record {
  begins = refl;
  heads = λ c. heads c (pipe_queues given c i) refl (all_show given c i);
  room = λ c t. (let free = not-true (is_raised (waits_there given (pipe_queues given c) c i)) (and_parts (shows_raw (raw_there given (pipe_queues given c) c i)) (not (is_raised (waits_there given (pipe_queues given c) c i))) t).1 in
      ltb-true (length (pipe_queues given c i)) 2 (twice (nat_lt (length (pipe_queues given c i)) 2) (sym (raised_one (not (nat_lt (length (pipe_queues given c i)) 2))) ∙ ap is_raised (sym (waits_in given c i h)) ∙ free)));
  next = λ c. refl;
  quiet = late_first given.stages i given.inputs.answers.valid h;
  valid = λ c. late_next given.stages i given.inputs.answers.valid c h;
  word = λ c. late_next given.stages i given.inputs.answers.word c h;
  code = λ c. late_next given.stages i given.inputs.answers.code c h;
}
  where
    heads : (c : ℕ) (q : List Raw) → pipe_queues given c i ≡ q → AllShow q → ShowsHead (side_of (pipe_run given) (suc i)) c q
    heads c [] e all = ap (λ q. shows_raw (head_of q)) e
    heads c (raw ∷ later) e all = (ap (λ q. shows_raw (head_of q)) e ∙ all.0, ap head_of e)

pub pipe_runs : (given : PipeInputs) → RunsAsPipe given.stages (pipe_run given)
pipe_runs given = record {
  stage = λ i h. stage_runs given i h;
  opens = λ i c h few. ap is_raised (waits_in given c i h) ∙ raised_one (not (nat_lt (length (pipe_queues given c i)) 2)) ∙ ap not (lt-ltb (length (pipe_queues given c i)) 2 few);
  answer_tag = λ i c h. late_next given.stages i given.answer_tag c h;
}

-- ---- a splitter

single_shows : (tag more : ℕ) (beat : Beat) → shows_raw (single tag more beat) ≡ true
single_shows tag more beat = by_kind (is_of_reads beat.kind)
  where
    by_kind : (b : Bool) → (is_raised (if b then 1 else 0) || is_raised (if b then 0 else 1)) ≡ true
    by_kind true = refl
    by_kind false = refl

joined_show : (tag last : ℕ) (beats : List Beat) → AllShow (joined tag last beats)
joined_show tag last [] = tt
joined_show tag last (b ∷ []) = (single_shows tag last b, tt)
joined_show tag last (b ∷ next ∷ later) = (single_shows tag 1 b, joined_show tag last (next ∷ later))

part_there : (xs : List Raw) (n : ℕ) → n < length xs → (slice_get xs n ≡ Some (part_at xs n))
part_there [] n h = absurd (omega arith)
part_there (x ∷ xs) zero h = refl
part_there (x ∷ xs) (suc n) h = part_there xs n (omega arith)

part_shows : (xs : List Raw) (n : ℕ) → n < length xs → AllShow xs → shows_raw (part_at xs n) ≡ true
part_shows [] n h all = absurd (omega arith)
part_shows (x ∷ xs) zero h all = all.0
part_shows (x ∷ xs) (suc n) h all = part_shows xs n (omega arith) all.1

accepts_by_wait : (s o x : Bool) → s && not (is_raised (one_if (not (o && x)))) ≡ (s && o) && x
accepts_by_wait false o x = refl
accepts_by_wait true false x = refl
accepts_by_wait true true false = refl
accepts_by_wait true true true = refl

module _ (given : SplitInputs) where
  all_parts : (c : ℕ) → AllShow (split_list given c)
  all_parts c = joined_show (given.inputs.tag c) (given.inputs.more c) _

  shown_there : (c : ℕ) → shows_raw (split_part given (split_registers given c) c) ≡ split_shows given (split_registers given c) c
  shown_there c = by_shown (split_shows given (split_registers given c) c) refl
    where
      by_shown : (b : Bool) → split_shows given (split_registers given c) c ≡ b → shows_raw (if b then part_at (split_list given c) (split_registers given c).place else silent_raw) ≡ b
      by_shown false e = refl
      by_shown true e =
          part_shows (split_list given c) (split_registers given c).place
          (ltb-true (split_registers given c).place (length (split_list given c)) (and_parts (shows given.inputs.signals c && split_opens given (split_registers given c) c) (nat_lt (split_registers given c).place (length (split_list given c))) e).1)
          (all_parts c)

  part_is : (c : ℕ) → shows_raw (split_part given (split_registers given c) c) ≡ true → slice_get (split_list given c) (split_registers given c).place ≡ Some (split_part given (split_registers given c) c)
  part_is c shown =
      let there : split_shows given (split_registers given c) c ≡ true = sym (shown_there c) ∙ shown in
      let low = ltb-true (split_registers given c).place (length (split_list given c)) (and_parts (shows given.inputs.signals c && split_opens given (split_registers given c) c) (nat_lt (split_registers given c).place (length (split_list given c))) there).1 in
      part_there (split_list given c) (split_registers given c).place low
      ∙ ap (λ b. Some (if b then part_at (split_list given c) (split_registers given c).place else silent_raw)) (sym there)

  abbrev gathered_by : ℕ → Bool → Bool → Word
  gathered_by c v k = if v then (if k then nothing else split_added given (split_registers given c) c) else (split_registers given c).gathered

  adds : (c : ℕ) → AddsTo (split_below given) (split_state given) c (split_added given (split_registers given c) c)
  adds c =
      let bytes = given.narrow.word_bytes in
      record {
        word = piece_is_put bytes (drop (split_registers given c).come (split_registers given c).set) (split_registers given c).gathered.word (given.inputs.answers.word c % 256 ^ bytes) (mod-lt (given.inputs.answers.word c) (one-le-pow bytes 256 (omega arith)));
        code = refl;
      }

  pub split_runs : RunsAsSplit given.room (split_above given) (split_below given) (split_state given)
  split_runs = record {
    shown = λ c. shown_there c;
    part = λ c shown. part_is c shown;
    accepts = λ c. accepts_by_wait (shows given.inputs.signals c) (split_opens given (split_registers given c) c) _;
    place_begins = refl;
    place_next = λ c. refl;
    set_next = λ c. refl;
    reads_begin = refl;
    reads_next = λ c. refl;
    come_begins = refl;
    come_next = λ c. refl;
    gathered_begins = refl;
    gathered_stays = λ c e. ap (λ v. gathered_by c v (split_completes (split_registers given c))) e;
    gathered_more = λ c e f. subst (AddsTo (split_below given) (split_state given) c) (sym (ap₂ (gathered_by c) e f)) (adds c);
    gathered_anew = λ c e f. ap₂ (λ v k. (gathered_by c v k).code) e f;
    valid = λ c. raised_one (is_raised (given.inputs.answers.valid c) && split_completes (split_registers given c));
    given = λ c e. adds c;
  }

-- ---- a cutter of bursts

module _ (given : CutInputs) where
  part_shown : (now : CutRegisters) (c : ℕ) → shows_raw (cut_part given now c) ≡ cut_shows given now c
  part_shown now c = by_shown (cut_shows given now c)
    where
      by_write : (w : Bool) → shows_raw (if w then write_of_burst given.longest given.shape (place_in given.shape.word_bytes now.burst) (cut_raw given c) else read_burst_of given.reach (whole_read given.shape (cut_raw given c))) ≡ true
      by_write true = refl
      by_write false = refl

      by_sends : (s : Bool) → shows_raw (if s then read_burst_of given.reach now.rest else first_burst given.reach given.longest given.shape (place_in given.shape.word_bytes now.burst) (cut_raw given c)) ≡ true
      by_sends true = refl
      by_sends false = by_write (is_raised (given.inputs.signals.write c))

      by_shown : (b : Bool) → shows_raw (if b then cut_beat given now c else silent_raw) ≡ b
      by_shown true = by_sends (cut_sends now)
      by_shown false = refl

  -- what stands above is accepted with the first beat below
  accepts_first : (now : CutRegisters) (c : ℕ) → cut_takes given now c ≡ not (cut_sends now) && (cut_shows given now c && not (is_raised (given.inputs.waitrequest c)))
  accepts_first now c =
      ap (λ b. shows given.inputs.signals c && not b) (raised_one (cut_sends now || is_raised (given.inputs.waitrequest c)))
      ∙ by_sends (cut_sends now) (shows given.inputs.signals c) (is_raised (given.inputs.waitrequest c))
    where
      by_sends : (b s w : Bool) → s && not (b || w) ≡ not b && ((if b then true else s) && not w)
      by_sends true true w = refl
      by_sends true false w = refl
      by_sends false s w = refl

  burst_is : (c : ℕ) → (cut_registers given c).burst ≡ burst_before given.shape given.inputs.signals (takes (cut_above given)) c
  burst_is zero = refl
  burst_is (suc c) = ap (burst_after given.shape (levels_at given.inputs.signals c) (takes (cut_above given) c)) (burst_is c)

  pub cut_runs : RunsAsCutter given.reach given.longest (cut_above given) (cut_below given) (cut_state given)
  cut_runs = record {
    shown = λ c. part_shown (cut_registers given c) c;
    beat = λ c shown. ap (λ b. if b then cut_beat given (cut_registers given c) c else silent_raw) (sym (part_shown (cut_registers given c) c) ∙ shown);
    accepts = λ c. (let now = cut_registers given c in accepts_first now c ∙ ap (λ b. not (cut_sends now) && (b && not (is_raised (given.inputs.waitrequest c)))) (sym (part_shown now c)));
    place = λ c fit. record {
      left = ap (λ (b : Burst). b.left) (burst_is c);
      address = λ busy. ap (λ (b : Burst). b.first + b.done * given.shape.word_bytes) (burst_is c);
    };
    rest_begins = refl;
    rest_next = λ c. refl;
    valid = λ c. refl;
    word = λ c. refl;
    code = λ c. refl;
  }

-- ---- what gathers

pub gather_runs : (given : GatherInputs) → RunsAsGather given.room (gather_above given) (gather_below given) (gather_state given)
gather_runs given = record {
  levels = λ c. refl;
  more = λ c. refl;
  tag = λ c. refl;
  waitrequest = λ c. raised_one (gather_shuts given (gather_registers given c) c || is_raised (given.inputs.waitrequest c));
  entries_begin = refl;
  entries_next = λ c. refl;
  words_begin = refl;
  words_next = λ c. refl;
  given_begins = refl;
  given_next = λ c. refl;
  valid = λ c. raised_one (is_nonempty (gather_held given (gather_registers given c) c));
  word = λ c some. refl;
  code = λ c some. refl;
}

-- ---- what keeps beats without a lane from an agent

module _ (given : DropInputs) where
  sent_shows : (now : DropRegisters) (c : ℕ) → shows given.inputs.signals c ≡ true → (kept : List Raw) → shows_raw (sent_beat kept (drop_raw given c) (drop_stands given now c).acts) ≡ true
  sent_shows now c shown [] = shown
  sent_shows now c shown (raw ∷ later) = refl

  drop_shown : (now : DropRegisters) (c : ℕ) → shows_raw (drop_part given now c) ≡ sends given.room (drop_stands given now c)
  drop_shown now c = by_sends (sends given.room (drop_stands given now c)) refl
    where
      by_sends : (b : Bool) → sends given.room (drop_stands given now c) ≡ b → shows_raw (if b then sent_beat now.kept (drop_raw given c) (drop_stands given now c).acts else silent_raw) ≡ b
      by_sends false e = refl
      by_sends true e = sent_shows now c (and_parts (shows given.inputs.signals c) _ e).0 now.kept

  drop_accepts : (shown rest : Bool) → shown && not (is_raised (one_if (not (shown && rest)))) ≡ shown && rest
  drop_accepts true true = refl
  drop_accepts true false = refl
  drop_accepts false rest = refl

  pub drop_runs : RunsAsDrop given.room (drop_above given) (drop_below given) (drop_state given)
  drop_runs = record {
    shown = λ c. drop_shown (drop_registers given c) c;
    beat = λ c shown. ap (λ b. if b then sent_beat (drop_registers given c).kept (drop_raw given c) (drop_stands given (drop_registers given c) c).acts else silent_raw)
        (sym (drop_shown (drop_registers given c) c) ∙ shown);
    accepts = λ c. drop_accepts (shows given.inputs.signals c) _;
    kept_begins = refl;
    kept_next = λ c. refl;
    reads_begin = refl;
    reads_next = λ c. refl;
    own_begins = refl;
    own_next = λ c. refl;
    valid = λ c. raised_one ((drop_registers given c).own || is_raised (given.inputs.answers.valid c));
    word = λ c none. ap (λ b. if b then 0 else given.inputs.answers.word c) none;
    code = λ c. refl;
  }
