-- A machine that drops beats without a lane begins below what waits above, but for a write that another may follow.
use Rattle.std.proofs.Common.{ℕ, suc, ◌<◌, ◌≤◌, ◌≡◌, ◌+◌, ◌⊎◌, inl, inr, Bool, true, false, not, ◌&&◌, ◌||◌, List, [], ◌∷◌, ◌++◌, if◌then◌else◌, arith, refl, sym, ap, ap₂, ◌∙◌, length, map, flat_map, nat_lt, IsTrue, lt-ltb}
use Rattle.std.proofs.lemmas.Bool.{and_parts, both_ways, not-true}
use Rattle.std.specs.List.{list_any}
use Rattle.histories.specs.History.{is_raised, numbers}
use Rattle.memory_runs.specs.Operations.{Beat, filled_lanes, is_enabled, operation_at}
use Rattle.memory_runs.specs.Views.{Shape}
use Rattle.memory_runs.specs.Views.Kind.{Reads, Writes}
use Rattle.memory_runs.specs.Commands.{shows, is_of_reads}
use Rattle.memory_machines.specs.Link.{Target, Port, AreLegalAt, AnswersAreOwed, takes, marked_at, taken_at, shown_at, operations_in, operations_among, is_nonempty, beat_operations}
use Rattle.memory_machines.specs.Machines.{Raw, raw_at}
use Rattle.memory_machines.specs.PartRanks.{JoinsAlike}
use Rattle.memory_machines.specs.Straight.{may_be_prompt, shows_plain, shows_empty_write}
use Rattle.memory_links.specs.Begins.{BeginsBelow, operations_taken}
use Rattle.memory_links.specs.Drops.{DropState, RunsAsDrop, IsDropPlan, sends, accepted, keeps, standing_at}
use Rattle.memory_links.specs.Links.{IsStraightLink}
use Rattle.memory_links.proofs.Beginning.{first_parts, taken_one, shown_beyond, begun_is_shown}
use Rattle.memory_links.proofs.DropLink.{high, one_alike, legal_below, so_far, level_sum, ahead_sum, IsLevel, IsAhead}
use Rattle.memory_links.proofs.DropLists.{acts, sum, same_sum}
use Rattle.memory_links.proofs.DropShown.{stands_so, lanes_are, one_shown, shown_is}
use Rattle.memory_links.proofs.DropStraight.{none_owed, above_is, straight}
use Rattle.memory_links.proofs.DropTaken.{lane, now_writes, now_more, acts_is, dropped_taken, kept_next}
use Rattle.memory_links.proofs.Gated.{total_sizes}
use Rattle.memory_links.proofs.InStep.{plain_parts}
use Rattle.memory_links.proofs.OneBeat.{flat_mark, flat_at}
use Rattle.memory_links.proofs.Prompt.{some_in}

-- ---- one cycle, by its bits

-- what has a lane and isn't kept is accepted as it is taken below, while no write is kept
taken_alone : (s w a m h t : Bool) (r : ℕ) → accepted (stands_so s w a m h r) t ≡ true → a ≡ true → w && m ≡ false → (not h && t) ≡ true
taken_alone false w a m h t r e lane last = cc
taken_alone true w false m h t r e lane last = cc
taken_alone true true true true h t r e lane last = cc
taken_alone true true true false h t r e lane last = e
taken_alone true false true m h t r e lane last = e

-- a write that another follows is kept, while none is
pub kept_alone : (s w a m h t : Bool) (r : ℕ) → s ≡ true → a ≡ true → w && m ≡ true → h ≡ false → accepted (stands_so s w a m h r) t ≡ true
kept_alone false w a m h t r shown lane more free = cc
kept_alone true w false m h t r shown lane more free = cc
kept_alone true false true m h t r shown lane more free = cc
kept_alone true true true false h t r shown lane more free = cc
kept_alone true true true true h t r shown lane more free = ap (λ h. not h || t) free

-- what is kept is shown below with the next beat with a lane
pub sends_kept : (room : ℕ) (s w a m : Bool) (r : ℕ) → s ≡ true → a ≡ true → sends room (stands_so s w a m true r) ≡ true
sends_kept room s w a m r shown lane = ap₂ (λ s a. s && (a || not m)) shown lane

-- it is shown below, or what is kept is
sends_first : (room : ℕ) (s w a m h : Bool) (r : ℕ) → s ≡ true → a ≡ true → w && m ≡ false → (w ≡ false → r < room) → sends room (stands_so s w a m h r) ≡ true
sends_first room s w a m true r shown lane last free = sends_kept room s w a m r shown lane
sends_first room s true a true false r shown lane last free = cc
sends_first room s true a false false r shown lane last free = ap₂ (λ s a. s && (a && true)) shown lane
sends_first room s false a m false r shown lane last free = ap₂ (λ s a. s && (a && nat_lt r room)) shown lane ∙ lt-ltb r room (free refl)

-- where words are those of the agent, a plain command has an operation
pub plain_acts : (target : Target) (port : Port) (c : ℕ) → 0 < port.shape.word_bytes → target.shape.word_bytes ≡ port.shape.word_bytes → IsTrue (shows_plain port c) →
    is_nonempty (operations_in target port.shape (marked_at port c)) ≡ true
plain_acts target port c some same plain =
    by_beats (marked_at port c).transfer.beats (plain_parts port c plain).lane
  where
    front : {A B : Type 0} (f : A → B) (l : List A) (rest : List B) → is_nonempty l ≡ true → is_nonempty (map f l ++ rest) ≡ true
    front f [] rest e = cc
    front f (x ∷ l) rest e = refl

    behind : {A : Type 0} (xs ys : List A) → is_nonempty ys ≡ true → is_nonempty (xs ++ ys) ≡ true
    behind [] ys e = e
    behind (x ∷ xs) ys e = refl

    by_beats : (beats : List Beat) → list_any (λ (b : Beat). list_any (is_enabled b.enables) (numbers 0 port.shape.word_bytes)) beats ≡ true → is_nonempty (flat_map (beat_operations target port.shape) beats) ≡ true
    by_beats [] e = cc
    by_beats (b ∷ beats) e = by_lane (list_any (is_enabled b.enables) (numbers 0 port.shape.word_bytes)) refl e (by_beats beats)
      where
        by_lane : (x : Bool) → list_any (is_enabled b.enables) (numbers 0 port.shape.word_bytes) ≡ x → x || list_any (λ (b : Beat). list_any (is_enabled b.enables) (numbers 0 port.shape.word_bytes)) beats ≡ true →
            (list_any (λ (b : Beat). list_any (is_enabled b.enables) (numbers 0 port.shape.word_bytes)) beats ≡ true → is_nonempty (flat_map (beat_operations target port.shape) beats) ≡ true) →
            is_nonempty (beat_operations target port.shape b ++ flat_map (beat_operations target port.shape) beats) ≡ true
        by_lane true has e rest = front (operation_at target.span b) (filled_lanes port.shape target.shape b.enables) (flat_map (beat_operations target port.shape) beats) (lanes_are target.shape port.shape b.enables some same ∙ has)
        by_lane false has e rest = behind (beat_operations target port.shape b) (flat_map (beat_operations target port.shape) beats) (rest e)

-- a read, or a write that ends its command
pub last_of : (shape : Shape) (raw : Raw) → may_be_prompt false (flat_mark shape raw) ≡ true → is_raised raw.levels.write && is_raised raw.more ≡ false
last_of shape raw may = by_bits (is_raised raw.levels.write) (is_raised raw.more) may
  where
    by_bits : (w m : Bool) → is_of_reads (if w then Writes else Reads) || not m || false ≡ true → w && m ≡ false
    by_bits true true e = cc
    by_bits true false e = refl
    by_bits false m e = refl

module _ (target : Target) (room : ℕ) (up down : Port) (state : DropState) (end : ℕ) (plan : IsDropPlan target up.shape down.shape) (run : RunsAsDrop room up down state) (legal : AreLegalAt up end) (alike : JoinsAlike target up end) (owed : AnswersAreOwed down end) (some : 0 < room) where
  -- ---- what stands above

  pub lane_at : (c : ℕ) → c < end → shows up.commands.signals c ≡ true → is_nonempty (operations_in target up.shape (marked_at up c)) ≡ true → lane target room up down state end plan run legal alike c ≡ true
  lane_at c h shown act =
      sym (acts_is target room up down state end plan run legal alike (raw_at up c))
      ∙ ap (acts target up.shape) (sym (above_is target room up down state end plan run legal alike owed some c h shown)) ∙ act

  pub last_at : (c : ℕ) → c < end → shows up.commands.signals c ≡ true → may_be_prompt false (marked_at up c) ≡ true → now_writes target room up down state end plan run legal alike c && now_more target room up down state end plan run legal alike c ≡ false
  last_at c h shown may = last_of up.shape (raw_at up c) (ap (may_be_prompt false) (sym (above_is target room up down state end plan run legal alike owed some c h shown)) ∙ may)

  -- ---- what is taken

  -- where no beat is kept, all that was accepted is taken below
  pub all_taken : (c : ℕ) → c ≤ end → state.kept c ≡ [] → operations_taken target down c ≡ operations_taken target up c
  all_taken c h free = by_so_far (so_far target room up down state end plan run legal alike c h) ∙ total_sizes target up.shape (taken_at up c)
    where
      by_so_far : IsLevel target room up down state end plan run legal alike c ⊎ IsAhead target room up down state end plan run legal alike c → operations_taken target down c ≡ sum target up.shape (taken_at up c)
      by_so_far (inl level) =
          let none = ap (sum target up.shape) (sym level.kept ∙ ap (map (high target room up down state end plan run legal alike)) free) in
          let sums = same_sum target up.shape (dropped_taken target room up down state end plan run legal alike c h) in
          let all = level_sum target room up down state end plan run legal alike c h level in
          omega (arith, none, sums, all)
      by_so_far (inr ahead) = ahead_sum target room up down state end plan run legal alike c h ahead

  -- so it is by the end of a cycle in which a beat is accepted that has a lane and isn't kept
  pub taken_level : (c : ℕ) → c < end → takes up c ≡ true → lane target room up down state end plan run legal alike c ≡ true → now_writes target room up down state end plan run legal alike c && now_more target room up down state end plan run legal alike c ≡ false →
      operations_taken target down (suc c) ≡ operations_taken target up (suc c)
  taken_level c h t has last = all_taken (suc c) h (kept_next target room up down state end plan run legal alike c false true not_kept alone.1)
    where
      alone : (not (is_nonempty (state.kept c)) ≡ true) × (takes down c ≡ true)
      alone =
          and_parts (not (is_nonempty (state.kept c))) (takes down c)
          (taken_alone (shows up.commands.signals c) (is_raised (up.commands.write c)) (lane target room up down state end plan run legal alike c) (is_raised (up.commands.more c)) (is_nonempty (state.kept c)) (takes down c) (state.reads c) (sym (run.accepts c) ∙ t) has last)

      not_kept : keeps (standing_at up state c) (takes down c) ≡ false
      not_kept = ap (λ b. accepted (standing_at up state c) (takes down c) && (b && lane target room up down state end plan run legal alike c)) last ∙ no_keep (accepted (standing_at up state c) (takes down c))
        where
          no_keep : (x : Bool) → x && false ≡ false
          no_keep true = refl
          no_keep false = refl

  -- ---- what is shown

  -- each beat below has an operation
  pub none_empty : (c : ℕ) → c < end → shows down.commands.signals c ≡ true → is_nonempty (operations_in target down.shape (marked_at down c)) ≡ true
  none_empty c h shown =
      ap (λ m. is_nonempty (operations_in target down.shape m)) (flat_at down end (legal_below target room up down state end plan run legal alike) (one_shown target room up down state end plan run legal) c h shown)
      ∙ ap is_nonempty (one_alike target room up down state end plan run legal alike (raw_at down c)).operations
      ∙ acts_is target room up down state end plan run legal alike (raw_at down c) ∙ (shown_is target room up down state end plan run legal c h shown).lane

  -- so one that is shown comes after all that was taken
  pub goes_beyond : (c d : ℕ) → c ≤ d → c < end → shows down.commands.signals c ≡ true → operations_taken target down c < length (operations_among target down.shape (shown_at down (suc d)))
  goes_beyond c d low h shown = shown_beyond target down end (legal_below target room up down state end plan run legal alike) c d low h shown (none_empty c h shown)

  pub sends_at : (c : ℕ) → c < end → shows up.commands.signals c ≡ true → lane target room up down state end plan run legal alike c ≡ true → now_writes target room up down state end plan run legal alike c && now_more target room up down state end plan run legal alike c ≡ false →
      (is_raised (up.commands.write c) ≡ false → state.reads c < room) → shows down.commands.signals c ≡ true
  sends_at c h shown has last free =
      run.shown c
      ∙ sends_first room (shows up.commands.signals c) (is_raised (up.commands.write c)) (lane target room up down state end plan run legal alike c) (is_raised (up.commands.more c)) (is_nonempty (state.kept c)) (state.reads c) shown has last free

  pub no_empty : (c : ℕ) → c < end → IsTrue (shows_empty_write target down c) → ⊥
  no_empty c h empty =
      let parts = and_parts (shows down.commands.signals c && not (is_of_reads (marked_at down c).transfer.kind)) (not (is_nonempty (operations_in target down.shape (marked_at down c)))) empty in
      let shown = (and_parts (shows down.commands.signals c) (not (is_of_reads (marked_at down c).transfer.kind)) parts.0).0 in
      both_ways (is_nonempty (operations_in target down.shape (marked_at down c))) (not-true (is_nonempty (operations_in target down.shape (marked_at down c))) parts.1) (none_empty c h shown)

  pub drop_begins : (few : ℕ) → BeginsBelow few false target up down end
  drop_begins few = record {
    taken = λ c h first t.
        let is = first_parts false target up c first in
        let level = taken_level c h t (lane_at c h is.shown is.acts) (last_at c h is.shown is.may) in
        let one = taken_one target up c t in
        let act = some_in (operations_in target up.shape (marked_at up c)) is.acts in
        omega (arith, level, one, act);
    waits = λ c h first not_taken reached given.
        let now : c < end = omega (arith, h) in
        let is = first_parts false target up c first in
        let none = none_owed target room up down state end plan run legal alike owed some c (omega (arith, h)) given in
        let shown = sends_at c now is.shown (lane_at c now is.shown is.acts) (last_at c now is.shown is.may) (λ read. omega (arith, none, some)) in
        let beyond = goes_beyond c (c + few) (omega arith) now shown in
        omega (arith, beyond, reached);
    empty = λ c h empty. absurd (no_empty c h empty);
  }

pub drop_is_straight : (target : Target) (room : ℕ) (up down : Port) (state : DropState) (end : ℕ) → IsDropPlan target up.shape down.shape → 0 < room → RunsAsDrop room up down state → JoinsAlike target up end → (few : ℕ) → IsStraightLink few false false target up down end
drop_is_straight target room up down state end plan some run alike few = record {
  straight = λ legal owed. straight target room up down state end plan run legal alike owed some;
  prompt = λ legal owed. begun_is_shown few false target up down end legal (legal_below target room up down state end plan run legal alike) (drop_begins target room up down state end plan run legal alike owed some few);
}
