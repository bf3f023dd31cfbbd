-- Links that hand each beat on at once, and what drops beats without an operation.
use Rattle.std.proofs.Common.{ℕ, suc, ◌<◌, ◌≤◌, ◌≡◌, ◌+◌, ◌⊎◌, inl, inr, Bool, true, false, not, ◌&&◌, ◌||◌, List, [], ◌∷◌, if◌then◌else◌, arith, refl, sym, ap, ap₂, subst, ◌∙◌, length, map, filter, nat_eq, IsTrue, length-append}
use Rattle.std.proofs.lemmas.Bool.{and_parts, or_left, or_right, eqb-true}
use Rattle.std.proofs.lemmas.List.{length-map}
use Rattle.histories.specs.History.{is_raised}
use Rattle.memory_runs.specs.Commands.{shows}
use Rattle.memory_machines.specs.Link.{Target, Port, Marked, AreLegalAt, takes, marked_at, taken_at, operations_among, operations_in, is_nonempty}
use Rattle.memory_machines.specs.Machines.{Raw, raw_at, raws, MaySplit}
use Rattle.memory_machines.specs.PartRanks.{JoinsAlike}
use Rattle.memory_links.specs.Passes.{ShowsWrite, PassesAtOnce, PassesActs, AcceptsActs, has_operation, acting}
use Rattle.memory_links.specs.Drops.{DropState, RunsAsDrop, IsDropPlan, accepted, standing_at}
use Rattle.memory_links.specs.Selects.{RunsAsSelect, IsSelectPlan, EnablesFit, takes_read}
use Rattle.memory_links.specs.Splits.{SplitState, RunsAsSplit, split_at, opens, completes}
use Rattle.memory_links.proofs.DropLink.{so_far, down_taken, IsLevel, IsAhead, sent, kept}
use Rattle.memory_links.proofs.DropLists.{Drops, few_left}
use Rattle.memory_links.proofs.DropLists.Drops.{ended, waits, goes, keeps, releases, ends_with, skips, passes}
use Rattle.memory_links.proofs.DropTaken.{acts_is, dropped_taken, up_one}
use Rattle.memory_links.proofs.Gather.{HasPieces}
use Rattle.memory_links.proofs.Lanes.{SelectsBeats}
use Rattle.memory_links.proofs.OneBeat.{flat_mark, flat_at, count_is_one}
use Rattle.memory_links.proofs.Selecting.{select_gate, alike}
use Rattle.memory_links.proofs.Shutting.{writes_below, open_for_writes, shows_same, takes_same}
use Rattle.memory_links.proofs.Prompt.{some_in}
use Rattle.memory_links.proofs.SplitPrompt.{parts_sizes}

pub select_passes : (room : ℕ) (up down : Port) (offsets : ℕ → List ℕ) → RunsAsSelect room up down offsets → (end : ℕ) → PassesAtOnce up down end
select_passes room up down offsets run end = record {
  beats = λ c h taken. takes_same (select_gate room up down offsets run) c ∙ taken;
  words = λ c h given. ap is_raised (sym (run.valid c)) ∙ given;
}

-- a cutter of bursts accepts while it sends no read by itself, and its answers are wires
pub cutter_passes : (up down : Port) (sends : ℕ → Bool) → ((c : ℕ) → takes up c ≡ not (sends c) && takes down c) → ((c : ℕ) → up.answers.valid c ≡ down.answers.valid c) → (end : ℕ) → PassesAtOnce up down end
cutter_passes up down sends accepts valid end = record {
  beats = λ c h taken. (and_parts (not (sends c)) (takes down c) (sym (accepts c) ∙ taken)).1;
  words = λ c h given. sym (ap is_raised (valid c)) ∙ given;
}

pub split_passes : (law : HasPieces) (target : Target) (room count : ℕ) (up down : Port) (state : SplitState) → MaySplit target up.shape down.shape count → RunsAsSplit room up down state → (end : ℕ) → AreLegalAt up end → AcceptsActs target up end → PassesAtOnce up down end
split_passes law target room count up down state may run end legal act = record {
  beats = λ c h taken.
      let last = (and_parts (shows up.commands.signals c && opens room up down state c) _ (sym (run.accepts c) ∙ taken)).1 in
      let shown = (and_parts (shows up.commands.signals c) (not (is_raised (up.commands.waitrequest c))) taken).0 in
      let beat = flat_at up end legal (count_is_one up end may.one_beat legal) c h shown in
      let some = some_in (operations_in target up.shape (flat_mark up.shape (raw_at up c))) (ap (has_operation target up) (sym beat) ∙ act c h taken) in
      by_parts (split_at up down c) (takes down c) _ (subst (λ n. 0 < n) (sym (parts_sizes law target up.shape down.shape count may (raw_at up c))) some) last;
  words = λ c h given. (and_parts (is_raised (down.answers.valid c)) (completes state c) (sym (run.valid c) ∙ given)).0;
}
  where
    by_parts : (ps : List Raw) (t l : Bool) → 0 < length (operations_among target down.shape (map (flat_mark down.shape) ps)) → nat_eq (length ps) 0 || (t && l) ≡ true → t ≡ true
    by_parts [] t l some e = absurd (omega (arith, some))
    by_parts (p ∷ ps) t l some e = by_zero (nat_eq (suc (length ps)) 0) refl e
      where
        by_zero : (z : Bool) → nat_eq (suc (length ps)) 0 ≡ z → z || (t && l) ≡ true → t ≡ true
        by_zero true f e = let none = eqb-true (suc (length ps)) 0 f in absurd (omega (arith, none))
        by_zero false f e = (and_parts t l e).0

-- ---- writes that end their commands

pub select_shows_writes : (law : SelectsBeats) (target : Target) (up down : Port) (many room : ℕ) (offsets : ℕ → List ℕ) → IsSelectPlan target up.shape down.shape many → 1 < room → RunsAsSelect room up down offsets → (end : ℕ) → EnablesFit up end → AreLegalAt up end →
    (c : ℕ) → c < end → ShowsWrite up down c
select_shows_writes law target up down many room offsets plan deep run end fit legal c h shown write ends =
    let same = alike law target up down many room offsets plan deep run end fit legal c h shown in (
      shows_same (select_gate room up down offsets run) c ∙ ap₂ (λ s x. s && not x) shown (open_for_writes (select_gate room up down offsets run) c write),
      ap is_raised (writes_below (select_gate room up down offsets run) c) ∙ write,
      ap₂ (λ e m. e && not m) same.ends same.more ∙ ends,
    )

-- ---- what drops beats

module _ (target : Target) (port : Port) where
  abbrev many : List Marked → ℕ
  many ms = length (filter (has_operation target port) ms)

  one_acting : (m : Marked) (ms : List Marked) → has_operation target port m ≡ true → many (m ∷ ms) ≡ 1 + many ms
  one_acting m ms e = ap (λ b. length (if b then m ∷ filter (has_operation target port) ms else filter (has_operation target port) ms)) e ∙ (omega arith)

  none_acting : (m : Marked) (ms : List Marked) → operations_in target port.shape m ≡ [] → many (m ∷ ms) ≡ many ms
  none_acting m ms e = ap (λ b. length (if b then m ∷ filter (has_operation target port) ms else filter (has_operation target port) ms)) (ap is_nonempty e)

  all_acting : {q : List Marked} {a : Bool} {us ds r : List Marked} → Drops target port.shape q a us ds r → length q + many us ≡ length ds + length r
  all_acting (ended a) = refl
  all_acting (waits a k is) = omega arith
  all_acting (goes a m us ds r act ends rest) = let so = all_acting rest in let one = one_acting m us act in omega (arith, so, one)
  all_acting (keeps a m us ds r is rest) = let so = all_acting rest in let one = one_acting m us is.acts in omega (arith, so, one)
  all_acting (releases a k m us ds r is rest) = let so = all_acting rest in omega (arith, so)
  all_acting (ends_with a k m us ds r is empty more rest) = let so = all_acting rest in let none = none_acting m us empty.none in omega (arith, so, none)
  all_acting (skips m us ds r empty ends rest) = let so = all_acting rest in let none = none_acting m us empty in omega (arith, so, none)
  all_acting (passes a k m us ds r is empty more rest) = let so = all_acting rest in let none = none_acting m us empty.none in omega (arith, so, none)

module _ (target : Target) (room : ℕ) (up down : Port) (state : DropState) (end : ℕ) (plan : IsDropPlan target up.shape down.shape) (run : RunsAsDrop room up down state) (legal : AreLegalAt up end) (alike : JoinsAlike target up end) where
  -- of the beats with an operation one may be kept
  record Balance (c : ℕ) : Type 0 where
    pub after : length (taken_at down c) ≤ length (acting target up c)
    pub soon : length (acting target up c) ≤ length (taken_at down c) + 1

  balance : (c : ℕ) → c ≤ end → Balance c
  balance c h = by_so_far (so_far target room up down state end plan run legal alike c h)
    where
      dropped : Drops target up.shape [] false (taken_at up c) (sent target room up down state end plan run legal alike c) (kept target room up down state end plan run legal alike c)
      dropped = dropped_taken target room up down state end plan run legal alike c h

      size : length (taken_at down c) ≡ length (map (flat_mark up.shape) (raws down c))
      size = ap length (down_taken target room up down state end plan run legal alike c h) ∙ length-map (raws down c) (flat_mark down.shape) ∙ sym (length-map (raws down c) (flat_mark up.shape))

      by_so_far : IsLevel target room up down state end plan run legal alike c ⊎ IsAhead target room up down state end plan run legal alike c → Balance c
      by_so_far (inl level) =
          let all = all_acting target up dropped in
          let few = few_left target up.shape dropped in
          let low = size ∙ ap length level.sent in
          record { after = omega (arith, all, low); soon = omega (arith, all, few, low) }
      by_so_far (inr ahead) =
          let all = all_acting target up dropped in
          let low = size ∙ ap length ahead.sent ∙ length-append (sent target room up down state end plan run legal alike c) (kept target room up down state end plan run legal alike c) in
          record { after = omega (arith, all, low); soon = omega (arith, all, low) }

  -- a word of its own is that of a read without a lane, which was accepted in the cycle before
  own_word : (c : ℕ) → suc c < end → state.own (suc c) ≡ true → IsTrue (takes_read up c && not (has_operation target up (marked_at up c)))
  own_word c h own =
      let parts = and_parts (accepted (standing_at up state c) (takes down c)) (not (is_raised (up.commands.write c)) && not (standing_at up state c).acts) (sym (run.own_next c) ∙ own) in
      let kinds = and_parts (not (is_raised (up.commands.write c))) (not (standing_at up state c).acts) parts.1 in
      let taken = run.accepts c ∙ parts.0 in
      let shown = (and_parts (shows up.commands.signals c) (not (is_raised (up.commands.waitrequest c))) taken).0 in
      let beat = flat_at up end legal (up_one target room up down state end plan run legal alike) c (omega (arith, h)) shown in
      let none = ap (has_operation target up) beat ∙ acts_is target room up down state end plan run legal alike (raw_at up c) in
      ap₂ (λ x y. x && y) (ap₂ (λ x y. x && y) taken kinds.0) (ap not none ∙ kinds.1)

  pub drop_passes : PassesActs 1 target up down end
  drop_passes = record {
    after = λ c h. (balance c h).after;
    soon = λ c h. (balance c h).soon;
    first = λ h given. ap (λ b. b || is_raised (down.answers.valid 0)) (sym run.own_begins) ∙ sym (run.valid 0) ∙ given;
    words = λ c h given. by_own c h (state.own (suc c)) refl (sym (run.valid (suc c)) ∙ given);
  }
    where
      by_own : (c : ℕ) → suc c < end → (b : Bool) → state.own (suc c) ≡ b → state.own (suc c) || is_raised (down.answers.valid (suc c)) ≡ true →
          IsTrue (is_raised (down.answers.valid (suc c)) || (takes_read up c && not (has_operation target up (marked_at up c))))
      by_own c h true e f = or_right (is_raised (down.answers.valid (suc c))) _ (own_word c h e)
      by_own c h false e f = or_left _ _ (ap (λ b. b || is_raised (down.answers.valid (suc c))) (sym e) ∙ f)
