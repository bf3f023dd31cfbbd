-- What drops beats without a lane hands on: the operations of all beats but a kept one, and the words of all reads but one that came just now.
use Rattle.std.proofs.Common.{◌≡◌, ℕ, zero, suc, ◌+◌, ◌-◌, ◌*◌, ◌<◌, ◌≤◌, Bool, true, false, not, ◌&&◌, ◌||◌, List, [], ◌∷◌, ◌++◌, length, map, nat_eq, nat_lt, if◌then◌else◌, arith, refl, sym, ap, ap₂, ◌∙◌, subst, append-nil, IsTrue, IsFalse}
use Rattle.std.specs.List.{list_any}
use Rattle.std.proofs.lemmas.Bool.{and_parts}
use Rattle.std.proofs.lemmas.List.{length-map}
use Rattle.histories.specs.History.{is_raised, one_if, numbers}
use Rattle.memory_runs.specs.Views.{Shape, Levels, levels_at}
use Rattle.memory_runs.specs.Views.Kind.{Writes}
use Rattle.memory_runs.specs.Operations.{Beat, filled_lanes, operation_at, is_enabled}
use Rattle.memory_runs.specs.Commands.{Burst, shows, burst_before, byte_address, read_beat}
use Rattle.memory_machines.specs.Link.{Target, Port, AreLegalAt, AnswersAreOwed, takes, taken_at, marked_at, is_nonempty, operations_among, operations_in, words_at, words_owed}
use Rattle.memory_machines.specs.Machines.{Raw, raw_at}
use Rattle.memory_links.specs.Drops.{DropState, RunsAsDrop, IsDropPlan, any_lane, sends, accepted, keeps, standing_at, sent_beat}
use Rattle.memory_waits.proofs.Bits.{no_true, takes_shows, none_taken, one_taken, numbers_length}
use Rattle.memory_waits.proofs.Drops.{filled_are, now, kept_then, one_read, one_read_below, owed_are, words_above}
use Rattle.memory_waits.proofs.Rows.{words_by}
use Rattle.memory_waits.proofs.Taken.{more_operations}

-- ---- a beat with a lane has as many operations as a word has bytes, another none

lane_count : (target lower : Shape) (enables : ℕ) → 0 < lower.word_bytes → target.word_bytes ≡ lower.word_bytes → target.has_enables ≡ false → length (filled_lanes lower target enables) ≡ lower.word_bytes * one_if (any_lane lower enables)
lane_count target lower enables some same none = ap (λ (l : List ℕ). length l) (filled_are target lower enables some same none) ∙ by_any (any_lane lower enables) lower.word_bytes
  where
    by_any : (b : Bool) (n : ℕ) → length ((if b then numbers 0 n else []) ++ []) ≡ n * one_if b
    by_any true n = ap length (append-nil (numbers 0 n)) ∙ numbers_length 0 n ∙ omega arith
    by_any false n = omega arith

abbrev written_beat : Shape → Levels → Burst → Beat
written_beat shape levels burst = record {
  kind = Writes;
  address = (if nat_eq burst.left 0 then byte_address shape levels.address else burst.first) + (if nat_eq burst.left 0 then 0 else burst.done) * shape.word_bytes;
  word = levels.word;
  enables = levels.enables;
}

beat_size : (target : Target) (port : Port) (c : ℕ) → 0 < port.shape.word_bytes → target.shape.word_bytes ≡ port.shape.word_bytes → target.shape.has_enables ≡ false → (is_raised (port.commands.write c) ≡ false → port.commands.count c ≡ 1) →
    length (operations_in target port.shape (marked_at port c)) ≡ port.shape.word_bytes * one_if (any_lane port.shape (port.commands.enables c))
beat_size target port c some same none one = by_kind (is_raised (port.commands.write c)) refl
  where
    one_map : (beat : Beat) (l : List ℕ) → length (map (operation_at target.span beat) l ++ []) ≡ length l
    one_map beat l = ap length (append-nil (map (operation_at target.span beat) l)) ∙ length-map l (operation_at target.span beat)

    by_kind : (w : Bool) → is_raised (port.commands.write c) ≡ w → length (operations_in target port.shape (marked_at port c)) ≡ port.shape.word_bytes * one_if (any_lane port.shape (port.commands.enables c))
    by_kind true e = rw e (one_map (written_beat port.shape (levels_at port.commands.signals c) (burst_before port.shape port.commands.signals (takes port) c)) (filled_lanes port.shape target.shape (port.commands.enables c)) ∙ lane_count target.shape port.shape (port.commands.enables c) some same none)
    by_kind false e = rw (e, one e) (one_map (read_beat port.shape (levels_at port.commands.signals c) 0) (filled_lanes port.shape target.shape (port.commands.enables c)) ∙ lane_count target.shape port.shape (port.commands.enables c) some same none)

-- ---- one cycle: what is accepted with a lane is taken below or kept

operations_split : (room : ℕ) (s w a m h t : Bool) (r : ℕ) → (t ≡ true → sends room (now s w a m h r) ≡ true) →
    one_if (accepted (now s w a m h r) t && a) + one_if h ≡ one_if t + one_if (if keeps (now s w a m h r) t then true else if t then false else h)
operations_split room false w a m h true r f = let e = f refl in absurd cc
operations_split room false w a m true false r f = refl
operations_split room false w a m false false r f = refl
operations_split room true w false m h t r f = no_lane (accepted (now true w false m h r) t) w m h t (λ e. kept_here h (f e))
  where
    kept_here : (h : Bool) → sends room (now true w false m h r) ≡ true → h ≡ true
    kept_here true e = refl
    kept_here false e = absurd cc

    no_lane : (x w m h t : Bool) → (t ≡ true → h ≡ true) → one_if (x && false) + one_if h ≡ one_if t + one_if (if x && ((w && m) && false) then true else if t then false else h)
    no_lane true true true true true f = refl
    no_lane true true true true false f = refl
    no_lane true true true false true f = let e = f refl in absurd cc
    no_lane true true true false false f = refl
    no_lane true true false true true f = refl
    no_lane true true false true false f = refl
    no_lane true true false false true f = let e = f refl in absurd cc
    no_lane true true false false false f = refl
    no_lane true false m true true f = refl
    no_lane true false m true false f = refl
    no_lane true false m false true f = let e = f refl in absurd cc
    no_lane true false m false false f = refl
    no_lane false w m true true f = refl
    no_lane false w m true false f = refl
    no_lane false w m false true f = let e = f refl in absurd cc
    no_lane false w m false false f = refl
operations_split room true true true true true true r f = refl
operations_split room true true true true true false r f = refl
operations_split room true true true true false true r f = let e = f refl in absurd cc
operations_split room true true true true false false r f = refl
operations_split room true true true false true true r f = refl
operations_split room true true true false true false r f = refl
operations_split room true true true false false true r f = refl
operations_split room true true true false false false r f = refl
operations_split room true false true m true true r f = refl
operations_split room true false true m true false r f = refl
operations_split room true false true m false true r f = refl
operations_split room true false true m false false r f = refl

module _ (target : Target) (room : ℕ) (up down : Port) (state : DropState) (end : ℕ) (plan : IsDropPlan target up.shape down.shape) (runs : RunsAsDrop room up down state) (legal : AreLegalAt up end) (owed : AnswersAreOwed down end)
    (apart : (c : ℕ) → c < end → state.own c ≡ true → is_raised (down.answers.valid c) ≡ false) where
  abbrev kept : ℕ → Bool
  kept c = is_nonempty (state.kept c)

  abbrev acts : ℕ → Bool
  acts c = any_lane up.shape (up.commands.enables c)

  abbrev bytes : ℕ
  bytes = up.shape.word_bytes

  -- ---- operations

  lane_of : List Raw → Bool
  lane_of [] = true
  lane_of (x ∷ later) = any_lane up.shape x.levels.enables

  kept_lane : (c : ℕ) → lane_of (state.kept c) ≡ true
  unfolding lane_of
  kept_lane zero = ap lane_of runs.kept_begins
  kept_lane (suc c) = ap lane_of (runs.kept_next c) ∙ by_keeps (keeps (standing_at up state c) (takes down c)) refl (takes down c) (kept_lane c)
    where
      by_keeps : (k : Bool) → keeps (standing_at up state c) (takes down c) ≡ k → (t : Bool) → lane_of (state.kept c) ≡ true → lane_of (if k then raw_at up c ∷ [] else if t then [] else state.kept c) ≡ true
      by_keeps true e t more = (and_parts (is_raised (up.commands.write c) && is_raised (up.commands.more c)) (acts c) (and_parts (accepted (standing_at up state c) (takes down c)) _ e).1).1
      by_keeps false e true more = refl
      by_keeps false e false more = more

  -- what is taken below has a lane
  lane_below : (c : ℕ) → takes down c ≡ true → any_lane down.shape (down.commands.enables c) ≡ true
  unfolding lane_of
  lane_below c took =
      let beat = ap (λ (r : Raw). r.levels.enables) (runs.beat c (takes_shows down c took)) in
      ap₂ (λ n e. list_any (is_enabled e) (numbers 0 n)) plan.same beat ∙ by_kept (state.kept c) refl (kept_lane c)
    where
      shown_below : IsTrue (sends room (standing_at up state c))
      shown_below = sym (runs.shown c) ∙ takes_shows down c took

      acts_now : (h : Bool) → kept c ≡ h → IsFalse h → acts c ≡ true
      acts_now h e none =
          let two = and_parts (shows up.commands.signals c) _ shown_below in
          by_held h none (subst (λ b. IsTrue (if b then acts c || not (is_raised (up.commands.more c)) else acts c && (if is_raised (up.commands.write c) then not (is_raised (up.commands.more c)) else nat_lt (state.reads c) room))) e two.1)
        where
          by_held : (h : Bool) → IsFalse h → IsTrue (if h then acts c || not (is_raised (up.commands.more c)) else acts c && (if is_raised (up.commands.write c) then not (is_raised (up.commands.more c)) else nat_lt (state.reads c) room)) → acts c ≡ true
          by_held true f h = absurd (no_true (sym f))
          by_held false f h = (and_parts (acts c) _ h).0

      by_kept : (q : List Raw) → state.kept c ≡ q → lane_of q ≡ true → any_lane up.shape (sent_beat q (raw_at up c) (acts c)).levels.enables ≡ true
      by_kept [] e lane = acts_now (kept c) refl (ap is_nonempty e)
      by_kept (x ∷ q) e lane = lane

  operations_up : (c : ℕ) → c < end → length (operations_among target up.shape (taken_at up (suc c))) ≡ length (operations_among target up.shape (taken_at up c)) + bytes * one_if (takes up c && acts c)
  operations_up c fit = by_take (takes up c) refl
    where
      by_take : (t : Bool) → takes up c ≡ t → length (operations_among target up.shape (taken_at up (suc c))) ≡ length (operations_among target up.shape (taken_at up c)) + bytes * one_if (t && acts c)
      by_take false e = let same = ap (λ l. length (operations_among target up.shape l)) (none_taken up c e) in omega (arith, same)
      by_take true e =
          let more = ap (λ l. length (operations_among target up.shape l)) (one_taken up c e) ∙ more_operations target up.shape (taken_at up c) (marked_at up c) in
          let size = beat_size target up c plan.some plan.agent plan.enables (one_read target room up down state end plan runs legal c fit (takes_shows up c e)) in
          omega (arith, more, size)

  operations_down : (c : ℕ) → c < end → length (operations_among target down.shape (taken_at down (suc c))) ≡ length (operations_among target down.shape (taken_at down c)) + bytes * one_if (takes down c)
  operations_down c fit = by_take (takes down c) refl
    where
      by_take : (t : Bool) → takes down c ≡ t → length (operations_among target down.shape (taken_at down (suc c))) ≡ length (operations_among target down.shape (taken_at down c)) + bytes * one_if t
      by_take false e = let same = ap (λ l. length (operations_among target down.shape l)) (none_taken down c e) in omega (arith, same)
      by_take true e =
          let more = ap (λ l. length (operations_among target down.shape l)) (one_taken down c e) ∙ more_operations target down.shape (taken_at down c) (marked_at down c) in
          let some_below : 0 < down.shape.word_bytes = (let same = plan.same in let some = plan.some in omega (arith, same, some)) in
          let size = beat_size target down c some_below (plan.agent ∙ sym plan.same) plan.enables (one_read_below target room up down state end plan runs legal owed apart c fit e) in
          let lane = ap₂ (λ n b. n * one_if b) plan.same (lane_below c e) in
          omega (arith, more, size, lane)

  -- all but those of a kept beat are taken below
  pub operations_are : (c : ℕ) → c ≤ end → length (operations_among target up.shape (taken_at up c)) ≡ length (operations_among target down.shape (taken_at down c)) + bytes * one_if (kept c)
  operations_are zero fit = let none : one_if (kept 0) ≡ 0 = ap (λ q. one_if (is_nonempty q)) runs.kept_begins in let product = ap (λ n. bytes * n) none in omega (arith, product)
  operations_are (suc c) fit =
      let before = operations_are c (omega (arith, fit)) in
      let high = operations_up c fit in
      let low = operations_down c fit in
      let took = ap (λ t. one_if (t && acts c)) (runs.accepts c) in
      let next = ap one_if (kept_then target room up down state end plan runs legal c _ _ refl refl) in
      let split = operations_split room (shows up.commands.signals c) (is_raised (up.commands.write c)) (acts c) (is_raised (up.commands.more c)) (kept c) (takes down c) (state.reads c) (λ t. sym (runs.shown c) ∙ takes_shows down c t) in
      let sum : one_if (takes up c && acts c) + one_if (kept c) ≡ one_if (takes down c) + one_if (kept (suc c)) = omega (arith, took, next, split) in
      let all = times bytes (one_if (takes up c && acts c)) (one_if (kept c)) (one_if (takes down c)) (one_if (kept (suc c))) sum in
      omega (arith, before, high, low, all)
    where
      times : (n a b x y : ℕ) → a + b ≡ x + y → n * a + n * b ≡ n * x + n * y
      times n a b x y e =
          let left : n * a + n * b ≡ n * (a + b) = omega arith in
          let right : n * (x + y) ≡ n * x + n * y = omega arith in
          left ∙ ap (λ k. n * k) e ∙ right

  pub all_sent : (c : ℕ) → c ≤ end → kept c ≡ false → length (operations_among target up.shape (taken_at up c)) ≤ length (operations_among target down.shape (taken_at down c))
  all_sent c fit none =
      let all = operations_are c fit in
      let product = ap (λ b. bytes * one_if b) none in
      omega (arith, all, product)

  pub sent_next : (c : ℕ) → c < end → takes down c ≡ true → length (operations_among target up.shape (taken_at up c)) ≤ length (operations_among target down.shape (taken_at down (suc c)))
  sent_next c fit took =
      let all = operations_are c (omega (arith, fit)) in
      let next = operations_down c fit in
      let one = ap (λ b. bytes * one_if b) took in
      let most = few_bytes (kept c) in
      omega (arith, all, next, one, most)
    where
      few_bytes : (b : Bool) → bytes * one_if b ≤ bytes * one_if true
      few_bytes true = omega arith
      few_bytes false = omega arith

  -- ---- words

  -- the word of a read of its own comes in the next cycle
  pub words_come : (c d : ℕ) → c < d → d ≤ end → words_owed down c ≤ length (words_at down d) → words_owed up c ≤ length (words_at up d)
  words_come c d later fit all =
      let at : suc (c + (d - suc c)) ≡ d = omega (arith, later) in
      let given = subst (λ k. length (words_at up c) + length (words_at down k) + one_if (state.own c) ≤ length (words_at up k) + length (words_at down c)) at (come_on (d - suc c) (omega (arith, at, fit))) in
      let owes = owed_are target room up down state end plan runs legal owed apart c (omega (arith, later, fit)) in
      omega (arith, given, owes, all)
    where
      come_on : (n : ℕ) → suc (c + n) ≤ end → length (words_at up c) + length (words_at down (suc (c + n))) + one_if (state.own c) ≤ length (words_at up (suc (c + n))) + length (words_at down c)
      come_on zero fit =
          let same : c + 0 ≡ c = omega arith in
          let one = words_above target room up down state end plan runs legal owed apart c (omega (arith, fit)) in
          subst (λ k. length (words_at up c) + length (words_at down (suc k)) + one_if (state.own c) ≤ length (words_at up (suc k)) + length (words_at down c)) (sym same) (omega (arith, one))
      come_on (suc n) fit =
          let more = come_on n (omega (arith, fit)) in
          let one = words_above target room up down state end plan runs legal owed apart (suc (c + n)) (omega (arith, fit)) in
          let low = words_by down (suc (c + n)) in
          let same : suc (c + suc n) ≡ suc (suc (c + n)) = omega arith in
          subst (λ k. length (words_at up c) + length (words_at down k) + one_if (state.own c) ≤ length (words_at up k) + length (words_at down c)) (sym same) (omega (arith, more, one, low))
