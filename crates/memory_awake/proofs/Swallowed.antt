-- What a splitter, and what drops beats, don't hand on is swallowed, and stirs their own port.
use Rattle.std.proofs.Common.{ℕ, zero, suc, ◌<◌, ◌≤◌, ◌≡◌, ◌+◌, Bool, true, false, not, ◌&&◌, ◌||◌, List, [], ◌∷◌, if◌then◌else◌, arith, refl, sym, ap, ap₂, ◌∙◌, length, nat_eq, IsTrue, IsFalse}
use Rattle.std.proofs.lemmas.Bool.{and_parts, eqb-true}
use Rattle.histories.specs.History.{is_raised, one_if}
use Rattle.memory_runs.specs.Commands.{shows}
use Rattle.memory_runs.specs.Operations.{Beat}
use Rattle.memory_machines.specs.Link.{Port, takes, is_nonempty}
use Rattle.memory_machines.specs.Machines.{Raw, raw_at, joined, or_first, touched, beat_of}
use Rattle.memory_links.specs.Drops.{DropState, RunsAsDrop, Standing, standing_at, sends, accepted, keeps, any_lane}
use Rattle.memory_links.specs.Splits.{SplitState, RunsAsSplit, split_at, opens, completes}
use Rattle.memory_awake.specs.Slack.{PassesWhileStill, stirs, brings_next}
use Rattle.memory_awake.specs.Still.{StirsAbove, SpentStirs}
use Rattle.memory_awake.specs.Ways.{count_in}
use Rattle.memory_awake.proofs.Bits.{no_true}
use Rattle.memory_awake.proofs.LinksPass.{fewer_in}
use Rattle.memory_awake.proofs.Passing.{one_or_none}
use Rattle.memory_awake.proofs.SplitCounts.{joined_size}
use Rattle.memory_awake.proofs.Stirred.{write_stirs, word_stirs}

-- ---- a splitter

nothing_sent : (tag more : ℕ) (beats : List Beat) → length (joined tag more beats) ≡ 0 → beats ≡ []
nothing_sent tag more [] none = refl
nothing_sent tag more (b ∷ beats) none = let same = joined_size tag more (b ∷ beats) in absurd (omega (arith, none, same))

pub split_while_still : (room : ℕ) (top up down : Port) (state : SplitState) → RunsAsSplit room up down state → (end : ℕ) → StirsAbove top up end → PassesWhileStill (record { hold = 0; kept = 0 }) top up down end
split_while_still room top up down state run end above = record {
  beats = λ from size h still. (let fewer = fewer_in (takes up) (takes down) from size (λ c low high taken. handed c (omega (arith, high, h)) (still c low high) taken) in omega (arith, fewer));
  words = λ from size h still. (let fewer = fewer_in (brings_next up) (brings_next down) from size (λ c low high given. (and_parts (is_raised (down.answers.valid (suc c))) (completes state (suc c)) (sym (run.valid (suc c)) ∙ given)).0) in omega (arith, fewer));
}
  where
    needs : (beat : Beat) (beats : List Beat) (more write : Bool) → or_first down.shape (not more || not write) beat beats ≡ [] → IsTrue write
    needs beat [] true true none = refl
    needs beat [] true false none = cc
    needs beat [] false write none = cc
    needs beat (b ∷ beats) more write none = cc

    is_write : (c : ℕ) → length (split_at up down c) ≡ 0 → IsTrue (is_raised (up.commands.write c))
    is_write c none =
        let beat = beat_of up.shape (raw_at up c).levels in
        let touches = touched up.shape down.shape beat in
        needs beat touches (is_raised (up.commands.more c)) (is_raised (up.commands.write c)) (nothing_sent (up.commands.tag c) (up.commands.more c) (or_first down.shape (not (is_raised (up.commands.more c)) || not (is_raised (up.commands.write c))) beat touches) none)

    handed : (c : ℕ) → c < end → IsFalse (stirs top c) → IsTrue (takes up c) → IsTrue (takes down c)
    handed c h still taken = by_parts (nat_eq (length (split_at up down c)) 0) (takes down c) _ refl (and_parts (shows up.commands.signals c && opens room up down state c) _ (sym (run.accepts c) ∙ taken)).1
      where
        by_parts : (none t last : Bool) → nat_eq (length (split_at up down c)) 0 ≡ none → IsTrue (none || (t && last)) → IsTrue t
        by_parts true t last e is =
            let write = is_write c (eqb-true (length (split_at up down c)) 0 e) in
            absurd (no_true (sym still ∙ above c h (write_stirs up c taken write)))
        by_parts false t last e is = (and_parts t last is).0

-- ---- what drops beats

abbrev standing : (s w a m h : Bool) (r : ℕ) → Standing
standing s w a m h r = record { shown = s; writes = w; acts = a; more = m; holds = h; reads = r }

-- of the beats that have a lane, one is kept or goes below for each that comes
balanced : (room r : ℕ) (s w a m h t : Bool) → (IsTrue t → IsTrue (sends room (standing s w a m h r))) → IsFalse (accepted (standing s w a m h r) t && not a) →
    one_if (if keeps (standing s w a m h r) t then true else if t then false else h) + one_if t ≡ one_if h + one_if (accepted (standing s w a m h r) t)
balanced room r false w a m h true sent none = absurd (no_true (sent refl))
balanced room r false w a m h false sent none = refl
balanced room r true true true true true true sent none = refl
balanced room r true true true false true true sent none = refl
balanced room r true false true m true true sent none = refl
balanced room r true true true true false true sent none = absurd (no_true (sent refl))
balanced room r true true true false false true sent none = refl
balanced room r true false true m false true sent none = refl
balanced room r true true true true true false sent none = refl
balanced room r true true true true false false sent none = refl
balanced room r true true true false true false sent none = refl
balanced room r true true true false false false sent none = refl
balanced room r true false true m true false sent none = refl
balanced room r true false true m false false sent none = refl
balanced room r true w false m h t sent none = swallowed (accepted (standing true w false m h r) t) ((w && m) && false) h t none (kept h sent)
  where
    kept : (h : Bool) → (IsTrue t → IsTrue (sends room (standing true w false m h r))) → IsTrue t → IsTrue h
    kept true sent is = refl
    kept false sent is = absurd (no_true (sent is))

    swallowed : (x k h t : Bool) → IsFalse (x && true) → (IsTrue t → IsTrue h) → one_if (if x && k then true else if t then false else h) + one_if t ≡ one_if h + one_if x
    swallowed true k h t none so = absurd (no_true (sym none))
    swallowed false k h true none so = let is = ap one_if (so refl) in omega (arith, is)
    swallowed false k h false none so = refl

module _ (room : ℕ) (top up down : Port) (state : DropState) (run : RunsAsDrop room up down state) (end : ℕ) (spent : SpentStirs top up end) where
  abbrev lane : ℕ → Bool
  lane c = any_lane up.shape (up.commands.enables c)

  abbrev held : ℕ → ℕ
  held c = one_if (is_nonempty (state.kept c))

  swallows_none : (c : ℕ) → c < end → IsFalse (stirs top c) → IsFalse (takes up c && not (lane c))
  swallows_none c h still = by_test (takes up c && not (lane c)) refl
    where
      writes_or_owes : (w : Bool) → is_raised (up.commands.write c) ≡ w → IsTrue (takes up c && not (lane c)) → IsTrue (stirs up c)
      writes_or_owes true e is = write_stirs up c (and_parts (takes up c) (not (lane c)) is).0 e
      writes_or_owes false e is =
          let parts = and_parts (takes up c) (not (lane c)) is in
          let owes : state.own (suc c) ≡ true = run.own_next c ∙ ap₂ (λ x y. x && y) (sym (run.accepts c) ∙ parts.0) (ap₂ (λ x y. not x && y) e parts.1) in
          word_stirs up c (run.valid (suc c) ∙ ap (λ b. b || is_raised (down.answers.valid (suc c))) owes)

      by_test : (b : Bool) → takes up c && not (lane c) ≡ b → IsFalse b
      by_test false e = refl
      by_test true e = absurd (no_true (sym still ∙ spent c h (ap₂ (λ x y. x && y) e (writes_or_owes (is_raised (up.commands.write c)) refl e))))

  one_step : (c : ℕ) → c < end → IsFalse (stirs top c) → held (suc c) + one_if (takes down c) ≡ held c + one_if (takes up c)
  one_step c h still =
      ap (λ b. one_if b + one_if (takes down c)) kept_so
      ∙ balanced room (state.reads c) (shows up.commands.signals c) (is_raised (up.commands.write c)) (lane c) (is_raised (up.commands.more c)) (is_nonempty (state.kept c)) (takes down c)
      (λ t. sym (run.shown c) ∙ (and_parts (shows down.commands.signals c) (not (is_raised (down.commands.waitrequest c))) t).0)
      (ap (λ b. b && not (lane c)) (sym (run.accepts c)) ∙ swallows_none c h still)
      ∙ ap (λ b. held c + one_if b) (sym (run.accepts c))
    where
      kept_by : (k t : Bool) (raw : Raw) (q : List Raw) → is_nonempty (if k then raw ∷ [] else if t then [] else q) ≡ (if k then true else if t then false else is_nonempty q)
      kept_by true t raw q = refl
      kept_by false true raw q = refl
      kept_by false false raw q = refl

      kept_so : is_nonempty (state.kept (suc c)) ≡ (if keeps (standing_at up state c) (takes down c) then true else if takes down c then false else is_nonempty (state.kept c))
      kept_so = ap is_nonempty (run.kept_next c) ∙ kept_by (keeps (standing_at up state c) (takes down c)) (takes down c) (raw_at up c) (state.kept c)

  in_balance : (from size : ℕ) → from + size ≤ end → ((c : ℕ) → from ≤ c → c < from + size → IsFalse (stirs top c)) → held (from + size) + count_in (takes down) from size ≡ held from + count_in (takes up) from size
  in_balance from zero h still = let same : from + 0 ≡ from = omega arith in let here = ap held same in omega (arith, here)
  in_balance from (suc size) h still =
      let more = in_balance from size (omega (arith, h)) (λ c low high. still c low (omega (arith, high))) in
      let step = one_step (from + size) (omega (arith, h)) (still (from + size) (omega arith) (omega arith)) in
      let moved : from + suc size ≡ suc (from + size) = omega arith in
      let there = ap held moved in
      omega (arith, more, step, there)

  comes_from_below : (c : ℕ) → c < end → IsFalse (stirs top c) → IsTrue (brings_next up c) → IsTrue (brings_next down c)
  comes_from_below c h still given = by_own (state.own (suc c)) refl (sym (run.valid (suc c)) ∙ given)
    where
      by_own : (b : Bool) → state.own (suc c) ≡ b → IsTrue (b || is_raised (down.answers.valid (suc c))) → IsTrue (is_raised (down.answers.valid (suc c)))
      by_own false e is = is
      by_own true e is =
          let parts = and_parts (accepted (standing_at up state c) (takes down c)) (not (is_raised (up.commands.write c)) && not (lane c)) (sym (run.own_next c) ∙ e) in
          let kinds = and_parts (not (is_raised (up.commands.write c))) (not (lane c)) parts.1 in
          absurd (no_true (sym (swallows_none c h still) ∙ ap₂ (λ x y. x && y) (run.accepts c ∙ parts.0) kinds.1))

  pub drop_while_still : PassesWhileStill (record { hold = 1; kept = 0 }) top up down end
  drop_while_still = record {
    beats = λ from size h still. (let all = in_balance from size h still in let few = one_or_none (is_nonempty (state.kept (from + size))) in omega (arith, all, few));
    words = λ from size h still. (let fewer = fewer_in (brings_next up) (brings_next down) from size (λ c low high given. comes_from_below c (omega (arith, high, h)) (still c low high) given) in omega (arith, fewer));
  }
