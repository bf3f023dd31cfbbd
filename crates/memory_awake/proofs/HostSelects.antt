-- A lane selector hands each beat on as one: a command comes to as many steps below as above.
use Rattle.std.proofs.Common.{◌≡◌, ℕ, zero, suc, ◌<◌, Bool, true, false, not, ◌&&◌, ◌||◌, List, length, nat_eq, nat_lt, if◌then◌else◌, arith, refl, sym, ap, ◌∙◌, IsTrue, IsFalse, tests}
use Rattle.histories.specs.History.{is_raised}
use Rattle.memory_runs.specs.Views.{Levels, levels_at}
use Rattle.memory_runs.specs.Commands.{shows, burst_before, next_burst}
use Rattle.memory_machines.specs.Link.{Port, takes, taken_at, marked_at, is_last_joined}
use Rattle.memory_links.specs.Selects.{RunsAsSelect, is_shut}
use Rattle.memory_awake.proofs.Bits.{no_true, last_joined_end, none_taken, one_taken}
use Rattle.memory_awake.specs.Steps.{HasStepsLeft}
use Rattle.memory_awake.proofs.HostGrants.{no_both}

-- beats of one-beat commands are handed on one by one, in a good cycle as soon as they are shown
record HandsOnOne (up down : Port) (good : ℕ → Bool) (end : ℕ) : Type 0 where
  taken : (c : ℕ) → takes up c ≡ takes down c
  more : (c : ℕ) → down.commands.more c ≡ up.commands.more c
  one : (c : ℕ) → down.commands.count c ≡ 1
  shown : (c : ℕ) → c < end → IsTrue (good c) → IsTrue (shows up.commands.signals c) → IsTrue (shows down.commands.signals c)

module _ (up down : Port) (good : ℕ → Bool) (end : ℕ) (hands : HandsOnOne up down good end) (longest : ℕ) (rest : ℕ → ℕ) (above : HasStepsLeft up good longest rest end) where
  free_below : (c : ℕ) → (burst_before down.shape down.commands.signals (takes down) c).left ≡ 0
  free_below zero = refl
  free_below (suc c) = by_take (takes down c && is_raised (down.commands.write c)) (free_below c)
    where
      by_take : (t : Bool) → (burst_before down.shape down.commands.signals (takes down) c).left ≡ 0 →
          (if t then next_burst down.shape (levels_at down.commands.signals c) (burst_before down.shape down.commands.signals (takes down) c) else burst_before down.shape down.commands.signals (takes down) c).left ≡ 0
      by_take false free = free
      by_take true free = let none : nat_eq (burst_before down.shape down.commands.signals (takes down) c).left 0 ≡ true = grind (arith, tests, free) in let one = hands.one c in rw none (omega (arith, one))

  ends_below : (c : ℕ) → IsTrue (marked_at down c).transfer.ends
  ends_below c = by_write (is_raised (down.commands.write c)) refl
    where
      by_write : (w : Bool) → is_raised (down.commands.write c) ≡ w → IsTrue (marked_at down c).transfer.ends
      by_write false e = rw e refl
      by_write true e =
          let free = free_below c in
          let none : nat_eq (burst_before down.shape down.commands.signals (takes down) c).left 0 ≡ true = grind (arith, tests, free) in
          let count = hands.one c in
          let one : nat_eq (down.commands.count c) 1 ≡ true = grind (arith, tests, count) in
          rw (e, none, one) refl

  more_below : (e m : Bool) → IsTrue e → IsFalse (e && not m) → IsTrue m
  more_below true true x f = refl
  more_below true false x f = absurd (no_true (sym f))
  more_below false m x f = absurd (no_true x)

  not_closed : (e m : Bool) → IsTrue m → IsFalse (e && not m)
  not_closed true true h = refl
  not_closed false m h = refl
  not_closed true false h = absurd (no_true h)

  joined_above : (c : ℕ) → is_last_joined (taken_at up c) ≡ is_last_joined (taken_at down c)
  joined_above zero = refl
  joined_above (suc c) = by_take (takes down c) refl (joined_above c)
    where
      by_take : (t : Bool) → takes down c ≡ t → is_last_joined (taken_at up c) ≡ is_last_joined (taken_at down c) → is_last_joined (taken_at up (suc c)) ≡ is_last_joined (taken_at down (suc c))
      by_take true e more =
          let here = hands.taken c ∙ e in
          ap is_last_joined (one_taken up c here) ∙ last_joined_end (taken_at up c) (marked_at up c) ∙ ap is_raised (sym (hands.more c)) ∙ sym (ap is_last_joined (one_taken down c e) ∙ last_joined_end (taken_at down c) (marked_at down c))
      by_take false e more = let here = hands.taken c ∙ e in ap is_last_joined (none_taken up c here) ∙ more ∙ sym (ap is_last_joined (none_taken down c e))

  handed_steps : HasStepsLeft down good longest rest end
  handed_steps = record {
    some = above.some;
    few = above.few;
    fewer = λ c fit took open_still.
        let more = more_below (marked_at down c).transfer.ends (is_raised (down.commands.more c)) (ends_below c) open_still in
        above.fewer c fit (hands.taken c ∙ took) (not_closed (marked_at up c).transfer.ends (is_raised (up.commands.more c)) (ap is_raised (sym (hands.more c)) ∙ more));
    stays = λ c fit none. above.stays c fit (hands.taken c ∙ none);
    gaps = λ c fit opened quiet well. above.gaps c fit (joined_above c ∙ opened) (by_shown c fit quiet well (shows up.commands.signals c) refl) well;
  }
    where
      by_shown : (c : ℕ) → c < end → IsFalse (shows down.commands.signals c) → IsTrue (good c) → (s : Bool) → shows up.commands.signals c ≡ s → IsFalse s
      by_shown c fit quiet well false e = refl
      by_shown c fit quiet well true e = absurd (no_both _ (hands.shown c fit well e) quiet)

module _ (room : ℕ) (up down : Port) (offsets : ℕ → List ℕ) (runs : RunsAsSelect room up down offsets) (good : ℕ → Bool) (end : ℕ) (fine : (c : ℕ) → c < end → IsTrue (good c) → IsFalse (is_shut room up offsets c)) where
  shown_is : (c : ℕ) → shows down.commands.signals c ≡ (is_raised (if is_shut room up offsets c then 0 else up.commands.read c) || is_raised (up.commands.write c))
  shown_is c = ap (λ (l : Levels). is_raised l.read || is_raised l.write) (runs.levels c)

  hands : HandsOnOne up down good end
  hands = record {
    taken = λ c. taken c (is_shut room up offsets c) refl;
    more = runs.more;
    one = λ c. ap (λ (l : Levels). l.count) (runs.levels c);
    shown = λ c fit well above. shown_is c ∙ ap (λ b. is_raised (if b then 0 else up.commands.read c) || is_raised (up.commands.write c)) (fine c fit well) ∙ above;
  }
    where
      no_write : (w r : Bool) → IsTrue (not w && not r) → IsFalse w
      no_write false r h = refl
      no_write true r h = absurd (no_true h)

      by_shut : (s w q : Bool) → s ≡ true → w ≡ true → (s && not w) ≡ false
      by_shut true true q a b = refl
      by_shut true false q a b = absurd cc
      by_shut false w q a b = absurd cc

      none : (s w : Bool) → w ≡ true → (s && not w) ≡ false
      none true true h = refl
      none false true h = refl
      none s false h = absurd cc

      taken : (c : ℕ) → (b : Bool) → is_shut room up offsets c ≡ b → takes up c ≡ takes down c
      taken c true e =
          let write = no_write (is_raised (up.commands.write c)) (nat_lt (length (offsets c)) room) e in
          let quiet : shows down.commands.signals c ≡ false = shown_is c ∙ ap (λ b. is_raised (if b then 0 else up.commands.read c) || is_raised (up.commands.write c)) e ∙ write in
          let waits : is_raised (up.commands.waitrequest c) ≡ true = runs.waitrequest c ∙ ap (λ b. b || is_raised (down.commands.waitrequest c)) e in
          none (shows up.commands.signals c) (is_raised (up.commands.waitrequest c)) waits ∙ sym (ap (λ b. b && not (is_raised (down.commands.waitrequest c))) quiet)
      taken c false e =
          let same : shows down.commands.signals c ≡ shows up.commands.signals c = shown_is c ∙ ap (λ b. is_raised (if b then 0 else up.commands.read c) || is_raised (up.commands.write c)) e in
          let waits : is_raised (up.commands.waitrequest c) ≡ is_raised (down.commands.waitrequest c) = runs.waitrequest c ∙ ap (λ b. b || is_raised (down.commands.waitrequest c)) e in
          ap (λ b. shows up.commands.signals c && not b) waits ∙ ap (λ b. b && not (is_raised (down.commands.waitrequest c))) (sym same)

  pub select_has_steps_left : (longest : ℕ) (rest : ℕ → ℕ) → HasStepsLeft up good longest rest end → HasStepsLeft down good longest rest end
  select_has_steps_left longest rest above = handed_steps up down good end hands longest rest above
