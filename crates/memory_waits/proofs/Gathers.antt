-- What gathers reads: a read is held back while many are under way, and while no word is owed below their words are given out one by one.
use Rattle.std.proofs.Common.{◌≡◌, ℕ, zero, suc, ◌+◌, ◌*◌, ◌<◌, ◌≤◌, Bool, true, false, not, ◌||◌, length, if◌then◌else◌, arith, refl, sym, ap, ◌∙◌, IsTrue, IsFalse}
use Rattle.histories.specs.History.{is_raised}
use Rattle.memory_runs.specs.Commands.{shows}
use Rattle.memory_machines.specs.Link.{Target, Port, AreLegalAt, takes, taken_at, marked_at, closes, is_last_joined, words_at, words_owed}
use Rattle.memory_links.specs.Gathers.{GatherState, RunsAsGather, is_shut}
use Rattle.memory_parts.specs.Steps.{is_gone}
use Rattle.memory_awake.specs.Steps.{HasStepsLeft}
use Rattle.memory_waits.proofs.Bits.{no_both, takes_shows, not_shown, none_taken, one_taken}
use Rattle.memory_waits.proofs.GatherCounts.{rest_falls, rest_few, rest_of, rest_stays, same_takes, shown_is, shut_is}
use Rattle.memory_waits.proofs.Rows.{joins_more, not_closed, last_joined_end}

module _ (target : Target) (room many : ℕ) (up down : Port) (state : GatherState) (runs : RunsAsGather room up down state) (end : ℕ) (owed : (c : ℕ) → c < end → length (words_at down (suc c)) ≤ words_owed down c) (good : ℕ → Bool) (longest : ℕ) (rest : ℕ → ℕ)
    (deep : 1 < room) (some : 1 ≤ many) (short : (c : ℕ) → c < end → IsTrue (shows up.commands.signals c) → IsFalse (is_raised (up.commands.write c)) → up.commands.count c ≤ many)
    (fine : (c : ℕ) → c < end → IsTrue (good c) → IsFalse (is_gone down c)) (legal_down : AreLegalAt down end) (above : HasStepsLeft up good longest rest end) where
  abbrev to_give : ℕ → ℕ
  to_give c = rest_of target room many up down state runs end owed c

  joined_above : (c : ℕ) → is_last_joined (taken_at up c) ≡ is_last_joined (taken_at down c)
  joined_above zero = refl
  joined_above (suc c) = by_take (takes down c) refl (joined_above c)
    where
      by_take : (t : Bool) → takes down c ≡ t → is_last_joined (taken_at up c) ≡ is_last_joined (taken_at down c) → is_last_joined (taken_at up (suc c)) ≡ is_last_joined (taken_at down (suc c))
      by_take true e more =
          let here = same_takes target room many up down state runs end c ∙ e in
          ap is_last_joined (one_taken up c here) ∙ last_joined_end (taken_at up c) (marked_at up c) ∙ ap is_raised (sym (runs.more c)) ∙ sym (ap is_last_joined (one_taken down c e) ∙ last_joined_end (taken_at down c) (marked_at down c))
      by_take false e more = let here = same_takes target room many up down state runs end c ∙ e in ap is_last_joined (none_taken up c here) ∙ more ∙ sym (ap is_last_joined (none_taken down c e))

  abbrev pub gathered_left : ℕ → ℕ
  gathered_left c = rest c * (many + 1) + to_give c

  times_most : (a b m : ℕ) → a ≤ b → a * m ≤ b * m
  times_most a zero m h = let none : a ≡ 0 = omega (arith, h) in rw none (omega arith)
  times_most zero (suc b) m h = omega arith
  times_most (suc a) (suc b) m h =
      let more = times_most a b m (omega (arith, h)) in
      let left : suc a * m ≡ a * m + m = omega arith in
      let right : suc b * m ≡ b * m + m = omega arith in
      omega (arith, more, left, right)

  less_by : (a b m x y : ℕ) → a + 1 ≤ b → x ≤ m → a * (m + 1) + x + 1 ≤ b * (m + 1) + y
  less_by a b m x y h few =
      let more = times_most (suc a) b (m + 1) (omega (arith, h)) in
      let all : suc a * (m + 1) ≡ a * (m + 1) + (m + 1) = omega arith in
      omega (arith, more, all, few)

  pub gather_has_steps_left : HasStepsLeft down good (longest * (many + 1) + many) gathered_left end
  gather_has_steps_left = record {
    some = λ c fit. (let least = above.some c fit in let times = times_most 1 (rest c) (many + 1) least in omega (arith, times));
    few = λ c fit. (let most = above.few c fit in let times = times_most (rest c) longest (many + 1) most in let less = rest_few target room many up down state runs end owed deep some short c fit in omega (arith, times, less));
    fewer = fewer;
    stays = λ c fit none. (let less = above.stays c fit (same_takes target room many up down state runs end c ∙ none) in let times = times_most (rest (suc c)) (rest c) (many + 1) less in let same = rest_stays target room many up down state runs end owed deep some short c none in omega (arith, times, same));
    gaps = gaps;
  }
    where
      fewer : (c : ℕ) → c < end → IsTrue (takes down c) → IsFalse (closes (marked_at down c)) → gathered_left (suc c) + 1 ≤ gathered_left c
      fewer c fit took goes = less_by (rest (suc c)) (rest c) many (to_give (suc c)) (to_give c) (above.fewer c fit (same_takes target room many up down state runs end c ∙ took) (not_closed (marked_at up c).transfer.ends (is_raised (up.commands.more c)) (ap is_raised (sym (runs.more c)) ∙ joins))) (rest_few target room many up down state runs end owed deep some short (suc c) fit)
        where
          joins : is_raised (down.commands.more c) ≡ true
          joins = joins_more (marked_at down c).transfer.ends (is_raised (down.commands.more c)) (legal_down.joined c fit (takes_shows down c took)) goes

      gaps : (c : ℕ) → c < end → IsTrue (is_last_joined (taken_at down c)) → IsFalse (shows down.commands.signals c) → IsTrue (good c) → gathered_left (suc c) + 1 ≤ gathered_left c
      gaps c fit opened quiet well = by_shown (shows up.commands.signals c) refl
        where
          none : takes down c ≡ false
          none = not_shown down c quiet

          by_shown : (s : Bool) → shows up.commands.signals c ≡ s → gathered_left (suc c) + 1 ≤ gathered_left c
          by_shown false es = less_by (rest (suc c)) (rest c) many (to_give (suc c)) (to_give c) (above.gaps c fit (joined_above c ∙ opened) es well) (rest_few target room many up down state runs end owed deep some short (suc c) fit)
          by_shown true es = by_shut (is_shut room up state c) refl
            where
              by_shut : (b : Bool) → is_shut room up state c ≡ b → gathered_left (suc c) + 1 ≤ gathered_left c
              by_shut false e = absurd (no_both (shows down.commands.signals c) (shown_is target room many up down state runs end c ∙ ap (λ b. is_raised (if b then 0 else up.commands.read c) || is_raised (up.commands.write c)) e ∙ es) quiet)
              by_shut true e =
                  let less = above.stays c fit (same_takes target room many up down state runs end c ∙ none) in
                  let times = times_most (rest (suc c)) (rest c) (many + 1) less in
                  let falls = rest_falls target room many up down state runs end owed deep some short c (omega (arith, fit)) none (ap not (shut_is target room many up down state runs end c e).1) (fine c fit well) in
                  omega (arith, times, falls)
