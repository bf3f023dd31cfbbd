-- A lane selector takes a beat of a narrower host on in the same cycle, unless two words are owed.
use Rattle.std.proofs.Common.{◌≡◌, ℕ, zero, suc, ◌+◌, ◌-◌, ◌<◌, ◌≤◌, inl, Bool, true, false, not, ◌&&◌, ◌||◌, List, [], ◌∷◌, length, nat_lt, if◌then◌else◌, arith, refl, sym, ap, ◌∙◌, IsTrue, IsFalse, length-append, ltb-false}
use Rattle.histories.specs.History.{is_raised, unreached}
use Rattle.memory_runs.specs.Commands.{shows}
use Rattle.memory_machines.specs.Link.{Target, Port, Marked, AreLegalAt, AnswersAreOwed, takes, taken_at, operations_among, operations_in, sizes, words_at, words_owed}
use Rattle.memory_machines.specs.Lines.{KeepsRow}
use Rattle.memory_runs.specs.Views.{Shape}
use Rattle.memory_links.specs.Selects.{RunsAsSelect, IsSelectPlan}
use Rattle.memory_parts.specs.Steps.{is_gone}
use Rattle.memory_waits.specs.Watched.{stands_or_owes}
use Rattle.memory_waits.proofs.Bits.{no_both, no_true, takes_shows}
use Rattle.memory_waits.proofs.Cuts.{read_asks, write_asks, took_asks, still_asks}
use Rattle.memory_waits.proofs.Fitted.{Fitting}
use Rattle.memory_waits.proofs.Leads.{same_words}
use Rattle.memory_waits.proofs.OneBeat.{one_read}
use Rattle.memory_waits.proofs.Selects.{open_when_quiet, one_beat, same_takes, shown_is, write_is}
use Rattle.memory_waits.proofs.Shorter.{shorter_legal}

-- where nothing is held all operations are taken below
pub all_reached : (target : Target) (shape : Shape) (ms : List Marked) (n : ℕ) → unreached (sizes target shape ms) n ≤ 0 → length (operations_among target shape ms) ≤ n
all_reached target shape [] n h = omega arith
all_reached target shape (m ∷ ms) n h = by_less (nat_lt n (length (operations_in target shape m))) refl h (all_reached target shape ms (n - length (operations_in target shape m)))
  where
    by_less : (b : Bool) → nat_lt n (length (operations_in target shape m)) ≡ b → (if b then 1 else 0) + unreached (sizes target shape ms) (n - length (operations_in target shape m)) ≤ 0 →
        (unreached (sizes target shape ms) (n - length (operations_in target shape m)) ≤ 0 → length (operations_among target shape ms) ≤ n - length (operations_in target shape m)) → length (operations_among target shape (m ∷ ms)) ≤ n
    by_less true e h more = absurd (omega (arith, h))
    by_less false e h more =
        let enough = ltb-false n (length (operations_in target shape m)) e in
        let rest = more (omega (arith, h)) in
        let both = length-append (operations_in target shape m) (operations_among target shape ms) in
        omega (arith, enough, rest, both)

pub shorter_owed : (port : Port) (end less : ℕ) → less ≤ end → AnswersAreOwed port end → AnswersAreOwed port less
shorter_owed port end less h owed = λ c fit. owed c (omega (arith, fit, h))

-- a link that holds nothing
pub nothing_held : (target : Target) (up down : Port) (end : ℕ) → KeepsRow target 0 up down end → AreLegalAt up end → AnswersAreOwed down end → (c : ℕ) → c ≤ end →
    length (operations_among target up.shape (taken_at up c)) ≤ length (operations_among target down.shape (taken_at down c))
nothing_held target up down end row legal owed c fit =
    let carries = row.carries.commands c fit (shorter_legal up end c fit legal) (shorter_owed down end (c - 1) (omega (arith, fit)) owed) in
    all_reached target up.shape (taken_at up c) (length (operations_among target down.shape (taken_at down c))) (carries.held c (omega arith))

module _ (target : Target) (room many : ℕ) (up down : Port) (offsets : ℕ → List ℕ) (runs : RunsAsSelect room up down offsets) (plan : IsSelectPlan target up.shape down.shape many) (deep : 1 < room) (end : ℕ)
    (row : KeepsRow target 0 up down end) (legal : AreLegalAt up end) (owes : AnswersAreOwed down end) (owed : (c : ℕ) → c < end → length (words_at down (suc c)) ≤ words_owed down c) where
  -- no more words are asked above than below
  asked : (c : ℕ) → c ≤ end → words_owed up c ≤ words_owed down c
  asked zero fit = omega arith
  asked (suc c) fit = by_all (takes down c) (is_raised (down.commands.write c)) refl refl (asked c (omega (arith, fit)))
    where
      by_all : (t w : Bool) → takes down c ≡ t → is_raised (down.commands.write c) ≡ w → words_owed up c ≤ words_owed down c → words_owed up (suc c) ≤ words_owed down (suc c)
      by_all false w et ew more =
          let high = still_asks target up c (same_takes target room up down offsets runs deep end owed c ∙ et) in
          let low = still_asks target down c et in
          omega (arith, high, low, more)
      by_all true true et ew more =
          let high = took_asks target up c (same_takes target room up down offsets runs deep end owed c ∙ et) in
          let low = took_asks target down c et in
          let none = write_asks target up c (sym (write_is target room up down offsets runs deep end owed c) ∙ ew) in
          omega (arith, high, low, none, more)
      by_all true false et ew more =
          let took = same_takes target room up down offsets runs deep end owed c ∙ et in
          let kind = sym (write_is target room up down offsets runs deep end owed c) ∙ ew in
          let high = took_asks target up c took in
          let low = took_asks target down c et in
          let few = one_read up end legal plan.one_beat c fit (takes_shows up c took) kind in
          let above = read_asks target up c kind in
          let below = read_asks target down c ew in
          let one = one_beat target room up down offsets runs deep end owed c in
          omega (arith, high, low, few, above, below, one, more)

  pub select_fits : (most : ℕ) → 1 ≤ most → Fitting target up down (stands_or_owes down) (λ c. 1) most end
  select_fits most some = record {
    some = λ c fit. omega arith;
    few = λ c fit. some;
    stays = λ c fit none. omega arith;
    goes = λ c fit none shown stops. absurd (goes c fit none shown stops (is_gone down c) refl);
    fewer = λ c fit none took. absurd (no_both (takes up c) (same_takes target room up down offsets runs deep end owed c ∙ took) none);
    through = nothing_held target up down end row legal owes;
    come = λ c d near fit all. (let asks = asked c (omega (arith, near, fit)) in let same = same_words up down end (λ k less. ap is_raised (runs.valid k)) d fit in inl (omega (arith, asks, same, all)));
  }
    where
      goes : (c : ℕ) → c < end → IsFalse (takes up c) → IsTrue (shows up.commands.signals c) → IsFalse (stands_or_owes down c) → (g : Bool) → is_gone down c ≡ g → ⊥
      goes c fit none shown stops g e = by_gone g e (sym (same_takes target room up down offsets runs deep end owed c) ∙ none)
        where
          waiting : (s g t : Bool) → IsTrue (s || g) → IsFalse t → IsTrue ((s || g) && not t)
          waiting true g false a b = refl
          waiting false true false a b = refl
          waiting false false false a b = absurd (no_true a)
          waiting s g true a b = absurd (no_true (sym b))

          or_gone : (s g : Bool) → IsTrue g → IsTrue (s || g)
          or_gone true g h = refl
          or_gone false g h = h

          or_shown : (s g : Bool) → IsTrue s → IsTrue (s || g)
          or_shown true g h = refl
          or_shown false g h = absurd (no_true h)

          by_gone : (g : Bool) → is_gone down c ≡ g → IsFalse (takes down c) → ⊥
          by_gone true e still = no_both (stands_or_owes down c) (waiting (shows down.commands.signals c) (is_gone down c) (takes down c) (or_gone (shows down.commands.signals c) (is_gone down c) e) still) stops
          by_gone false e still =
              let opened = open_when_quiet target room up down offsets runs deep end owed c (omega (arith, fit)) e in
              let below : shows down.commands.signals c ≡ shows up.commands.signals c = shown_is target room up down offsets runs deep end owed c ∙ ap (λ b. is_raised (if b then 0 else up.commands.read c) || is_raised (up.commands.write c)) opened in
              no_both (stands_or_owes down c) (waiting (shows down.commands.signals c) (is_gone down c) (takes down c) (or_shown (shows down.commands.signals c) (is_gone down c) (below ∙ shown)) still) stops
