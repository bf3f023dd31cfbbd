-- What the host translator owes below its part stays below a bound.
use Rattle.std.proofs.Common.{ℕ, zero, suc, ◌<◌, ◌≤◌, ◌≡◌, ◌+◌, ◌-◌, ◌*◌, [], ◌∷◌, List, Bool, true, false, not, if◌then◌else◌, nat_lt, arith, refl, sym, ap, ◌∙◌, subst, length, mul-le-mul_right}
use Rattle.std.specs.List.{All}
use Rattle.std.proofs.lemmas.Bool.{and_parts, ltb-true, ltb-false}
use Rattle.std.proofs.lemmas.List.Elements.{All-head, All-tail, All-append, All-cons, All-nil}
use Rattle.std.proofs.lemmas.Nat.{pow_pos}
use Rattle.histories.specs.History.{only_if, one_if, is_raised}
use Rattle.memory_runs.specs.Views.{HostSide, HostView, Responses}
use Rattle.memory_runs.specs.Commands.{longest_burst, shows, words_before, burst_before}
use Rattle.memory_runs.specs.Legal.{IsLegalHost}
use Rattle.memory_machines.specs.Link.{Port, AreLegalAt, AnswersAreOwed, takes, taken_at, read_beats, words_at}
use Rattle.memory_machines.specs.SideLaws.{same_counts}
use Rattle.memory_machines.specs.SideLaws.{fit_when_shown}
use Rattle.memory_parts.specs.Queue.{Entry, takes_read, entry_at}
use Rattle.memory_parts.proofs.Queued.{entries, left_after}
use Rattle.memory_machines.specs.Lines.{OwesBelow}
use Rattle.memory_parts.specs.Host.{HostState, IsHostMachine, ReadsWords}
use Rattle.memory_parts.proofs.RouteDebts.{reads_more}
use Rattle.memory_parts.proofs.QueueBound.{owed_is, words_few, words_more, left_now, all_few as queue_all_few}
use Rattle.memory_parts.proofs.Queued.{words_of, entries_more}
use Rattle.memory_parts.proofs.HostLine.{free_to_read, stands_taken, asks_at, asked_now, read_shown, no_read, legal_below}

-- the words of entries of at most so many words each
few_words : (most : ℕ) (es : List Entry) → All (λ (e : Entry). e.left ≤ most) es → words_of es ≤ length es * most
few_words most [] all = omega arith
few_words most (e ∷ es) all =
    let here = All-head (λ (e : Entry). e.left ≤ most) e es all in
    let rest = few_words most es (All-tail (λ (e : Entry). e.left ≤ most) e es all) in
    omega (arith, here, rest)

left_few : (most : ℕ) (es : List Entry) (w : ℕ) → All (λ (e : Entry). e.left ≤ most) es → All (λ (e : Entry). e.left ≤ most) (left_after es w)
left_few most [] w all = All-nil (λ (e : Entry). e.left ≤ most)
left_few most (e ∷ es) w all = by_test (nat_lt w e.left) refl (left_few most es (w - e.left) (All-tail (λ (e : Entry). e.left ≤ most) e es all))
  where
    by_test : (b : Bool) → nat_lt w e.left ≡ b → All (λ (e : Entry). e.left ≤ most) (left_after es (w - e.left)) → All (λ (e : Entry). e.left ≤ most) (left_after (e ∷ es) w)
    by_test true is ih =
        let here = All-head (λ (e : Entry). e.left ≤ most) e es all in
        rw is (All-cons (λ (e : Entry). e.left ≤ most) (record { tag = e.tag; left = e.left - w }) es (omega (arith, here)) (All-tail (λ (e : Entry). e.left ≤ most) e es all))
    by_test false is ih = rw is ih

left_words : (es : List Entry) (w : ℕ) → w ≤ words_of es → words_of es ≡ w + words_of (left_after es w)
left_words [] w low = omega (arith, low)
left_words (e ∷ es) w low = by_test (nat_lt w e.left) refl (λ high. left_words es (w - e.left) (omega (arith, low, high)))
  where
    by_test : (b : Bool) → nat_lt w e.left ≡ b → (e.left ≤ w → words_of es ≡ (w - e.left) + words_of (left_after es (w - e.left))) → words_of (e ∷ es) ≡ w + words_of (left_after (e ∷ es) w)
    by_test true is go = let less = ltb-true w e.left is in rw is (omega (arith, less))
    by_test false is go = let high = ltb-false w e.left is in let rest = go high in rw is (omega (arith, high, rest))

module _ (responses : Responses) (side : HostSide) (view : HostView) (down : Port) (state : HostState) (end : ℕ) (machine : IsHostMachine responses side view down state end)
    (legal : IsLegalHost side view end) (single : ReadsWords side view end) (owed : AnswersAreOwed down (end - 1)) where
  abbrev words : ℕ → ℕ
  words c = words_before down.answers.valid c

  abbrev longest : ℕ
  longest = longest_burst down.shape.burst_bits

  -- ---- with readdatavalid: the queue holds at most 16 reads

  legal_down : AreLegalAt down end
  legal_down = legal_below responses side view down state end machine legal

  owed_words : (c : ℕ) → suc c < end → words (suc c) ≤ words_of (entries (taken_at down c))
  owed_words c low = let few = owed c (omega arith) in let asked = owed_is (taken_at down c) in omega (arith, few, asked)

  -- a read asks for no more words than the longest burst has
  one_few : (c : ℕ) → c < end → (b : Bool) → takes_read down c ≡ b → All (λ (e : Entry). e.left ≤ longest) (only_if b (entry_at down c))
  one_few c low false is = All-nil (λ (e : Entry). e.left ≤ longest)
  one_few c low true is = All-cons (λ (e : Entry). e.left ≤ longest) (entry_at down c) [] (by_left (nat_lt 0 (burst_before down.shape down.commands.signals (takes down) c).left) refl) (All-nil (λ (e : Entry). e.left ≤ longest))
    where
      taken : (takes down c ≡ true) × (is_raised (down.commands.read c) ≡ true)
      taken = and_parts (takes down c) (is_raised (down.commands.read c)) is

      by_left : (b : Bool) → nat_lt 0 (burst_before down.shape down.commands.signals (takes down) c).left ≡ b → down.commands.count c ≤ longest
      by_left true under = let quiet = legal_down.legal.finished c low under in let read = taken.1 in let bad : ⊥ = cc in absurd bad
      by_left false free = (fit_when_shown down end c legal_down low (and_parts (shows down.commands.signals c) (not (is_raised (down.commands.waitrequest c))) taken.0).0).most free

  all_few : (c : ℕ) → c ≤ end → All (λ (e : Entry). e.left ≤ longest) (entries (taken_at down c))
  all_few zero low = All-nil (λ (e : Entry). e.left ≤ longest)
  all_few (suc c) low = subst (All (λ (e : Entry). e.left ≤ longest)) (sym (entries_more down end legal_down c low)) (All-append (λ (e : Entry). e.left ≤ longest) (entries (taken_at down c)) (only_if (takes_read down c) (entry_at down c)) (all_few c (omega arith)) (one_few c low (takes_read down c) refl))

  few_valid : side.has_readdatavalid ≡ true → (c : ℕ) → c < end → length (read_beats (taken_at down (suc c))) ≤ words c + 16 * longest
  few_valid has c low =
      let left : List Entry = left_after (entries (taken_at down (suc c))) (words c) in
      let size = ap length (left_now down end legal_down down.answers.valid state.queue (machine.queues has) owed_words c low) in
      let few = queue_all_few down end legal_down down.answers.valid state.queue (machine.queues has) owed_words 16 (free_to_read responses side view down state end machine legal single owed has) c low in
      let sum = few_words longest left (left_few longest (entries (taken_at down (suc c))) (words c) (all_few (suc c) low)) in
      let most : length left * longest ≤ 16 * longest = mul-le-mul_right longest (omega (arith, size, few)) in
      let now = words_few down end legal_down down.answers.valid state.queue (machine.queues has) owed_words c low in
      let more = words_more down end legal_down c low in
      let all = left_words (entries (taken_at down (suc c))) (words c) (omega (arith, now, more)) in
      let asked = owed_is (taken_at down (suc c)) in
      omega (arith, sum, most, all, asked)

  few_plain : side.has_readdatavalid ≡ false → (c : ℕ) → c < end → length (read_beats (taken_at down (suc c))) ≤ words c + 1
  few_plain has c low =
      let a = asks_at responses side view down state end machine legal single owed has c low in
      let count = a.count in
      let more = reads_more down c ∙ ap (λ n. length (read_beats (taken_at down c)) + n) (asked_now responses side view down state end machine legal single owed c low) in
      by_both (stands_taken responses side view down state end machine legal single owed c) (takes_read down c) refl refl a.asked count more
    where
      by_both : (k t : Bool) → stands_taken responses side view down state end machine legal single owed c ≡ k → takes_read down c ≡ t → state.asked c ≡ stands_taken responses side view down state end machine legal single owed c → length (read_beats (taken_at down c)) ≡ words c + one_if (stands_taken responses side view down state end machine legal single owed c) →
          length (read_beats (taken_at down (suc c))) ≡ length (read_beats (taken_at down c)) + (if takes_read down c then view.count c else 0) → length (read_beats (taken_at down (suc c))) ≤ words c + 1
      by_both true true k t asked count more = let none = no_read responses side view down state end machine legal single owed has c low (asked ∙ k) in let bad : ⊥ = cc in absurd bad
      by_both true false k t asked count more = let one = ap one_if k in let sum = more ∙ ap (λ b. length (read_beats (taken_at down c)) + (if b then view.count c else 0)) t in omega (arith, count, one, sum)
      by_both false true k t asked count more =
          let one = ap one_if k in let sum = more ∙ ap (λ b. length (read_beats (taken_at down c)) + (if b then view.count c else 0)) t in
          let word = single has c low (read_shown responses side view down state end machine legal single owed c low t) in
          omega (arith, count, one, sum, word)
      by_both false false k t asked count more = let one = ap one_if k in let sum = more ∙ ap (λ b. length (read_beats (taken_at down c)) + (if b then view.count c else 0)) t in omega (arith, count, one, sum)

  -- a burst has a beat at least
  some_beat : 0 < longest
  some_beat = pow_pos (down.shape.burst_bits - 1)

  pub owes_below : (room : ℕ) → 16 * longest < room → OwesBelow room down end
  owes_below room large c low = by_valid side.has_readdatavalid refl
    where
      count : length (words_at down c) ≡ words c
      count = same_counts (λ c. is_raised (down.answers.valid c)) (λ c. record { word = down.answers.word c; code = down.answers.code c }) (λ c. c) c

      by_valid : (b : Bool) → side.has_readdatavalid ≡ b → length (read_beats (taken_at down (suc c))) < length (words_at down c) + room
      by_valid true has = let few = few_valid has c low in let same = count in omega (arith, few, same, large)
      by_valid false has = let few = few_plain has c low in let same = count in let some = some_beat in omega (arith, few, same, large, some)
