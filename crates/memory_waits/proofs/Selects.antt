-- A lane selector holds no read back while no word is owed below it.
use Rattle.std.proofs.Common.{◌≡◌, ℕ, zero, suc, ◌+◌, ◌-◌, ◌<◌, ◌≤◌, Bool, true, false, not, ◌&&◌, ◌||◌, List, [], ◌∷◌, ◌++◌, length, drop, nat_lt, if◌then◌else◌, arith, refl, sym, ap, ◌∙◌, IsTrue, IsFalse, append-nil, length-append, ltb-false}
use Rattle.histories.specs.History.{is_raised, only_if}
use Rattle.memory_runs.specs.Views.{Levels}
use Rattle.memory_runs.specs.Commands.{shows}
use Rattle.memory_machines.specs.Link.{Target, Port, takes, words_at, words_owed}
use Rattle.memory_links.specs.Selects.{RunsAsSelect, is_shut, offset_in}
use Rattle.memory_parts.specs.Steps.{is_gone}
use Rattle.memory_waits.proofs.Bits.{no_true}
use Rattle.memory_waits.proofs.Cuts.{read_asks, write_asks, took_asks, still_asks}
use Rattle.memory_waits.proofs.Flush.{one_word, no_word}

drop_one : (xs : List ℕ) → length (drop 1 xs) ≡ length xs - 1
drop_one [] = omega arith
drop_one (x ∷ xs) = let same : drop 0 xs ≡ xs = refl in omega arith

module _ (target : Target) (room : ℕ) (up down : Port) (offsets : ℕ → List ℕ) (runs : RunsAsSelect room up down offsets) (deep : 1 < room) (end : ℕ) (owed : (c : ℕ) → c < end → length (words_at down (suc c)) ≤ words_owed down c) where
  pub shown_is : (c : ℕ) → shows down.commands.signals c ≡ (is_raised (if is_shut room up offsets c then 0 else up.commands.read c) || is_raised (up.commands.write c))
  shown_is c = ap (λ (l : Levels). is_raised l.read || is_raised l.write) (runs.levels c)

  pub write_is : (c : ℕ) → is_raised (down.commands.write c) ≡ is_raised (up.commands.write c)
  write_is c = ap (λ (l : Levels). is_raised l.write) (runs.levels c)

  pub one_beat : (c : ℕ) → down.commands.count c ≡ 1
  one_beat c = ap (λ (l : Levels). l.count) (runs.levels c)

  no_write : (w r : Bool) → IsTrue (not w && not r) → IsFalse w
  no_write false r h = refl
  no_write true r h = absurd (no_true h)

  pub same_takes : (c : ℕ) → takes up c ≡ takes down c
  same_takes c = by_shut (is_shut room up offsets c) refl
    where
      waiting : (s w : Bool) → w ≡ true → (s && not w) ≡ false
      waiting true true h = refl
      waiting false true h = refl
      waiting s false h = absurd cc

      by_shut : (b : Bool) → is_shut room up offsets c ≡ b → takes up c ≡ takes down c
      by_shut true e =
          let write = no_write (is_raised (up.commands.write c)) (nat_lt (length (offsets c)) room) e in
          let quiet : shows down.commands.signals c ≡ false = shown_is c ∙ ap (λ b. is_raised (if b then 0 else up.commands.read c) || is_raised (up.commands.write c)) e ∙ write in
          let waits : is_raised (up.commands.waitrequest c) ≡ true = runs.waitrequest c ∙ ap (λ b. b || is_raised (down.commands.waitrequest c)) e in
          waiting (shows up.commands.signals c) (is_raised (up.commands.waitrequest c)) waits ∙ sym (ap (λ b. b && not (is_raised (down.commands.waitrequest c))) quiet)
      by_shut false e =
          let same : shows down.commands.signals c ≡ shows up.commands.signals c = shown_is c ∙ ap (λ b. is_raised (if b then 0 else up.commands.read c) || is_raised (up.commands.write c)) e in
          let waits : is_raised (up.commands.waitrequest c) ≡ is_raised (down.commands.waitrequest c) = runs.waitrequest c ∙ ap (λ b. b || is_raised (down.commands.waitrequest c)) e in
          ap (λ b. shows up.commands.signals c && not b) waits ∙ ap (λ b. b && not (is_raised (down.commands.waitrequest c))) (sym same)

  -- one offset for each word that is owed below
  offsets_are : (c : ℕ) → c ≤ end → length (offsets c) + length (words_at down c) ≡ words_owed down c
  offsets_are zero fit = let none = ap length runs.begins in omega (arith, none)
  offsets_are (suc c) fit = by_all (is_raised (down.answers.valid c)) (takes down c) (is_raised (down.commands.write c)) refl refl refl (offsets_are c (omega (arith, fit)))
    where
      next_by : Bool → Bool → Bool → List ℕ
      next_by v t w = drop (if v then 1 else 0) (offsets c) ++ only_if (t && not w) (offset_in up.shape down.shape (up.commands.address c))

      next_is : (v t w : Bool) → is_raised (down.answers.valid c) ≡ v → takes down c ≡ t → is_raised (down.commands.write c) ≡ w → offsets (suc c) ≡ next_by v t w
      next_is v t w ev et ew = runs.next c ∙ (let up_takes = same_takes c ∙ et in let up_write = sym (write_is c) ∙ ew in rw (ev, up_takes, up_write) refl)

      sizes : (v a : Bool) → length (drop (if v then 1 else 0) (offsets c) ++ only_if a (offset_in up.shape down.shape (up.commands.address c))) ≡ (length (offsets c) - (if v then 1 else 0)) + (if a then 1 else 0)
      sizes true true = let one = length-append (drop 1 (offsets c)) (offset_in up.shape down.shape (up.commands.address c) ∷ []) in let less = drop_one (offsets c) in omega (arith, one, less)
      sizes true false = let one = ap length (append-nil (drop 1 (offsets c))) in let less = drop_one (offsets c) in omega (arith, one, less)
      sizes false true = let one = length-append (offsets c) (offset_in up.shape down.shape (up.commands.address c) ∷ []) in omega (arith, one)
      sizes false false = let one = ap length (append-nil (offsets c)) in omega (arith, one)

      asks : (t w : Bool) → takes down c ≡ t → is_raised (down.commands.write c) ≡ w → words_owed down (suc c) ≡ words_owed down c + (if t && not w then 1 else 0)
      asks false w et ew = let still = still_asks target down c et in omega (arith, still)
      asks true true et ew = let took = took_asks target down c et in let none = write_asks target down c ew in omega (arith, took, none)
      asks true false et ew = let took = took_asks target down c et in let one = read_asks target down c ew in let count = one_beat c in omega (arith, took, one, count)

      by_all : (v t w : Bool) → is_raised (down.answers.valid c) ≡ v → takes down c ≡ t → is_raised (down.commands.write c) ≡ w → length (offsets c) + length (words_at down c) ≡ words_owed down c →
          length (offsets (suc c)) + length (words_at down (suc c)) ≡ words_owed down (suc c)
      by_all true t w ev et ew more =
          let next = ap length (next_is true t w ev et ew) ∙ sizes true (t && not w) in
          let asked = asks t w et ew in
          let word = one_word down c ev in
          let few = owed c (omega (arith, fit)) in
          omega (arith, next, asked, word, few, more)
      by_all false t w ev et ew more =
          let next = ap length (next_is false t w ev et ew) ∙ sizes false (t && not w) in
          let asked = asks t w et ew in
          let word = no_word down c ev in
          omega (arith, next, asked, word, more)

  pub open_when_quiet : (c : ℕ) → c ≤ end → IsFalse (is_gone down c) → IsFalse (is_shut room up offsets c)
  open_when_quiet c fit quiet = by_shut (is_raised (up.commands.write c)) (nat_lt (length (offsets c)) room) refl
    where
      by_shut : (w n : Bool) → nat_lt (length (offsets c)) room ≡ n → IsFalse (not w && not n)
      by_shut true n e = refl
      by_shut false true e = refl
      by_shut false false e =
          let many = ltb-false (length (offsets c)) room e in
          let none = ltb-false (length (words_at down c)) (words_owed down c) quiet in
          let same = offsets_are c fit in
          absurd (omega (arith, many, none, same, deep))
