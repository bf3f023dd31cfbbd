-- A splitter holds no read back while no word is owed below it.
use Rattle.std.proofs.Common.{◌≡◌, ℕ, zero, suc, ◌+◌, ◌-◌, ◌*◌, ◌<◌, ◌≤◌, Bool, true, false, not, ◌&&◌, ◌||◌, List, [], ◌∷◌, length, filter, nat_eq, nat_lt, if◌then◌else◌, arith, refl, sym, ap, ◌∙◌, IsTrue, IsFalse, tests, ltb-false}
use Rattle.std.proofs.lemmas.Bool.{and_parts, or_right}
use Rattle.histories.specs.History.{is_raised, one_if, numbers}
use Rattle.memory_runs.specs.Views.{levels_at}
use Rattle.memory_runs.specs.Operations.{Beat, pieces}
use Rattle.memory_runs.specs.Commands.{shows}
use Rattle.memory_machines.specs.Link.{Port, AreLegalAt, AnswersAreOwed, takes, words_at, words_owed}
use Rattle.memory_machines.specs.Machines.{joined, or_first, beat_of, touched, raw_at, is_touched, piece_of}
use Rattle.memory_links.specs.Selects.{takes_read}
use Rattle.memory_links.specs.Splits.{SplitState, RunsAsSplit, opens, asked_at, or_first_piece, split_at}
use Rattle.memory_parts.specs.Steps.{is_gone}
use Rattle.memory_waits.proofs.Bits.{no_true, no_both, both}
use Rattle.memory_waits.proofs.SplitCounts.{now_at, same_kind, joined_size}

some_first : (shape : _) (beat : Beat) (later : List Beat) → 0 < length (or_first shape true beat later)
some_first shape beat [] = omega arith
some_first shape beat (x ∷ later) = omega arith

some_piece : (xs : List ℕ) → 0 < length (or_first_piece xs)
some_piece [] = omega arith
some_piece (x ∷ xs) = omega arith

module _ (room : ℕ) (up down : Port) (state : SplitState) (run : RunsAsSplit room up down state) (end : ℕ) (legal : AreLegalAt up end) (owed : AnswersAreOwed down end) where
  -- a read is accepted above with its last piece
  read_below : (c : ℕ) → IsTrue (takes_read up c) → IsTrue (takes_read down c)
  read_below c h =
      let two = and_parts (takes up c) (not (is_raised (up.commands.write c))) h in
      let accepted = sym (run.accepts c) ∙ two.0 in
      let right = (and_parts (shows up.commands.signals c && opens room up down state c) _ accepted).1 in
      let took = (and_parts (takes down c) _ (second (nat_eq (length (split_at up down c)) 0) _ right (not_empty two.1))).0 in
      both _ _ took (ap not (same_kind room up down state run end legal owed c took) ∙ two.1)
    where
      second : (a b : Bool) → IsTrue (a || b) → IsFalse a → IsTrue b
      second true b h f = absurd (no_true (sym f))
      second false b h f = h

      not_empty : IsTrue (not (is_raised (up.commands.write c))) → IsFalse (nat_eq (length (split_at up down c)) 0)
      not_empty read = positive (length (split_at up down c)) (by_need (not (is_raised (up.commands.more c)) || not (is_raised (up.commands.write c))) (or_right (not (is_raised (up.commands.more c))) _ read))
        where
          positive : (n : ℕ) → 0 < n → IsFalse (nat_eq n 0)
          positive n h = grind (arith, tests, h)

          by_need : (b : Bool) → IsTrue b → 0 < length (joined (raw_at up c).tag (raw_at up c).more (or_first down.shape b (beat_of up.shape (raw_at up c).levels) (touched up.shape down.shape (beat_of up.shape (raw_at up c).levels))))
          by_need true t =
              let size = joined_size (raw_at up c).tag (raw_at up c).more (or_first down.shape true (beat_of up.shape (raw_at up c).levels) (touched up.shape down.shape (beat_of up.shape (raw_at up c).levels))) in
              let some = some_first down.shape (beat_of up.shape (raw_at up c).levels) (touched up.shape down.shape (beat_of up.shape (raw_at up c).levels)) in
              omega (arith, size, some)
          by_need false t = absurd (no_true t)

  -- while a read is under way some piece of it is asked
  pub some_asked : (c : ℕ) → 0 < state.reads c → 0 < length (state.set c)
  some_asked zero some = let none = run.reads_begin in absurd (omega (arith, none, some))
  some_asked (suc c) some = by_read (takes_read down c) refl (some_asked c)
    where
      by_read : (b : Bool) → takes_read down c ≡ b → (0 < state.reads c → 0 < length (state.set c)) → 0 < length (state.set (suc c))
      by_read true e more = let next = ap length (run.set_next c ∙ ap (λ b. if b then asked_at up down c else state.set c) e) in let some_here = some_piece (filter (λ piece. is_touched (piece_of down.shape.word_bytes (beat_of up.shape (levels_at up.commands.signals c)) piece)) (numbers 0 (pieces up.shape down.shape))) in omega (arith, next, some_here)
      by_read false e more =
          let next = ap length (run.set_next c ∙ ap (λ b. if b then asked_at up down c else state.set c) e) in
          let none : takes_read up c ≡ false = not_above (takes_read up c) refl in
          let reads = run.reads_next c ∙ ap (λ b. (state.reads c + one_if b) - one_if (is_raised (up.answers.valid c))) none in
          let before = more (omega (arith, reads, some)) in
          omega (arith, next, before)
        where
          not_above : (b : Bool) → takes_read up c ≡ b → takes_read up c ≡ false
          not_above false t = t
          not_above true t = absurd (no_both _ (read_below c t) e)

  product : (n m : ℕ) → 0 < n → m ≤ n * m
  product zero m h = absurd (omega (arith, h))
  product (suc n) m h = let all : suc n * m ≡ n * m + m = omega arith in omega (arith, all)

  none_under_way : (c : ℕ) → c < end → IsFalse (is_gone down c) → state.reads c ≡ 0
  none_under_way c fit quiet = by_reads (nat_eq (state.reads c) 0) refl
    where
      by_reads : (b : Bool) → nat_eq (state.reads c) 0 ≡ b → state.reads c ≡ 0
      by_reads true e = grind (arith, tests, e)
      by_reads false e =
          let some : 0 < state.reads c = grind (arith, tests, e) in
          let now = now_at room up down state run end legal owed c fit in
          let owes = now.owes in
          let few = now.few in
          let none = ltb-false (length (words_at down c)) (words_owed down c) quiet in
          let asked = some_asked c some in
          let many = product (state.reads c) (length (state.set c)) some in
          absurd (omega (arith, owes, few, none, asked, many))

  pub splits_when_quiet : 0 < room → (c : ℕ) → c < end → IsFalse (is_gone down c) → IsTrue (opens room up down state c)
  splits_when_quiet some c fit quiet =
      let none = none_under_way c fit quiet in
      let free : nat_lt (state.reads c) room ≡ true = grind (arith, tests, none, some) in
      let idle : nat_eq (state.reads c) 0 ≡ true = grind (arith, tests, none) in
      by_parts (is_raised (up.commands.write c)) (nat_lt (state.reads c) room) (nat_lt 0 (state.place c)) (nat_eq (state.reads c) 0) _ free idle
    where
      by_parts : (w r p z s : Bool) → r ≡ true → z ≡ true → IsTrue (w || (r && (p || (z || s))))
      by_parts true r p z s a b = refl
      by_parts false true true z s a b = refl
      by_parts false true false true s a b = refl
      by_parts false true false false s a b = absurd cc
      by_parts false false p z s a b = absurd cc
