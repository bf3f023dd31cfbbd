-- What the links of a row do to steps, words and joins, for links of any kind.
use Rattle.std.proofs.Common.{not, ◌≡◌, ℕ, suc, ◌-◌, ◌/◌, ◌%◌, ◌<◌, ◌≤◌, min, Bool, true, false, length, nat_eq, nat_lt, if◌then◌else◌, arith, refl, sym, ap, ap₂, ◌∙◌, IsTrue, IsFalse, ◌||◌, List, [], ◌∷◌, ◌++◌, ◌&&◌, ◌+◌}
use Rattle.histories.specs.History.{is_raised, one_if}
use Rattle.memory_runs.specs.Commands.{shows, words_before}
use Rattle.memory_machines.specs.Link.{Target, Port, Marked, AnswersAreOwed, is_last_joined, words_at, words_owed}
use Rattle.memory_machines.specs.Machines.{Raw, raw_at}
use Rattle.memory_machines.specs.PartRanks.{JoinsAlike}
use Rattle.memory_machines.specs.SideLaws.{same_counts}
use Rattle.memory_parts.specs.Steps.{is_gone}
use Rattle.memory_links.specs.Cutters.{Reach, is_sending, read_burst_of, write_of_burst, whole_read, beats_of}
use Rattle.memory_awake.specs.Rows.{CutsBursts, CutsBursts.cutter, CutsBursts.no_cutter, CutsAtWords}
use Rattle.memory_awake.specs.Steps.{HasStepsLeft}
use Rattle.memory_awake.specs.Wires.{IsWire}
use Rattle.memory_waits.proofs.Bits.{no_true, no_both}
use Rattle.memory_waits.proofs.Flush.{one_word, no_word}
use Rattle.memory_waits.proofs.Wire.{wire_stays, wire_asked, bursts}

-- ---- steps

pub in_fewer : (port : Port) (good less : ℕ → Bool) (longest : ℕ) (rest : ℕ → ℕ) (end : ℕ) → ((c : ℕ) → c < end → IsTrue (less c) → IsTrue (good c)) → HasStepsLeft port good longest rest end → HasStepsLeft port less longest rest end
in_fewer port good less longest rest end so has = record {
  some = has.some;
  few = has.few;
  fewer = has.fewer;
  stays = has.stays;
  gaps = λ c fit opened none is. has.gaps c fit opened none (so c fit is);
}

pub of_most : (port : Port) (good : ℕ → Bool) (longest most : ℕ) (rest : ℕ → ℕ) (end : ℕ) → longest ≤ most → HasStepsLeft port good longest rest end → HasStepsLeft port good most rest end
of_most port good longest most rest end h has = record {
  some = has.some;
  few = λ c fit. (let few = has.few c fit in omega (arith, few, h));
  fewer = has.fewer;
  stays = has.stays;
  gaps = has.gaps;
}

-- ---- wires

module _ (up down : Port) (wire : IsWire up down) where
  same_words : (c : ℕ) → length (words_at down c) ≡ length (words_at up c)
  same_words c = wire_stays up down wire (λ p. length (words_at p c) ≡ length (words_at up c)) refl

  pub wire_quiet : (c : ℕ) → IsFalse (is_gone down c) → IsFalse (is_gone up c)
  wire_quiet c none = ap₂ nat_lt (sym (same_words c)) (sym (wire_asked up down wire c)) ∙ none

  pub wire_owed : (end : ℕ) → AnswersAreOwed down end → AnswersAreOwed up end
  wire_owed end owed c fit =
      let few = owed c fit in
      let asks = wire_asked up down wire c in
      let same : words_before down.answers.valid (suc c) ≡ words_before up.answers.valid (suc c) = wire_stays up down wire (λ p. words_before p.answers.valid (suc c) ≡ words_before up.answers.valid (suc c)) refl in
      omega (arith, few, asks, same)

  pub wire_alike : (target : Target) (end : ℕ) → JoinsAlike target up end → JoinsAlike target down end
  wire_alike target end alike = wire_stays up down wire (λ p. JoinsAlike target p end) (λ c fit. rw (bursts down.shape.burst_bits up) (alike c fit))

-- ---- any port

pub last_joined_end : (xs : List Marked) (m : Marked) → is_last_joined (xs ++ m ∷ []) ≡ m.more
last_joined_end [] m = refl
last_joined_end (x ∷ []) m = refl
last_joined_end (x ∷ y ∷ xs) m = last_joined_end (y ∷ xs) m

-- a beat that doesn't close its command ends a burst that joins the next one
pub joins_more : (ends more : Bool) → IsTrue (ends || more) → IsFalse (ends && not more) → more ≡ true
joins_more ends true h k = refl
joins_more true false h k = absurd cc
joins_more false false h k = absurd (no_true h)

pub not_closed : (ends more : Bool) → more ≡ true → IsFalse (ends && not more)
not_closed true true h = refl
not_closed false more h = refl
not_closed ends false h = absurd cc

pub words_by : (port : Port) (c : ℕ) → length (words_at port (suc c)) ≡ length (words_at port c) + one_if (is_raised (port.answers.valid c))
words_by port c = by_valid (is_raised (port.answers.valid c)) refl
  where
    by_valid : (v : Bool) → is_raised (port.answers.valid c) ≡ v → length (words_at port (suc c)) ≡ length (words_at port c) + one_if v
    by_valid true e = one_word port c e
    by_valid false e = let none = no_word port c e in omega (arith, none)

-- a word comes only where it is owed
pub few_words : (port : Port) (end : ℕ) → AnswersAreOwed port end → (c : ℕ) → c < end → length (words_at port (suc c)) ≤ words_owed port c
few_words port end owed c fit =
    let same : length (words_at port (suc c)) ≡ words_before port.answers.valid (suc c) = same_counts (λ k. is_raised (port.answers.valid k)) _ (λ k. k) (suc c) in
    let few = owed c fit in
    omega (arith, same, few)

-- ---- below a cutter at words a read has as many beats as one of these has words

few_of : (far left many : ℕ) → far ≤ many → 1 ≤ many → beats_of far left ≤ many
few_of far left many h some = by_one (nat_eq far 1)
  where
    by_one : (b : Bool) → (if b then 1 else min far left) ≤ many
    by_one true = omega (arith, some)
    by_one false = omega (arith, h)

pub cut_at_words : (many : ℕ) (up down : Port) (cuts : CutsBursts up down) → CutsAtWords many cuts → (c : ℕ) → IsTrue (shows down.commands.signals c) → IsFalse (is_raised (down.commands.write c)) → down.commands.count c ≤ many
cut_at_words many up down (no_cutter wired) at c shown kind = absurd at
cut_at_words many up down (cutter reach longest state plan runs) at c shown kind = by_sending (is_sending state c) (is_raised (up.commands.write c)) (runs.beat c shown)
  where
    near : (address : ℕ) → reach address ≤ many
    near address = let same : reach address ≡ many - (address / up.shape.word_bytes) % many = ap (λ (f : Reach). f address) at.1 in omega (arith, same)

    some : 1 ≤ many
    some = at.0.more

    by_sending : (s w : Bool) → raw_at down c ≡ (if s then read_burst_of reach (state.rest c) else if w then write_of_burst longest up.shape (state.place c) (raw_at up c) else read_burst_of reach (whole_read up.shape (raw_at up c))) → down.commands.count c ≤ many
    by_sending true w e =
        let count : down.commands.count c ≡ beats_of (reach (state.rest c).address) (state.rest c).left = ap (λ (r : Raw). r.levels.count) e in
        let few = few_of (reach (state.rest c).address) (state.rest c).left many (near (state.rest c).address) some in
        omega (arith, count, few)
    by_sending false true e = absurd (no_both (is_raised (down.commands.write c)) (ap (λ (r : Raw). is_raised r.levels.write) e) kind)
    by_sending false false e =
        let all = whole_read up.shape (raw_at up c) in
        let count : down.commands.count c ≡ beats_of (reach all.address) all.left = ap (λ (r : Raw). r.levels.count) e in
        let few = few_of (reach all.address) all.left many (near all.address) some in
        omega (arith, count, few)

-- ---- words of the two sides of a cutter

pub cut_words : (up down : Port) → CutsBursts up down → (down.shape.word_bytes ≡ up.shape.word_bytes) × (0 < up.shape.word_bytes)
cut_words up down (cutter reach longest state plan runs) = (plan.same, plan.some)
cut_words up down (no_cutter wired) = (sym (ap (λ (p : Port). p.shape.word_bytes) wired.wire.same), wired.some)
