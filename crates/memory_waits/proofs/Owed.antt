-- The words of a host on both sides of an arbiter.
use Rattle.std.proofs.Common.{ℕ, zero, suc, ◌<◌, ◌≤◌, ◌≡◌, ◌+◌, Bool, true, false, ◌&&◌, List, [], ◌∷◌, ◌++◌, map, arith, refl, sym, ap, subst, ◌∙◌, nat_eq, length, filter, flat_map, IsTrue, IsFalse, tests, append-nil, length-append, lt-ltb, ltb-true, if◌then◌else◌}
use Rattle.std.proofs.lemmas.List.Elements.{filter-append}
use Rattle.std.proofs.lemmas.Grind.{flat_map-append}
use Rattle.histories.specs.History.{IsPrefix, only_if, is_raised}
use Rattle.histories.specs.Laws.{prefix_trans, prefix_flat_map, prefix_filter, before_extends}
use Rattle.memory_runs.specs.Views.{System}
use Rattle.memory_runs.specs.Operations.{Beat}
use Rattle.memory_runs.specs.Commands.{is_of_reads}
use Rattle.memory_machines.specs.Link.{Port, Marked, takes, taken_at, marked_at, read_beats, words_at, words_owed}
use Rattle.memory_machines.specs.Lines.{TaggedPort, word_tags, asked_tags}
use Rattle.memory_machines.specs.Rank.{is_owed}
use Rattle.memory_parts.specs.Steps.{IsArbiterPart}
use Rattle.memory_waits.proofs.Bits.{none_taken, one_taken}

-- A word that is owed above the arbiter is owed below it.
count : ℕ → List ℕ → ℕ
count h [] = 0
count h (x ∷ xs) = (if nat_eq x h then 1 else 0) + count h xs

count_append : (h : ℕ) (xs ys : List ℕ) → count h (xs ++ ys) ≡ count h xs + count h ys
unfolding count
count_append h [] ys = omega arith
count_append h (x ∷ xs) ys = let rest = count_append h xs ys in omega (arith, rest)

count_most : (h : ℕ) (xs : List ℕ) → count h xs ≤ length xs
unfolding count
count_most h [] = omega arith
count_most h (x ∷ xs) = by_same (nat_eq x h) (count_most h xs)
  where
    by_same : (b : Bool) → count h xs ≤ length xs → (if b then 1 else 0) + count h xs ≤ suc (length xs)
    by_same true m = omega (arith, m)
    by_same false m = omega (arith, m)

count_all : (h tag : ℕ) (beats : List Beat) → count h (map (λ _. tag) beats) ≡ (if nat_eq tag h then length beats else 0)
unfolding count
count_all h tag [] = by_same (nat_eq tag h)
  where
    by_same : (b : Bool) → zero ≡ (if b then zero else zero)
    by_same true = refl
    by_same false = refl
count_all h tag (b ∷ beats) = by_same (nat_eq tag h) (count_all h tag beats)
  where
    by_same : (e : Bool) → count h (map (λ _. tag) beats) ≡ (if e then length beats else 0) → (if e then 1 else 0) + count h (map (λ _. tag) beats) ≡ (if e then suc (length beats) else 0)
    by_same true m = omega (arith, m)
    by_same false m = omega (arith, m)

asked_append : (xs ys : List Marked) → asked_tags (xs ++ ys) ≡ asked_tags xs ++ asked_tags ys
asked_append xs ys = ap (λ l. flat_map (λ (m : Marked). map (λ _. m.tag) m.transfer.beats) l) (filter-append (λ (m : Marked). is_of_reads m.transfer.kind) xs ys)
    ∙ flat_map-append (λ (m : Marked). map (λ _. m.tag) m.transfer.beats) (filter (λ (m : Marked). is_of_reads m.transfer.kind) xs) (filter (λ (m : Marked). is_of_reads m.transfer.kind) ys)

pub beats_append : (xs ys : List Marked) → read_beats (xs ++ ys) ≡ read_beats xs ++ read_beats ys
beats_append xs ys = ap (λ l. flat_map (λ (m : Marked). m.transfer.beats) l) (filter-append (λ (m : Marked). is_of_reads m.transfer.kind) xs ys)
    ∙ flat_map-append (λ (m : Marked). m.transfer.beats) (filter (λ (m : Marked). is_of_reads m.transfer.kind) xs) (filter (λ (m : Marked). is_of_reads m.transfer.kind) ys)

-- what one transfer asks
one_asked : (h : ℕ) (m : Marked) → count h (asked_tags (m ∷ [])) ≡ (if nat_eq m.tag h then length (read_beats (m ∷ [])) else 0)
unfolding count
one_asked h m = by_kind (is_of_reads m.transfer.kind)
  where
    none : (b : Bool) → zero ≡ (if b then zero else zero)
    none true = refl
    none false = refl

    by_kind : (b : Bool) → count h (flat_map (λ (m : Marked). map (λ _. m.tag) m.transfer.beats) (if b then m ∷ [] else [])) ≡ (if nat_eq m.tag h then length (flat_map (λ (m : Marked). m.transfer.beats) (if b then m ∷ [] else [])) else 0)
    by_kind true = ap (count h) (append-nil (map (λ _. m.tag) m.transfer.beats)) ∙ count_all h m.tag m.transfer.beats ∙ sym (ap (λ l. if nat_eq m.tag h then length l else 0) (append-nil m.transfer.beats))
    by_kind false = none (nat_eq m.tag h)

pub all_asked : (xs : List Marked) → length (asked_tags xs) ≡ length (read_beats xs)
all_asked [] = refl
all_asked (m ∷ xs) = by_kind (is_of_reads m.transfer.kind) (all_asked xs)
  where
    long : (beats : List Beat) → length (map (λ _. m.tag) beats) ≡ length beats
    long [] = refl
    long (b ∷ beats) = ap suc (long beats)

    by_kind : (b : Bool) → length (asked_tags xs) ≡ length (read_beats xs) →
        length (flat_map (λ (m : Marked). map (λ _. m.tag) m.transfer.beats) (if b then m ∷ filter (λ m. is_of_reads m.transfer.kind) xs else filter (λ m. is_of_reads m.transfer.kind) xs))
        ≡ length (flat_map (λ (m : Marked). m.transfer.beats) (if b then m ∷ filter (λ m. is_of_reads m.transfer.kind) xs else filter (λ m. is_of_reads m.transfer.kind) xs))
    by_kind true more =
        let l = long m.transfer.beats in
        let one = length-append (map (λ _. m.tag) m.transfer.beats) (asked_tags xs) in
        let two = length-append m.transfer.beats (read_beats xs) in
        omega (arith, l, one, two, more)
    by_kind false more = more

pub all_words : (tagged : TaggedPort) (c : ℕ) → length (word_tags tagged c) ≡ length (words_at tagged.port c)
all_words tagged zero = refl
all_words tagged (suc c) = by_valid (is_raised (tagged.answers.valid c)) (all_words tagged c)
  where
    by_valid : (b : Bool) → length (word_tags tagged c) ≡ length (words_at tagged.port c) → length (word_tags tagged c ++ only_if b (tagged.answer_tag c)) ≡ length (words_at tagged.port c ++ only_if b (record { word = tagged.answers.word c; code = tagged.answers.code c }))
    by_valid true more =
        let one = length-append (word_tags tagged c) (tagged.answer_tag c ∷ []) in
        let two = length-append (words_at tagged.port c) (record { word = tagged.answers.word c; code = tagged.answers.code c } ∷ []) in
        omega (arith, one, two, more)
    by_valid false more = ap length (append-nil (word_tags tagged c)) ∙ more ∙ sym (ap length (append-nil (words_at tagged.port c)))

module _ (system : System) (agent : ℕ) (up : ℕ → Port) (down : TaggedPort) (end : ℕ) (part : IsArbiterPart system agent up down end) where
  own_words : (h c : ℕ) → h < system.hosts → c ≤ end → length (words_at (up h) c) ≡ count h (word_tags down c)
  unfolding count
  own_words h zero low fit = refl
  own_words h (suc c) low fit = subst (λ b. length (words_at (up h) c ++ only_if b (record { word = (up h).answers.word c; code = (up h).answers.code c })) ≡ count h (word_tags down c ++ only_if (is_raised (down.answers.valid c)) (down.answer_tag c))) (sym (part.words h c low (omega (arith, fit))))
      (by_valid (is_raised (down.answers.valid c)) (nat_eq (down.answer_tag c) h) refl (own_words h c low (omega (arith, fit))))
    where
      by_valid : (v s : Bool) → nat_eq (down.answer_tag c) h ≡ s → length (words_at (up h) c) ≡ count h (word_tags down c) →
          length (words_at (up h) c ++ only_if (v && s) (record { word = (up h).answers.word c; code = (up h).answers.code c })) ≡ count h (word_tags down c ++ only_if v (down.answer_tag c))
      by_valid false s e more = ap length (append-nil (words_at (up h) c)) ∙ more ∙ sym (ap (count h) (append-nil (word_tags down c)))
      by_valid true false e more =
          let split = count_append h (word_tags down c) (down.answer_tag c ∷ []) in
          let one : count h (down.answer_tag c ∷ []) ≡ 0 = rw e refl in
          let same = ap length (append-nil (words_at (up h) c)) in
          omega (arith, split, one, same, more)
      by_valid true true e more =
          let split = count_append h (word_tags down c) (down.answer_tag c ∷ []) in
          let one : count h (down.answer_tag c ∷ []) ≡ 1 = rw e refl in
          let long = length-append (words_at (up h) c) (record { word = (up h).answers.word c; code = (up h).answers.code c } ∷ []) in
          omega (arith, split, one, long, more)

  own_asked : (h c : ℕ) → h < system.hosts → c ≤ end → words_owed (up h) c ≡ count h (asked_tags (taken_at down.port c))
  unfolding count
  own_asked h zero low fit = refl
  own_asked h (suc c) low fit = by_tag (nat_eq (down.commands.tag c) h) refl (takes down.port c) refl (own_asked h c low (omega (arith, fit)))
    where
      by_tag : (s : Bool) → nat_eq (down.commands.tag c) h ≡ s → (t : Bool) → takes down.port c ≡ t → words_owed (up h) c ≡ count h (asked_tags (taken_at down.port c)) →
          words_owed (up h) (suc c) ≡ count h (asked_tags (taken_at down.port (suc c)))
      by_tag true e true et more =
          let tag : down.commands.tag c ≡ h = grind (arith, tests, e) in
          let above = part.taken h c low (omega (arith, fit)) tag ∙ et in
          let same = part.same h c low (omega (arith, fit)) tag et in
          let left = ap (λ l. length (read_beats l)) (one_taken (up h) c above) ∙ ap length (beats_append (taken_at (up h) c) (marked_at (up h) c ∷ [])) ∙ length-append (read_beats (taken_at (up h) c)) (read_beats (marked_at (up h) c ∷ [])) in
          let right = ap (λ l. count h (asked_tags l)) (one_taken down.port c et) ∙ ap (count h) (asked_append (taken_at down.port c) (marked_at down.port c ∷ [])) ∙ count_append h (asked_tags (taken_at down.port c)) (asked_tags (marked_at down.port c ∷ [])) in
          let one : count h (asked_tags (marked_at down.port c ∷ [])) ≡ length (read_beats (marked_at down.port c ∷ [])) = one_asked h (marked_at down.port c) ∙ ap (λ b. if b then length (read_beats (marked_at down.port c ∷ [])) else 0) e in
          let here = ap (λ m. length (read_beats (m ∷ []))) same in
          omega (arith, left, right, one, here, more)
      by_tag true e false et more =
          let tag : down.commands.tag c ≡ h = grind (arith, tests, e) in
          let above = part.taken h c low (omega (arith, fit)) tag ∙ et in
          ap (λ l. length (read_beats l)) (none_taken (up h) c above) ∙ more ∙ sym (ap (λ l. count h (asked_tags l)) (none_taken down.port c et))
      by_tag false e true et more =
          let right = ap (λ l. count h (asked_tags l)) (one_taken down.port c et) ∙ ap (count h) (asked_append (taken_at down.port c) (marked_at down.port c ∷ [])) ∙ count_append h (asked_tags (taken_at down.port c)) (asked_tags (marked_at down.port c ∷ [])) in
          let one : count h (asked_tags (marked_at down.port c ∷ [])) ≡ 0 = one_asked h (marked_at down.port c) ∙ ap (λ b. if b then length (read_beats (marked_at down.port c ∷ [])) else 0) e in
          let left = ap (λ l. length (read_beats l)) (none_taken (up h) c (not_own (takes (up h) c) refl)) in
          omega (arith, left, right, one, more)
        where
          not_own : (b : Bool) → takes (up h) c ≡ b → IsFalse b
          not_own true eb = let tag = part.tagged h c low (omega (arith, fit)) eb in absurd (grind (arith, tests, e, tag))
          not_own false eb = refl
      by_tag false e false et more =
          ap (λ l. length (read_beats l)) (none_taken (up h) c (not_own (takes (up h) c) refl)) ∙ more ∙ sym (ap (λ l. count h (asked_tags l)) (none_taken down.port c et))
        where
          not_own : (b : Bool) → takes (up h) c ≡ b → IsFalse b
          not_own true eb = let tag = part.tagged h c low (omega (arith, fit)) eb in absurd (grind (arith, tests, e, tag))
          not_own false eb = refl

  -- once all words that were asked below by a cycle have come there, the host's own have come
  pub own_come : (h c d : ℕ) → h < system.hosts → c ≤ end → d ≤ end → IsPrefix (asked_tags (taken_at down.port c)) (word_tags down d) → words_owed (up h) c ≤ length (words_at (up h) d)
  own_come h c d low fit late p =
      let split = ap (count h) (sym p.joins) ∙ count_append h (asked_tags (taken_at down.port c)) p.rest in
      let words = own_words h d low late in
      let asks = own_asked h c low fit in
      omega (arith, split, words, asks)

  pub owed_below : (h c : ℕ) → h < system.hosts → suc c < end → IsTrue (is_owed (up h) c) → IsTrue (is_owed down.port c)
  owed_below h c low fit owed =
      let grown : IsPrefix (asked_tags (taken_at down.port c)) (asked_tags (taken_at down.port (suc c))) = prefix_flat_map _ (prefix_filter _ (before_extends _ c)) in
      let p = prefix_trans (part.in_order c (omega (arith, fit))) grown in
      let split = ap (count h) (sym p.joins) ∙ count_append h (word_tags down (suc c)) p.rest in
      let long = ap length (sym p.joins) ∙ length-append (word_tags down (suc c)) p.rest in
      let few = count_most h p.rest in
      let words = own_words h (suc c) low (omega (arith, fit)) in
      let asks = own_asked h (suc c) low (omega (arith, fit)) in
      let less = ltb-true (length (words_at (up h) (suc c))) (words_owed (up h) (suc c)) owed in
      let here = all_words down (suc c) in
      let there = all_asked (taken_at down.port (suc c)) in
      lt-ltb (length (words_at down.port (suc c))) (words_owed down.port (suc c)) (omega (arith, split, long, few, words, asks, less, here, there))
