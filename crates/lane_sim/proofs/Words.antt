-- The words of memories, cleared and written.
use Rattle.std.proofs.Common.{◌≡◌, ◌≢◌, ℕ, ◌+◌, ◌^◌, ◌<◌, ◌≤◌, Bool, true, false, List, [], ◌∷◌, ◌++◌, length, slice_get, get_or, set, Some, inl, inr, refl, sym, subst, ap, ◌∙◌, arith}
use Rattle.std.specs.Prelude.{IfSome, ◌==◌}
use Rattle.std.proofs.Math.ListN.{length-set}
use Rattle.std.proofs.lemmas.List.{get_or_past, length-append}
use Rattle.std.proofs.lemmas.Nat.{pow_pos}
use Rattle.std.proofs.lemmas.Bool.{cases_lt, eq-eqb, eqb-true, false≢true, ne_eqb}
use Rattle.std.proofs.lemmas.Option.{get_or_from_slice_get, slice_get_within, slice_get_read, same_Some}
use Rattle.av_base.specs.Word.{Word, word}
use Rattle.netlist.specs.declared.line.Memory.{Memory}
use Rattle.netlist.specs.declared.line.MemWrite.{MemWrite}
use Rattle.netlist.specs.declared.line.MemLine.{MemLine}
use Rattle.netlist.specs.Netlists.{Netlist, IsValue, memory_of}
use Rattle.netlist.specs.Runs.{word_after}
use Rattle.cycle_sim.specs.Sims.{AreWords, ArePlaces, bits_at, cycle_with, place_of, size_of}
use Rattle.lane_sim.proofs.Values.{split_more, slice_get-front, slice_get-last, slice_get-set, bits_at-set_same, bits_at-set_other}
use Rattle.lane_sim.proofs.Places.{place_more, place_after, place_apart, place_within}

-- the memories below k have the words that follow, and the others those of before
pub record AreWritten (b : Netlist) (nets before words : List Word) (k : ℕ) : Type 0 where
  pub are_words : AreWords b.memories words
  pub done : (m : ℕ) (memory : Memory) → m < k → slice_get b.memories m ≡ Some memory → (address : ℕ) → address < 2 ^ memory.address_bits →
      IfSome memory.write (λ write. bits_at words (place_of b.memories m + address) ≡ word_after (cycle_with b nets before) write m address)
  pub rest : (m : ℕ) (memory : Memory) → k ≤ m → slice_get b.memories m ≡ Some memory → (address : ℕ) → address < 2 ^ memory.address_bits →
      bits_at words (place_of b.memories m + address) ≡ bits_at before (place_of b.memories m + address)

pub written_none : (b : Netlist) (nets words : List Word) → AreWords b.memories words → AreWritten b nets words words 0
written_none b nets words h = record {
  are_words = h;
  done = λ m memory lt at address in_m. absurd (omega arith);
  rest = λ m memory le at address in_m. refl;
}

abbrev pub its_write : MemLine → MemWrite
its_write line = record { enable = line.enable; address = line.address; word = line.word }

-- the memory's write as its line tells it
write_is : (memory : Memory) (line : MemLine) → memory ≡ memory_of line → (P : MemWrite → Type 0) → P (its_write line) → IfSome memory.write P
write_is memory line e P p = subst (λ (x : Memory). IfSome x.write P) (sym e) p

not_enabled : (b : Netlist) (nets before : List Word) (write : MemWrite) (m address : ℕ) → bits_at nets write.enable ≢ 1 → word_after (cycle_with b nets before) write m address ≡ bits_at before (place_of b.memories m + address)
not_enabled b nets before write m address h = rw (ne_eqb (bits_at nets write.enable) 1 h) refl

goes_elsewhere : (b : Netlist) (nets before : List Word) (write : MemWrite) (m address : ℕ) → bits_at nets write.enable ≡ 1 → bits_at nets write.address ≢ address →
    word_after (cycle_with b nets before) write m address ≡ bits_at before (place_of b.memories m + address)
goes_elsewhere b nets before write m address e h = rw (eq-eqb (bits_at nets write.enable) 1 e, ne_eqb (bits_at nets write.address) address h) refl

goes_here : (b : Netlist) (nets before : List Word) (write : MemWrite) (m address : ℕ) → bits_at nets write.enable ≡ 1 → bits_at nets write.address ≡ address →
    word_after (cycle_with b nets before) write m address ≡ bits_at nets write.word
goes_here b nets before write m address e h = rw (eq-eqb (bits_at nets write.enable) 1 e, eq-eqb (bits_at nets write.address) address h) refl

-- memory k is not written
pub written_kept : (b : Netlist) (nets before words : List Word) (k : ℕ) (line : MemLine) → AreWritten b nets before words k → slice_get b.memories k ≡ Some (memory_of line) → bits_at nets line.enable ≢ 1 →
    AreWritten b nets before words (k + 1)
written_kept b nets before words k line h its off = record {
  are_words = h.are_words;
  done = λ m memory lt at address in_m. elim (split_more m k lt) [
    | inl below ↦ h.done m memory below at address in_m
    | inr e ↦ (let is : memory ≡ memory_of line = same_Some _ _ (sym (subst (λ j. slice_get b.memories j ≡ Some memory) e at) ∙ its) in
        write_is memory line is (λ write. bits_at words (place_of b.memories m + address) ≡ word_after (cycle_with b nets before) write m address)
        (h.rest m memory (omega arith) at address in_m ∙ sym (not_enabled b nets before (its_write line) m address off)))
  ];
  rest = λ m memory le at address in_m. h.rest m memory (omega arith) at address in_m;
}

-- memory k is written at a place
pub written_put : (b : Netlist) (nets before words : List Word) (k : ℕ) (line : MemLine) (place : ℕ) (value : Word) → AreWritten b nets before words k → slice_get b.memories k ≡ Some (memory_of line) →
    bits_at nets line.enable ≡ 1 → place ≡ place_of b.memories k + bits_at nets line.address → bits_at nets line.address < 2 ^ line.address_bits → IsValue value line.width → value.bits ≡ bits_at nets line.word →
    AreWritten b nets before (set words place value) (k + 1)
written_put b nets before words k line place value h its on there inside is bits = record {
  are_words = record {
    count = simp length-set h.are_words.count;
    fit = λ m memory at address v in_m stands. elim (slice_get-set words place (place_of b.memories m + address) value v stands) [
      | inl o ↦ h.are_words.fit m memory at address v in_m o
      | inr o ↦ subst (λ (x : Word). IsValue x memory.width) o.1 (value_of_memory m memory at address in_m o.0)
    ];
  };
  done = λ m memory lt at address in_m. elim (split_more m k lt) [
    | inl below ↦ subst (λ y. IfSome memory.write (λ write. y ≡ word_after (cycle_with b nets before) write m address)) (sym (other m memory address at in_m (λ e. omega arith))) (h.done m memory below at address in_m)
    | inr e ↦ (let same : memory ≡ memory_of line = same_Some _ _ (sym (subst (λ j. slice_get b.memories j ≡ Some memory) e at) ∙ its) in
        write_is memory line same (λ write. bits_at (set words place value) (place_of b.memories m + address) ≡ word_after (cycle_with b nets before) write m address) (its_word m memory address e at in_m))
  ];
  rest = λ m memory le at address in_m. other m memory address at in_m (λ e. omega arith) ∙ h.rest m memory (omega arith) at address in_m;
} where
  in_words : place < length words
  in_words = (let lt = place_within b.memories k (memory_of line) (bits_at nets line.address) its inside in let c = h.are_words.count in omega arith)

  other : (m : ℕ) (memory : Memory) (address : ℕ) → slice_get b.memories m ≡ Some memory → address < 2 ^ memory.address_bits → m ≢ k → bits_at (set words place value) (place_of b.memories m + address) ≡ bits_at words (place_of b.memories m + address)
  other m memory address at in_m d =
      bits_at-set_other words place (place_of b.memories m + address) value (λ e. place_apart b.memories m k memory (memory_of line) address (bits_at nets line.address) at its in_m inside d (e ∙ there))

  value_of_memory : (m : ℕ) (memory : Memory) → slice_get b.memories m ≡ Some memory → (address : ℕ) → address < 2 ^ memory.address_bits → place_of b.memories m + address ≡ place → IsValue value memory.width
  value_of_memory m memory at address in_m e = elim (cases_lt m k) [
    | inl lt ↦ absurd (place_apart b.memories m k memory (memory_of line) address (bits_at nets line.address) at its in_m inside (λ q. omega arith) (e ∙ there))
    | inr ge ↦ elim (cases_lt k m) [
      | inl gt ↦ absurd (place_apart b.memories m k memory (memory_of line) address (bits_at nets line.address) at its in_m inside (λ q. omega arith) (e ∙ there))
      | inr le ↦ (let q : m ≡ k = omega arith in
          let same : memory ≡ memory_of line = same_Some _ _ (sym (subst (λ j. slice_get b.memories j ≡ Some memory) q at) ∙ its) in
          subst (λ (x : Memory). IsValue value x.width) (sym same) is)
    ]
  ]

  its_word : (m : ℕ) (memory : Memory) (address : ℕ) → m ≡ k → slice_get b.memories m ≡ Some memory → address < 2 ^ memory.address_bits →
      bits_at (set words place value) (place_of b.memories m + address) ≡ word_after (cycle_with b nets before) (its_write line) m address
  its_word m memory address e at in_m = at_place (bits_at nets line.address == address) refl where
    same_place : place_of b.memories m ≡ place_of b.memories k
    same_place = ap (place_of b.memories) e

    at_place : (t : Bool) → (bits_at nets line.address == address) ≡ t → bits_at (set words place value) (place_of b.memories m + address) ≡ word_after (cycle_with b nets before) (its_write line) m address
    at_place true t =
        let here : bits_at nets line.address ≡ address = eqb-true (bits_at nets line.address) address t in
        let p : place_of b.memories m + address ≡ place = omega (arith, same_place, there, here) in
        subst (λ j. bits_at (set words place value) j ≡ word_after (cycle_with b nets before) (its_write line) m address) (sym p)
        (bits_at-set_same words place value in_words ∙ bits ∙ sym (goes_here b nets before (its_write line) m address on here))
    at_place false t =
        let apart : bits_at nets line.address ≢ address = (λ q. false≢true (sym t ∙ eq-eqb (bits_at nets line.address) address q)) in
        let p : place_of b.memories m + address ≢ place = (λ q. apart (omega (arith, same_place, there, q))) in
        bits_at-set_other words place (place_of b.memories m + address) value p ∙ h.rest m memory (omega arith) at address in_m ∙ sym (goes_elsewhere b nets before (its_write line) m address on apart)

-- the memories below k have their words, all of them 0
pub record AreCleared (memories : List Memory) (places : List ℕ) (words : List Word) (k : ℕ) : Type 0 where
  pub count_places : length places ≡ k
  pub are_places : (m : ℕ) → m < k → slice_get places m ≡ Some (place_of memories m)
  pub count : length words ≡ place_of memories k
  pub fit : (m : ℕ) (memory : Memory) → m < k → slice_get memories m ≡ Some memory → (address : ℕ) (value : Word) → address < size_of memory
      → slice_get words (place_of memories m + address) ≡ Some value → IsValue value memory.width
  pub zero_bits : (n : ℕ) → bits_at words n ≡ 0

pub cleared_none : (memories : List Memory) → AreCleared memories [] [] 0
cleared_none memories = record {
  count_places = refl;
  are_places = λ m lt. absurd (omega arith);
  count = refl;
  fit = λ m memory lt at address value in_m stands. absurd (omega arith);
  zero_bits = λ n. refl;
}

-- one more memory, whose words stand at the end
pub cleared_more : (memories : List Memory) (places : List ℕ) (words more : List Word) (k : ℕ) (memory : Memory) → AreCleared memories places words k → slice_get memories k ≡ Some memory → 1 ≤ memory.width → memory.width ≤ 128 →
    length more ≡ length words + size_of memory → ((n : ℕ) (d : Word) → n < length words → get_or more n d ≡ get_or words n d) →
    ((n : ℕ) (d : Word) → length words ≤ n → n < length words + size_of memory → get_or more n d ≡ word memory.width 0) → AreCleared memories (places ++ length words ∷ []) more (k + 1)
cleared_more memories places words more k memory h its some_bit small count old new = record {
  count_places = simp length-append (let c = h.count_places in omega arith);
  are_places = λ m lt. elim (split_more m k lt) [
    | inl below ↦ slice_get-front places (length words ∷ []) m (place_of memories m) (h.are_places m below)
    | inr e ↦ subst (λ j. slice_get (places ++ length words ∷ []) j ≡ Some (place_of memories j)) (sym e)
        (subst (λ j. slice_get (places ++ length words ∷ []) j ≡ Some (place_of memories k)) h.count_places (slice_get-last places (length words) ∙ ap Some h.count))
  ];
  count = count ∙ ap (λ n. n + size_of memory) h.count ∙ sym (place_more memories k memory its);
  fit = λ m its_memory lt at address value in_m stands. elim (split_more m k lt) [
    | inl below ↦ (let before : place_of memories m + address < length words = (let p = place_after memories m k its_memory at below in let c = h.count in omega arith) in
        h.fit m its_memory below at address value in_m
        (slice_get_read words (length words) (place_of memories m + address) value refl before
        (sym (sym (old (place_of memories m + address) value before) ∙ get_or_from_slice_get more (place_of memories m + address) value value stands))))
    | inr e ↦ (let same : its_memory ≡ memory = same_Some _ _ (sym (subst (λ j. slice_get memories j ≡ Some its_memory) e at) ∙ its) in
        let begins : place_of memories m ≡ length words = ap (place_of memories) e ∙ sym h.count in
        let size : size_of its_memory ≡ size_of memory = ap size_of same in
        let is : value ≡ word memory.width 0 = sym (get_or_from_slice_get more (place_of memories m + address) value value stands)
        ∙ new (place_of memories m + address) value (omega (arith, begins)) (omega (arith, begins, size)) in
        subst (λ (x : Memory). IsValue value x.width) (sym same) (subst (λ (v : Word). IsValue v memory.width) (sym is)
        (record { word = record { some_bit = some_bit; small = small; fits = pow_pos memory.width }; width = refl })))
  ];
  zero_bits = λ n. elim (cases_lt n (length words)) [
    | inl lt ↦ ap (λ (x : Word). x.bits) (old n (word 0 0) lt) ∙ h.zero_bits n
    | inr le ↦ elim (cases_lt n (length words + size_of memory)) [
      | inl lt ↦ ap (λ (x : Word). x.bits) (new n (word 0 0) le lt)
      | inr past ↦ ap (λ (x : Word). x.bits) (get_or_past more n (word 0 0) (omega (arith, count)))
    ]
  ];
}

pub cleared_words : (memories : List Memory) (places : List ℕ) (words : List Word) → AreCleared memories places words (length memories) → AreWords memories words
cleared_words memories places words h = record {
  count = h.count;
  fit = λ m memory at address value in_m stands. h.fit m memory (slice_get_within memories m memory at) at address value in_m stands;
}

pub cleared_places : (memories : List Memory) (places : List ℕ) (words : List Word) → AreCleared memories places words (length memories) → ArePlaces memories places
cleared_places memories places words h = record { count = h.count_places; is = h.are_places }
