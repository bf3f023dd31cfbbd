-- The nets that gather the reads of wide words are their machine, by what their queues hold.
use Rattle.std.proofs.Common.{◌≡◌, ℕ, zero, suc, ◌+◌, ◌*◌, ◌/◌, ◌%◌, ◌^◌, ◌<◌, ◌≤◌, Bool, true, false, not, ◌&&◌, ◌||◌, ◌⊎◌, ◌==◌, nat_lt, if◌then◌else◌, IsTrue, List, [], ◌∷◌, ◌++◌, length, map, drop, inl, inr, refl, sym, subst, ap, ap₂, ◌∙◌, arith, le_refl, length-drop, length-append}
use Rattle.std.proofs.lemmas.Bool.{ltb-true}
use Rattle.std.proofs.lemmas.List.{length-map}
use Rattle.std.proofs.Math.Nat.{mod-eq_of_lt}
use Rattle.std.proofs.Math.Pow.{pow_mono}
use Rattle.histories.specs.History.{is_raised, one_if, only_if}
use Rattle.netlist.specs.Nets.{NetValue}
use Rattle.netlist.specs.Netlists.{Netlist}
use Rattle.netlist.specs.Runs.{Cycle, Run, cycle_of, IsEndlessRun, IsValuation}
use Rattle.net_parts.specs.Laws.{net_fits, bit_fits}
use Rattle.item_queues.specs.Queues.{IsInOrder, MayMove, held_in}
use Rattle.item_queues.specs.Laws.{held_count}
use Rattle.memory_runs.specs.Legal.{Word}
use Rattle.memory_runs.specs.Views.{Levels, levels_at}
use Rattle.memory_machines.specs.Link.{Target, Port, is_nonempty}
use Rattle.memory_machines.specs.Machines.{Raw}
use Rattle.memory_links.specs.Links.{LinkForm, IsLink}
use Rattle.memory_links.specs.Selects.{silenced, offset_in, takes_read}
use Rattle.memory_links.specs.Gathers.{GatherState, Entry, RunsAsGather, IsGatherPlan, LieInWords, gathered, gather_form, first_entry, first_word, word_at, is_shut, comes, held, is_last, entry_at}
use Rattle.command_nets.specs.declared.nets.CommandNets.{CommandNets}
use Rattle.command_nets.specs.declared.nets.AnswerNets.{AnswerNets}
use Rattle.command_nets.specs.Nets.{raw_in, port_in, ShowSame}
use Rattle.link_core.specs.Form.{Form, KeepsLaw}
use Rattle.mm_select.specs.Laws.{raised_if, asked_bits, let_through, word_size_some}
use Rattle.mm_select.specs.SelectNets.{bytes_shape, is_asked}
use Rattle.mm_gather.specs.declared.gather.Gather.{Gather}
use Rattle.mm_gather.specs.declared.gather.GatherKept.{GatherKept}
use Rattle.mm_gather.specs.Reads.{entry_of, word_of, entries_in, words_in, owns_reads}
use Rattle.mm_gather.specs.GatherNets.{IsGatherForm, GatherRuns, GatherCommand, GatherAnswer, AsksInWords}
use Rattle.mm_gather.proofs.GatherLaws.{some_place}
use Rattle.mm_gather.proofs.GivenWords.{IsShown, shown_word, first_entry_is, IsFirstEntry, words_moved, entries_moved, word_given, high_is}

abbrev raw_from : Levels → ℕ → ℕ → Raw
raw_from levels more tag = record { levels = levels; more = more; tag = tag }

module _ (s : Gather) (form : Form) (from to : CommandNets) (kept : GatherKept) (wait up : NetValue) (answer back : AnswerNets) (netlist : Netlist) (p : IsGatherForm s form) (f : GatherCommand s from to kept netlist) (b : GatherAnswer s kept wait answer up back netlist)
    (run : Run) (endless : IsEndlessRun netlist run) where
  abbrev above : Port
  above = port_in form.up run from up back

  abbrev below : Port
  below = port_in form.down run to wait answer

  here : (c : ℕ) → IsValuation netlist (cycle_of run c)
  here c = (endless (c + 1)).valuations c (omega arith)

  next_cycle : (c : ℕ) → c + 1 ≡ suc c
  next_cycle c = omega arith

  abbrev pub state : GatherState
  state = record {
    entries = λ c. entries_in s.narrow_bytes (cycle_of run c) kept.held.entries;
    words = λ c. words_in (cycle_of run c) kept.held.words;
    given = λ c. run.net c kept.held.given.number;
  }

  entries_count : (c : ℕ) → length (state.entries c) ≡ run.net c kept.held.entries.count.number
  entries_count c = length-map (held_in (cycle_of run c) kept.held.entries) (entry_of s.narrow_bytes) ∙ held_count (cycle_of run c) kept.held.entries

  words_count : (c : ℕ) → length (state.words c) ≡ run.net c kept.held.words.count.number
  words_count c = length-map (held_in (cycle_of run c) kept.held.words) word_of ∙ held_count (cycle_of run c) kept.held.words

  -- ---- what comes in a cycle, and what is shown

  comes_is : (c : ℕ) → is_raised (run.net c b.comes.number) ≡ comes below state c
  comes_is c = b.comes_is (cycle_of run c) (here c) ∙ ap₂ (λ w e. is_raised (run.net c answer.valid.number) && nat_lt w e) (sym (words_count c)) (sym (entries_count c))

  shut_is : (c : ℕ) → is_raised (run.net c kept.shut.number) ≡ is_shut s.reads above state c
  shut_is c = f.shut (cycle_of run c) (here c) ∙ ap (λ n. not (is_raised (run.net c from.write.number)) && not (nat_lt n s.reads)) (sym (entries_count c))

  reads_below : (c : ℕ) → run.net c kept.read.number ≡ (if is_raised (run.net c kept.shut.number) then 0 else run.net c from.read.number)
  reads_below c = ap (λ (n : NetValue). run.net c n.number) f.read_is ∙ ap (λ (l : Levels). l.read) (f.levels (cycle_of run c) (here c))

  bits_asked : (c : ℕ) → is_asked (cycle_of run c) kept.read kept.write wait
      ≡ (((if is_raised (run.net c kept.shut.number) then false else is_raised (run.net c from.read.number)) && not (is_raised (run.net c from.write.number))) && not (is_raised (run.net c wait.number)))
  bits_asked c = ap₂ (λ r w. (r && not (is_raised w)) && not (is_raised (run.net c wait.number))) (ap is_raised (reads_below c) ∙ raised_if (is_raised (run.net c kept.shut.number)) (run.net c from.read.number)) (ap (λ (n : NetValue). run.net c n.number) f.write_is)

  asked_is : (c : ℕ) → is_raised (run.net c b.asks.number) ≡ takes_read above c
  asked_is c =
      b.asks_is (cycle_of run c) (here c)
      ∙ bits_asked c ∙ asked_bits (is_raised (run.net c kept.shut.number)) (is_raised (run.net c from.read.number)) (is_raised (run.net c from.write.number)) (is_raised (run.net c wait.number))
      ∙ ap (λ t. ((is_raised (run.net c from.read.number) || is_raised (run.net c from.write.number)) && not t) && not (is_raised (run.net c from.write.number))) (sym (b.waits (cycle_of run c) (here c)))

  -- a read is taken only where there is room for it
  room : (c : ℕ) → is_raised (run.net c b.asks.number) ≡ true → length (state.entries c) < s.reads
  room c e =
      let open_now = let_through (is_raised (run.net c kept.shut.number)) (is_raised (run.net c from.read.number)) (is_raised (run.net c from.write.number)) (is_raised (run.net c wait.number)) (sym (bits_asked c) ∙ sym (b.asks_is (cycle_of run c) (here c)) ∙ e) in
      let closed : not (nat_lt (length (state.entries c)) s.reads) ≡ false = ap (λ w. not w && not (nat_lt (length (state.entries c)) s.reads)) (sym open_now.1) ∙ sym (shut_is c) ∙ open_now.0 in
      ltb-true (length (state.entries c)) s.reads (twice (nat_lt (length (state.entries c)) s.reads) closed)
    where
      twice : (t : Bool) → not t ≡ false → t ≡ true
      twice true g = refl
      twice false g = sym g

  shown : (c : ℕ) → IsShown (words_in (cycle_of run c) kept.held.words) (comes below state c) (word_at below c) (run.net c back.valid.number) (run.net c b.wide.number) (run.net c back.code.number)
  shown c = shown_word (held_in (cycle_of run c) kept.held.words) (comes below state c) (run.net c b.comes.number) (run.net c answer.word.number) (run.net c answer.code.number) _ _ _
      (bit_fits netlist b.comes b.comes_bit (cycle_of run c) (here c)) (comes_is c) (b.shows (cycle_of run c) (here c))

  -- ---- what stands in each cycle

  record Stands (c : ℕ) : Type 0 where
    pub entries : IsInOrder kept.held.entries (cycle_of run c)
    pub words : IsInOrder kept.held.words (cycle_of run c)
    pub fewer : length (state.words c) ≤ length (state.entries c)
    pub given : suc (run.net c kept.held.given.number) < 2 ^ kept.held.given.width

  -- where a word is there, a read is
  some_read : (c : ℕ) → Stands c → IsTrue (is_nonempty (held below state c)) → 1 ≤ length (state.entries c)
  some_read c stands some = by_word (state.words c) refl (comes below state c) refl some
    where
      by_word : (ws : List Word) → state.words c ≡ ws → (t : Bool) → comes below state c ≡ t → IsTrue (is_nonempty (ws ++ only_if t (word_at below c))) → 1 ≤ length (state.entries c)
      by_word (w ∷ ws) e t g h = (let count = ap (λ (l : List Word). length l) e in let fewer = stands.fewer in omega (arith, count, fewer))
      by_word [] e true g h = ltb_more (is_raised (run.net c answer.valid.number)) (nat_lt (length (state.words c)) (length (state.entries c))) refl g
        where
          ltb_more : (v t : Bool) → nat_lt (length (state.words c)) (length (state.entries c)) ≡ t → (v && t) ≡ true → 1 ≤ length (state.entries c)
          ltb_more true true k h = (let less = ltb-true _ _ k in omega (arith, less))
          ltb_more true false k h = cc
          ltb_more false t k h = cc
      by_word [] e false g h = cc

  first : (c : ℕ) → 1 ≤ length (state.entries c) → IsFirstEntry s.narrow_bytes (state.entries c) (run.net c b.gives.place.number) (run.net c b.gives.count.number)
  first c some = first_entry_is s.narrow_bytes (held_in (cycle_of run c) kept.held.entries) (run.net c b.gives.place.number) (run.net c b.gives.count.number)
      (b.gives.oldest (cycle_of run c) (here c) (subst (λ n. 1 ≤ n) (entries_count c) some))

  next_given : (c : ℕ) → Stands c → (run.net c kept.held.given.number + 1) % 2 ^ kept.held.given.width ≡ suc (run.net c kept.held.given.number)
  next_given c stands = let one : run.net c kept.held.given.number + 1 ≡ suc (run.net c kept.held.given.number) = omega arith in ap (λ n. n % 2 ^ kept.held.given.width) one ∙ mod-eq_of_lt stands.given

  last_is : (c : ℕ) → Stands c → is_raised (run.net c b.last.number) ≡ is_last below state c
  last_is c stands = b.gives.last_is (cycle_of run c) (here c) ∙ ap (λ n. is_raised (run.net c back.valid.number) && not (nat_lt n (run.net c b.gives.count.number))) (next_given c stands) ∙ by_some (is_nonempty (held below state c)) refl
    where
      by_some : (t : Bool) → is_nonempty (held below state c) ≡ t → (is_raised (run.net c back.valid.number) && not (nat_lt (suc (run.net c kept.held.given.number)) (run.net c b.gives.count.number))) ≡ is_last below state c
      by_some true e =
          let count = (first c (some_read c stands e)).count_is in
          ap₂ (λ v n. v && not (nat_lt (suc (run.net c kept.held.given.number)) n)) (shown c).is_there (sym count)
      by_some false e =
          let none : is_raised (run.net c back.valid.number) ≡ false = (shown c).is_there ∙ e in
          ap (λ v. v && not (nat_lt (suc (run.net c kept.held.given.number)) (run.net c b.gives.count.number))) none
          ∙ sym (ap (λ v. v && not (nat_lt (suc (state.given c)) (first_entry (state.entries c)).count)) e)

  -- the last narrow word goes only where a word is there
  last_some : (c : ℕ) → Stands c → is_last below state c ≡ true → IsTrue (is_nonempty (held below state c))
  last_some c stands e = left (is_nonempty (held below state c)) _ e
    where
      left : (x y : Bool) → (x && y) ≡ true → IsTrue x
      left true y h = refl
      left false y h = cc

  last_bit : (c : ℕ) → Stands c → (run.net c b.last.number == 1) ≡ is_last below state c
  last_bit c stands = high_is _ (bit_fits netlist b.last b.last_bit (cycle_of run c) (here c)) ∙ last_is c stands

  asks_bit : (c : ℕ) → (run.net c b.asks.number == 1) ≡ takes_read above c
  asks_bit c = high_is _ (bit_fits netlist b.asks b.asks_bit (cycle_of run c) (here c)) ∙ asked_is c

  comes_bit : (c : ℕ) → (run.net c b.comes.number == 1) ≡ comes below state c
  comes_bit c = high_is _ (bit_fits netlist b.comes b.comes_bit (cycle_of run c) (here c)) ∙ comes_is c

  entries_may : (c : ℕ) → Stands c → MayMove kept.held.entries b.asks b.last (cycle_of run c)
  entries_may c stands = record {
    in_order = stands.entries;
    room = λ high. (let low = room c (asked_is c ∙ sym (asks_bit c) ∙ high) in let bound = f.held.entries_bound in let count = entries_count c in omega (arith, low, bound, count));
    some = λ high. inl (let some = some_read c stands (last_some c stands (sym (last_bit c stands) ∙ high)) in let count = entries_count c in omega (arith, some, count));
  }

  words_may : (c : ℕ) → Stands c → MayMove kept.held.words b.comes b.last (cycle_of run c)
  words_may c stands = record {
    in_order = stands.words;
    room = λ high. (let less = word_room c (sym (comes_bit c) ∙ high) in
        let few = stands.entries.few in
        let bound = f.held.entries_bound in
        let same = f.held.words_bound in
        let count = words_count c in
        let reads = entries_count c in
        omega (arith, less, few, bound, same, count, reads));
    some = λ high. by_words (state.words c) refl (last_some c stands (sym (last_bit c stands) ∙ high));
  } where
    word_room : (c : ℕ) → comes below state c ≡ true → length (state.words c) < length (state.entries c)
    word_room c e = ltb-true _ _ (right (is_raised (run.net c answer.valid.number)) _ e)
      where
        right : (x y : Bool) → (x && y) ≡ true → y ≡ true
        right true y h = h
        right false y h = cc

    by_words : (ws : List Word) → state.words c ≡ ws → IsTrue (is_nonempty (held below state c)) → (0 < run.net c kept.held.words.count.number) ⊎ ((run.net c b.comes.number == 1) ≡ true)
    by_words (w ∷ ws) e some = inl (let count = words_count c in let size = ap (λ (l : List Word). length l) e in omega (arith, count, size))
    by_words [] e some = inr (comes_bit c ∙ by_test (comes below state c) (subst (λ (l : List Word). IsTrue (is_nonempty (l ++ only_if (comes below state c) (word_at below c)))) e some))
      where
        by_test : (t : Bool) → IsTrue (is_nonempty ([] ++ only_if t (word_at below c))) → t ≡ true
        by_test true h = refl
        by_test false h = cc

  entries_next : (c : ℕ) → Stands c → state.entries (suc c) ≡ drop (one_if (is_last below state c)) (state.entries c) ++ only_if (takes_read above c) (entry_at above below c)
  entries_next c stands =
      let moved = b.goes_on.enters run (c + 2) (endless (c + 2)) c (omega arith) (entries_may c stands) in
      ap state.entries (sym (next_cycle c))
      ∙ entries_moved s.narrow_bytes (is_last below state c) (takes_read above c) _ (run.net c kept.place.number) (run.net c kept.count.number) _ (entry_at above below c)
      (moved.held ∙ ap₂ (λ l a. drop (one_if l) (held_in (cycle_of run c) kept.held.entries ++ only_if a (run.net c kept.place.number ∷ run.net c kept.count.number ∷ []))) (last_bit c stands) (asks_bit c))
      (λ last. some_read c stands (last_some c stands last))
      (f.place (cycle_of run c) (here c) ∙ sym (same_offset (run.net c from.address.number)))
      (ap (λ (n : NetValue). run.net c n.number) f.count_is)
    where
      same_offset : (a : ℕ) → offset_in form.up form.down a ≡ offset_in (bytes_shape s.narrow_bytes) (bytes_shape s.wide_bytes) a
      same_offset a = rw (p.narrow, p.wide, p.bytes) refl

  words_next : (c : ℕ) → Stands c → state.words (suc c) ≡ drop (one_if (is_last below state c)) (held below state c)
  words_next c stands =
      let moved = b.goes_on.arrives run (c + 2) (endless (c + 2)) c (omega arith) (words_may c stands) in
      ap state.words (sym (next_cycle c))
      ∙ words_moved (is_last below state c) (comes below state c) _ (run.net c answer.word.number) (run.net c answer.code.number) _
      (moved.held ∙ ap₂ (λ l a. drop (one_if l) (held_in (cycle_of run c) kept.held.words ++ only_if a (run.net c answer.word.number ∷ run.net c answer.code.number ∷ []))) (last_bit c stands) (comes_bit c))

  given_next : (c : ℕ) → Stands c → state.given (suc c) ≡ (if is_last below state c then 0 else if is_nonempty (held below state c) then suc (state.given c) else state.given c)
  given_next c stands =
      ap state.given (sym (next_cycle c)) ∙ b.goes_on.counts run (c + 2) (endless (c + 2)) c (omega arith) ∙ b.gives.next_is (cycle_of run c) (here c)
      ∙ ap₂ (λ l n. if l then 0 else if is_raised (run.net c back.valid.number) then n else run.net c kept.held.given.number) (last_is c stands) (next_given c stands)
      ∙ ap (λ v. if is_last below state c then 0 else if v then suc (state.given c) else state.given c) (shown c).is_there

  fewer_next : (c : ℕ) → Stands c → length (state.words (suc c)) ≤ length (state.entries (suc c))
  fewer_next c stands =
      let words = ap (λ (l : List Word). length l) (words_next c stands) ∙ length-drop (one_if (is_last below state c)) (held below state c) in
      let all = length-append (state.words c) (only_if (comes below state c) (word_at below c)) in
      let entries = ap (λ (l : List Entry). length l) (entries_next c stands) ∙ length-append (drop (one_if (is_last below state c)) (state.entries c)) (only_if (takes_read above c) (entry_at above below c)) in
      let left = length-drop (one_if (is_last below state c)) (state.entries c) in
      let room = by_test (comes below state c) refl in
      omega (arith, words, all, entries, left, room)
    where
      by_test : (t : Bool) → comes below state c ≡ t → length (state.words c) + length (only_if t (word_at below c)) ≤ length (state.entries c)
      by_test true e = (let less = ltb-true _ _ (right (is_raised (run.net c answer.valid.number)) _ e) in omega (arith, less))
        where
          right : (x y : Bool) → (x && y) ≡ true → y ≡ true
          right true y h = h
          right false y h = cc
      by_test false e = (let fewer = stands.fewer in omega (arith, fewer))

  given_fits : (c : ℕ) → Stands c → suc (state.given (suc c)) < 2 ^ kept.held.given.width
  given_fits c stands = by_last (is_last below state c) refl (is_nonempty (held below state c)) refl
    where
      by_last : (l : Bool) → is_last below state c ≡ l → (v : Bool) → is_nonempty (held below state c) ≡ v → suc (state.given (suc c)) < 2 ^ kept.held.given.width
      by_last true e v g =
          let none : state.given (suc c) ≡ 0 = given_next c stands ∙ ap (λ t. if t then 0 else if is_nonempty (held below state c) then suc (state.given c) else state.given c) e in
          let some = stands.given in
          omega (arith, none, some)
      by_last false e true g =
          let more : state.given (suc c) ≡ suc (state.given c) = given_next c stands ∙ ap₂ (λ t w. if t then 0 else if w then suc (state.given c) else state.given c) e g in
          let count = (first c (some_read c stands g)).count_is in
          let fits = net_fits netlist b.gives.count b.gives.count_net.is_net (cycle_of run c) (here c) in
          let width : 2 ^ b.gives.count.width ≡ 2 ^ kept.held.given.width = ap (λ n. 2 ^ n) b.gives.count_net.has_width in
          let less : suc (state.given c) < (first_entry (state.entries c)).count = ltb-true _ _ (turned (nat_lt (suc (state.given c)) (first_entry (state.entries c)).count) (sym (ap (λ w. w && not (nat_lt (suc (state.given c)) (first_entry (state.entries c)).count)) g) ∙ e)) in
          omega (arith, more, count, fits, width, less)
        where
          turned : (t : Bool) → not t ≡ false → t ≡ true
          turned true h = refl
          turned false h = cc
      by_last false e false g =
          let same : state.given (suc c) ≡ state.given c = given_next c stands ∙ ap₂ (λ t w. if t then 0 else if w then suc (state.given c) else state.given c) e g in
          let before = stands.given in
          omega (arith, same, before)

  none_entered : state.entries 0 ≡ []
  none_entered = ap (map (entry_of s.narrow_bytes)) (f.begins.entries run 1 (endless 1) (omega arith)).none

  none_come : state.words 0 ≡ []
  none_come = ap (map word_of) (f.begins.words run 1 (endless 1) (omega arith)).none

  none_given : state.given 0 ≡ 0
  none_given = f.begins.given run 1 (endless 1) (omega arith)

  -- a count has two bits at least
  two_bits : 4 ≤ 2 ^ kept.held.given.width
  two_bits =
      let more = some_place s.narrow_bytes s.wide_bytes kept.place.width f.is.smaller f.ratio in
      let width = f.held.given.has_width in
      let count = f.count_width in
      let is = ap (λ (n : NetValue). n.width) f.count_is in
      let bits : 2 ≤ kept.held.given.width = omega (arith, more, width, count, is) in
      pow_mono bits

  stands : (c : ℕ) → Stands c
  stands zero = record {
    entries = (f.begins.entries run 1 (endless 1) (omega arith)).in_order;
    words = (f.begins.words run 1 (endless 1) (omega arith)).in_order;
    fewer = (let none = ap (λ (l : List Word). length l) none_come in omega (arith, none));
    given = (let none = none_given in let wide = two_bits in omega (arith, none, wide));
  }
  stands (suc c) = record {
    entries = subst (λ k. IsInOrder kept.held.entries (cycle_of run k)) (next_cycle c) (b.goes_on.enters run (c + 2) (endless (c + 2)) c (omega arith) (entries_may c (stands c))).in_order;
    words = subst (λ k. IsInOrder kept.held.words (cycle_of run k)) (next_cycle c) (b.goes_on.arrives run (c + 2) (endless (c + 2)) c (omega arith) (words_may c (stands c))).in_order;
    fewer = fewer_next c (stands c);
    given = given_fits c (stands c);
  }

  given_word : (c : ℕ) → IsTrue (is_nonempty (held below state c)) →
      above.answers.word c ≡ ((first_word (held below state c)).word / 256 ^ (((first_entry (state.entries c)).offset + state.given c * form.up.word_bytes) % form.down.word_bytes)) % 256 ^ form.up.word_bytes
  given_word c some =
      let entry = first c (some_read c (stands c) some) in
      b.gives.word_is (cycle_of run c) (here c)
      ∙ word_given s.narrow_bytes s.wide_bytes kept.place.width (run.net c b.wide.number) (run.net c b.gives.place.number) (state.given c) (word_size_some s.narrow_bytes f.is.narrow) f.ratio
      ∙ ap₂ (λ (w o : ℕ). w / 256 ^ ((o + state.given c * s.narrow_bytes) % s.wide_bytes) % 256 ^ s.narrow_bytes) (sym ((shown c).oldest some).0) (sym entry.place_is)
      ∙ ap₂ (λ n w. (first_word (held below state c)).word / 256 ^ (((first_entry (state.entries c)).offset + state.given c * n) % w) % 256 ^ n) (sym p.narrow) (sym p.wide)

  same_gathered : (l : Levels) → gathered form.up form.down l ≡ gathered (bytes_shape s.narrow_bytes) (bytes_shape s.wide_bytes) l
  same_gathered l = rw (p.narrow, p.wide, p.bytes) refl

  pub runs : RunsAsGather s.reads above below state
  runs = record {
    levels = λ c. f.levels (cycle_of run c) (here c) ∙ ap₂ silenced (shut_is c) (sym (same_gathered (levels_at above.commands.signals c)));
    more = λ c. ap (λ (n : NetValue). run.net c n.number) f.more_is;
    tag = λ c. ap (λ (n : NetValue). run.net c n.number) f.tag_is;
    waitrequest = λ c. b.waits (cycle_of run c) (here c) ∙ ap (λ t. t || is_raised (run.net c wait.number)) (shut_is c);
    entries_begin = none_entered;
    entries_next = λ c. entries_next c (stands c);
    words_begin = none_come;
    words_next = λ c. words_next c (stands c);
    given_begins = none_given;
    given_next = λ c. given_next c (stands c);
    valid = λ c. (shown c).is_there;
    word = given_word;
    code = λ c some. sym ((shown c).oldest some).1;
  }

  pub gather_runs_between : GatherRuns s form.link.target above below
  gather_runs_between = record { many = p.many; plan = p.plan; some = p.deep; state = state; run = runs }

  lie_in_words : (end : ℕ) → AsksInWords s above end → LieInWords above form.down end
  lie_in_words end lie c less shown_now =
      let lies = lie c less shown_now in
      let same : offset_in form.up form.down (above.commands.address c) ≡ offset_in form.up (bytes_shape s.wide_bytes) (above.commands.address c) = rw p.wide refl in
      record {
        few = lies.few;
        some = lies.some;
        within = (let within = lies.within in let wide = p.wide in omega (arith, within, same, wide));
        single = lies.single;
      }

  pub gather_between : ((target : Target) (up down : Port) (many room : ℕ) (state : GatherState) (end : ℕ) → IsGatherPlan target up.shape down.shape many → 1 < room → RunsAsGather room up down state → LieInWords up down.shape end → IsLink (gather_form target) up down end) →
      (end : ℕ) → ((c : ℕ) → c ≤ end → AsksInWords s above c) → KeepsLaw form above below end
  gather_between law end asked alike =
      subst (λ (l : LinkForm). IsLink l above below end) (sym p.is) (law form.link.target above below p.many s.reads state end p.plan p.deep runs (lie_in_words end (asked end (le_refl end))))

pub gather_ignores : (s : Gather) (from to : CommandNets) (kept : GatherKept) (netlist : Netlist) → GatherCommand s from to kept netlist → (one other : Cycle) → IsValuation netlist one → IsValuation netlist other →
    ((n : ℕ) → owns_reads kept.held n → one.net n ≡ other.net n) → ShowSame from one other → ShowSame to one other
gather_ignores s from to kept netlist f one other v w state same =
    let shut = f.shut one v ∙ ap₂ (λ (r : Raw) n. not (is_raised r.levels.write) && not (nat_lt n s.reads)) same (state kept.held.entries.count.number (inl (inl (inl refl)))) ∙ sym (f.shut other w) in
    let levels = f.levels one v ∙ ap₂ (λ t (r : Raw). silenced t (gathered (bytes_shape s.narrow_bytes) (bytes_shape s.wide_bytes) r.levels)) shut same ∙ sym (f.levels other w) in
    let more = ap (λ (n : NetValue). one.net n.number) f.more_is ∙ ap (λ (r : Raw). r.more) same ∙ sym (ap (λ (n : NetValue). other.net n.number) f.more_is) in
    let tag = ap (λ (n : NetValue). one.net n.number) f.tag_is ∙ ap (λ (r : Raw). r.tag) same ∙ sym (ap (λ (n : NetValue). other.net n.number) f.tag_is) in
    ap₂ (λ l m. raw_from l m (one.net to.tag.number)) levels more ∙ ap (raw_from (raw_in other to).levels (other.net to.more.number)) tag
