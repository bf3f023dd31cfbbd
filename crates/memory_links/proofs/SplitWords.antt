-- The words of a splitter: those that came below are whole groups, and a front of the next one.
use Rattle.std.proofs.Common.{ℕ, zero, suc, ◌<◌, ◌≤◌, ◌≡◌, ◌+◌, ◌-◌, ◌%◌, ◌^◌, max, ◌⊎◌, inl, inr, Bool, true, false, not, ◌&&◌, ◌||◌, List, [], ◌∷◌, ◌++◌, if◌then◌else◌, arith, refl, sym, ap, ap₂, subst, ◌∙◌, length, map, flat_map, zip, drop, nat_lt, nat_eq, append-nil, append_assoc, length-append, ltb-true, ltb-false, lt-ltb}
use Rattle.std.proofs.lemmas.Bool.{and_parts}
use Rattle.std.proofs.lemmas.List.{map-append, length-map}
use Rattle.std.proofs.lemmas.Grind.{flat_map-append}
use Rattle.histories.specs.History.{is_raised, only_if, one_if}
use Rattle.memory_runs.specs.Views.{Shape}
use Rattle.memory_runs.specs.Legal.{Word}
use Rattle.memory_runs.specs.Operations.{Beat, filled_lanes}
use Rattle.memory_runs.specs.Order.{Answer}
use Rattle.memory_runs.specs.Commands.{shows, words_before}
use Rattle.memory_machines.specs.Link.{Target, Port, AreLegalAt, AnswersAreOwed, takes, taken_at, read_beats, words_at, words_owed, answers_at, bytes_in}
use Rattle.memory_machines.specs.Blocks.{block, blocks_at, worded, codes_of, highest, AreGreatest}
use Rattle.memory_machines.specs.Lines.{bytes_of, BringsBack}
use Rattle.memory_machines.specs.Machines.{MaySplit, piece_of, beat_of, raw_at}
use Rattle.memory_machines.specs.SideLaws.{same_counts, zip_front}
use Rattle.memory_links.specs.Selects.{takes_read}
use Rattle.memory_links.specs.Splits.{SplitState, RunsAsSplit, split_at, asked_at, are_same, completes, IsPut, IsAdded, opens}
use Rattle.memory_links.proofs.Gather.{HasPieces, AllDigits, none_digits, digits_push, AreRising, asked_of, asked_rise, pieces_by, answer_by, answers_by, asks_some, cut_of}
use Rattle.memory_links.proofs.Groups.{Group, IsWhole, AllWhole, whole_push, codes_in, codes_push, enables_of, given_of, words_of, pieces_of_all, words_whole, blocks_by, answers_append, all_bytes, all_codes}
use Rattle.memory_links.proofs.OneBeat.{enables_in, enables_asked, count_is_one}
use Rattle.memory_links.proofs.Splitting.{shown_above, shown_taken, opened_read, same_true, either_of}
use Rattle.memory_links.proofs.SplitTags.{bears_shown}
use Rattle.memory_links.proofs.SplitParts.{asked_above, asked_below, gone, reads_below, going, set_held, write_below, parts_are, joined_length, sent_pieces, sent_of_read}
use Rattle.memory_links.proofs.Stages.{one_more_word}

-- ---- reads and words that stand so

abbrev pub AllAsk : Shape → Shape → List ℕ → List ℕ → Type 0
AllAsk wide narrow set [] = Unit {0}
AllAsk wide narrow set (e ∷ es) = (asked_of wide narrow e ≡ set) × AllAsk wide narrow set es

ask_push : (wide narrow : Shape) (set es : List ℕ) (e : ℕ) → AllAsk wide narrow set es → asked_of wide narrow e ≡ set → AllAsk wide narrow set (es ++ e ∷ [])
ask_push wide narrow set [] e all one = (one, tt)
ask_push wide narrow set (x ∷ es) e all one = (all.0, ask_push wide narrow set es e all.1 one)

-- the reads `es` are accepted, with the words `us` and, of their pieces, `ws`. `many` aren't answered, and `come` words of the next one have come
pub record Words (wide narrow : Shape) (es : List ℕ) (us ws : List Word) (many come : ℕ) (gathered : Word) (set : List ℕ) : Type 0 where
  pub groups : List Group
  pub whole : AllWhole wide narrow groups
  pub open_reads : List ℕ
  pub front : List Word
  pub asked : es ≡ enables_of groups ++ open_reads
  pub given : us ≡ given_of groups
  pub came : ws ≡ words_of groups ++ front
  pub count : many ≡ length open_reads
  pub place : come ≡ length front
  pub digits : AllDigits narrow.word_bytes gathered.word set front
  pub codes : gathered.code ≡ highest (codes_in front)
  pub few : length front ≤ length set - 1
  pub same : AllAsk wide narrow set open_reads

module _ (wide narrow : Shape) (es : List ℕ) (us ws : List Word) (many come : ℕ) (gathered : Word) (set : List ℕ) (now : Words wide narrow es us ws many come gathered set) where
  pub told_as : (es' : List ℕ) (us' ws' : List Word) (many' come' : ℕ) (gathered' : Word) → es' ≡ es → us' ≡ us → ws' ≡ ws → many' ≡ many → come' ≡ come → gathered' ≡ gathered → Words wide narrow es' us' ws' many' come' gathered' set
  told_as es' us' ws' many' come' gathered' a b c d e f = record {
    groups = now.groups;
    whole = now.whole;
    open_reads = now.open_reads;
    front = now.front;
    asked = a ∙ now.asked;
    given = b ∙ now.given;
    came = c ∙ now.came;
    count = d ∙ now.count;
    place = e ∙ now.place;
    digits = subst (λ (g : Word). AllDigits narrow.word_bytes g.word set now.front) (sym f) now.digits;
    codes = ap (λ (g : Word). g.code) f ∙ now.codes;
    few = now.few;
    same = now.same;
  }

  -- one read more
  pub one_read : (e : ℕ) → asked_of wide narrow e ≡ set → Words wide narrow (es ++ e ∷ []) us ws (many + 1) come gathered set
  one_read e is = record {
    groups = now.groups;
    whole = now.whole;
    open_reads = now.open_reads ++ e ∷ [];
    front = now.front;
    asked = ap (λ l. l ++ e ∷ []) now.asked ∙ append_assoc (enables_of now.groups) now.open_reads (e ∷ []);
    given = now.given;
    came = now.came;
    count = (let size = length-append now.open_reads (e ∷ []) in let before = now.count in omega (arith, size, before));
    place = now.place;
    digits = now.digits;
    codes = now.codes;
    few = now.few;
    same = ask_push wide narrow set now.open_reads e now.same is;
  }

  -- another set, where nothing is under way
  pub other_set : (set' : List ℕ) → many ≡ 0 → come ≡ 0 → Words wide narrow es us ws many come gathered set'
  other_set set' none first = by_lists now.open_reads refl now.front refl
    where
      by_lists : (o : List ℕ) → now.open_reads ≡ o → (f : List Word) → now.front ≡ f → Words wide narrow es us ws many come gathered set'
      by_lists [] e [] g = record {
        groups = now.groups;
        whole = now.whole;
        open_reads = [];
        front = [];
        asked = now.asked ∙ ap (λ l. enables_of now.groups ++ l) e;
        given = now.given;
        came = now.came ∙ ap (λ l. words_of now.groups ++ l) g;
        count = none;
        place = first;
        digits = none_digits narrow.word_bytes gathered.word set';
        codes = now.codes ∙ ap (λ l. highest (codes_in l)) g;
        few = omega arith;
        same = tt;
      }
      by_lists (x ∷ o) e f g = let size = ap length e in let count = now.count in absurd (omega (arith, size, count, none))
      by_lists [] e (x ∷ f) g = let size = ap length g in let place = now.place in absurd (omega (arith, size, place, first))

  -- what holds of the words with one more
  all_there : (w after : Word) → AreRising 0 set → come < length set → IsAdded narrow.word_bytes (drop come set) gathered w after → AllDigits narrow.word_bytes after.word set (now.front ++ w ∷ [])
  all_there w after rising low put =
      let place = now.place in
      digits_push narrow.word_bytes 0 gathered.word after.word set now.front w rising (omega (arith, low, place)) now.digits
      (subst (λ n. IsPut narrow.word_bytes (drop n set) gathered.word (w.word % 256 ^ narrow.word_bytes) after.word) place put.word)

  all_codes_there : (w after : Word) → IsAdded narrow.word_bytes (drop come set) gathered w after → after.code ≡ highest (codes_in (now.front ++ w ∷ []))
  all_codes_there w after put = put.code ∙ ap (λ n. max n w.code) now.codes ∙ sym (codes_push now.front w)

  -- a word that doesn't complete the next one
  pub more_word : (w after : Word) → suc come < length set → AreRising 0 set → IsAdded narrow.word_bytes (drop come set) gathered w after → Words wide narrow es us (ws ++ w ∷ []) many (suc come) after set
  more_word w after low rising put =
      let place = now.place in
      record {
        groups = now.groups;
        whole = now.whole;
        open_reads = now.open_reads;
        front = now.front ++ w ∷ [];
        asked = now.asked;
        given = now.given;
        came = ap (λ l. l ++ w ∷ []) now.came ∙ append_assoc (words_of now.groups) now.front (w ∷ []);
        count = now.count;
        place = (let size = length-append now.front (w ∷ []) in omega (arith, size, place));
        digits = all_there w after rising (omega (arith, low)) put;
        codes = all_codes_there w after put;
        few = (let size = length-append now.front (w ∷ []) in omega (arith, size, place, low));
        same = now.same;
      }

  -- the word that completes it
  pub last_word : (w whole_word after : Word) → suc come ≡ length set → 0 < many → AreRising 0 set → IsAdded narrow.word_bytes (drop come set) gathered w whole_word → after.code ≡ 0 →
      Words wide narrow es (us ++ whole_word ∷ []) (ws ++ w ∷ []) (many - 1) 0 after set
  last_word w whole_word after last some rising put anew = by_list now.open_reads refl now.same
    where
      by_list : (o : List ℕ) → now.open_reads ≡ o → AllAsk wide narrow set o → Words wide narrow es (us ++ whole_word ∷ []) (ws ++ w ∷ []) (many - 1) 0 after set
      by_list [] e same = let size = ap length e in let count = now.count in absurd (omega (arith, size, count, some))
      by_list (x ∷ o) e same =
          let place = now.place in
          let g : Group = record { enables = x; given = whole_word; words = now.front ++ w ∷ [] } in
          let is : IsWhole wide narrow g = (
            length-append now.front (w ∷ []) ∙ (omega (arith, place, last)) ∙ ap length (sym same.0),
            subst (λ s. AllDigits narrow.word_bytes whole_word.word s (now.front ++ w ∷ [])) (sym same.0) (all_there w whole_word rising (omega (arith, last)) put),
            all_codes_there w whole_word put,
          ) in
          record {
            groups = now.groups ++ g ∷ [];
            whole = whole_push wide narrow now.groups g now.whole is;
            open_reads = o;
            front = [];
            asked = now.asked ∙ ap (λ l. enables_of now.groups ++ l) e ∙ sym (append_assoc (enables_of now.groups) (x ∷ []) o) ∙ ap (λ l. l ++ o) (sym (map-append (λ (g : Group). g.enables) now.groups (g ∷ [])));
            given = ap (λ l. l ++ whole_word ∷ []) now.given ∙ sym (map-append (λ (g : Group). g.given) now.groups (g ∷ []));
            came = ap (λ l. l ++ w ∷ []) now.came ∙ append_assoc (words_of now.groups) now.front (w ∷ [])
                ∙ ap (λ l. words_of now.groups ++ l) (sym (append-nil (now.front ++ w ∷ []))) ∙ sym (flat_map-append (λ (g : Group). g.words) now.groups (g ∷ [])) ∙ sym (append-nil (words_of (now.groups ++ g ∷ [])));
            count = (let size = ap length e in let count = now.count in omega (arith, size, count));
            place = refl;
            digits = none_digits narrow.word_bytes after.word set;
            codes = anew;
            few = omega arith;
            same = same.1;
          }

-- ---- answers by byte enables

pub answers_are : (target : Target) (shape : Shape) (beats : List Beat) (ws : List Word) → flat_map (λ (p : Beat × Word). bytes_in target shape p.0 p.1) (zip beats ws) ≡ answers_by shape target.shape (map enables_in beats) ws
answers_are target shape [] [] = refl
answers_are target shape [] (w ∷ ws) = refl
answers_are target shape (b ∷ beats) [] = refl
answers_are target shape (b ∷ beats) (w ∷ ws) = ap (λ l. bytes_in target shape b w ++ l) (answers_are target shape beats ws)

pub blocks_are : (target : Target) (port : Port) (beats : List Beat) (ws : List Word) → flat_map (block target port) (zip beats ws) ≡ blocks_by port.shape target.shape (map enables_in beats) ws
blocks_are target port [] [] = refl
blocks_are target port [] (w ∷ ws) = refl
blocks_are target port (b ∷ beats) [] = refl
blocks_are target port (b ∷ beats) (w ∷ ws) = ap (λ l. block target port (b, w) ++ l) (blocks_are target port beats ws)

same_lists : (xs ys : List ℕ) → are_same xs ys ≡ true → xs ≡ ys
same_lists [] [] h = refl
same_lists [] (y ∷ ys) h = cc
same_lists (x ∷ xs) [] h = cc
same_lists (x ∷ xs) (y ∷ ys) h = let parts = and_parts (nat_eq x y) (are_same xs ys) h in ap₂ (λ a l. a ∷ l) (same_true x y parts.0) (same_lists xs ys parts.1)

-- ---- the machine

module _ (law : HasPieces) (target : Target) (count : ℕ) (room : ℕ) (up down : Port) (state : SplitState) (may : MaySplit target up.shape down.shape count) (run : RunsAsSplit room up down state) (end : ℕ) (legal : AreLegalAt up end) where
  abbrev above : ℕ → List ℕ
  above c = asked_above room up down state run end legal c

  abbrev below : ℕ → List ℕ
  below c = asked_below room up down state run end legal c

  abbrev left : ℕ → List ℕ
  left c = gone room up down state run end legal c

  pub one_below : (c : ℕ) → c < end → takes down c ≡ true → down.commands.count c ≡ 1
  one_below c h t = (bears_shown room up down state run end legal c (shown_taken room up down state run end legal c t)).count

  pub one_above : (c : ℕ) → c < end → takes up c ≡ true → up.commands.count c ≡ 1
  one_above c h t = count_is_one up end may.one_beat legal c h (and_parts (shows up.commands.signals c) (not (is_raised (up.commands.waitrequest c))) t).0

  pub owed_below : (c : ℕ) → c ≤ end → words_owed down c ≡ length (pieces_of_all up.shape down.shape (above c)) + length (left c)
  owed_below c h =
      sym (length-map (read_beats (taken_at down c)) enables_in) ∙ ap length (enables_asked down end one_below c h ∙ reads_below room up down state run end legal c h)
      ∙ length-append (pieces_of_all up.shape down.shape (above c)) (left c)

  pub owed_above : (c : ℕ) → c ≤ end → words_owed up c ≡ length (above c)
  owed_above c h = sym (length-map (read_beats (taken_at up c)) enables_in) ∙ ap length (enables_asked up end one_above c h)

  abbrev pub Now : ℕ → Type 0
  Now c = Words up.shape down.shape (above c) (words_at up c) (words_at down c) (state.reads c) (state.come c) (state.gathered c) (state.set c)

  -- no word comes that wasn't asked
  within : (c : ℕ) → c < end → AnswersAreOwed down (suc c) → length (words_at down c) + one_if (is_raised (down.answers.valid c)) ≤ length (pieces_of_all up.shape down.shape (above c)) + length (left c)
  within c h owed =
      let there = owed c (omega arith) in
      let counts : words_before down.answers.valid (suc c) ≡ length (words_at down (suc c)) = same_counts (λ c. is_raised (down.answers.valid c)) (λ c. c) (λ c. record { word = down.answers.word c; code = down.answers.code c }) (suc c) in
      let more = one_more_word down c in
      let asks = owed_below c (omega (arith, h)) in
      omega (arith, there, counts, more, asks)

  pieces_of_read : (e : ℕ) → length (pieces_by up.shape down.shape e) ≡ length (asked_of up.shape down.shape e)
  pieces_of_read e = length-map (asked_of up.shape down.shape e) (cut_of down.shape.word_bytes e)

  some_asked : (e : ℕ) → 0 < length (asked_of up.shape down.shape e)
  some_asked e = asks_some law up.shape down.shape target.shape may.some may.same count may.one may.whole e

  -- how many words came and were asked, by what stands
  front_within : (c : ℕ) → (now : Now c) → (n : ℕ) → length (words_at down c) + n ≤ length (pieces_of_all up.shape down.shape (above c)) + length (left c) → length now.front + n ≤ length (pieces_of_all up.shape down.shape now.open_reads) + length (left c)
  front_within c now n h =
      let came = ap length now.came ∙ length-append (words_of now.groups) now.front in
      let asked : length (pieces_of_all up.shape down.shape (above c)) ≡ length (pieces_of_all up.shape down.shape (enables_of now.groups)) + length (pieces_of_all up.shape down.shape now.open_reads) =
      ap (λ l. length (pieces_of_all up.shape down.shape l)) now.asked ∙ ap length (flat_map-append (pieces_by up.shape down.shape) (enables_of now.groups) now.open_reads)
      ∙ length-append (pieces_of_all up.shape down.shape (enables_of now.groups)) (pieces_of_all up.shape down.shape now.open_reads) in
      let whole = words_whole up.shape down.shape now.groups now.whole in
      omega (arith, came, asked, whole, h)

  -- of a read that isn't answered not all words have come
  pub open_owes : (c : ℕ) → (now : Now c) → 0 < state.reads c → length now.front < length (pieces_of_all up.shape down.shape now.open_reads)
  open_owes c now some = by_list now.open_reads refl now.same
    where
      by_list : (o : List ℕ) → now.open_reads ≡ o → AllAsk up.shape down.shape (state.set c) o → length now.front < length (pieces_of_all up.shape down.shape o)
      by_list [] e same = let size = ap length e in let many = now.count in absurd (omega (arith, size, many, some))
      by_list (x ∷ o) e same =
          let size = length-append (pieces_by up.shape down.shape x) (pieces_of_all up.shape down.shape o) in
          let first = pieces_of_read x in
          let asks = some_asked x in
          let set = ap length same.0 in
          let few = now.few in
          omega (arith, size, first, asks, set, few)

  none_open : (c : ℕ) → (now : Now c) → state.reads c ≡ 0 → length (pieces_of_all up.shape down.shape now.open_reads) ≡ 0
  none_open c now none = by_list now.open_reads refl
    where
      by_list : (o : List ℕ) → now.open_reads ≡ o → length (pieces_of_all up.shape down.shape o) ≡ 0
      by_list [] e = refl
      by_list (x ∷ o) e = let size = ap length e in let many = now.count in absurd (omega (arith, size, many, none))

  pieces_rise : (e : ℕ) → AreRising 0 (asked_of up.shape down.shape e)
  pieces_rise e = asked_rise law up.shape down.shape target.shape may.some may.same count may.one may.whole e

  -- a word that comes has a place in the next one, and doesn't complete it before its read is accepted
  pub record HasPlace (c : ℕ) : Type 0 where
    pub low : suc (state.come c) ≤ length (state.set c)
    pub rising : AreRising 0 (state.set c)
    pub last : suc (state.come c) ≡ length (state.set c) → 0 < state.reads c

  has_place : (c : ℕ) → c < end → AnswersAreOwed down (suc c) → Now c → is_raised (down.answers.valid c) ≡ true → HasPlace c
  has_place c h owed now comes = by_reads (state.reads c) refl
    where
      bound : length now.front + 1 ≤ length (pieces_of_all up.shape down.shape now.open_reads) + length (left c)
      bound = front_within c now 1 (subst (λ b. length (words_at down c) + one_if b ≤ length (pieces_of_all up.shape down.shape (above c)) + length (left c)) comes (within c h owed))

      by_reads : (n : ℕ) → state.reads c ≡ n → HasPlace c
      by_reads zero e =
          let none = none_open c now e in
          let place = now.place in
          let read = going room up down state run end legal c h (omega (arith, bound, none)) in
          let few = read.few in
          record { low = omega (arith, bound, none, place, few); rising = subst (AreRising 0) (sym read.set) (pieces_rise (up.commands.enables c)); last = λ is. absurd (omega (arith, bound, none, place, few, is)) }
      by_reads (suc n) e = by_list now.open_reads refl now.same
        where
          by_list : (o : List ℕ) → now.open_reads ≡ o → AllAsk up.shape down.shape (state.set c) o → HasPlace c
          by_list [] f same = let size = ap length f in let many = now.count in absurd (omega (arith, size, many, e))
          by_list (x ∷ o) f same =
              let asks = some_asked x in
              let set = ap length same.0 in
              let few = now.few in
              let place = now.place in
              record { low = omega (arith, asks, set, few, place); rising = subst (AreRising 0) same.0 (pieces_rise x); last = λ is. omega (arith, e) }

  -- the set stays, or nothing is under way
  set_stays : (c : ℕ) → c < end → (state.set (suc c) ≡ state.set c) ⊎ ((state.reads c ≡ 0) × (length (left c) ≡ 0))
  set_stays c h = by_take (takes down c) refl (is_raised (down.commands.write c)) refl
    where
      next_is : (t w : Bool) → takes down c ≡ t → is_raised (down.commands.write c) ≡ w → state.set (suc c) ≡ (if t && not w then asked_at up down c else state.set c)
      next_is t w e f = run.set_next c ∙ ap₂ (λ t w. if t && not w then asked_at up down c else state.set c) e f

      by_take : (t : Bool) → takes down c ≡ t → (w : Bool) → is_raised (down.commands.write c) ≡ w → (state.set (suc c) ≡ state.set c) ⊎ ((state.reads c ≡ 0) × (length (left c) ≡ 0))
      by_take false e w f = inl (next_is false w e f)
      by_take true e true f = inl (next_is true true e f)
      by_take true e false f =
          let shown = shown_taken room up down state run end legal c e in
          let there = shown_above room up down state run end legal c shown in
          let reads : is_raised (up.commands.write c) ≡ false = sym (write_below room up down state run end legal c shown) ∙ f in
          let may_open = (and_parts (nat_lt (state.reads c) room) (nat_lt 0 (state.place c) || (nat_eq (state.reads c) 0 || are_same (state.set c) (asked_at up down c))) (opened_read room up down state run end legal c there.1 reads)).1 in
          by_place (nat_lt 0 (state.place c)) refl there.0 reads may_open
        where
          by_same : (z : Bool) → nat_eq (state.reads c) 0 ≡ z → nat_lt 0 (state.place c) ≡ false → z || are_same (state.set c) (asked_at up down c) ≡ true → (state.set (suc c) ≡ state.set c) ⊎ ((state.reads c ≡ 0) × (length (left c) ≡ 0))
          by_same false z first k = inl (next_is true false e f ∙ sym (same_lists (state.set c) (asked_at up down c) k))
          by_same true z first k = inr (same_true (state.reads c) 0 z, by_left (nat_lt 0 (length (left c))) refl)
            where
              by_left : (b : Bool) → nat_lt 0 (length (left c)) ≡ b → length (left c) ≡ 0
              by_left true more =
                  let some = (going room up down state run end legal c h (ltb-true 0 (length (left c)) more)).some in
                  let placed = lt-ltb 0 (state.place c) some in
                  absurd (both (nat_lt 0 (state.place c)) placed first)
                where
                  both : (b : Bool) → b ≡ true → b ≡ false → ⊥
                  both true p q = cc
                  both false p q = cc
              by_left false more = none (length (left c)) more
                where
                  none : (n : ℕ) → nat_lt 0 n ≡ false → n ≡ 0
                  none zero q = refl
                  none (suc n) q = let less = lt-ltb 0 (suc n) (omega arith) in absurd (clash (nat_lt 0 (suc n)) less q)
                    where
                      clash : (b : Bool) → b ≡ true → b ≡ false → ⊥
                      clash true p q = cc
                      clash false p q = cc

          by_place : (p : Bool) → nat_lt 0 (state.place c) ≡ p → shows up.commands.signals c ≡ true → is_raised (up.commands.write c) ≡ false →
              p || (nat_eq (state.reads c) 0 || are_same (state.set c) (asked_at up down c)) ≡ true → (state.set (suc c) ≡ state.set c) ⊎ ((state.reads c ≡ 0) × (length (left c) ≡ 0))
          by_place true p shown reads k = inl (next_is true false e f ∙ sym (set_held room up down state run end legal c h shown reads (ltb-true 0 (state.place c) p)))
          by_place false p shown reads k = by_same (nat_eq (state.reads c) 0) refl p k

  -- a read is accepted with its last piece, so the set is its own
  set_of_read : (c : ℕ) → c < end → takes_read up c ≡ true → state.set (suc c) ≡ asked_at up down c
  set_of_read c h t =
      let parts = and_parts (takes up c) (not (is_raised (up.commands.write c))) t in
      let reads : is_raised (up.commands.write c) ≡ false = by_not (is_raised (up.commands.write c)) parts.1 in
      let both = and_parts (shows up.commands.signals c && opens room up down state c) (nat_eq (length (split_at up down c)) 0 || (takes down c && nat_eq (suc (state.place c)) (length (split_at up down c)))) (sym (run.accepts c) ∙ parts.0) in
      let size : length (split_at up down c) ≡ length (asked_at up down c) =
      ap length (parts_are up.shape down.shape (raw_at up c)) ∙ joined_length (up.commands.tag c) (up.commands.more c) _
      ∙ length-map (sent_pieces up.shape down.shape (raw_at up c)) (piece_of down.shape.word_bytes (beat_of up.shape (record { read = up.commands.read c; write = up.commands.write c; address = up.commands.address c; word = up.commands.word c; enables = up.commands.enables c; count = up.commands.count c })))
      ∙ ap length (sent_of_read up.shape down.shape (raw_at up c) reads) in
      let asks = some_asked (up.commands.enables c) in
      either_of (nat_eq (length (split_at up down c)) 0) (takes down c && nat_eq (suc (state.place c)) (length (split_at up down c))) both.1
      (λ empty. (let none = same_true (length (split_at up down c)) 0 empty in absurd (omega (arith, none, size, asks))))
      (λ last. (let taken = (and_parts (takes down c) (nat_eq (suc (state.place c)) (length (split_at up down c))) last).0 in
      run.set_next c ∙ ap₂ (λ t w. if t && not w then asked_at up down c else state.set c) taken (write_below room up down state run end legal c (shown_taken room up down state run end legal c taken) ∙ reads)))
    where
      by_not : (b : Bool) → not b ≡ true → b ≡ false
      by_not true p = cc
      by_not false p = refl

  -- the read that is accepted in a cycle
  with_read : (c : ℕ) → c < end → Now c → (t : Bool) → takes_read up c ≡ t → (t ≡ true → asked_at up down c ≡ state.set c) →
      Words up.shape down.shape (above (suc c)) (words_at up c) (words_at down c) (state.reads c + one_if t) (state.come c) (state.gathered c) (state.set c)
  with_read c h now false e set =
      told_as up.shape down.shape (above c) (words_at up c) (words_at down c) (state.reads c) (state.come c) (state.gathered c) (state.set c) now _ _ _ _ _ _
      (ap (λ b. above c ++ only_if b (up.commands.enables c)) e ∙ append-nil (above c)) refl refl (omega arith) refl refl
  with_read c h now true e set =
      let more = one_read up.shape down.shape (above c) (words_at up c) (words_at down c) (state.reads c) (state.come c) (state.gathered c) (state.set c) now (up.commands.enables c) (set refl) in
      told_as up.shape down.shape (above c ++ up.commands.enables c ∷ []) (words_at up c) (words_at down c) (state.reads c + 1) (state.come c) (state.gathered c) (state.set c) more _ _ _ _ _ _
      (ap (λ b. above c ++ only_if b (up.commands.enables c)) e) refl refl refl refl refl

  -- a word that has a place is the last one where no place is left behind it
  is_last : (c : ℕ) → HasPlace c → completes state c ≡ true → suc (state.come c) ≡ length (state.set c)
  is_last c place e = let low = place.low in let high = ltb-true (length (state.set c)) (suc (suc (state.come c))) e in omega (arith, low, high)

  abbrev word_below : ℕ → Word
  word_below c = record { word = down.answers.word c; code = down.answers.code c }

  abbrev word_above : ℕ → Word
  word_above c = record { word = up.answers.word c; code = up.answers.code c }

  -- the word that comes in it
  with_word : (c : ℕ) (es : List ℕ) (many : ℕ) → Words up.shape down.shape es (words_at up c) (words_at down c) many (state.come c) (state.gathered c) (state.set c) → state.reads c ≤ many →
      (is_raised (down.answers.valid c) ≡ true → HasPlace c) →
      Words up.shape down.shape es (words_at up (suc c)) (words_at down (suc c)) (many - one_if (is_raised (up.answers.valid c))) (state.come (suc c)) (state.gathered (suc c)) (state.set c)
  with_word c es many now most place = by_valid (is_raised (down.answers.valid c)) refl (completes state c) refl
    where
      up_is : (v k : Bool) → is_raised (down.answers.valid c) ≡ v → completes state c ≡ k → is_raised (up.answers.valid c) ≡ v && k
      up_is v k e f = run.valid c ∙ ap₂ (λ x y. x && y) e f

      none_up : is_raised (up.answers.valid c) ≡ false → words_at up (suc c) ≡ words_at up c
      none_up e = ap (λ b. words_at up c ++ only_if b (record { word = up.answers.word c; code = up.answers.code c })) e ∙ append-nil (words_at up c)

      fewer : is_raised (up.answers.valid c) ≡ false → many - one_if (is_raised (up.answers.valid c)) ≡ many
      fewer e = let none = ap one_if e in omega (arith, none)

      come_is : (v k : Bool) → is_raised (down.answers.valid c) ≡ v → completes state c ≡ k → state.come (suc c) ≡ (if v then (if k then 0 else suc (state.come c)) else state.come c)
      come_is v k e f = run.come_next c ∙ ap₂ (λ v k. if v then (if k then 0 else suc (state.come c)) else state.come c) e f

      by_valid : (v : Bool) → is_raised (down.answers.valid c) ≡ v → (k : Bool) → completes state c ≡ k →
          Words up.shape down.shape es (words_at up (suc c)) (words_at down (suc c)) (many - one_if (is_raised (up.answers.valid c))) (state.come (suc c)) (state.gathered (suc c)) (state.set c)
      by_valid false e k f =
          let quiet = up_is false k e f in
          told_as up.shape down.shape es (words_at up c) (words_at down c) many (state.come c) (state.gathered c) (state.set c) now _ _ _ _ _ _
          refl (none_up quiet) (ap (λ b. words_at down c ++ only_if b (record { word = down.answers.word c; code = down.answers.code c })) e ∙ append-nil (words_at down c)) (fewer quiet) (come_is false k e f) (run.gathered_stays c e)
      by_valid true e false f =
          let quiet = up_is true false e f in
          let left = ltb-false (length (state.set c)) (suc (suc (state.come c))) f in
          let more = more_word up.shape down.shape es (words_at up c) (words_at down c) many (state.come c) (state.gathered c) (state.set c) now (word_below c) (state.gathered (suc c)) left (place e).rising (run.gathered_more c e f) in
          told_as up.shape down.shape es (words_at up c) (words_at down c ++ word_below c ∷ []) many (suc (state.come c)) (state.gathered (suc c)) (state.set c) more _ _ _ _ _ _
          refl (none_up quiet) (ap (λ b. words_at down c ++ only_if b (word_below c)) e) (fewer quiet) (come_is true false e f) refl
      by_valid true e true f =
          let last = is_last c (place e) f in
          let some = (place e).last last in
          let gives = up_is true true e f in
          let more = last_word up.shape down.shape es (words_at up c) (words_at down c) many (state.come c) (state.gathered c) (state.set c) now (word_below c) (word_above c) (state.gathered (suc c)) last (omega (arith, some, most))
          (place e).rising (run.given c gives) (run.gathered_anew c e f) in
          told_as up.shape down.shape es (words_at up c ++ word_above c ∷ []) (words_at down c ++ word_below c ∷ []) (many - 1) 0 (state.gathered (suc c)) (state.set c) more _ _ _ _ _ _
          refl (ap (λ b. words_at up c ++ only_if b (word_above c)) gives)
          (ap (λ b. words_at down c ++ only_if b (word_below c)) e) (ap (λ b. many - one_if b) gives) (come_is true true e f) refl

  pub words_now : (c : ℕ) → c ≤ end → AnswersAreOwed down c → Now c
  words_now zero h owed = record {
    groups = [];
    whole = tt;
    open_reads = [];
    front = [];
    asked = refl;
    given = refl;
    came = refl;
    count = run.reads_begin;
    place = run.come_begins;
    digits = none_digits down.shape.word_bytes (state.gathered 0).word (state.set 0);
    codes = run.gathered_begins;
    few = omega arith;
    same = tt;
  }
  words_now (suc c) h owed = by_set (words_now c (omega (arith, h)) (λ k less. owed k (omega (arith, less)))) (set_stays c (omega (arith, h)))
    where
      reads_is : state.reads (suc c) ≡ (state.reads c + one_if (takes_read up c)) - one_if (is_raised (up.answers.valid c))
      reads_is = run.reads_next c

      moved : (set : List ℕ) → state.set (suc c) ≡ set →
          Words up.shape down.shape (above (suc c)) (words_at up (suc c)) (words_at down (suc c)) ((state.reads c + one_if (takes_read up c)) - one_if (is_raised (up.answers.valid c))) (state.come (suc c)) (state.gathered (suc c)) set → Now (suc c)
      moved set e now =
          subst (λ (l : List ℕ). Words up.shape down.shape (above (suc c)) (words_at up (suc c)) (words_at down (suc c)) (state.reads (suc c)) (state.come (suc c)) (state.gathered (suc c)) l) (sym e)
          (subst (λ n. Words up.shape down.shape (above (suc c)) (words_at up (suc c)) (words_at down (suc c)) n (state.come (suc c)) (state.gathered (suc c)) set) (sym reads_is) now)

      by_set : Now c → (state.set (suc c) ≡ state.set c) ⊎ ((state.reads c ≡ 0) × (length (left c) ≡ 0)) → Now (suc c)
      by_set now (inl same) =
          moved (state.set c) same
          (with_word c (above (suc c)) (state.reads c + one_if (takes_read up c))
          (with_read c (omega (arith, h)) now (takes_read up c) refl (λ t. sym (set_of_read c (omega (arith, h)) t) ∙ same)) (omega arith)
          (λ comes. has_place c (omega (arith, h)) owed now comes))
      by_set now (inr fresh) = by_valid (is_raised (down.answers.valid c)) refl
        where
          none_asked : length (pieces_of_all up.shape down.shape now.open_reads) ≡ 0
          none_asked = none_open c now fresh.0

          bound : (n : ℕ) → one_if (is_raised (down.answers.valid c)) ≡ n → length now.front + n ≤ 0
          bound n e =
              let least = front_within c now n (let all = within c (omega (arith, h)) owed in omega (arith, all, e)) in
              let nothing_left = fresh.1 in
              let none = none_asked in
              omega (arith, least, none, nothing_left)

          by_valid : (v : Bool) → is_raised (down.answers.valid c) ≡ v → Now (suc c)
          by_valid true e = let none = bound 1 (ap one_if e) in absurd (omega (arith, none))
          by_valid false e =
              let none = bound 0 (ap one_if e) in
              let place = now.place in
              let anew = other_set up.shape down.shape (above c) (words_at up c) (words_at down c) (state.reads c) (state.come c) (state.gathered c) (state.set c) now (state.set (suc c)) fresh.0 (omega (arith, place, none)) in
              by_read anew (takes_read up c) refl
            where
              quiet : is_raised (up.answers.valid c) ≡ false
              quiet = run.valid c ∙ ap (λ v. v && completes state c) e

              by_read : Words up.shape down.shape (above c) (words_at up c) (words_at down c) (state.reads c) (state.come c) (state.gathered c) (state.set (suc c)) → (t : Bool) → takes_read up c ≡ t → Now (suc c)
              by_read anew t f =
                  let more = taken_read anew t f in
                  told_as up.shape down.shape (above (suc c)) (words_at up c) (words_at down c) (state.reads c + one_if t) (state.come c) (state.gathered c) (state.set (suc c)) more _ _ _ _ _ _
                  refl (ap (λ b. words_at up c ++ only_if b (record { word = up.answers.word c; code = up.answers.code c })) quiet ∙ append-nil (words_at up c))
                  (ap (λ b. words_at down c ++ only_if b (record { word = down.answers.word c; code = down.answers.code c })) e ∙ append-nil (words_at down c))
                  (reads_is ∙ ap₂ (λ b v. (state.reads c + one_if b) - one_if v) f quiet ∙ (omega arith))
                  (run.come_next c ∙ ap (λ v. if v then (if completes state c then 0 else suc (state.come c)) else state.come c) e)
                  (run.gathered_stays c e)
                where
                  taken_read : Words up.shape down.shape (above c) (words_at up c) (words_at down c) (state.reads c) (state.come c) (state.gathered c) (state.set (suc c)) → (t : Bool) → takes_read up c ≡ t →
                      Words up.shape down.shape (above (suc c)) (words_at up c) (words_at down c) (state.reads c + one_if t) (state.come c) (state.gathered c) (state.set (suc c))
                  taken_read anew false f =
                      told_as up.shape down.shape (above c) (words_at up c) (words_at down c) (state.reads c) (state.come c) (state.gathered c) (state.set (suc c)) anew _ _ _ _ _ _
                      (ap (λ b. above c ++ only_if b (up.commands.enables c)) f ∙ append-nil (above c)) refl refl (omega arith) refl refl
                  taken_read anew true f =
                      let more = one_read up.shape down.shape (above c) (words_at up c) (words_at down c) (state.reads c) (state.come c) (state.gathered c) (state.set (suc c)) anew (up.commands.enables c) (sym (set_of_read c (omega (arith, h)) f)) in
                      told_as up.shape down.shape (above c ++ up.commands.enables c ∷ []) (words_at up c) (words_at down c) (state.reads c + 1) (state.come c) (state.gathered c) (state.set (suc c)) more _ _ _ _ _ _
                      (ap (λ b. above c ++ only_if b (up.commands.enables c)) f) refl refl refl refl refl

  -- ---- what comes of it

  pub whole_given : (gs : List Group) → length (given_of gs) ≡ length (enables_of gs)
  whole_given gs = length-map gs (λ (g : Group). g.given) ∙ sym (length-map gs (λ (g : Group). g.enables))

  answers_above : (c : ℕ) → c ≤ end → (now : Now c) → answers_at target up c ≡ answers_by up.shape target.shape (enables_of now.groups) (given_of now.groups)
  answers_above c h now =
      answers_are target up.shape (read_beats (taken_at up c)) (words_at up c)
      ∙ ap₂ (λ es ws. answers_by up.shape target.shape es ws) (enables_asked up end one_above c h ∙ now.asked) now.given
      ∙ ap (flat_map (λ (x : ℕ × Word). map (answer_by x.1) (filled_lanes up.shape target.shape x.0))) (zip_front (enables_of now.groups) now.open_reads (given_of now.groups) (let size = whole_given now.groups in omega (arith, size)))

  blocks_above : (c : ℕ) → c ≤ end → (now : Now c) → blocks_at target up c ≡ blocks_by up.shape target.shape (enables_of now.groups) (given_of now.groups)
  blocks_above c h now =
      blocks_are target up (read_beats (taken_at up c)) (words_at up c)
      ∙ ap₂ (λ es ws. blocks_by up.shape target.shape es ws) (enables_asked up end one_above c h ∙ now.asked) now.given
      ∙ ap (flat_map (λ (x : ℕ × Word). record { size = length (filled_lanes up.shape target.shape x.0); code = x.1.code } ∷ [])) (zip_front (enables_of now.groups) now.open_reads (given_of now.groups) (let size = whole_given now.groups in omega (arith, size)))

  rest_below : (c : ℕ) → Now c → List Answer
  rest_below c now = answers_by down.shape target.shape (pieces_of_all up.shape down.shape now.open_reads ++ left c) now.front

  answers_below : (c : ℕ) → c ≤ end → (now : Now c) → answers_at target down c ≡ answers_by down.shape target.shape (pieces_of_all up.shape down.shape (enables_of now.groups)) (words_of now.groups) ++ rest_below c now
  unfolding rest_below
  answers_below c h now =
      answers_are target down.shape (read_beats (taken_at down c)) (words_at down c)
      ∙ ap₂ (λ es ws. answers_by down.shape target.shape es ws)
      (enables_asked down end one_below c h ∙ reads_below room up down state run end legal c h
      ∙ ap (λ l. l ++ left c) (ap (pieces_of_all up.shape down.shape) now.asked ∙ flat_map-append (pieces_by up.shape down.shape) (enables_of now.groups) now.open_reads)
      ∙ append_assoc (pieces_of_all up.shape down.shape (enables_of now.groups)) (pieces_of_all up.shape down.shape now.open_reads) (left c)) now.came
      ∙ answers_append down.shape target.shape (pieces_of_all up.shape down.shape (enables_of now.groups)) (pieces_of_all up.shape down.shape now.open_reads ++ left c) (words_of now.groups) now.front (words_whole up.shape down.shape now.groups now.whole)

  pub owed_then : (c : ℕ) → c ≤ end → AnswersAreOwed down end → AnswersAreOwed down c
  owed_then c h owed k less = owed k (omega (arith, h, less))

  pub brings_back : AnswersAreOwed down end → BringsBack target up down end
  brings_back owed = record {
    bytes = λ c h.
        let now = words_now c h (owed_then c h owed) in
        record {
          rest = bytes_of (rest_below c now);
          joins = ap (λ l. bytes_of l ++ bytes_of (rest_below c now)) (answers_above c h now)
              ∙ ap (λ l. l ++ bytes_of (rest_below c now)) (all_bytes law up.shape down.shape target.shape may.some may.same count may.one may.whole now.groups now.whole)
              ∙ sym (map-append (λ (a : Answer). a.byte) (answers_by down.shape target.shape (pieces_of_all up.shape down.shape (enables_of now.groups)) (words_of now.groups)) (rest_below c now))
              ∙ ap bytes_of (sym (answers_below c h now));
        };
    owed = λ c h. owes c h;
  }
    where
      owes : (c : ℕ) → c < end → words_before up.answers.valid (suc c) ≤ words_owed up c
      owes c h =
          let now = words_now c (omega (arith, h)) (owed_then c (omega (arith, h)) owed) in
          let counts : words_before up.answers.valid (suc c) ≡ length (words_at up (suc c)) = same_counts (λ c. is_raised (up.answers.valid c)) (λ c. c) (λ c. record { word = up.answers.word c; code = up.answers.code c }) (suc c) in
          let more = one_more_word up c in
          let asks = owed_above c (omega (arith, h)) in
          let given = ap length now.given in
          let size = whole_given now.groups in
          let asked = ap length now.asked ∙ length-append (enables_of now.groups) now.open_reads in
          let many = now.count in
          let open_one = gives_open c h now (is_raised (up.answers.valid c)) refl in
          omega (arith, counts, more, asks, given, size, asked, many, open_one)
        where
          gives_open : (c : ℕ) → c < end → Now c → (b : Bool) → is_raised (up.answers.valid c) ≡ b → (if b then 1 else 0) ≤ state.reads c
          gives_open c h now false e = omega arith
          gives_open c h now true e =
              let parts = and_parts (is_raised (down.answers.valid c)) (completes state c) (sym (run.valid c) ∙ e) in
              let place = has_place c h (owed_then (suc c) (omega (arith, h)) owed) now parts.0 in
              let some = place.last (is_last c place parts.1) in
              omega (arith, some)

  pub greatest : (c : ℕ) → c ≤ end → AnswersAreOwed down c → AreGreatest (worded (blocks_at target up c)) (codes_of (answers_at target down c))
  greatest c h owed =
      let now = words_now c h owed in
      subst (λ bs. AreGreatest (worded bs) (codes_of (answers_at target down c))) (sym (blocks_above c h now))
      (subst (AreGreatest (worded (blocks_by up.shape target.shape (enables_of now.groups) (given_of now.groups))))
      (sym (ap codes_of (answers_below c h now) ∙ map-append (λ (a : Answer). a.code) (answers_by down.shape target.shape (pieces_of_all up.shape down.shape (enables_of now.groups)) (words_of now.groups)) (rest_below c now)))
      (all_codes law up.shape down.shape target.shape may.some may.same count may.one may.whole now.groups (codes_of (rest_below c now)) now.whole))

  counts_above : (c : ℕ) → c ≤ end → (now : Now c) → words_owed up c ≡ length (words_at up c) + state.reads c
  counts_above c h now =
      let asks = owed_above c h in
      let given = ap length now.given in
      let size = whole_given now.groups in
      let asked = ap length now.asked ∙ length-append (enables_of now.groups) now.open_reads in
      let many = now.count in
      omega (arith, asks, given, size, asked, many)

  counts_below : (c : ℕ) → c ≤ end → (now : Now c) → words_owed down c + length now.front ≡ length (words_at down c) + (length (pieces_of_all up.shape down.shape now.open_reads) + length (left c))
  counts_below c h now =
      let asks = owed_below c h in
      let came = ap length now.came ∙ length-append (words_of now.groups) now.front in
      let asked : length (pieces_of_all up.shape down.shape (above c)) ≡ length (pieces_of_all up.shape down.shape (enables_of now.groups)) + length (pieces_of_all up.shape down.shape now.open_reads) =
      ap (λ l. length (pieces_of_all up.shape down.shape l)) now.asked ∙ ap length (flat_map-append (pieces_by up.shape down.shape) (enables_of now.groups) now.open_reads)
      ∙ length-append (pieces_of_all up.shape down.shape (enables_of now.groups)) (pieces_of_all up.shape down.shape now.open_reads) in
      let whole = words_whole up.shape down.shape now.groups now.whole in
      omega (arith, asks, came, asked, whole)

  -- where a read isn't answered, a word is owed below
  pub reads_owe : (c : ℕ) → c ≤ end → AnswersAreOwed down c → 0 < state.reads c → length (words_at down c) < words_owed down c
  reads_owe c h owed some =
      let now = words_now c h owed in
      let counts = counts_below c h now in
      let owes = open_owes c now some in
      omega (arith, counts, owes)

  pub owed_owes : (c : ℕ) → c ≤ end → AnswersAreOwed down c → length (words_at up c) < words_owed up c → length (words_at down c) < words_owed down c
  owed_owes c h owed less = let counts = counts_above c h (words_now c h owed) in reads_owe c h owed (omega (arith, counts, less))

  -- where all reads are answered, none is open
  pub none_owed : (c : ℕ) → c ≤ end → AnswersAreOwed down c → words_owed up c ≤ length (words_at up c) → state.reads c ≡ 0
  none_owed c h owed all = let counts = counts_above c h (words_now c h owed) in omega (arith, counts, all)

  -- and all of their pieces are
  pub quiet_below : (c : ℕ) → c ≤ end → AnswersAreOwed down c → words_owed up c ≤ length (words_at up c) → length (pieces_of_all up.shape down.shape (above c)) ≤ length (words_at down c)
  quiet_below c h owed all =
      let now = words_now c h owed in
      let none = none_open c now (none_owed c h owed all) in
      let counts = counts_below c h now in
      let asks = owed_below c h in
      omega (arith, none, counts, asks)

  pub few_above : (c : ℕ) → c ≤ end → AnswersAreOwed down c → length (words_at up c) ≤ words_owed up c
  few_above c h owed = let counts = counts_above c h (words_now c h owed) in omega (arith, counts)
