-- Words by place: what each place behind a route owes and gives, from the words that are owed above it.
use Rattle.std.proofs.Common.{ℕ, zero, suc, ◌<◌, ◌≤◌, ◌≡◌, ◌+◌, Bool, true, false, ◌||◌, ◌&&◌, List, [], ◌∷◌, ◌++◌, arith, refl, sym, ap, subst, ◌∙◌, nat_eq, length, map, take, drop, filter, flat_map, IsTrue, IsFalse, tests, inl, inr, ◌⊎◌, if◌then◌else◌, append-nil, length-append, lt-ltb, Option, Some, None}
use Rattle.std.proofs.lemmas.Bool.{and_parts, both_ways}
use Rattle.std.proofs.lemmas.List.{length-map}
use Rattle.std.specs.List.{list_any, list_all}
use Rattle.histories.specs.History.{is_raised, numbers, before, only_if}
use Rattle.memory_runs.specs.Views.{System, Shape, levels_at}
use Rattle.memory_runs.specs.Operations.{Beat}
use Rattle.memory_runs.specs.Commands.{Transfer, shows, transfer_of, burst_before, read_beats as reads_in, read_transfer, read_beat, is_of_reads, words_before}
use Rattle.memory_runs.specs.Legal.{is_under_way}
use Rattle.memory_runs.specs.Order.{Asked, is_agent, place_of, transfer_operations}
use Rattle.memory_runs.specs.Awake.{is_place, count_for}
use Rattle.memory_machines.specs.Link.{Port, Marked, takes, taken_at, marked_at, operations_among, beat_operations, words_at, read_beats, words_owed}
use Rattle.memory_machines.specs.Lines.{target_of, asked_among}
use Rattle.memory_machines.specs.Rank.{is_owed}
use Rattle.memory_parts.specs.Steps.{IsRoutePart, is_open, owed_places, place_shown, comes, comes_from}
use Rattle.memory_awake.proofs.Beats.{asked_one, asked_append, all_of_transfer, both, same_place, next_at, numbers_length, same_count, ops_append, count_append, some_beat, writes_on, read_beats_append}
use Rattle.memory_awake.proofs.Bits.{none_taken, one_taken, takes_shows, no_true}

pub agent_self : (a : ℕ) → IsTrue (nat_eq a a)
agent_self a = grind (arith, tests)

pub cnt : ℕ → List Asked → ℕ
cnt a [] = 0
cnt a (q ∷ l) = (if is_agent a q.place then 1 else 0) + cnt a l

pub cnt_none : (a : ℕ) → cnt a [] ≡ 0
unfolding cnt
cnt_none a = refl

cnt_head : (a : ℕ) (q : Asked) (later : List Asked) → IsTrue (is_place (Some a) q.place) → 1 ≤ cnt a (q ∷ later)
unfolding cnt
cnt_head a q later h = let one : (if is_agent a q.place then 1 else 0) ≡ suc zero = rw h refl in omega (arith, one)

pub cnt_append : (a : ℕ) (xs ys : List Asked) → cnt a (xs ++ ys) ≡ cnt a xs + cnt a ys
unfolding cnt
cnt_append a [] ys = omega arith
cnt_append a (x ∷ xs) ys = let more = cnt_append a xs ys in omega (arith, more)

pub cnt_split : (a n : ℕ) (xs : List Asked) → cnt a xs ≡ cnt a (take n xs) + cnt a (drop n xs)
unfolding cnt
cnt_split a zero xs = omega arith
cnt_split a (suc n) [] = omega arith
cnt_split a (suc n) (x ∷ xs) = let more = cnt_split a n xs in omega (arith, more)

cnt_next : (a n : ℕ) (xs : List Asked) (q : Asked) (later : List Asked) → drop n xs ≡ q ∷ later → (cnt a (take (suc n) xs) ≡ cnt a (take n xs) + (if is_agent a q.place then 1 else 0)) × (drop (suc n) xs ≡ later) × (suc n ≤ length xs)
unfolding cnt
cnt_next a zero [] q later e = absurd cc
cnt_next a zero (x ∷ xs) q later e =
    let same : x ≡ q = cc in
    let rest : xs ≡ later = cc in
    (subst (λ y. (if is_agent a x.place then 1 else 0) + 0 ≡ 0 + (if is_agent a y.place then 1 else 0)) same (omega arith), rest, omega arith)
cnt_next a (suc n) [] q later e = absurd cc
cnt_next a (suc n) (x ∷ xs) q later e = let more = cnt_next a n xs q later e in let one = more.0 in let less = more.2 in (omega (arith, one), more.1, omega (arith, less))

-- where all have one place, none has another
none_of_place : (a : ℕ) (place : Option ℕ) (xs : List Asked) → IsTrue (list_all (λ (q : Asked). is_place place q.place) xs) → IsFalse (is_agent a place) → cnt a xs ≡ 0
unfolding cnt
none_of_place a place [] all other = refl
none_of_place a place (x ∷ xs) all other =
    let parts = and_parts (is_place place x.place) _ all in
    let more = none_of_place a place xs parts.1 other in
    let one : is_agent a x.place ≡ false = ap (is_agent a) (same_place place x.place parts.0) ∙ other in
    let here : (if is_agent a x.place then 1 else 0) ≡ zero = rw one refl in
    omega (arith, more, here)

pub drop_front : {A : Type 0} (n : ℕ) (xs ys : List A) → n ≤ length xs → (drop n (xs ++ ys) ≡ drop n xs ++ ys) × (take n (xs ++ ys) ≡ take n xs)
drop_front {A} zero xs ys h = (refl, refl)
drop_front {A} (suc n) [] ys h = absurd (omega (arith, h))
drop_front {A} (suc n) (x ∷ xs) ys h = let more = drop_front n xs ys (omega (arith, h)) in (more.0, ap (λ l. x ∷ l) more.1)

pub all_append : (place : Option ℕ) (xs ys : List Asked) → IsTrue (list_all (λ (q : Asked). is_place place q.place) xs) → IsTrue (list_all (λ (q : Asked). is_place place q.place) ys) → IsTrue (list_all (λ (q : Asked). is_place place q.place) (xs ++ ys))
all_append place [] ys a b = b
all_append place (x ∷ xs) ys a b = let parts = and_parts (is_place place x.place) _ a in both _ _ parts.0 (all_append place xs ys parts.1 b)

cnt_asked_of : (a : ℕ) (place : Option ℕ) (beats : List Beat) → cnt a (map (λ b. asked_one place b) beats) ≡ (if is_agent a place then length beats else 0)
unfolding cnt
cnt_asked_of a place [] = by_same (is_agent a place)
  where
    by_same : (b : Bool) → zero ≡ (if b then zero else zero)
    by_same true = refl
    by_same false = refl
cnt_asked_of a place (b ∷ beats) = by_same (is_agent a place) (cnt_asked_of a place beats)
  where
    by_same : (e : Bool) → cnt a (map (λ b. asked_one place b) beats) ≡ (if e then length beats else 0) → (if e then 1 else 0) + cnt a (map (λ b. asked_one place b) beats) ≡ (if e then suc (length beats) else 0)
    by_same true m = omega (arith, m)
    by_same false m = omega (arith, m)

-- the read beats of one transfer, by place
pub one_transfer : (system : System) (host a : ℕ) (t : Transfer) → cnt a (asked_among system host (t ∷ [])) ≡ (if is_agent a (place_of system host t) then length (reads_in (t ∷ [])) else 0)
unfolding cnt
one_transfer system host a t = by_kind (is_of_reads t.kind)
  where
    none : (b : Bool) → zero ≡ (if b then zero else zero)
    none true = refl
    none false = refl

    by_kind : (b : Bool) → cnt a (flat_map (λ (t : Transfer). map (λ b. asked_one (place_of system host t) b) t.beats) (if b then t ∷ [] else [])) ≡ (if is_agent a (place_of system host t) then length (flat_map (λ (t : Transfer). t.beats) (if b then t ∷ [] else [])) else 0)
    by_kind true = ap (cnt a) (append-nil (map (λ b. asked_one (place_of system host t) b) t.beats)) ∙ cnt_asked_of a (place_of system host t) t.beats ∙ sym (ap (λ l. if is_agent a (place_of system host t) then length l else 0) (append-nil t.beats))
    by_kind false = none (is_agent a (place_of system host t))

pub words_count : (port : Port) (c : ℕ) → length (words_at port c) ≡ words_before port.answers.valid c
words_count port zero = refl
words_count port (suc c) = by_valid (is_raised (port.answers.valid c)) (words_count port c)
  where
    by_valid : (b : Bool) → length (words_at port c) ≡ words_before port.answers.valid c →
        length (words_at port c ++ only_if b (record { word = port.answers.word c; code = port.answers.code c })) ≡ length (before (λ c. only_if (is_raised (port.answers.valid c)) c) c ++ only_if b c)
    by_valid true more =
        let one = length-append (words_at port c) (record { word = port.answers.word c; code = port.answers.code c } ∷ []) in
        let two = length-append (before (λ c. only_if (is_raised (port.answers.valid c)) c) c) (c ∷ []) in
        omega (arith, one, two, more)
    by_valid false more = ap length (append-nil (words_at port c)) ∙ more ∙ sym (ap length (append-nil (before (λ c. only_if (is_raised (port.answers.valid c)) c) c)))

pub one_word : (port : Port) (c : ℕ) → length (words_at port (suc c)) ≡ length (words_at port c) + (if is_raised (port.answers.valid c) then 1 else 0)
one_word port c = by_valid (is_raised (port.answers.valid c))
  where
    by_valid : (b : Bool) → length (words_at port c ++ only_if b (record { word = port.answers.word c; code = port.answers.code c })) ≡ length (words_at port c) + (if b then 1 else 0)
    by_valid true = length-append (words_at port c) (record { word = port.answers.word c; code = port.answers.code c } ∷ [])
    by_valid false = let same = ap length (append-nil (words_at port c)) in omega (arith, same)

-- the transfer that is taken comes last
pub taken_end : (port : Port) (c : ℕ) → IsTrue (takes port c) → map (λ (m : Marked). m.transfer) (taken_at port (suc c)) ≡ map (λ (m : Marked). m.transfer) (taken_at port c) ++ (marked_at port c).transfer ∷ []
taken_end port c taken = ap (map (λ (m : Marked). m.transfer)) (one_taken port c taken) ∙ map_end (taken_at port c) (marked_at port c)
  where
    map_end : (xs : List Marked) (m : Marked) → map (λ (m : Marked). m.transfer) (xs ++ m ∷ []) ≡ map (λ (m : Marked). m.transfer) xs ++ m.transfer ∷ []
    map_end [] m = refl
    map_end (x ∷ xs) m = ap (λ l. x.transfer ∷ l) (map_end xs m)

pub owed_grows : (port : Port) (c : ℕ) → words_owed port c ≤ words_owed port (suc c)
owed_grows port c = by_take (takes port c) refl
  where
    by_take : (t : Bool) → takes port c ≡ t → words_owed port c ≤ words_owed port (suc c)
    by_take true e =
        let more = ap (λ l. length (read_beats l)) (one_taken port c e) ∙ ap length (read_beats_append (taken_at port c) (marked_at port c ∷ [])) ∙ length-append (read_beats (taken_at port c)) (read_beats (marked_at port c ∷ [])) in
        omega (arith, more)
    by_take false e = let same = ap (λ l. length (read_beats l)) (none_taken port c e) in omega (arith, same)

module _ (system : System) (host : ℕ) (middle : Port) (down : ℕ → Port) (end : ℕ) (route : IsRoutePart system host middle down end) where
  -- a read that is taken behind the route is owed its words
  pub reads_owed : (a c : ℕ) → a < system.agents → c < end → IsTrue (takes (down a) c) → IsFalse (is_raised ((down a).commands.write c)) → IsTrue (is_owed (down a) c)
  reads_owed a c low h taken read =
      let top = down a in
      let shown = takes_shows top c taken in
      let legal = (route.legal a low).legal in
      let come = route.owed a low c h in
      let count = words_count top (suc c) in
      let m = marked_at top c in
      let kind : (transfer_of top.shape (levels_at top.commands.signals c) (burst_before top.shape top.commands.signals (takes top) c)) ≡ read_transfer top.shape (levels_at top.commands.signals c) = rw read refl in
      let grown = ap (λ l. length (read_beats l)) (one_taken top c taken) ∙ ap length (read_beats_append (taken_at top c) (m ∷ [])) ∙ length-append (read_beats (taken_at top c)) (read_beats (m ∷ [])) in
      let one : length (read_beats (m ∷ [])) ≡ top.commands.count c =
      ap (λ (t : Transfer). length (flat_map (λ (m : Marked). m.transfer.beats) (filter (λ (m : Marked). is_of_reads m.transfer.kind) (record { tag = top.commands.tag c; more = is_raised (top.commands.more c); transfer = t } ∷ [])))) kind
      ∙ ap length (append-nil (map (read_beat top.shape (levels_at top.commands.signals c)) (numbers 0 (top.commands.count c)))) ∙ length-map (numbers 0 (top.commands.count c)) _ ∙ numbers_length 0 (top.commands.count c) in
      let some = some_beat top.shape top.commands.signals (takes top) end legal c h shown (not_under (is_under_way top.shape top.commands.signals (takes top) c) refl) in
      lt-ltb (length (words_at top (suc c))) (words_owed top (suc c)) (omega (arith, come, count, grown, one, some))
    where
      not_under : (b : Bool) → is_under_way (down a).shape (down a).commands.signals (takes (down a)) c ≡ b → IsFalse b
      not_under true e = absurd (both_ways _ read (writes_on (down a).shape (down a).commands.signals (takes (down a)) end (route.legal a low).legal c h e (takes_shows (down a) c taken)))
      not_under false e = refl

  abbrev asks_at : ℕ → List Asked
  asks_at c = asked_among system host (map (λ (m : Marked). m.transfer) (taken_at middle c))

  abbrev words_up : ℕ → ℕ
  words_up c = length (words_at middle c)

  pub record Counts (c : ℕ) : Type 0 where
    pub words : (a : ℕ) → a < system.agents → length (words_at (down a) c) ≡ cnt a (take (words_up c) (asks_at c))
    pub asks : (a : ℕ) → a < system.agents → words_owed (down a) c ≡ cnt a (asks_at c)
    pub few : words_up c ≤ length (asks_at c)
    pub place : Option ℕ
    pub one : IsTrue (list_all (λ (q : Asked). is_place place q.place) (drop (words_up c) (asks_at c)))

  -- the words that come in a cycle
  record Come (c : ℕ) : Type 0 where
    words : (a : ℕ) → a < system.agents → length (words_at (down a) (suc c)) ≡ cnt a (take (words_up (suc c)) (asks_at c))
    few : words_up (suc c) ≤ length (asks_at c)
    left : (place : Option ℕ) → IsTrue (list_all (λ (q : Asked). is_place place q.place) (drop (words_up c) (asks_at c))) → IsTrue (list_all (λ (q : Asked). is_place place q.place) (drop (words_up (suc c)) (asks_at c)))

  -- an agent that is owed nothing gives nothing
  none_comes : (a c : ℕ) → a < system.agents → c < end → Counts c → cnt a (drop (words_up c) (asks_at c)) ≡ 0 → length (words_at (down a) (suc c)) ≡ length (words_at (down a) c)
  none_comes a c low' h counts none =
      let w = counts.words a low' in
      let o = counts.asks a low' in
      let owed = route.owed a low' c h in
      let count = words_count (down a) (suc c) in
      let split = cnt_split a (words_up c) (asks_at c) in
      let grow = one_word (down a) c in
      omega (arith, w, o, owed, count, split, none, grow)

  come : (c : ℕ) → c < end → Counts c → Come c
  come c h counts = by_next (drop (words_up c) (asks_at c)) refl (route.words c h)
    where
      next_of : (q : Asked) (later : List Asked) → drop (words_up c) (asks_at c) ≡ q ∷ later → (place : Option ℕ) → q.place ≡ place → is_raised (middle.answers.valid c) ≡ comes_from down c place → Come c
      next_of q later e None ep valid =
          let grow : words_up (suc c) ≡ suc (words_up c) = one_word middle c ∙ ap (λ b. words_up c + (if b then 1 else 0)) valid ∙ (omega arith) in
          let step = λ (a : ℕ). cnt_next a (words_up c) (asks_at c) q later e in
          let head = (and_parts (is_place counts.place q.place) _ (subst (λ l. IsTrue (list_all (λ (q : Asked). is_place counts.place q.place) l)) e counts.one)).0 in
          record {
            words = λ a low'.
                let none = none_of_place a counts.place (drop (words_up c) (asks_at c)) counts.one (no_agent a counts.place (subst (λ p. IsTrue (is_place counts.place p)) ep head)) in
                let still = none_comes a c low' h counts none in
                let w = counts.words a low' in
                let s = (step a).0 in
                let zero_one : (if is_agent a q.place then 1 else 0) ≡ zero = rw ep refl in
                subst (λ n. length (words_at (down a) (suc c)) ≡ cnt a (take n (asks_at c))) (sym grow) (omega (arith, still, w, s, zero_one));
            few = let l = (step 0).2 in omega (arith, grow, l);
            left = λ place all. subst (λ n. IsTrue (list_all (λ (q : Asked). is_place place q.place) (drop n (asks_at c)))) (sym grow)
                (subst (λ l. IsTrue (list_all (λ (q : Asked). is_place place q.place) l)) (sym (step 0).1) (and_parts (is_place place q.place) _ (subst (λ l. IsTrue (list_all (λ (q : Asked). is_place place q.place) l)) e all)).1);
          }
        where
          no_agent : (a : ℕ) (place : Option ℕ) → IsTrue (is_place place None) → IsFalse (is_agent a place)
          no_agent a None x = refl
          no_agent a (Some b) x = absurd (no_true x)
      next_of q later e (Some b) ep valid = by_valid (is_raised ((down b).answers.valid c)) refl
        where
          head : IsTrue (is_place counts.place (Some b))
          head = subst (λ p. IsTrue (is_place counts.place p)) ep (and_parts (is_place counts.place q.place) _ (subst (λ l. IsTrue (list_all (λ (q : Asked). is_place counts.place q.place) l)) e counts.one)).0

          other_place : (a : ℕ) (place : Option ℕ) → IsTrue (is_place place (Some b)) → IsFalse (nat_eq a b) → IsFalse (is_agent a place)
          other_place a None x other = absurd (no_true x)
          other_place a (Some d) x other = let same : d ≡ b = grind (arith, tests, x) in subst (λ y. IsFalse (nat_eq a y)) (sym same) other

          by_valid : (v : Bool) → is_raised ((down b).answers.valid c) ≡ v → Come c
          by_valid true ev =
              let grow : words_up (suc c) ≡ suc (words_up c) = one_word middle c ∙ ap (λ b. words_up c + (if b then 1 else 0)) (valid ∙ ev) ∙ (omega arith) in
              record {
                words = λ a low'. subst (λ n. length (words_at (down a) (suc c)) ≡ cnt a (take n (asks_at c))) (sym grow) (by_same a low' (nat_eq a b) refl);
                few = let l = (cnt_next 0 (words_up c) (asks_at c) q later e).2 in omega (arith, grow, l);
                left = λ place all. subst (λ n. IsTrue (list_all (λ (q : Asked). is_place place q.place) (drop n (asks_at c)))) (sym grow)
                    (subst (λ l. IsTrue (list_all (λ (q : Asked). is_place place q.place) l)) (sym (cnt_next 0 (words_up c) (asks_at c) q later e).1) (and_parts (is_place place q.place) _ (subst (λ l. IsTrue (list_all (λ (q : Asked). is_place place q.place) l)) e all)).1);
              }
            where
              by_same : (a : ℕ) → a < system.agents → (s : Bool) → nat_eq a b ≡ s → length (words_at (down a) (suc c)) ≡ cnt a (take (suc (words_up c)) (asks_at c))
              by_same a low' true es =
                  let same : a ≡ b = grind (arith, tests, es) in
                  let w = counts.words a low' in
                  let s = (cnt_next a (words_up c) (asks_at c) q later e).0 in
                  let one : (if is_agent a q.place then 1 else 0) ≡ suc zero = rw (ep, es) refl in
                  let g = one_word (down a) c ∙ ap (λ v. length (words_at (down a) c) + (if v then 1 else 0)) (ap (λ x. is_raised ((down x).answers.valid c)) same ∙ ev) in
                  omega (arith, w, s, one, g)
              by_same a low' false es =
                  let none = none_of_place a counts.place (drop (words_up c) (asks_at c)) counts.one (other_place a counts.place head es) in
                  let still = none_comes a c low' h counts none in
                  let w = counts.words a low' in
                  let s = (cnt_next a (words_up c) (asks_at c) q later e).0 in
                  let one : (if is_agent a q.place then 1 else 0) ≡ zero = rw (ep, es) refl in
                  omega (arith, still, w, s, one)
          by_valid false ev =
              let grow : words_up (suc c) ≡ words_up c = one_word middle c ∙ ap (λ b. words_up c + (if b then 1 else 0)) (valid ∙ ev) ∙ (omega arith) in
              let few = counts.few in
              record {
                words = λ a low'. subst (λ n. length (words_at (down a) (suc c)) ≡ cnt a (take n (asks_at c))) (sym grow) (by_same a low' (nat_eq a b) refl);
                few = omega (arith, grow, few);
                left = λ place all. subst (λ n. IsTrue (list_all (λ (q : Asked). is_place place q.place) (drop n (asks_at c)))) (sym grow) all;
              }
            where
              by_same : (a : ℕ) → a < system.agents → (s : Bool) → nat_eq a b ≡ s → length (words_at (down a) (suc c)) ≡ cnt a (take (words_up c) (asks_at c))
              by_same a low' true es =
                  let same : a ≡ b = grind (arith, tests, es) in
                  let w = counts.words a low' in
                  let g = one_word (down a) c ∙ ap (λ v. length (words_at (down a) c) + (if v then 1 else 0)) (ap (λ x. is_raised ((down x).answers.valid c)) same ∙ ev) in
                  omega (arith, w, g)
              by_same a low' false es =
                  let none = none_of_place a counts.place (drop (words_up c) (asks_at c)) counts.one (other_place a counts.place head es) in
                  let still = none_comes a c low' h counts none in
                  let w = counts.words a low' in
                  omega (arith, still, w)

      by_next : (l : List Asked) → drop (words_up c) (asks_at c) ≡ l → is_raised (middle.answers.valid c) ≡ comes down c l → Come c
      by_next [] e valid =
          let grow : words_up (suc c) ≡ words_up c = one_word middle c ∙ ap (λ b. words_up c + (if b then 1 else 0)) valid ∙ (omega arith) in
          let few = counts.few in
          record {
            words = λ a low'.
                let none : cnt a (drop (words_up c) (asks_at c)) ≡ 0 = ap (cnt a) e ∙ cnt_none a in
                let still = none_comes a c low' h counts none in
                let w = counts.words a low' in
                subst (λ n. length (words_at (down a) (suc c)) ≡ cnt a (take n (asks_at c))) (sym grow) (omega (arith, still, w));
            few = omega (arith, grow, few);
            left = λ place all. subst (λ n. IsTrue (list_all (λ (q : Asked). is_place place q.place) (drop n (asks_at c)))) (sym grow) all;
          }
      by_next (q ∷ later) e valid = next_of q later e q.place refl valid

  agent_or_not : (b : Bool) → IsTrue b ⊎ IsFalse b
  agent_or_not true = inl refl
  agent_or_not false = inr refl

  -- what is taken at an agent is what is taken above the route for it
  down_takes : (a c : ℕ) → a < system.agents → c < end → IsTrue (takes (down a) c) → IsTrue (takes middle c) × IsTrue (is_agent a (place_shown system host middle c))
  down_takes a c low' h taken =
      let shown = takes_shows (down a) c taken in
      let all = and_parts (shows middle.commands.signals c && is_agent a (place_shown system host middle c)) (is_open system host middle (Some a) c) (sym (route.shown a c low' h) ∙ shown) in
      let two = and_parts (shows middle.commands.signals c) (is_agent a (place_shown system host middle c)) all.0 in
      (route.accepts a c low' h two.1 ∙ taken, two.1)

  none_down : (a c : ℕ) → a < system.agents → c < end → IsFalse (takes middle c && is_agent a (place_shown system host middle c)) → IsFalse (takes (down a) c)
  none_down a c low' h none = by_take (takes (down a) c) refl
    where
      by_take : (t : Bool) → takes (down a) c ≡ t → IsFalse t
      by_take true e = let two = down_takes a c low' h e in absurd (both_ways _ none (both _ _ two.0 two.1))
      by_take false e = refl

  pub asks_end : (c : ℕ) → IsTrue (takes middle c) → asks_at (suc c) ≡ asks_at c ++ asked_among system host ((marked_at middle c).transfer ∷ [])
  asks_end c taken = ap (asked_among system host) (taken_end middle c taken) ∙ asked_append system host (map (λ (m : Marked). m.transfer) (taken_at middle c)) ((marked_at middle c).transfer ∷ [])

  -- the gate was open for a read that is taken
  gate_open : (c : ℕ) → c < end → IsTrue (takes middle c) → IsTrue (is_open system host middle (place_shown system host middle c) c)
  gate_open c h taken = by_place (place_shown system host middle c) refl
    where
      by_place : (place : Option ℕ) → place_shown system host middle c ≡ place → IsTrue (is_open system host middle place c)
      by_place None e = (and_parts (shows middle.commands.signals c) (is_open system host middle None c) (sym (route.default c h e) ∙ taken)).1
      by_place (Some a) e =
          let low' = route.places c a h (takes_shows middle c taken) e in
          let below = sym (route.accepts a c low' h (ap (is_agent a) e ∙ agent_self a)) ∙ taken in
          (and_parts (shows middle.commands.signals c && is_agent a (place_shown system host middle c)) (is_open system host middle (Some a) c) (sym (route.shown a c low' h) ∙ takes_shows (down a) c below)).1

  pub counts : (c : ℕ) → c ≤ end → Counts c
  counts zero h = record { words = λ a low'. sym (cnt_none a); asks = λ a low'. sym (cnt_none a); few = omega arith; place = None; one = refl }
  counts (suc c) h = by_take (takes middle c) refl (counts c (omega (arith, h)))
    where
      fit : c < end
      fit = omega (arith, h)

      by_take : (t : Bool) → takes middle c ≡ t → Counts c → Counts (suc c)
      by_take false e before =
          let k = come c fit before in
          let same : asks_at (suc c) ≡ asks_at c = ap (λ l. asked_among system host (map (λ (m : Marked). m.transfer) l)) (none_taken middle c e) in
          let few = k.few in
          let long = ap length same in
          record {
            words = λ a low'. k.words a low' ∙ sym (ap (λ l. cnt a (take (words_up (suc c)) l)) same);
            asks = λ a low'. ap (λ l. length (read_beats l)) (none_taken (down a) c (none_down a c low' fit (rw e refl))) ∙ before.asks a low' ∙ sym (ap (cnt a) same);
            few = omega (arith, few, long);
            place = before.place;
            one = subst (λ l. IsTrue (list_all (λ (q : Asked). is_place before.place q.place) (drop (words_up (suc c)) l))) (sym same) (k.left before.place before.one);
          }
      by_take true e before =
          let k = come c fit before in
          let more = asked_among system host ((marked_at middle c).transfer ∷ []) in
          let same = asks_end c e in
          let few = k.few in
          let long = ap length same ∙ length-append (asks_at c) more in
          let front = drop_front (words_up (suc c)) (asks_at c) more few in
          record {
            words = λ a low'. k.words a low' ∙ sym (ap (cnt a) (ap (take (words_up (suc c))) same ∙ front.1));
            asks = λ a low'. by_agent a low' (agent_or_not (is_agent a (place_shown system host middle c)));
            few = omega (arith, few, long);
            place = (new_place (is_of_reads (marked_at middle c).transfer.kind) refl k).0;
            one = (new_place (is_of_reads (marked_at middle c).transfer.kind) refl k).1;
          }
        where
          by_agent : (a : ℕ) → a < system.agents → IsTrue (is_agent a (place_shown system host middle c)) ⊎ IsFalse (is_agent a (place_shown system host middle c)) → words_owed (down a) (suc c) ≡ cnt a (asks_at (suc c))
          by_agent a low' (inl own) =
              let below = sym (route.accepts a c low' fit own) ∙ e in
              let m = marked_at (down a) c in
              let grown = ap (λ l. length (read_beats l)) (one_taken (down a) c below) ∙ ap length (read_beats_append (taken_at (down a) c) (m ∷ [])) ∙ length-append (read_beats (taken_at (down a) c)) (read_beats (m ∷ [])) in
              let o = before.asks a low' in
              let split = ap (cnt a) (asks_end c e) ∙ cnt_append a (asks_at c) (asked_among system host ((marked_at middle c).transfer ∷ [])) in
              let one = one_transfer system host a (marked_at middle c).transfer ∙ ap (λ b. if b then length (reads_in ((marked_at middle c).transfer ∷ [])) else 0) own in
              let here = marked_reads m ∙ ap (λ (t : Transfer). length (reads_in (t ∷ []))) (route.same a c low' fit (takes_shows (down a) c below)) in
              omega (arith, grown, o, split, one, here)
            where
              marked_reads : (m : Marked) → length (read_beats (m ∷ [])) ≡ length (reads_in (m.transfer ∷ []))
              marked_reads m = by_kind (is_of_reads m.transfer.kind)
                where
                  by_kind : (b : Bool) → length (flat_map (λ (m : Marked). m.transfer.beats) (if b then m ∷ [] else [])) ≡ length (flat_map (λ (t : Transfer). t.beats) (if b then m.transfer ∷ [] else []))
                  by_kind true = refl
                  by_kind false = refl
          by_agent a low' (inr other) =
              let none = none_down a c low' fit (rw (e, other) refl) in
              let split = ap (cnt a) (asks_end c e) ∙ cnt_append a (asks_at c) (asked_among system host ((marked_at middle c).transfer ∷ [])) in
              let one : cnt a (asked_among system host ((marked_at middle c).transfer ∷ [])) ≡ 0 = one_transfer system host a (marked_at middle c).transfer ∙ ap (λ b. if b then length (reads_in ((marked_at middle c).transfer ∷ [])) else 0) other in
              let o = before.asks a low' in
              let still = ap (λ l. length (read_beats l)) (none_taken (down a) c none) in
              omega (arith, split, one, o, still)

          whole : (place : Option ℕ) → IsTrue (list_all (λ (q : Asked). is_place place q.place) (drop (words_up (suc c)) (asks_at c))) → IsTrue (list_all (λ (q : Asked). is_place place q.place) (asked_among system host ((marked_at middle c).transfer ∷ []))) → Come c →
              IsTrue (list_all (λ (q : Asked). is_place place q.place) (drop (words_up (suc c)) (asks_at (suc c))))
          whole place old new k =
              subst (λ l. IsTrue (list_all (λ (q : Asked). is_place place q.place) (drop (words_up (suc c)) l))) (sym (asks_end c e))
              (subst (λ l. IsTrue (list_all (λ (q : Asked). is_place place q.place) l)) (sym (drop_front (words_up (suc c)) (asks_at c) (asked_among system host ((marked_at middle c).transfer ∷ [])) k.few).0)
              (all_append place (drop (words_up (suc c)) (asks_at c)) (asked_among system host ((marked_at middle c).transfer ∷ [])) old new))

          new_place : (r : Bool) → is_of_reads (marked_at middle c).transfer.kind ≡ r → Come c → (place : Option ℕ) × IsTrue (list_all (λ (q : Asked). is_place place q.place) (drop (words_up (suc c)) (asks_at (suc c))))
          new_place false er k =
              let none : asked_among system host ((marked_at middle c).transfer ∷ []) ≡ [] = rw er refl in
              (before.place, whole before.place (k.left before.place before.one) (ap (list_all (λ (q : Asked). is_place before.place q.place)) none) k)
          new_place true er k =
              let place = place_shown system host middle c in
              let gate = gate_open c fit e in
              let all = second (is_raised (middle.commands.write c)) (list_all (λ (q : Asked). is_place place q.place) (owed_places system host middle c)) (not_write (is_raised (middle.commands.write c)) refl) gate in
              (place, whole place (k.left place all) (all_of_transfer system host (marked_at middle c).transfer) k)
            where
              second : (r w : Bool) → IsFalse r → IsTrue (r || w) → IsTrue w
              second true w f s = absurd cc
              second false w f s = s

              not_write : (b : Bool) → is_raised (middle.commands.write c) ≡ b → IsFalse b
              not_write true eb = let bad : is_of_reads (marked_at middle c).transfer.kind ≡ false = rw eb refl in absurd (no_true (sym bad ∙ er))
              not_write false eb = refl

  -- the place that owes the next word owes one
  pub owes_one : (a c : ℕ) → a < system.agents → c ≤ end → IsTrue (next_at (Some a) (words_up c) (asks_at c)) → length (words_at (down a) c) < words_owed (down a) c
  owes_one a c low h next =
      let k = counts c h in
      let w = k.words a low in
      let o = k.asks a low in
      let split = cnt_split a (words_up c) (asks_at c) in
      let some = some_next (drop (words_up c) (asks_at c)) next in
      omega (arith, w, o, split, some)
    where
      some_next : (l : List Asked) → IsTrue (list_any (λ (q : Asked). is_place (Some a) q.place) (take 1 l)) → 1 ≤ cnt a l
      some_next [] x = absurd (no_true x)
      some_next (q ∷ later) x = cnt_head a q later (by_head (is_place (Some a) q.place) x)
        where
          by_head : (b : Bool) → IsTrue (b || false) → IsTrue b
          by_head true y = refl
          by_head false y = absurd (no_true y)

  -- an agent that gives a word is the place of the next one
  pub next_is : (a c : ℕ) → a < system.agents → c < end → IsTrue (is_raised ((down a).answers.valid c)) → (q : Asked) × (later : List Asked) × (drop (words_up c) (asks_at c) ≡ q ∷ later) × (q.place ≡ Some a)
  unfolding cnt
  next_is a c low' h valid = by_list (drop (words_up c) (asks_at c)) refl
    where
      some : 1 ≤ cnt a (drop (words_up c) (asks_at c))
      some =
          let w = (counts c (omega (arith, h))).words a low' in
          let o = (counts c (omega (arith, h))).asks a low' in
          let owed = route.owed a low' c h in
          let count = words_count (down a) (suc c) in
          let split = cnt_split a (words_up c) (asks_at c) in
          let grow = one_word (down a) c ∙ ap (λ v. length (words_at (down a) c) + (if v then 1 else 0)) valid in
          omega (arith, w, o, owed, count, split, grow)

      its_place : (p : Option ℕ) → IsTrue (list_all (λ (q : Asked). is_place p q.place) (drop (words_up c) (asks_at c))) → (b : Bool) → is_agent a p ≡ b → p ≡ Some a
      its_place p all false e = let none = none_of_place a p (drop (words_up c) (asks_at c)) all e in let s = some in absurd (omega (arith, s, none))
      its_place None all true e = absurd (no_true e)
      its_place (Some x) all true e = let same : a ≡ x = grind (arith, tests, e) in ap Some (sym same)

      by_list : (l : List Asked) → drop (words_up c) (asks_at c) ≡ l → (q : Asked) × (later : List Asked) × (drop (words_up c) (asks_at c) ≡ q ∷ later) × (q.place ≡ Some a)
      by_list [] e = let s = some in let n = ap (cnt a) e ∙ cnt_none a in absurd (omega (arith, s, n))
      by_list (q ∷ later) e =
          let at = its_place (counts c (omega (arith, h))).place (counts c (omega (arith, h))).one (is_agent a (counts c (omega (arith, h))).place) refl in
          let head = (and_parts (is_place (counts c (omega (arith, h))).place q.place) _ (subst (λ l. IsTrue (list_all (λ (q : Asked). is_place (counts c (omega (arith, h))).place q.place) l)) e (counts c (omega (arith, h))).one)).0 in
          (q, later, e, same_place (counts c (omega (arith, h))).place q.place head ∙ at)

  -- what is taken above the route for an agent is taken behind it
  pub all_taken : (a : ℕ) → a < system.agents → (system.host host).word_bytes ≡ middle.shape.word_bytes → (c : ℕ) → c ≤ end →
      count_for system host a (map (λ (m : Marked). m.transfer) (taken_at middle c)) ≤ length (operations_among (target_of system a) (down a).shape (taken_at (down a) c))
  all_taken a low bytes zero h = omega arith
  all_taken a low bytes (suc c) h = by_take (takes middle c) refl (all_taken a low bytes c (omega (arith, h)))
    where
      fit : c < end
      fit = omega (arith, h)

      grow : (t : Bool) → takes (down a) c ≡ t → length (operations_among (target_of system a) (down a).shape (taken_at (down a) c)) ≤ length (operations_among (target_of system a) (down a).shape (taken_at (down a) (suc c)))
      grow true e = let one = ap (λ l. length (operations_among (target_of system a) (down a).shape l)) (one_taken (down a) c e) ∙ ops_append (target_of system a) (down a).shape (taken_at (down a) c) (marked_at (down a) c) in omega (arith, one)
      grow false e = let one = ap (λ l. length (operations_among (target_of system a) (down a).shape l)) (none_taken (down a) c e) in omega (arith, one)

      by_place : (b : Bool) → is_agent a (place_shown system host middle c) ≡ b → IsTrue (takes middle c) → count_for system host a (map (λ (m : Marked). m.transfer) (taken_at middle c)) ≤ length (operations_among (target_of system a) (down a).shape (taken_at (down a) c)) →
          count_for system host a (map (λ (m : Marked). m.transfer) (taken_at middle c)) + (if b then length (transfer_operations system host a (marked_at middle c).transfer) else 0) ≤ length (operations_among (target_of system a) (down a).shape (taken_at (down a) (suc c)))
      by_place false e taken more = let g = grow (takes (down a) c) refl in omega (arith, g, more)
      by_place true e taken more =
          let below = sym (route.accepts a c low fit e) ∙ taken in
          let one = ap (λ l. length (operations_among (target_of system a) (down a).shape l)) (one_taken (down a) c below) ∙ ops_append (target_of system a) (down a).shape (taken_at (down a) c) (marked_at (down a) c) in
          let same = ap (λ (t : Transfer). length (flat_map (beat_operations (target_of system a) (down a).shape) t.beats)) (route.same a c low fit (takes_shows (down a) c below)) in
          let count = same_count system host a (down a).shape (marked_at middle c).transfer.beats (bytes ∙ sym (ap (λ (s : Shape). s.word_bytes) (route.shape a low))) in
          omega (arith, one, same, count, more)

      by_take : (t : Bool) → takes middle c ≡ t → count_for system host a (map (λ (m : Marked). m.transfer) (taken_at middle c)) ≤ length (operations_among (target_of system a) (down a).shape (taken_at (down a) c)) →
          count_for system host a (map (λ (m : Marked). m.transfer) (taken_at middle (suc c))) ≤ length (operations_among (target_of system a) (down a).shape (taken_at (down a) (suc c)))
      by_take false e more =
          let g = grow (takes (down a) c) refl in
          let same = ap (λ l. count_for system host a (map (λ (m : Marked). m.transfer) l)) (none_taken middle c e) in
          omega (arith, g, same, more)
      by_take true e more =
          let p = by_place (is_agent a (place_shown system host middle c)) refl e more in
          let split = ap (count_for system host a) (taken_end middle c e) ∙ count_append system host a (map (λ (m : Marked). m.transfer) (taken_at middle c)) (marked_at middle c).transfer in
          omega (arith, p, split)
