-- The words that the route gives come back in the order of its reads, each from the place of its read.
use Rattle.std.proofs.Common.{ℕ, zero, suc, ◌<◌, ◌≤◌, ◌≡◌, ◌+◌, ◌-◌, ◌%◌, ◌^◌, [], ◌∷◌, ◌++◌, List, Bool, true, false, not, ◌&&◌, ◌||◌, IsTrue, if◌then◌else◌, nat_lt, nat_eq, arith, tests, refl, sym, ap, ap₂, ◌∙◌, subst, Option, Some, None, length, map, filter, flat_map, zip, take, drop, slice_get, MatchOption, append_assoc, append-nil, length-append, le_of_eq}
use Rattle.std.specs.List.{All, list_all}
use Rattle.std.proofs.lemmas.Bool.{and_parts, eqb-true, ltb-true}
use Rattle.std.proofs.lemmas.List.{map-append, length-map}
use Rattle.std.proofs.lemmas.List.Elements.{filter-append, All-head, All-tail, All-append, All-cons, All-nil}
use Rattle.std.proofs.lemmas.Grind.{flat_map-append}
use Rattle.std.proofs.Math.Seq.{drop-append_seam, take-append_seam}
use Rattle.std.proofs.Math.Nat.{zero-div, zero-mod}
use Rattle.histories.specs.History.{IsPrefix, only_if, one_if, is_raised, numbers}
use Rattle.histories.specs.Laws.{prefix_trans, prefix_map, prefix_filter, prefix_flat_map, before_extends}
use Rattle.memory_runs.specs.Views.{System, Responses, Shape}
use Rattle.memory_runs.specs.Operations.{Beat, byte_at, filled_lanes, is_enabled}
use Rattle.memory_runs.specs.Commands.{Transfer, shows, is_of_reads, reads_among, words_before}
use Rattle.memory_runs.specs.Legal.{Word}
use Rattle.memory_runs.specs.Order.{Asked, HoldsAnswers, IsDefaultWord, beat_operations as placed_operations, is_agent, place_of, reads_for}
use Rattle.memory_machines.specs.Link.{Port, Marked, takes, marked_at, taken_at, AreLegalAt, AnswersAreOwed, read_beats, words_at, answers_at, bytes_in}
use Rattle.memory_machines.specs.Lines.{target_of, asked_among, asked_at, IsRouted}
use Rattle.memory_machines.specs.SideLaws.{taken_is_shown, same_counts, zip_push, zip_length, prefix_get, prefix_take, own_bytes, answer_of}
use Rattle.memory_parts.specs.Queue.{takes_read, by_option}
use Rattle.memory_machines.specs.Lines.{AreSingle, OwesBelow}
use Rattle.memory_parts.proofs.RoutePlan.{RoutePlan}
use Rattle.memory_parts.specs.Route.{RouteState, IsRouteMachine, is_same_place, default_code_by}
use Rattle.memory_parts.proofs.Queued.{word_more}
use Rattle.memory_parts.proofs.RouteTurns.{place, place_is, inside_at, taken_open, of_agent, at_agent, shown_of}
use Rattle.memory_parts.proofs.RouteDebts.{Debts, debts_at}
use Rattle.memory_parts.proofs.RouteLine.{is_placed, retagged, taken_same}

-- ---- lists

pub same_place : (x y : Option ℕ) → is_same_place x y ≡ true → x ≡ y
same_place None None e = refl
same_place None (Some k) e = cc
same_place (Some j) None e = cc
same_place (Some j) (Some k) e = let same = eqb-true j k e in ap Some same

pub get_middle : {A : Type 0} (xs : List A) (x : A) (ys : List A) → slice_get (xs ++ x ∷ ys) (length xs) ≡ Some x
get_middle [] x [] = refl
get_middle [] x (y ∷ ys) = refl
get_middle (z ∷ xs) x ys = get_middle xs x ys

zip_end : {A B : Type 0} (xs : List A) (ws : List B) (x : A) (w : B) → length xs ≡ length ws → zip (xs ++ x ∷ []) (ws ++ w ∷ []) ≡ zip xs ws ++ (x, w) ∷ []
zip_end [] [] x w e = refl
zip_end [] (v ∷ ws) x w e = absurd (omega (arith, e))
zip_end (y ∷ xs) [] x w e = absurd (omega (arith, e))
zip_end (y ∷ xs) (v ∷ ws) x w e = ap (λ l. (y, v) ∷ l) (zip_end xs ws x w (omega (arith, e)))

-- the words of one place
abbrev pub picked : ℕ → List (Asked × Word) → List Word
picked a ps = map (λ (p : Asked × Word). p.1) (filter (λ (p : Asked × Word). is_agent a p.0.place) ps)

abbrev pub of_place : ℕ → List Asked → List Asked
of_place a qs = filter (λ (q : Asked). is_agent a q.place) qs

abbrev pub beats_of_place : ℕ → List Asked → List Beat
beats_of_place a qs = map (λ (q : Asked). q.beat) (of_place a qs)

pub beats_append : (a : ℕ) (xs ys : List Asked) → beats_of_place a (xs ++ ys) ≡ beats_of_place a xs ++ beats_of_place a ys
beats_append a xs ys = ap (map (λ (q : Asked). q.beat)) (filter-append (λ (q : Asked). is_agent a q.place) xs ys) ∙ map-append (λ (q : Asked). q.beat) (of_place a xs) (of_place a ys)

pub picked_length : (a : ℕ) (qs : List Asked) (ws : List Word) → length qs ≡ length ws → length (picked a (zip qs ws)) ≡ length (beats_of_place a qs)
picked_length a [] [] e = refl
picked_length a [] (w ∷ ws) e = absurd (omega (arith, e))
picked_length a (q ∷ qs) [] e = absurd (omega (arith, e))
picked_length a (q ∷ qs) (w ∷ ws) e = by_test (is_agent a q.place) refl (picked_length a qs ws (omega (arith, e)))
  where
    by_test : (b : Bool) → is_agent a q.place ≡ b → length (picked a (zip qs ws)) ≡ length (beats_of_place a qs) → length (picked a (zip (q ∷ qs) (w ∷ ws))) ≡ length (beats_of_place a (q ∷ qs))
    by_test true is ih = rw is (ap suc ih)
    by_test false is ih = rw is ih

pub default_word : (enables : ℕ) (lanes : List ℕ) → list_all (λ lane. nat_eq (byte_at 0 lane) 0) lanes ≡ true
default_word enables [] = refl
default_word enables (lane ∷ lanes) =
    let none : byte_at 0 lane ≡ 0 = ap (λ n. n % 256) (zero-div (256 ^ lane)) ∙ zero-mod 256 in
    ap₂ (λ n b. nat_eq n 0 && b) none (default_word enables lanes)

module _ (system : System) (host a : ℕ) (shape : Shape) (plan : RoutePlan system host shape) where
  abbrev asks : Transfer → List Asked
  asks t = map (λ b. record { place = place_of system host t; beat = b }) t.beats

  abbrev asked_from : List Marked → List Asked
  asked_from ms = asked_among system host (map (λ (m : Marked). m.transfer) ms)

  own_asks : (t : Transfer) (b : Bool) → is_agent a (place_of system host t) ≡ b → (beats : List Beat) → beats_of_place a (map (λ b. record { place = place_of system host t; beat = b }) beats) ≡ (if b then beats else [])
  own_asks t true e [] = refl
  own_asks t false e [] = refl
  own_asks t true e (x ∷ beats) = rw e (ap (λ l. x ∷ l) (own_asks t true e beats))
  own_asks t false e (x ∷ beats) = rw e (own_asks t false e beats)

  -- the read beats that a place takes are those that are asked of it
  pub beats_are : (ms : List Marked) → read_beats (map (retagged host) (filter (is_placed system host a shape plan) ms)) ≡ beats_of_place a (asked_from ms)
  beats_are [] = refl
  beats_are (m ∷ ms) = by_both (is_agent a (place_of system host m.transfer)) (is_of_reads m.transfer.kind) refl refl (beats_are ms)
    where
      by_both : (p r : Bool) → is_agent a (place_of system host m.transfer) ≡ p → is_of_reads m.transfer.kind ≡ r → read_beats (map (retagged host) (filter (is_placed system host a shape plan) ms)) ≡ beats_of_place a (asked_from ms) →
          read_beats (map (retagged host) (filter (is_placed system host a shape plan) (m ∷ ms))) ≡ beats_of_place a (asked_from (m ∷ ms))
      by_both true true p r ih = rw (p, r) (ap₂ (λ x y. x ++ y) (sym (own_asks m.transfer true p m.transfer.beats)) ih ∙ sym (beats_append a (asks m.transfer) (asked_from ms)))
      by_both true false p r ih = rw (p, r) ih
      by_both false true p r ih = rw (p, r) (ih ∙ sym (beats_append a (asks m.transfer) (asked_from ms) ∙ ap (λ l. l ++ beats_of_place a (asked_from ms)) (own_asks m.transfer false p m.transfer.beats)))
      by_both false false p r ih = rw (p, r) ih

module _ (responses : Responses) (system : System) (host room : ℕ) (up : Port) (down : ℕ → Port) (state : RouteState) (end : ℕ) (machine : IsRouteMachine responses system host room up down state end)
    (legal : AreLegalAt up end) (single : AreSingle up end) (plan : RoutePlan system host up.shape) (below : OwesBelow room up end)
    (owed : (a : ℕ) → a < system.agents → AnswersAreOwed (down a) end) where
  pub early : (a : ℕ) → a < system.agents → AnswersAreOwed (down a) (end - 1)
  early a there c low = owed a there c (omega (arith, low))

  abbrev at_place : ℕ → Option ℕ
  at_place c = place responses system host room up down state end machine legal single c

  abbrev asked_of : List Marked → List Asked
  asked_of ms = asked_among system host (map (λ (m : Marked). m.transfer) ms)

  abbrev asked_taken : ℕ → List Asked
  asked_taken c = asked_of (taken_at up c)

  abbrev vu : ℕ → ℕ
  vu c = words_before up.answers.valid c

  pub debts : (c : ℕ) → c < end → Debts responses system host room up down state end machine legal single plan below early c
  debts = debts_at responses system host room up down state end machine legal single plan below early

  pub asked_append : (xs ys : List Marked) → asked_of (xs ++ ys) ≡ asked_of xs ++ asked_of ys
  asked_append xs ys =
      ap (asked_among system host) (map-append (λ (m : Marked). m.transfer) xs ys)
      ∙ ap (flat_map (λ (t : Transfer). map (λ b. record { place = place_of system host t; beat = b }) t.beats)) (filter-append (λ (t : Transfer). is_of_reads t.kind) (map (λ (m : Marked). m.transfer) xs) (map (λ (m : Marked). m.transfer) ys))
      ∙ flat_map-append (λ (t : Transfer). map (λ b. record { place = place_of system host t; beat = b }) t.beats) (reads_among (map (λ (m : Marked). m.transfer) xs)) (reads_among (map (λ (m : Marked). m.transfer) ys))

  asked_length : (xs : List Marked) → length (asked_of xs) ≡ length (read_beats xs)
  asked_length [] = refl
  asked_length (x ∷ xs) = by_kind (is_of_reads x.transfer.kind) refl (asked_length xs)
    where
      by_kind : (b : Bool) → is_of_reads x.transfer.kind ≡ b → length (asked_of xs) ≡ length (read_beats xs) → length (asked_of (x ∷ xs)) ≡ length (read_beats (x ∷ xs))
      by_kind true e ih = rw e (length-append (map (λ b. record { place = place_of system host x.transfer; beat = b }) x.transfer.beats) (asked_of xs) ∙ ap₂ (λ p q. p + q) (length-map x.transfer.beats _) ih ∙ sym (length-append x.transfer.beats (read_beats xs)))
      by_kind false e ih = rw e ih

  -- at the end of a cycle a word has come above only where one was owed
  pub word_few : (c : ℕ) → c < end → one_if (is_raised (up.answers.valid c)) ≤ state.owed c
  word_few c low = subst (λ b. one_if b ≤ state.owed c) (sym (machine.valid c low)) (by_owing (state.owing c) refl)
    where
      one_few : (b : Bool) (n : ℕ) → (b ≡ true → 1 ≤ n) → one_if b ≤ n
      one_few true n some = some refl
      one_few false n some = omega arith

      self : (n : ℕ) → nat_eq n n ≡ true
      self n = grind (arith, tests)

      by_owing : (o : Option ℕ) → state.owing c ≡ o → one_if (by_option o (nat_lt 0 (state.owed c)) (λ a. is_raised ((down a).answers.valid c))) ≤ state.owed c
      by_owing None e = one_few (nat_lt 0 (state.owed c)) (state.owed c) (λ some. ltb-true 0 (state.owed c) some)
      by_owing (Some a) e =
          let there = (debts c low).known a e in
          let few = owed a there c low in
          let more = word_more (down a).answers.valid c in
          let all = (debts c low).owing a there (ap (is_agent a) e ∙ self a) in
          omega (arith, few, more, all)

  pub owed_above : AnswersAreOwed up end
  owed_above c low = let few = word_few c low in let all = (debts c low).above in let more = word_more up.answers.valid c in omega (arith, few, all, more)

  -- a place that doesn't owe gives no word
  no_word : (a c : ℕ) → a < system.agents → c < end → is_agent a (state.owing c) ≡ false → is_raised ((down a).answers.valid c) ≡ false
  no_word a c there low e = by_test (is_raised ((down a).answers.valid c)) refl
    where
      by_test : (b : Bool) → is_raised ((down a).answers.valid c) ≡ b → is_raised ((down a).answers.valid c) ≡ false
      by_test false v = v
      by_test true v =
          let few = owed a there c low in
          let more = word_more (down a).answers.valid c ∙ ap (λ b. words_before (down a).answers.valid c + one_if b) v in
          let all = (debts c low).others a there e in
          absurd (omega (arith, few, more, all))

  -- ---- what is answered and what is owed

  pub record Splits (c : ℕ) : Type 0 where
    pub front : List Asked
    pub back : List Asked
    pub joins : front ++ back ≡ asked_taken c
    pub size : length front ≡ length (words_at up c)
    pub all : All (λ (q : Asked). q.place ≡ state.owing c) back
    pub words : (a : ℕ) → a < system.agents → words_at (down a) c ≡ picked a (zip front (words_at up c))

  words_length : (c : ℕ) → length (words_at up c) ≡ vu c
  words_length c = same_counts (λ c. is_raised (up.answers.valid c)) (λ c. record { word = up.answers.word c; code = up.answers.code c }) (λ c. c) c

  pub back_length : (c : ℕ) → c < end → (s : Splits c) → length s.back ≡ state.owed c
  back_length c low s =
      let sum = ap length s.joins ∙ asked_length (taken_at up c) in
      let parts = length-append s.front s.back in
      let size = s.size in
      let all = (debts c low).above in
      let words = words_length c in
      omega (arith, sum, parts, size, all, words)

  abbrev word_now : ℕ → Word
  word_now c = record { word = up.answers.word c; code = up.answers.code c }

  -- the words of the cycle
  pub words_next : (a c : ℕ) → a < system.agents → c < end → (front : List Asked) (q : Asked) → length front ≡ length (words_at up c) → q.place ≡ state.owing c → is_raised (up.answers.valid c) ≡ true →
      words_at (down a) c ≡ picked a (zip front (words_at up c)) → words_at (down a) (suc c) ≡ picked a (zip (front ++ q ∷ []) (words_at up (suc c)))
  words_next a c there low front q size at valid words =
      ap (λ l. l ++ only_if (is_raised ((down a).answers.valid c)) (record { word = (down a).answers.word c; code = (down a).answers.code c })) words ∙ ap (λ l. picked a (zip front (words_at up c)) ++ l) (by_owing (is_agent a (state.owing c)) refl)
      ∙ sym (ap (λ b. picked a (zip (front ++ q ∷ []) (words_at up c ++ only_if b (word_now c)))) valid ∙ ap (picked a) (zip_end front (words_at up c) q (word_now c) size)
      ∙ ap (map (λ (p : Asked × Word). p.1)) (filter-append (λ (p : Asked × Word). is_agent a p.0.place) (zip front (words_at up c)) ((q, word_now c) ∷ [])) ∙ map-append (λ (p : Asked × Word). p.1) (filter (λ (p : Asked × Word). is_agent a p.0.place) (zip front (words_at up c))) (filter (λ (p : Asked × Word). is_agent a p.0.place) ((q, word_now c) ∷ [])))
    where
      by_owing : (b : Bool) → is_agent a (state.owing c) ≡ b → only_if (is_raised ((down a).answers.valid c)) (record { word = (down a).answers.word c; code = (down a).answers.code c }) ≡ picked a ((q, word_now c) ∷ [])
      by_owing false e =
          let other : is_agent a q.place ≡ false = ap (is_agent a) at ∙ e in
          ap (λ b. only_if b (record { word = (down a).answers.word c; code = (down a).answers.code c })) (no_word a c there low e) ∙ sym (ap (λ b. map (λ (p : Asked × Word). p.1) (if b then (q, word_now c) ∷ [] else [])) other)
      by_owing true e =
          let it : is_agent a q.place ≡ true = ap (is_agent a) at ∙ e in
          let owes = of_agent a (state.owing c) e in
          let here : is_raised ((down a).answers.valid c) ≡ true = sym (machine.valid c low ∙ ap (λ o. by_option o (nat_lt 0 (state.owed c)) (λ a. is_raised ((down a).answers.valid c))) owes) ∙ valid in
          let word : up.answers.word c ≡ (down a).answers.word c = machine.answer c low valid ∙ ap (λ o. by_option o 0 (λ a. (down a).answers.word c)) owes in
          let code : up.answers.code c ≡ (down a).answers.code c = machine.code c low valid ∙ ap (λ o. by_option o (default_code_by responses) (λ a. (down a).answers.code c)) owes in
          ap (λ b. only_if b (record { word = (down a).answers.word c; code = (down a).answers.code c })) here
          ∙ ap₂ (λ w k. record { word = w; code = k } ∷ []) (sym word) (sym code) ∙ sym (ap (λ b. map (λ (p : Asked × Word). p.1) (if b then (q, word_now c) ∷ [] else [])) it)

  pub words_still : (a c : ℕ) → a < system.agents → c < end → is_raised (up.answers.valid c) ≡ false → words_at (down a) (suc c) ≡ words_at (down a) c
  words_still a c there low quiet = ap (λ b. words_at (down a) c ++ only_if b (record { word = (down a).answers.word c; code = (down a).answers.code c })) (none (is_agent a (state.owing c)) refl) ∙ append-nil (words_at (down a) c)
    where
      none : (b : Bool) → is_agent a (state.owing c) ≡ b → is_raised ((down a).answers.valid c) ≡ false
      none false e = no_word a c there low e
      none true e = sym (machine.valid c low ∙ ap (λ o. by_option o (nat_lt 0 (state.owed c)) (λ a. is_raised ((down a).answers.valid c))) (of_agent a (state.owing c) e)) ∙ quiet

  -- what a cycle asks
  abbrev new : ℕ → List Asked
  new c = asked_of (only_if (takes up c) (marked_at up c))

  pub all_at : (p : Option ℕ) (t : Transfer) → place_of system host t ≡ p → (beats : List Beat) → All (λ (q : Asked). q.place ≡ p) (map (λ b. record { place = place_of system host t; beat = b }) beats)
  all_at p t e [] = All-nil (λ (q : Asked). q.place ≡ p)
  all_at p t e (b ∷ beats) = All-cons (λ (q : Asked). q.place ≡ p) (record { place = place_of system host t; beat = b }) (map (λ b. record { place = place_of system host t; beat = b }) beats) e (all_at p t e beats)

  new_none : (c : ℕ) → c < end → takes_read up c ≡ false → new c ≡ []
  new_none c low none = by_all (takes up c) (is_raised (up.commands.write c)) refl refl
    where
      by_all : (t w : Bool) → takes up c ≡ t → is_raised (up.commands.write c) ≡ w → new c ≡ []
      by_all false w t ww = rw t refl
      by_all true true t ww = rw (t, ww) refl
      by_all true false t ww =
          let shown = (and_parts (shows up.commands.signals c) (not (is_raised (up.commands.waitrequest c))) t).0 in
          let read : is_raised (up.commands.read c) ≡ true = left (is_raised (up.commands.read c)) (is_raised (up.commands.write c)) ww shown in
          let now : takes_read up c ≡ true = ap₂ (λ a b. a && b) t read in
          let bad : ⊥ = cc in
          absurd bad
        where
          left : (r w : Bool) → w ≡ false → (r || w) ≡ true → r ≡ true
          left true w e k = refl
          left false w e k = sym e ∙ k

  new_at : (c : ℕ) → c < end → takes_read up c ≡ true → All (λ (q : Asked). q.place ≡ at_place c) (new c)
  new_at c low read =
      let parts = and_parts (takes up c) (is_raised (up.commands.read c)) read in
      let at = place_is responses system host room up down state end machine legal single c low (inside_at responses system host room up down state end machine legal single c low) (shown_of responses system host room up down state end machine legal single c parts.0) in
      by_kind parts.0 (sym at) (is_of_reads (marked_at up c).transfer.kind) refl
    where
      by_kind : takes up c ≡ true → place_of system host (marked_at up c).transfer ≡ at_place c → (b : Bool) → is_of_reads (marked_at up c).transfer.kind ≡ b → All (λ (q : Asked). q.place ≡ at_place c) (new c)
      by_kind taken at b e = subst (λ t. All (λ (q : Asked). q.place ≡ at_place c) (asked_of (only_if t (marked_at up c)))) (sym taken)
          (subst (λ b. All (λ (q : Asked). q.place ≡ at_place c) (flat_map (λ (t : Transfer). map (λ b. record { place = place_of system host t; beat = b }) t.beats) (if b then (marked_at up c).transfer ∷ [] else []))) (sym e) (one b))
        where
          one : (b : Bool) → All (λ (q : Asked). q.place ≡ at_place c) (flat_map (λ (t : Transfer). map (λ b. record { place = place_of system host t; beat = b }) t.beats) (if b then (marked_at up c).transfer ∷ [] else []))
          one false = All-nil (λ (q : Asked). q.place ≡ at_place c)
          one true = All-append (λ (q : Asked). q.place ≡ at_place c) (map (λ b. record { place = place_of system host (marked_at up c).transfer; beat = b }) (marked_at up c).transfer.beats) [] (all_at (at_place c) (marked_at up c).transfer at (marked_at up c).transfer.beats) (All-nil (λ (q : Asked). q.place ≡ at_place c))

  -- what is owed behind a cycle is owed by the place that the register then names
  all_next : (c : ℕ) → suc c < end → (s : Splits c) → (rest : List Asked) → (length s.back ≡ 0 → rest ≡ []) → All (λ (q : Asked). q.place ≡ state.owing c) rest → All (λ (q : Asked). q.place ≡ state.owing (suc c)) (rest ++ new c)
  all_next c low s rest empty all = by_read (takes_read up c) refl
    where
      by_read : (b : Bool) → takes_read up c ≡ b → All (λ (q : Asked). q.place ≡ state.owing (suc c)) (rest ++ new c)
      by_read false e =
          let same : state.owing (suc c) ≡ state.owing c = machine.owes c low ∙ ap (λ t. if t then at_place c else state.owing c) e in
          subst (λ l. All (λ (q : Asked). q.place ≡ state.owing (suc c)) (rest ++ l)) (sym (new_none c (omega arith) e)) (subst (λ l. All (λ (q : Asked). q.place ≡ state.owing (suc c)) l) (sym (append-nil rest)) (subst (λ o. All (λ (q : Asked). q.place ≡ o) rest) (sym same) all))
      by_read true e =
          let now : state.owing (suc c) ≡ at_place c = machine.owes c low ∙ ap (λ t. if t then at_place c else state.owing c) e in
          subst (λ o. All (λ (q : Asked). q.place ≡ o) (rest ++ new c)) (sym now) (All-append (λ (q : Asked). q.place ≡ at_place c) rest (new c) (old (nat_eq (state.owed c) 0) (is_same_place (state.owing c) (at_place c)) refl refl gone) (new_at c (omega arith) e))
        where
          read_alone : (r w : Bool) → r ≡ true → not (r && w) ≡ true → w ≡ false
          read_alone true true e k = sym k
          read_alone true false e k = refl
          read_alone false w e k = cc

          gone : (nat_eq (state.owed c) 0 || is_same_place (state.owing c) (at_place c)) ≡ true
          gone =
              let parts = and_parts (takes up c) (is_raised (up.commands.read c)) e in
              let write = read_alone (is_raised (up.commands.read c)) (is_raised (up.commands.write c)) parts.1 (legal.legal.one_kind c (omega arith)) in
              sym (ap (λ w. w || nat_eq (state.owed c) 0 || is_same_place (state.owing c) (at_place c)) write) ∙ taken_open responses system host room up down state end machine legal single c (omega arith) parts.0

          old : (z t : Bool) → nat_eq (state.owed c) 0 ≡ z → is_same_place (state.owing c) (at_place c) ≡ t → (nat_eq (state.owed c) 0 || is_same_place (state.owing c) (at_place c)) ≡ true → All (λ (q : Asked). q.place ≡ at_place c) rest
          old true t z same some =
              let none = eqb-true (state.owed c) 0 z in
              let size = back_length c (omega arith) s in
              subst (λ l. All (λ (q : Asked). q.place ≡ at_place c) l) (sym (empty (size ∙ none))) (All-nil (λ (q : Asked). q.place ≡ at_place c))
          old false true z same some = subst (λ o. All (λ (q : Asked). q.place ≡ o) rest) (same_place (state.owing c) (at_place c) same) all
          old false false z same some = let bad : ⊥ = cc in absurd bad

  next_splits : (c : ℕ) → suc c < end → Splits c → Splits (suc c)
  next_splits c low s = by_valid (is_raised (up.answers.valid c)) refl s.back refl
    where
      now_low : c < end
      now_low = omega arith

      total : s.front ++ s.back ++ new c ≡ asked_taken (suc c)
      total = ap (λ l. l ++ new c) s.joins ∙ sym (asked_append (taken_at up c) (only_if (takes up c) (marked_at up c)))

      by_valid : (b : Bool) → is_raised (up.answers.valid c) ≡ b → (l : List Asked) → s.back ≡ l → Splits (suc c)
      by_valid false v l e =
          let still : words_at up (suc c) ≡ words_at up c = ap (λ b. words_at up c ++ only_if b (word_now c)) v ∙ append-nil (words_at up c) in
          record {
            front = s.front;
            back = s.back ++ new c;
            joins = sym (append_assoc s.front s.back (new c)) ∙ total;
            size = s.size ∙ ap length (sym still);
            all = all_next c low s s.back (λ none. empty_of s.back none) s.all;
            words = λ a there. words_still a c there now_low v ∙ s.words a there ∙ ap (λ ws. picked a (zip s.front ws)) (sym still);
          }
        where
          empty_of : (l : List Asked) → length l ≡ 0 → l ≡ []
          empty_of [] none = refl
          empty_of (q ∷ l) none = absurd (omega (arith, none))
      by_valid true v [] e =
          let few = word_few c now_low in
          let one : one_if (is_raised (up.answers.valid c)) ≡ 1 = ap one_if v in
          let size = back_length c now_low s in
          let none = ap length e in
          absurd (omega (arith, few, one, size, none))
      by_valid true v (q ∷ rest) e =
          let alls = subst (λ l. All (λ (q : Asked). q.place ≡ state.owing c) l) e s.all in
          let more : words_at up (suc c) ≡ words_at up c ++ word_now c ∷ [] = ap (λ b. words_at up c ++ only_if b (word_now c)) v in
          record {
            front = s.front ++ q ∷ [];
            back = rest ++ new c;
            joins = sym (append_assoc (s.front ++ q ∷ []) rest (new c)) ∙ ap (λ l. l ++ new c) (append_assoc s.front (q ∷ []) rest) ∙ ap (λ l. s.front ++ l ++ new c) (sym e) ∙ total;
            size = length-append s.front (q ∷ []) ∙ ap (λ n. n + 1) s.size ∙ sym (ap length more ∙ length-append (words_at up c) (word_now c ∷ []));
            all = all_next c low s rest (λ none. let bad = ap length e in absurd (omega (arith, none, bad))) (All-tail (λ (q : Asked). q.place ≡ state.owing c) q rest alls);
            words = λ a there. words_next a c there now_low s.front q s.size (All-head (λ (q : Asked). q.place ≡ state.owing c) q rest alls) v (s.words a there);
          }

  pub splits_at : (c : ℕ) → c < end → Splits c
  splits_at zero low = record { front = []; back = []; joins = refl; size = refl; all = All-nil (λ (q : Asked). q.place ≡ state.owing 0); words = λ a there. refl }
  splits_at (suc c) low = next_splits c low (splits_at c (omega arith))

  -- ---- a given word is the right one

  pub asked_front : (c : ℕ) → c < end → IsPrefix (asked_taken c) (asked_at system host up (suc c))
  asked_front c low = prefix_flat_map _ (prefix_filter _ (prefix_map _ (prefix_trans (taken_is_shown up end c legal (omega arith)) (before_extends _ c))))

  ops_length : (a : ℕ) (beats : List Beat) → length (flat_map (placed_operations system host a) beats) ≡ length (flat_map (λ (b : Beat). filled_lanes up.shape (system.agent a).shape b.enables) beats)
  ops_length a [] = refl
  ops_length a (b ∷ beats) =
      length-append (placed_operations system host a b) (flat_map (placed_operations system host a) beats)
      ∙ ap₂ (λ x y. x + y) (length-map (filled_lanes (system.host host).shape (system.agent a).shape b.enables) _ ∙ ap (λ w. length (filled_lanes (record { word_bytes = w; unit_bytes = 0; burst_bits = 0; has_enables = true }) (system.agent a).shape b.enables)) (sym plan.words)) (ops_length a beats)
      ∙ sym (length-append (filled_lanes up.shape (system.agent a).shape b.enables) (flat_map (λ (b : Beat). filled_lanes up.shape (system.agent a).shape b.enables) beats))

  reads_are : (a : ℕ) (qs : List Asked) → flat_map (λ (q : Asked). placed_operations system host a q.beat) (of_place a qs) ≡ flat_map (placed_operations system host a) (beats_of_place a qs)
  reads_are a qs = over (of_place a qs)
    where
      over : (l : List Asked) → flat_map (λ (q : Asked). placed_operations system host a q.beat) l ≡ flat_map (placed_operations system host a) (map (λ (q : Asked). q.beat) l)
      over [] = refl
      over (q ∷ l) = ap (λ r. placed_operations system host a q.beat ++ r) (over l)

  -- of the answers of a place, those of the next word stand behind those of the earlier ones
  own_answers : (a c : ℕ) → a < system.agents → c < end → (front : List Asked) (q : Asked) (rest : List Asked) → front ++ q ∷ rest ≡ asked_taken c → length front ≡ length (words_at up c) → is_agent a q.place ≡ true →
      words_at (down a) c ≡ picked a (zip front (words_at up c)) → (w : Word) → words_at (down a) (suc c) ≡ words_at (down a) c ++ w ∷ [] →
      drop (reads_for system host a front) (answers_at (target_of system a) (down a) (suc c)) ≡ bytes_in (target_of system a) up.shape q.beat w
  own_answers a c there low front q rest joins size it words w more =
      ap₂ drop count all ∙ drop-append_seam (flat_map (λ (p : Beat × Word). bytes_in (target_of system a) up.shape p.0 p.1) (zip (read_beats (taken_at (down a) (suc c))) (words_at (down a) c))) (bytes_in (target_of system a) up.shape q.beat w)
    where
      beats_now : read_beats (taken_at (down a) c) ≡ beats_of_place a front ++ q.beat ∷ beats_of_place a rest
      beats_now =
          ap read_beats (taken_same responses system host room up down state end machine legal single plan below early a c there (omega arith)) ∙ beats_are system host a up.shape plan (taken_at up c)
          ∙ ap (beats_of_place a) (sym joins) ∙ beats_append a front (q ∷ rest) ∙ ap (λ b. beats_of_place a front ++ map (λ (q : Asked). q.beat) (if b then q ∷ of_place a rest else of_place a rest)) it

      later : IsPrefix (read_beats (taken_at (down a) c)) (read_beats (taken_at (down a) (suc c)))
      later = prefix_flat_map _ (prefix_filter _ (before_extends _ c))

      number : length (words_at (down a) c) ≡ length (beats_of_place a front)
      number = ap length words ∙ picked_length a front (words_at up c) size

      got : slice_get (read_beats (taken_at (down a) (suc c))) (length (words_at (down a) c)) ≡ Some q.beat
      got = ap (slice_get (read_beats (taken_at (down a) (suc c)))) number
          ∙ prefix_get later (length (beats_of_place a front)) q.beat (ap (λ l. slice_get l (length (beats_of_place a front))) beats_now ∙ get_middle (beats_of_place a front) q.beat (beats_of_place a rest))

      all : answers_at (target_of system a) (down a) (suc c) ≡ flat_map (λ (p : Beat × Word). bytes_in (target_of system a) up.shape p.0 p.1) (zip (read_beats (taken_at (down a) (suc c))) (words_at (down a) c)) ++ bytes_in (target_of system a) up.shape q.beat w
      all =
          ap₂ (λ s ws. flat_map (λ (p : Beat × Word). bytes_in (target_of system a) s p.0 p.1) (zip (read_beats (taken_at (down a) (suc c))) ws)) (machine.shapes a there) more
          ∙ zip_push (λ (p : Beat × Word). bytes_in (target_of system a) up.shape p.0 p.1) (read_beats (taken_at (down a) (suc c))) (words_at (down a) c) w q.beat got

      taken_front : take (length (words_at (down a) c)) (read_beats (taken_at (down a) (suc c))) ≡ beats_of_place a front
      taken_front =
          ap (λ n. take n (read_beats (taken_at (down a) (suc c)))) number
          ∙ prefix_take later (length (beats_of_place a front)) (let sum = ap length beats_now ∙ length-append (beats_of_place a front) (q.beat ∷ beats_of_place a rest) in omega (arith, sum))
          ∙ ap (take (length (beats_of_place a front))) beats_now ∙ take-append_seam (beats_of_place a front) (q.beat ∷ beats_of_place a rest)

      count : reads_for system host a front ≡ length (flat_map (λ (p : Beat × Word). bytes_in (target_of system a) up.shape p.0 p.1) (zip (read_beats (taken_at (down a) (suc c))) (words_at (down a) c)))
      count =
          ap length (reads_are a front) ∙ ops_length a (beats_of_place a front) ∙ ap (λ l. length (flat_map (λ (b : Beat). filled_lanes up.shape (system.agent a).shape b.enables) l)) (sym taken_front)
          ∙ sym (zip_length (λ (p : Beat × Word). bytes_in (target_of system a) up.shape p.0 p.1) (λ (b : Beat). filled_lanes up.shape (system.agent a).shape b.enables) (λ b v. length-map (filled_lanes up.shape (system.agent a).shape b.enables) _) (read_beats (taken_at (down a) (suc c))) (words_at (down a) c))

  pub routed : (c : ℕ) → c < end → IsTrue (is_raised (up.answers.valid c)) →
      IsRouted system host up down c (length (words_at up c)) (word_now c) (slice_get (asked_at system host up (suc c)) (length (words_at up c)))
  routed c low valid = by_back (splits_at c low).back refl
    where
      s : Splits c
      s = splits_at c low

      by_back : (l : List Asked) → (splits_at c low).back ≡ l → IsRouted system host up down c (length (words_at up c)) (word_now c) (slice_get (asked_at system host up (suc c)) (length (words_at up c)))
      by_back [] e =
          let few = word_few c low in
          let one : one_if (is_raised (up.answers.valid c)) ≡ 1 = ap one_if valid in
          let size = back_length c low (splits_at c low) in
          let none = ap length e in
          absurd (omega (arith, few, one, size, none))
      by_back (q ∷ rest) e =
          let joins : s.front ++ q ∷ rest ≡ asked_taken c = ap (λ l. s.front ++ l) (sym e) ∙ s.joins in
          let at : q.place ≡ state.owing c = All-head (λ (q : Asked). q.place ≡ state.owing c) q rest (subst (λ l. All (λ (q : Asked). q.place ≡ state.owing c) l) e s.all) in
          let got : slice_get (asked_at system host up (suc c)) (length (words_at up c)) ≡ Some q =
          ap (slice_get (asked_at system host up (suc c))) (sym s.size) ∙ prefix_get (asked_front c low) (length s.front) q (ap (λ l. slice_get l (length s.front)) (sym joins) ∙ get_middle s.front q rest) in
          subst (λ o. IsRouted system host up down c (length (words_at up c)) (word_now c) o) (sym got) (by_place q rest joins at (state.owing c) refl)
        where
          by_place : (q : Asked) (rest : List Asked) → s.front ++ q ∷ rest ≡ asked_taken c → q.place ≡ state.owing c → (o : Option ℕ) → state.owing c ≡ o → IsRouted system host up down c (length (words_at up c)) (word_now c) (Some q)
          by_place q rest joins at None owes =
              let word : up.answers.word c ≡ 0 = machine.answer c low valid ∙ ap (λ o. by_option o 0 (λ a. (down a).answers.word c)) owes in
              subst (λ o. MatchOption o (IsDefaultWord (system.host host) q.beat (word_now c)) (λ a. HoldsAnswers (filled_lanes (system.host host).shape (system.agent a).shape q.beat.enables) (drop (reads_for system host a (take (length (words_at up c)) (asked_at system host up (suc c)))) (answers_at (target_of system a) (down a) (suc c))) (word_now c))) (sym (at ∙ owes))
              (ap (λ w. list_all (λ lane. nat_eq (byte_at w lane) 0) (filter (is_enabled q.beat.enables) (numbers 0 (system.host host).word_bytes))) word ∙ default_word q.beat.enables (filter (is_enabled q.beat.enables) (numbers 0 (system.host host).word_bytes)))
          by_place q rest joins at (Some a) owes =
              let there = (debts c low).known a owes in
              let self : is_agent a (state.owing c) ≡ true = at_agent a (state.owing c) owes in
              let it : is_agent a q.place ≡ true = ap (is_agent a) at ∙ self in
              let here : is_raised ((down a).answers.valid c) ≡ true = sym (machine.valid c low ∙ ap (λ o. by_option o (nat_lt 0 (state.owed c)) (λ a. is_raised ((down a).answers.valid c))) owes) ∙ valid in
              let w : Word = record { word = (down a).answers.word c; code = (down a).answers.code c } in
              let more : words_at (down a) (suc c) ≡ words_at (down a) c ++ w ∷ [] = ap (λ b. words_at (down a) c ++ only_if b w) here in
              let own = own_answers a c there low s.front q rest joins s.size it (s.words a there) w more in
              let front : take (length (words_at up c)) (asked_at system host up (suc c)) ≡ s.front =
              ap (λ n. take n (asked_at system host up (suc c))) (sym s.size) ∙ prefix_take (asked_front c low) (length s.front) (let sum = sym (ap length joins) ∙ length-append s.front (q ∷ rest) in omega (arith, sum)) ∙ ap (take (length s.front)) (sym joins) ∙ take-append_seam s.front (q ∷ rest) in
              let word : up.answers.word c ≡ (down a).answers.word c = machine.answer c low valid ∙ ap (λ o. by_option o 0 (λ a. (down a).answers.word c)) owes in
              let lanes : filled_lanes (system.host host).shape (system.agent a).shape q.beat.enables ≡ filled_lanes up.shape (system.agent a).shape q.beat.enables =
              ap (λ w. filled_lanes (record { word_bytes = w; unit_bytes = 0; burst_bits = 0; has_enables = true }) (system.agent a).shape q.beat.enables) (sym plan.words) in
              let holds : HoldsAnswers (filled_lanes up.shape (system.agent a).shape q.beat.enables) (bytes_in (target_of system a) up.shape q.beat w) (word_now c) =
              record { enough = le_of_eq (sym (length-map (filled_lanes up.shape (system.agent a).shape q.beat.enables) (answer_of w))); bytes = ap (λ v. map (byte_at v) (filled_lanes up.shape (system.agent a).shape q.beat.enables)) word ∙ own_bytes w (filled_lanes up.shape (system.agent a).shape q.beat.enables) } in
              subst (λ o. MatchOption o (IsDefaultWord (system.host host) q.beat (word_now c)) (λ a. HoldsAnswers (filled_lanes (system.host host).shape (system.agent a).shape q.beat.enables) (drop (reads_for system host a (take (length (words_at up c)) (asked_at system host up (suc c)))) (answers_at (target_of system a) (down a) (suc c))) (word_now c))) (sym (at ∙ owes))
              (subst (λ l. HoldsAnswers l (drop (reads_for system host a (take (length (words_at up c)) (asked_at system host up (suc c)))) (answers_at (target_of system a) (down a) (suc c))) (word_now c)) (sym lanes)
              (subst (λ l. HoldsAnswers (filled_lanes up.shape (system.agent a).shape q.beat.enables) (drop (reads_for system host a l) (answers_at (target_of system a) (down a) (suc c))) (word_now c)) (sym front)
              (subst (λ l. HoldsAnswers (filled_lanes up.shape (system.agent a).shape q.beat.enables) l (word_now c)) (sym own) holds)))
