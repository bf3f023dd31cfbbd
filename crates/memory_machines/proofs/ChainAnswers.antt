-- Two links in a row bring answers back as one link.
use Rattle.std.proofs.Common.{ℕ, zero, suc, ◌<◌, ◌≤◌, ◌≡◌, ◌+◌, ◌-◌, [], ◌∷◌, ◌++◌, List, true, false, IsTrue, arith, refl, sym, ap, ap₂, ◌∙◌, subst, append_assoc, append-nil, length, map, flat_map, take, drop, zip, MatchOption, inl, inr, take-append-drop, length-append, length-drop}
use Rattle.std.proofs.lemmas.List.{map-append, length-map, drop_at, take-map, drop-map}
use Rattle.std.proofs.lemmas.Bool.{cases_Bool}
use Rattle.memory_machines.proofs.Laws.{middle_legal, middle_owed, chain_owed}
use Rattle.histories.specs.Laws.{prefix_trans, prefix_map, prefix_flat_map, before_extends}
use Rattle.memory_machines.proofs.Wire.{Asks, asks_of, asked_shown, asked_taken}
use Rattle.histories.specs.History.{IsPrefix, is_raised}
use Rattle.memory_runs.specs.Laws.{taken_ahead}
use Rattle.memory_runs.specs.Operations.{Beat, filled_lanes, byte_at}
use Rattle.memory_runs.specs.Legal.{Word}
use Rattle.memory_runs.specs.Order.{Answer, HoldsAnswers}
use Rattle.memory_machines.specs.Link.{Target, Port, CarriesAnswers, AreLegalAt, AnswersAreOwed, taken_at, shown_at, read_beats, words_at, words_owed, answers_at, bytes_in, reads_of, beat_operations, IsAnswered, own_answers, HasGreatestCode, HasRightBytes, KeepsLinkLaw}
use Rattle.memory_machines.specs.Lines.{bytes_of}
use Rattle.memory_machines.specs.SideLaws.{zip_push, zip_length, prefix_get, prefix_take, same_counts, zip_front}

-- new answers that are the next of the others keep a front a front
front_grows : (some new others : List Answer) → IsPrefix (bytes_of some) (bytes_of others) → bytes_of new ≡ bytes_of (take (length new) (drop (length some) others)) →
    IsPrefix (bytes_of (some ++ new)) (bytes_of others)
front_grows some new others p next =
    let behind : bytes_of (drop (length some) others) ≡ p.rest =
    sym (drop-map (λ (a : Answer). a.byte) (length some) others) ∙ ap (λ l. drop (length some) l) (sym p.joins) ∙ drop_at (bytes_of some) p.rest (length some) (length-map some _) in
    let fresh : bytes_of new ≡ take (length new) p.rest = next ∙ sym (take-map (λ (a : Answer). a.byte) (length new) (drop (length some) others)) ∙ ap (λ l. take (length new) l) behind in
    record {
      rest = drop (length new) p.rest;
      joins = ap (λ l. l ++ drop (length new) p.rest) (map-append (λ (a : Answer). a.byte) some new ∙ ap (λ l. bytes_of some ++ l) fresh)
          ∙ append_assoc (bytes_of some) (take (length new) p.rest) (drop (length new) p.rest)
          ∙ ap (λ l. bytes_of some ++ l) (take-append-drop (length new) p.rest) ∙ p.joins;
    }

zip_grows : {A B : Type 0} (xs more : List A) (ws further : List B) → IsPrefix (zip xs ws) (zip (xs ++ more) (ws ++ further))
zip_grows [] more ws further = record { rest = zip more (ws ++ further); joins = refl }
zip_grows (x ∷ xs) more [] further = record { rest = zip (x ∷ (xs ++ more)) further; joins = refl }
zip_grows (x ∷ xs) more (w ∷ ws) further =
    let tail = zip_grows xs more ws further in
    record { rest = tail.rest; joins = ap (λ l. (x, w) ∷ l) tail.joins }

zip_prefix : {A B : Type 0} {xs xs' : List A} {ws ws' : List B} → IsPrefix xs xs' → IsPrefix ws ws' → IsPrefix (zip xs ws) (zip xs' ws')
zip_prefix {A} {B} {xs} {xs'} {ws} {ws'} p q =
    subst (λ l. IsPrefix (zip xs ws) (zip l ws')) p.joins (subst (λ l. IsPrefix (zip xs ws) (zip (xs ++ p.rest) l)) q.joins (zip_grows xs p.rest ws q.rest))

-- answers only grow
pub answers_extend : (target : Target) (port : Port) (c : ℕ) → IsPrefix (answers_at target port c) (answers_at target port (suc c))
answers_extend target port c = prefix_flat_map _ (zip_prefix (asked_taken port c) (before_extends _ c))

-- beats of later cycles don't change the answers of words that have come
same_answers : (target : Target) (port : Port) (c : ℕ) → length (words_at port c) ≤ length (read_beats (taken_at port c)) →
    flat_map (λ (p : Beat × Word). bytes_in target port.shape p.0 p.1) (zip (read_beats (taken_at port (suc c))) (words_at port c)) ≡ answers_at target port c
same_answers target port c h =
    let later = asked_taken port c in
    ap (λ l. flat_map (λ (p : Beat × Word). bytes_in target port.shape p.0 p.1) (zip l (words_at port c))) (sym later.joins)
    ∙ ap (λ l. flat_map (λ (p : Beat × Word). bytes_in target port.shape p.0 p.1) l) (zip_front (read_beats (taken_at port c)) later.rest (words_at port c) h)

bytes_of_lanes : (target : Target) (given : Word) (lanes : List ℕ) →
    bytes_of (map (λ lane. record { tag = 0; byte = byte_at given.word lane; code = given.code }) lanes) ≡ map (byte_at given.word) lanes
bytes_of_lanes target given [] = refl
bytes_of_lanes target given (lane ∷ lanes) = ap (λ l. byte_at given.word lane ∷ l) (bytes_of_lanes target given lanes)

-- the answers of one cycle more
quiet_answers : (target : Target) (port : Port) (end c : ℕ) → AnswersAreOwed port end → c < end → is_raised (port.answers.valid c) ≡ false →
    answers_at target port (suc c) ≡ answers_at target port c
quiet_answers target port end c owed h quiet =
    let same : words_at port (suc c) ≡ words_at port c = rw quiet (append-nil (words_at port c)) in
    let few : length (words_at port (suc c)) ≤ words_owed port c =
    subst (λ n. n ≤ words_owed port c) (same_counts (λ c. is_raised (port.answers.valid c)) (λ c. c) (λ c. record { word = port.answers.word c; code = port.answers.code c }) (suc c)) (owed c h) in
    let within : length (words_at port c) ≤ length (read_beats (taken_at port c)) = subst (λ l. length l ≤ words_owed port c) same few in
    ap (λ ws. flat_map (λ (p : Beat × Word). bytes_in target port.shape p.0 p.1) (zip (read_beats (taken_at port (suc c))) ws)) same ∙ same_answers target port c within

valid_answers : (target : Target) (port : Port) (c : ℕ) (asks : Asks port c) →
    answers_at target port (suc c) ≡ answers_at target port c ++ bytes_in target port.shape asks.beat (record { word = port.answers.word c; code = port.answers.code c })
valid_answers target port c asks =
    ap (λ ws. flat_map (λ (p : Beat × Word). bytes_in target port.shape p.0 p.1) (zip (read_beats (taken_at port (suc c))) ws)) asks.word
    ∙ zip_push (λ (p : Beat × Word). bytes_in target port.shape p.0 p.1) (read_beats (taken_at port (suc c))) (words_at port c) _ asks.beat
    (prefix_get (asked_taken port c) (length (words_at port c)) asks.beat asks.got)
    ∙ ap (λ l. l ++ bytes_in target port.shape asks.beat (record { word = port.answers.word c; code = port.answers.code c })) (same_answers target port c (omega (arith, asks.within)))

-- how many read operations came before the beat that the next word is for
pub reads_before : (target : Target) (port : Port) (end c : ℕ) → AreLegalAt port end → c < end → (asks : Asks port c) →
    reads_of target port.shape (take (length (words_at port c)) (read_beats (shown_at port (suc c)))) ≡ length (answers_at target port c)
reads_before target port end c legal h asks =
    ap (λ l. reads_of target port.shape l) (prefix_take (asked_shown port end c legal h) (length (words_at port c)) (omega (arith, asks.within)))
    ∙ sym (zip_length (λ (p : Beat × Word). bytes_in target port.shape p.0 p.1) (beat_operations target port.shape)
    (λ x w. length-map (filled_lanes port.shape target.shape x.enables) _ ∙ sym (length-map (filled_lanes port.shape target.shape x.enables) _)) (read_beats (taken_at port c)) (words_at port c))

-- what a link says of the word that comes
pub answered_beat : (target : Target) (up down : Port) (end c : ℕ) → AreLegalAt up end → c < end → (asks : Asks up c) → IsAnswered target up down (length (words_at up c)) c →
    HoldsAnswers (filled_lanes up.shape target.shape asks.beat.enables) (own_answers target up down (length (words_at up c)) c) (record { word = up.answers.word c; code = up.answers.code c })
answered_beat target up down end c legal h asks answered =
    (subst (λ o. MatchOption o ⊥ (λ beat.
    HoldsAnswers (filled_lanes up.shape target.shape beat.enables) (own_answers target up down (length (words_at up c)) c) (record { word = up.answers.word c; code = up.answers.code c })
    × HasGreatestCode (filled_lanes up.shape target.shape beat.enables) (own_answers target up down (length (words_at up c)) c) (record { word = up.answers.word c; code = up.answers.code c })))
    (prefix_get (asked_shown up end c legal h) (length (words_at up c)) asks.beat asks.got) answered).0

module _ (target : Target) (middle down : Port) (end : ℕ) (legal : AreLegalAt middle end) (owed : AnswersAreOwed middle end) (carries : CarriesAnswers target middle down end) where
  valid_step : (c : ℕ) → c < end → is_raised (middle.answers.valid c) ≡ true → IsPrefix (bytes_of (answers_at target middle c)) (bytes_of (answers_at target down (suc c))) →
      IsPrefix (bytes_of (answers_at target middle (suc c))) (bytes_of (answers_at target down (suc c)))
  valid_step c h valid earlier =
      let asks = asks_of middle end c owed h valid in
      let given : Word = record { word = middle.answers.word c; code = middle.answers.code c } in
      let lanes = filled_lanes middle.shape target.shape asks.beat.enables in
      let holds = answered_beat target middle down end c legal h asks (carries.answered c h valid) in
      let next : bytes_of (bytes_in target middle.shape asks.beat given) ≡ bytes_of (take (length (bytes_in target middle.shape asks.beat given)) (drop (length (answers_at target middle c)) (answers_at target down (suc c)))) =
      bytes_of_lanes target given lanes ∙ holds.bytes
      ∙ ap₂ (λ n r. bytes_of (take n (drop r (answers_at target down (suc c))))) (sym (length-map lanes _)) (reads_before target middle end c legal h asks) in
      subst (λ l. IsPrefix (bytes_of l) (bytes_of (answers_at target down (suc c)))) (sym (valid_answers target middle c asks))
      (front_grows (answers_at target middle c) (bytes_in target middle.shape asks.beat given) (answers_at target down (suc c)) earlier next)

  -- the bytes answered in the middle are the first of those answered below
  pub bytes_below : (c : ℕ) → c ≤ end → IsPrefix (bytes_of (answers_at target middle c)) (bytes_of (answers_at target down c))
  bytes_below zero h = record { rest = _; joins = refl }
  bytes_below (suc c) h =
      let grown = prefix_trans (bytes_below c (omega arith)) (prefix_map (λ (a : Answer). a.byte) (answers_extend target down c)) in
      elim (cases_Bool (is_raised (middle.answers.valid c))) [
        | inl valid ↦ valid_step c (omega arith) valid grown
        | inr quiet ↦ subst (λ l. IsPrefix (bytes_of l) (bytes_of (answers_at target down (suc c)))) (sym (quiet_answers target middle end c owed (omega arith) quiet)) grown
      ]

-- answers that hold a word hold it as far as a longer list begins with them
pub holds_below : (lanes : List ℕ) (n : ℕ) (some others : List Answer) (given : Word) → IsPrefix (bytes_of some) (bytes_of others) →
    HoldsAnswers lanes (drop n some) given → HoldsAnswers lanes (drop n others) given
holds_below lanes n some others given p holds =
    let there : length lanes ≤ length (drop n (bytes_of some)) = rw (drop-map (λ (a : Answer). a.byte) n some, length-map (drop n some) (λ (a : Answer). a.byte)) holds.enough in
    let same : take (length lanes) (drop n (bytes_of some ++ p.rest)) ≡ take (length lanes) (drop n (bytes_of some)) = taken_ahead (bytes_of some) p.rest n (length lanes) there in
    let flat = λ (l : List Answer). take-map (λ (a : Answer). a.byte) (length lanes) (drop n l) in
    let flat_drop = λ (l : List Answer). ap (λ k. take (length lanes) k) (drop-map (λ (a : Answer). a.byte) n l) in
    let longer : length (bytes_of some) + length p.rest ≡ length others = sym (length-append (bytes_of some) p.rest) ∙ ap length p.joins ∙ length-map others _ in
    let own : length (bytes_of some) ≡ length some = length-map some _ in
    record {
      enough = simp length-drop (let few : length lanes ≤ length some - n = subst (λ k. length lanes ≤ k) (length-drop n some) holds.enough in omega (arith, few, longer, own));
      bytes = holds.bytes ∙ sym (flat some) ∙ sym (flat_drop some) ∙ sym same ∙ ap (λ l. take (length lanes) (drop n l)) p.joins ∙ flat_drop others ∙ flat others;
    }

-- two links in a row answer with the right bytes
pub chain_answered : (target : Target) (up middle down : Port) (end : ℕ) → AreLegalAt up end → AreLegalAt middle end → AnswersAreOwed up end → AnswersAreOwed middle end →
    CarriesAnswers target up middle end → CarriesAnswers target middle down end →
    (c : ℕ) → c < end → IsTrue (is_raised (up.answers.valid c)) → (asks : Asks up c) →
    HoldsAnswers (filled_lanes up.shape target.shape asks.beat.enables) (own_answers target up down (length (words_at up c)) c) (record { word = up.answers.word c; code = up.answers.code c })
chain_answered target up middle down end legal legal_there owed owed_there first second c h valid asks =
    holds_below (filled_lanes up.shape target.shape asks.beat.enables) (reads_of target up.shape (take (length (words_at up c)) (read_beats (shown_at up (suc c)))))
    (answers_at target middle (suc c)) (answers_at target down (suc c)) _
    (bytes_below target middle down end legal_there owed_there second (suc c) (omega arith))
    (answered_beat target up middle end c legal h asks (first.answered c h valid))

-- the law of links gives it
pub chain_bytes : (target : Target) (first_hold second_hold : ℕ) (up middle down : Port) (end : ℕ) → KeepsLinkLaw target first_hold up middle end → KeepsLinkLaw target second_hold middle down end →
    AreLegalAt up end → AnswersAreOwed down end → (c : ℕ) → c < end → IsTrue (is_raised (up.answers.valid c)) → HasRightBytes target up down (length (words_at up c)) c
chain_bytes target first_hold second_hold up middle down end first second legal owed c h valid =
    let legal_there : AreLegalAt middle end = middle_legal target first_hold second_hold up middle down end first second end (omega arith) legal (λ k low. owed k (omega arith)) in
    let owed_there : AnswersAreOwed middle end = middle_owed target first_hold second_hold up middle down end first second end (omega arith) legal owed in
    let owed_up : AnswersAreOwed up end = chain_owed target first_hold second_hold up middle down end first second end (omega arith) legal owed in
    let asks = asks_of up end c owed_up h valid in
    subst (λ o. MatchOption o ⊥ (λ beat.
    HoldsAnswers (filled_lanes up.shape target.shape beat.enables) (own_answers target up down (length (words_at up c)) c)
    (record { word = up.answers.word c; code = up.answers.code c })))
    (sym (prefix_get (asked_shown up end c legal h) (length (words_at up c)) asks.beat asks.got))
    (chain_answered target up middle down end legal legal_there owed_up owed_there (first.answers end (omega arith) legal owed_there) (second.answers end (omega arith) legal_there owed) c h valid asks)
