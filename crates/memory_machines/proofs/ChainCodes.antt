-- Codes of words over two links: as far as answers have come in the middle, each code is the greatest of those below.
use Rattle.std.proofs.Common.{ℕ, zero, suc, ◌<◌, ◌≤◌, ◌≡◌, [], ◌∷◌, ◌++◌, List, true, false, arith, refl, sym, ap, ap₂, ◌∙◌, subst, append-nil, length, map, flat_map, take, drop, zip, replicate, fold, max, MatchOption, inl, inr, length-append}
use Rattle.std.proofs.lemmas.List.{map-append, length-map, take-map, drop-map}
use Rattle.std.proofs.lemmas.Bool.{cases_Bool}
use Rattle.histories.specs.Laws.{prefix_map}
use Rattle.memory_machines.proofs.Wire.{Asks, asks_of, asked_shown, asked_taken}
use Rattle.memory_machines.proofs.ChainAnswers.{answers_extend, reads_before, bytes_below}
use Rattle.memory_machines.proofs.Greatest.{greatest_grows, greatest_push, length_flat}
use Rattle.memory_machines.specs.Blocks.{flat, sizes_of, highest, AreGreatest, codes_of, block, blocks_at}
use Rattle.histories.specs.History.{is_raised, total}
use Rattle.memory_runs.specs.Operations.{Beat, filled_lanes, byte_at}
use Rattle.memory_runs.specs.Legal.{Word}
use Rattle.memory_runs.specs.Order.{Answer, HoldsAnswers, greatest_code}
use Rattle.memory_machines.specs.Link.{Target, Port, CarriesAnswers, AreLegalAt, AnswersAreOwed, taken_at, shown_at, read_beats, words_at, words_owed, answers_at, bytes_in, reads_of, IsAnswered, own_answers, HasGreatestCode}
use Rattle.memory_machines.specs.SideLaws.{zip_push, prefix_get, same_counts, zip_front}

greatest_is_highest : (answers : List Answer) (n : ℕ) → fold (λ code (a : Answer). max code a.code) n answers ≡ max n (highest (codes_of answers))
greatest_is_highest [] n = omega arith
greatest_is_highest (a ∷ answers) n = let rest = greatest_is_highest answers (max n a.code) in omega (arith, rest)

pub highest_of : (answers : List Answer) → greatest_code answers ≡ highest (codes_of answers)
highest_of answers = let all = greatest_is_highest answers 0 in omega (arith, all)

module _ (target : Target) (port : Port) where
  lane_codes : (given : Word) (lanes : List ℕ) → codes_of (map (λ lane. record { tag = 0; byte = byte_at given.word lane; code = given.code }) lanes) ≡ replicate (length lanes) given.code
  lane_codes given [] = refl
  lane_codes given (lane ∷ lanes) = ap (λ l. given.code ∷ l) (lane_codes given lanes)

  codes_flat : (pairs : List (Beat × Word)) → codes_of (flat_map (λ (p : Beat × Word). bytes_in target port.shape p.0 p.1) pairs) ≡ flat (flat_map (block target port) pairs)
  codes_flat [] = refl
  codes_flat (p ∷ pairs) =
      map-append (λ (a : Answer). a.code) (bytes_in target port.shape p.0 p.1) (flat_map (λ (p : Beat × Word). bytes_in target port.shape p.0 p.1) pairs)
      ∙ ap₂ (λ x y. x ++ y) (lane_codes p.1 (filled_lanes port.shape target.shape p.0.enables)) (codes_flat pairs)

  pub answer_codes : (c : ℕ) → codes_of (answers_at target port c) ≡ flat (blocks_at target port c)
  answer_codes c = codes_flat (zip (read_beats (taken_at port c)) (words_at port c))

  pub total_blocks : (c : ℕ) → total (sizes_of (blocks_at target port c)) ≡ length (answers_at target port c)
  total_blocks c = sym (length_flat (blocks_at target port c)) ∙ ap length (sym (answer_codes c)) ∙ length-map (answers_at target port c) _

  same_blocks : (c : ℕ) → length (words_at port c) ≤ length (read_beats (taken_at port c)) → flat_map (block target port) (zip (read_beats (taken_at port (suc c))) (words_at port c)) ≡ blocks_at target port c
  same_blocks c h =
      let later = asked_taken port c in
      ap (λ l. flat_map (block target port) (zip l (words_at port c))) (sym later.joins) ∙ ap (flat_map (block target port)) (zip_front (read_beats (taken_at port c)) later.rest (words_at port c) h)

  quiet_blocks : (end c : ℕ) → AnswersAreOwed port end → c < end → is_raised (port.answers.valid c) ≡ false → blocks_at target port (suc c) ≡ blocks_at target port c
  quiet_blocks end c owed h quiet =
      let same : words_at port (suc c) ≡ words_at port c = rw quiet (append-nil (words_at port c)) in
      let few : length (words_at port (suc c)) ≤ words_owed port c =
      subst (λ n. n ≤ words_owed port c) (same_counts (λ c. is_raised (port.answers.valid c)) (λ c. c) (λ c. record { word = port.answers.word c; code = port.answers.code c }) (suc c)) (owed c h) in
      let within : length (words_at port c) ≤ length (read_beats (taken_at port c)) = subst (λ l. length l ≤ words_owed port c) same few in
      ap (λ ws. flat_map (block target port) (zip (read_beats (taken_at port (suc c))) ws)) same ∙ same_blocks c within

  valid_blocks : (c : ℕ) (asks : Asks port c) → blocks_at target port (suc c) ≡ blocks_at target port c ++ block target port (asks.beat, record { word = port.answers.word c; code = port.answers.code c })
  valid_blocks c asks =
      ap (λ ws. flat_map (block target port) (zip (read_beats (taken_at port (suc c))) ws)) asks.word
      ∙ zip_push (block target port) (read_beats (taken_at port (suc c))) (words_at port c) _ asks.beat (prefix_get (asked_taken port c) (length (words_at port c)) asks.beat asks.got)
      ∙ ap (λ l. l ++ block target port (asks.beat, record { word = port.answers.word c; code = port.answers.code c })) (same_blocks c (omega (arith, asks.within)))

pub answered_code : (target : Target) (up down : Port) (end c : ℕ) → AreLegalAt up end → c < end → (asks : Asks up c) → IsAnswered target up down (length (words_at up c)) c →
    HasGreatestCode (filled_lanes up.shape target.shape asks.beat.enables) (own_answers target up down (length (words_at up c)) c) (record { word = up.answers.word c; code = up.answers.code c })
answered_code target up down end c legal h asks answered =
    (subst (λ o. MatchOption o ⊥ (λ beat.
    HoldsAnswers (filled_lanes up.shape target.shape beat.enables) (own_answers target up down (length (words_at up c)) c) (record { word = up.answers.word c; code = up.answers.code c })
    × HasGreatestCode (filled_lanes up.shape target.shape beat.enables) (own_answers target up down (length (words_at up c)) c) (record { word = up.answers.word c; code = up.answers.code c })))
    (prefix_get (asked_shown up end c legal h) (length (words_at up c)) asks.beat asks.got) answered).1

-- the codes of some of the answers
pub codes_within : (n r : ℕ) (answers : List Answer) → codes_of (take n (drop r answers)) ≡ take n (drop r (codes_of answers))
codes_within n r answers = sym (take-map (λ (a : Answer). a.code) n (drop r answers)) ∙ ap (take n) (sym (drop-map (λ (a : Answer). a.code) r answers))

module _ (target : Target) (middle down : Port) (end : ℕ) (legal : AreLegalAt middle end) (owed : AnswersAreOwed middle end) (carries : CarriesAnswers target middle down end) where
  -- as far as answers have come in the middle, they have come below
  pub enough_below : (c : ℕ) → c ≤ end → total (sizes_of (blocks_at target middle c)) ≤ length (codes_of (answers_at target down c))
  enough_below c h =
      let p = bytes_below target middle down end legal owed carries c h in
      let bytes = ap length p.joins in
      let split = length-append (map (λ (a : Answer). a.byte) (answers_at target middle c)) p.rest in
      let mine = length-map (answers_at target middle c) (λ (a : Answer). a.byte) in
      let theirs = length-map (answers_at target down c) (λ (a : Answer). a.byte) in
      let codes = length-map (answers_at target down c) (λ (a : Answer). a.code) in
      let sum = total_blocks target middle c in
      omega (arith, bytes, split, mine, theirs, codes, sum)

  pub middle_greatest : (c : ℕ) → c ≤ end → AreGreatest (blocks_at target middle c) (codes_of (answers_at target down c))
  middle_greatest zero h = tt
  middle_greatest (suc c) h =
      let more = prefix_map (λ (a : Answer). a.code) (answers_extend target down c) in
      let grown : AreGreatest (blocks_at target middle c) (codes_of (answers_at target down (suc c))) =
      subst (λ l. AreGreatest (blocks_at target middle c) l) more.joins (greatest_grows (blocks_at target middle c) (codes_of (answers_at target down c)) more.rest (enough_below c (omega arith)) (middle_greatest c (omega arith))) in
      elim (cases_Bool (is_raised (middle.answers.valid c))) [
        | inl valid ↦ valid_case c (omega arith) valid grown
        | inr quiet ↦ subst (λ l. AreGreatest l (codes_of (answers_at target down (suc c)))) (sym (quiet_blocks target middle end c owed (omega arith) quiet)) grown
      ]
    where
      valid_case : (c : ℕ) → c < end → is_raised (middle.answers.valid c) ≡ true → AreGreatest (blocks_at target middle c) (codes_of (answers_at target down (suc c))) →
          AreGreatest (blocks_at target middle (suc c)) (codes_of (answers_at target down (suc c)))
      valid_case c h valid grown =
          let asks = asks_of middle end c owed h valid in
          let lanes = filled_lanes middle.shape target.shape asks.beat.enables in
          let code = answered_code target middle down end c legal h asks (carries.answered c h valid) in
          let place = reads_before target middle end c legal h asks ∙ sym (total_blocks target middle c) in
          subst (λ l. AreGreatest l (codes_of (answers_at target down (suc c)))) (sym (valid_blocks target middle c asks))
          (greatest_push (blocks_at target middle c) (record { size = length lanes; code = middle.answers.code c }) (codes_of (answers_at target down (suc c))) grown
          (λ some. code some ∙ highest_of (take (length lanes) (own_answers target middle down (length (words_at middle c)) c))
          ∙ ap highest (codes_within (length lanes) (reads_of target middle.shape (take (length (words_at middle c)) (read_beats (shown_at middle (suc c))))) (answers_at target down (suc c)))
          ∙ ap (λ r. highest (take (length lanes) (drop r (codes_of (answers_at target down (suc c)))))) place))
