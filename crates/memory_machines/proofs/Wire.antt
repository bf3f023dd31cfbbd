-- A wire keeps the law of a link, with hold 0.
use Rattle.std.proofs.Common.{ℕ, suc, ◌<◌, ◌≤◌, ◌≡◌, ◌+◌, ◌-◌, [], ◌∷◌, ◌++◌, List, IsTrue, arith, refl, sym, ap, ◌∙◌, subst, ap₂, length, map, flat_map, take, drop, zip, Some, slice_get, MatchOption, le_refl, max, fold, length-append}
use Rattle.std.proofs.Common.{le_of_eq, get_or}
use Rattle.std.proofs.lemmas.Option.{slice_get-get_or}
use Rattle.memory_runs.specs.Views.Kind.{Reads}
use Rattle.std.proofs.lemmas.List.{length-map}
use Rattle.std.proofs.Math.Seq.{drop-append_seam}
use Rattle.histories.specs.Laws.{prefix_refl, prefix_flat_map, prefix_filter, prefix_trans, before_extends}
use Rattle.memory_runs.specs.Laws.{same_pieces}
use Rattle.histories.specs.History.{is_raised, total, AreWithin, IsPrefix}
use Rattle.histories.specs.History.AreWithin.{all_placed, placed, next_room}
use Rattle.memory_runs.specs.Views.{Shape}
use Rattle.memory_runs.specs.Operations.{Beat, filled_lanes}
use Rattle.memory_runs.specs.Legal.{Word}
use Rattle.memory_runs.specs.Order.{Answer, HoldsAnswers, greatest_code}
use Rattle.memory_machines.specs.Link.{Target, Port, Marked, KeepsLinkLaw, AreLegalAt, AnswersAreOwed, shown_at, taken_at, operations_in, operations_among, read_beats, words_at, words_owed, answers_at, bytes_in, reads_of, beat_operations, IsAnswered, HasGreatestCode, sizes, held_by}
use Rattle.memory_machines.specs.SideLaws.{taken_is_shown, all_reached, same_counts, zip_push, zip_length, prefix_get, prefix_take, answer_of, own_bytes}

-- the sizes of the transfers sum up to their operations
pub total_sizes : (target : Target) (shape : Shape) (transfers : List Marked) → total (sizes target shape transfers) ≡ length (operations_among target shape transfers)
total_sizes target shape [] = refl
total_sizes target shape (m ∷ later) = ap (λ n. length (operations_in target shape m) + n) (total_sizes target shape later) ∙ sym (length-append (operations_in target shape m) _)

pub same_within : (sizes : List ℕ) → AreWithin sizes sizes
same_within [] = all_placed
same_within (size ∷ sizes) = placed (le_refl size) (let none : size - size ≡ 0 = omega arith in rw none (next_room (same_within sizes)))

own_codes : (given : Word) (lanes : List ℕ) → fold (λ code (answer : Answer). max code answer.code) given.code (take (length lanes) (map (answer_of given) lanes)) ≡ given.code
own_codes given [] = refl
own_codes given (lane ∷ lanes) = let same : max given.code given.code ≡ given.code = omega arith in ap (λ n. fold (λ code (answer : Answer). max code answer.code) n (take (length lanes) (map (answer_of given) lanes))) same ∙ own_codes given lanes

pub own_code : (given : Word) (lanes : List ℕ) → 0 < length lanes → given.code ≡ greatest_code (take (length lanes) (map (answer_of given) lanes))
own_code given [] h = absurd (omega arith)
own_code given (lane ∷ lanes) h = let same : max 0 given.code ≡ given.code = omega arith in sym (ap (λ n. fold (λ code (answer : Answer). max code answer.code) n (take (length lanes) (map (answer_of given) lanes))) same ∙ own_codes given lanes)

-- a word after these answers the next beat
own_of_word : (target : Target) (shape : Shape) (all now : List Beat) (ws : List Word) (w : Word) (x : Beat) →
    slice_get now (length ws) ≡ Some x → take (length ws) all ≡ take (length ws) now →
    drop (reads_of target shape (take (length ws) all)) (flat_map (λ p. bytes_in target shape p.0 p.1) (zip now (ws ++ w ∷ []))) ≡ bytes_in target shape x w
own_of_word target shape all now ws w x got same =
    let pushed = zip_push (λ (p : Beat × Word). bytes_in target shape p.0 p.1) now ws w x got in
    let counts = zip_length (λ (p : Beat × Word). bytes_in target shape p.0 p.1) (beat_operations target shape)
    (λ x w. length-map (filled_lanes shape target.shape x.enables) _ ∙ sym (length-map (filled_lanes shape target.shape x.enables) _)) now ws in
    let total : reads_of target shape (take (length ws) all) ≡ length (flat_map (λ (p : Beat × Word). bytes_in target shape p.0 p.1) (zip now ws)) = ap (λ l. reads_of target shape l) same ∙ sym counts in
    ap₂ (λ n l. drop n l) total pushed ∙ drop-append_seam (flat_map (λ (p : Beat × Word). bytes_in target shape p.0 p.1) (zip now ws)) (bytes_in target shape x w)

wire_word : (target : Target) (shape : Shape) (all now : List Beat) (ws : List Word) (w : Word) (answers : List Answer) (x : Beat) →
    answers ≡ flat_map (λ p. bytes_in target shape p.0 p.1) (zip now (ws ++ w ∷ [])) →
    slice_get all (length ws) ≡ Some x → slice_get now (length ws) ≡ Some x → take (length ws) all ≡ take (length ws) now →
    MatchOption (slice_get all (length ws)) ⊥ (λ beat.
    HoldsAnswers (filled_lanes shape target.shape beat.enables) (drop (reads_of target shape (take (length ws) all)) answers) w
    × HasGreatestCode (filled_lanes shape target.shape beat.enables) (drop (reads_of target shape (take (length ws) all)) answers) w)
wire_word target shape all now ws w answers x is got_all got_now same =
    let own = ap (λ l. drop (reads_of target shape (take (length ws) all)) l) is ∙ own_of_word target shape all now ws w x got_now same in
    let lanes = filled_lanes shape target.shape x.enables in
    let holds : HoldsAnswers lanes (bytes_in target shape x w) w = record { enough = le_of_eq (sym (length-map lanes _)); bytes = own_bytes w lanes } in
    let code : HasGreatestCode lanes (bytes_in target shape x w) w = own_code w lanes in
    subst (λ o. MatchOption o ⊥ (λ beat.
    HoldsAnswers (filled_lanes shape target.shape beat.enables) (drop (reads_of target shape (take (length ws) all)) answers) w
    × HasGreatestCode (filled_lanes shape target.shape beat.enables) (drop (reads_of target shape (take (length ws) all)) answers) w))
    (sym got_all)
    (subst (λ l. HoldsAnswers lanes l w × HasGreatestCode lanes l w) (sym own) (holds, code))

-- a word that comes is owed for a beat that was accepted before
pub record Asks (port : Port) (c : ℕ) : Type 0 where
  pub beat : Beat
  pub within : length (words_at port c) < length (read_beats (taken_at port c))
  pub got : slice_get (read_beats (taken_at port c)) (length (words_at port c)) ≡ Some beat
  pub word : words_at port (suc c) ≡ words_at port c ++ record { word = port.answers.word c; code = port.answers.code c } ∷ []

pub asks_of : (port : Port) (end c : ℕ) → AnswersAreOwed port end → c < end → IsTrue (is_raised (port.answers.valid c)) → Asks port c
asks_of port end c owed h valid =
    let word : Word = record { word = port.answers.word c; code = port.answers.code c } in
    let words_now : words_at port (suc c) ≡ words_at port c ++ word ∷ [] = rw valid in
    let few : length (words_at port (suc c)) ≤ words_owed port c =
    subst (λ n. n ≤ words_owed port c) (same_counts (λ c. is_raised (port.answers.valid c)) (λ c. c) (λ c. record { word = port.answers.word c; code = port.answers.code c }) (suc c)) (owed c h) in
    let one_more : length (words_at port (suc c)) ≡ length (words_at port c) + 1 = ap length words_now ∙ length-append (words_at port c) (word ∷ []) in
    let within : length (words_at port c) < length (read_beats (taken_at port c)) = omega (arith, few, one_more) in
    let none : Beat = record { kind = Reads; address = 0; word = 0; enables = 0 } in
    record {
      beat = get_or (read_beats (taken_at port c)) (length (words_at port c)) none;
      within = within;
      got = slice_get-get_or (read_beats (taken_at port c)) (length (words_at port c)) none within;
      word = words_now;
    }

-- the read beats taken before a cycle are the front of those shown by its end, and of those taken by its end
pub asked_shown : (port : Port) (end c : ℕ) → AreLegalAt port end → c < end → IsPrefix (read_beats (taken_at port c)) (read_beats (shown_at port (suc c)))
asked_shown port end c legal h = prefix_flat_map _ (prefix_filter _ (prefix_trans (taken_is_shown port end c legal (omega arith)) (before_extends _ c)))

pub asked_taken : (port : Port) (c : ℕ) → IsPrefix (read_beats (taken_at port c)) (read_beats (taken_at port (suc c)))
asked_taken port c = prefix_flat_map _ (prefix_filter _ (before_extends _ c))

module _ (target : Target) (port : Port) (end : ℕ) (legal : AreLegalAt port end) (owed : AnswersAreOwed port end) where
  wire_answered : (c : ℕ) → c < end → IsTrue (is_raised (port.answers.valid c)) → IsAnswered target port port (length (words_at port c)) c
  wire_answered c h valid =
      let asks = asks_of port end c owed h valid in
      wire_word target port.shape (read_beats (shown_at port (suc c))) (read_beats (taken_at port (suc c))) (words_at port c) (record { word = port.answers.word c; code = port.answers.code c }) (answers_at target port (suc c)) asks.beat
      (ap (λ ws. flat_map (λ (p : Beat × Word). bytes_in target port.shape p.0 p.1) (zip (read_beats (taken_at port (suc c))) ws)) asks.word)
      (prefix_get (asked_shown port end c legal h) (length (words_at port c)) asks.beat asks.got)
      (prefix_get (asked_taken port c) (length (words_at port c)) asks.beat asks.got)
      (prefix_take (asked_shown port end c legal h) (length (words_at port c)) (omega (arith, asks.within)) ∙ sym (prefix_take (asked_taken port c) (length (words_at port c)) (omega (arith, asks.within))))

wire_held : (target : Target) (port : Port) (c : ℕ) → held_by target port port c ≤ 0
wire_held target port c = le_of_eq (all_reached (sizes target port.shape (taken_at port c)) (length (operations_among target port.shape (taken_at port c))) (le_of_eq (total_sizes target port.shape (taken_at port c))))

-- a wire is a link that holds nothing
pub wire_is_link : (target : Target) (port : Port) (end : ℕ) → 0 < port.shape.word_bytes → KeepsLinkLaw target 0 port port end
wire_is_link target port end words = record {
  commands = λ c h legal owed. record {
    in_order = λ c h. prefix_refl _;
    beats = λ c tag h. rw (same_pieces port.shape words) (omega arith);
    legal = legal;
    held = λ k h. wire_held target port k;
    whole = λ c h. same_within _;
  };
  answers = λ c h legal owed. record { answered = wire_answered target port c legal owed; owed = owed };
}
