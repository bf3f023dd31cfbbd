-- A gatherer keeps all that a link promises.
use Rattle.std.proofs.Common.{ℕ, zero, suc, ◌<◌, ◌≤◌, ◌≡◌, ◌/◌, min, Bool, true, false, not, ◌&&◌, ◌||◌, List, [], ◌∷◌, ◌++◌, arith, refl, sym, ap, ap₂, ◌∙◌, length, drop, nat_lt, IsTrue, append-nil, length-append, length-drop, le_refl, one-mul, mul-le-mul_right, le_of_lt, lt-ltb, le-leb}
use Rattle.std.proofs.lemmas.Bool.{and_parts, not-true, or_left, or_right, leb-true}
use Rattle.std.proofs.lemmas.List.{length-map}
use Rattle.histories.specs.History.{is_raised, only_if, standing, numbers, one_if}
use Rattle.histories.specs.Laws.{prefix_map, prefix_length, shown_is_accepted_and_standing}
use Rattle.memory_runs.specs.Views.{Shape, Levels, levels_at}
use Rattle.memory_runs.specs.Laws.{same_pieces}
use Rattle.memory_runs.specs.Legal.{Word}
use Rattle.memory_runs.specs.Order.{Answer}
use Rattle.memory_runs.specs.Operations.{pieces}
use Rattle.memory_runs.specs.Commands.{Transfer, shows, is_held, is_of_reads, read_transfer, read_beat}
use Rattle.memory_machines.specs.Link.{Target, Port, AreLegalAt, AnswersAreOwed, takes, marked_at, taken_at, shown_at, read_beats, words_at, words_owed, answers_at, is_nonempty}
use Rattle.memory_machines.specs.Blocks.{worded, codes_of, blocks_at, AreGreatest}
use Rattle.memory_machines.specs.Lines.{KeepsRow, HasLanes}
use Rattle.memory_machines.specs.Rank.{is_owed, moves_commands}
use Rattle.memory_machines.specs.PartRanks.{JoinsAlike}
use Rattle.memory_machines.specs.SideLaws.{marked_keeps}
use Rattle.memory_machines.specs.Straight.{are_answered}
use Rattle.memory_links.specs.Going.{GoesOn, is_behind}
use Rattle.memory_links.specs.Going.RowGoesOn.{at_end, further}
use Rattle.memory_links.specs.Links.{IsLink}
use Rattle.memory_links.specs.Selects.{takes_read}
use Rattle.memory_links.proofs.Lanes.{SelectsBeats}
use Rattle.memory_links.proofs.Greatest.{greatest_behind, worded_total, total_blocks}
use Rattle.memory_links.proofs.OneBeat.{reads_append, reads_in, reads_of_one}
use Rattle.memory_links.specs.Gathers.{RunsAsGather, IsGatherPlan, GatherState, LieInWords, is_shut, held, comes, is_last, Entry, word_at, entry_at, gather_form}
use Rattle.memory_links.proofs.Alike.{IsAlike}
use Rattle.memory_links.proofs.Gated.{gate_carries, gate_joins, gate_holds, never}
use Rattle.memory_links.proofs.Gathering.{gather_gate, alike, above_is}
use Rattle.memory_links.proofs.Shutting.{shut_reads, shut_full, shows_same, takes_same, below_is, shut_hands_on, legal_below}
use Rattle.memory_links.proofs.Expand.{expand, expand_none, expand_length, expand_whole, same_test, drop_nil}
use Rattle.memory_links.proofs.GatherWords.{Stands, words_there}
use Rattle.memory_links.proofs.GatherAnswers.{asked, asked_some, asked_lie, owed_below, owed_above, answers_front, owed_up, few_come, standing_now}

module _ (law : SelectsBeats) (wire : (target : Target) (port : Port) (end : ℕ) → 0 < port.shape.word_bytes → KeepsRow target 0 port port end)
    (target : Target) (up down : Port) (many room : ℕ) (state : GatherState) (end : ℕ) (plan : IsGatherPlan target up.shape down.shape many) (deep : 1 < room) (run : RunsAsGather room up down state) (lie : LieInWords up down.shape end) where
  abbrev lets : ℕ → Bool
  lets c = not (is_shut room up state c)

  shown_alike : (c : ℕ) → shows down.commands.signals c ≡ shows up.commands.signals c && lets c
  shown_alike = shows_same (gather_gate room up down state run)

  taken_at_once : (c : ℕ) → takes down c ≡ takes up c
  taken_at_once = takes_same (gather_gate room up down state run)

  lie_before : (c : ℕ) → c ≤ end → LieInWords up down.shape c
  lie_before c h k less = lie k (omega (arith, h, less))

  alike_before : (c : ℕ) → c ≤ end → AreLegalAt up c → (k : ℕ) → k < c → shows up.commands.signals k ≡ true → IsAlike target up.shape down.shape false (marked_at up k) (marked_at down k)
  alike_before c h legal = alike law target up down many room state plan run c (lie_before c h) legal

  legal_before : (c : ℕ) → c ≤ end → AreLegalAt up c → AreLegalAt down c
  legal_before c h legal = legal_below (gather_gate room up down state run) c legal

  one_piece : pieces up.shape down.shape ≡ 1
  one_piece =
      let smaller = mul-le-mul_right up.shape.word_bytes (le_of_lt plan.more) in
      let unit = one-mul up.shape.word_bytes in
      let whole = plan.whole in
      let least : min up.shape.word_bytes down.shape.word_bytes ≡ up.shape.word_bytes = omega (arith, smaller, unit, whole) in
      let self : min up.shape.word_bytes up.shape.word_bytes ≡ up.shape.word_bytes = omega arith in
      ap (λ n. up.shape.word_bytes / n) least ∙ ap (λ n. up.shape.word_bytes / n) (sym self) ∙ same_pieces up.shape plan.some

  -- ---- the row

  codes_above : (c : ℕ) → c ≤ end → AreLegalAt up c → AnswersAreOwed down c → AreGreatest (worded (blocks_at target up c)) (codes_of (answers_at target down c))
  codes_above c h legal owed =
      let up_owed = owed_up law target up down many room state plan run c (lie_before c h) legal owed in
      let own = (wire target up c plan.some).codes c (le_refl c) legal up_owed in
      let front = prefix_map (λ (a : Answer). a.code) (answers_front law target up down many room state plan run c (lie_before c h) legal owed c (le_refl c)) in
      let sizes = worded_total (blocks_at target up c) in
      let all = total_blocks target up c in
      let codes = length-map (answers_at target up c) (λ (a : Answer). a.code) in
      greatest_behind (worded (blocks_at target up c)) (codes_of (answers_at target up c)) (codes_of (answers_at target down c)) front (omega (arith, sizes, all, codes)) own

  gather_row : KeepsRow target 0 up down end
  gather_row = record {
    carries = record {
      commands = λ c h legal owed. gate_carries target false up down lets shown_alike taken_at_once c (alike_before c h legal) legal (legal_before c h legal) one_piece;
      answers = λ c h legal owed. record {
        bytes = λ k low. prefix_map (λ (a : Answer). a.byte) (answers_front law target up down many room state plan run c (lie_before c h) legal owed k low);
        owed = owed_up law target up down many room state plan run c (lie_before c h) legal owed;
      };
    };
    codes = codes_above;
    hands_on = λ c h legal owed. shut_hands_on (gather_gate room up down state run) c;
  }

  has_lanes : (c : ℕ) → HasLanes target down c
  has_lanes c k h = or_left target.shape.has_enables _ plan.enables

  -- ---- nothing is owed below where nothing is above

  none_held : {A : Type 0} (xs : List A) → is_nonempty xs ≡ false → xs ≡ []
  none_held [] e = refl
  none_held (x ∷ xs) e = cc

  count_numbers : (j n : ℕ) → length (numbers j n) ≡ n
  count_numbers j zero = refl
  count_numbers j (suc n) = ap suc (count_numbers (suc j) n)

  length_numbers : (s : Shape) (l : Levels) → length (read_transfer s l).beats ≡ l.count
  length_numbers s l = length-map (numbers 0 l.count) (read_beat s l) ∙ count_numbers 0 l.count

  module _ (k : ℕ) (low : k ≤ end) (legal : AreLegalAt up k) (owed : AnswersAreOwed down k) where
    abbrev now_at : (c : ℕ) → c ≤ k → Stands room up down state run k (few_come law target up down many room state plan run k (lie_before k low) legal owed) (asked_some law target up down many room state plan run k (lie_before k low) legal) (asked_lie law target up down many room state plan run k (lie_before k low) legal) plan.some c
    now_at c h = standing_now law target up down many room state plan run k (lie_before k low) legal owed c h

    abbrev asks : ℕ → List Entry
    asks c = asked law target up down many room state plan run k (lie_before k low) legal c

    abbrev width : ℕ
    width = up.shape.word_bytes

    quiet_at : IsTrue (are_answered up (shown_at up k) k) → IsTrue (are_answered down (shown_at down k) k)
    quiet_at answered = by_cycle k refl
      where
        by_cycle : (c : ℕ) → k ≡ c → IsTrue (are_answered down (shown_at down k) k)
        by_cycle zero e = ap (λ c. are_answered down (shown_at down c) c) e
        by_cycle (suc c) e =
            let same_up : shown_at up k ≡ taken_at up k ++ standing (shows up.commands.signals) (takes up) (marked_at up) k =
            shown_is_accepted_and_standing (shows up.commands.signals) (takes up) (marked_at up) k k (marked_keeps up k legal) (le_refl k) in
            let same_down : shown_at down k ≡ taken_at down k ++ standing (shows down.commands.signals) (takes down) (marked_at down) k =
            shown_is_accepted_and_standing (shows down.commands.signals) (takes down) (marked_at down) k k (marked_keeps down k (legal_before k low legal)) (le_refl k) in
            let given = leb-true (length (read_beats (shown_at up k))) (length (words_at up k)) answered in
            let upper = ap (λ l. length (read_beats l)) same_up ∙ ap length (reads_append (taken_at up k) (standing (shows up.commands.signals) (takes up) (marked_at up) k)) ∙ length-append (read_beats (taken_at up k)) _ in
            let lower = ap (λ l. length (read_beats l)) same_down ∙ ap length (reads_append (taken_at down k) (standing (shows down.commands.signals) (takes down) (marked_at down) k)) ∙ length-append (read_beats (taken_at down k)) _ in
            let sum = owed_above law target up down many room state plan run k (lie_before k low) legal k (le_refl k) in
            let count = owed_below law target up down many room state plan run k (lie_before k low) legal k (le_refl k) in
            let front = prefix_length (words_there room up down state run k (few_come law target up down many room state plan run k (lie_before k low) legal owed) (asked_some law target up down many room state plan run k (lie_before k low) legal) (asked_lie law target up down many room state plan run k (lie_before k low) legal) plan.some k (le_refl k)) in
            let most = expand_length width (asks k) (words_at down k) in
            let whole = expand_whole width (asks k) (words_at down k) (asked_some law target up down many room state plan run k (lie_before k low) legal k (le_refl k)) (omega (arith, given, upper, sum, front)) in
            let none : length (read_beats (standing (shows up.commands.signals) (takes up) (marked_at up) k)) ≡ 0 = omega (arith, given, upper, sum, front, most) in
            let none_low : length (read_beats (standing (shows down.commands.signals) (takes down) (marked_at down) k)) ≡ 0 =
            ap (λ n. length (read_beats (standing (shows down.commands.signals) (takes down) (marked_at down) n))) e ∙ stands_alike c e (ap (λ n. length (read_beats (standing (shows up.commands.signals) (takes up) (marked_at up) n))) (sym e) ∙ none) in
            le-leb (length (read_beats (shown_at down k))) (length (words_at down k)) (omega (arith, lower, count, whole, none_low))
          where
            -- a read that stands below stands above too, and asks a word there
            stands_alike : (c : ℕ) → k ≡ suc c → length (read_beats (only_if (is_held up.commands.signals (takes up) c) (marked_at up c))) ≡ 0 → length (read_beats (only_if (is_held down.commands.signals (takes down) c) (marked_at down c))) ≡ 0
            stands_alike c e none = by_held (is_held down.commands.signals (takes down) c) refl
              where
                by_held : (b : Bool) → is_held down.commands.signals (takes down) c ≡ b → length (read_beats (only_if b (marked_at down c))) ≡ 0
                by_held false f = refl
                by_held true f = by_write (is_raised (up.commands.write c)) refl
                  where
                    parts_of : (shows down.commands.signals c ≡ true) × (not (takes down c) ≡ true)
                    parts_of = and_parts (shows down.commands.signals c) (not (takes down c)) f

                    shown : shows up.commands.signals c ≡ true
                    shown = (and_parts (shows up.commands.signals c) (lets c) (sym (shown_alike c) ∙ parts_of.0)).0

                    up_held : is_held up.commands.signals (takes up) c ≡ true
                    up_held = ap₂ (λ s t. s && not t) shown (sym (taken_at_once c) ∙ not-true (takes down c) parts_of.1)

                    by_write : (w : Bool) → is_raised (up.commands.write c) ≡ w → length (read_beats (marked_at down c ∷ [])) ≡ 0
                    by_write true g = ap length (reads_of_one (marked_at down c) ∙ ap reads_in (below_is (gather_gate room up down state run) c true g))
                    by_write false g =
                        let beats : read_beats (marked_at up c ∷ []) ≡ (read_transfer up.shape (levels_at up.commands.signals c)).beats ++ [] = reads_of_one (marked_at up c) ∙ ap reads_in (above_is law target up down many room state plan run k (lie_before k low) legal c (omega (arith, e)) shown false g) in
                        let size = ap length beats ∙ ap length (append-nil (read_transfer up.shape (levels_at up.commands.signals c)).beats) ∙ length_numbers up.shape (levels_at up.commands.signals c) in
                        let some = (lie c (omega (arith, e, low)) shown).some in
                        let zeros = ap (λ b. length (read_beats (only_if b (marked_at up c)))) (sym up_held) ∙ none in
                        absurd (omega (arith, size, some, zeros))

    -- ---- how it goes on

    silent_next : (c : ℕ) → c < k → is_raised (up.answers.valid (suc c)) ≡ false → is_owed up c ≡ is_owed down c
    silent_next c h silent =
        let now = now_at (suc c) h in
        let none : held down state (suc c) ≡ [] = none_held (held down state (suc c)) (sym (run.valid (suc c)) ∙ silent) in
        let both = length-append (state.words (suc c)) (only_if (comes down state (suc c)) (word_at down (suc c))) in
        let sizes = ap length none in
        let no_words : state.words (suc c) ≡ [] = empty (state.words (suc c)) (omega (arith, both, sizes)) in
        let all : words_at up (suc c) ≡ expand width (asks (suc c)) (words_at down (suc c)) =
        sym (append-nil (words_at up (suc c))) ∙ ap (λ l. words_at up (suc c) ++ l) (sym (ap (drop (state.given (suc c))) (ap (expand width (state.entries (suc c))) no_words ∙ expand_none width (state.entries (suc c))) ∙ drop_nil Word (state.given (suc c)))) ∙ now.given in
        let sum = owed_above law target up down many room state plan run k (lie_before k low) legal (suc c) h in
        let count = owed_below law target up down many room state plan run k (lie_before k low) legal (suc c) h in
        ap₂ nat_lt (ap length all) sum ∙ same_test width (asks (suc c)) (words_at down (suc c)) (asked_some law target up down many room state plan run k (lie_before k low) legal (suc c) h) ∙ ap (nat_lt (length (words_at down (suc c)))) (sym count)
      where
        empty : {A : Type 0} (xs : List A) → length xs ≡ 0 → xs ≡ []
        empty [] e = refl
        empty (x ∷ xs) e = cc

    shut_owes : (c : ℕ) → c < k → is_raised (up.answers.valid (suc c)) ≡ false → shows up.commands.signals c ≡ true → lets c ≡ false → (is_of_reads (marked_at up c).transfer.kind ≡ true) × IsTrue (is_owed down c)
    shut_owes c h silent shown e =
        let full = shut_full (gather_gate room up down state run) c e in
        let next = now_at (suc c) h in
        let none : held down state (suc c) ≡ [] = none_held (held down state (suc c)) (sym (run.valid (suc c)) ∙ silent) in
        let sizes = ap length none ∙ refl in
        let both = length-append (state.words (suc c)) (only_if (comes down state (suc c)) (word_at down (suc c))) in
        let there = next.words in
        let asks_now = next.asks in
        let count = owed_below law target up down many room state plan run k (lie_before k low) legal (suc c) h in
        let entries = ap length (run.entries_next c) ∙ length-append (drop (one_if (is_last down state c)) (state.entries c)) (only_if (takes_read up c) (entry_at up down c)) in
        let left = length-drop (one_if (is_last down state c)) (state.entries c) in
        let one = at_most_one (is_last down state c) in (
          ap (λ (t : Transfer). is_of_reads t.kind) (above_is law target up down many room state plan run k (lie_before k low) legal c h shown false (shut_reads (gather_gate room up down state run) c e)),
          lt-ltb (length (words_at down (suc c))) (words_owed down (suc c)) (omega (arith, full, deep, there, asks_now, count, both, sizes, entries, left, one)),
        )
      where
        at_most_one : (b : Bool) → one_if b ≤ 1
        at_most_one true = le_refl 1
        at_most_one false = omega arith

  gather_goes_on : AreLegalAt up end → AnswersAreOwed down end → JoinsAlike target up end → GoesOn target (record { largest = 0; hold = 0 }) up down end
  gather_goes_on legal owed joined = record {
    rank = λ c. 0;
    going = record {
      legal = legal;
      legal_down = legal_before end (le_refl end) legal;
      falls = record {
        bounded = λ c h. le_refl 0;
        falls = λ c h work still must. (let parts = not_or (moves_commands up down c) (is_raised (up.answers.valid (suc c))) still in
            absurd (never target false up down lets shown_alike taken_at_once end (alike_before end (le_refl end) legal) legal (legal_before end (le_refl end) legal) (λ d. not (is_raised (up.answers.valid (suc d))))
            (λ d low quiet shown e. shut_owes end (le_refl end) legal owed d low (not-true (is_raised (up.answers.valid (suc d))) quiet) shown e)
            (λ d low quiet. silent_next end (le_refl end) legal owed d low (not-true (is_raised (up.answers.valid (suc d))) quiet)) joined c h parts.1 work parts.0 must));
        stays = λ c h work still. le_refl 0;
      };
      words = λ c h owes. by_next c h owes (is_raised (up.answers.valid (suc c))) refl;
    };
    holds = gate_holds target false up down lets shown_alike taken_at_once end (alike_before end (le_refl end) legal) legal (legal_before end (le_refl end) legal);
  }
    where
      not_or : (a b : Bool) → IsTrue (not (a || b)) → IsTrue (not a) × IsTrue (not b)
      not_or true b h = cc
      not_or false true h = cc
      not_or false false h = (refl, refl)

      by_next : (c : ℕ) → suc c < end → IsTrue (is_owed up c) → (v : Bool) → is_raised (up.answers.valid (suc c)) ≡ v → IsTrue (is_behind target up down c || (moves_commands up down c || is_raised (up.answers.valid (suc c))) || is_owed down c)
      by_next c h owes true e = or_left _ (is_owed down c) (or_right (is_behind target up down c) _ (or_right (moves_commands up down c) _ e))
      by_next c h owes false e = or_right _ (is_owed down c) (sym (silent_next end (le_refl end) legal owed c (omega (arith, h)) e) ∙ owes)

  pub gather_is_link : IsLink (gather_form target) up down end
  gather_is_link = record {
    row = gather_row;
    words = λ is. cc;
    lanes = λ c h legal owed has. has_lanes c;
    joins = λ c h legal owed alike k less. gate_joins target false up down lets shown_alike taken_at_once c (alike_before c h legal) legal (legal_before c h legal) k less (alike k less);
    quiet = λ c h legal owed answered. quiet_at c h legal owed answered;
    goes_on = λ legal owed alike. further (gather_goes_on legal owed alike) at_end;
  }
