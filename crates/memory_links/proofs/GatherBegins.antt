-- A gatherer begins below what waits above, in its own cycle, and keeps nothing back while it gives no word.
use Rattle.std.proofs.Common.{ℕ, ◌<◌, ◌≤◌, ◌≡◌, ◌+◌, ◌-◌, Bool, true, false, not, List, [], ◌∷◌, ◌++◌, arith, refl, ap, length, drop, nat_lt, length-append, length-drop, ltb-true, ltb-false, map}
use Rattle.histories.specs.History.{total}
use Rattle.memory_runs.specs.Legal.{Word}
use Rattle.memory_machines.specs.Link.{Target, Port, AreLegalAt, AnswersAreOwed, words_at, words_owed}
use Rattle.memory_links.specs.Begins.{BeginsBelow}
use Rattle.memory_links.proofs.Beginning.{gate_begins}
use Rattle.memory_links.proofs.Lanes.{SelectsBeats}
use Rattle.memory_links.specs.Gathers.{RunsAsGather, IsGatherPlan, GatherState, LieInWords, is_shut, Entry, first_entry}
use Rattle.memory_links.proofs.Gathering.{gather_gate, alike}
use Rattle.memory_links.proofs.Shutting.{shut_full, shows_same, takes_same, legal_below}
use Rattle.memory_links.proofs.Expand.{expand, cut_entry, pieces_length, expand_length, expand_whole, count_of, AllSome}
use Rattle.memory_links.proofs.GatherAnswers.{asked, asked_some, owed_above, standing_now}

module _ (law : SelectsBeats) (target : Target) (up down : Port) (many room : ℕ) (state : GatherState)
    (plan : IsGatherPlan target up.shape down.shape many) (deep : 0 < room) (run : RunsAsGather room up down state) (end : ℕ) (lie : LieInWords up down.shape end) (legal : AreLegalAt up end) (owed : AnswersAreOwed down end) where
  abbrev lets : ℕ → Bool
  lets c = not (is_shut room up state c)

  abbrev low_legal : AreLegalAt down end
  low_legal = legal_below (gather_gate room up down state run) end legal

  first_count : (b : ℕ) (es : List Entry) (ws : List Word) → 0 < length ws → length ws ≤ length es → (first_entry es).count ≤ length (expand b es ws)
  first_count b es [] some fits = absurd (omega (arith, some))
  first_count b [] (w ∷ ws) some fits = absurd (omega (arith, fits))
  first_count b (e ∷ es) (w ∷ ws) some fits = (let one = pieces_length b e.offset e.count w in let sum = length-append (cut_entry b e w) (expand b es ws) in omega (arith, one, sum))

  -- while a read is held back a word is owed above
  shut_while_owed : (c : ℕ) → c < end → lets c ≡ false → length (words_at up c) < words_owed up c
  shut_while_owed c h e =
      let now = standing_now law target up down many room state plan run end lie legal owed c (omega (arith, h)) in
      let full = shut_full (gather_gate room up down state run) c e in
      let asks = asked law target up down many room state plan run end lie legal c in
      let some = asked_some law target up down many room state plan run end lie legal c (omega (arith, h)) in
      let sum = owed_above law target up down many room state plan run end lie legal c (omega (arith, h)) in
      let joined = ap length now.given in
      let parts = length-append (words_at up c) (drop (state.given c) (expand up.shape.word_bytes (state.entries c) (state.words c))) in
      let left = length-drop (state.given c) (expand up.shape.word_bytes (state.entries c) (state.words c)) in
      let words = now.words in
      let count = now.asks in
      let few = now.few_words in
      by_words (nat_lt (length (state.words c)) (length (state.entries c))) refl some sum joined parts left now.done words count few full now.some_given
    where
      by_words : (b : Bool) → nat_lt (length (state.words c)) (length (state.entries c)) ≡ b → AllSome (asked law target up down many room state plan run end lie legal c) → words_owed up c ≡ total (map count_of (asked law target up down many room state plan run end lie legal c)) →
          length (words_at up c ++ drop (state.given c) (expand up.shape.word_bytes (state.entries c) (state.words c))) ≡ length (expand up.shape.word_bytes (asked law target up down many room state plan run end lie legal c) (words_at down c)) →
          length (words_at up c ++ drop (state.given c) (expand up.shape.word_bytes (state.entries c) (state.words c))) ≡ length (words_at up c) + length (drop (state.given c) (expand up.shape.word_bytes (state.entries c) (state.words c))) →
          length (drop (state.given c) (expand up.shape.word_bytes (state.entries c) (state.words c))) ≡ length (expand up.shape.word_bytes (state.entries c) (state.words c)) - state.given c →
          (done : ℕ) → length (words_at down c) ≡ done + length (state.words c) → length (asked law target up down many room state plan run end lie legal c) ≡ done + length (state.entries c) → length (state.words c) ≤ length (state.entries c) → room ≤ length (state.entries c) →
          (0 < length (state.words c) → state.given c < (first_entry (state.entries c)).count) → length (words_at up c) < words_owed up c
      by_words true k some sum joined parts left done words count few full inside = by_all (nat_lt (length (words_at up c)) (words_owed up c)) refl
        where
          by_all : (t : Bool) → nat_lt (length (words_at up c)) (words_owed up c) ≡ t → length (words_at up c) < words_owed up c
          by_all true g = ltb-true (length (words_at up c)) (words_owed up c) g
          by_all false g =
              let most = ltb-false (length (words_at up c)) (words_owed up c) g in
              let less = ltb-true (length (state.words c)) (length (state.entries c)) k in
              let whole = expand_whole up.shape.word_bytes (asked law target up down many room state plan run end lie legal c) (words_at down c) some (omega (arith, most, sum, joined, parts)) in
              absurd (omega (arith, whole, less, words, count))
      by_words false k some sum joined parts left done words count few full inside =
          let more = ltb-false (length (state.words c)) (length (state.entries c)) k in
          let there : 0 < length (state.words c) = omega (arith, more, full, deep) in
          let less = inside there in
          let first = first_count up.shape.word_bytes (state.entries c) (state.words c) there few in
          let most = expand_length up.shape.word_bytes (asked law target up down many room state plan run end lie legal c) (words_at down c) in
          omega (arith, less, first, most, sum, joined, parts, left)

  pub gather_begins : (few : ℕ) (may_burst : Bool) → BeginsBelow few may_burst target up down end
  gather_begins few may_burst =
      gate_begins target false up down lets (shows_same (gather_gate room up down state run)) (takes_same (gather_gate room up down state run)) end
      (alike law target up down many room state plan run end lie legal) legal low_legal shut_while_owed few may_burst
