-- The words that a host is given are those that come, each in its cycle, and at most 16 of its reads are unanswered.
use Rattle.std.proofs.Common.{ℕ, ◌*◌, zero, suc, ◌<◌, ◌≤◌, ◌≡◌, ◌+◌, ◌-◌, [], ◌∷◌, ◌++◌, List, Bool, true, false, not, ◌&&◌, ◌||◌, if◌then◌else◌, arith, refl, sym, ap, ap₂, ◌∙◌, subst, length, map, filter, append-nil, length-append, le_of_eq}
use Rattle.std.proofs.lemmas.List.{map-append, length-map}
use Rattle.std.proofs.lemmas.List.Elements.{filter-append}
use Rattle.histories.specs.History.{only_if, one_if, is_raised, unreached, total, numbers}
use Rattle.memory_runs.specs.Views.{HostSide, HostView, System, Run, Responses, levels_at}
use Rattle.memory_runs.specs.Views.Responses.{AreZero, AreCodes}
use Rattle.memory_runs.specs.Commands.{longest_burst, Transfer, accepted, reads_among, is_of_reads, words_before, read_beat}
use Rattle.memory_runs.specs.Legal.{host_accepts, gives_word, given, Word, IsLegalHost, IsProperAtHost, unanswered}
use Rattle.memory_machines.specs.Link.{Port, Marked, AreLegalAt, AnswersAreOwed, taken_at, read_beats}
use Rattle.memory_machines.specs.Lines.{Sent, sent_of, sent_by, HostResponds, HostCarriesAnswers, IsHostLine}
use Rattle.memory_machines.specs.SideLaws.{all_reached}
use Rattle.memory_machines.specs.SideLaws.{total_append}
use Rattle.memory_parts.specs.Queue.{Entry, takes_read}
use Rattle.memory_parts.proofs.Queued.{entries}
use Rattle.memory_parts.specs.Host.{HostState, IsHostMachine, ReadsWords}
use Rattle.memory_parts.proofs.AgentLegal.{words_total}
use Rattle.memory_parts.proofs.HalfLines.{host_single, host_debt, host_commands, host_shorter, reads_shorter}
use Rattle.memory_parts.proofs.RouteDebts.{reads_more}
use Rattle.memory_parts.proofs.QueueBound.{owed_is, unanswered_few}
use Rattle.memory_parts.proofs.Queued.{words_of, word_more, numbers_length}
use Rattle.memory_parts.proofs.HostLine.{free_to_read, stands_taken, Asks, asks_at, read_accepts, read_stands, stands_on_host, asked_now, read_shown, no_read, standing_next, without, standing_read, taken_same, legal_below, from_host, own}

abbrev lens_of : List Sent → List ℕ
lens_of ss = map (λ (s : Sent). length s.transfer.beats) (filter (λ (s : Sent). is_of_reads s.transfer.kind) ss)

lens_append : (xs ys : List Sent) → lens_of (xs ++ ys) ≡ lens_of xs ++ lens_of ys
lens_append xs ys = ap (map (λ (s : Sent). length s.transfer.beats)) (filter-append (λ (s : Sent). is_of_reads s.transfer.kind) xs ys) ∙ map-append (λ (s : Sent). length s.transfer.beats) (filter (λ (s : Sent). is_of_reads s.transfer.kind) xs) (filter (λ (s : Sent). is_of_reads s.transfer.kind) ys)

lens_sent : (ms : List Marked) → lens_of (sent_of ms) ≡ map (λ (e : Entry). e.left) (entries ms)
lens_sent [] = refl
lens_sent (m ∷ ms) = by_test (is_of_reads m.transfer.kind) refl (lens_sent ms)
  where
    by_test : (b : Bool) → is_of_reads m.transfer.kind ≡ b → lens_of (sent_of ms) ≡ map (λ (e : Entry). e.left) (entries ms) → lens_of (sent_of (m ∷ ms)) ≡ map (λ (e : Entry). e.left) (entries (m ∷ ms))
    by_test true e ih = rw e (ap (λ l. length m.transfer.beats ∷ l) ih)
    by_test false e ih = rw e ih

lens_by : (ts : List Transfer) → lens_of (sent_by ts) ≡ map (λ (t : Transfer). length t.beats) (reads_among ts)
lens_by [] = refl
lens_by (t ∷ ts) = by_test (is_of_reads t.kind) refl (lens_by ts)
  where
    by_test : (b : Bool) → is_of_reads t.kind ≡ b → lens_of (sent_by ts) ≡ map (λ (t : Transfer). length t.beats) (reads_among ts) → lens_of (sent_by (t ∷ ts)) ≡ map (λ (t : Transfer). length t.beats) (reads_among (t ∷ ts))
    by_test true e ih = rw e (ap (λ l. length t.beats ∷ l) ih)
    by_test false e ih = rw e ih

module _ (responses : Responses) (side : HostSide) (view : HostView) (down : Port) (state : HostState) (end : ℕ) (machine : IsHostMachine responses side view down state end)
    (legal : IsLegalHost side view end) (single : ReadsWords side view end) (owed : AnswersAreOwed down end) where
  early : AnswersAreOwed down (end - 1)
  early c low = owed c (omega (arith, low))

  abbrev owes : ℕ → Bool
  owes c = stands_taken responses side view down state end machine legal single early c

  abbrev words : ℕ → ℕ
  words c = words_before down.answers.valid c

  asks : side.has_readdatavalid ≡ false → (c : ℕ) → c < end → Asks responses side view down state end machine legal single early c
  asks = asks_at responses side view down state end machine legal single early

  -- without readdatavalid a word comes only for the read that stands
  word_owed : side.has_readdatavalid ≡ false → (c : ℕ) → c < end → is_raised (down.answers.valid c) ≡ true → owes c ≡ true
  word_owed has c low valid = by_test (owes c) refl
    where
      by_test : (b : Bool) → owes c ≡ b → owes c ≡ true
      by_test true e = e
      by_test false e =
          let few = owed c low in
          let more = word_more down.answers.valid c ∙ ap (λ b. words c + one_if b) valid in
          let count = (asks has c low).count ∙ ap (λ b. words c + one_if b) e in
          absurd (omega (arith, few, more, count))

  pub gives : (c : ℕ) → c < end → gives_word side view c ≡ is_raised (down.answers.valid c)
  gives c low = by_valid side.has_readdatavalid refl
    where
      by_valid : (b : Bool) → side.has_readdatavalid ≡ b → gives_word side view c ≡ is_raised (down.answers.valid c)
      by_valid true has = ap (λ h. if h then is_raised (view.readdatavalid c) else is_raised (view.read c) && not (is_raised (view.waitrequest c))) has ∙ machine.valid c low has
      by_valid false has = ap (λ h. if h then is_raised (view.readdatavalid c) else is_raised (view.read c) && not (is_raised (view.waitrequest c))) has ∙ by_both (is_raised (view.read c)) (is_raised (down.answers.valid c)) refl refl
        where
          by_both : (r v : Bool) → is_raised (view.read c) ≡ r → is_raised (down.answers.valid c) ≡ v → (is_raised (view.read c) && not (is_raised (view.waitrequest c))) ≡ is_raised (down.answers.valid c)
          by_both true v r vv =
              let accepts : not (is_raised (view.waitrequest c)) ≡ state.asked c && is_raised (down.answers.valid c) = sym (ap (λ r. (r || is_raised (view.write c)) && not (is_raised (view.waitrequest c))) r) ∙ read_accepts responses side view down state end machine legal has c low r in
              ap₂ (λ r w. r && w) r accepts ∙ ap (λ a. a && is_raised (down.answers.valid c)) ((asks has c low).asked) ∙ by_word v vv
            where
              by_word : (v : Bool) → is_raised (down.answers.valid c) ≡ v → (owes c && is_raised (down.answers.valid c)) ≡ is_raised (down.answers.valid c)
              by_word true vv = ap (λ b. b && is_raised (down.answers.valid c)) (word_owed has c low vv)
              by_word false vv = ap (λ v. owes c && v) vv ∙ nothing (owes c) ∙ sym vv
                where
                  nothing : (b : Bool) → (b && false) ≡ false
                  nothing true = refl
                  nothing false = refl
          by_both false true r vv = let read = read_stands responses side view down state end machine legal single early c low (word_owed has c low vv) in let bad : ⊥ = cc in absurd bad
          by_both false false r vv = ap (λ r. r && not (is_raised (view.waitrequest c))) r ∙ sym vv

  pub given_is : (c : ℕ) → c ≤ end → length (given side view c) ≡ words c
  given_is zero low = refl
  given_is (suc c) low =
      length-append (given side view c) _ ∙ ap₂ (λ a b. a + b) (given_is c (omega arith)) (one (gives_word side view c) (is_raised (down.answers.valid c)) (gives c low)) ∙ sym (word_more down.answers.valid c)
    where
      word : Word
      word = record { word = view.readdata c; code = view.response c }

      one : (g v : Bool) → g ≡ v → length (only_if g word) ≡ one_if v
      one true true e = refl
      one false false e = refl
      one true false e = cc
      one false true e = cc

  abbrev accepted_by : ℕ → List ℕ
  accepted_by c = map (λ (t : Transfer). length t.beats) (reads_among (accepted side.shape view.signals (host_accepts view) c))

  lens : (c : ℕ) → c ≤ end → map (λ (e : Entry). e.left) (entries (taken_at down c)) ≡ accepted_by c ++ lens_of (standing_read responses side view down state end machine legal single early c)
  lens c low =
      sym (lens_sent (taken_at down c)) ∙ ap lens_of (taken_same responses side view down state end machine legal single early c low)
      ∙ lens_append (sent_by (accepted side.shape view.signals (host_accepts view) c)) (standing_read responses side view down state end machine legal single early c)
      ∙ ap (λ l. l ++ lens_of (standing_read responses side view down state end machine legal single early c)) (lens_by (accepted side.shape view.signals (host_accepts view) c))

  never : side.has_readdatavalid ≡ true → (c : ℕ) → owes c ≡ false
  never has c = by_test (owes c) refl
    where
      by_test : (b : Bool) → owes c ≡ b → owes c ≡ false
      by_test false e = e
      by_test true e = let not_has = without responses side view down state end machine legal single early c e in let bad : ⊥ = cc in absurd bad

  pub lens_valid : side.has_readdatavalid ≡ true → (c : ℕ) → c ≤ end → map (λ (e : Entry). e.left) (entries (taken_at down c)) ≡ accepted_by c
  lens_valid has zero low = refl
  lens_valid has (suc c) low = lens (suc c) low ∙ ap (λ b. accepted_by (suc c) ++ lens_of (only_if b (from_host (own responses side view down state end machine legal c)))) (never has (suc c)) ∙ append-nil (accepted_by (suc c))

  -- ---- with readdatavalid: the queue holds at most 16 reads

  legal_down : AreLegalAt down end
  legal_down = legal_below responses side view down state end machine legal

  owed_words : (c : ℕ) → suc c < end → words (suc c) ≤ words_of (entries (taken_at down c))
  owed_words c low = let few = owed c (omega arith) in let asked = owed_is (taken_at down c) in omega (arith, few, asked)

  bounded_valid : side.has_readdatavalid ≡ true → (c : ℕ) → c < end → unreached (accepted_by (suc c)) (words (suc c)) ≤ 16
  bounded_valid has c low =
      subst (λ l. unreached l (words (suc c)) ≤ 16) (lens_valid has (suc c) low)
      (unanswered_few down end legal_down down.answers.valid state.queue (machine.queues has) owed_words 16 (free_to_read responses side view down state end machine legal single early has) c low)

  -- ---- without readdatavalid: each accepted read has its word

  count_next : side.has_readdatavalid ≡ false → (c : ℕ) → c < end → length (read_beats (taken_at down (suc c))) ≡ words (suc c) + one_if (owes (suc c))
  count_next has c low = by_all (owes c) (is_raised (down.answers.valid c)) (takes_read down c) refl refl refl
    where
      a : Asks responses side view down state end machine legal single early c
      a = asks has c low

      more : length (read_beats (taken_at down (suc c))) ≡ length (read_beats (taken_at down c)) + (if takes_read down c then view.count c else 0)
      more = reads_more down c ∙ ap (λ n. length (read_beats (taken_at down c)) + n) (asked_now responses side view down state end machine legal single early c low)

      next : (k v t : Bool) → owes c ≡ k → is_raised (down.answers.valid c) ≡ v → takes_read down c ≡ t → owes (suc c) ≡ (if k then not v else t)
      next k v t kk vv tt' = standing_next responses side view down state end machine legal single early has c ∙ ap₂ (λ k v. if k then not v else takes_read down c) kk vv ∙ ap (λ t. if k then not v else t) tt'

      by_all : (k v t : Bool) → owes c ≡ k → is_raised (down.answers.valid c) ≡ v → takes_read down c ≡ t → length (read_beats (taken_at down (suc c))) ≡ words (suc c) + one_if (owes (suc c))
      by_all k v t kk vv is =
          let count = a.count ∙ ap (λ b. words c + one_if b) kk in
          let sum = more ∙ ap (λ b. length (read_beats (taken_at down c)) + (if b then view.count c else 0)) is in
          let word = word_more down.answers.valid c ∙ ap (λ b. words c + one_if b) vv in
          let after = ap one_if (next k v t kk vv is) in
          one k v t kk vv is count sum word after
        where
          one : (k v t : Bool) → owes c ≡ k → is_raised (down.answers.valid c) ≡ v → takes_read down c ≡ t → length (read_beats (taken_at down c)) ≡ words c + one_if k → length (read_beats (taken_at down (suc c))) ≡ length (read_beats (taken_at down c)) + (if t then view.count c else 0) →
              words (suc c) ≡ words c + one_if v → one_if (owes (suc c)) ≡ one_if (if k then not v else t) → length (read_beats (taken_at down (suc c))) ≡ words (suc c) + one_if (owes (suc c))
          one true v true kk vv is count sum word after = let none = no_read responses side view down state end machine legal single early has c low (a.asked ∙ kk) in let bad : ⊥ = cc in absurd bad
          one true true false kk vv is count sum word after = omega (arith, count, sum, word, after)
          one true false false kk vv is count sum word after = omega (arith, count, sum, word, after)
          one false true t kk vv is count sum word after = let owed_now = word_owed has c low vv in let bad : ⊥ = cc in absurd bad
          one false false true kk vv is count sum word after = let single_word = single has c low (read_shown responses side view down state end machine legal single early c low is) in omega (arith, count, sum, word, after, single_word)
          one false false false kk vv is count sum word after = omega (arith, count, sum, word, after)

  all_answered : side.has_readdatavalid ≡ false → (c : ℕ) → c < end → total (accepted_by (suc c)) ≡ words (suc c)
  all_answered has c low =
      let sums = ap total (lens (suc c) low) ∙ total_append (accepted_by (suc c)) (lens_of (standing_read responses side view down state end machine legal single early (suc c))) in
      let asked = owed_is (taken_at down (suc c)) in
      let count = count_next has c low in
      let stands = one (owes (suc c)) refl in
      omega (arith, sums, asked, count, stands)
    where
      one : (b : Bool) → owes (suc c) ≡ b → total (lens_of (standing_read responses side view down state end machine legal single early (suc c))) ≡ one_if (owes (suc c))
      one false e = ap (λ b. total (lens_of (only_if b (from_host (own responses side view down state end machine legal c))))) e ∙ sym (ap one_if e)
      one true e =
          let s = stands_on_host responses side view down state end machine legal single early c low e in
          let count = single has c low s.0 in
          ap (λ b. total (lens_of (only_if b (from_host (own responses side view down state end machine legal c))))) e ∙ is_read (is_raised (view.write c)) refl s.0 count ∙ sym (ap one_if e)
        where
          is_read : (w : Bool) → is_raised (view.write c) ≡ w → is_raised (view.read c) ≡ true → view.count c ≡ 1 → total (lens_of (from_host (own responses side view down state end machine legal c) ∷ [])) ≡ 1
          is_read true w r n = let one = legal.one_kind c low in let bad : ⊥ = cc in absurd bad
          is_read false w r n = rw w (let sum = length-map (numbers 0 (view.count c)) (read_beat side.shape (levels_at view.signals c)) ∙ numbers_length 0 (view.count c) in omega (arith, sum, n))

  pub proper : IsProperAtHost side view end
  proper = record {
    bounded = λ c low. subst (λ n. unanswered side.shape view.signals (host_accepts view) n (suc c) ≤ 16) (sym (given_is (suc c) low)) (by_valid c low side.has_readdatavalid refl);
    later = λ has c low.
        let words_same : words_before view.readdatavalid (suc c) ≡ words (suc c) = same_words has (suc c) low in
        let few = owed c low in
        let asked = words_total (accepted side.shape view.signals (host_accepts view) c) ∙ ap total (sym (lens_valid has c (omega arith))) ∙ sym (owed_is (taken_at down c)) in
        omega (arith, words_same, few, asked);
  }
    where
      by_valid : (c : ℕ) → c < end → (b : Bool) → side.has_readdatavalid ≡ b → unreached (accepted_by (suc c)) (words (suc c)) ≤ 16
      by_valid c low true has = bounded_valid has c low
      by_valid c low false has = let none = all_reached (accepted_by (suc c)) (words (suc c)) (le_of_eq (all_answered has c low)) in omega (arith, none)

      same_words : side.has_readdatavalid ≡ true → (c : ℕ) → c ≤ end → words_before view.readdatavalid c ≡ words c
      same_words has zero low = refl
      same_words has (suc c) low =
          word_more view.readdatavalid c ∙ ap₂ (λ n v. n + one_if v) (same_words has c (omega arith)) (machine.valid c low has) ∙ sym (word_more down.answers.valid c)

host_responds : (responses : Responses) (system : System) (run : Run) (host : ℕ) (down : Port) (state : HostState) (end : ℕ) → IsHostMachine responses (system.host host) (run.at_host host) down state end → HostResponds responses system run host down end
host_responds AreZero system run host down state end m = λ c low. m.response c low
host_responds AreCodes system run host down state end m = record {
  code = λ c low has valid. m.response c low ∙ ap₂ (λ h v. if h && v then down.answers.code c else 0) has valid;
  quiet = λ c low has quiet. m.response c low ∙ ap₂ (λ h v. if h && v then down.answers.code c else 0) has (lower (is_raised (down.answers.valid c)) quiet);
  absent = λ c low none. m.response c low ∙ ap (λ h. if h && is_raised (down.answers.valid c) then down.answers.code c else 0) (lower (system.host host).has_response none);
}
  where
    lower : (b : Bool) → not b ≡ true → b ≡ false
    lower true e = sym e
    lower false e = refl

pub carries_answers : (responses : Responses) (system : System) (run : Run) (host : ℕ) (down : Port) (state : HostState) (end : ℕ) → IsHostMachine responses (system.host host) (run.at_host host) down state end →
    IsLegalHost (system.host host) (run.at_host host) end → ReadsWords (system.host host) (run.at_host host) end → AnswersAreOwed down end → HostCarriesAnswers responses system run host down end
carries_answers responses system run host down state end m legal single owed = record {
  gives = gives responses (system.host host) (run.at_host host) down state end m legal single owed;
  word = λ c low valid. m.answer c low valid;
  proper = proper responses (system.host host) (run.at_host host) down state end m legal single owed;
  responds = host_responds responses system run host down state end m;
}

pub host_line : (responses : Responses) (system : System) (run : Run) (host room : ℕ) (down : Port) (state : HostState) (end : ℕ) → 16 * longest_burst down.shape.burst_bits < room → ReadsWords (system.host host) (run.at_host host) end →
    IsHostMachine responses (system.host host) (run.at_host host) down state end → IsHostLine responses system run host 0 room down end
host_line responses system run host room down state end large single machine = record {
  commands = host_commands responses system run host down state end machine single;
  single = host_single responses system run host down state end machine single;
  debt = host_debt responses system run host down state end machine single room large;
  answers = λ c low legal owed. carries_answers responses system run host down state c (host_shorter responses (system.host host) (run.at_host host) down state end c low machine) legal (reads_shorter (system.host host) (run.at_host host) end c low single) owed;
}
