-- What the part next to a host has taken below is what was accepted from the host, and without readdatavalid maybe the read that stands there.
use Rattle.std.proofs.Common.{ℕ, zero, suc, ◌<◌, ◌≤◌, ◌≡◌, ◌+◌, ◌-◌, Bool, true, false, not, ◌||◌, ◌&&◌, List, [], ◌∷◌, ◌++◌, arith, refl, sym, ap, ap₂, subst, ◌∙◌, length, map, take, drop, IsTrue, IsFalse, tests, inl, inr, ◌⊎◌, if◌then◌else◌, append-nil, length-append, lt-ltb, Option}
use Rattle.std.proofs.lemmas.Bool.{and_parts, both_ways}
use Rattle.std.proofs.lemmas.List.{length-map}
use Rattle.std.specs.List.{list_any, list_all}
use Rattle.histories.specs.History.{is_raised, numbers, only_if}
use Rattle.memory_runs.specs.Views.{System, Run, Shape, Levels, HostView, levels_at}
use Rattle.memory_runs.specs.Commands.{Transfer, shows, is_held, transfer_at, transfer_of, burst_before, read_beats as reads_in, read_transfer, read_beat}
use Rattle.memory_runs.specs.Legal.{host_accepts, given}
use Rattle.memory_runs.specs.Order.{Asked, place_of, asked, host_transfers}
use Rattle.memory_runs.specs.Awake.{is_place, is_given_from}
use Rattle.memory_machines.specs.Link.{Port, Marked, takes, taken_at, words_at, words_owed}
use Rattle.memory_machines.specs.Lines.{host_accepted, asked_among}
use Rattle.memory_parts.specs.Steps.{given_before, has_room, is_gone, may_read, IsHostPart, place_shown}
use Rattle.memory_awake.proofs.Beats.{asked_length, asked_append, all_of_transfer, both, next_at, next_here, next_stays, drop_past, numbers_length, reads_end, reads_marked}
use Rattle.memory_awake.proofs.Places.{words_count, one_word, taken_end}
use Rattle.memory_awake.proofs.Numbers.{presented_is}
use Rattle.memory_awake.proofs.Bits.{none_taken, takes_shows, not_shown, holds}

first_raised : (r w : Bool) → IsTrue (r || w) → IsFalse w → IsTrue r
first_raised true w s f = refl
first_raised false w s f = absurd cc

never_both : (r w : Bool) → IsTrue (not (r && w)) → IsTrue r → IsFalse w
never_both true true h r = absurd cc
never_both true false h r = refl
never_both false w h r = absurd cc

and_false : (b : Bool) → (b && false) ≡ false
and_false true = refl
and_false false = refl

module _ (system : System) (run : Run) (host : ℕ) (middle : Port) (end : ℕ) (part : IsHostPart system run host middle end) where
  abbrev shape : Shape
  shape = (system.host host).shape

  abbrev view : HostView
  view = run.at_host host

  abbrev accepts : ℕ → Bool
  accepts = host_accepts view

  abbrev now : ℕ → Transfer
  now c = transfer_at shape view.signals accepts c

  abbrev has_valid : Bool
  has_valid = (system.host host).has_readdatavalid

  abbrev accepted_by : ℕ → List Transfer
  accepted_by c = host_accepted system run host c

  -- what was taken below, without tags
  abbrev below : ℕ → List Transfer
  below c = map (λ (m : Marked). m.transfer) (taken_at middle c)

  abbrev comes : ℕ → Bool
  comes c = is_raised (middle.answers.valid c)

  -- the words below are those that the host is given
  pub same_words : (c : ℕ) → c ≤ end → length (words_at middle c) ≡ given_before system run host c
  same_words zero h = refl
  same_words (suc c) h = subst (λ b. length (words_at middle c ++ only_if (comes c) (record { word = middle.answers.word c; code = middle.answers.code c })) ≡ length (given (system.host host) view c ++ only_if b (record { word = view.readdata c; code = view.response c }))) (sym (part.gives c (omega (arith, h))))
      (by_valid (comes c) (same_words c (omega (arith, h))))
    where
      by_valid : (b : Bool) → length (words_at middle c) ≡ given_before system run host c →
          length (words_at middle c ++ only_if b (record { word = middle.answers.word c; code = middle.answers.code c })) ≡ length (given (system.host host) view c ++ only_if b (record { word = view.readdata c; code = view.response c }))
      by_valid true more =
          let one = length-append (words_at middle c) (record { word = middle.answers.word c; code = middle.answers.code c } ∷ []) in
          let two = length-append (given (system.host host) view c) (record { word = view.readdata c; code = view.response c } ∷ []) in
          omega (arith, one, two, more)
      by_valid false more = ap length (append-nil (words_at middle c)) ∙ more ∙ sym (ap length (append-nil (given (system.host host) view c)))

  -- ---- when a beat is accepted

  pub write_passes : (c : ℕ) → c < end → IsTrue (is_raised (view.write c)) → accepts c ≡ takes middle c
  write_passes c h write = part.accepts c h ∙ ap (λ w. if w || has_valid then takes middle c else comes c) write

  valid_passes : IsTrue has_valid → (c : ℕ) → c < end → accepts c ≡ takes middle c
  valid_passes has c h = part.accepts c h ∙ ap (λ v. if is_raised (view.write c) || v then takes middle c else comes c) has ∙ either (is_raised (view.write c))
    where
      either : (w : Bool) → (if w || true then takes middle c else comes c) ≡ takes middle c
      either true = refl
      either false = refl

  word_passes : IsFalse has_valid → (c : ℕ) → c < end → IsFalse (is_raised (view.write c)) → accepts c ≡ comes c
  word_passes has c h read = part.accepts c h ∙ ap₂ (λ w v. if w || v then takes middle c else comes c) read has

  pub shows_host : (c : ℕ) → c < end → IsTrue (shows middle.commands.signals c) → IsTrue (shows view.signals c)
  shows_host c h shown = (and_parts (shows view.signals c) _ (sym (part.shown c h) ∙ shown)).0

  pub to_middle : (c : ℕ) → c < end → IsTrue (shows view.signals c) → IsTrue (is_raised (view.write c) || may_read system run host middle c) → IsTrue (shows middle.commands.signals c)
  to_middle c h shown open_gate = part.shown c h ∙ both _ _ shown open_gate

  pub place_now : (c : ℕ) → c < end → IsTrue (shows middle.commands.signals c) → place_shown system host middle c ≡ place_of system host (now c)
  place_now c h shown = ap (place_of system host) (part.same c h shown)

  -- ---- a read that was taken below and isn't answered

  pub record IsAhead (c : ℕ) : Type 0 where
    pub waits : IsFalse has_valid
    pub read : Transfer
    pub taken : below c ≡ accepted_by c ++ read ∷ []
    pub one : length (reads_in (read ∷ [])) ≡ 1
    pub stands : c < end → IsTrue (is_raised (view.read c)) × (now c ≡ read)

  -- without readdatavalid each accepted read has its word
  pub record Stands (c : ℕ) : Type 0 where
    pub taken : (below c ≡ accepted_by c) ⊎ IsAhead c
    pub given : IsFalse has_valid → given_before system run host c ≡ length (reads_in (accepted_by c))

  below_more : (c : ℕ) → c < end → (t : Bool) → takes middle c ≡ t → below (suc c) ≡ below c ++ only_if t (now c)
  below_more c h true e = taken_end middle c e ∙ ap (λ t. below c ++ t ∷ []) (part.same c h (takes_shows middle c e))
  below_more c h false e = ap (map (λ (m : Marked). m.transfer)) (none_taken middle c e) ∙ sym (append-nil (below c))

  same_step : (c : ℕ) → c < end → below c ≡ accepted_by c → accepts c ≡ takes middle c → below (suc c) ≡ accepted_by (suc c)
  same_step c h e a = below_more c h (takes middle c) refl ∙ ap₂ (λ l b. l ++ only_if b (now c)) e (sym a)

  not_accepted : (c : ℕ) → IsFalse (accepts c) → accepted_by (suc c) ≡ accepted_by c
  not_accepted c e = ap (λ b. accepted_by c ++ only_if b (now c)) e ∙ append-nil (accepted_by c)

  given_more : (c : ℕ) → c < end → given_before system run host (suc c) ≡ given_before system run host c + (if comes c then 1 else 0)
  given_more c h = sym (same_words (suc c) h) ∙ one_word middle c ∙ ap (λ n. n + (if comes c then 1 else 0)) (same_words c (omega (arith, h)))

  given_still : (c : ℕ) → c < end → IsFalse (comes c) → given_before system run host (suc c) ≡ given_before system run host c
  given_still c h quiet = given_more c h ∙ ap (λ b. given_before system run host c + (if b then 1 else 0)) quiet ∙ (omega arith)

  -- what isn't accepted is shown again
  shown_still : (c : ℕ) → suc c < end → IsTrue (is_raised (view.read c)) → IsFalse (accepts c) → IsTrue (is_raised (view.read (suc c))) × (now (suc c) ≡ now c)
  shown_still c h read none =
      let held : IsTrue (is_held view.signals accepts c) = holds (shows view.signals c) (accepts c) (ap (λ r. r || is_raised (view.write c)) read) none in
      let same = part.legal.held c h held in
      let still : burst_before shape view.signals accepts c ≡ burst_before shape view.signals accepts (suc c) = rw none refl in
      (ap (λ (l : Levels). is_raised l.read) (sym same) ∙ read, sym (ap₂ (transfer_of shape) same still))

  -- a read of a host without readdatavalid is of one word
  one_read : IsFalse has_valid → (c : ℕ) → c < end → IsTrue (is_raised (view.read c)) → IsFalse (is_raised (view.write c)) → length (reads_in (now c ∷ [])) ≡ 1
  one_read has c h read quiet =
      let kind : now c ≡ read_transfer shape (levels_at view.signals c) = rw quiet refl in
      ap (λ (t : Transfer). length (reads_in (t ∷ []))) kind
      ∙ ap length (append-nil (map (read_beat shape (levels_at view.signals c)) (numbers 0 (view.count c)))) ∙ length-map (numbers 0 (view.count c)) _ ∙ numbers_length 0 (view.count c) ∙ part.one_word has c h read

  -- where no read is ahead, no word comes
  none_comes : IsFalse has_valid → (c : ℕ) → c < end → below c ≡ accepted_by c → given_before system run host c ≡ length (reads_in (accepted_by c)) → IsFalse (comes c)
  none_comes has c h same all = by_valid (comes c) refl
    where
      by_valid : (b : Bool) → comes c ≡ b → IsFalse b
      by_valid false e = refl
      by_valid true e =
          let owed = part.owed c h in
          let count = words_count middle (suc c) in
          let more = one_word middle c ∙ ap (λ b. length (words_at middle c) + (if b then 1 else 0)) e in
          let words = same_words c (omega (arith, h)) in
          let asked = reads_marked (taken_at middle c) in
          let reads = ap (λ l. length (reads_in l)) same in
          absurd (omega (arith, owed, count, more, words, asked, reads, all))

  level_step : IsFalse has_valid → (c : ℕ) → c < end → below c ≡ accepted_by c → given_before system run host c ≡ length (reads_in (accepted_by c)) → Stands (suc c)
  level_step has c h same all = by_write (is_raised (view.write c)) refl (takes middle c) refl
    where
      quiet : IsFalse (comes c)
      quiet = none_comes has c h same all

      by_accept : (a : Bool) → IsTrue (is_raised (view.write c)) → length (reads_in (accepted_by c ++ only_if a (now c))) ≡ length (reads_in (accepted_by c))
      by_accept false w = ap (λ l. length (reads_in l)) (append-nil (accepted_by c))
      by_accept true w = let more = reads_end (accepted_by c) (now c) in let none : length (reads_in (now c ∷ [])) ≡ 0 = rw w refl in omega (arith, more, none)

      by_write : (w : Bool) → is_raised (view.write c) ≡ w → (t : Bool) → takes middle c ≡ t → Stands (suc c)
      by_write true w t taken = record { taken = inl (same_step c h same (write_passes c h w)); given = λ none. given_still c h quiet ∙ all ∙ sym (by_accept (accepts c) w) }
      by_write false w false taken =
          let none : IsFalse (accepts c) = word_passes has c h w ∙ quiet in
          record { taken = inl (same_step c h same (none ∙ sym taken)); given = λ _. given_still c h quiet ∙ all ∙ sym (ap (λ l. length (reads_in l)) (not_accepted c none)) }
      by_write false w true taken =
          let none : IsFalse (accepts c) = word_passes has c h w ∙ quiet in
          let read = first_raised (is_raised (view.read c)) (is_raised (view.write c)) (shows_host c h (takes_shows middle c taken)) w in
          record {
            taken = inr (record {
              waits = has;
              read = now c;
              taken = below_more c h true taken ∙ ap (λ l. l ++ now c ∷ []) (same ∙ sym (not_accepted c none));
              one = one_read has c h read w;
              stands = λ more. shown_still c more read none;
            });
            given = λ _. given_still c h quiet ∙ all ∙ sym (ap (λ l. length (reads_in l)) (not_accepted c none));
          }

  reads_ahead : (c : ℕ) → (a : IsAhead c) → length (reads_in (below c)) ≡ length (reads_in (accepted_by c)) + 1
  reads_ahead c a = let more = reads_end (accepted_by c) a.read in let same = ap (λ l. length (reads_in l)) a.taken in let one = a.one in omega (arith, more, same, one)

  -- while it is ahead nothing is taken below
  none_below : (c : ℕ) → c < end → (a : IsAhead c) → given_before system run host c ≡ length (reads_in (accepted_by c)) → IsFalse (is_raised (view.write c)) → IsFalse (takes middle c)
  none_below c h a all quiet =
      let count = reads_ahead c a in
      let asked = reads_marked (taken_at middle c) in
      let words = same_words c (omega (arith, h)) in
      let gone : is_gone middle c ≡ true = lt-ltb (length (words_at middle c)) (words_owed middle c) (omega (arith, count, asked, words, all)) in
      let shut : may_read system run host middle c ≡ false = ap (λ v. if v then has_room system run host c else not (is_gone middle c)) a.waits ∙ ap not gone in
      not_shown middle c (part.shown c h ∙ ap₂ (λ w m. shows view.signals c && (w || m)) quiet shut ∙ and_false (shows view.signals c))

  ahead_step : (c : ℕ) → c < end → IsAhead c → given_before system run host c ≡ length (reads_in (accepted_by c)) → Stands (suc c)
  ahead_step c h a all = by_valid (comes c) refl
    where
      read : IsTrue (is_raised (view.read c))
      read = (a.stands h).0

      quiet : IsFalse (is_raised (view.write c))
      quiet = never_both (is_raised (view.read c)) (is_raised (view.write c)) (part.legal.one_kind c h) read

      same : below (suc c) ≡ accepted_by c ++ a.read ∷ []
      same = ap (map (λ (m : Marked). m.transfer)) (none_taken middle c (none_below c h a all quiet)) ∙ a.taken

      by_valid : (b : Bool) → comes c ≡ b → Stands (suc c)
      by_valid true e =
          let accepted_now : accepted_by (suc c) ≡ accepted_by c ++ a.read ∷ [] = ap₂ (λ b t. accepted_by c ++ only_if b t) (word_passes a.waits c h quiet ∙ e) (a.stands h).1 in
          let more = given_more c h ∙ ap (λ b. given_before system run host c + (if b then 1 else 0)) e in
          let reads = ap (λ l. length (reads_in l)) accepted_now in
          let count = reads_end (accepted_by c) a.read in
          let one = a.one in
          let was = all in
          record { taken = inl (same ∙ sym accepted_now); given = λ _. omega (arith, more, reads, count, one, was) }
      by_valid false e =
          let none : IsFalse (accepts c) = word_passes a.waits c h quiet ∙ e in
          record {
            taken = inr (record {
              waits = a.waits;
              read = a.read;
              taken = same ∙ ap (λ l. l ++ a.read ∷ []) (sym (not_accepted c none));
              one = a.one;
              stands = λ more. let on = shown_still c more read none in (on.0, on.1 ∙ (a.stands h).1);
            });
            given = λ _. given_still c h e ∙ all ∙ sym (ap (λ l. length (reads_in l)) (not_accepted c none));
          }

  pub stands : (c : ℕ) → c ≤ end → Stands c
  stands zero h = record { taken = inl refl; given = λ none. refl }
  stands (suc c) h = by_kind has_valid refl (stands c (omega (arith, h)))
    where
      fit : c < end
      fit = omega (arith, h)

      by_kind : (b : Bool) → has_valid ≡ b → Stands c → Stands (suc c)
      by_kind true has s = record { taken = inl (next s.taken); given = λ none. absurd (both_ways has_valid none has) }
        where
          next : (below c ≡ accepted_by c) ⊎ IsAhead c → below (suc c) ≡ accepted_by (suc c)
          next (inl same) = same_step c fit same (valid_passes has c fit)
          next (inr a) = absurd (both_ways has_valid a.waits has)
      by_kind false has s = by_taken s.taken
        where
          by_taken : (below c ≡ accepted_by c) ⊎ IsAhead c → Stands (suc c)
          by_taken (inl same) = level_step has c fit same (s.given has)
          by_taken (inr a) = ahead_step c fit a (s.given has)

  -- where no read is ahead and there is room, a read is shown below
  pub may_read_level : (c : ℕ) → c < end → below c ≡ accepted_by c → IsTrue (has_room system run host c) → IsTrue (may_read system run host middle c)
  may_read_level c h same room = by_kind has_valid refl
    where
      by_kind : (b : Bool) → has_valid ≡ b → IsTrue (may_read system run host middle c)
      by_kind true has = ap (λ v. if v then has_room system run host c else not (is_gone middle c)) has ∙ room
      by_kind false has =
          let all = (stands c (omega (arith, h))).given has in
          let words = same_words c (omega (arith, h)) in
          let asked = reads_marked (taken_at middle c) in
          let reads = ap (λ l. length (reads_in l)) same in
          let none : words_owed middle c ≤ length (words_at middle c) = omega (arith, all, words, asked, reads) in
          let here : is_gone middle c ≡ false = grind (arith, tests, none) in
          ap (λ v. if v then has_room system run host c else not (is_gone middle c)) has ∙ ap not here

  -- ---- the next word, at the host and below

  pub from_host : (place : Option ℕ) (n : ℕ) → n ≤ end → IsTrue (next_at place (given_before system run host n) (asked_among system host (accepted_by n))) → IsTrue (next_at place (length (words_at middle n)) (asked_among system host (below n)))
  from_host place n h next = subst (λ k. IsTrue (next_at place k (asked_among system host (below n)))) (sym (same_words n h)) (by_taken (stands n h).taken)
    where
      by_taken : (below n ≡ accepted_by n) ⊎ IsAhead n → IsTrue (next_at place (given_before system run host n) (asked_among system host (below n)))
      by_taken (inl same) = subst (λ l. IsTrue (next_at place (given_before system run host n) (asked_among system host l))) (sym same) next
      by_taken (inr a) =
          subst (λ l. IsTrue (next_at place (given_before system run host n) (asked_among system host l))) (sym a.taken)
          (subst (λ l. IsTrue (next_at place (given_before system run host n) l)) (sym (asked_append system host (accepted_by n) (a.read ∷ [])))
          (next_stays place (given_before system run host n) (asked_among system host (accepted_by n)) (asked_among system host (a.read ∷ [])) next))

  -- what the host has presented begins with what was taken below
  presented_more : (c : ℕ) → c < end → (rest : List Transfer) × (host_transfers system run host (suc c) ≡ below c ++ rest)
  presented_more c h = by_taken (stands c (omega (arith, h))).taken
    where
      by_taken : (below c ≡ accepted_by c) ⊎ IsAhead c → (rest : List Transfer) × (host_transfers system run host (suc c) ≡ below c ++ rest)
      by_taken (inl same) = (only_if (shows view.signals c) (now c), presented_is system run host end part.legal c h ∙ ap (λ l. l ++ only_if (shows view.signals c) (now c)) (sym same))
      by_taken (inr a) =
          let shown : IsTrue (shows view.signals c) = ap (λ r. r || is_raised (view.write c)) (a.stands h).0 in
          ([], presented_is system run host end part.legal c h ∙ ap₂ (λ b t. accepted_by c ++ only_if b t) shown (a.stands h).1 ∙ sym a.taken ∙ sym (append-nil (below c)))

  -- a word that comes is given to the host in its cycle
  pub given_now : (place : Option ℕ) (c : ℕ) → c < end → IsTrue (next_at place (length (words_at middle c)) (asked_among system host (below c))) → IsTrue (comes c) → IsTrue (is_given_from system run place c host)
  given_now place c h next valid =
      let more = presented_more c h in
      both _ _ (part.gives c h ∙ valid)
      (subst (λ k. IsTrue (next_at place k (asked system run host (suc c)))) (same_words c (omega (arith, h)))
      (subst (λ l. IsTrue (next_at place (length (words_at middle c)) (asked_among system host l))) (sym more.1)
      (subst (λ l. IsTrue (next_at place (length (words_at middle c)) l)) (sym (asked_append system host (below c) more.0))
      (next_stays place (length (words_at middle c)) (asked_among system host (below c)) (asked_among system host more.0) next))))

  -- the read that is ahead is owed the next word
  pub next_ahead : (c : ℕ) → c < end → IsAhead c → (place : Option ℕ) → place_of system host (now c) ≡ place → IsTrue (next_at place (length (words_at middle c)) (asked_among system host (below c)))
  next_ahead c h a place is =
      subst (λ l. IsTrue (list_any (λ (q : Asked). is_place place q.place) (take 1 l))) (sym past)
      (subst (λ l. IsTrue (next_at place 0 l)) (append-nil own) (next_here place 0 own [] all some))
    where
      own : List Asked
      own = asked_among system host (a.read ∷ [])

      before : List Asked
      before = asked_among system host (accepted_by c)

      all : IsTrue (list_all (λ (q : Asked). is_place place q.place) own)
      all = subst (λ p. IsTrue (list_all (λ (q : Asked). is_place p q.place) own)) (ap (place_of system host) (sym (a.stands h).1) ∙ is) (all_of_transfer system host a.read)

      some : 0 < length own
      some = let count = asked_length system host (a.read ∷ []) in let one = a.one in omega (arith, count, one)

      words : length (words_at middle c) ≡ length before
      words = same_words c (omega (arith, h)) ∙ (stands c (omega (arith, h))).given a.waits ∙ sym (asked_length system host (accepted_by c))

      past : drop (length (words_at middle c)) (asked_among system host (below c)) ≡ own
      past =
          ap (drop (length (words_at middle c))) (ap (asked_among system host) a.taken ∙ asked_append system host (accepted_by c) (a.read ∷ []))
          ∙ drop_past (length (words_at middle c)) before own (let same = words in omega (arith, same))
          ∙ ap (λ n. drop n own) (let same = words in let none : length (words_at middle c) - length before ≡ 0 = omega (arith, same) in none)
