-- A row of links that shows first beats promptly shows an operation of a waiting command before the arbiter within a few cycles.
use Rattle.std.proofs.Common.{ℕ, zero, suc, ◌<◌, ◌≤◌, ◌≡◌, ◌+◌, ◌-◌, min, Bool, true, false, not, ◌&&◌, ◌||◌, List, [], ◌∷◌, ◌++◌, length, map, take, nat_eq, nat_lt, if◌then◌else◌, arith, refl, sym, ap, ap₂, subst, ◌∙◌, append_assoc, append-nil, length-append, tests, IsTrue, IsFalse, Option, Some, None, inl, inr, ◌⊎◌, slice_get}
use Rattle.std.specs.List.{list_any}
use Rattle.std.proofs.lemmas.Bool.{and_parts}
use Rattle.std.proofs.lemmas.List.Elements.{filter-append}
use Rattle.std.proofs.Math.Seq.{take-append-add}
use Rattle.histories.specs.History.{IsPrefix, only_if, is_raised}
use Rattle.histories.specs.Laws.{prefix_length, prefix_flat_map, prefix_filter}
use Rattle.memory_runs.specs.Views.{System, Run, Shape}
use Rattle.memory_runs.specs.Operations.{Beat, filled_of_piece, filled_lanes, piece_bytes}
use Rattle.memory_runs.specs.Commands.{Transfer, shows, transfer_at, is_of_reads}
use Rattle.memory_runs.specs.Legal.{IsLegalHost, host_accepts}
use Rattle.memory_runs.specs.Order.{Asked, is_agent, place_of, host_transfers, for_agent, of_host, taken, issued}
use Rattle.memory_runs.specs.Awake.{is_place, count_for, may_be_counted, has_first_word, up_to, is_finished}
use Rattle.memory_machines.specs.Link.{Port, Marked, taken_at, shown_at, marked_at, is_last_joined, operations_in, operations_among, read_beats, words_at, AreLegalAt}
use Rattle.memory_machines.specs.Lines.{TaggedPort, target_of, host_accepted, asked_among}
use Rattle.memory_machines.specs.Straight.{begins_alone, may_be_prompt, has_first_lane, are_taken_below, are_answered, shows_after, IsShownPromptly}
use Rattle.memory_parts.specs.Steps.{IsHostPart, IsRoutePart, IsArbiterPart}
use Rattle.memory_awake.specs.Fair.{BeginsByTurns, WaitsAlone, WaitsThere, ShowsOperation}
use Rattle.memory_awake.proofs.Bits.{no_true}
use Rattle.memory_awake.proofs.Beats.{asked_append, asked_length}
use Rattle.memory_awake.proofs.Numbers.{chosen, none_above, reads_in, all_at, ops_for, ops_count, of_is, one_place, any_of_all, whole, whole_steady, each_holds, earlier_given, reads_length}
use Rattle.memory_awake.proofs.Places.{counts, cnt, cnt_append}
use Rattle.memory_awake.proofs.Standing.{IsAhead, same_words, stands}
use Rattle.memory_awake.proofs.Wanted.{own_taken, tagged_of_host}
use Rattle.memory_awake.proofs.FairAgent.{same_front}
use Rattle.memory_awake.proofs.FairOwners.{Every}
use Rattle.memory_awake.proofs.FairPassing.{shorter_front}
use Rattle.memory_awake.proofs.FairPrompt.{MapSplit, map_split, every_front, every_at, every_end, get_there, take_there, first_lane, shown_now, stands_below, same_now, more_now, its_transfers, all_more, ops_of, reads_of}
use Rattle.memory_awake.proofs.FairQuiet.{before_it, count_up, same_before, enough_taken}
use Rattle.memory_awake.proofs.FairSplit.{SplitAt, split_at, last_open, last_ends, last_joined_is}
use Rattle.memory_awake.proofs.FairWired.{asks_there, none_open}

counted_begins : (b r x : Bool) → IsTrue (b && r && x) → IsTrue b × IsTrue r × IsTrue x
counted_begins true true true h = (refl, refl, refl)
counted_begins true true false h = absurd cc
counted_begins true false x h = absurd cc
counted_begins false r x h = absurd cc

prompt_so : (r e n a more mb : Bool) → IsTrue (r || e || n || a) → more ≡ not e → (IsTrue (n || a) → IsTrue mb) → IsTrue (r || (e && not more) || mb)
prompt_so true e n a more mb may is go = refl
prompt_so false true n a true mb may is go = absurd cc
prompt_so false true n a false mb may is go = refl
prompt_so false false n a more mb may is go = go may

three : (a b c : Bool) → IsTrue a → IsTrue b → IsTrue c → IsTrue (a && b && c)
three true true true a b c = refl
three true true false a b c = absurd cc
three true false z a b c = absurd cc
three false y z a b c = absurd cc

two : (a b : Bool) → IsTrue a → IsTrue b → IsTrue (a && b)
two true true a b = refl
two true false a b = absurd cc
two false y a b = absurd cc

-- a front within what is taken
pub taken_front : (a w : ℕ) (xs ys : List Asked) → length xs ≤ w → cnt a xs ≤ cnt a (take w (xs ++ ys))
taken_front a w xs ys long =
    let split : length xs + (w - length xs) ≡ w = omega (arith, long) in
    let same = ap (cnt a) (ap (λ n. take n (xs ++ ys)) (sym split) ∙ take-append-add xs ys (w - length xs)) ∙ cnt_append a xs (take (w - length xs) ys) in
    omega (arith, same)

module _ (system : System) (run : Run) (host agent : ℕ) (middle : Port) (down : ℕ → Port) (end : ℕ) (there : agent < system.agents) (part : IsHostPart system run host middle end) (route : IsRoutePart system host middle down end)
    (low : Port) (legal_low : AreLegalAt low end) (few : ℕ) (may_burst : Bool) (prompt : IsShownPromptly few may_burst (target_of system agent) (down agent) low end)
    (bursts : IsTrue (not (system.host host).has_enables || (system.agent agent).has_enables) → IsTrue may_burst) (words : low.shape.word_bytes ≡ (system.agent agent).shape.word_bytes)
    (there_taken : (c : ℕ) → c ≤ end → length (of_host host (taken system run agent c)) ≤ length (operations_among (target_of system agent) low.shape (taken_at low c)))
    (c : ℕ) (fit : c + few < end)
    (waits_ask : WaitsAlone system run agent host c → IsFalse (shows (down agent).commands.signals c) → length (issued system run host agent (suc c)) ≤ length (operations_among (target_of system agent) (down agent).shape (taken_at (down agent) c))) where
  abbrev top : Port
  top = down agent

  abbrev legal : IsLegalHost (system.host host) (run.at_host host) end
  legal = part.legal

  abbrev inside : c < end
  inside = omega (arith, fit)

  abbrev accepted_by : List Transfer
  accepted_by = host_accepted system run host c

  abbrev now : Transfer
  now = transfer_at (system.host host).shape (run.at_host host).signals (host_accepts (run.at_host host)) c

  abbrev all : List Transfer
  all = whole system run host end legal c

  test : Transfer → Bool
  test t = may_be_counted system host agent t && is_place (Some agent) (place_of system host t)

  begins_so : (t : Transfer) → IsTrue (test t) → IsTrue t.begins
  unfolding test
  begins_so t h = (counted_begins t.begins _ (has_first_word system host agent t) (and_parts (may_be_counted system host agent t) (is_place (Some agent) (place_of system host t)) h).0).0

  any_test : (ts : List Transfer) → IsTrue (list_any (may_be_counted system host agent) ts) → IsTrue (all_at system host (Some agent) ts) → IsTrue (list_any test ts)
  unfolding test
  any_test [] any placed = any
  any_test (t ∷ ts) any placed = by_first (may_be_counted system host agent t) refl any (λ more. any_test ts more parts.1)
    where
      parts : IsTrue (is_place (Some agent) (place_of system host t)) × IsTrue (all_at system host (Some agent) ts)
      parts = and_parts (is_place (Some agent) (place_of system host t)) _ placed

      or_right : (a : Bool) {b : Bool} → IsTrue b → IsTrue (a || b)
      or_right true b = refl
      or_right false b = b

      by_first : (x : Bool) → may_be_counted system host agent t ≡ x → IsTrue (x || list_any (may_be_counted system host agent) ts) → (IsTrue (list_any (may_be_counted system host agent) ts) → IsTrue (list_any (λ t. may_be_counted system host agent t && is_place (Some agent) (place_of system host t)) ts)) →
          IsTrue ((may_be_counted system host agent t && is_place (Some agent) (place_of system host t)) || list_any (λ t. may_be_counted system host agent t && is_place (Some agent) (place_of system host t)) ts)
      by_first true e any more = rw (e, parts.0) refl
      by_first false e any more = or_right (may_be_counted system host agent t && is_place (Some agent) (place_of system host t)) (more any)

  -- what stands behind the route by the end of the cycle, up to the first transfer of a command
  record Behind (front : List Transfer) (first : Transfer) : Type 0 where
    shown : List Marked
    before : IsPrefix shown (shown_at top (suc c))
    rest : List Transfer
    same : map (λ (m : Marked). m.transfer) shown ≡ for_agent system host agent (front ++ first ∷ rest)
    more : Every (λ m. m.more ≡ not m.transfer.ends) shown
    above : IsPrefix front (map (λ (m : Marked). m.transfer) (taken_at middle c))

  taken_before : IsPrefix (taken_at top c) (shown_at top (suc c))
  taken_before = record { rest = only_if (shows top.commands.signals c) (marked_at top c); joins = sym (shown_now top end c (route.legal agent there) inside) }

  module _ (k : ℕ) (waits : WaitsThere system run agent low host (suc k) c) where
    abbrev earlier : ℕ
    earlier = before_it system run host end legal agent there k c

    split : SplitAt system host test begins_so None k 1 all
    split = split_at system host test begins_so None k 1 all (whole_steady system run host end legal c inside) (let zeroth = none_open system host in omega (arith, zeroth))
        (any_test (chosen (λ i. nat_eq i (suc k)) 1 all) (subst (λ l. IsTrue (list_any (may_be_counted system host agent) l)) (of_is system run host end legal c (suc k) inside) waits.counted) placed)
      where
        one : (p : Option ℕ) × IsTrue (all_at system host p (chosen (λ i. nat_eq i (suc k)) 1 all))
        one = one_place system host None (suc k) 1 all (whole_steady system run host end legal c inside)

        placed : IsTrue (all_at system host (Some agent) (chosen (λ i. nat_eq i (suc k)) 1 all))
        placed =
            let any = subst (λ l. IsTrue (list_any (λ (t : Transfer). is_place (Some agent) (place_of system host t)) l)) (of_is system run host end legal c (suc k) inside) waits.presented in
            subst (λ p. IsTrue (all_at system host p (chosen (λ i. nat_eq i (suc k)) 1 all))) (any_of_all system host one.0 (Some agent) (chosen (λ i. nat_eq i (suc k)) 1 all) one.1 any) one.1

    abbrev front : List Transfer
    front = split.front

    abbrev first : Transfer
    first = split.first

    first_is : IsTrue (may_be_counted system host agent first) × IsTrue (is_agent agent (place_of system host first))
    unfolding test
    first_is = and_parts (may_be_counted system host agent first) (is_place (Some agent) (place_of system host first)) split.tested

    front_ops : count_for system host agent front ≡ earlier
    front_ops = ops_count system host agent front ∙ ap (ops_for system host agent) (sym split.below)

    behind : Behind front first
    behind = by_taken (stands system run host middle end part c (omega (arith, fit))).taken
      where
        own : map (λ (m : Marked). m.transfer) (taken_at top c) ≡ for_agent system host agent (map (λ (m : Marked). m.transfer) (taken_at middle c))
        own = its_transfers system run host agent middle down end there part route c (omega (arith, fit))

        from_taken : (rest : List Transfer) → map (λ (m : Marked). m.transfer) (taken_at middle c) ≡ front ++ first ∷ rest → Behind front first
        from_taken rest is = record { shown = taken_at top c; before = taken_before; rest = rest; same = own ∙ ap (for_agent system host agent) is; more = all_more system run host agent middle down end there part route c (omega (arith, fit)); above = record { rest = first ∷ rest; joins = sym is } }

        -- its first transfer is the one that is shown
        from_shown : map (λ (m : Marked). m.transfer) (taken_at middle c) ≡ accepted_by → front ≡ accepted_by → first ≡ now → Behind front first
        from_shown same_taken same_front same_first =
            let gone : length (operations_among (target_of system agent) top.shape (taken_at top c)) ≡ count_for system host agent front =
            ops_of system run host agent middle down end there part route (taken_at top c) front (own ∙ ap (for_agent system host agent) (same_taken ∙ sym same_front)) in
            let count = count_up system run host end legal agent there k c inside in
            let number : suc k - 1 ≡ k = omega arith in
            let count_is = ap (λ n. count_for system host agent (up_to n (host_transfers system run host (suc c)))) number in
            let ops_is = front_ops in
            let asks = asks_there system run host agent middle down end there part route c inside waits_ask (suc k) (record { presented = waits.presented; counted = waits.counted; earlier = waits.earlier; untaken = omega (arith, gone, count, count_is, ops_is) }) in
            let shown_is : shown_at top (suc c) ≡ taken_at top c ++ marked_at top c ∷ [] = shown_now top end c (route.legal agent there) inside ∙ ap (λ b. taken_at top c ++ only_if b (marked_at top c)) asks.0 in
            let transfer = same_now system run host agent middle down end there part route c inside asks.0 in
            record {
              shown = taken_at top c ++ marked_at top c ∷ [];
              before = record { rest = []; joins = append-nil (taken_at top c ++ marked_at top c ∷ []) ∙ sym shown_is };
              rest = [];
              same =
                  map_end (taken_at top c) (marked_at top c) ∙ ap₂ (λ (l : List Transfer) (t : Transfer). l ++ t ∷ []) (own ∙ ap (for_agent system host agent) (same_taken ∙ sym same_front)) (transfer ∙ sym same_first)
                  ∙ sym (filter-append (λ (t : Transfer). is_agent agent (place_of system host t)) front (first ∷ []) ∙ ap (λ b. for_agent system host agent front ++ (if b then first ∷ [] else [])) first_is.1);
              more = every_end (λ m. m.more ≡ not m.transfer.ends) (taken_at top c) (marked_at top c) (all_more system run host agent middle down end there part route c (omega (arith, fit))) (more_now system run host agent middle down end there part route c inside asks.0);
              above = record { rest = []; joins = append-nil front ∙ same_front ∙ sym same_taken };
            }
          where
            map_end : (xs : List Marked) (m : Marked) → map (λ (m : Marked). m.transfer) (xs ++ m ∷ []) ≡ map (λ (m : Marked). m.transfer) xs ++ m.transfer ∷ []
            map_end [] m = refl
            map_end (x ∷ xs) m = ap (λ l. x.transfer ∷ l) (map_end xs m)

        by_accepted : map (λ (m : Marked). m.transfer) (taken_at middle c) ≡ accepted_by → (s : Bool) → shows (run.at_host host).signals c ≡ s → (b : Bool) → nat_lt (length front) (length accepted_by) ≡ b → Behind front first
        by_accepted same s es true e =
            let short : suc (length front) ≤ length accepted_by = grind (arith, tests, e) in
            let one = length-append front (first ∷ []) in
            let within = shorter_front (front ++ first ∷ []) accepted_by split.rest (only_if (shows (run.at_host host).signals c) now) (append_assoc front (first ∷ []) split.rest ∙ split.joins) (omega (arith, short, one)) in
            from_taken within.rest (same ∙ sym within.joins ∙ append_assoc front (first ∷ []) within.rest)
        by_accepted same false es false e =
            let long : length accepted_by ≤ length front = grind (arith, tests, e) in
            let lengths = ap length (split.joins ∙ ap (λ s. accepted_by ++ only_if s now) es) in
            let one = length-append front (first ∷ split.rest) in
            let none = length-append accepted_by [] in
            absurd (omega (arith, long, lengths, one, none))
        by_accepted same true es false e =
            let long : length accepted_by ≤ length front = grind (arith, tests, e) in
            let joins : front ++ first ∷ split.rest ≡ accepted_by ++ now ∷ [] = split.joins ∙ ap (λ s. accepted_by ++ only_if s now) es in
            let lengths = ap length joins in
            let one = length-append front (first ∷ split.rest) in
            let last = length-append accepted_by (now ∷ []) in
            let equal : front ≡ accepted_by = same_front front accepted_by (first ∷ split.rest) (now ∷ []) joins (omega (arith, long, lengths, one, last)) in
            from_shown same equal (last_same front accepted_by joins equal)
          where
            last_same : (xs ys : List Transfer) → xs ++ first ∷ split.rest ≡ ys ++ now ∷ [] → xs ≡ ys → first ≡ now
            last_same [] [] e s = cc
            last_same [] (y ∷ ys) e s = absurd cc
            last_same (x ∷ xs) [] e s = absurd cc
            last_same (x ∷ xs) (y ∷ ys) e s = let tail : xs ++ first ∷ split.rest ≡ ys ++ now ∷ [] = cc in let rest : xs ≡ ys = cc in last_same xs ys tail rest

        by_taken : (map (λ (m : Marked). m.transfer) (taken_at middle c) ≡ host_accepted system run host c) ⊎ IsAhead system run host middle end part c → Behind front first
        by_taken (inl same) = by_accepted same (shows (run.at_host host).signals c) refl (nat_lt (length front) (length accepted_by)) refl
        by_taken (inr ahead) =
            let shown : IsTrue (shows (run.at_host host).signals c) = ap (λ r. r || is_raised ((run.at_host host).write c)) (ahead.stands inside).0 in
            from_taken split.rest (ahead.taken ∙ ap₂ (λ b t. accepted_by ++ only_if b t) (sym shown) (sym (ahead.stands inside).1) ∙ sym split.joins)

    -- the transfers before it, and its own
    parts : MapSplit behind.shown (for_agent system host agent front) first
    parts = map_split behind.shown (for_agent system host agent front) first (for_agent system host agent behind.rest)
        (behind.same ∙ filter-append (λ (t : Transfer). is_agent agent (place_of system host t)) front (first ∷ behind.rest) ∙ ap (λ b. for_agent system host agent front ++ (if b then first ∷ for_agent system host agent behind.rest else for_agent system host agent behind.rest)) first_is.1)

    its_ops : length (operations_among (target_of system agent) top.shape parts.front) ≡ earlier
    its_ops = ops_of system run host agent middle down end there part route parts.front front parts.same ∙ front_ops

    all_there : parts.front ++ parts.one ∷ (parts.rest ++ behind.before.rest) ≡ shown_at top (suc c)
    all_there = sym (append_assoc parts.front (parts.one ∷ parts.rest) behind.before.rest) ∙ ap (λ l. l ++ behind.before.rest) parts.joins ∙ behind.before.joins

    got : slice_get (shown_at top (suc c)) (length parts.front) ≡ Some parts.one
    got = subst (λ l. slice_get l (length parts.front) ≡ Some parts.one) all_there (get_there parts.front (parts.rest ++ behind.before.rest) parts.one)

    front_is : take (length parts.front) (shown_at top (suc c)) ≡ parts.front
    front_is = subst (λ l. take (length parts.front) l ≡ parts.front) all_there (take_there parts.front (parts.one ∷ (parts.rest ++ behind.before.rest)))

    each_more : Every (λ m. m.more ≡ not m.transfer.ends) (parts.front ++ parts.one ∷ parts.rest)
    each_more = subst (Every (λ m. m.more ≡ not m.transfer.ends)) (sym parts.joins) behind.more

    counted_is : IsTrue first.begins × IsTrue (is_of_reads first.kind || first.ends || not (system.host host).has_enables || (system.agent agent).has_enables) × IsTrue (has_first_word system host agent first)
    counted_is = counted_begins first.begins (is_of_reads first.kind || first.ends || not (system.host host).has_enables || (system.agent agent).has_enables) (has_first_word system host agent first) first_is.0

    alone : IsTrue (begins_alone parts.front parts.one)
    alone = two parts.one.transfer.begins (not (is_last_joined parts.front)) (ap (λ (t : Transfer). t.begins) parts.first ∙ counted_is.0)
        (ap not (last_joined_is parts.front (every_front (λ m. m.more ≡ not m.transfer.ends) parts.front (parts.one ∷ parts.rest) each_more) ∙ ap last_open parts.same
        ∙ last_ends system host agent None front split.steady split.closed))

    may : IsTrue (may_be_prompt may_burst parts.one)
    may = prompt_so (is_of_reads parts.one.transfer.kind) parts.one.transfer.ends (not (system.host host).has_enables) (system.agent agent).has_enables parts.one.more may_burst
        (subst (λ (t : Transfer). IsTrue (is_of_reads t.kind || t.ends || not (system.host host).has_enables || (system.agent agent).has_enables)) (sym parts.first) counted_is.1)
        (every_at (λ m. m.more ≡ not m.transfer.ends) parts.front parts.one parts.rest each_more) bursts

    lane : IsTrue (has_first_lane (target_of system agent) top.shape low.shape parts.one)
    lane = subst (λ (t : Transfer). IsTrue (list_any (λ (b : Beat). list_any (λ lane. nat_lt lane (piece_bytes top.shape low.shape)) (filled_lanes top.shape (system.agent agent).shape b.enables)) (take 1 t.beats))) (sym parts.first) (by_beats first.beats counted_is.2)
      where
        bytes : (system.host host).shape.word_bytes ≡ top.shape.word_bytes
        bytes = sym part.bytes ∙ sym (ap (λ (s : Shape). s.word_bytes) (route.shape agent there))

        size : piece_bytes (system.host host).shape (system.agent agent).shape ≡ piece_bytes top.shape low.shape
        size = ap₂ (λ a b. min a b) bytes (sym words)

        by_beats : (beats : List Beat) → IsTrue (list_any (λ beat. nat_lt 0 (length (filled_of_piece (system.host host).shape (system.agent agent).shape beat.enables 0))) (take 1 beats)) →
            IsTrue (list_any (λ (b : Beat). list_any (λ lane. nat_lt lane (piece_bytes top.shape low.shape)) (filled_lanes top.shape (system.agent agent).shape b.enables)) (take 1 beats))
        by_beats [] none = none
        by_beats (b ∷ beats) some = by_first (nat_lt 0 (length (filled_of_piece (system.host host).shape (system.agent agent).shape b.enables 0))) refl some
          where
            by_first : (x : Bool) → nat_lt 0 (length (filled_of_piece (system.host host).shape (system.agent agent).shape b.enables 0)) ≡ x → IsTrue (x || false) →
                IsTrue (list_any (λ lane. nat_lt lane (piece_bytes top.shape low.shape)) (filled_lanes top.shape (system.agent agent).shape b.enables) || false)
            by_first false e none = absurd (no_true none)
            by_first true e some =
                let more : 0 < length (filled_of_piece (system.host host).shape (system.agent agent).shape b.enables 0) = grind (arith, tests, e) in
                let here = first_lane (system.host host).shape (system.agent agent).shape b.enables more in
                let there_too = subst (λ n. IsTrue (list_any (λ lane. nat_lt lane n) (filled_lanes (system.host host).shape (system.agent agent).shape b.enables))) size here in
                let moved : list_any (λ lane. nat_lt lane (piece_bytes top.shape low.shape)) (filled_lanes top.shape (system.agent agent).shape b.enables) ≡ true =
                ap (λ n. list_any (λ lane. nat_lt lane (piece_bytes top.shape low.shape)) (filled_lanes (record { word_bytes = n; unit_bytes = 1; burst_bits = 1; has_enables = true }) (system.agent agent).shape b.enables)) (sym bytes) ∙ there_too in
                rw moved refl

    each_done : (j : ℕ) → 1 ≤ j → j ≤ k → IsTrue (is_finished system run host j c)
    each_done j least most = each_holds (λ earlier. is_finished system run host earlier c) 1 (suc k - 1) j waits.earlier least (omega (arith, most))

    taken_there : IsTrue (are_taken_below (target_of system agent) top low parts.front c)
    taken_there =
        let ops = its_ops in
        let all = enough_taken system run host end legal agent there k c inside waits.earlier in
        let more = there_taken c (omega (arith, fit)) in
        (let less : length (operations_among (target_of system agent) top.shape parts.front) ≤ length (operations_among (target_of system agent) low.shape (taken_at low c)) = omega (arith, ops, all, more) in grind (arith, tests, less))

    answered_there : IsTrue (are_answered top parts.front c)
    answered_there =
        let reads = reads_of system run host agent middle down end there part route parts.front front parts.same in
        let come = (counts system host middle down end route c (omega (arith, fit))).words agent there in
        let given = earlier_given system run host end legal c k inside each_done in
        let given_is = same_words system run host middle end part c (omega (arith, fit)) in
        let asked = asked_length system host front in
        let count = reads_length system host front in
        let below = ap reads_in split.below in
        let front_in = taken_front agent (length (words_at middle c)) (asked_among system host front) (asked_among system host behind.above.rest) (omega (arith, given, given_is, asked, count, below)) in
        let whole_is = ap (λ l. cnt agent (take (length (words_at middle c)) l)) (sym (asked_append system host front behind.above.rest) ∙ ap (asked_among system host) behind.above.joins) in
        (let less : length (read_beats parts.front) ≤ length (words_at top c) = omega (arith, reads, come, front_in, whole_is) in grind (arith, tests, less))

    -- within a few cycles an operation stands before the arbiter
    pub shows_soon : WaitsThere system run agent low host (suc k) (c + few) → ShowsOperation (target_of system agent) low (c + few)
    shows_soon later =
        let shown = prompt.shown c (length parts.front) parts.one fit got
        (subst (λ l. IsTrue (begins_alone l parts.one && may_be_prompt may_burst parts.one && has_first_lane (target_of system agent) top.shape low.shape parts.one)) (sym front_is) (three (begins_alone parts.front parts.one) (may_be_prompt may_burst parts.one) (has_first_lane (target_of system agent) top.shape low.shape parts.one) alone may lane))
        (subst (λ l. IsTrue (are_taken_below (target_of system agent) top low l c && are_answered top l c)) (sym front_is) (two (are_taken_below (target_of system agent) top low parts.front c) (are_answered top parts.front c) taken_there answered_there)) in
        let after = subst (λ l. IsTrue (shows_after (target_of system agent) top low l (c + few))) front_is shown in
        let more : length (operations_among (target_of system agent) top.shape parts.front) < length (operations_among (target_of system agent) low.shape (shown_at low (suc (c + few)))) = grind (arith, tests, after) in
        let ops = its_ops in
        let same = same_before system run host end legal agent there k c inside waits.earlier (c + few) (omega arith) fit in
        let untaken = later.untaken in
        stands_below (target_of system agent) low end (c + few) earlier legal_low fit (omega (arith, untaken, same)) (omega (arith, more, ops))

  pub asks_soon : (number : ℕ) → WaitsThere system run agent low host number c → WaitsThere system run agent low host number (c + few) → ShowsOperation (target_of system agent) low (c + few)
  asks_soon zero waits later =
      let none = of_is system run host end legal c 0 inside ∙ none_above system host (λ i. nat_eq i 0) 1 all (λ i above. grind (arith, tests, above)) in
      absurd (no_true (subst (λ l. IsTrue (list_any (λ (t : Transfer). is_place (Some agent) (place_of system host t)) l)) none waits.presented))
  asks_soon (suc k) waits later = shows_soon k waits later

-- what an agent has taken of a host was taken before its arbiter
pub taken_at_arbiter : (system : System) (run : Run) (agent : ℕ) (up : ℕ → Port) (near far : TaggedPort) (end : ℕ) → BeginsByTurns system run agent near far end → IsArbiterPart system agent up far end → (host : ℕ) → host < system.hosts →
    (up host).shape.word_bytes ≡ far.shape.word_bytes → (c : ℕ) → c ≤ end → length (of_host host (taken system run agent c)) ≤ length (operations_among (target_of system agent) (up host).shape (taken_at (up host) c))
taken_at_arbiter system run agent up near far end begins arbiter host is_host words c fit =
    let near_is = ap (λ l. length (of_host host l)) (begins.operations c fit) ∙ tagged_of_host (target_of system agent) far.shape (taken_at near.port c) host in
    let less = prefix_length (prefix_flat_map (operations_in (target_of system agent) far.shape) (prefix_filter (λ (m : Marked). nat_eq m.tag host) (begins.pipe c fit))) in
    let far_is = own_taken system agent up far end arbiter (target_of system agent) host is_host words c fit in
    omega (arith, near_is, less, far_is)
