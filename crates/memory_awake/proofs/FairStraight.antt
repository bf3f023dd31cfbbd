-- A row of links through which plain commands go straight, in step, hands on the writes of a host that writes plainly.
use Rattle.std.proofs.Common.{ℕ, zero, suc, ◌<◌, ◌≤◌, ◌≡◌, ◌+◌, ◌-◌, ◌*◌, ◌/◌, min, Bool, true, false, not, ◌&&◌, ◌||◌, List, [], ◌∷◌, ◌++◌, length, map, filter, flat_map, take, nat_eq, nat_le, nat_lt, if◌then◌else◌, arith, refl, sym, ap, ap₂, subst, ◌∙◌, append-nil, length-append, tests, IsTrue, IsFalse, Option, Some, None, inl, inr, ◌⊎◌}
use Rattle.std.specs.List.{list_any, list_all}
use Rattle.std.proofs.Math.Nat.{div-le_self}
use Rattle.std.proofs.lemmas.List.{length-map}
use Rattle.std.proofs.lemmas.Bool.{and_parts}
use Rattle.histories.specs.History.{only_if, is_raised, numbers, standing, stands_on}
use Rattle.histories.specs.Laws.{before_prefix, prefix_length}
use Rattle.memory_runs.specs.Views.{System, Run, Shape}
use Rattle.memory_runs.specs.Views.Kind.{Writes}
use Rattle.memory_runs.specs.Operations.{Beat, filled_of_piece, filled_lanes, lanes_of_piece, piece_bytes, is_enabled, pieces}
use Rattle.memory_runs.specs.Commands.{Transfer, shows, transfer_at, is_of_reads, burst_before, read_beats as reads_of_transfers}
use Rattle.memory_runs.specs.Laws.{same_pieces}
use Rattle.memory_runs.specs.Legal.{IsLegalHost, host_accepts}
use Rattle.memory_runs.specs.Order.{is_agent, place_of, transfer_operations, for_agent, of_host, taken}
use Rattle.memory_runs.specs.Awake.{commands_begun, are_finished_before, is_finished, shows_plain_write}
use Rattle.memory_machines.specs.Link.{Target, Port, Marked, takes, taken_at, marked_at, closes, is_last_joined, is_nonempty, operations_in, operations_among, beat_operations, read_beats, words_at, AreLegalAt}
use Rattle.memory_machines.specs.Lines.{target_of, host_accepted, asked_among}
use Rattle.memory_machines.specs.SideLaws.{marked_keeps}
use Rattle.memory_machines.specs.Straight.{earlier_shown, has_lane, begins_alone, is_plain, shows_plain, are_answered, are_just_taken, GoesStraightThrough}
use Rattle.memory_links.specs.InStep.{is_next, GoesInStep}
use Rattle.memory_parts.specs.Steps.{IsHostPart, IsRoutePart}
use Rattle.memory_awake.specs.Fair.{IsPlainAt, EndsThere}
use Rattle.memory_awake.proofs.Bits.{one_taken, none_taken, last_joined_end}
use Rattle.memory_awake.proofs.Beats.{ops_append, asked_length, read_beats_append}
use Rattle.memory_awake.proofs.Numbers.{chosen, ends_in, after, after_one, ops_for, ops_count, whole, each_holds, earlier_given, reads_in, reads_length, within, stands as stands_by_number}
use Rattle.memory_awake.proofs.Places.{counts, cnt}
use Rattle.memory_awake.proofs.Standing.{IsAhead, same_words, stands}
use Rattle.memory_awake.proofs.FairPrompt.{shown_now, take_there, same_now, its_transfers, all_more, ops_of, reads_of}
use Rattle.memory_awake.proofs.FairQuiet.{earlier_taken}
use Rattle.memory_awake.proofs.FairRow.{taken_front}
use Rattle.memory_awake.proofs.FairSplit.{last_open, last_ends, last_joined_is}
use Rattle.memory_awake.proofs.FairWired.{last_number}

-- ---- commands that have ended

some_end : (system : System) (host : ℕ) (opened : Option (Option ℕ)) (t : Transfer) (ts : List Transfer) → after system host opened (t ∷ ts) ≡ None → 1 ≤ ends_in (t ∷ ts)
unfolding after ends_in
some_end system host opened t [] closed = by_end t.ends refl
  where
    by_end : (b : Bool) → t.ends ≡ b → 1 ≤ (if b then 1 else 0) + 0
    by_end true e = omega arith
    by_end false e = let left : (if t.ends then None else Some (place_of system host t)) ≡ Some (place_of system host t) = rw e refl in let bad : Some (place_of system host t) ≡ None = sym left ∙ closed in absurd cc
some_end system host opened t (u ∷ ts) closed = let more = some_end system host (after_one system host opened t) u ts closed in omega (arith, more)

-- where the last command has ended each number is below the next one
all_chosen : (system : System) (host : ℕ) (opened : Option (Option ℕ)) (k n : ℕ) (ts : List Transfer) → after system host opened ts ≡ None → n + ends_in ts ≤ suc k → chosen (λ i. nat_le i k) n ts ≡ ts
unfolding after ends_in chosen
all_chosen system host opened k n [] closed low = refl
all_chosen system host opened k n (t ∷ ts) closed low =
    let some = some_end system host opened t ts closed in
    let here : nat_le n k ≡ true = (let less : n ≤ k = omega (arith, some, low) in grind (arith, tests, less)) in
    let next : (if t.ends then n + 1 else n) + ends_in ts ≤ suc k = by_end t.ends low in
    ap (λ b. (if b then t ∷ [] else []) ++ chosen (λ i. nat_le i k) (if t.ends then n + 1 else n) ts) here
    ∙ ap (λ l. t ∷ l) (all_chosen system host (after_one system host opened t) k (if t.ends then n + 1 else n) ts closed next)
  where
    by_end : (b : Bool) → n + ((if b then 1 else 0) + ends_in ts) ≤ suc k → (if b then n + 1 else n) + ends_in ts ≤ suc k
    by_end true less = omega (arith, less)
    by_end false less = omega (arith, less)

-- ---- a beat with an operation has an enabled lane

some_lane : (shape to : Shape) (enables : ℕ) → shape.word_bytes ≡ to.word_bytes → 0 < length (filled_lanes shape to enables) → IsTrue (list_any (is_enabled enables) (numbers 0 shape.word_bytes))
some_lane shape to enables words some = by_any (list_any (is_enabled enables) (numbers 0 shape.word_bytes)) refl
  where
    size : piece_bytes shape to ≡ shape.word_bytes
    size = let least : min shape.word_bytes to.word_bytes ≡ shape.word_bytes = omega (arith, words) in least

    lanes_are : (p : ℕ) → p ≡ 0 → lanes_of_piece shape to p ≡ numbers 0 shape.word_bytes
    lanes_are p e =
        let first : p * piece_bytes shape to ≡ 0 = ap (λ q. q * piece_bytes shape to) e ∙ (let none : 0 * piece_bytes shape to ≡ 0 = omega arith in none) in
        ap₂ (λ a b. numbers a b) first size

    none_enabled : (xs : List ℕ) → list_any (is_enabled enables) xs ≡ false → filter (is_enabled enables) xs ≡ []
    none_enabled [] e = refl
    none_enabled (x ∷ xs) e = by_first (is_enabled enables x) refl e (none_enabled xs)
      where
        by_first : (b : Bool) → is_enabled enables x ≡ b → (b || list_any (is_enabled enables) xs) ≡ false → (list_any (is_enabled enables) xs ≡ false → filter (is_enabled enables) xs ≡ []) → (if b then x ∷ filter (is_enabled enables) xs else filter (is_enabled enables) xs) ≡ []
        by_first true f e more = absurd cc
        by_first false f e more = more e

    nothing : (b : Bool) (lanes : List ℕ) → list_any (is_enabled enables) lanes ≡ false → length (if b then filter (is_enabled enables) lanes else if list_any (is_enabled enables) lanes then lanes else []) ≡ 0
    nothing true lanes e = ap length (none_enabled lanes e)
    nothing false lanes e = ap (λ x. length (if x then lanes else [])) e

    by_pieces : (n : ℕ) → n ≤ 1 → list_any (is_enabled enables) (numbers 0 shape.word_bytes) ≡ false → length (flat_map (filled_of_piece shape to enables) (numbers 0 n)) ≡ 0
    by_pieces zero few e = refl
    by_pieces (suc zero) few e =
        let one = length-append (filled_of_piece shape to enables 0) [] in
        let none = nothing to.has_enables (lanes_of_piece shape to 0) (ap (list_any (is_enabled enables)) (lanes_are 0 refl) ∙ e) in
        omega (arith, one, none)
    by_pieces (suc (suc n)) few e = absurd (omega (arith, few))

    few_pieces : pieces shape to ≤ 1
    few_pieces = by_size (nat_lt 0 shape.word_bytes) refl
      where
        by_size : (b : Bool) → nat_lt 0 shape.word_bytes ≡ b → pieces shape to ≤ 1
        by_size true e =
            let some_word : 0 < shape.word_bytes = grind (arith, tests, e) in
            let one = same_pieces shape some_word in
            let least : min shape.word_bytes shape.word_bytes ≡ min shape.word_bytes to.word_bytes = ap (λ n. min shape.word_bytes n) words in
            let same : pieces shape shape ≡ pieces shape to = ap (λ n. shape.word_bytes / n) least in
            omega (arith, one, same)
        by_size false e =
            let none : shape.word_bytes ≡ 0 = grind (arith, tests, e) in
            let low = div-le_self shape.word_bytes (piece_bytes shape to) in
            let is : pieces shape to ≡ shape.word_bytes / piece_bytes shape to = refl in
            omega (arith, none, low, is)

    by_any : (b : Bool) → list_any (is_enabled enables) (numbers 0 shape.word_bytes) ≡ b → IsTrue b
    by_any true e = refl
    by_any false e = let none = by_pieces (pieces shape to) few_pieces e in absurd (omega (arith, none, some))

-- ---- while a host writes plainly

plain_is : (w b e n p o : Bool) → IsTrue (w && b && e && n && p && o) → IsTrue w × IsTrue b × IsTrue e × IsTrue n
plain_is true true true true p o h = (refl, refl, refl, refl)
plain_is true true true false p o h = absurd cc
plain_is true true false n p o h = absurd cc
plain_is true false e n p o h = absurd cc
plain_is false b e n p o h = absurd cc

all_four : (a b c d : Bool) → IsTrue a → IsTrue b → IsTrue c → IsTrue d → IsTrue (a && b && c && d)
all_four true true true true a b c d = refl
all_four true true true false a b c d = absurd cc
all_four true true false z a b c d = absurd cc
all_four true false y z a b c d = absurd cc
all_four false x y z a b c d = absurd cc

all_two : (a b : Bool) → IsTrue a → IsTrue b → IsTrue (a && b)
all_two true true a b = refl
all_two true false a b = absurd cc
all_two false y a b = absurd cc

or_there : (a b : Bool) → IsTrue b → IsTrue (a || b)
or_there true b h = refl
or_there false b h = h

module _ (system : System) (run : Run) (host agent : ℕ) (middle : Port) (down : ℕ → Port) (end : ℕ) (there : agent < system.agents) (part : IsHostPart system run host middle end) (route : IsRoutePart system host middle down end)
    (low : Port) (legal_low : AreLegalAt low end) (ahead : Bool) (straight : GoesStraightThrough (λ _. ahead) (target_of system agent) (down agent) low end) (step : (down agent).shape.word_bytes ≡ low.shape.word_bytes → GoesInStep ahead (target_of system agent) (down agent) low end)
    (words : low.shape.word_bytes ≡ (system.agent agent).shape.word_bytes)
    (there_taken : (c : ℕ) → c ≤ end → length (of_host host (taken system run agent c)) ≤ length (operations_among (target_of system agent) low.shape (taken_at low c)))
    (from last : ℕ) (fit : last < end) (starts : from ≤ last) (done : IsTrue (are_finished_before system run host (commands_begun system run host (suc from)) from))
    (writes : (k : ℕ) → from ≤ k → k ≤ last → IsTrue (shows_plain_write system run agent k host)) (plains : (k : ℕ) → from ≤ k → k ≤ last → IsPlainAt (target_of system agent) (down agent) k) where
  abbrev top : Port
  top = down agent

  abbrev target : Target
  target = target_of system agent

  abbrev legal : IsLegalHost (system.host host) (run.at_host host) end
  legal = part.legal

  abbrev now : ℕ → Transfer
  now c = transfer_at (system.host host).shape (run.at_host host).signals (host_accepts (run.at_host host)) c

  abbrev ops_top : ℕ → ℕ
  ops_top c = length (operations_among target top.shape (taken_at top c))

  abbrev ops_low : ℕ → ℕ
  ops_low c = length (operations_among target low.shape (taken_at low c))

  -- all that was taken behind the route is taken before the arbiter, answered, and leaves no command open
  pub record InStep (c : ℕ) : Type 0 where
    pub same : ops_low c ≡ ops_top c
    pub answered : length (read_beats (taken_at top c)) ≤ length (words_at top c)
    pub closed : IsFalse (is_last_joined (taken_at top c))

  plain_at : (k : ℕ) → from ≤ k → k ≤ last → IsTrue (is_raised ((run.at_host host).write k)) × IsTrue (now k).begins × IsTrue (now k).ends × IsTrue (nat_eq (system.host host).word_bytes (system.agent agent).word_bytes)
  plain_at k least most =
      plain_is (is_raised ((run.at_host host).write k)) (now k).begins (now k).ends (nat_eq (system.host host).word_bytes (system.agent agent).word_bytes) (is_agent agent (place_of system host (now k))) (nat_lt 0 (length (transfer_operations system host agent (now k)))) (writes k least most)

  same_word : top.shape.word_bytes ≡ low.shape.word_bytes
  same_word =
      let equal = (plain_at from (omega arith) starts).3 in
      let is : (system.host host).word_bytes ≡ (system.agent agent).word_bytes = grind (arith, tests, equal) in
      ap (λ (s : Shape). s.word_bytes) (route.shape agent there) ∙ part.bytes ∙ is ∙ sym words

  -- the write that is shown
  one_beat : (c : ℕ) → from ≤ c → c ≤ last → (length (marked_at top c).transfer.beats ≡ 1) × IsFalse (is_of_reads (marked_at top c).transfer.kind)
  one_beat c least most =
      let at = plains c least most in
      by_write (is_raised (top.commands.write c)) at.write
    where
      by_write : (w : Bool) → IsTrue w → (length (transfer_at top.shape top.commands.signals (takes top) c).beats ≡ 1) × IsFalse (is_of_reads (transfer_at top.shape top.commands.signals (takes top) c).kind)
      by_write w is = let write = (plains c least most).write in (rw write refl, rw write refl)

  earlier_is : (c : ℕ) → from ≤ c → c ≤ last → earlier_shown top c ≡ taken_at top c
  earlier_is c least most =
      let shown = shown_now top end c (route.legal agent there) (omega (arith, most, fit)) ∙ ap (λ b. taken_at top c ++ only_if b (marked_at top c)) (plains c least most).shown in
      let long = length-append (taken_at top c) (marked_at top c ∷ []) in
      let size : length (taken_at top c ++ marked_at top c ∷ []) - 1 ≡ length (taken_at top c) = omega (arith, long) in
      ap (λ l. take (length l - 1) l) shown ∙ ap (λ n. take n (taken_at top c ++ marked_at top c ∷ [])) size ∙ take_there (taken_at top c) (marked_at top c ∷ [])

  plain_there : (c : ℕ) → from ≤ c → c ≤ last → InStep c → IsTrue (shows_plain top c)
  plain_there c least most in_step =
      let at = plains c least most in
      let transfer = same_now system run host agent middle down end there part route c (omega (arith, most, fit)) at.shown in
      let begins = ap (λ (t : Transfer). t.begins) transfer ∙ (plain_at c least most).1 in
      let one = (one_beat c least most).0 in
      subst (λ l. IsTrue (shows top.commands.signals c && is_plain top.shape l (marked_at top c))) (sym (earlier_is c least most))
      (all_two (shows top.commands.signals c) (is_plain top.shape (taken_at top c) (marked_at top c)) at.shown
      (all_four (begins_alone (taken_at top c) (marked_at top c)) (closes (marked_at top c)) (nat_eq (length (marked_at top c).transfer.beats) 1) (has_lane top.shape (marked_at top c))
      (all_two (marked_at top c).transfer.begins (not (is_last_joined (taken_at top c))) begins (ap not in_step.closed)) at.ends (grind (arith, tests, one))
      (lane_of (marked_at top c).transfer.beats one at.acts)))
    where
      lane_of : (beats : List Beat) → length beats ≡ 1 → IsTrue (is_nonempty (flat_map (beat_operations target top.shape) beats)) → IsTrue (list_any (λ (b : Beat). list_any (is_enabled b.enables) (numbers 0 top.shape.word_bytes)) beats)
      lane_of [] one some = absurd (omega (arith, one))
      lane_of (b ∷ x ∷ beats) one some = absurd (omega (arith, one))
      lane_of (b ∷ []) one some =
          let size : length (beat_operations target top.shape b) ≡ length (filled_lanes top.shape target.shape b.enables) = length-map (filled_lanes top.shape target.shape b.enables) _ in
          let all = long (flat_map (beat_operations target top.shape) (b ∷ [])) some in
          let end_is = length-append (beat_operations target top.shape b) [] in
          let lane = some_lane top.shape target.shape b.enables (same_word ∙ words) (omega (arith, size, all, end_is)) in
          rw lane refl
        where
          long : {A : Type 0} (xs : List A) → IsTrue (is_nonempty xs) → 0 < length xs
          long {A} [] none = absurd cc
          long {A} (x ∷ xs) some = omega arith

  answered_so : (c : ℕ) → from ≤ c → c ≤ last → InStep c → IsTrue (ahead || are_answered top (earlier_shown top c) c)
  answered_so c least most in_step =
      let few = in_step.answered in
      or_there ahead (are_answered top (earlier_shown top c) c) (subst (λ l. IsTrue (nat_le (length (read_beats l)) (length (words_at top c)))) (sym (earlier_is c least most)) (grind (arith, tests, few)))

  next_there : (c : ℕ) → from ≤ c → c ≤ last → InStep c → IsTrue (is_next ahead target top low c)
  next_there c least most in_step =
      let same = in_step.same ∙ ap (λ l. length (operations_among target top.shape l)) (sym (earlier_is c least most)) in
      all_two (shows_plain top c && is_nonempty (operations_in target top.shape (marked_at top c)))
      (nat_eq (ops_low c) (length (operations_among target top.shape (earlier_shown top c))) && (ahead || are_answered top (earlier_shown top c) c))
      (all_two (shows_plain top c) (is_nonempty (operations_in target top.shape (marked_at top c))) (plain_there c least most in_step) (plains c least most).acts)
      (all_two (nat_eq (ops_low c) (length (operations_among target top.shape (earlier_shown top c)))) (ahead || are_answered top (earlier_shown top c) c) (grind (arith, tests, same)) (answered_so c least most in_step))

  -- so it stands before the arbiter
  stands_low : (c : ℕ) → from ≤ c → c ≤ last → InStep c → EndsThere target low c
  stands_low c least most in_step =
      let next = next_there c least most in_step in
      let plain = (step same_word).plain c (omega (arith, most, fit)) next in
      let seen = and_parts (shows low.commands.signals c) (is_plain low.shape (earlier_shown low c) (marked_at low c)) plain in
      record {
        shown = seen.0;
        ends = closes_of (begins_alone (earlier_shown low c) (marked_at low c)) (closes (marked_at low c)) (nat_eq (length (marked_at low c).transfer.beats) 1) (has_lane low.shape (marked_at low c)) seen.1;
        acts = (step same_word).full c (omega (arith, most, fit)) next seen.0;
      }
    where
      closes_of : (a b c d : Bool) → IsTrue (a && b && c && d) → IsTrue b
      closes_of true true c d h = refl
      closes_of true false c d h = absurd cc
      closes_of false b c d h = absurd cc

  -- a beat that stands before the arbiter has an operation
  none_empty : (c : ℕ) → from ≤ c → c ≤ last → InStep c → IsTrue (list_all (λ m. is_nonempty (operations_in target low.shape m)) (standing (shows low.commands.signals) (takes low) (marked_at low) c))
  none_empty zero least most in_step = refl
  none_empty (suc c) least most in_step = by_stands (stands_on (shows low.commands.signals) (takes low) c) refl
    where
      by_stands : (b : Bool) → stands_on (shows low.commands.signals) (takes low) c ≡ b → IsTrue (list_all (λ m. is_nonempty (operations_in target low.shape m)) (only_if b (marked_at low c)))
      by_stands false e = refl
      by_stands true e =
          let held = (marked_keeps low end legal_low).held c (omega (arith, most, fit)) e in
          let acts = (stands_low (suc c) least most in_step).acts in
          let moved : is_nonempty (operations_in target low.shape (marked_at low c)) ≡ true = ap (λ m. is_nonempty (operations_in target low.shape m)) held.1 ∙ acts in
          rw moved refl

  just_taken : (c : ℕ) → from ≤ c → c ≤ last → InStep c → IsTrue (are_just_taken target top low (earlier_shown top c) c && (ahead || are_answered top (earlier_shown top c) c))
  just_taken c least most in_step =
      let same = in_step.same ∙ ap (λ l. length (operations_among target top.shape l)) (sym (earlier_is c least most)) in
      all_two (are_just_taken target top low (earlier_shown top c) c) (ahead || are_answered top (earlier_shown top c) c)
      (all_two (nat_eq (ops_low c) (length (operations_among target top.shape (earlier_shown top c)))) (list_all (λ m. is_nonempty (operations_in target low.shape m)) (standing (shows low.commands.signals) (takes low) (marked_at low) c))
      (grind (arith, tests, same)) (none_empty c least most in_step)) (answered_so c least most in_step)

  in_step_next : (c : ℕ) → from ≤ c → c ≤ last → InStep c → InStep (suc c)
  in_step_next c least most in_step = by_take (takes top c) refl
    where
      inside : c < end
      inside = omega (arith, most, fit)

      equal : takes top c ≡ takes low c
      equal = straight.accepted c inside same_word (plain_there c least most in_step) (just_taken c least most in_step)

      more_words : length (words_at top c) ≤ length (words_at top (suc c))
      more_words = prefix_length (before_prefix _ c (suc c) (omega arith))

      by_take : (b : Bool) → takes top c ≡ b → InStep (suc c)
      by_take false e = record {
        same = ap (λ l. length (operations_among target low.shape l)) (none_taken low c (sym equal ∙ e)) ∙ in_step.same ∙ ap (λ l. length (operations_among target top.shape l)) (sym (none_taken top c e));
        answered = let few = in_step.answered in let is = ap (λ l. length (read_beats l)) (none_taken top c e) in let more = more_words in omega (arith, few, is, more);
        closed = subst (λ l. IsFalse (is_last_joined l)) (sym (none_taken top c e)) in_step.closed;
      }
      by_take true e = record {
        same =
            let shown = (straight.shown c inside same_word (plain_there c least most in_step) (just_taken c least most in_step)).1 in
            let one = ap (λ l. length (operations_among target low.shape l)) (one_taken low c (sym equal ∙ e)) ∙ ops_append target low.shape (taken_at low c) (marked_at low c) in
            let two = ap (λ l. length (operations_among target top.shape l)) (one_taken top c e) ∙ ops_append target top.shape (taken_at top c) (marked_at top c) in
            let own = ap length shown in
            let before = in_step.same in
            omega (arith, one, two, own, before);
        answered =
            let few = in_step.answered in
            let is = ap (λ l. length (read_beats l)) (one_taken top c e) ∙ ap length (read_beats_append (taken_at top c) (marked_at top c ∷ [])) ∙ length-append (read_beats (taken_at top c)) (read_beats (marked_at top c ∷ [])) in
            let none = ap (λ b. length (flat_map (λ (m : Marked). m.transfer.beats) (if b then marked_at top c ∷ [] else []))) (one_beat c least most).1 in
            let more = more_words in
            omega (arith, few, is, none, more);
        closed =
            ap is_last_joined (one_taken top c e) ∙ last_joined_end (taken_at top c) (marked_at top c)
            ∙ not_joined (marked_at top c).transfer.ends (marked_at top c).more (plains c least most).ends;
      }
        where
          not_joined : (e m : Bool) → IsTrue (e && not m) → m ≡ false
          not_joined true true h = absurd cc
          not_joined true false h = refl
          not_joined false m h = absurd cc

  -- ---- as the writes begin

  begins_in_step : InStep from
  begins_in_step = by_taken (stands system run host middle end part from (omega (arith, starts, fit))).taken
    where
      inside : from < end
      inside = omega (arith, starts, fit)

      write : IsTrue (is_raised ((run.at_host host).write from))
      write = (plain_at from (omega arith) starts).0

      all : List Transfer
      all = host_accepted system run host from

      shown : IsTrue (shows (run.at_host host).signals from)
      shown = or_there (is_raised ((run.at_host host).read from)) (is_raised ((run.at_host host).write from)) write

      closed : after system host None all ≡ None
      closed = (stands_by_number system run host end legal from (omega (arith, inside))).opened ∙ none_left
        where
          begun : nat_eq (burst_before (system.host host).shape (run.at_host host).signals (host_accepts (run.at_host host)) from).left 0 ≡ true
          begun = let is = (plain_at from (omega arith) starts).1 in let same : (now from).begins ≡ nat_eq (burst_before (system.host host).shape (run.at_host host).signals (host_accepts (run.at_host host)) from).left 0 = rw write refl in sym same ∙ is

          none_left : (if nat_lt 0 (burst_before (system.host host).shape (run.at_host host).signals (host_accepts (run.at_host host)) from).left then Some (system.place host Writes (burst_before (system.host host).shape (run.at_host host).signals (host_accepts (run.at_host host)) from).first) else None) ≡ None
          none_left = let none : nat_lt 0 (burst_before (system.host host).shape (run.at_host host).signals (host_accepts (run.at_host host)) from).left ≡ false = (let is = begun in grind (arith, tests, is)) in rw none refl

      number : commands_begun system run host (suc from) ≡ 1 + ends_in all
      number = last_number system run host end from legal inside shown

      each_done : (j : ℕ) → 1 ≤ j → j ≤ ends_in all → IsTrue (is_finished system run host j from)
      each_done j least most = let is = number in each_holds (λ earlier. is_finished system run host earlier from) 1 (commands_begun system run host (suc from) - 1) j done least (omega (arith, most, is))

      all_earlier : chosen (λ i. nat_le i (ends_in all)) 1 (whole system run host end legal from) ≡ all
      all_earlier =
          within system run host end legal from (ends_in all) (omega arith) (λ i. nat_le i (ends_in all)) (λ i t. grind (arith, tests, t))
          ∙ all_chosen system host None (ends_in all) 1 all closed (omega arith)

      from_accepted : map (λ (m : Marked). m.transfer) (taken_at middle from) ≡ all → InStep from
      from_accepted same = record {
        same =
            let ops = ops_of system run host agent middle down end there part route (taken_at top from) all own ∙ ops_count system host agent all in
            let earlier = earlier_taken system run host end legal agent there from (ends_in all) inside each_done in
            let is = ap (ops_for system host agent) all_earlier in
            let more = there_taken from (omega (arith, inside)) in
            let few = (step same_word).accepts from (omega (arith, inside)) in
            omega (arith, ops, earlier, is, more, few);
        answered =
            let reads = reads_of system run host agent middle down end there part route (taken_at top from) all own in
            let come = (counts system host middle down end route from (omega (arith, inside))).words agent there in
            let given = earlier_given system run host end legal from (ends_in all) inside each_done in
            let is = ap reads_in all_earlier in
            let given_is = same_words system run host middle end part from (omega (arith, inside)) in
            let asked = asked_length system host all in
            let count = reads_length system host all in
            let front = taken_front agent (length (words_at middle from)) (asked_among system host all) [] (omega (arith, given, is, given_is, asked, count)) in
            let whole_is = ap (λ l. cnt agent (take (length (words_at middle from)) l)) (append-nil (asked_among system host all) ∙ ap (asked_among system host) (sym same)) in
            omega (arith, reads, come, front, whole_is);
        closed =
            last_joined_is (taken_at top from) (all_more system run host agent middle down end there part route from (omega (arith, inside))) ∙ ap last_open own
            ∙ last_ends system host agent None all (stands_by_number system run host end legal from (omega (arith, inside))).steady closed;
      }
        where
          own : map (λ (m : Marked). m.transfer) (taken_at top from) ≡ for_agent system host agent all
          own = its_transfers system run host agent middle down end there part route from (omega (arith, inside)) ∙ ap (for_agent system host agent) same

      by_taken : (map (λ (m : Marked). m.transfer) (taken_at middle from) ≡ host_accepted system run host from) ⊎ IsAhead system run host middle end part from → InStep from
      by_taken (inl same) = from_accepted same
      by_taken (inr ahead) =
          let none : length (reads_of_transfers (now from ∷ [])) ≡ 0 = rw write refl in
          let one = ahead.one in
          let same = ap (λ t. length (reads_of_transfers (t ∷ []))) (ahead.stands inside).1 in
          absurd (omega (arith, none, one, same))

  in_step_at : (n : ℕ) → from + n ≤ last → InStep (from + n)
  in_step_at zero most = let same : from ≡ from + zero = omega arith in subst InStep same begins_in_step
  in_step_at (suc n) most =
      let next : suc (from + n) ≡ from + suc n = omega arith in
      subst InStep next (in_step_next (from + n) (omega arith) (omega (arith, most)) (in_step_at n (omega (arith, most))))

  pub ends_there : EndsThere target low last
  ends_there = let same : from + (last - from) ≡ last = omega (arith, starts) in stands_low last starts (omega arith) (subst InStep same (in_step_at (last - from) (omega (arith, starts))))
