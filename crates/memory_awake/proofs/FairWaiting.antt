-- A command that waits for its turn: what is known of it from then on, and when it has begun.
use Rattle.std.proofs.Common.{ℕ, zero, suc, ◌<◌, ◌≤◌, ◌≡◌, ◌+◌, ◌-◌, ◌/◌, ◌*◌, Bool, true, false, ◌&&◌, ◌||◌, List, [], ◌∷◌, ◌++◌, length, map, filter, flat_map, take, nat_eq, nat_le, nat_lt, if◌then◌else◌, arith, refl, sym, ap, ap₂, subst, ◌∙◌, append_assoc, length-append, append-nil, tests, IsTrue, IsFalse, Some}
use Rattle.std.specs.Prelude.{slice_index}
use Rattle.std.specs.List.{list_any, list_all}
use Rattle.std.proofs.Math.Nat.{add-div_left}
use Rattle.std.proofs.lemmas.List.{length-map}
use Rattle.std.proofs.lemmas.Bool.{and_parts, both_ways}
use Rattle.histories.specs.History.{IsPrefix, numbers}
use Rattle.histories.specs.Laws.{before_prefix, prefix_length, prefix_map, prefix_filter}
use Rattle.memory_runs.specs.Views.{System, Run, Shape}
use Rattle.memory_runs.specs.Operations.{Beat, filled_of_piece, filled_lanes, piece_bytes, pieces, is_enabled}
use Rattle.memory_runs.specs.Commands.{Transfer, accepted_in, read_beats}
use Rattle.memory_runs.specs.Laws.{taken_prefix}
use Rattle.memory_runs.specs.Legal.{IsLegalHost, host_accepts, given}
use Rattle.memory_runs.specs.Order.{Owner, Tagged, has_tag, owners_from, of_host, taken, is_agent, is_same_owner, place_of, host_transfers, transfer_operations, beat_operations}
use Rattle.memory_runs.specs.Awake.{is_place, first_owners, has_first_word, may_be_counted, of_command, up_to, count_for, is_finished, are_taken, are_given, are_reached, are_finished_before}
use Rattle.memory_machines.specs.Lines.{host_accepted}
use Rattle.memory_awake.proofs.Bits.{no_true}
use Rattle.memory_awake.proofs.Numbers.{chosen, ends_in, none_above, chosen_append, ops_for, up_is, of_is, within, ends_length, whole, all_at}
use Rattle.memory_awake.proofs.Wanted.{of_host_append}

-- ---- a command that may be counted has an operation

abbrev filled_by : Shape → ℕ → List ℕ → List ℕ
filled_by to enables lanes = if to.has_enables then filter (is_enabled enables) lanes else if list_any (is_enabled enables) lanes then lanes else []

nothing_filled : (to : Shape) (enables : ℕ) → length (filled_by to enables []) ≡ 0
nothing_filled to enables = by_enables to.has_enables
  where
    by_enables : (b : Bool) → length (if b then filter (is_enabled enables) [] else if list_any (is_enabled enables) [] then [] else []) ≡ 0
    by_enables true = refl
    by_enables false = refl

pub some_piece : (from to : Shape) (enables : ℕ) → 0 < length (filled_of_piece from to enables 0) → 0 < piece_bytes from to
some_piece from to enables some = by_size (piece_bytes from to) refl
  where
    by_size : (n : ℕ) → piece_bytes from to ≡ n → 0 < n
    by_size (suc n) e = omega arith
    by_size zero e =
        let none : length (filled_by to enables (numbers (0 * piece_bytes from to) (piece_bytes from to))) ≡ length (filled_by to enables []) = ap (λ n. length (filled_by to enables (numbers (0 * piece_bytes from to) n))) e in
        let zeroth = nothing_filled to enables in
        let same : length (filled_of_piece from to enables 0) ≡ length (filled_by to enables (numbers (0 * piece_bytes from to) (piece_bytes from to))) = refl in
        absurd (omega (arith, some, none, zeroth, same))

pub some_pieces : (from to : Shape) → 0 < piece_bytes from to → 0 < pieces from to
some_pieces from to some =
    let p : ℕ = piece_bytes from to in
    let few : p ≤ from.word_bytes = omega arith in
    let split : p + (from.word_bytes - p) ≡ from.word_bytes = omega (arith, few) in
    let one = add-div_left (from.word_bytes - p) some in
    let same : (p + (from.word_bytes - p)) / p ≡ pieces from to = ap (λ n. n / p) split in
    omega (arith, one, same)

pub some_lanes : (from to : Shape) (enables : ℕ) → 0 < length (filled_of_piece from to enables 0) → 0 < length (filled_lanes from to enables)
some_lanes from to enables some = by_pieces (pieces from to) (some_pieces from to (some_piece from to enables some))
  where
    by_pieces : (n : ℕ) → 0 < n → 0 < length (flat_map (filled_of_piece from to enables) (numbers 0 n))
    by_pieces zero none = absurd (omega (arith, none))
    by_pieces (suc n) more = let split = length-append (filled_of_piece from to enables 0) (flat_map (filled_of_piece from to enables) (numbers 1 n)) in omega (arith, split, some)

module _ (system : System) (host agent : ℕ) where
  some_operations : (t : Transfer) → IsTrue (has_first_word system host agent t) → 0 < length (transfer_operations system host agent t)
  some_operations t first = by_beats t.beats first
    where
      by_beats : (beats : List Beat) → IsTrue (list_any (λ beat. nat_lt 0 (length (filled_of_piece (system.host host).shape (system.agent agent).shape beat.enables 0))) (take 1 beats)) → 0 < length (flat_map (beat_operations system host agent) beats)
      by_beats [] none = absurd (no_true none)
      by_beats (b ∷ beats) some = by_first (nat_lt 0 (length (filled_of_piece (system.host host).shape (system.agent agent).shape b.enables 0))) refl some
        where
          by_first : (x : Bool) → nat_lt 0 (length (filled_of_piece (system.host host).shape (system.agent agent).shape b.enables 0)) ≡ x → IsTrue (x || false) → 0 < length (beat_operations system host agent b ++ flat_map (beat_operations system host agent) beats)
          by_first false e none = absurd (no_true none)
          by_first true e some =
              let more : 0 < length (filled_of_piece (system.host host).shape (system.agent agent).shape b.enables 0) = grind (arith, tests, e) in
              let lanes = some_lanes (system.host host).shape (system.agent agent).shape b.enables more in
              let size : length (beat_operations system host agent b) ≡ length (filled_lanes (system.host host).shape (system.agent agent).shape b.enables) = length-map (filled_lanes (system.host host).shape (system.agent agent).shape b.enables) _ in
              let split = length-append (beat_operations system host agent b) (flat_map (beat_operations system host agent) beats) in
              omega (arith, lanes, size, split)

  -- where all transfers are for an agent, and one may be counted
  pub some_counted : (ts : List Transfer) → IsTrue (all_at system host (Some agent) ts) → IsTrue (list_any (may_be_counted system host agent) ts) → 0 < ops_for system host agent ts
  unfolding ops_for
  some_counted [] all none = absurd (no_true none)
  some_counted (t ∷ ts) all some = by_first (may_be_counted system host agent t) refl some (some_counted ts parts.1)
    where
      parts : IsTrue (is_place (Some agent) (place_of system host t)) × IsTrue (all_at system host (Some agent) ts)
      parts = and_parts (is_place (Some agent) (place_of system host t)) _ all

      by_first : (x : Bool) → may_be_counted system host agent t ≡ x → IsTrue (x || list_any (may_be_counted system host agent) ts) → (IsTrue (list_any (may_be_counted system host agent) ts) → 0 < ops_for system host agent ts) →
          0 < (if is_agent agent (place_of system host t) then length (transfer_operations system host agent t) else 0) + ops_for system host agent ts
      by_first false e some more = let rest = more some in omega (arith, rest)
      by_first true e some more =
          let here : is_agent agent (place_of system host t) ≡ true = parts.0 in
          let acts = some_operations t (and_parts _ (has_first_word system host agent t) e).1 in
          let own : (if is_agent agent (place_of system host t) then length (transfer_operations system host agent t) else 0) ≡ length (transfer_operations system host agent t) = rw here refl in
          omega (arith, own, acts)

-- ---- what has begun

pub first_found : (o : Owner) (seen xs : List Owner) → IsTrue (list_any (is_same_owner o) xs) → IsFalse (list_any (is_same_owner o) seen) → IsTrue (list_any (is_same_owner o) (first_owners seen xs))
first_found o seen [] found new = absurd (no_true found)
first_found o seen (x ∷ xs) found new =
    by_seen (list_any (is_same_owner x) seen) refl (is_same_owner o x) refl found (λ f. first_found o seen xs f new) (λ f n. first_found o (x ∷ seen) xs f n)
  where
    same_seen : (seen : List Owner) → is_same_owner o x ≡ true → list_any (is_same_owner o) seen ≡ list_any (is_same_owner x) seen
    same_seen seen e =
        let both = and_parts (nat_eq o.tag x.tag) (nat_eq o.command x.command) e in
        let tag : o.tag ≡ x.tag = (let t = both.0 in grind (arith, tests, t)) in
        let command : o.command ≡ x.command = (let t = both.1 in grind (arith, tests, t)) in
        ap₂ (λ (a b : ℕ). list_any (is_same_owner (record { tag = a; command = b })) seen) tag command

    or_right : (a : Bool) {b : Bool} → IsTrue b → IsTrue (a || b)
    or_right true b = refl
    or_right false b = b

    by_seen : (s : Bool) → list_any (is_same_owner x) seen ≡ s → (m : Bool) → is_same_owner o x ≡ m → IsTrue (m || list_any (is_same_owner o) xs) →
        (IsTrue (list_any (is_same_owner o) xs) → IsTrue (list_any (is_same_owner o) (first_owners seen xs))) →
        (IsTrue (list_any (is_same_owner o) xs) → IsFalse (list_any (is_same_owner o) (x ∷ seen)) → IsTrue (list_any (is_same_owner o) (first_owners (x ∷ seen) xs))) →
        IsTrue (list_any (is_same_owner o) (if s then first_owners seen xs else x ∷ first_owners (x ∷ seen) xs))
    by_seen true es true em found old fresh = absurd (both_ways (list_any (is_same_owner o) seen) new (same_seen seen em ∙ es))
    by_seen true es false em found old fresh = old found
    by_seen false es true em found old fresh = rw em refl
    by_seen false es false em found old fresh = or_right (is_same_owner o x) (fresh found (rw em new))

one_host : (host : ℕ) (earlier : List Tagged) (t : Tagged) → length (of_host host (earlier ++ t ∷ [])) ≡ length (of_host host earlier) + (if nat_eq t.tag host then 1 else 0)
one_host host earlier t = let split = of_host_append host earlier (t ∷ []) in let one = by_tag (nat_eq t.tag host) in omega (arith, split, one)
  where
    by_tag : (b : Bool) → length (map (λ (t : Tagged). t.operation) (if b then t ∷ [] else [])) ≡ (if b then 1 else 0)
    by_tag true = refl
    by_tag false = refl

pub owner_found : (issuers : ℕ → List ℕ) (host number k : ℕ) (earlier xs : List Tagged) → slice_index (issuers host) k ≡ number → length (of_host host earlier) ≤ k → k < length (of_host host (earlier ++ xs)) →
    IsTrue (list_any (is_same_owner (record { tag = host; command = number })) (owners_from issuers earlier xs))
owner_found issuers host number k earlier [] is low high = let same = ap (λ l. length (of_host host l)) (append-nil earlier) in absurd (omega (arith, low, high, same))
owner_found issuers host number k earlier (t ∷ xs) is low high =
    by_tag (λ less. owner_found issuers host number k (earlier ++ t ∷ []) xs is less (subst (λ l. k < length (of_host host l)) (sym (append_assoc earlier (t ∷ []) xs)) high)) (nat_eq t.tag host) refl (nat_eq (length (of_host host earlier)) k) refl
  where
    Found : List Owner → Type 0
    Found l = IsTrue (list_any (is_same_owner (record { tag = host; command = number })) l)

    or_right : (a : Bool) {b : Bool} → IsTrue b → IsTrue (a || b)
    or_right true b = refl
    or_right false b = b

    by_tag : (length (of_host host (earlier ++ t ∷ [])) ≤ k → Found (owners_from issuers (earlier ++ t ∷ []) xs)) → (h : Bool) → nat_eq t.tag host ≡ h → (x : Bool) → nat_eq (length (of_host host earlier)) k ≡ x → Found (owners_from issuers earlier (t ∷ xs))
    by_tag more true eh true ex =
        let tag : t.tag ≡ host = grind (arith, tests, eh) in
        let at : length (of_host host earlier) ≡ k = grind (arith, tests, ex) in
        let command : slice_index (issuers t.tag) (length (of_host t.tag earlier)) ≡ number = ap (λ h. slice_index (issuers h) (length (of_host h earlier))) tag ∙ ap (slice_index (issuers host)) at ∙ is in
        let first : nat_eq host t.tag ≡ true = grind (arith, tests, tag) in
        let second : nat_eq number (slice_index (issuers t.tag) (length (of_host t.tag earlier))) ≡ true = grind (arith, tests, command) in
        rw (first, second) refl
    by_tag more true eh false ex =
        let one = one_host host earlier t ∙ ap (λ b. length (of_host host earlier) + (if b then 1 else 0)) eh in
        let less : length (of_host host earlier) < k = grind (arith, tests, ex, low) in
        or_right _ (more (omega (arith, one, less)))
    by_tag more false eh x ex =
        let one = one_host host earlier t ∙ ap (λ b. length (of_host host earlier) + (if b then 1 else 0)) eh in
        or_right _ (more (omega (arith, one, low)))

-- ---- from a cycle on in which the earlier commands of a host are finished

reach_more : (own all one more : ℕ) → one ≤ more → IsTrue (are_reached own all one) → IsTrue (are_reached own all more)
reach_more own all one more less is = by_own (nat_eq own 0) is
  where
    by_own : (b : Bool) → IsTrue (b || nat_le all one) → IsTrue (b || nat_le all more)
    by_own true is = refl
    by_own false is = grind (arith, tests, is, less)

all_more : (one more : ℕ → Bool) (first count : ℕ) → ((k : ℕ) → IsTrue (one k) → IsTrue (more k)) → IsTrue (list_all one (numbers first count)) → IsTrue (list_all more (numbers first count))
all_more one more first zero go is = refl
all_more one more first (suc count) go is =
    let parts = and_parts (one first) (list_all one (numbers (suc first) count)) is in
    let head = go first parts.0 in
    let tail = all_more one more (suc first) count go parts.1 in
    rw (head, tail) refl

more_ends : (xs ys : List Transfer) → ends_in xs ≤ ends_in (xs ++ ys)
unfolding ends_in
more_ends [] ys = omega arith
more_ends (x ∷ xs) ys = let more = more_ends xs ys in omega (arith, more)

module _ (system : System) (run : Run) (host end : ℕ) (legal : IsLegalHost (system.host host) (run.at_host host) end) where
  abbrev accepted_by : ℕ → List Transfer
  accepted_by c = host_accepted system run host c

  abbrev shown_to : ℕ → List Transfer
  shown_to c = whole system run host end legal c

  -- of the commands that have ended nothing more comes
  same_chosen : (from c k : ℕ) (test : ℕ → Bool) → from ≤ c → c < end → k < 1 + ends_in (accepted_by from) → ((i : ℕ) → IsTrue (test i) → i ≤ k) → chosen test 1 (shown_to c) ≡ chosen test 1 (accepted_by from)
  same_chosen from c k test low fit ended bound =
      let grown = before_prefix _ from c low in
      let split = chosen_append system host test 1 (accepted_by from) grown.rest in
      let none = none_above system host test (1 + ends_in (accepted_by from)) grown.rest (λ i above. by_test i (test i) refl above) in
      within system run host end legal c k (more_ended grown) test bound ∙ ap (chosen test 1) (sym grown.joins) ∙ split ∙ ap (λ l. chosen test 1 (accepted_by from) ++ l) none ∙ append-nil (chosen test 1 (accepted_by from))
    where
      by_test : (i : ℕ) (b : Bool) → test i ≡ b → 1 + ends_in (accepted_by from) ≤ i → IsFalse b
      by_test i true e above = let l = bound i e in absurd (omega (arith, l, above, ended))
      by_test i false e above = refl

      more_ended : IsPrefix (accepted_by from) (accepted_by c) → k < 1 + ends_in (accepted_by c)
      more_ended grown = let more = subst (λ l. ends_in (accepted_by from) ≤ ends_in l) grown.joins (more_ends (accepted_by from) grown.rest) in omega (arith, more, ended)

  abbrev pub all_ended : ℕ → ℕ
  all_ended c = length (filter (λ (t : Transfer). t.ends) (accepted_by c))

  module _ (from c : ℕ) (low : from ≤ c) (fit : c < end) where
    pub same_up : (j : ℕ) → j ≤ all_ended from → up_to j (host_transfers system run host (suc c)) ≡ up_to j (host_transfers system run host (suc from))
    same_up j ended =
        let count = ends_length (accepted_by from) in
        let less : j < 1 + ends_in (accepted_by from) = omega (arith, ended, count) in
        up_is system run host end legal c j fit ∙ same_chosen from c j (λ i. nat_le i j) low fit less (λ i t. grind (arith, tests, t))
        ∙ sym (up_is system run host end legal from j (omega (arith, low, fit)) ∙ same_chosen from from j (λ i. nat_le i j) (omega arith) (omega (arith, low, fit)) less (λ i t. grind (arith, tests, t)))

    same_own : (j : ℕ) → j ≤ all_ended from → of_command j (host_transfers system run host (suc c)) ≡ of_command j (host_transfers system run host (suc from))
    same_own j ended =
        let count = ends_length (accepted_by from) in
        let less : j < 1 + ends_in (accepted_by from) = omega (arith, ended, count) in
        of_is system run host end legal c j fit ∙ same_chosen from c j (λ i. nat_eq i j) low fit less (λ i t. grind (arith, tests, t))
        ∙ sym (of_is system run host end legal from j (omega (arith, low, fit)) ∙ same_chosen from from j (λ i. nat_eq i j) (omega arith) (omega (arith, low, fit)) less (λ i t. grind (arith, tests, t)))

    -- a finished command stays finished
    stays_finished : (j : ℕ) → IsTrue (is_finished system run host j from) → IsTrue (is_finished system run host j c)
    stays_finished j done =
        let parts = and_parts (nat_le j (all_ended from) && list_all (are_taken system run host j from) (numbers 0 system.agents)) (are_given system run host j from) done in
        let two = and_parts (nat_le j (all_ended from)) (list_all (are_taken system run host j from) (numbers 0 system.agents)) parts.0 in
        let ended : j ≤ all_ended from = (let t = two.0 in grind (arith, tests, t)) in
        let grown = prefix_length (prefix_filter (λ (t : Transfer). t.ends) (before_prefix (λ c. accepted_in (system.host host).shape (run.at_host host).signals (host_accepts (run.at_host host)) c) from c low)) in
        let first : nat_le j (all_ended c) ≡ true = grind (arith, tests, ended, grown) in
        let second = all_more (are_taken system run host j from) (are_taken system run host j c) 0 system.agents (λ a is. taken_still a ended is) two.1 in
        let third = given_still ended parts.1 in
        rw (first, second, third) refl
      where
        taken_still : (a : ℕ) → j ≤ all_ended from → IsTrue (are_taken system run host j from a) → IsTrue (are_taken system run host j c a)
        taken_still a ended is =
            let grown = prefix_length (prefix_map (λ (t : Tagged). t.operation) (prefix_filter (has_tag host) (taken_prefix system run a from c low))) in
            subst (λ l. IsTrue (are_reached (count_for system host a (of_command j (host_transfers system run host (suc c)))) (count_for system host a l) (length (of_host host (taken system run a c))))) (sym (same_up j ended))
            (subst (λ l. IsTrue (are_reached (count_for system host a l) (count_for system host a (up_to j (host_transfers system run host (suc from)))) (length (of_host host (taken system run a c))))) (sym (same_own j ended))
            (reach_more (count_for system host a (of_command j (host_transfers system run host (suc from)))) (count_for system host a (up_to j (host_transfers system run host (suc from)))) _ _ grown is))

        given_still : j ≤ all_ended from → IsTrue (are_given system run host j from) → IsTrue (are_given system run host j c)
        given_still ended is =
            let grown = prefix_length (before_prefix _ from c low) in
            subst (λ l. IsTrue (are_reached (length (read_beats (of_command j (host_transfers system run host (suc c))))) (length (read_beats l)) (length (given (system.host host) (run.at_host host) c)))) (sym (same_up j ended))
            (subst (λ l. IsTrue (are_reached (length (read_beats l)) (length (read_beats (up_to j (host_transfers system run host (suc from))))) (length (given (system.host host) (run.at_host host) c)))) (sym (same_own j ended))
            (reach_more (length (read_beats (of_command j (host_transfers system run host (suc from))))) (length (read_beats (up_to j (host_transfers system run host (suc from))))) _ _ grown is))

    pub all_stay_finished : (number : ℕ) → IsTrue (are_finished_before system run host number from) → IsTrue (are_finished_before system run host number c)
    all_stay_finished number done = all_more (λ earlier. is_finished system run host earlier from) (λ earlier. is_finished system run host earlier c) 1 (number - 1) (λ j is. stays_finished j is) done
