-- A host that is wired to an agent's arbiter shows an operation there while it waits.
use Rattle.std.proofs.Common.{ℕ, zero, suc, ◌<◌, ◌≤◌, ◌≡◌, ◌+◌, ◌-◌, Bool, true, false, ◌&&◌, ◌||◌, List, [], ◌∷◌, ◌++◌, length, map, flat_map, nat_eq, nat_le, nat_lt, if◌then◌else◌, arith, refl, sym, ap, ap₂, subst, ◌∙◌, append-nil, tests, IsTrue, IsFalse, Some, None, inl, inr, ◌⊎◌}
use Rattle.std.specs.List.{list_any}
use Rattle.std.proofs.lemmas.Bool.{and_parts}
use Rattle.histories.specs.History.{only_if}
use Rattle.memory_runs.specs.Views.{System, Run, Shape, Kind}
use Rattle.memory_runs.specs.Commands.{Transfer, shows, transfer_at}
use Rattle.memory_runs.specs.Legal.{IsLegalHost, host_accepts}
use Rattle.memory_runs.specs.Order.{is_agent, is_joined, place_of, host_transfers, transfer_operations, issued}
use Rattle.memory_runs.specs.Awake.{is_place, is_for, count_for, of_command, up_to, commands_begun, are_finished_before, has_no_operation}
use Rattle.memory_machines.specs.Link.{Port, Marked, taken_at, marked_at, operations_among, operations_in, beat_operations, is_nonempty}
use Rattle.memory_machines.specs.Lines.{target_of, host_accepted}
use Rattle.memory_parts.specs.Steps.{IsHostPart, IsRoutePart, place_shown, is_open}
use Rattle.memory_awake.specs.Fair.{WaitsAlone, WaitsThere, ShowsOperation}
use Rattle.memory_awake.proofs.Bits.{no_true}
use Rattle.memory_awake.proofs.Beats.{is_the_place, same_count}
use Rattle.memory_awake.proofs.Numbers.{chosen, ends_in, begins_in, Steady, after, after_end, is_some, some_after_one, begins_and_ends, begins_length, none_above, chosen_append, ops_for, ops_append, ops_count, of_is, within, presented_is, whole, whole_steady, each_holds}
use Rattle.memory_awake.proofs.Places.{all_taken}
use Rattle.memory_awake.proofs.Standing.{IsAhead, stands}
use Rattle.memory_awake.proofs.FairCounts.{ops_step, ops_chosen_front, none_later}
use Rattle.memory_awake.proofs.FairQuiet.{before_it, own, some_own, count_up, count_own}
use Rattle.memory_awake.proofs.FairWrites.{some_there}

ends_append : (xs ys : List Transfer) → ends_in (xs ++ ys) ≡ ends_in xs + ends_in ys
unfolding ends_in
ends_append [] ys = omega arith
ends_append (x ∷ xs) ys = let more = ends_append xs ys in omega (arith, more)

ends_one : (t : Transfer) → ends_in (t ∷ []) ≡ (if t.ends then 1 else 0)
unfolding ends_in
ends_one t = omega arith

pub none_open : (system : System) (host : ℕ) → is_some system host None ≡ 0
unfolding is_some
none_open system host = refl

one_ops : (system : System) (host agent : ℕ) (t : Transfer) → ops_for system host agent (t ∷ []) ≡ (if is_agent agent (place_of system host t) then length (transfer_operations system host agent t) else 0)
unfolding ops_for
one_ops system host agent t = omega arith

none_of : (system : System) (host agent : ℕ) → ops_for system host agent [] ≡ 0
unfolding ops_for
none_of system host agent = refl

chosen_one : (test : ℕ → Bool) (n : ℕ) (t : Transfer) → IsFalse (test n) → chosen test n (t ∷ []) ≡ []
unfolding chosen
chosen_one test n t none = rw none refl

-- where a beat is shown its command is the last one
pub last_number : (system : System) (run : Run) (host end c : ℕ) (legal : IsLegalHost (system.host host) (run.at_host host) end) → c < end → IsTrue (shows (run.at_host host).signals c) → commands_begun system run host (suc c) ≡ 1 + ends_in (host_accepted system run host c)
last_number system run host end c legal fit shown =
    let now = transfer_at (system.host host).shape (run.at_host host).signals (host_accepts (run.at_host host)) c in
    let all : List Transfer = host_accepted system run host c in
    let whole_is : whole system run host end legal c ≡ all ++ now ∷ [] = ap (λ b. all ++ only_if b now) shown in
    let count = begins_length (host_transfers system run host (suc c)) ∙ ap begins_in (presented_is system run host end legal c fit ∙ whole_is) in
    let balance = begins_and_ends system host None (all ++ now ∷ []) (subst (Steady system host None) whole_is (whole_steady system run host end legal c fit)) in
    let left = ap (is_some system host) (after_end system host None all now) in
    let one = some_after_one system host (after system host None all) now in
    let ends = ends_append all (now ∷ []) in
    let last = ends_one now in
    let zeroth = none_open system host in
    omega (arith, count, balance, left, one, ends, last, zeroth)

module _ (system : System) (run : Run) (host agent : ℕ) (middle : Port) (down : ℕ → Port) (end : ℕ) (there : agent < system.agents) (part : IsHostPart system run host middle end) (route : IsRoutePart system host middle down end) (c : ℕ) (fit : c < end)
    (waits_ask : WaitsAlone system run agent host c → IsFalse (shows (down agent).commands.signals c) → length (issued system run host agent (suc c)) ≤ length (operations_among (target_of system agent) (down agent).shape (taken_at (down agent) c))) where
  abbrev legal : IsLegalHost (system.host host) (run.at_host host) end
  legal = part.legal

  abbrev accepted_by : List Transfer
  accepted_by = host_accepted system run host c

  abbrev now : Transfer
  now = transfer_at (system.host host).shape (run.at_host host).signals (host_accepts (run.at_host host)) c

  abbrev ops : List Transfer → ℕ
  ops ts = ops_for system host agent ts

  abbrev gone : ℕ
  gone = length (operations_among (target_of system agent) (down agent).shape (taken_at (down agent) c))

  -- what the host's port has accepted was taken behind the route
  accepted_gone : ops accepted_by ≤ gone
  accepted_gone = by_taken (stands system run host middle end part c (omega (arith, fit))).taken
    where
      all : count_for system host agent (map (λ (m : Marked). m.transfer) (taken_at middle c)) ≤ gone
      all = all_taken system host middle down end route agent there (sym part.bytes) c (omega (arith, fit))

      by_taken : (map (λ (m : Marked). m.transfer) (taken_at middle c) ≡ host_accepted system run host c) ⊎ IsAhead system run host middle end part c → ops accepted_by ≤ gone
      by_taken (inl same) =
          let count = ops_count system host agent (map (λ (m : Marked). m.transfer) (taken_at middle c)) in
          let is = ap ops same in
          let most = all in
          omega (arith, count, is, most)
      by_taken (inr ahead) =
          let count = ops_count system host agent (map (λ (m : Marked). m.transfer) (taken_at middle c)) in
          let is = ap ops ahead.taken in
          let split = ops_append system host agent accepted_by (ahead.read ∷ []) in
          let most = all in
          omega (arith, count, is, split, most)

  module _ (k : ℕ) (waits : WaitsThere system run agent (down agent) host (suc k) c) where
    abbrev earlier : ℕ
    earlier = before_it system run host end legal agent there k c

    some : 0 < own system run host end legal agent there k c
    some = some_own system run host end legal agent there k c fit waits.presented waits.counted

    gone_few : gone ≤ earlier
    gone_few =
        let one : suc k - 1 ≡ k = omega arith in
        let count = ap (λ n. count_for system host agent (up_to n (host_transfers system run host (suc c)))) one ∙ count_up system run host end legal agent there k c fit in
        let few = waits.untaken in
        omega (arith, count, few)

    more_shown : suc earlier ≤ ops (whole system run host end legal c)
    more_shown =
        let step = ops_step system host agent k 1 (whole system run host end legal c) in
        let most = ops_chosen_front system host agent (λ i. nat_le i (suc k)) 1 (whole system run host end legal c) in
        let some_is = some in
        omega (arith, step, most, some_is)

    shown_here : IsTrue (shows (run.at_host host).signals c)
    shown_here = by_shown (shows (run.at_host host).signals c) refl
      where
        by_shown : (b : Bool) → shows (run.at_host host).signals c ≡ b → IsTrue b
        by_shown true e = refl
        by_shown false e =
            let same : ops (whole system run host end legal c) ≡ ops accepted_by = ap (λ b. ops (accepted_by ++ only_if b now)) e ∙ ap ops (append-nil accepted_by) in
            let more = more_shown in
            let few = gone_few in
            let all = accepted_gone in
            absurd (omega (arith, same, more, few, all))

    whole_is : whole system run host end legal c ≡ accepted_by ++ now ∷ []
    whole_is = ap (λ b. accepted_by ++ only_if b now) shown_here

    own_now : 0 < (if is_agent agent (place_of system host now) then length (transfer_operations system host agent now) else 0)
    own_now =
        let split = ap ops whole_is ∙ ops_append system host agent accepted_by (now ∷ []) in
        let one = one_ops system host agent now in
        let more = more_shown in
        let few = gone_few in
        let all = accepted_gone in
        omega (arith, split, one, more, few, all)

    -- the beat is of the command
    number_is : 1 + ends_in accepted_by ≡ suc k
    number_is = by_low (nat_lt (suc k) (1 + ends_in accepted_by)) refl (nat_lt (1 + ends_in accepted_by) (suc k)) refl
      where
        by_low : (a : Bool) → nat_lt (suc k) (1 + ends_in accepted_by) ≡ a → (b : Bool) → nat_lt (1 + ends_in accepted_by) (suc k) ≡ b → 1 + ends_in accepted_by ≡ suc k
        by_low true ea b eb =
            let past : suc k < 1 + ends_in accepted_by = grind (arith, tests, ea) in
            let same = ap ops (within system run host end legal c (suc k) past (λ i. nat_le i (suc k)) (λ i t. grind (arith, tests, t))) in
            let step = ops_step system host agent k 1 (whole system run host end legal c) in
            let most = ops_chosen_front system host agent (λ i. nat_le i (suc k)) 1 accepted_by in
            let some_is = some in
            let few = gone_few in
            let all = accepted_gone in
            absurd (omega (arith, same, step, most, some_is, few, all))
        by_low false ea true eb =
            let short : 1 + ends_in accepted_by < suc k = grind (arith, tests, eb) in
            let other : nat_eq (1 + ends_in accepted_by) (suc k) ≡ false = grind (arith, tests, short) in
            let none = ap (chosen (λ i. nat_eq i (suc k)) 1) whole_is ∙ chosen_append system host (λ i. nat_eq i (suc k)) 1 accepted_by (now ∷ [])
            ∙ ap₂ (λ (a b : List Transfer). a ++ b) (none_later system host agent (suc k) 1 accepted_by short) (chosen_one (λ i. nat_eq i (suc k)) (1 + ends_in accepted_by) now other) in
            let count = ap ops none in
            let zeroth = none_of system host agent in
            let some_is = some in
            absurd (omega (arith, count, zeroth, some_is))
        by_low false ea false eb = grind (arith, tests, ea, eb)

    last_is : commands_begun system run host (suc c) ≡ suc k
    last_is = last_number system run host end c legal fit shown_here ∙ number_is

    alone : WaitsAlone system run agent host c
    alone = record {
      presented = subst (λ n. IsTrue (is_for system run host (Some agent) n (suc c))) (sym last_is) waits.presented;
      operation = subst (λ n. IsFalse (has_no_operation system run host n (suc c))) (sym last_is) (by_none (has_no_operation system run host (suc k) (suc c)) refl);
      earlier = subst (λ n. IsTrue (are_finished_before system run host n c)) (sym last_is) waits.earlier;
    }
      where
        by_none : (b : Bool) → has_no_operation system run host (suc k) (suc c) ≡ b → IsFalse b
        by_none false e = refl
        by_none true e =
            let zeroth = each_holds (λ a. nat_eq (count_for system host a (of_command (suc k) (host_transfers system run host (suc c)))) 0) 0 system.agents agent e (omega arith) (omega (arith, there)) in
            let count = count_own system run host end legal agent there k c fit in
            let some_is = some in
            let none : count_for system host agent (of_command (suc k) (host_transfers system run host (suc c))) ≡ 0 = grind (arith, tests, zeroth) in
            absurd (omega (arith, count, some_is, none))

    asked : IsTrue (shows (down agent).commands.signals c)
    asked = by_shown (shows (down agent).commands.signals c) refl
      where
        by_shown : (b : Bool) → shows (down agent).commands.signals c ≡ b → IsTrue b
        by_shown true e = refl
        by_shown false e =
            let all = waits_ask alone e in
            let count : count_for system host agent (host_transfers system run host (suc c)) ≡ ops (whole system run host end legal c) = ops_count system host agent (host_transfers system run host (suc c)) ∙ ap ops (presented_is system run host end legal c fit) in
            let more = more_shown in
            let few = gone_few in
            absurd (omega (arith, all, count, more, few))

    acts : IsTrue (is_nonempty (operations_in (target_of system agent) (down agent).shape (marked_at (down agent) c)))
    acts = some_there (operations_in (target_of system agent) (down agent).shape (marked_at (down agent) c)) long
      where
        seen : IsTrue (shows middle.commands.signals c)
        seen = (and_parts (shows middle.commands.signals c) (is_agent agent (place_shown system host middle c)) (and_parts (shows middle.commands.signals c && is_agent agent (place_shown system host middle c)) (is_open system host middle (Some agent) c) (sym (route.shown agent c there fit) ∙ asked)).0).0

        some_now : (b : Bool) (n : ℕ) → 0 < (if b then n else 0) → 0 < n
        some_now true n more = more
        some_now false n more = absurd (omega (arith, more))

        long : 0 < length (operations_in (target_of system agent) (down agent).shape (marked_at (down agent) c))
        long =
            let bytes : (system.host host).word_bytes ≡ (down agent).shape.word_bytes = sym part.bytes ∙ sym (ap (λ (s : Shape). s.word_bytes) (route.shape agent there)) in
            let count = same_count system host agent (down agent).shape now.beats bytes in
            let moved : length (operations_in (target_of system agent) (down agent).shape (marked_at (down agent) c)) ≡ length (flat_map (beat_operations (target_of system agent) (down agent).shape) now.beats) =
            ap (λ (t : Transfer). length (flat_map (beat_operations (target_of system agent) (down agent).shape) t.beats)) (route.same agent c there fit asked ∙ part.same c fit seen) in
            let more = some_now (is_agent agent (place_of system host now)) (length (transfer_operations system host agent now)) own_now in
            omega (arith, count, moved, more)

    shows_so : ShowsOperation (target_of system agent) (down agent) c
    shows_so = (asked, acts)

  pub asks_there : (number : ℕ) → WaitsThere system run agent (down agent) host number c → ShowsOperation (target_of system agent) (down agent) c
  asks_there zero waits =
      let none = of_is system run host end legal c 0 fit ∙ none_above system host (λ i. nat_eq i 0) 1 (whole system run host end legal c) (λ i above. grind (arith, tests, above)) in
      absurd (no_true (subst (λ l. IsTrue (list_any (λ (t : Transfer). is_place (Some agent) (place_of system host t)) l)) none waits.presented))
  asks_there (suc k) waits = shows_so k waits

-- a host with a command for an agent is joined to it
pub for_joined : (system : System) (run : Run) (host agent number c : ℕ) → ((kind : Kind) (address : ℕ) → system.place host kind address ≡ Some agent → IsTrue (is_joined system agent host)) →
    IsTrue (is_for system run host (Some agent) number (suc c)) → IsTrue (is_joined system agent host)
for_joined system run host agent number c joined for_it = found (of_command number (host_transfers system run host (suc c))) for_it
  where
    found : (ts : List Transfer) → IsTrue (list_any (λ (t : Transfer). is_place (Some agent) (place_of system host t)) ts) → IsTrue (is_joined system agent host)
    found [] none = absurd (no_true none)
    found (t ∷ ts) any = by_first (is_place (Some agent) (place_of system host t)) refl any (found ts)
      where
        by_first : (b : Bool) → is_place (Some agent) (place_of system host t) ≡ b → IsTrue (b || list_any (λ (t : Transfer). is_place (Some agent) (place_of system host t)) ts) →
            (IsTrue (list_any (λ (t : Transfer). is_place (Some agent) (place_of system host t)) ts) → IsTrue (is_joined system agent host)) → IsTrue (is_joined system agent host)
        by_first true e any more = joined t.kind t.first (is_the_place agent (place_of system host t) e)
        by_first false e any more = more any
