-- Nothing waits before the route but for the gates, and a host without bursts leaves nothing open behind it.
use Rattle.std.proofs.Common.{ℕ, zero, suc, ◌<◌, ◌≤◌, ◌≡◌, ◌-◌, Bool, true, false, not, ◌||◌, List, [], ◌∷◌, ◌++◌, arith, refl, sym, ap, ap₂, ◌∙◌, nat_lt, nat_eq, length, map, IsTrue, IsFalse, inl, inr, ◌⊎◌, if◌then◌else◌, append-nil, Some}
use Rattle.std.proofs.lemmas.Bool.{and_parts, both_ways}
use Rattle.histories.specs.History.{is_raised, only_if}
use Rattle.memory_runs.specs.Views.{System, Run, Shape, HostView, Signals, Levels, Kind}
use Rattle.memory_runs.specs.Commands.{Transfer, shows, transfer_at, burst_before, is_held, longest_burst}
use Rattle.memory_runs.specs.Legal.{AreLegal, host_accepts, is_under_way}
use Rattle.memory_runs.specs.Order.{is_agent, is_joined, place_of, host_transfers, issued, transfer_operations}
use Rattle.memory_runs.specs.Awake.{count_for}
use Rattle.memory_machines.specs.Link.{Port, Marked, taken_at, operations_among}
use Rattle.memory_machines.specs.Lines.{target_of, host_accepted}
use Rattle.memory_machines.specs.Rank.{is_unclosed}
use Rattle.memory_parts.specs.Steps.{IsHostPart, IsRoutePart}
use Rattle.memory_awake.specs.Ahead.{KeepsNothingBack, LeavesNothingOpen}
use Rattle.memory_awake.proofs.Beats.{both, count_append, is_the_place}
use Rattle.memory_awake.proofs.Places.{all_taken}
use Rattle.memory_awake.proofs.Numbers.{presented_is}
use Rattle.memory_awake.proofs.Standing.{IsAhead, stands}
use Rattle.memory_awake.proofs.Fronts.{reaches_top, from_top, left_open}
use Rattle.memory_awake.proofs.Bits.{not_by}

module _ (system : System) (run : Run) (host agent : ℕ) (middle : Port) (down : ℕ → Port) (end : ℕ) (low : agent < system.agents) (part : IsHostPart system run host middle end) (route : IsRoutePart system host middle down end) where
  abbrev view : HostView
  view = run.at_host host

  abbrev now : ℕ → Transfer
  now c = transfer_at (system.host host).shape view.signals (host_accepts view) c

  abbrev top : Port
  top = down agent

  abbrev below : ℕ → List Transfer
  below c = map (λ (m : Marked). m.transfer) (taken_at middle c)

  abbrev there : ℕ → ℕ
  there c = length (operations_among (target_of system agent) top.shape (taken_at top c))

  pub nothing_back : KeepsNothingBack system run host agent (down agent) end
  nothing_back c h room alone none = by_taken (stands system run host middle end part c (omega (arith, h))).taken
    where
      all : count_for system host agent (below c) ≤ there c
      all = all_taken system host middle down end route agent low (sym part.bytes) c (omega (arith, h))

      presented : host_transfers system run host (suc c) ≡ host_accepted system run host c ++ only_if (shows view.signals c) (now c)
      presented = presented_is system run host end part.legal c h

      -- the beat that the host shows is for another place
      elsewhere : below c ≡ host_accepted system run host c → IsTrue (shows view.signals c) → IsFalse (is_agent agent (place_of system host (now c)))
      elsewhere same shown = by_place (is_agent agent (place_of system host (now c))) refl
        where
          by_place : (b : Bool) → is_agent agent (place_of system host (now c)) ≡ b → IsFalse b
          by_place false e = refl
          by_place true e = absurd (both_ways (shows top.commands.signals c) none (reaches_top system run host agent middle down end low part route c h shown (is_the_place agent (place_of system host (now c)) e) room alone same))

      by_taken : (below c ≡ host_accepted system run host c) ⊎ IsAhead system run host middle end part c → length (issued system run host agent (suc c)) ≤ there c
      by_taken (inr a) =
          let shown : IsTrue (shows view.signals c) = ap (λ r. r || is_raised (view.write c)) (a.stands h).0 in
          let same = ap (count_for system host agent) (presented ∙ ap₂ (λ b t. host_accepted system run host c ++ only_if b t) shown (a.stands h).1 ∙ sym a.taken) in
          let most = all in
          omega (arith, same, most)
      by_taken (inl same) = by_shown (shows view.signals c) refl
        where
          by_shown : (b : Bool) → shows view.signals c ≡ b → length (issued system run host agent (suc c)) ≤ there c
          by_shown false e =
              let count = ap (count_for system host agent) (presented ∙ ap (λ b. host_accepted system run host c ++ only_if b (now c)) e ∙ append-nil (host_accepted system run host c) ∙ sym same) in
              let most = all in
              omega (arith, count, most)
          by_shown true e =
              let count = ap (count_for system host agent) (presented ∙ ap (λ b. host_accepted system run host c ++ only_if b (now c)) e ∙ ap (λ l. l ++ now c ∷ []) (sym same)) ∙ count_append system host agent (below c) (now c) in
              let nothing : (if is_agent agent (place_of system host (now c)) then length (transfer_operations system host agent (now c)) else 0) ≡ zero = rw (elsewhere same e) refl in
              let most = all in
              omega (arith, count, nothing, most)

-- a host of single beats: no burst is under way, and a beat that it shows is the last of its command
record IsSingle (shape : Shape) (signals : Signals) (accepts : ℕ → Bool) (end c : ℕ) : Type 0 where
  none : (burst_before shape signals accepts c).left ≡ 0
  one : c < end → IsTrue (shows signals c) → signals.count c ≤ 1

module _ (shape : Shape) (signals : Signals) (accepts : ℕ → Bool) (end : ℕ) (legal : AreLegal shape signals accepts end) (plain : shape.burst_bits ≡ 1) (only : (c : ℕ) → IsTrue (accepts c) → IsTrue (shows signals c)) where
  longest : longest_burst shape.burst_bits ≡ 1
  longest = ap longest_burst plain

  free : (c : ℕ) → (burst_before shape signals accepts c).left ≡ 0 → IsFalse (is_under_way shape signals accepts c)
  free c none = ap (nat_lt 0) none

  single : (c : ℕ) → c ≤ end → IsSingle shape signals accepts end c
  single zero h = record { none = refl; one = λ less shown. let most = legal.most zero less shown refl in let l = longest in omega (arith, most, l) }
  single (suc c) h = next (single c (omega (arith, h)))
    where
      none_next : IsSingle shape signals accepts end c → (burst_before shape signals accepts (suc c)).left ≡ 0
      none_next before = by_accept (accepts c) refl (is_raised (signals.write c)) refl
        where
          by_accept : (a : Bool) → accepts c ≡ a → (w : Bool) → is_raised (signals.write c) ≡ w → (burst_before shape signals accepts (suc c)).left ≡ 0
          by_accept false e w ew = rw e before.none
          by_accept true e false ew = rw (e, ew) before.none
          by_accept true e true ew =
              let few = before.one (omega (arith, h)) (only c e) in
              let first : nat_eq (burst_before shape signals accepts c).left 0 ≡ true = ap (λ n. nat_eq n 0) before.none in
              let left : signals.count c - 1 ≡ 0 = omega (arith, few) in
              rw (e, ew, first) left

      by_held : IsSingle shape signals accepts end c → suc c < end → IsTrue (shows signals (suc c)) → (b : Bool) → is_held signals accepts c ≡ b → signals.count (suc c) ≤ 1
      by_held before less shown true e =
          let same = ap (λ (l : Levels). l.count) (legal.held c less e) in
          let few = before.one (omega (arith, h)) (and_parts (shows signals c) (not (accepts c)) e).0 in
          omega (arith, same, few)
      by_held before less shown false e =
          let most = legal.most (suc c) less (both _ _ shown (not_by (is_held signals accepts c) e)) (free (suc c) (none_next before)) in
          let l = longest in
          omega (arith, most, l)

      next : IsSingle shape signals accepts end c → IsSingle shape signals accepts end (suc c)
      next before = record { none = none_next before; one = λ less shown. by_held before less shown (is_held signals accepts c) refl }

module _ (system : System) (run : Run) (host agent : ℕ) (middle : Port) (down : ℕ → Port) (end : ℕ) (low : agent < system.agents) (part : IsHostPart system run host middle end) (route : IsRoutePart system host middle down end) (plain : (system.host host).burst_bits ≡ 1) where
  -- a host without bursts leaves nothing open behind the route
  pub nothing_open : LeavesNothingOpen (down agent) (end - 1)
  nothing_open c h = by_left (is_unclosed (down agent) c) refl
    where
      by_left : (b : Bool) → is_unclosed (down agent) c ≡ b → IsFalse b
      by_left false e = refl
      by_left true e =
          let bursting = left_open system run host agent middle down end low part route (suc c) (omega (arith, h)) e in
          let none = free (system.host host).shape (run.at_host host).signals (host_accepts (run.at_host host)) end part.legal plain shown_first (suc c) (single (system.host host).shape (run.at_host host).signals (host_accepts (run.at_host host)) end part.legal plain shown_first (suc c) (omega (arith, h))).none in
          absurd (both_ways _ none (and_parts (is_under_way (system.host host).shape (run.at_host host).signals (host_accepts (run.at_host host)) (suc c)) _ bursting).0)
        where
          shown_first : (c : ℕ) → IsTrue (host_accepts (run.at_host host) c) → IsTrue (shows (run.at_host host).signals c)
          shown_first c a = (and_parts (shows (run.at_host host).signals c) (not (is_raised ((run.at_host host).waitrequest c))) a).0

module _ (system : System) (run : Run) (host agent : ℕ) (middle : Port) (down : ℕ → Port) (end : ℕ) (low : agent < system.agents) (part : IsHostPart system run host middle end) (route : IsRoutePart system host middle down end)
    (all_joined : (kind : Kind) (address : ℕ) → system.place host kind address ≡ Some agent → IsTrue (is_joined system agent host)) where
  -- what is shown behind the route is of a host that is joined
  pub shows_joined : (c : ℕ) → c < end → IsTrue (shows (down agent).commands.signals c) → IsTrue (is_joined system agent host)
  shows_joined c h shown =
      let now = transfer_at (system.host host).shape (run.at_host host).signals (host_accepts (run.at_host host)) c in
      all_joined now.kind now.first (from_top system run host agent middle down end low part route c h shown).1
