-- The lines of the parts give what is promised at the ports: order, beats, lag, and the rules at agents and hosts.
use Rattle.std.proofs.Common.{ℕ, zero, suc, ◌<◌, ◌≤◌, ◌≡◌, ◌+◌, ◌-◌, ◌*◌, [], ◌∷◌, ◌++◌, List, Bool, true, false, IsTrue, if◌then◌else◌, arith, refl, sym, ap, ◌∙◌, subst, length, map, filter, flat_map, nat_eq, length-append, mul-le-mul_right}
use Rattle.std.proofs.lemmas.List.{map-append}
use Rattle.std.proofs.lemmas.List.Elements.{filter-append}
use Rattle.memory_machines.proofs.Laws.{same_number}
use Rattle.histories.specs.Laws.{prefix_trans, prefix_map, prefix_filter, shown_is_accepted_and_standing, unreached_length}
use Rattle.memory_machines.proofs.Flows.{carries_trans, carries_of_links, operations_front, counted}
use Rattle.memory_machines.proofs.Parts.{port_fronts, tagged_fronts, placed_fronts, host_fronts, host_carries, pipe_carries, kept_length, issued_same}
use Rattle.memory_machines.proofs.Settle.{legal_run_before}
use Rattle.memory_runs.specs.Laws.{accepts_shows, legal_keeps}
use Rattle.histories.specs.History.{standing, IsPrefix, unreached, only_if, stands_on}
use Rattle.memory_runs.specs.Views.{Responses, System, Run}
use Rattle.memory_runs.specs.Operations.{pieces}
use Rattle.memory_runs.specs.Commands.{Transfer, shows, transfer_at, agent_accepts}
use Rattle.memory_runs.specs.Legal.{IsProperAtAgent, host_accepts}
use Rattle.memory_runs.specs.Order.{transfer_operations, for_agent, of_host, has_tag, Tagged, TaggedBeat, place_of, is_agent, is_joined, issued, taken, host_transfers, beats_taken, words_covered, LagsWithin, command_lag}
use Rattle.memory_machines.specs.Link.{shown_at}
use Rattle.memory_machines.specs.Lines.{Inside, Holds, Wired, Carries, Group, Sent, sizes_of, operations_of_groups, beats_of, groups_of, port_flow, tagged_flow, placed_flow, host_flow, placed, placed_group, sent_by, host_accepted, with_tag, target_of, AgentCarriesCommands, ArbiterCarriesCommands, PipeCarriesCommands}
use Rattle.memory_runs.specs.Whole.{IsLegalRun}
use Rattle.memory_machines.proofs.Back.{legal_everywhere, owed_earlier, host_commands}
use Rattle.memory_machines.specs.SideLaws.{of_host_same}

-- the beats for a place
placed_beats : (system : System) (host agent : ℕ) (ts : List Transfer) → beats_of host (placed system host agent (sent_by ts)) ≡ length (flat_map (λ (t : Transfer). t.beats) (for_agent system host agent ts))
placed_beats system host agent [] = refl
placed_beats system host agent (t ∷ ts) = by_test (is_agent agent (place_of system host t)) (placed_beats system host agent ts)
  where
    by_test : (b : Bool) → beats_of host (placed system host agent (sent_by ts)) ≡ length (flat_map (λ (t : Transfer). t.beats) (for_agent system host agent ts)) →
        beats_of host (map (placed_group system host agent) (if b then record { transfer = t; closes = t.ends } ∷ filter (λ (s : Sent). is_agent agent (place_of system host s.transfer)) (sent_by ts) else filter (λ (s : Sent). is_agent agent (place_of system host s.transfer)) (sent_by ts)))
        ≡ length (flat_map (λ (t : Transfer). t.beats) (if b then t ∷ for_agent system host agent ts else for_agent system host agent ts))
    by_test true rest = rw (same_number host) (ap (λ n. length t.beats + n) rest ∙ sym (length-append t.beats _))
    by_test false rest = rest

-- the sizes for a place
placed_sizes : (system : System) (host agent : ℕ) (ts : List Transfer) → sizes_of (placed system host agent (sent_by ts)) ≡ map (λ (t : Transfer). length (transfer_operations system host agent t)) (for_agent system host agent ts)
placed_sizes system host agent [] = refl
placed_sizes system host agent (t ∷ ts) = by_test (is_agent agent (place_of system host t)) (placed_sizes system host agent ts)
  where
    by_test : (b : Bool) → sizes_of (placed system host agent (sent_by ts)) ≡ map (λ (t : Transfer). length (transfer_operations system host agent t)) (for_agent system host agent ts) →
        sizes_of (map (placed_group system host agent) (if b then record { transfer = t; closes = t.ends } ∷ filter (λ (s : Sent). is_agent agent (place_of system host s.transfer)) (sent_by ts) else filter (λ (s : Sent). is_agent agent (place_of system host s.transfer)) (sent_by ts)))
        ≡ map (λ (t : Transfer). length (transfer_operations system host agent t)) (if b then t ∷ for_agent system host agent ts else for_agent system host agent ts)
    by_test true rest = ap (λ l. length (transfer_operations system host agent t) ∷ l) rest
    by_test false rest = rest

-- a few groups more leave at most as many more unreached
unreached_more : (xs ys : List ℕ) (n : ℕ) → unreached (xs ++ ys) n ≤ unreached xs n + length ys
unreached_more [] ys n = let few = unreached_length ys n in omega (arith, few)
unreached_more (x ∷ xs) ys n = let rest = unreached_more xs ys (n - x) in omega (arith, rest)

few_stand : {A : Type 0} (shown accepts : ℕ → Bool) (item : ℕ → A) (c : ℕ) → length (standing shown accepts item c) ≤ 1
few_stand shown accepts item zero = omega arith
few_stand shown accepts item (suc c) = by_test (stands_on shown accepts c)
  where
    by_test : (b : Bool) → length (only_if b (item c)) ≤ 1
    by_test true = omega arith
    by_test false = omega arith

module _ (responses : Responses) (system : System) (run : Run) (inside : Inside) (holds : Holds) (end : ℕ) (wired : Wired responses system run inside holds end) (legal : IsLegalRun system run end) where
  pub at_agent : (a : ℕ) → a < system.agents → AgentCarriesCommands system run a holds.agent (inside.before_agent a) end
  at_agent a there = (wired.agent a there).commands end (omega arith) ((legal_everywhere responses system run inside holds end wired legal).before_agent a there) ((legal_run_before system run (end - 1) end (omega arith) legal).agents a there)

  -- from the route to the port before the agent
  pub inner_path : (h a : ℕ) → h < system.hosts → a < system.agents →
      Carries h ((holds.links + holds.arbiter) + holds.pipe) ((0 + 0) + system.stages) (1 * (1 * pieces (inside.after_route h a).shape (inside.before_arbiter h a).shape))
      (port_flow (target_of system a) (inside.after_route h a)) (tagged_flow h (target_of system a) (inside.before_agent a).port) end
  inner_path h a is there =
      let target = target_of system a in
      let third = carries_of_links h target holds.links (inside.after_route h a) (inside.before_arbiter h a) end
      ((wired.links h a is there).carries.commands end (omega arith) ((legal_everywhere responses system run inside holds end wired legal).after_route h a is there) ((owed_earlier responses system run inside holds end wired legal).before_arbiter h a is there)) in
      let fourth = ((wired.arbiter a there).commands end (omega arith) ((legal_everywhere responses system run inside holds end wired legal).before_arbiter a there) ((owed_earlier responses system run inside holds end wired legal).after_arbiter a there)).carries h is in
      let fifth = pipe_carries system a holds.pipe h (inside.after_arbiter a) (inside.before_agent a) end is (wired.pipe a there).same
      ((wired.pipe a there).commands end (omega arith) ((legal_everywhere responses system run inside holds end wired legal).after_arbiter a there).legal ((owed_earlier responses system run inside holds end wired legal).before_agent a there)) in
      let front = port_fronts target (inside.after_route h a) end ((legal_everywhere responses system run inside holds end wired legal).after_route h a is there) in
      let one = carries_trans _ _ _ _ _ _ _ _ _ _ end front (port_fronts target (inside.before_arbiter h a) end ((legal_everywhere responses system run inside holds end wired legal).before_arbiter a there h is).legal) third fourth in
      carries_trans _ _ _ _ _ _ _ _ _ _ end front (tagged_fronts h target (inside.after_arbiter a).port end ((legal_everywhere responses system run inside holds end wired legal).after_arbiter a there).legal) one fifth

  pub route_carries : (h a : ℕ) → h < system.hosts → a < system.agents →
      Carries h holds.route 0 1 (placed_flow system h a (inside.after_host h)) (port_flow (target_of system a) (inside.after_route h a)) end
  route_carries h a is there = ((wired.route h is).commands end (omega arith) ((legal_everywhere responses system run inside holds end wired legal).after_host h is) ((legal_everywhere responses system run inside holds end wired legal).single h is) ((legal_everywhere responses system run inside holds end wired legal).debt h is) (λ a there. (owed_earlier responses system run inside holds end wired legal).after_route h a is there)).carries a there

  -- from the host's port to the route
  pub outer_path : (h a : ℕ) → h < system.hosts → a < system.agents →
      Carries h (holds.host + holds.route) (0 + 0) (1 * 1) (host_flow system run h a) (port_flow (target_of system a) (inside.after_route h a)) end
  outer_path h a is there =
      carries_trans _ _ _ _ _ _ _ _ _ _ end (host_fronts system run h a end (legal.hosts h is)) (placed_fronts system h a (inside.after_host h) end ((legal_everywhere responses system run inside holds end wired legal).after_host h is))
      (host_carries system run h a holds.host (inside.after_host h) end (legal.hosts h is) (host_commands responses system run inside holds end wired legal h is))
      (route_carries h a is there)

  pub arbiter_commands : (a : ℕ) → a < system.agents → ArbiterCarriesCommands system a holds.arbiter (λ h. inside.before_arbiter h a) (inside.after_arbiter a) end
  arbiter_commands a there = (wired.arbiter a there).commands end (omega arith) ((legal_everywhere responses system run inside holds end wired legal).before_arbiter a there) ((owed_earlier responses system run inside holds end wired legal).after_arbiter a there)

  pub pipe_commands : (a : ℕ) → a < system.agents → PipeCarriesCommands system a holds.pipe system.stages (inside.after_arbiter a) (inside.before_agent a) end
  pipe_commands a there = (wired.pipe a there).commands end (omega arith) ((legal_everywhere responses system run inside holds end wired legal).after_arbiter a there).legal ((owed_earlier responses system run inside holds end wired legal).before_agent a there)

  -- from the host's port to the arbiter
  pub arbiter_path : (h a : ℕ) → h < system.hosts → a < system.agents →
      Carries h ((holds.host + holds.route) + (holds.links + holds.arbiter)) ((0 + 0) + (0 + 0))
      ((1 * pieces (inside.after_route h a).shape (inside.before_arbiter h a).shape) * (1 * 1))
      (host_flow system run h a) (tagged_flow h (target_of system a) (inside.after_arbiter a).port) end
  arbiter_path h a is there =
      let target = target_of system a in
      let third = carries_of_links h target holds.links (inside.after_route h a) (inside.before_arbiter h a) end
      ((wired.links h a is there).carries.commands end (omega arith) ((legal_everywhere responses system run inside holds end wired legal).after_route h a is there) ((owed_earlier responses system run inside holds end wired legal).before_arbiter h a is there)) in
      let front = port_fronts target (inside.after_route h a) end ((legal_everywhere responses system run inside holds end wired legal).after_route h a is there) in
      let one = carries_trans _ _ _ _ _ _ _ _ _ _ end front (port_fronts target (inside.before_arbiter h a) end ((legal_everywhere responses system run inside holds end wired legal).before_arbiter a there h is).legal) third ((arbiter_commands a there).carries h is) in
      carries_trans _ _ _ _ _ _ _ _ _ _ end (host_fronts system run h a end (legal.hosts h is)) front (outer_path h a is there) one

  -- from the host's port to the port before the agent
  pub whole_path : (h a : ℕ) → h < system.hosts → a < system.agents →
      Carries h ((holds.host + holds.route) + ((holds.links + holds.arbiter) + holds.pipe)) ((0 + 0) + ((0 + 0) + system.stages))
      ((1 * (1 * pieces (inside.after_route h a).shape (inside.before_arbiter h a).shape)) * (1 * 1))
      (host_flow system run h a) (tagged_flow h (target_of system a) (inside.before_agent a).port) end
  whole_path h a is there =
      carries_trans _ _ _ _ _ _ _ _ _ _ end (host_fronts system run h a end (legal.hosts h is)) (port_fronts (target_of system a) (inside.after_route h a) end ((legal_everywhere responses system run inside holds end wired legal).after_route h a is there)) (outer_path h a is there) (inner_path h a is there)

  -- what an agent has taken of a host is the front of what it has been shown
  pub own_front : (h a c : ℕ) → h < system.hosts → a < system.agents → c ≤ end →
      IsPrefix (of_host h (taken system run a c)) (operations_of_groups (groups_of (target_of system a) (inside.before_agent a).shape (with_tag h (shown_at (inside.before_agent a).port c))))
  own_front h a c is there low =
      subst (λ l. IsPrefix (of_host h (taken system run a c)) l) (of_host_same h (target_of system a) (inside.before_agent a).shape (shown_at (inside.before_agent a).port c))
      (prefix_map (λ (t : Tagged). t.operation) (prefix_filter (has_tag h) ((at_agent a there).in_order c low)))

  -- what an agent has taken of a host is the front of what the host had issued for it `stages` cycles before
  pub ordered : (h a c : ℕ) → h < system.hosts → a < system.agents → c ≤ end → IsPrefix (of_host h (taken system run a c)) (issued system run h a (c - system.stages))
  ordered h a c is there low =
      let target = target_of system a in
      let near = inside.before_agent a in
      let delays : c - ((0 + 0) + ((0 + 0) + system.stages)) ≡ c - system.stages = omega arith in
      let own = own_front h a c is there low in
      let above = operations_front ((tagged_flow h target near.port).shown c) ((host_flow system run h a).shown (c - ((0 + 0) + ((0 + 0) + system.stages)))) ((whole_path h a is there).in_order c low) in
      subst (λ k. IsPrefix (of_host h (taken system run a c)) (issued system run h a k)) delays
      (prefix_trans own (subst (λ l. IsPrefix (operations_of_groups (groups_of target near.shape (with_tag h (shown_at near.port c)))) l) (issued_same system h a (host_transfers system run h (c - ((0 + 0) + ((0 + 0) + system.stages))))) above))

  -- the rules at agents' ports
  pub proper_at_agent : (a : ℕ) → a < system.agents → IsProperAtAgent (system.agent a) (run.at_agent a) end
  proper_at_agent a there = (at_agent a there).proper

  -- every accepted beat bears the tag of a joined host
  pub tagged : (a c : ℕ) → a < system.agents → c < end → IsTrue (agent_accepts (system.agent a) (run.at_agent a) c) → IsTrue (is_joined system a ((run.at_agent a).grant c))
  tagged a c there low accepts = (at_agent a there).tags c low accepts

  -- and no beat is too many
  pub few_beats : (h a c : ℕ) → h < system.hosts → a < system.agents → c ≤ end → length (filter (λ (b : TaggedBeat). nat_eq b.tag h) (beats_taken system run a c)) ≤ words_covered system run h a c
  few_beats h a c is there low =
      let counts = placed_beats system h a (host_transfers system run h c) in
      let beats = length (flat_map (λ (t : Transfer). t.beats) (for_agent system h a (host_transfers system run h c))) in
      let here = (at_agent a there).beats h c is low in
      let p = pieces (inside.after_route h a).shape (inside.before_arbiter h a).shape in
      let above : beats_of h ((tagged_flow h (target_of system a) (inside.before_agent a).port).shown c) ≤ ((1 * (1 * p)) * (1 * 1)) * beats =
      subst (λ n. beats_of h ((tagged_flow h (target_of system a) (inside.before_agent a).port).shown c) ≤ ((1 * (1 * p)) * (1 * 1)) * n) counts ((whole_path h a is there).beats c low) in
      let factor : (1 * (1 * p)) * (1 * 1) ≡ p = omega arith in
      let plain : ((1 * (1 * p)) * (1 * 1)) * beats ≡ p * beats = ap (λ x. x * beats) factor in
      let wide : p * beats ≤ pieces (system.host h).shape (system.agent a).shape * beats = mul-le-mul_right _ (wired.words h a is there) in
      omega (arith, here, above, plain, wide)

  -- few presented write beats and read commands aren't taken yet
  pub lags : (h a : ℕ) → h < system.hosts → a < system.agents → LagsWithin (command_lag system) system run h a end
  lags h a is there c low =
      let flow = host_flow system run h a in
      let close = tagged_flow h (target_of system a) (inside.before_agent a).port in
      let path = whole_path h a is there in
      let n = length (of_host h (taken system run a c)) in
      let few = counted (sizes_of (flow.shown c)) (sizes_of (flow.taken c)) (sizes_of (close.shown c)) (sizes_of (close.taken c)) _ _ n
      (prefix_map (λ (g : Group). length g.operations) (host_fronts system run h a end (legal.hosts h is) c low))
      (prefix_map (λ (g : Group). length g.operations) (tagged_fronts h (target_of system a) (inside.before_agent a).port end ((legal_everywhere responses system run inside holds end wired legal).before_agent a there).legal c low))
      (path.within c low) (path.held c low) ((at_agent a there).held h c is low) in
      let view = run.at_host h in
      let left : List Transfer = standing (shows view.signals) (host_accepts view) (transfer_at (system.host h).shape view.signals (host_accepts view)) c in
      let split : host_transfers system run h c ≡ host_accepted system run h c ++ left =
      shown_is_accepted_and_standing _ _ _ end c (legal_keeps _ _ _ end (accepts_shows view.signals view.waitrequest) (legal.hosts h is)) low in
      let sizes = λ (ts : List Transfer). placed_sizes system h a ts in
      let one : length left ≤ 1 = few_stand _ _ _ c in
      let kept = kept_length (λ (t : Transfer). length (transfer_operations system h a t)) (λ (t : Transfer). is_agent a (place_of system h t)) left in
      let parts : map (λ (t : Transfer). length (transfer_operations system h a t)) (for_agent system h a (host_transfers system run h c))
      ≡ sizes_of (flow.taken c) ++ map (λ (t : Transfer). length (transfer_operations system h a t)) (for_agent system h a left) =
      ap (λ l. map (λ (t : Transfer). length (transfer_operations system h a t)) (for_agent system h a l)) split
      ∙ ap (map (λ (t : Transfer). length (transfer_operations system h a t))) (filter-append (λ (t : Transfer). is_agent a (place_of system h t)) (host_accepted system run h c) left)
      ∙ map-append (λ (t : Transfer). length (transfer_operations system h a t)) (for_agent system h a (host_accepted system run h c)) (for_agent system h a left)
      ∙ ap (λ l. l ++ map (λ (t : Transfer). length (transfer_operations system h a t)) (for_agent system h a left)) (sym (sizes (host_accepted system run h c))) in
      let more = unreached_more (sizes_of (flow.taken c)) (map (λ (t : Transfer). length (transfer_operations system h a t)) (for_agent system h a left)) n in
      let sum = wired.few in
      subst (λ l. unreached l n ≤ 6 + 2 * system.stages) (sym parts) (omega (arith, few, kept, one, more, sum))
