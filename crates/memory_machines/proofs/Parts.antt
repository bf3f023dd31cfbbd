-- The lines of the parts as flows.
use Rattle.std.proofs.Common.{ℕ, suc, ◌<◌, ◌≤◌, ◌≡◌, ◌+◌, ◌-◌, [], ◌∷◌, ◌++◌, List, Bool, true, false, if◌then◌else◌, arith, refl, sym, ap, ◌∙◌, subst, length, map, filter, flat_map, nat_eq, nat_lt, tests}
use Rattle.std.proofs.lemmas.List.{length-map}
use Rattle.histories.specs.Laws.{before_prefix, prefix_trans, prefix_map, prefix_filter, accepted_prefix, unreached_length}
use Rattle.memory_machines.proofs.Flows.{AreFronts}
use Rattle.memory_runs.specs.Laws.{accepts_shows, legal_keeps}
use Rattle.histories.specs.History.{IsPrefix, unreached, total}
use Rattle.memory_runs.specs.Views.{System, Run}
use Rattle.memory_runs.specs.Commands.{Transfer}
use Rattle.memory_runs.specs.Legal.{IsLegalHost}
use Rattle.memory_runs.specs.Order.{transfer_operations, for_agent, place_of, is_agent, host_transfers}
use Rattle.memory_machines.specs.Link.{Target, Port, Marked, closes, AreLegalAt, shown_at, taken_at}
use Rattle.memory_machines.specs.Lines.{Carries, Group, Sent, items_among, sizes_of, operations_of_groups, groups_of, group_of, port_flow, tagged_flow, placed_flow, host_flow, host_accepted, placed_group, with_tag, placed, sent_by, sent_of, TaggedPort, PipeCarriesCommands, HostCarriesCommands, target_of}
use Rattle.memory_machines.specs.SideLaws.{prefix_items, taken_is_shown, total_front, prefix_within}

-- ---- fronts

pub port_fronts : (target : Target) (port : Port) (end : ℕ) → AreLegalAt port end → AreFronts (port_flow target port) end
port_fronts target port end legal c low = prefix_map _ (taken_is_shown port end c legal low)

pub tagged_fronts : (tag : ℕ) (target : Target) (port : Port) (end : ℕ) → AreLegalAt port end → AreFronts (tagged_flow tag target port) end
tagged_fronts tag target port end legal c low = prefix_map _ (prefix_filter _ (taken_is_shown port end c legal low))

pub placed_fronts : (system : System) (host agent : ℕ) (port : Port) (end : ℕ) → AreLegalAt port end → AreFronts (placed_flow system host agent port) end
placed_fronts system host agent port end legal c low = prefix_map _ (prefix_filter _ (prefix_map _ (taken_is_shown port end c legal low)))

pub host_front : (system : System) (run : Run) (host end c : ℕ) → IsLegalHost (system.host host) (run.at_host host) end → c ≤ end →
    IsPrefix (host_accepted system run host c) (host_transfers system run host c)
host_front system run host end c legal low =
    accepted_prefix _ _ _ end c (legal_keeps _ _ _ end (accepts_shows (run.at_host host).signals (run.at_host host).waitrequest) legal) low

pub host_fronts : (system : System) (run : Run) (host agent end : ℕ) → IsLegalHost (system.host host) (run.at_host host) end → AreFronts (host_flow system run host agent) end
host_fronts system run host agent end legal c low = prefix_map _ (prefix_filter _ (prefix_map _ (host_front system run host end c legal low)))

pub shown_grows : (port : Port) (c d : ℕ) → c ≤ d → IsPrefix (shown_at port c) (shown_at port d)
shown_grows port c d h = before_prefix _ c d h

-- ---- fronts in counts

pub kept_length : {A : Type 0} (size : A → ℕ) (test : A → Bool) (xs : List A) → length (map size (filter test xs)) ≤ length xs
kept_length size test [] = omega arith
kept_length size test (x ∷ xs) = by_test (test x) (kept_length size test xs)
  where
    by_test : (b : Bool) → length (map size (filter test xs)) ≤ length xs → length (map size (if b then x ∷ filter test xs else filter test xs)) ≤ suc (length xs)
    by_test true rest = omega (arith, rest)
    by_test false rest = omega (arith, rest)

first_reached : (size sum n : ℕ) → (if nat_lt (size + sum) size then 1 else 0) + n ≡ n
first_reached size sum n = grind (arith, tests)

-- two fronts of one list, the first at most `hold` longer
pub held_of_fronts : {A : Type 0} (size : A → ℕ) (test : A → Bool) (hold : ℕ) (some others rest behind : List A) → some ++ rest ≡ others ++ behind → length some ≤ length others + hold →
    unreached (map size (filter test some)) (total (map size (filter test others))) ≤ hold
held_of_fronts size test hold some [] rest behind e h =
    let few = unreached_length (map size (filter test some)) 0 in
    let kept = kept_length size test some in
    omega (arith, few, kept, h)
held_of_fronts size test hold [] (y ∷ others) rest behind e h = omega arith
held_of_fronts size test hold (x ∷ some) (y ∷ others) rest behind e h =
    let same : x ≡ y = cc in
    let tail : some ++ rest ≡ others ++ behind = cc in
    let further = held_of_fronts size test hold some others rest behind tail (omega arith) in
    subst (λ z. unreached (map size (filter test (x ∷ some))) (total (map size (filter test (z ∷ others)))) ≤ hold) same (by_test (test x) further)
  where
    by_test : (b : Bool) → unreached (map size (filter test some)) (total (map size (filter test others))) ≤ hold →
        unreached (map size (if b then x ∷ filter test some else filter test some)) (total (map size (if b then x ∷ filter test others else filter test others))) ≤ hold
    by_test true rest =
        let back : (size x + total (map size (filter test others))) - size x ≡ total (map size (filter test others)) = omega arith in
        rw (back, first_reached (size x) (total (map size (filter test others))) (unreached (map size (filter test some)) (total (map size (filter test others))))) rest
    by_test false rest = rest

-- ---- the part next to the host

pub sizes_flat : {A : Type 0} (f : A → Group) (xs : List A) → map (λ x. length (f x).operations) xs ≡ sizes_of (map f xs)
sizes_flat f [] = refl
sizes_flat f (x ∷ xs) = ap (λ l. length (f x).operations ∷ l) (sizes_flat f xs)

pub host_carries : (system : System) (run : Run) (host agent hold : ℕ) (down : Port) (end : ℕ) → IsLegalHost (system.host host) (run.at_host host) end → HostCarriesCommands system run host hold down end →
    Carries host hold 0 1 (host_flow system run host agent) (placed_flow system host agent down) end
host_carries system run host agent hold down end legal carries = record {
  in_order = λ c low.
      let now : c ≡ c - 0 = omega arith in
      subst (λ k. IsPrefix (items_among false (placed system host agent (sent_of (shown_at down c)))) (items_among false (placed system host agent (sent_by (host_transfers system run host k))))) now
      (prefix_items false (prefix_map (placed_group system host agent) (prefix_filter _ (carries.in_order c low))));
  beats = λ c low.
      let few = total_front (prefix_map (λ (g : Group). g.beats) (prefix_filter (λ (g : Group). nat_eq g.tag host) (prefix_map (placed_group system host agent) (prefix_filter (λ (s : Sent). is_agent agent (place_of system host s.transfer)) (carries.in_order c low))))) in
      omega (arith, few);
  held = λ c low.
      let accepted_front = prefix_map (λ (t : Transfer). record { transfer = t; closes = t.ends }) (host_front system run host end c legal low) in
      let taken_front = prefix_trans (prefix_map (λ (m : Marked). record { transfer = m.transfer; closes = closes m }) (taken_is_shown down end c carries.legal low)) (carries.in_order c low) in
      let accepted_length : length (sent_by (host_accepted system run host c)) ≡ length (host_accepted system run host c) = length-map (host_accepted system run host c) _ in
      let taken_length : length (sent_of (taken_at down c)) ≡ length (taken_at down c) = length-map (taken_at down c) _ in
      let sizes = λ (l : List Sent). sizes_flat (placed_group system host agent) (filter (λ (s : Sent). is_agent agent (place_of system host s.transfer)) l) in
      subst (λ l. unreached l (total (sizes_of (placed system host agent (sent_of (taken_at down c))))) ≤ hold) (sizes (sent_by (host_accepted system run host c)))
      (subst (λ l. unreached (map (λ (s : Sent). length (placed_group system host agent s).operations) (filter (λ (s : Sent). is_agent agent (place_of system host s.transfer)) (sent_by (host_accepted system run host c)))) (total l) ≤ hold) (sizes (sent_of (taken_at down c)))
      (held_of_fronts (λ (s : Sent). length (placed_group system host agent s).operations) (λ (s : Sent). is_agent agent (place_of system host s.transfer)) hold
      (sent_by (host_accepted system run host c)) (sent_of (taken_at down c)) accepted_front.rest taken_front.rest (accepted_front.joins ∙ sym taken_front.joins)
      (rw (accepted_length, taken_length) (carries.held c low))));
  within = λ c low. prefix_within (prefix_map (λ (g : Group). length g.operations) (prefix_map (placed_group system host agent) (prefix_filter _ (carries.in_order c low))));
}

-- ---- the pipe

pub pipe_carries : (system : System) (agent hold host : ℕ) (up down : TaggedPort) (end : ℕ) → host < system.hosts → up.shape ≡ down.shape → PipeCarriesCommands system agent hold system.stages up down end →
    Carries host hold system.stages 1 (tagged_flow host (target_of system agent) up.port) (tagged_flow host (target_of system agent) down.port) end
pipe_carries system agent hold host up down end is same carries = record {
  in_order = λ c low. prefix_items false (front c low);
  beats = λ c low. let few = total_front (prefix_map (λ (g : Group). g.beats) (prefix_filter (λ (g : Group). nat_eq g.tag host) (front c low))) in
      let grows = total_front (prefix_map (λ (g : Group). g.beats) (prefix_filter (λ (g : Group). nat_eq g.tag host) (prefix_map (group_of target up.shape) (prefix_filter (λ (m : Marked). nat_eq m.tag host) (shown_grows up.port (c - system.stages) c (omega arith)))))) in
      omega (arith, few, grows);
  held = λ c low. carries.held host c is low;
  within = λ c low. prefix_within (prefix_map (λ (g : Group). length g.operations) (prefix_trans (front c low)
      (prefix_map (group_of target up.shape) (prefix_filter (λ (m : Marked). nat_eq m.tag host) (shown_grows up.port (c - system.stages) c (omega arith))))));
}
  where
    target : Target
    target = target_of system agent

    front : (c : ℕ) → c ≤ end → IsPrefix (groups_of target down.shape (with_tag host (shown_at down.port c))) (groups_of target up.shape (with_tag host (shown_at up.port (c - system.stages))))
    front c low = subst (λ shape. IsPrefix (groups_of target shape (with_tag host (shown_at down.port c))) (groups_of target up.shape (with_tag host (shown_at up.port (c - system.stages))))) same
        (prefix_map (group_of target up.shape) (prefix_filter (λ (m : Marked). nat_eq m.tag host) (carries.shown c low)))

-- ---- the agent's own list

pub issued_same : (system : System) (host agent : ℕ) (ts : List Transfer) →
    operations_of_groups (placed system host agent (sent_by ts)) ≡ flat_map (transfer_operations system host agent) (for_agent system host agent ts)
issued_same system host agent [] = refl
issued_same system host agent (t ∷ ts) = by_test (is_agent agent (place_of system host t)) (issued_same system host agent ts)
  where
    by_test : (b : Bool) → operations_of_groups (placed system host agent (sent_by ts)) ≡ flat_map (transfer_operations system host agent) (for_agent system host agent ts) →
        operations_of_groups (map (placed_group system host agent) (if b then record { transfer = t; closes = t.ends } ∷ filter (λ (s : Sent). is_agent agent (place_of system host s.transfer)) (sent_by ts) else filter (λ (s : Sent). is_agent agent (place_of system host s.transfer)) (sent_by ts)))
        ≡ flat_map (transfer_operations system host agent) (if b then t ∷ for_agent system host agent ts else for_agent system host agent ts)
    by_test true rest = ap (λ l. transfer_operations system host agent t ++ l) rest
    by_test false rest = rest
