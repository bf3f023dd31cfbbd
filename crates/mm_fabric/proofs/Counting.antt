-- How many links lead to the agents of a plan.
use Rattle.std.proofs.Common.{◌≡◌, ℕ, zero, suc, ◌+◌, ◌*◌, ◌≤◌, ◌<◌, Bool, true, false, cond, nat_eq, nat_lt, List, [], ◌∷◌, length, filter, slice_get, Some, refl, ap, inl, inr, arith}
use Rattle.std.proofs.lemmas.Bool.{cases_lt, ltb-true, ltb-false, lt-ltb, le-ltb, eqb-true, eqb-false}
use Rattle.std.proofs.lemmas.List.{length-map}
use Rattle.std.proofs.lemmas.List.Sums.{length-filter, count_by-le-length}
use Rattle.system_tables.specs.Tables.{SystemTable}
use Rattle.link_rules.specs.declared.plan_connections.MemoryConnection.{MemoryConnection}
use Rattle.link_rules.specs.PlanConnections.{memory_connections}
use Rattle.mm_arbiter.specs.declared.asker.Asker.{Asker}
use Rattle.mm_fabric.specs.Asks.{asking}
use Rattle.mm_fabric.specs.Joined.{links_below}

abbrev bit : Bool → ℕ
bit b = cond b 1 0

-- a number below the next one is below this or is this
one_more : (n count : ℕ) → bit (nat_lt n (count + 1)) ≡ bit (nat_lt n count) + bit (nat_eq n count)
one_more n count = by (nat_lt n count) (nat_eq n count) refl refl
  where
    past : count ≤ n → ¬ (n ≡ count) → count + 1 ≤ n
    past most other = elim (cases_lt count n) [ inl more ↦ omega (arith, more) | inr least ↦ absurd (other (omega (arith, most, least))) ]

    by : (low own : Bool) → nat_lt n count ≡ low → nat_eq n count ≡ own → bit (nat_lt n (count + 1)) ≡ bit low + bit own
    by true true e f = let less = ltb-true n count e in let same = eqb-true n count f in absurd (omega (arith, less, same))
    by true false e f = let less = ltb-true n count e in ap bit (lt-ltb n (count + 1) (omega (arith, less)))
    by false true e f = let same = eqb-true n count f in ap bit (lt-ltb n (count + 1) (omega (arith, same)))
    by false false e f = ap bit (le-ltb n (count + 1) (past (ltb-false n count e) (eqb-false n count f)))

passing : (b : Bool) (link : MemoryConnection) (later : List MemoryConnection) → length (cond b (link ∷ later) later) ≡ bit b + length later
passing true link later = omega arith
passing false link later = omega arith

abbrev below : ℕ → MemoryConnection → Bool
below count link = nat_lt link.agent_number count

abbrev own : ℕ → MemoryConnection → Bool
own count link = nat_eq link.agent_number count

counts : (links : List MemoryConnection) (count : ℕ) → length (filter (below (count + 1)) links) ≡ length (filter (below count) links) + length (filter (own count) links)
counts [] count = refl
counts (link ∷ links) count =
    let first = one_more link.agent_number count in
    let later = counts links count in
    let after = passing (below (count + 1) link) link (filter (below (count + 1)) links) in
    let before = passing (below count link) link (filter (below count) links) in
    let here = passing (own count link) link (filter (own count) links) in
    omega (arith, first, later, after, before, here)

-- the links of one more agent are those of its askers
pub links_more : (system : SystemTable) (count : ℕ) → links_below system (count + 1) ≡ links_below system count + length (asking system count)
links_more system count =
    let links = memory_connections system in
    let asker : MemoryConnection → Asker = λ (l : MemoryConnection). record { host = l.host_number; shares = l.shares } in
    let after = length-filter (below (count + 1)) links in
    let before = length-filter (below count) links in
    let here = length-map (filter (own count) links) asker in
    let all = counts links count in
    omega (arith, after, before, here, all)

pub links_few : (system : SystemTable) (count : ℕ) → links_below system count ≤ length (memory_connections system)
links_few system count = count_by-le-length (below count) (memory_connections system)

none_below : (links : List MemoryConnection) → length (filter (below 0) links) ≡ 0
none_below [] = refl
none_below (link ∷ links) = rw (le-ltb link.agent_number 0 (omega arith)) (none_below links)

-- where each agent has at most 16 hosts, there are at most 16 links for each
few_below : (system : SystemTable) (count agents : ℕ) → count ≤ agents → ((a : ℕ) → a < agents → length (asking system a) ≤ 16) → links_below system count ≤ 16 * count
few_below system zero agents within few = let none = none_below (memory_connections system) in let same = length-filter (below 0) (memory_connections system) in omega (arith, none, same)
few_below system (suc count) agents within few =
    let before = few_below system count agents (omega (arith, within)) few in
    let more = links_more system count in
    let own = few count (omega (arith, within)) in
    let next : links_below system (suc count) ≡ links_below system (count + 1) = ap (links_below system) (omega arith) in
    omega (arith, before, more, own, next)

-- all links are below, where all their agents are
all_below : (links : List MemoryConnection) (agents : ℕ) → ((k : ℕ) (link : MemoryConnection) → slice_get links k ≡ Some link → link.agent_number < agents) → length (filter (below agents) links) ≡ length links
all_below [] agents inside = refl
all_below (link ∷ links) agents inside = rw (lt-ltb link.agent_number agents (inside 0 link refl)) (ap suc (all_below links agents (λ k. inside (suc k))))

pub links_for_agents : (system : SystemTable) (agents : ℕ) → ((a : ℕ) → a < agents → length (asking system a) ≤ 16) → ((k : ℕ) (link : MemoryConnection) → slice_get (memory_connections system) k ≡ Some link → link.agent_number < agents) →
    length (memory_connections system) ≤ 16 * agents
links_for_agents system agents few inside =
    let below = few_below system agents agents (omega arith) few in
    let all = all_below (memory_connections system) agents inside in
    let same = length-filter (λ (link : MemoryConnection). nat_lt link.agent_number agents) (memory_connections system) in
    omega (arith, below, all, same)
