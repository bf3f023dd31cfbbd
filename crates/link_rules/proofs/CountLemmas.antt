-- How many connections join hosts to agents.
use Rattle.std.proofs.Common.{◌≡◌, ℕ, ◌+◌, ◌*◌, ◌<◌, ◌≤◌, zero, suc, Bool, true, false, ◌&&◌, cond, eqb, nat_eq, nat_lt, List, [], ◌∷◌, Some, None, length, get_or, map, refl, sym, ap, subst, ◌∙◌, arith}
use Rattle.std.specs.Prelude.{slice_get, All, AllPairs}
use Rattle.std.specs.List.{list_any, position_or_len, IsDistinct}
use Rattle.std.proofs.lemmas.Bool.Decides.{nat_tests, Decides-eqb, Decides-ltb}
use Rattle.std.proofs.lemmas.List.{get_or-map, length-map}
use Rattle.std.proofs.lemmas.List.Elements.{All-filter, filter_passes}
use Rattle.std.proofs.lemmas.List.Folds.{Any-from_list_any}
use Rattle.std.proofs.lemmas.List.Kept.{AllPairs-filter}
use Rattle.std.proofs.lemmas.Map.Keys.{IsDistinct-from_apart}
use Rattle.std.proofs.lemmas.Map.Steps.{length-le_from_distinct_below}
use Rattle.std.proofs.lemmas.Option.{slice_get-get_or, same_Some, none-some}
use Rattle.iface_roles.specs.declared.kinds.Side.{Side}
use Rattle.iface_roles.specs.declared.kinds.Side.TheVariants.{Start, End}
use Rattle.system_tables.specs.declared.tables.Connection.{Connection}
use Rattle.system_tables.specs.declared.tables.EndId.{EndId}
use Rattle.system_tables.specs.Tables.{SystemTable, IsSystem}
use Rattle.link_rules.proofs.StreamLemmas.{zeros}
use Rattle.address_map.specs.Ends.{is_same_end, place_in}
use Rattle.address_map.specs.Maps.{is_mm, end_at, mm_connections, mm_ends, hosts_of, agents_of}

-- the place of an end among others
abbrev pub index_of : List EndId → EndId → ℕ
index_of ends end = position_or_len (is_same_end end) ends

and-both : (a b : Bool) → (a && b) ≡ true → (a ≡ true) × (b ≡ true)
and-both true true h = (refl, refl)
and-both true false h = cc
and-both false b h = cc

pub same_end : (a b : EndId) → is_same_end a b ≡ true → a ≡ b
same_end a b h =
    let both = and-both (nat_eq a.instance b.instance) (nat_eq a.interface b.interface) h in
    let i : a.instance ≡ b.instance = (Decides-eqb a.instance b.instance).0 both.0 in
    let f : a.interface ≡ b.interface = (Decides-eqb a.interface b.interface).0 both.1 in
    let with_instance : ℕ → EndId = λ n. record { instance = n; interface = a.interface } in
    let with_interface : ℕ → EndId = λ n. record { instance = b.instance; interface = n } in
    ap with_instance i ∙ ap with_interface f

pub record Indexed (ends : List EndId) (end : EndId) : Type 0 where
  pub below : index_of ends end < length ends
  pub at : slice_get ends (index_of ends end) ≡ Some end

first_or_later : (x end : EndId) (ends : List EndId) (b : Bool) → is_same_end end x ≡ b → (b ≡ false → Indexed ends end) → Indexed (x ∷ ends) end
first_or_later x end ends true is rest =
    let zero : index_of (x ∷ ends) end ≡ 0 = rw is refl in
    record { below = omega (arith, zero); at = ap (slice_get (x ∷ ends)) zero ∙ ap Some (sym (same_end end x is)) }
first_or_later x end ends false is rest =
    let more : index_of (x ∷ ends) end ≡ suc (index_of ends end) = rw is (omega arith) in
    let found = rest refl in
    let below = found.below in
    record { below = omega (arith, more); at = ap (slice_get (x ∷ ends)) more ∙ found.at }

is_same_end-refl : (a : EndId) → is_same_end a a ≡ true
is_same_end-refl a =
    let i : nat_eq a.instance a.instance ≡ true = (Decides-eqb a.instance a.instance).1 refl in
    let f : nat_eq a.interface a.interface ≡ true = (Decides-eqb a.interface a.interface).1 refl in
    rw (i, f) refl

pub indexed : (ends : List EndId) (n : ℕ) (end : EndId) → slice_get ends n ≡ Some end → Indexed ends end
indexed [] n end at = absurd (none-some end at)
indexed (x ∷ ends) zero end at =
    let same : x ≡ end = same_Some x end at in
    let is : is_same_end end x ≡ true = subst (λ (e : EndId). is_same_end e x ≡ true) same (is_same_end-refl x) in
    first_or_later x end ends true is (λ no. absurd (let n : true ≡ false = no in cc))
indexed (x ∷ ends) (suc n) end at = first_or_later x end ends (is_same_end end x) refl (λ no. indexed ends n end at)

pub place_of : (ends : List EndId) (end : EndId) → Indexed ends end → place_in ends end ≡ Some (index_of ends end)
place_of ends end has = ap (λ (b : Bool). cond b (Some (index_of ends end)) None) ((Decides-ltb (index_of ends end) (length ends)).1 has.below)

-- two connections join other ends
abbrev Apart : Connection → Connection → Type 0
Apart a b = a.start ≡ b.start → a.end ≡ b.end → ⊥

-- a number for each pair of a host and an agent
abbrev code_of : List EndId → List EndId → Connection → ℕ
code_of hosts agents connection = index_of hosts connection.start * 32 + index_of agents connection.end

same_code : (a b c d : ℕ) → b < 32 → d < 32 → a * 32 + b ≡ c * 32 + d → (a ≡ c) × (b ≡ d)
same_code a b c d hb hd e = (omega arith, omega arith)

-- the ends of a connection have numbers
record HasNumbers (hosts agents : List EndId) (connection : Connection) : Type 0 where
  pub host : Indexed hosts connection.start
  pub agent : Indexed agents connection.end

below_512 : (hosts agents : List EndId) (connection : Connection) → length hosts ≤ 16 → length agents ≤ 32 → HasNumbers hosts agents connection → code_of hosts agents connection < 512
below_512 hosts agents connection few_hosts few_agents has =
    let a = has.host.below in
    let b = has.agent.below in
    omega arith

-- connections with one code join the same ends
one_pair : (hosts agents : List EndId) (a b : Connection) → length agents ≤ 32 → HasNumbers hosts agents a → HasNumbers hosts agents b → Apart a b → code_of hosts agents a ≡ code_of hosts agents b → ⊥
one_pair hosts agents a b few_agents has_a has_b apart same =
    let below_a = has_a.agent.below in
    let below_b = has_b.agent.below in
    let both = same_code (index_of hosts a.start) (index_of agents a.end) (index_of hosts b.start) (index_of agents b.end) (omega arith) (omega arith) same in
    apart
    (same_Some a.start b.start (sym has_a.host.at ∙ ap (slice_get hosts) both.0 ∙ has_b.host.at))
    (same_Some a.end b.end (sym has_a.agent.at ∙ ap (slice_get agents) both.1 ∙ has_b.agent.at))

few_pairs : (hosts agents : List EndId) (pairs : List Connection) → length hosts ≤ 16 → length agents ≤ 32 → All (HasNumbers hosts agents) pairs → AllPairs Apart pairs → length pairs ≤ 512
few_pairs hosts agents pairs few_hosts few_agents there apart =
    let long = length-map pairs (code_of hosts agents) in
    let few = length-le_from_distinct_below (map (code_of hosts agents) pairs) 512 distinct below in
    omega arith
  where
    code_at : (i : ℕ) (d : Connection) (e : ℕ) → i < length pairs → get_or (map (code_of hosts agents) pairs) i e ≡ code_of hosts agents (get_or pairs i d)
    code_at i d e within = get_or-map (code_of hosts agents) pairs i d e within

    differ : (i j : ℕ) (e : ℕ) → i < j → j < length (map (code_of hosts agents) pairs) → eqb (get_or (map (code_of hosts agents) pairs) i e) (get_or (map (code_of hosts agents) pairs) j e) ≡ false
    differ i j e less within =
        let long = length-map pairs (code_of hosts agents) in
        let ci = code_at i zeros e (omega arith) in
        let cj = code_at j zeros e (omega arith) in
        rw (ci, cj) (unequal (code_of hosts agents (get_or pairs i zeros)) (code_of hosts agents (get_or pairs j zeros))
        (one_pair hosts agents (get_or pairs i zeros) (get_or pairs j zeros) few_agents (there i zeros (omega arith)) (there j zeros (omega arith)) (apart i j zeros less (omega arith))))
      where
        unequal : (m n : ℕ) → (m ≡ n → ⊥) → eqb m n ≡ false
        unequal m n differ = by (eqb m n) refl
          where
            by : (b : Bool) → eqb m n ≡ b → eqb m n ≡ false
            by true is = absurd (differ ((Decides-eqb m n).0 is))
            by false is = is

    distinct : IsDistinct eqb (map (code_of hosts agents) pairs)
    distinct = IsDistinct-from_apart eqb (map (code_of hosts agents) pairs) differ

    below : (q : ℕ) → list_any (eqb q) (map (code_of hosts agents) pairs) ≡ true → q < 512
    below q any =
        let found = Any-from_list_any (eqb q) (map (code_of hosts agents) pairs) any in
        let within : found.0 < length (map (code_of hosts agents) pairs) = found.2 in
        let long = length-map pairs (code_of hosts agents) in
        let same : q ≡ found.1 = (Decides-eqb q found.1).0 found.4 in
        let is_code : code_of hosts agents (get_or pairs found.0 zeros) ≡ found.1 = sym (code_at found.0 zeros found.1 (omega arith)) ∙ found.3 in
        let small = below_512 hosts agents (get_or pairs found.0 zeros) few_hosts few_agents (there found.0 zeros (omega arith)) in
        omega arith

-- a connection of a list, by its number
record IsAt (connections : List Connection) (connection : Connection) : Type 0 where
  pub number : ℕ
  pub is : slice_get connections number ≡ Some connection

pub few_connections : (system : SystemTable) → IsSystem system
    → ((side : Side) (k : ℕ) (connection : Connection) → slice_get system.connections k ≡ Some connection → is_mm connection.kind ≡ true → (n : ℕ) × (slice_get (mm_ends side system) n ≡ Some (end_at side connection)))
    → length (hosts_of system) ≤ 16 → length (agents_of system) ≤ 32 → length (mm_connections system) ≤ 512
few_connections system is there few_hosts few_agents = few_pairs (hosts_of system) (agents_of system) (mm_connections system) few_hosts few_agents numbered apart
  where
    all_at : All (IsAt system.connections) system.connections
    all_at k d within = record { number = k; is = slice_get-get_or system.connections k d within }

    numbered : All (HasNumbers (hosts_of system) (agents_of system)) (mm_connections system)
    numbered k d within =
        let at = All-filter (λ connection. is_mm connection.kind) (IsAt system.connections) system.connections all_at k d within in
        let mm = filter_passes (λ connection. is_mm connection.kind) system.connections k d within in
        let connection = get_or (mm_connections system) k d in
        let host = there Start at.number connection at.is mm in
        let agent = there End at.number connection at.is mm in
        record { host = indexed (hosts_of system) host.0 connection.start host.1; agent = indexed (agents_of system) agent.0 connection.end agent.1 }

    all_apart : AllPairs Apart system.connections
    all_apart i j d less within start end =
        let same = is.pairs i j (get_or system.connections i d) (get_or system.connections j d) (slice_get-get_or system.connections i d (omega arith)) (slice_get-get_or system.connections j d within) start end in
        omega arith

    apart : AllPairs Apart (mm_connections system)
    apart = AllPairs-filter Apart (λ connection. is_mm connection.kind) system.connections all_apart

-- a number that isn't above a limit
pub within_limit : (limit n : ℕ) → nat_lt limit n ≡ false → n ≤ limit
within_limit limit n h = grind (arith, nat_tests)
