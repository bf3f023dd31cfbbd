-- The links of a system, one by one: where each comes from, and what it says of its connection.
use Rattle.std.proofs.Common.{◌≡◌, ℕ, ◌+◌, ◌<◌, ◌≤◌, zero, suc, Bool, true, false, List, [], ◌∷◌, Option, Some, None, length, get_or, map, slice_get, unwrap_or, refl, sym, ap, subst, ◌∙◌, arith, if◌then◌else◌, ⊎_elim}
use Rattle.std.specs.List.{filter_map, enumerate_from, cons_option}
use Rattle.std.specs.Option.{option_map}
use Rattle.std.proofs.lemmas.Bool.{cases_lt}
use Rattle.std.proofs.lemmas.Option.{slice_get-map, slice_get-get_or, slice_get_within, same_Some, none-some}
use Rattle.iface_roles.specs.declared.kinds.Kind.{Kind}
use Rattle.iface_roles.specs.declared.kinds.Kind.TheVariants.{Clock, Reset, Mm, Stream, Conduit, Interrupt}
use Rattle.iface_roles.specs.declared.kinds.Side.{Side}
use Rattle.iface_roles.specs.declared.kinds.Side.TheVariants.{Start, End}
use Rattle.iface_roles.specs.declared.records.AgentPort.{AgentPort}
use Rattle.iface_roles.specs.declared.records.HostPort.{HostPort}
use Rattle.iface_roles.specs.declared.records.StreamPort.{StreamPort}
use Rattle.iface_roles.specs.declared.records.Finished.{Finished}
use Rattle.iface_roles.specs.declared.records.Finished.TheVariants.{Host, Agent, Source, Sink}
use Rattle.iface_roles.specs.Proper.{IsProper}
use Rattle.system_tables.specs.declared.tables.Connection.{Connection}
use Rattle.system_tables.specs.declared.tables.EndId.{EndId}
use Rattle.system_tables.specs.Tables.{SystemTable, IsEnd, IsLogic, IsSystem, Joins}
use Rattle.address_map.specs.Footprints.{known_at}
use Rattle.address_map.specs.Maps.{is_mm, end_at, mm_ends, hosts_of, agents_of, IsJoined}
use Rattle.link_rules.specs.declared.plan_connections.MemoryConnection.{MemoryConnection}
use Rattle.link_rules.specs.declared.plan_connections.StreamConnection.{StreamConnection}
use Rattle.link_rules.specs.Links.{is_stream, streams_of, tests_as, tests_of, KeepsLinkRules}
use Rattle.link_rules.specs.Pairs.{KeepsAll}
use Rattle.link_rules.specs.PlanConnections.{stream_connection_as, stream_connection, stream_connections, number_in, memory_connection_as, memory_connection, memory_connections, IsStreamConnection, IsMemoryConnection, HasMemoryConnection, KeepsStreamRules, KeepsMmRules, IsHostEnd, IsAgentEnd}
use Rattle.link_rules.specs.Plans.{PlanTable, IsPlan}
use Rattle.link_rules.proofs.CountLemmas.{indexed, place_of}

-- ---- what a list of numbered items is made of

-- where an item comes from
pub record IsMadeFrom {X Y : Type 0} (f : ℕ × X → Option Y) (n : ℕ) (xs : List X) (y : Y) : Type 0 where
  pub place : ℕ
  pub item : X
  pub is : slice_get xs place ≡ Some item
  pub makes : f (n + place, item) ≡ Some y

made_later : {X Y : Type 0} (f : ℕ × X → Option Y) (n : ℕ) (x : X) (xs : List X) (y : Y) → IsMadeFrom f (n + 1) xs y → IsMadeFrom f n (x ∷ xs) y
made_later {X} f n x xs y m =
    let next : n + 1 + m.place ≡ n + suc m.place = omega arith in
    record { place = suc m.place; item = m.item; is = m.is; makes = subst (λ k. f (k, m.item) ≡ Some y) next m.makes }

pub made_from : {X Y : Type 0} (f : ℕ × X → Option Y) (n : ℕ) (xs : List X) (k : ℕ) (y : Y) → slice_get (filter_map f (enumerate_from n xs)) k ≡ Some y → IsMadeFrom f n xs y
made_from f n [] k y at = absurd (none-some y at)
made_from {X} {Y} f n (x ∷ xs) k y at = by (f (n, x)) refl k at (λ j there. made_later f n x xs y (made_from f (n + 1) xs j y there))
  where
    by : (o : Option Y) → f (n, x) ≡ o → (k : ℕ) → slice_get (cons_option (f (n, x)) (filter_map f (enumerate_from (n + 1) xs))) k ≡ Some y
        → ((j : ℕ) → slice_get (filter_map f (enumerate_from (n + 1) xs)) j ≡ Some y → IsMadeFrom f n (x ∷ xs) y) → IsMadeFrom f n (x ∷ xs) y
    by None is k at rest = rest k (rw is at at)
    by (Some z) is zero at rest =
        let here : n ≡ n + 0 = omega arith in
        record { place = 0; item = x; is = refl; makes = subst (λ m. f (m, x) ≡ Some y) here (is ∙ rw is at at) }
    by (Some z) is (suc k) at rest = rest k (rw is at at)

-- what an item gives is there
pub record IsThere {Y : Type 0} (ys : List Y) (y : Y) : Type 0 where
  pub place : ℕ
  pub is : slice_get ys place ≡ Some y

there_past : {Y : Type 0} (o : Option Y) (ys : List Y) (y : Y) → IsThere ys y → IsThere (cons_option o ys) y
there_past None ys y there = there
there_past (Some first) ys y there = record { place = suc there.place; is = there.is }

there_first : {Y : Type 0} (o : Option Y) (ys : List Y) (y : Y) → o ≡ Some y → IsThere (cons_option o ys) y
there_first None ys y e = absurd (none-some y e)
there_first (Some first) ys y e = record { place = 0; is = e }

pub made_there : {X Y : Type 0} (f : ℕ × X → Option Y) (n : ℕ) (xs : List X) (k : ℕ) (x : X) (y : Y) → slice_get xs k ≡ Some x → f (n + k, x) ≡ Some y → IsThere (filter_map f (enumerate_from n xs)) y
made_there f n [] k x y at makes = absurd (none-some x at)
made_there {X} {Y} f n (z ∷ xs) zero x y at makes =
    let here : n + 0 ≡ n = omega arith in
    let first : f (n, x) ≡ Some y = subst (λ m. f (m, x) ≡ Some y) here makes in
    there_first (f (n, z)) (filter_map f (enumerate_from (n + 1) xs)) y (ap (λ i. f (n, i)) (same_Some z x at) ∙ first)
made_there {X} {Y} f n (z ∷ xs) (suc k) x y at makes =
    let next : n + suc k ≡ n + 1 + k = omega arith in
    there_past (f (n, z)) (filter_map f (enumerate_from (n + 1) xs)) y (made_there f (n + 1) xs k x y at (subst (λ m. f (m, x) ≡ Some y) next makes))

map-cons_option : {Y Z : Type 0} (g : Y → Z) (o : Option Y) (ys : List Y) → map g (cons_option o ys) ≡ cons_option (option_map g o) (map g ys)
map-cons_option g None ys = refl
map-cons_option g (Some y) ys = refl

-- the lists of two makers agree where the makers do
pub map-made : {X Y Z : Type 0} (f : ℕ × X → Option Y) (h : ℕ × X → Option Z) (g : Y → Z) (n : ℕ) (xs : List X)
    → ((k : ℕ) (x : X) → slice_get xs k ≡ Some x → option_map g (f (n + k, x)) ≡ h (n + k, x)) → map g (filter_map f (enumerate_from n xs)) ≡ filter_map h (enumerate_from n xs)
map-made f h g n [] agree = refl
map-made {X} f h g n (x ∷ xs) agree =
    let rest = filter_map f (enumerate_from (n + 1) xs) in
    let here : n + 0 ≡ n = omega arith in
    let later : (k : ℕ) (y : X) → slice_get xs k ≡ Some y → option_map g (f (n + 1 + k, y)) ≡ h (n + 1 + k, y) =
    λ k y at. (let next : n + suc k ≡ n + 1 + k = omega arith in subst (λ m. option_map g (f (m, y)) ≡ h (m, y)) next (agree (suc k) y at)) in
    map-cons_option g (f (n, x)) rest
    ∙ ap (λ o. cons_option o (map g rest)) (subst (λ m. option_map g (f (m, x)) ≡ h (m, x)) here (agree 0 x refl))
    ∙ ap (cons_option (h (n, x))) (map-made f h g (n + 1) xs later)

-- ---- connections

pub known_is : (system : SystemTable) (end : EndId) (known : Finished) → IsEnd system end known → known_at system end ≡ known
known_is system end known e = rw (e.instance_is, e.interface_is) e.is

mm_kind : (kind : Kind) → is_mm kind ≡ true → kind ≡ Mm
mm_kind Clock e = cc
mm_kind Reset e = cc
mm_kind Mm e = refl
mm_kind Stream e = cc
mm_kind Conduit e = cc
mm_kind Interrupt e = cc

-- the ends of connections by their kind
stream_joins : (a b : Finished) → Joins Stream a b → (n : ℕ) (c : Connection) → option_map (λ (l : StreamConnection). l.connection) (stream_connection_as n c a b) ≡ Some n
stream_joins (Source s) (Sink t) j n c = refl
stream_joins a b j n c = absurd j

mm_joins : (a b : Finished) → Joins Mm a b → (n : ℕ) (c : Connection) → option_map (λ (l : StreamConnection). l.connection) (stream_connection_as n c a b) ≡ None
mm_joins (Host h) (Agent a) j n c = refl
mm_joins a b j n c = absurd j

number_by : (kind : Kind) (a b : Finished) → Joins kind a b → (n : ℕ) (c : Connection)
    → option_map (λ (l : StreamConnection). l.connection) (stream_connection_as n c a b) ≡ (if is_stream kind then Some n else None)
number_by Mm a b j n c = mm_joins a b j n c
number_by Stream a b j n c = stream_joins a b j n c
number_by Clock a b j n c = absurd j
number_by Reset a b j n c = absurd j
number_by Conduit a b j n c = absurd j
number_by Interrupt a b j n c = absurd j

-- the link of a connection by what is known of its ends
stream_known : (system : SystemTable) (n : ℕ) (c : Connection) (l : IsLogic system c) → stream_connection system (n, c) ≡ stream_connection_as n c l.start_known l.end_known
stream_known system n c l = ap (λ a. stream_connection_as n c a (known_at system c.end)) (known_is system c.start l.start_known l.start) ∙ ap (stream_connection_as n c l.start_known) (known_is system c.end l.end_known l.end)

memory_known : (system : SystemTable) (n : ℕ) (c : Connection) (l : IsLogic system c)
    → memory_connection system (n, c) ≡ memory_connection_as (hosts_of system) (agents_of system) n c l.start_known l.end_known
memory_known system n c l =
    ap (λ a. memory_connection_as (hosts_of system) (agents_of system) n c a (known_at system c.end)) (known_is system c.start l.start_known l.start)
    ∙ ap (memory_connection_as (hosts_of system) (agents_of system) n c l.start_known) (known_is system c.end l.end_known l.end)

-- ---- streams

pub stream_numbers : (system : SystemTable) → IsSystem system → map (λ (link : StreamConnection). link.connection) (stream_connections system) ≡ streams_of system
stream_numbers system is =
    map-made (stream_connection system) (λ numbered. if is_stream numbered.1.kind then Some numbered.0 else None) (λ (link : StreamConnection). link.connection) 0 system.connections
    (λ k c at. (let l = is.connections k c at in
    ap (option_map (λ (link : StreamConnection). link.connection)) (stream_known system (0 + k) c l) ∙ number_by c.kind l.start_known l.end_known l.joins (0 + k) c))

stream_of_kind : (kind : Kind) (source sink : StreamPort) → Joins kind (Source source) (Sink sink) → kind ≡ Stream
stream_of_kind Stream source sink j = refl
stream_of_kind Mm source sink j = absurd j
stream_of_kind Clock source sink j = absurd j
stream_of_kind Reset source sink j = absurd j
stream_of_kind Conduit source sink j = absurd j
stream_of_kind Interrupt source sink j = absurd j

-- what a link of a stream says of its connection
stream_by : (system : SystemTable) (number place : ℕ) (c : Connection) (a b : Finished) (link : StreamConnection) → slice_get system.connections place ≡ Some c
    → Joins c.kind a b → IsEnd system c.start a → IsEnd system c.end b → IsProper a → IsProper b → c.fifo ≤ 64 → stream_connection_as place c a b ≡ Some link
    → slice_get (streams_of system) number ≡ Some link.connection → IsStreamConnection system number link
stream_by system number place c (Source s) (Sink t) link at j start end pa pb shallow makes place_is =
    let made : StreamConnection = record { connection = place; source_end = c.start; sink_end = c.end; source = s; sink = t; fifo = c.fifo } in
    let same : made ≡ link = same_Some made link makes in
    subst (IsStreamConnection system number) same (record {
      connection = c;
      place_is = place_is ∙ ap (λ (l : StreamConnection). Some l.connection) (sym same);
      connection_is = at;
      kind = stream_of_kind c.kind s t j;
      start = refl;
      end = refl;
      fifo = refl;
      shallow = shallow;
      source = start;
      sink = end;
      source_proper = pa;
      sink_proper = pb;
    })
stream_by system number place c a b link at j start end pa pb shallow makes place_is = absurd (none-some link makes)

pub stream_is : (system : SystemTable) → IsSystem system → (number : ℕ) (link : StreamConnection) → slice_get (stream_connections system) number ≡ Some link → IsStreamConnection system number link
stream_is system is number link at =
    let from = made_from (stream_connection system) 0 system.connections number link at in
    let l = is.connections from.place from.item from.is in
    let here : 0 + from.place ≡ from.place = omega arith in
    let makes : stream_connection_as from.place from.item l.start_known l.end_known ≡ Some link =
    sym (stream_known system from.place from.item l) ∙ ap (λ n. stream_connection system (n, from.item)) (sym here) ∙ from.makes in
    let number_is : slice_get (streams_of system) number ≡ Some link.connection =
    ap (λ xs. slice_get xs number) (sym (stream_numbers system is)) ∙ slice_get-map (λ (x : StreamConnection). x.connection) (stream_connections system) number ∙ ap (option_map (λ (x : StreamConnection). x.connection)) at in
    stream_by system number from.place from.item l.start_known l.end_known link from.is l.joins l.start l.end l.start_proper l.end_proper l.fifo makes number_is

-- the number that a connection gives
abbrev stream_number : ℕ × Connection → Option ℕ
stream_number numbered = if is_stream numbered.1.kind then Some numbered.0 else None

number_from : (b : Bool) (n m : ℕ) → (if b then Some n else None) ≡ Some m → n ≡ m
number_from true n m e = same_Some n m e
number_from false n m e = absurd (none-some m e)

-- each number is at least the first
numbers_from : (n : ℕ) (xs : List Connection) (k m : ℕ) → slice_get (filter_map stream_number (enumerate_from n xs)) k ≡ Some m → n ≤ m
numbers_from n xs k m at =
    let from = made_from stream_number n xs k m at in
    let same : n + from.place ≡ m = number_from (is_stream from.item.kind) (n + from.place) m from.makes in
    omega arith

rising_from : (n : ℕ) (xs : List Connection) (j k a b : ℕ) → j < k → slice_get (filter_map stream_number (enumerate_from n xs)) j ≡ Some a
    → slice_get (filter_map stream_number (enumerate_from n xs)) k ≡ Some b → a < b
rising_from n [] j k a b less at_j at_k = absurd (none-some a at_j)
rising_from n (x ∷ xs) j k a b less at_j at_k = by (is_stream x.kind) refl j k less at_j at_k (λ i l. rising_from (n + 1) xs i l a b)
  where
    by : (t : Bool) → is_stream x.kind ≡ t → (j k : ℕ) → j < k
        → slice_get (cons_option (if is_stream x.kind then Some n else None) (filter_map stream_number (enumerate_from (n + 1) xs))) j ≡ Some a
        → slice_get (cons_option (if is_stream x.kind then Some n else None) (filter_map stream_number (enumerate_from (n + 1) xs))) k ≡ Some b
        → ((i l : ℕ) → i < l → slice_get (filter_map stream_number (enumerate_from (n + 1) xs)) i ≡ Some a → slice_get (filter_map stream_number (enumerate_from (n + 1) xs)) l ≡ Some b → a < b) → a < b
    by true is zero zero less at_j at_k rest = absurd (omega arith)
    by true is zero (suc k) less at_j at_k rest =
        let first : n ≡ a = same_Some n a (rw is at at_j) in
        let above : n + 1 ≤ b = numbers_from (n + 1) xs k b (rw is at at_k) in
        omega arith
    by true is (suc j) zero less at_j at_k rest = absurd (omega arith)
    by true is (suc j) (suc k) less at_j at_k rest = rest j k (omega arith) (rw is at at_j) (rw is at at_k)
    by false is j k less at_j at_k rest = rest j k less (rw is at at_j) (rw is at at_k)

pub rising : (system : SystemTable) (j k a b : ℕ) → j < k → slice_get (streams_of system) j ≡ Some a → slice_get (streams_of system) k ≡ Some b → a < b
rising system = rising_from 0 system.connections

-- ---- hosts and agents

host_joins : (system : SystemTable) (end : EndId) (a b : Finished) → Joins Mm a b → IsEnd system end a → IsProper a → IsHostEnd system end
host_joins system end (Host h) (Agent a) j is proper = record { host = h; is = is; proper = proper }
host_joins system end a b j is proper = absurd j

agent_joins : (system : SystemTable) (end : EndId) (a b : Finished) → Joins Mm a b → IsEnd system end b → IsProper b → IsAgentEnd system end
agent_joins system end (Host h) (Agent a) j is proper = record { agent = a; is = is; proper = proper }
agent_joins system end a b j is proper = absurd j

pub host_end : (system : SystemTable) → IsSystem system → (end : EndId) → IsJoined system Start end → IsHostEnd system end
host_end system is end joined =
    let l = is.connections joined.number joined.connection joined.is in
    let j = subst (λ kind. Joins kind l.start_known l.end_known) (mm_kind joined.connection.kind joined.kind) l.joins in
    subst (IsHostEnd system) joined.there (host_joins system joined.connection.start l.start_known l.end_known j l.start l.start_proper)

pub agent_end : (system : SystemTable) → IsSystem system → (end : EndId) → IsJoined system End end → IsAgentEnd system end
agent_end system is end joined =
    let l = is.connections joined.number joined.connection joined.is in
    let j = subst (λ kind. Joins kind l.start_known l.end_known) (mm_kind joined.connection.kind joined.kind) l.joins in
    subst (IsAgentEnd system) joined.there (agent_joins system joined.connection.end l.start_known l.end_known j l.end l.end_proper)

-- ---- links of hosts to agents

mm_of_kind : (kind : Kind) (host : HostPort) (agent : AgentPort) → Joins kind (Host host) (Agent agent) → kind ≡ Mm
mm_of_kind Mm host agent j = refl
mm_of_kind Clock host agent j = absurd j
mm_of_kind Reset host agent j = absurd j
mm_of_kind Stream host agent j = absurd j
mm_of_kind Conduit host agent j = absurd j
mm_of_kind Interrupt host agent j = absurd j

-- the ends are a host and an agent, so the connection is of their kind
pub is_of_mm : (system : SystemTable) (c : Connection) (host : HostPort) (agent : AgentPort) → IsLogic system c → IsEnd system c.start (Host host) → IsEnd system c.end (Agent agent) → is_mm c.kind ≡ true
is_of_mm system c host agent l start end =
    let a : l.start_known ≡ Host host = sym (known_is system c.start l.start_known l.start) ∙ known_is system c.start (Host host) start in
    let b : l.end_known ≡ Agent agent = sym (known_is system c.end l.end_known l.end) ∙ known_is system c.end (Agent agent) end in
    ap is_mm (mm_of_kind c.kind host agent (subst (λ y. Joins c.kind (Host host) y) b (subst (λ x. Joins c.kind x l.end_known) a l.joins)))

-- an end that is there is the one of its number
pub number_is : (ends : List EndId) (end : EndId) (k : ℕ) → slice_get ends k ≡ Some end → slice_get ends (number_in ends end) ≡ Some end
number_is ends end k at =
    let has = indexed ends k end at in
    ap (λ (o : Option ℕ). slice_get ends (unwrap_or o 0)) (place_of ends end has) ∙ has.at

-- each end on one side of a connection of a host to an agent has a number
abbrev pub HaveNumbers : SystemTable → Type 0
HaveNumbers system = (side : Side) (k : ℕ) (c : Connection) → slice_get system.connections k ≡ Some c → is_mm c.kind ≡ true → (n : ℕ) × (slice_get (mm_ends side system) n ≡ Some (end_at side c))

memory_by : (system : SystemTable) (place : ℕ) (c : Connection) (a b : Finished) (link : MemoryConnection) → slice_get system.connections place ≡ Some c → HaveNumbers system
    → Joins c.kind a b → IsEnd system c.start a → IsEnd system c.end b → IsProper a → IsProper b → 1 ≤ c.shares → c.shares ≤ 63
    → memory_connection_as (hosts_of system) (agents_of system) place c a b ≡ Some link → IsMemoryConnection system link
memory_by system place c (Host h) (Agent g) link at there j start end pa pb some few makes =
    let made : MemoryConnection = record {
      connection = place;
      host_number = number_in (hosts_of system) c.start;
      agent_number = number_in (agents_of system) c.end;
      host = h;
      agent = g;
      base = c.base;
      shares = c.shares;
    } in
    let kind = mm_of_kind c.kind h g j in
    let host = there Start place c at (ap is_mm kind) in
    let agent = there End place c at (ap is_mm kind) in
    subst (IsMemoryConnection system) (same_Some made link makes) (record {
      connection = c;
      connection_is = at;
      kind = kind;
      host_is = number_is (hosts_of system) c.start host.0 host.1;
      agent_is = number_is (agents_of system) c.end agent.0 agent.1;
      base = refl;
      shares = refl;
      some_share = some;
      few_shares = few;
      host = start;
      agent = end;
      host_proper = pa;
      agent_proper = pb;
    })
memory_by system place c a b link at there j start end pa pb some few makes = absurd (none-some link makes)

pub memory_is : (system : SystemTable) → IsSystem system → HaveNumbers system → (k : ℕ) (link : MemoryConnection) → slice_get (memory_connections system) k ≡ Some link → IsMemoryConnection system link
memory_is system is there k link at =
    let from = made_from (memory_connection system) 0 system.connections k link at in
    let l = is.connections from.place from.item from.is in
    let here : 0 + from.place ≡ from.place = omega arith in
    memory_by system from.place from.item l.start_known l.end_known link from.is there l.joins l.start l.end l.start_proper l.end_proper l.some_share l.shares
    (sym (memory_known system from.place from.item l) ∙ ap (λ n. memory_connection system (n, from.item)) (sym here) ∙ from.makes)

-- a connection of a host to an agent gives a link of its number
record GivesLink (system : SystemTable) (place : ℕ) (c : Connection) (a b : Finished) : Type 0 where
  link : MemoryConnection
  is : memory_connection_as (hosts_of system) (agents_of system) place c a b ≡ Some link
  number : link.connection ≡ place

gives_link : (system : SystemTable) (place : ℕ) (c : Connection) (a b : Finished) → Joins Mm a b → GivesLink system place c a b
gives_link system place c (Host h) (Agent g) j = record {
  link = record { connection = place; host_number = number_in (hosts_of system) c.start; agent_number = number_in (agents_of system) c.end; host = h; agent = g; base = c.base; shares = c.shares };
  is = refl;
  number = refl;
}
gives_link system place c a b j = absurd j

pub memory_each : (system : SystemTable) → IsSystem system → (number : ℕ) (c : Connection) → slice_get system.connections number ≡ Some c → c.kind ≡ Mm → HasMemoryConnection system number
memory_each system is number c at kind =
    let l = is.connections number c at in
    let made = gives_link system number c l.start_known l.end_known (subst (λ kind. Joins kind l.start_known l.end_known) kind l.joins) in
    let here : 0 + number ≡ number = omega arith in
    let makes : memory_connection system (0 + number, c) ≡ Some made.link = ap (λ n. memory_connection system (n, c)) here ∙ memory_known system number c l ∙ made.is in
    let there = made_there (memory_connection system) 0 system.connections number c made.link at makes in
    record { place = there.place; link = made.link; is = there.is; connection = made.number }

-- ---- the rules on their ends

pub stream_keeps : (plan : PlanTable) → IsPlan plan → (number : ℕ) (link : StreamConnection) → IsStreamConnection plan.system number link → KeepsStreamRules plan.system link
stream_keeps plan is number link l connection at =
    let system = plan.system in
    let same : l.connection ≡ connection = same_Some l.connection connection (sym l.connection_is ∙ at) in
    let start : known_at system connection.start ≡ Source link.source =
    ap (λ (c : Connection). known_at system c.start) (sym same) ∙ ap (known_at system) l.start ∙ known_is system link.source_end (Source link.source) l.source in
    let end : known_at system connection.end ≡ Sink link.sink =
    ap (λ (c : Connection). known_at system c.end) (sym same) ∙ ap (known_at system) l.end ∙ known_is system link.sink_end (Sink link.sink) l.sink in
    subst (λ (b : Finished). KeepsAll (tests_as connection.clock_fits (Source link.source) b)) end
    (subst (λ (a : Finished). KeepsAll (tests_as connection.clock_fits a (known_at system connection.end))) start (is.links link.connection connection at))

pub memory_keeps : (plan : PlanTable) → IsPlan plan → (link : MemoryConnection) → IsMemoryConnection plan.system link → KeepsMmRules plan.system link
memory_keeps plan is link l connection at =
    let system = plan.system in
    let same : l.connection ≡ connection = same_Some l.connection connection (sym l.connection_is ∙ at) in
    let start : known_at system connection.start ≡ Host link.host =
    ap (λ (c : Connection). known_at system c.start) (sym same) ∙ known_is system l.connection.start (Host link.host) l.host in
    let end : known_at system connection.end ≡ Agent link.agent =
    ap (λ (c : Connection). known_at system c.end) (sym same) ∙ known_is system l.connection.end (Agent link.agent) l.agent in
    subst (λ (b : Finished). KeepsAll (tests_as connection.clock_fits (Host link.host) b)) end
    (subst (λ (a : Finished). KeepsAll (tests_as connection.clock_fits a (known_at system connection.end))) start (is.links link.connection connection at))

-- ---- connections that are judged one by one

-- the connection that is read at a place of the list
pub link_at : (system : SystemTable) (connections : List Connection) (k : ℕ) (d : Connection) → connections ≡ system.connections → k < length connections
    → slice_get system.connections k ≡ Some (get_or connections k d)
link_at system connections k d same within =
    subst (λ (l : List Connection). slice_get l k ≡ Some (get_or connections k d)) same (slice_get-get_or connections k d within)

-- one connection more that breaks no rule
pub keeps_more : (system : SystemTable) (k : ℕ) (kept : Connection) → slice_get system.connections k ≡ Some kept → ((j : ℕ) → j < k → KeepsLinkRules system j)
    → KeepsAll (tests_of system kept) → (j : ℕ) → j < k + 1 → KeepsLinkRules system j
keeps_more system k kept at before keeps j below connection there =
    ⊎_elim
    (λ earlier. before j earlier connection there)
    (λ last.
    let same : j ≡ k = omega arith in
    let one : kept ≡ connection = cc in
    subst (λ (c : Connection). KeepsAll (tests_of system c)) one keeps)
    (cases_lt j k)

-- where those of the list break no rule, none does
pub keeps_each : (system : SystemTable) (connections : List Connection) (k : ℕ) → connections ≡ system.connections → length connections ≤ k
    → ((j : ℕ) → j < k → KeepsLinkRules system j) → (j : ℕ) → KeepsLinkRules system j
keeps_each system connections k same all before j connection there =
    let within = slice_get_within system.connections j connection there in
    before j (omega (arith, ap length same, within)) connection there
