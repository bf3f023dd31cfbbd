-- The hosts, agents and streams of a system: where they come from, and that each end has ports once.
use Rattle.std.proofs.Common.{◌≡◌, ◌⊎◌, inl, inr, ℕ, zero, suc, ◌+◌, ◌<◌, Bool, true, false, not, List, [], ◌∷◌, ◌++◌, map, slice_get, Option, Some, None, refl, sym, ap, subst, ◌∙◌, arith}
use Rattle.std.specs.Prelude.{if◌then◌else◌}
use Rattle.std.specs.List.{flat_map, enumerate_from}
use Rattle.std.proofs.lemmas.Bool.{and_from, eq-eqb, false≢true}
use Rattle.iface_roles.specs.declared.kinds.Kind.{Kind}
use Rattle.iface_roles.specs.declared.kinds.Kind.TheVariants.{Clock, Reset, Mm, Stream, Conduit, Interrupt}
use Rattle.iface_roles.specs.declared.records.Finished.{Finished}
use Rattle.iface_roles.specs.declared.records.Finished.TheVariants.{Host, Agent, Source, Sink, Other}
use Rattle.iface_roles.specs.declared.records.HostPort.{HostPort}
use Rattle.iface_roles.specs.declared.records.AgentPort.{AgentPort}
use Rattle.iface_roles.specs.declared.records.StreamPort.{StreamPort}
use Rattle.iface_roles.specs.Proper.{IsProper}
use Rattle.system_tables.specs.declared.tables.EndId.{EndId}
use Rattle.system_tables.specs.declared.tables.Connection.{Connection}
use Rattle.system_tables.specs.Tables.{SystemTable, IsEnd, IsLogic, Joins}
use Rattle.address_map.specs.Ends.{is_same_end, each_once}
use Rattle.address_map.specs.Footprints.{known_at}
use Rattle.address_map.specs.Maps.{is_mm, mm_connections, hosts_of, agents_of}
use Rattle.link_rules.specs.declared.plan_connections.StreamConnection.{StreamConnection}
use Rattle.link_rules.specs.Links.{is_stream, streams_of}
use Rattle.link_rules.specs.PlanConnections.{IsStreamConnection}
use Rattle.port_tables.specs.Ports.{connection_ends, ends_of}
use Rattle.port_tables.specs.Ends.{IsNarrow, IsPlanEnd, ArePlanEnds, IsStreamPlace}
use Rattle.port_tables.specs.EndFacts.{AreNarrow, IsPlanned, known_is}
use Rattle.port_tables.specs.Lists.{Among, among_at, at_among, among_append, among_map, among_flat_map, among_filter, among_filter_map, Distinct, distinct_filter, distinct_append, distinct_filter_map, distinct_flat_map}

-- ---- ends

abbrev pub end_of : ℕ → ℕ → EndId
end_of instance interface = record { instance = instance; interface = interface }

pub among_once : (ends : List EndId) (end : EndId) → Among end (each_once ends) → Among end ends
among_once [] end h = h
among_once (e ∷ ends) end (inl same) = inl same
among_once (e ∷ ends) end (inr h) =
    inr (among_once ends end (among_filter (λ (other : EndId). not (is_same_end e other)) (each_once ends) end h).0)

is_same : (a : EndId) → is_same_end a a ≡ true
is_same a = and_from _ _ (eq-eqb a.instance a.instance refl) (eq-eqb a.interface a.interface refl)

distinct_once : (ends : List EndId) → Distinct (each_once ends)
distinct_once [] = tt
distinct_once (e ∷ ends) = (
  λ h. (let kept = (among_filter (λ (other : EndId). not (is_same_end e other)) (each_once ends) e h).1 in
      let same = is_same e in
      let other : not true ≡ true = rw same at kept in
      absurd (false≢true other)),
  distinct_filter (λ (other : EndId). not (is_same_end e other)) (each_once ends) (distinct_once ends),
)

-- ---- connections

pub mm_kind : (kind : Kind) → is_mm kind ≡ true → kind ≡ Mm
mm_kind Clock e = absurd (false≢true e)
mm_kind Reset e = absurd (false≢true e)
mm_kind Mm e = refl
mm_kind Stream e = absurd (false≢true e)
mm_kind Conduit e = absurd (false≢true e)
mm_kind Interrupt e = absurd (false≢true e)

pub stream_kind : (kind : Kind) → is_stream kind ≡ true → kind ≡ Stream
stream_kind Clock e = absurd (false≢true e)
stream_kind Reset e = absurd (false≢true e)
stream_kind Mm e = absurd (false≢true e)
stream_kind Stream e = refl
stream_kind Conduit e = absurd (false≢true e)
stream_kind Interrupt e = absurd (false≢true e)

-- a host and an agent
record AreMm (a b : Finished) : Type 0 where
  host : HostPort
  agent : AgentPort
  is_host : a ≡ Host host
  is_agent : b ≡ Agent agent

joins_mm : (a b : Finished) → Joins Mm a b → AreMm a b
joins_mm (Host h) (Agent a) j = record { host = h; agent = a; is_host = refl; is_agent = refl }
joins_mm a b j = absurd j

record AreStream (a b : Finished) : Type 0 where
  source : StreamPort
  sink : StreamPort
  is_source : a ≡ Source source
  is_sink : b ≡ Sink sink

joins_stream : (a b : Finished) → Joins Stream a b → AreStream a b
joins_stream (Source s) (Sink t) j = record { source = s; sink = t; is_source = refl; is_sink = refl }
joins_stream a b j = absurd j

-- what a connection of a host to an agent joins
pub record JoinsMm (system : SystemTable) (connection : Connection) : Type 0 where
  pub host : HostPort
  pub agent : AgentPort
  pub start : IsEnd system connection.start (Host host)
  pub end : IsEnd system connection.end (Agent agent)
  pub start_proper : IsProper (Host host)
  pub end_proper : IsProper (Agent agent)

pub of_mm : (system : SystemTable) (connection : Connection) → IsLogic system connection → connection.kind ≡ Mm
    → JoinsMm system connection
of_mm system connection l e =
    let are = joins_mm l.start_known l.end_known (subst (λ kind. Joins kind l.start_known l.end_known) e l.joins) in
    record {
      host = are.host;
      agent = are.agent;
      start = subst (IsEnd system connection.start) are.is_host l.start;
      end = subst (IsEnd system connection.end) are.is_agent l.end;
      start_proper = subst IsProper are.is_host l.start_proper;
      end_proper = subst IsProper are.is_agent l.end_proper;
    }

-- what a connection of a source to a sink joins
pub record JoinsStream (system : SystemTable) (connection : Connection) : Type 0 where
  pub source : StreamPort
  pub sink : StreamPort
  pub start : IsEnd system connection.start (Source source)
  pub end : IsEnd system connection.end (Sink sink)
  pub start_proper : IsProper (Source source)
  pub end_proper : IsProper (Sink sink)

pub of_stream : (system : SystemTable) (connection : Connection) → IsLogic system connection → connection.kind ≡ Stream
    → JoinsStream system connection
of_stream system connection l e =
    let are = joins_stream l.start_known l.end_known (subst (λ kind. Joins kind l.start_known l.end_known) e l.joins) in
    record {
      source = are.source;
      sink = are.sink;
      start = subst (IsEnd system connection.start) are.is_source l.start;
      end = subst (IsEnd system connection.end) are.is_sink l.end;
      start_proper = subst IsProper are.is_source l.start_proper;
      end_proper = subst IsProper are.is_sink l.end_proper;
    }

-- a connection among those of a system
pub record IsAmong (system : SystemTable) (connection : Connection) : Type 0 where
  pub number : ℕ
  pub is : slice_get system.connections number ≡ Some connection

logic_of : (system : SystemTable) (connection : Connection) → IsPlanned system → IsAmong system connection
    → IsLogic system connection
logic_of system connection h is = h.kept.connections is.number connection is.is

-- ---- what the ends by number are

abbrev sort : Finished → ℕ
sort (Host host) = 0
sort (Agent agent) = 1
sort (Source source) = 2
sort (Sink sink) = 3
sort Other = 4

-- an end of a system, of this sort
record IsOfSort (system : SystemTable) (end : EndId) (n : ℕ) : Type 0 where
  is_end : IsPlanEnd system end
  is_sort : sort (known_at system end) ≡ n

pub mm_among : (system : SystemTable) (connection : Connection) → IsPlanned system → Among connection (mm_connections system)
    → JoinsMm system connection
mm_among system connection h a =
    let kept = among_filter (λ (c : Connection). is_mm c.kind) system.connections connection a in
    let at = at_among system.connections connection kept.0 in
    of_mm system connection (logic_of system connection h (record { number = at.place; is = at.is }))
    (mm_kind connection.kind kept.1)

host_sort : (system : SystemTable) (end : EndId) → IsPlanned system → Among end (hosts_of system) → IsOfSort system end 0
host_sort system end h a =
    let once = among_once (map (λ (c : Connection). c.start) (mm_connections system)) end a in
    let from = among_map (λ (c : Connection). c.start) (mm_connections system) end once in
    let joins = mm_among system from.from h from.among in
    subst (λ e. IsOfSort system e 0) from.makes (record {
      is_end = record { known = Host joins.host; is = joins.start; proper = joins.start_proper; narrow = tt };
      is_sort = ap sort (known_is system from.from.start (Host joins.host) joins.start);
    })

agent_sort : (system : SystemTable) (end : EndId) → IsPlanned system → Among end (agents_of system) → IsOfSort system end 1
agent_sort system end h a =
    let once = among_once (map (λ (c : Connection). c.end) (mm_connections system)) end a in
    let from = among_map (λ (c : Connection). c.end) (mm_connections system) end once in
    let joins = mm_among system from.from h from.among in
    subst (λ e. IsOfSort system e 1) from.makes (record {
      is_end = record { known = Agent joins.agent; is = joins.end; proper = joins.end_proper; narrow = tt };
      is_sort = ap sort (known_is system from.from.end (Agent joins.agent) joins.end);
    })

-- ---- streams

record IsNumbered {X : Type 0} (n : ℕ) (xs : List X) (pair : ℕ × X) : Type 0 where
  place : ℕ
  number : pair.0 ≡ n + place
  is : slice_get xs place ≡ Some pair.1

among_numbered : {X : Type 0} (n : ℕ) (xs : List X) (pair : ℕ × X) → Among pair (enumerate_from n xs) → IsNumbered n xs pair
among_numbered n [] pair h = absurd h
among_numbered {X = X} n (x ∷ xs) pair (inl e) =
    let first = ap (λ (p : ℕ × X). p.0) e in
    let second = ap (λ (p : ℕ × X). p.1) e in
    record { place = 0; number = omega (arith, first); is = ap Some second }
among_numbered n (x ∷ xs) pair (inr h) =
    let rest = among_numbered (n + 1) xs pair h in
    let number = rest.number in
    record { place = suc rest.place; number = omega arith; is = rest.is }

distinct_numbers : {X : Type 0} (n : ℕ) (xs : List X) → Distinct (enumerate_from n xs)
distinct_numbers n [] = tt
distinct_numbers n (x ∷ xs) = (
  λ h. (let at = among_numbered (n + 1) xs (n, x) h in let number = at.number in absurd (omega arith)),
  distinct_numbers
      (n + 1) xs,
)

-- the numbers of streams are those of connections of sources to sinks
pub record IsStreamNumber (system : SystemTable) (number : ℕ) : Type 0 where
  pub connection : Connection
  pub is : slice_get system.connections number ≡ Some connection
  pub kind : connection.kind ≡ Stream

-- the number of a stream's connection
abbrev pub number_of : ℕ × Connection → Option ℕ
number_of numbered = if is_stream numbered.1.kind then Some numbered.0 else None

record IsStreamPair (numbered : ℕ × Connection) (number : ℕ) : Type 0 where
  kind : is_stream numbered.1.kind ≡ true
  number_is : numbered.0 ≡ number

number_from : (numbered : ℕ × Connection) (number : ℕ) → number_of numbered ≡ Some number → IsStreamPair numbered number
number_from numbered number e = by_test (is_stream numbered.1.kind) refl e
  where
    by_test : (b : Bool) → is_stream numbered.1.kind ≡ b → (if b then Some numbered.0 else None) ≡ Some number
        → IsStreamPair numbered number
    by_test true k f = record { kind = k; number_is = cc }
    by_test false k f = absurd (let n : None ≡ Some number = f in cc)

pub stream_number : (system : SystemTable) (number : ℕ) → Among number (streams_of system) → IsStreamNumber system number
stream_number system number a =
    let from = among_filter_map number_of (enumerate_from 0 system.connections) number a in
    let pair = number_from from.from number from.makes in
    let at = among_numbered 0 system.connections from.from from.among in
    let place : at.place ≡ number = (let e = at.number in let f = pair.number_is in omega (arith, e, f)) in
    record {
      connection = from.from.1;
      is = subst (λ k. slice_get system.connections k ≡ Some from.from.1) place at.is;
      kind = stream_kind from.from.1.kind pair.kind;
    }

pair_is : (a b : ℕ × Connection) → a.0 ≡ b.0 → a.1 ≡ b.1 → a ≡ b
pair_is a b e f = ap (λ (n : ℕ). (n, a.1)) e ∙ ap (λ (c : Connection). (b.0, c)) f

-- of two pairs of one list with one number
one_pair : (xs : List Connection) (a b : ℕ × Connection) → Among a (enumerate_from 0 xs) → Among b (enumerate_from 0 xs)
    → a.0 ≡ b.0 → a ≡ b
one_pair xs a b k l e =
    let i = among_numbered 0 xs a k in
    let j = among_numbered 0 xs b l in
    let places : i.place ≡ j.place = (let m = i.number in let n = j.number in omega (arith, m, n, e)) in
    let one = i.is in
    let other = j.is in
    let some : Some a.1 ≡ Some b.1 = sym one ∙ ap (slice_get xs) places ∙ other in
    let second : a.1 ≡ b.1 = cc in
    pair_is a b e second

pub distinct_streams : (system : SystemTable) → Distinct (streams_of system)
distinct_streams system =
    distinct_filter_map number_of (enumerate_from 0 system.connections)
    (λ a b n k l e f. one_pair system.connections a b k l ((number_from a n e).number_is ∙ sym (number_from b n f).number_is))
    (distinct_numbers 0 system.connections)

-- ---- the ends of streams

narrow_ends : (a b : Finished) → (source : StreamPort) (sink : StreamPort) → a ≡ Source source → b ≡ Sink sink → AreNarrow a b
    → IsNarrow a × IsNarrow b
narrow_ends a b source sink e f h =
    let are = subst (λ y. AreNarrow (Source source) y) f (subst (λ x. AreNarrow x b) e h) in
    (subst IsNarrow (sym e) are.0, subst IsNarrow (sym f) are.1)

-- the connection of a stream, and its ends
pub record IsStreamAt (system : SystemTable) (number : ℕ) (connection : Connection) : Type 0 where
  pub is : slice_get system.connections number ≡ Some connection
  pub kind : connection.kind ≡ Stream
  pub joins : JoinsStream system connection
  pub source : IsPlanEnd system connection.start
  pub sink : IsPlanEnd system connection.end

pub stream_at : (system : SystemTable) (number : ℕ) (connection : Connection) → IsPlanned system
    → slice_get system.connections number ≡ Some connection → connection.kind ≡ Stream
    → IsStreamAt system number connection
stream_at system number connection h is kind =
    let joins = of_stream system connection (h.kept.connections number connection is) kind in
    let source_is = known_is system connection.start (Source joins.source) joins.start in
    let sink_is = known_is system connection.end (Sink joins.sink) joins.end in
    let narrow = narrow_ends _ _ joins.source joins.sink source_is sink_is (h.narrow number connection is) in
    record {
      is = is;
      kind = kind;
      joins = joins;
      source =
          record {
            known =
                Source joins.source;
            is = joins.start;
            proper = joins.start_proper;
            narrow = subst IsNarrow source_is narrow.0;
          };
      sink =
          record { known = Sink joins.sink; is = joins.end; proper = joins.end_proper; narrow = subst IsNarrow sink_is narrow.1 };
    }

-- an end among those of a stream
data IsStreamEnd (system : SystemTable) (number : ℕ) (end : EndId) : Type 0 where
  AtSource : (connection : Connection) → IsStreamAt system number connection → connection.start ≡ end
      → IsStreamEnd system number end
  AtSink : (connection : Connection) → IsStreamAt system number connection → connection.end ≡ end → IsStreamEnd system number end

pub ends_at : (system : SystemTable) (number : ℕ) (connection : Connection)
    → slice_get system.connections number ≡ Some connection
    → connection_ends system number ≡ connection.start ∷ connection.end ∷ []
ends_at system number connection e = rw e refl

stream_end : (system : SystemTable) (number : ℕ) (end : EndId) → IsPlanned system → Among number (streams_of system)
    → Among end (connection_ends system number) → IsStreamEnd system number end
stream_end system number end h among a =
    let is = stream_number system number among in
    let at = stream_at system number is.connection h is.is is.kind in
    elim (subst (Among end) (ends_at system number is.connection is.is) a) [
      | inl e ↦ AtSource is.connection at e
      | inr b ↦ elim b [ inl e ↦ AtSink is.connection at e | inr none ↦ absurd none ]
    ]

stream_sort : (system : SystemTable) (number : ℕ) (end : EndId) → IsStreamEnd system number end
    → IsOfSort system end 2 ⊎ IsOfSort system end 3
stream_sort system number end (AtSource connection at e) =
    inl
    (subst (λ x. IsOfSort system x 2) e
    (record
    { is_end = at.source; is_sort = ap sort (known_is system connection.start (Source at.joins.source) at.joins.start) }))
stream_sort system number end (AtSink connection at e) =
    inr
    (subst (λ x. IsOfSort system x 3) e
    (record { is_end = at.sink; is_sort = ap sort (known_is system connection.end (Sink at.joins.sink) at.joins.end) }))

-- ---- each end has ports once

one_sort : (system : SystemTable) (end : EndId) (m n : ℕ) → IsOfSort system end m → IsOfSort system end n → m ≡ n
one_sort system end m n a b = sym a.is_sort ∙ b.is_sort

sort_at : (system : SystemTable) (connection : Connection) (number : ℕ) (at : IsStreamAt system number connection)
    → IsOfSort system connection.start 2 × IsOfSort system connection.end 3
sort_at system connection number at = (
  record { is_end = at.source; is_sort = ap sort (known_is system connection.start (Source at.joins.source) at.joins.start) },
  record { is_end = at.sink; is_sort = ap sort (known_is system connection.end (Sink at.joins.sink) at.joins.end) },
)

different : (m n : ℕ) → m < n → m ≡ n → ⊥
different m n less same = absurd (omega arith)

stream_pair : (system : SystemTable) (number : ℕ) → IsPlanned system → Among number (streams_of system)
    → Distinct (connection_ends system number)
stream_pair system number h among =
    let is = stream_number system number among in
    let at = stream_at system number is.connection h is.is is.kind in
    let sorts = sort_at system is.connection number at in
    let apart : Among is.connection.start (is.connection.end ∷ []) → ⊥ =
    λ a. elim a [
      | inl e ↦
          different 2 3 (omega arith)
          (one_sort system is.connection.start 2 3 sorts.0 (subst (λ x. IsOfSort system x 3) e sorts.1))
      | inr none ↦ none
    ] in
    let nothing : Among is.connection.end [] → ⊥ = λ a. a in
    subst Distinct (sym (ends_at system number is.connection is.is)) (apart, (nothing, tt))

one_stream : (system : SystemTable) (a b : ℕ) (end : EndId) → IsPlanned system → IsStreamEnd system a end
    → IsStreamEnd system b end → a ≡ b
one_stream system a b end h (AtSource c at e) (AtSource d bt f) = h.kept.sources a b c d at.is bt.is at.kind (e ∙ sym f)
one_stream system a b end h (AtSource c at e) (AtSink d bt f) =
    absurd
    (different 2 3 (omega arith)
    (one_sort system end 2 3 (subst (λ x. IsOfSort system x 2) e (sort_at system c a at).0)
    (subst (λ x. IsOfSort system x 3) f (sort_at system d b bt).1)))
one_stream system a b end h (AtSink c at e) (AtSource d bt f) =
    absurd
    (different 2 3 (omega arith)
    (one_sort system end 2 3 (subst (λ x. IsOfSort system x 2) f (sort_at system d b bt).0)
    (subst (λ x. IsOfSort system x 3) e (sort_at system c a at).1)))
one_stream system a b end h (AtSink c at e) (AtSink d bt f) = h.kept.sinks a b c d at.is bt.is at.kind (e ∙ sym f)

streams_sort : (system : SystemTable) (end : EndId) → IsPlanned system
    → Among end (flat_map (connection_ends system) (streams_of system)) → IsOfSort system end 2 ⊎ IsOfSort system end 3
streams_sort system end h a =
    let from = among_flat_map (connection_ends system) (streams_of system) end a in
    stream_sort system from.from end (stream_end system from.from end h from.among from.makes)

-- an end is of one sort alone
other_sort : (system : SystemTable) (end : EndId) (m : ℕ) → m < 2 → IsOfSort system end m
    → IsOfSort system end 2 ⊎ IsOfSort system end 3 → ⊥
other_sort system end m small a (inl b) = different m 2 (omega arith) (one_sort system end m 2 a b)
other_sort system end m small a (inr b) = different m 3 (omega arith) (one_sort system end m 3 a b)

mm_sort : (system : SystemTable) (end : EndId) → IsPlanned system → Among end (hosts_of system ++ agents_of system)
    → IsOfSort system end 0 ⊎ IsOfSort system end 1
mm_sort system end h a =
    elim (among_append (hosts_of system) (agents_of system) end a) [
      | inl b ↦ inl (host_sort system end h b)
      | inr b ↦ inr (agent_sort system end h b)
    ]

pub distinct_ends : (system : SystemTable) → IsPlanned system → Distinct (ends_of system)
distinct_ends system h =
    distinct_append (hosts_of system ++ agents_of system) (flat_map (connection_ends system) (streams_of system))
    (distinct_append (hosts_of system) (agents_of system)
    (distinct_once (map (λ (c : Connection). c.start) (mm_connections system)))
    (distinct_once (map (λ (c : Connection). c.end) (mm_connections system)))
    (λ x a b. different 0 1 (omega arith) (one_sort system x 0 1 (host_sort system x h a) (agent_sort system x h b))))
    (distinct_flat_map (connection_ends system) (streams_of system) (λ number a. stream_pair system number h a)
    (λ a b y k l m n. one_stream system a b y h (stream_end system a y h k m) (stream_end system b y h l n))
    (distinct_streams system))
    (λ x a b. elim (mm_sort system x h a) [
      | inl s ↦ other_sort system x 0 (omega arith) s (streams_sort system x h b)
      | inr s ↦ other_sort system x 1 (omega arith) s (streams_sort system x h b)
    ])

pub plan_end : (system : SystemTable) (end : EndId) → IsPlanned system → Among end (ends_of system) → IsPlanEnd system end
plan_end system end h a =
    elim (among_append (hosts_of system ++ agents_of system) (flat_map (connection_ends system) (streams_of system)) end a) [
      | inl b ↦ elim (mm_sort system end h b) [ inl s ↦ s.is_end | inr s ↦ s.is_end ]
      | inr b ↦ elim (streams_sort system end h b) [ inl s ↦ s.is_end | inr s ↦ s.is_end ]
    ]

pub are_hosts : (system : SystemTable) → IsPlanned system → ArePlanEnds system (hosts_of system)
are_hosts system h k end e = (host_sort system end h (among_at (hosts_of system) k end e)).is_end

pub are_agents : (system : SystemTable) → IsPlanned system → ArePlanEnds system (agents_of system)
are_agents system h k end e = (agent_sort system end h (among_at (agents_of system) k end e)).is_end

pub are_ends : (system : SystemTable) (number : ℕ) (connection : Connection) → IsStreamPlace system number connection
    → ArePlanEnds system (connection.start ∷ connection.end ∷ [])
are_ends system number connection at zero end e = subst (IsPlanEnd system) (cc) at.source
are_ends system number connection at (suc zero) end e = subst (IsPlanEnd system) (cc) at.sink
are_ends system number connection at (suc (suc k)) end e = absurd (let n : None ≡ Some end = e in cc)

-- ---- streams by their numbers

-- the stream of a link: its connection, whose ends are the link's
pub record IsStreamOf (system : SystemTable) (number : ℕ) (link : StreamConnection) : Type 0 where
  pub connection : Connection
  pub place : IsStreamPlace system number connection
  pub start : connection.start ≡ link.source_end
  pub end : connection.end ≡ link.sink_end

pub link_stream : (system : SystemTable) (number : ℕ) (link : StreamConnection) → IsPlanned system
    → IsStreamConnection system number link → IsStreamOf system number link
link_stream system number link h l =
    let at = stream_at system link.connection l.connection h l.connection_is l.kind in
    record {
      connection = l.connection;
      place = record {
        place = link.connection;
        place_is = l.place_is;
        connection_is = l.connection_is;
        source = at.source;
        sink = at.sink;
        source_port = at.joins.source;
        sink_port = at.joins.sink;
        source_is = known_is system l.connection.start (Source at.joins.source) at.joins.start;
        sink_is = known_is system l.connection.end (Sink at.joins.sink) at.joins.end;
      };
      start = l.start;
      end = l.end;
    }

-- ---- what the ends by number are known as

pub agent_known : (system : SystemTable) (number : ℕ) (end : EndId) → IsPlanned system
    → slice_get (agents_of system) number ≡ Some end → (agent : AgentPort) × (known_at system end ≡ Agent agent)
agent_known system number end h e =
    let once = among_once (map
    (λ (c : Connection). c.end) (mm_connections system)) end (among_at (agents_of system) number end e) in
    let from = among_map (λ (c : Connection). c.end) (mm_connections system) end once in
    let joins = mm_among system from.from h from.among in
    (joins.agent, ap (known_at system) (sym from.makes) ∙ known_is system from.from.end (Agent joins.agent) joins.end)

pub sink_known : (system : SystemTable) (number place : ℕ) (connection : Connection) → IsPlanned system
    → slice_get (streams_of system) number ≡ Some place → slice_get system.connections place ≡ Some connection
    → (sink : StreamPort) × (known_at system connection.end ≡ Sink sink)
sink_known system number place connection h e f =
    let known = stream_number system place (among_at (streams_of system) number place e) in
    let p = known.is in
    let same : known.connection ≡ connection = cc in
    let at = stream_at system place connection h f (ap (λ (c : Connection). c.kind) (sym same) ∙ known.kind) in
    (at.joins.sink, known_is system connection.end (Sink at.joins.sink) at.joins.end)
