-- Transactions are done on the system of files or refused, never both, and for one reason.
use Rattle.std.proofs.Common.{◌≡◌, ℕ, ◌*◌, ◌^◌, ◌≤◌, ◌<◌, ◌⊎◌, inl, inr, Bool, true, false, List, [], Option, Some, None, slice_get, refl, sym, ap, subst, ◌∙◌, arith}
use Rattle.std.specs.Prelude.{nat_lt}
use Rattle.std.proofs.lemmas.Bool.{ltb-false, ltb-true, false≢true}
use Rattle.iface_roles.specs.declared.records.HostPort.{HostPort}
use Rattle.iface_roles.specs.declared.records.Finished.{Finished}
use Rattle.iface_roles.specs.declared.records.Finished.TheVariants.{Host, Agent, Source, Sink, Other}
use Rattle.iface_roles.specs.Proper.{range_of}
use Rattle.system_tables.specs.declared.tables.EndId.{EndId}
use Rattle.system_tables.specs.Tables.{SystemTable}
use Rattle.address_map.specs.Footprints.{known_at}
use Rattle.address_map.specs.Maps.{hosts_of}
use Rattle.link_rules.specs.Links.{weight_of}
use Rattle.system_plan.specs.declared.faults.Refusal.{Refusal}
use Rattle.system_plan.specs.Plans.{IsAccepted, IsRefusedBy}
use Rattle.scenario_tables.specs.Scenarios.{IsHostAt}
use Rattle.packet_bytes.specs.declared.gathering.Packet.{Packet}
use Rattle.packet_bytes.specs.declared.faults.PacketFault.TheVariants as packet
use Rattle.packet_bytes.specs.Streams.{AreRead}
use Rattle.packet_bytes.specs.Rules.{first_fault, IsFaultOf}
use Rattle.scenario_runs.specs.Hosts.{can_transfer, IsTransferHost, HasNoTransferHost}
use Rattle.scenario_runs.specs.declared.bridges.faults.BridgeFault.{BridgeFault}
use Rattle.scenario_runs.specs.declared.bridges.faults.BridgeFault.TheVariants as fault
use Rattle.scenario_runs.specs.Refused.{AreDue, CanBridge, IsUnfit, IsFaultyStream, IsTooLong, IsBridgeFault}

-- ---- host 0

host_or_none : SystemTable → Type 0
host_or_none system = ((port : HostPort) × IsTransferHost system port) ⊎ HasNoTransferHost system

some_one : {X : Type 0} (x y : X) → Some x ≡ Some y → x ≡ y
some_one {X} x y e = cc

host_one : (one other : HostPort) → Host one ≡ Host other → one ≡ other
host_one one other e = cc

-- a system has one host 0, with one record
one_host : (system : SystemTable) (one other : HostPort) → IsHostAt system 0 one → IsHostAt system 0 other → one ≡ other
one_host system one other a b =
    let end : a.end ≡ b.end = some_one a.end b.end (sym a.end_is ∙ b.end_is) in
    host_one one other (sym a.is ∙ ap (known_at system) end ∙ b.is)

by_can : (system : SystemTable) (port : HostPort) (at : IsHostAt system 0 port) (can : Bool) → can_transfer port ≡ can → host_or_none system
unfolding host_or_none
by_can system port at true e = inl (port, record { at = at; can = e })
by_can system port at false e = inr (λ other is. false≢true (sym e ∙ ap can_transfer (one_host system port other at is.at) ∙ is.can))

no_host_at : (system : SystemTable) → ((port : HostPort) → IsHostAt system 0 port → ⊥) → host_or_none system
unfolding host_or_none
no_host_at system none = inr (λ port is. none port is.at)

other_known : (system : SystemTable) (end other : EndId) → slice_get (hosts_of system) 0 ≡ Some end → slice_get (hosts_of system) 0 ≡ Some other → (one two : Finished) → known_at system end ≡ one → known_at system other ≡ two → one ≡ two
other_known system end other e f one two a b = sym a ∙ ap (known_at system) (some_one end other (sym e ∙ f)) ∙ b

by_known : (system : SystemTable) (end : EndId) → slice_get (hosts_of system) 0 ≡ Some end → (known : Finished) → known_at system end ≡ known → host_or_none system
by_known system end e (Host port) is = by_can system port (record { end = end; end_is = e; is = is }) (can_transfer port) refl
by_known system end e (Agent port) is = no_host_at system (λ other at. (let no : Agent port ≡ Host other = other_known system end at.end e at.end_is (Agent port) (Host other) is at.is in cc))
by_known system end e (Source port) is = no_host_at system (λ other at. (let no : Source port ≡ Host other = other_known system end at.end e at.end_is (Source port) (Host other) is at.is in cc))
by_known system end e (Sink port) is = no_host_at system (λ other at. (let no : Sink port ≡ Host other = other_known system end at.end e at.end_is (Sink port) (Host other) is at.is in cc))
by_known system end e Other is = no_host_at system (λ other at. (let no : Other ≡ Host other = other_known system end at.end e at.end_is Other (Host other) is at.is in cc))

by_end : (system : SystemTable) (found : Option EndId) → slice_get (hosts_of system) 0 ≡ found → host_or_none system
by_end system None e = no_host_at system (λ port at. (let no : None ≡ Some at.end = sym e ∙ at.end_is in cc))
by_end system (Some end) e = by_known system end e (known_at system end) refl

transfer_host_or_none : (system : SystemTable) → host_or_none system
transfer_host_or_none system = by_end system (slice_get (hosts_of system) 0) refl

-- ---- one of them

abbrev Answer : List (List ℕ) → List ℕ → ℕ → Type 0
Answer files bytes cycles = CanBridge files bytes cycles ⊎ ((f : BridgeFault) × IsBridgeFault files bytes cycles f)

abbrev pub ReadAnswer : List ℕ → Type 0
ReadAnswer bytes = (word_bytes range : ℕ) → ((packets : List Packet) × AreRead bytes packets × (first_fault word_bytes range 0 packets ≡ None)) ⊎ ((place : ℕ) × (rule : ℕ) × IsFaultOf word_bytes range bytes (packet.Refused place rule))

by_count : (files : List (List ℕ)) (bytes : List ℕ) (cycles : ℕ) (due : AreDue files bytes) (b : Bool) → nat_lt (2 ^ 32) (cycles * weight_of due.accepted.system) ≡ b → Answer files bytes cycles
by_count files bytes cycles due true e = inr (fault.TooManyValues (cycles * weight_of due.accepted.system), record { due = due; count_is = refl; passed = ltb-true (2 ^ 32) (cycles * weight_of due.accepted.system) e })
by_count files bytes cycles due false e = inl (record { due = due; few = ltb-false (2 ^ 32) (cycles * weight_of due.accepted.system) e })

by_stream : (files : List (List ℕ)) (bytes : List ℕ) (cycles : ℕ) (accepted : IsAccepted files) (port : HostPort) → IsTransferHost accepted.system port
    → ((packets : List Packet) × AreRead bytes packets × (first_fault port.word_bytes (range_of port) 0 packets ≡ None)) ⊎ ((place : ℕ) × (rule : ℕ) × IsFaultOf port.word_bytes (range_of port) bytes (packet.Refused place rule))
    → Answer files bytes cycles
by_stream files bytes cycles accepted port host (inl read) =
    let due : AreDue files bytes = record { accepted = accepted; port = port; host = host; packets = read.0; read = read.1; faultless = read.2 } in
    by_count files bytes cycles due (nat_lt (2 ^ 32) (cycles * weight_of accepted.system)) refl
by_stream files bytes cycles accepted port host (inr bad) = inr (fault.PacketRefused bad.0 bad.1, inr (record { accepted = accepted; port = port; host = host; is = bad.2 }))

by_host : (files : List (List ℕ)) (bytes : List ℕ) (cycles : ℕ) → ReadAnswer bytes → (accepted : IsAccepted files) → host_or_none accepted.system → Answer files bytes cycles
unfolding host_or_none
by_host files bytes cycles read accepted (inl host) = by_stream files bytes cycles accepted host.0 host.1 (read host.0.word_bytes (range_of host.0))
by_host files bytes cycles read accepted (inr none) = inr (fault.PacketRefused 0 8, inl (refl, refl, record { accepted = accepted; none = none }))

pub either : (files : List (List ℕ)) (bytes : List ℕ) (cycles : ℕ) → ReadAnswer bytes → IsAccepted files ⊎ ((r : Refusal) × IsRefusedBy files r) → Answer files bytes cycles
either files bytes cycles read (inl accepted) = by_host files bytes cycles read accepted (transfer_host_or_none accepted.system)
either files bytes cycles read (inr r) = inr (fault.SystemRefused r.0, r.1)

-- ---- and no other

-- what is known of the files of a system, and of a stream
pub record AreJudged (files : List (List ℕ)) (bytes : List ℕ) : Type 0 where
  pub accepted_or_refused : IsAccepted files → (r : Refusal) → IsRefusedBy files r → ⊥
  pub one_system : (one other : IsAccepted files) → one.system ≡ other.system
  pub one_refusal : (r s : Refusal) → IsRefusedBy files r → IsRefusedBy files s → r ≡ s
  pub read_or_faulty : (word_bytes range : ℕ) (packets : List Packet) (place rule : ℕ) → AreRead bytes packets → first_fault word_bytes range 0 packets ≡ None → IsFaultOf word_bytes range bytes (packet.Refused place rule) → ⊥
  pub one_fault : (word_bytes range place later rule other : ℕ) → IsFaultOf word_bytes range bytes (packet.Refused place rule) → IsFaultOf word_bytes range bytes (packet.Refused later other)
      → packet.Refused place rule ≡ packet.Refused later other

-- two acceptances have one host
same_host : (files : List (List ℕ)) (bytes : List ℕ) → AreJudged files bytes → (one other : IsAccepted files) (p q : HostPort) → IsTransferHost one.system p → IsTransferHost other.system q → p ≡ q
same_host files bytes law one other p q a b =
    let there : IsTransferHost other.system p = subst (λ (system : SystemTable). IsTransferHost system p) (law.one_system one other) a in
    one_host other.system p q there.at b.at

none_faulty : (files : List (List ℕ)) (bytes : List ℕ) → AreJudged files bytes → (due : AreDue files bytes) (byte rule : ℕ) → IsFaultyStream files bytes byte rule → ⊥
none_faulty files bytes law due byte rule bad =
    let same = same_host files bytes law bad.accepted due.accepted bad.port due.port bad.host due.host in
    law.read_or_faulty due.port.word_bytes (range_of due.port) due.packets byte rule due.read due.faultless (subst (λ (port : HostPort). IsFaultOf port.word_bytes (range_of port) bytes (packet.Refused byte rule)) same bad.is)

none_unfit : (files : List (List ℕ)) (bytes : List ℕ) → AreJudged files bytes → (accepted : IsAccepted files) (port : HostPort) → IsTransferHost accepted.system port → IsUnfit files → ⊥
none_unfit files bytes law accepted port host unfit = unfit.none port (subst (λ (system : SystemTable). IsTransferHost system port) (law.one_system accepted unfit.accepted) host)

same_count : (files : List (List ℕ)) (bytes : List ℕ) (cycles : ℕ) → AreJudged files bytes → (one other : IsAccepted files) → cycles * weight_of one.system ≡ cycles * weight_of other.system
same_count files bytes cycles law one other = ap (λ (system : SystemTable). cycles * weight_of system) (law.one_system one other)

pub never : (files : List (List ℕ)) (bytes : List ℕ) (cycles : ℕ) (f : BridgeFault) → AreJudged files bytes → CanBridge files bytes cycles → IsBridgeFault files bytes cycles f → ⊥
never files bytes cycles (fault.SystemRefused r) law can is = law.accepted_or_refused can.due.accepted r is
never files bytes cycles (fault.PacketRefused byte rule) law can (inl unfit) = none_unfit files bytes law can.due.accepted can.due.port can.due.host unfit.2
never files bytes cycles (fault.PacketRefused byte rule) law can (inr bad) = none_faulty files bytes law can.due byte rule bad
never files bytes cycles (fault.TooManyValues count) law can long =
    let same = same_count files bytes cycles law can.due.accepted long.due.accepted in
    let few = can.few in
    let passed = long.passed in
    let is = long.count_is in
    absurd (omega (arith, same, few, passed, is))
never files bytes cycles fault.NoMemory law can is = is

place_one : (place later rule other : ℕ) → packet.Refused place rule ≡ packet.Refused later other → fault.PacketRefused place rule ≡ fault.PacketRefused later other
place_one place later rule other e =
    let places : place ≡ later = cc in
    let rules : rule ≡ other = cc in
    ap (λ (n : ℕ). fault.PacketRefused n rule) places ∙ ap (fault.PacketRefused later) rules

one_stream : (files : List (List ℕ)) (bytes : List ℕ) → AreJudged files bytes → (place later rule other : ℕ) → IsFaultyStream files bytes place rule → IsFaultyStream files bytes later other
    → fault.PacketRefused place rule ≡ fault.PacketRefused later other
one_stream files bytes law place later rule other f g =
    let same = same_host files bytes law f.accepted g.accepted f.port g.port f.host g.host in
    place_one place later rule other
    (law.one_fault g.port.word_bytes (range_of g.port) place later rule other (subst (λ (port : HostPort). IsFaultOf port.word_bytes (range_of port) bytes (packet.Refused place rule)) same f.is) g.is)

both_unfit : (place later rule other : ℕ) → place ≡ 0 → rule ≡ 8 → later ≡ 0 → other ≡ 8 → fault.PacketRefused place rule ≡ fault.PacketRefused later other
both_unfit place later rule other a b d e = ap (λ (n : ℕ). fault.PacketRefused n rule) (a ∙ sym d) ∙ ap (fault.PacketRefused later) (b ∙ sym e)

-- the system of files that refuse or allow transactions is accepted
packets_accepted : (files : List (List ℕ)) (bytes : List ℕ) (place rule : ℕ) → ((place ≡ 0) × (rule ≡ 8) × IsUnfit files) ⊎ IsFaultyStream files bytes place rule → IsAccepted files
packets_accepted files bytes place rule (inl unfit) = unfit.2.accepted
packets_accepted files bytes place rule (inr bad) = bad.accepted

packets_or_due : (files : List (List ℕ)) (bytes : List ℕ) → AreJudged files bytes → (place rule : ℕ) → ((place ≡ 0) × (rule ≡ 8) × IsUnfit files) ⊎ IsFaultyStream files bytes place rule → AreDue files bytes → ⊥
packets_or_due files bytes law place rule (inl unfit) due = none_unfit files bytes law due.accepted due.port due.host unfit.2
packets_or_due files bytes law place rule (inr bad) due = none_faulty files bytes law due place rule bad

one_packet : (files : List (List ℕ)) (bytes : List ℕ) → AreJudged files bytes → (place later rule other : ℕ) → ((place ≡ 0) × (rule ≡ 8) × IsUnfit files) ⊎ IsFaultyStream files bytes place rule
    → ((later ≡ 0) × (other ≡ 8) × IsUnfit files) ⊎ IsFaultyStream files bytes later other → fault.PacketRefused place rule ≡ fault.PacketRefused later other
one_packet files bytes law place later rule other (inl f) (inl g) = both_unfit place later rule other f.0 f.1 g.0 g.1
one_packet files bytes law place later rule other (inl f) (inr g) = absurd (none_unfit files bytes law g.accepted g.port g.host f.2)
one_packet files bytes law place later rule other (inr f) (inl g) = absurd (none_unfit files bytes law f.accepted f.port f.host g.2)
one_packet files bytes law place later rule other (inr f) (inr g) = one_stream files bytes law place later rule other f g

pub one_fault : (files : List (List ℕ)) (bytes : List ℕ) (cycles : ℕ) (one other : BridgeFault) → AreJudged files bytes → IsBridgeFault files bytes cycles one → IsBridgeFault files bytes cycles other → one ≡ other
one_fault files bytes cycles (fault.SystemRefused r) (fault.SystemRefused s) law f g = ap fault.SystemRefused (law.one_refusal r s f g)
one_fault files bytes cycles (fault.SystemRefused r) (fault.PacketRefused byte rule) law f g = absurd (law.accepted_or_refused (packets_accepted files bytes byte rule g) r f)
one_fault files bytes cycles (fault.SystemRefused r) (fault.TooManyValues count) law f g = absurd (law.accepted_or_refused g.due.accepted r f)
one_fault files bytes cycles (fault.PacketRefused byte rule) (fault.SystemRefused s) law f g = absurd (law.accepted_or_refused (packets_accepted files bytes byte rule f) s g)
one_fault files bytes cycles (fault.PacketRefused place rule) (fault.PacketRefused later other) law f g = one_packet files bytes law place later rule other f g
one_fault files bytes cycles (fault.PacketRefused byte rule) (fault.TooManyValues count) law f g = absurd (packets_or_due files bytes law byte rule f g.due)
one_fault files bytes cycles (fault.TooManyValues count) (fault.SystemRefused s) law f g = absurd (law.accepted_or_refused f.due.accepted s g)
one_fault files bytes cycles (fault.TooManyValues count) (fault.PacketRefused byte rule) law f g = absurd (packets_or_due files bytes law byte rule g f.due)
one_fault files bytes cycles (fault.TooManyValues count) (fault.TooManyValues number) law f g =
    ap fault.TooManyValues (f.count_is ∙ same_count files bytes cycles law f.due.accepted g.due.accepted ∙ sym g.count_is)
one_fault files bytes cycles fault.NoMemory other law f g = absurd f
one_fault files bytes cycles one fault.NoMemory law f g = absurd g
