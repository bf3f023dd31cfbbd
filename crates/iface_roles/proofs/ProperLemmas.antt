-- What an interface that keeps the rules gives its record.
use Rattle.std.proofs.Common.{◌≡◌, ℕ, ◌*◌, ◌^◌, ◌/◌, ◌<◌, ◌≤◌, ◌⊎◌, inl, inr, Bool, true, false, ◌&&◌, ◌||◌, not, cond, nat_lt, nat_le, nat_eq, Option, Some, None, refl, sym, ap, subst, arith, unwrap_or}
use Rattle.std.specs.Prelude.{is_some}
use Rattle.std.specs.Option.{ForSome}
use Rattle.std.proofs.lemmas.Bool.Decides.{nat_tests, Decides-eqb}
use Rattle.iface_roles.specs.declared.interface.Port.{Port}
use Rattle.iface_roles.specs.declared.kinds.Kind.{Kind}
use Rattle.iface_roles.specs.declared.kinds.Kind.TheVariants.{Clock, Reset, Mm, Stream, Conduit, Interrupt}
use Rattle.iface_roles.specs.declared.kinds.Side.{Side}
use Rattle.iface_roles.specs.declared.kinds.Side.TheVariants.{Start, End}
use Rattle.iface_roles.specs.declared.properties.PropertyId.{PropertyId}
use Rattle.iface_roles.specs.declared.properties.PropertyId.TheVariants.{ReadLatency, MaximumPendingReadTransactions, DataBitsPerSymbol, MaxChannel, ReadyLatency, ReadyAllowance}
use Rattle.iface_roles.specs.declared.records.HostPort.{HostPort}
use Rattle.iface_roles.specs.declared.records.AgentPort.{AgentPort}
use Rattle.iface_roles.specs.declared.records.StreamPort.{StreamPort}
use Rattle.iface_roles.specs.declared.records.Finished.TheVariants.{Host, Agent, Source, Sink}
use Rattle.iface_roles.specs.declared.roles.Role.TheVariants.{Address, Read, Write, WriteData, BurstCount, WaitRequest, ReadData, ReadDataValid, Valid, Data, Channel, StartOfPacket, Empty}
use Rattle.iface_roles.specs.Held.{Held, has, width_of, port_of, set_to, setting_of, AreInRange}
use Rattle.iface_roles.specs.Kinds.{is_avalon}
use Rattle.iface_roles.specs.Properties.{IsInRange}
use Rattle.iface_roles.specs.Proper.{IsProper, IsWordSize, AreMmPorts, IsBoundedHost, IsBoundedAgent, IsBoundedStream}
use Rattle.iface_roles.specs.Records.{host_of, agent_of, stream_of, finished_as}
use Rattle.iface_roles.specs.Rules.{KeepsRules, word_bits, word_bytes, symbols_of, is_word, is_beat, without, lacks_ports_as, reach_as, can_count}
use Rattle.iface_roles.proofs.FitLemmas.{bits_of, kept, or-left, or-right, narrow, FitsMm-from_rules, FitsStream-from_rules}

not-false : (b : Bool) → not b ≡ false → b ≡ true
not-false true h = refl
not-false false h = cc

or-cases : (a b : Bool) → (a || b) ≡ true → (a ≡ true) ⊎ (b ≡ true)
or-cases true b h = inl refl
or-cases false b h = inr h

-- a word's bits, eight to a byte
of_width : (bits width exponent : ℕ) → nat_eq bits width ≡ true → exponent ≤ 4 → width / 8 ≡ 2 ^ exponent → IsWordSize (bits / 8)
of_width bits width exponent is small power =
    let same : width ≡ bits = sym ((Decides-eqb bits width).0 is) in
    record { exponent = exponent; small = small; power = subst (λ n. n / 8 ≡ 2 ^ exponent) same power }

IsWordSize-of_word : (bits : ℕ) → is_word bits ≡ true → IsWordSize (bits / 8)
IsWordSize-of_word bits h =
    let a = nat_eq bits 8 in
    let b = nat_eq bits 16 in
    let c = nat_eq bits 32 in
    let d = nat_eq bits 64 in
    let e = nat_eq bits 128 in
    elim (or-cases (a || b || c || d) e h) [
      | inl abcd ↦ elim (or-cases (a || b || c) d abcd) [
        | inl abc ↦ elim (or-cases (a || b) c abc) [
          | inl ab ↦ elim (or-cases a b ab) [
            | inl is ↦ of_width bits 8 0 is (omega arith) refl
            | inr is ↦ of_width bits 16 1 is (omega arith) refl
          ]
          | inr is ↦ of_width bits 32 2 is (omega arith) refl
        ]
        | inr is ↦ of_width bits 64 3 is (omega arith) refl
      ]
      | inr is ↦ of_width bits 128 4 is (omega arith) refl
    ]

-- where there is a kind of transfer there is data for it, of a word's width
word-from_rules : (read write data_in data_out : Bool) (m n : ℕ) → not (read || write) ≡ false → ((read && not data_in) || (data_in && not read)) ≡ false → ((write && not data_out) || (data_out && not write)) ≡ false → (data_in && not (is_word m)) ≡ false → (data_out && not (is_word n)) ≡ false → is_word (cond data_in m n) ≡ true
word-from_rules read write true data_out m n some r w odd_in odd_out = not-false (is_word m) odd_in
word-from_rules true write false data_out m n some r w odd_in odd_out = cc
word-from_rules false true false true m n some r w odd_in odd_out = not-false (is_word n) odd_out
word-from_rules false true false false m n some r w odd_in odd_out = cc
word-from_rules false false false data_out m n some r w odd_in odd_out = cc

-- a port that is there has at least the least of its widths
there-within : (o : Option Port) (low high : ℕ) → not (is_some o) ≡ false → (is_some o && not (nat_le low (bits_of o) && nat_le (bits_of o) high)) ≡ false → low ≤ bits_of o
there-within None low high there h = cc
there-within (Some port) low high there h = grind (arith, nat_tests)

-- a port with bits is there
has_bits : (o : Option Port) → 0 < bits_of o → is_some o ≡ true
has_bits None h = absurd (omega arith)
has_bits (Some port) h = refl

needs : (a b : Bool) → (a && not b) ≡ false → a ≡ true → b ≡ true
needs true b h e = not-false b h
needs false b h e = cc

needs_both : (a b c : Bool) → (a && (b && not c)) ≡ false → a ≡ true → b ≡ true → c ≡ true
needs_both true true c h e f = not-false c h
needs_both true false c h e f = cc
needs_both false b c h e f = cc

not_above : (m n : ℕ) → nat_lt m n ≡ false → n ≤ m
not_above m n h = grind (arith, nat_tests)

AreMmPorts-from_rules : (i : Held) → i.kind ≡ Mm → not (has i Read || has i Write) ≡ false → KeepsRules i → AreMmPorts (width_of i Address) (word_bytes i) (width_of i BurstCount) (has i Read) (has i Write) (has i ReadDataValid) (has i WaitRequest)
AreMmPorts-from_rules i mm transfers keeps =
    let avalon : is_avalon i.kind ≡ true = ap is_avalon mm in
    let fits = FitsMm-from_rules i mm keeps in
    let odd_read = has i ReadData && not (is_word (width_of i ReadData)) in
    let odd_write = has i WriteData && not (is_word (width_of i WriteData)) in
    let odd_beat = has i Data && not (is_beat i) in
    let both = or-left (odd_read || odd_write) odd_beat (kept i avalon keeps 4) in
    let unread = without i ReadDataValid Read in
    let unwaited = without i BurstCount WaitRequest in
    let unmarked = has i BurstCount && without i Read ReadDataValid in
    let handshake = kept i avalon keeps 8 in
    let ports = or-left (unread || unwaited) unmarked handshake in
    record {
      address = fits.address;
      word = IsWordSize-of_word (word_bits i) (word-from_rules (has i Read) (has i Write) (has i ReadData) (has i WriteData) (width_of i ReadData) (width_of i WriteData)
          transfers (kept i avalon keeps 1) (kept i avalon keeps 2) (or-left odd_read odd_write both) (or-right odd_read odd_write both));
      burst = fits.burst;
      transfers = not-false (has i Read || has i Write) transfers;
      valid_reads = needs (has i ReadDataValid) (has i Read) (or-left unread unwaited ports);
      burst_waits = λ h. needs (has i BurstCount) (has i WaitRequest) (or-right unread unwaited ports) (has_bits (port_of i BurstCount) h);
      burst_valid = λ h. needs_both (has i BurstCount) (has i Read) (has i ReadDataValid) (or-right (unread || unwaited) unmarked handshake) (has_bits (port_of i BurstCount) h);
    }

-- a setting is within its range, where the default is
unwrap_or-within : (o : Option ℕ) (id : PropertyId) (default : ℕ) → ForSome o (IsInRange id) → IsInRange id default → IsInRange id (unwrap_or o default)
unwrap_or-within None id default h d = d
unwrap_or-within (Some x) id default h d = h x refl

IsBoundedHost-from_rules : (i : Held) → i.kind ≡ Mm → i.side ≡ Start → KeepsRules i → IsBoundedHost (host_of i)
IsBoundedHost-from_rules i mm start keeps =
    let avalon : is_avalon i.kind ≡ true = ap is_avalon mm in
    let ports : lacks_ports_as Mm Start i ≡ false =
    subst (λ (s : Side). lacks_ports_as Mm s i ≡ false) start (subst (λ (k : Kind). lacks_ports_as k i.side i ≡ false) mm (kept i avalon keeps 0)) in
    let reach : nat_lt (2 ^ 32) (reach_as Start i) ≡ false =
    subst (λ (s : Side). nat_lt (2 ^ 32) (reach_as s i) ≡ false) start (kept i avalon keeps 9) in
    let no_address = not (has i Address) in
    let no_transfer = not (has i Read || has i Write) in
    record {
      ports = AreMmPorts-from_rules i mm (or-right no_address no_transfer ports) keeps;
      addressed = there-within (port_of i Address) 1 32 (or-left no_address no_transfer ports) (narrow i Address refl (kept i avalon keeps 6));
      range = not_above (2 ^ 32) (reach_as Start i) reach;
    }

IsBoundedAgent-from_rules : (i : Held) → i.kind ≡ Mm → i.side ≡ End → AreInRange i.settings → KeepsRules i → IsBoundedAgent (agent_of i)
IsBoundedAgent-from_rules i mm end in_range keeps =
    let avalon : is_avalon i.kind ≡ true = ap is_avalon mm in
    let ports : lacks_ports_as Mm End i ≡ false =
    subst (λ (s : Side). lacks_ports_as Mm s i ≡ false) end (subst (λ (k : Kind). lacks_ports_as k i.side i ≡ false) mm (kept i avalon keeps 0)) in
    let reach : nat_lt (2 ^ 32) (reach_as End i) ≡ false =
    subst (λ (s : Side). nat_lt (2 ^ 32) (reach_as s i) ≡ false) end (kept i avalon keeps 9) in
    record {
      ports = AreMmPorts-from_rules i mm ports keeps;
      span = not_above (2 ^ 32) (reach_as End i) reach;
      read_latency = (unwrap_or-within (set_to i ReadLatency) ReadLatency 0 (in_range ReadLatency) (record { low = omega arith; high = omega arith })).high;
      pending = (unwrap_or-within (set_to i MaximumPendingReadTransactions) MaximumPendingReadTransactions 0 (in_range MaximumPendingReadTransactions) (record { low = omega arith; high = omega arith })).high;
    }

-- at least one symbol fills the data where the data is there
some_symbols : (there : Bool) (symbols width bits : ℕ) → not there ≡ false → (there && not (nat_le 1 symbols && nat_le symbols 32 && nat_eq width bits)) ≡ false → 1 ≤ symbols
some_symbols true symbols width bits h e = grind (arith, nat_tests)
some_symbols false symbols width bits h e = cc

-- the largest channel is one that the channel's bits can carry
channels-within : (there : Bool) (bits greatest : ℕ) → (there ≡ false → bits ≡ 0) → (cond there (nat_le (2 ^ bits) greatest) (nat_lt 0 greatest)) ≡ false → greatest < 2 ^ bits
channels-within true bits greatest none h = grind (arith, nat_tests)
channels-within false bits greatest none h =
    let small : greatest ≤ 0 = grind (arith, nat_tests) in
    let one : 2 ^ bits ≡ 1 = ap (λ n. 2 ^ n) (none refl) in
    omega arith

no_bits : (o : Option Port) → is_some o ≡ false → bits_of o ≡ 0
no_bits None h = refl
no_bits (Some port) h = cc

-- the bits of `empty` count the symbols of a packet's beat
empty-counts : (o : Option Port) (packets : Bool) (symbols : ℕ) → (is_some o && not (can_count symbols (bits_of o))) ≡ false → ((packets && not (is_some o)) && nat_lt 1 symbols) ≡ false → packets ≡ true → symbols ≤ 2 ^ bits_of o
empty-counts None true symbols odd missing h = grind (arith, nat_tests)
empty-counts (Some port) true symbols odd missing h = grind (arith, nat_tests)
empty-counts o false symbols odd missing h = cc

allowance-within : (o : Option ℕ) (latency : ℕ) → ForSome o (IsInRange ReadyAllowance) → latency ≤ 63 → cond (nat_eq (unwrap_or o 0) 0) latency (unwrap_or o 0) ≤ 63
allowance-within None latency h l = l
allowance-within (Some x) latency h l =
    let high : x ≤ 63 = (h x refl).high in
    elim (nat_eq x 0) as (λ b. cond b latency x ≤ 63) [ true ↦ l | false ↦ high ]

IsBoundedStream-from_rules : (i : Held) → i.kind ≡ Stream → AreInRange i.settings → KeepsRules i → IsBoundedStream (stream_of i)
IsBoundedStream-from_rules i stream in_range keeps =
    let avalon : is_avalon i.kind ≡ true = ap is_avalon stream in
    let fits = FitsStream-from_rules i stream keeps in
    let ports : lacks_ports_as Stream i.side i ≡ false = subst (λ (k : Kind). lacks_ports_as k i.side i ≡ false) stream (kept i avalon keeps 0) in
    let odd_read = has i ReadData && not (is_word (width_of i ReadData)) in
    let odd_write = has i WriteData && not (is_word (width_of i WriteData)) in
    let odd_beat = has i Data && not (is_beat i) in
    let alone = has i Empty && not (has i StartOfPacket) in
    let odd = has i Empty && not (can_count (symbols_of i) (width_of i Empty)) in
    let missing = has i StartOfPacket && not (has i Empty) && nat_lt 1 (symbols_of i) in
    let empties = kept i avalon keeps 11 in
    let bits = unwrap_or-within (set_to i DataBitsPerSymbol) DataBitsPerSymbol 8 (in_range DataBitsPerSymbol) (record { low = omega arith; high = omega arith }) in
    let latency = (unwrap_or-within (set_to i ReadyLatency) ReadyLatency 0 (in_range ReadyLatency) (record { low = omega arith; high = omega arith })).high in
    record {
      some = some_symbols (has i Data) (symbols_of i) (width_of i Data) (symbols_of i * setting_of i DataBitsPerSymbol)
          (or-left (not (has i Data)) (not (has i Valid)) ports) (or-right (odd_read || odd_write) odd_beat (kept i avalon keeps 4));
      few = fits.symbols;
      bit = bits.low;
      bits = bits.high;
      latency = latency;
      allowance = allowance-within (set_to i ReadyAllowance) (setting_of i ReadyLatency) (in_range ReadyAllowance) latency;
      channel = fits.channel;
      channels = channels-within (has i Channel) (width_of i Channel) (setting_of i MaxChannel) (no_bits (port_of i Channel)) (kept i avalon keeps 12);
      error = fits.error;
      empty = fits.empty;
      empty_packets = λ h. needs (has i Empty) (has i StartOfPacket) (or-left alone odd (or-left (alone || odd) missing empties)) (has_bits (port_of i Empty) h);
      empty_counts = empty-counts (port_of i Empty) (has i StartOfPacket) (symbols_of i) (or-right alone odd (or-left (alone || odd) missing empties)) (or-right (alone || odd) missing empties);
    }

host-bounded_as : (kind : Kind) (side : Side) (host : HostPort) (i : Held) → i.kind ≡ kind → i.side ≡ side → KeepsRules i → Host host ≡ finished_as kind side i → IsBoundedHost host
host-bounded_as Mm Start host i k s keeps is =
    let same : host_of i ≡ host = cc in
    subst IsBoundedHost same (IsBoundedHost-from_rules i k s keeps)
host-bounded_as Mm End host i k s keeps is = cc
host-bounded_as Stream Start host i k s keeps is = cc
host-bounded_as Stream End host i k s keeps is = cc
host-bounded_as Clock side host i k s keeps is = cc
host-bounded_as Reset side host i k s keeps is = cc
host-bounded_as Conduit side host i k s keeps is = cc
host-bounded_as Interrupt side host i k s keeps is = cc

agent-bounded_as : (kind : Kind) (side : Side) (agent : AgentPort) (i : Held) → i.kind ≡ kind → i.side ≡ side → AreInRange i.settings → KeepsRules i → Agent agent ≡ finished_as kind side i → IsBoundedAgent agent
agent-bounded_as Mm End agent i k s r keeps is =
    let same : agent_of i ≡ agent = cc in
    subst IsBoundedAgent same (IsBoundedAgent-from_rules i k s r keeps)
agent-bounded_as Mm Start agent i k s r keeps is = cc
agent-bounded_as Stream Start agent i k s r keeps is = cc
agent-bounded_as Stream End agent i k s r keeps is = cc
agent-bounded_as Clock side agent i k s r keeps is = cc
agent-bounded_as Reset side agent i k s r keeps is = cc
agent-bounded_as Conduit side agent i k s r keeps is = cc
agent-bounded_as Interrupt side agent i k s r keeps is = cc

source-bounded_as : (kind : Kind) (side : Side) (source : StreamPort) (i : Held) → i.kind ≡ kind → i.side ≡ side → AreInRange i.settings → KeepsRules i → Source source ≡ finished_as kind side i → IsBoundedStream source
source-bounded_as Stream Start source i k s r keeps is =
    let same : stream_of i ≡ source = cc in
    subst IsBoundedStream same (IsBoundedStream-from_rules i k r keeps)
source-bounded_as Stream End source i k s r keeps is = cc
source-bounded_as Mm Start source i k s r keeps is = cc
source-bounded_as Mm End source i k s r keeps is = cc
source-bounded_as Clock side source i k s r keeps is = cc
source-bounded_as Reset side source i k s r keeps is = cc
source-bounded_as Conduit side source i k s r keeps is = cc
source-bounded_as Interrupt side source i k s r keeps is = cc

sink-bounded_as : (kind : Kind) (side : Side) (sink : StreamPort) (i : Held) → i.kind ≡ kind → i.side ≡ side → AreInRange i.settings → KeepsRules i → Sink sink ≡ finished_as kind side i → IsBoundedStream sink
sink-bounded_as Stream End sink i k s r keeps is =
    let same : stream_of i ≡ sink = cc in
    subst IsBoundedStream same (IsBoundedStream-from_rules i k r keeps)
sink-bounded_as Stream Start sink i k s r keeps is = cc
sink-bounded_as Mm Start sink i k s r keeps is = cc
sink-bounded_as Mm End sink i k s r keeps is = cc
sink-bounded_as Clock side sink i k s r keeps is = cc
sink-bounded_as Reset side sink i k s r keeps is = cc
sink-bounded_as Conduit side sink i k s r keeps is = cc
sink-bounded_as Interrupt side sink i k s r keeps is = cc

pub proper_host : (host : HostPort) → IsProper (Host host) → IsBoundedHost host
proper_host host p = host-bounded_as p.held.kind p.held.side host p.held refl refl p.keeps p.is

pub proper_agent : (agent : AgentPort) → IsProper (Agent agent) → IsBoundedAgent agent
proper_agent agent p = agent-bounded_as p.held.kind p.held.side agent p.held refl refl p.in_range p.keeps p.is

pub proper_source : (source : StreamPort) → IsProper (Source source) → IsBoundedStream source
proper_source source p = source-bounded_as p.held.kind p.held.side source p.held refl refl p.in_range p.keeps p.is

pub proper_sink : (sink : StreamPort) → IsProper (Sink sink) → IsBoundedStream sink
proper_sink sink p = sink-bounded_as p.held.kind p.held.side sink p.held refl refl p.in_range p.keeps p.is
