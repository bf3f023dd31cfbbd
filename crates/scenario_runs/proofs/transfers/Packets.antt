-- The statements of packets that break no rule, as they are read.
use Rattle.std.proofs.Common.{◌≡◌, ◌≢◌, ℕ, zero, suc, ◌+◌, ◌-◌, ◌*◌, ◌/◌, ◌%◌, ◌^◌, ◌<◌, ◌≤◌, ◌==◌, ◌&&◌, ◌||◌, Bool, true, false, not, cond, List, [], ◌∷◌, length, flat_map, Option, Some, None, refl, sym, ap, subst, ◌∙◌, length-append, arith}
use Rattle.std.specs.Prelude.{nat_lt, nat_le, slice_index}
use Rattle.std.proofs.lemmas.Bool.{lt-ltb, le-leb, ltb-false, eqb-true, and_parts, false≢true}
use Rattle.std.proofs.lemmas.Nat.{pow_pos, pow-add}
use Rattle.std.proofs.Math.Nat.{mul-le-mul_right}
use Rattle.std.proofs.Math.Pow.{pow_mono}
use Rattle.iface_roles.specs.declared.records.HostPort.{HostPort}
use Rattle.iface_roles.specs.Proper.{range_of}
use Rattle.system_tables.specs.Tables.{SystemTable}
use Rattle.scenario_tables.specs.declared.statements.HostStatement.{HostStatement}
use Rattle.scenario_tables.specs.declared.statements.HostStatement.TheVariants.{Write}
use Rattle.scenario_tables.specs.Statements.{all_lanes}
use Rattle.waves.specs.Spelling.{hexadecimal_in}
use Rattle.scenarios.specs.Hosts.{word_bits}
use Rattle.packet_bytes.specs.declared.codes.Code.{Code}
use Rattle.packet_bytes.specs.declared.codes.Code.TheVariants.{WriteFixed, WriteIncrementing, ReadFixed, ReadIncrementing, NoTransaction}
use Rattle.packet_bytes.specs.declared.gathering.Packet.{Packet}
use Rattle.packet_bytes.specs.declared.faults.PacketFault.{PacketFault}
use Rattle.packet_bytes.specs.Codes.{code_of, is_fixed, size_in, address_in}
use Rattle.packet_bytes.specs.Counts.{words_of, command_count, commands_by as counted_by}
use Rattle.packet_bytes.specs.Commands.{lanes_text, enables_below, word_address, statement, statements_below, statements_by, packet_text}
use Rattle.packet_bytes.specs.Rules.{has_length, due_length, is_aligned, end_of, is_in_place, transaction_fault, fault_by, packet_fault, or_later, first_fault}
use Rattle.scenario_runs.specs.Commands.{word_below, command, commands_below, commands_by, packet_commands, commands}
use Rattle.scenario_runs.proofs.transfers.Numbers.{digits_are_word, is_spelled}
use Rattle.scenario_runs.proofs.transfers.Lanes.{AreBytes, lanes_behind, word_small, length-lanes_text, lanes_are_digits, enables_small, one_enabled}
use Rattle.scenario_runs.proofs.transfers.Stating.{IsNamed, Fits, IsDigitWord, Adds, adds_none, adds_both, write_adds, read_adds}

-- a host that can do transactions, of words of some bytes
pub record IsFit (port : HostPort) : Type 0 where
  pub reads : port.reads ≡ true
  pub writes : port.writes ≡ true
  pub lanes : (port.word_bytes == 1 || port.enables) ≡ true
  pub some : 1 ≤ port.word_bytes
  pub few : port.word_bytes ≤ 16
  pub range : range_of port ≤ 2 ^ 32

-- a transaction that such a host can do
record CanDo (port : HostPort) (code : Code) (bytes : List ℕ) : Type 0 where
  some : size_in bytes ≢ 0
  placed : is_in_place port.word_bytes (range_of port) code bytes ≡ true
  are : AreBytes bytes

-- ---- the place of a word

not_true : (t : Bool) → not t ≡ true → t ≡ false
not_true true h = sym h
not_true false h = refl

ends : (port : HostPort) (code : Code) (bytes : List ℕ) → CanDo port code bytes → end_of port.word_bytes code bytes ≤ range_of port
ends port code bytes can =
    ltb-false (range_of port) (end_of port.word_bytes code bytes)
    (not_true _ (and_parts (not (is_fixed code && not (is_aligned port.word_bytes bytes))) (not (nat_lt (range_of port) (end_of port.word_bytes code bytes))) can.placed).1)

-- a word of so many that hold bytes begins before their end
inside : (word_bytes address size word : ℕ) → 1 ≤ word_bytes → size ≢ 0 → word < (address % word_bytes + size + (word_bytes - 1)) / word_bytes → address / word_bytes * word_bytes + word * word_bytes < address + size
inside word_bytes address size word some filled h =
    let total = address % word_bytes + size + (word_bytes - 1) in
    let most : (word + 1) * word_bytes ≤ total / word_bytes * word_bytes = mul-le-mul_right word_bytes (omega (arith, h)) in
    omega (arith, most, filled)

reached_by : (fixed : Bool) (port : HostPort) (address size word : ℕ) → 1 ≤ port.word_bytes → size ≢ 0 → word < (address % port.word_bytes + size + (port.word_bytes - 1)) / port.word_bytes
    → address + cond fixed port.word_bytes size ≤ range_of port → cond fixed address (address / port.word_bytes * port.word_bytes + word * port.word_bytes) < range_of port
reached_by true port address size word some filled h end = omega (arith, some, end)
reached_by false port address size word some filled h end = let less = inside port.word_bytes address size word some filled h in omega (arith, less, end)

enables_by : (lone enables : Bool) (port : HostPort) (bytes : List ℕ) (word : ℕ) → (port.word_bytes == 1) ≡ lone → word < words_of port.word_bytes bytes → (lone || enables) ≡ true
    → (enables || enables_below port.word_bytes bytes word port.word_bytes == all_lanes port.word_bytes) ≡ true
enables_by lone true port bytes word is h e = refl
enables_by false false port bytes word is h e = absurd (false≢true e)
enables_by true false port bytes word is h e =
    let one = eqb-true port.word_bytes 1 is in
    let inner : word < words_of 1 bytes = subst (λ (n : ℕ). word < words_of n bytes) one h in
    ap (λ (n : ℕ). enables_below n bytes word n == all_lanes n) one ∙ ap (λ (n : ℕ). n == 1) (one_enabled bytes word inner)

both_true : (a b : Bool) → a ≡ true → b ≡ true → (a && b) ≡ true
both_true a b x y = rw (x, y) refl

word_fits : (port : HostPort) (code : Code) (bytes : List ℕ) (word : ℕ) → IsFit port → CanDo port code bytes → word < words_of port.word_bytes bytes
    → Fits port (word_address port.word_bytes code bytes word) (enables_below port.word_bytes bytes word port.word_bytes)
word_fits port code bytes word fit can h =
    let least = fit.some in
    let enables = enables_below port.word_bytes bytes word port.word_bytes in
    let small = enables_small port.word_bytes bytes word port.word_bytes in
    let top : 2 ^ port.word_bytes ≤ 2 ^ 16 = pow_mono {i = port.word_bytes} {j = 16} fit.few in
    let bursts = pow_pos (port.burst_bits - 1) in
    record {
      address_is = reached_by (is_fixed code) port (address_in bytes) (size_in bytes) word least can.some h (ends port code bytes can);
      range = fit.range;
      enables_are = both_true (nat_le enables (all_lanes port.word_bytes)) (port.enables || enables == all_lanes port.word_bytes) (le-leb enables (all_lanes port.word_bytes) (omega (arith, small)))
          (enables_by (port.word_bytes == 1) port.enables port bytes word refl h fit.lanes);
      few = omega (arith, small, top);
      beats = omega (arith, bursts);
    }

-- ---- the word of a write

eight : (n : ℕ) → 2 ^ (8 * n) ≡ 256 ^ n
eight zero = refl
eight (suc n) = let e : 8 * suc n ≡ 8 + 8 * n = omega arith in ap (λ (k : ℕ). 2 ^ k) e ∙ pow-add 2 8 (8 * n) ∙ ap (λ (m : ℕ). 256 * m) (eight n) ∙ omega arith

digits_are : (port : HostPort) (bytes : List ℕ) (word : ℕ) → AreBytes bytes → hexadecimal_in (lanes_text port.word_bytes bytes word port.word_bytes) ≡ word_below port.word_bytes bytes word port.word_bytes
unfolding hexadecimal_in
digits_are port bytes word are = lanes_behind port.word_bytes bytes word 0 port.word_bytes are ∙ omega arith

digits_word : (port : HostPort) (code : Code) (bytes : List ℕ) (word : ℕ) → IsFit port → CanDo port code bytes → IsDigitWord port (lanes_text port.word_bytes bytes word port.word_bytes)
digits_word port code bytes word fit can =
    let digits = lanes_text port.word_bytes bytes word port.word_bytes in
    let long = length-lanes_text port.word_bytes bytes word port.word_bytes in
    let all = lanes_are_digits port.word_bytes bytes word port.word_bytes in
    let least = fit.some in
    let most = fit.few in
    let value = digits_are port bytes word can.are in
    let small : word_below port.word_bytes bytes word port.word_bytes < 2 ^ word_bits port =
    subst (λ (n : ℕ). word_below port.word_bytes bytes word port.word_bytes < n) (sym (ap (λ (t : Bool). 2 ^ cond t (8 * port.word_bytes) 0) fit.writes ∙ eight port.word_bytes))
    (word_small port.word_bytes bytes word port.word_bytes can.are) in
    record {
      is_word = digits_are_word digits all (omega (arith, long, least));
      few = omega (arith, long, most);
      spelled = is_spelled digits all (omega (arith, long, least)) (omega (arith, long, most));
      fits = lt-ltb (hexadecimal_in digits) (2 ^ word_bits port) (subst (λ (n : ℕ). n < 2 ^ word_bits port) (sym value) small);
    }

-- ---- one statement

write_is : (system : SystemTable) (cycles : ℕ) (text : List ℕ) (address enables one other : ℕ) → one ≡ other → Adds system cycles text (Write address enables (one ∷ []) ∷ []) → Adds system cycles text (Write address enables (other ∷ []) ∷ [])
write_is system cycles text address enables one other e adds = subst (λ (n : ℕ). Adds system cycles text (Write address enables (n ∷ []) ∷ [])) e adds

one_adds : (system : SystemTable) (cycles : ℕ) (name : List ℕ) (port : HostPort) (code : Code) (bytes : List ℕ) (word : ℕ) → IsNamed system name port → IsFit port → CanDo port code bytes → code ≢ NoTransaction
    → word < words_of port.word_bytes bytes → Adds system cycles (statement name port.word_bytes code bytes word) (command port.word_bytes code bytes word ∷ [])
one_adds system cycles name port WriteFixed bytes word named fit can some h =
    let address = word_address port.word_bytes WriteFixed bytes word in
    let enables = enables_below port.word_bytes bytes word port.word_bytes in
    let digits = lanes_text port.word_bytes bytes word port.word_bytes in
    write_is system cycles _ address enables (hexadecimal_in digits) (word_below port.word_bytes bytes word port.word_bytes) (digits_are port bytes word can.are)
    (write_adds system cycles name port address enables digits named fit.writes (word_fits port WriteFixed bytes word fit can h) (digits_word port WriteFixed bytes word fit can))
one_adds system cycles name port WriteIncrementing bytes word named fit can some h =
    let address = word_address port.word_bytes WriteIncrementing bytes word in
    let enables = enables_below port.word_bytes bytes word port.word_bytes in
    let digits = lanes_text port.word_bytes bytes word port.word_bytes in
    write_is system cycles _ address enables (hexadecimal_in digits) (word_below port.word_bytes bytes word port.word_bytes) (digits_are port bytes word can.are)
    (write_adds system cycles name port address enables digits named fit.writes (word_fits port WriteIncrementing bytes word fit can h) (digits_word port WriteIncrementing bytes word fit can))
one_adds system cycles name port ReadFixed bytes word named fit can some h =
    read_adds system cycles name port (word_address port.word_bytes ReadFixed bytes word) (enables_below port.word_bytes bytes word port.word_bytes) named fit.reads (word_fits port ReadFixed bytes word fit can h)
one_adds system cycles name port ReadIncrementing bytes word named fit can some h =
    read_adds system cycles name port (word_address port.word_bytes ReadIncrementing bytes word) (enables_below port.word_bytes bytes word port.word_bytes) named fit.reads (word_fits port ReadIncrementing bytes word fit can h)
one_adds system cycles name port NoTransaction bytes word named fit can some h = absurd (some refl)

below_adds : (system : SystemTable) (cycles : ℕ) (name : List ℕ) (port : HostPort) (code : Code) (bytes : List ℕ) (count : ℕ) → IsNamed system name port → IsFit port → CanDo port code bytes → code ≢ NoTransaction
    → count ≤ words_of port.word_bytes bytes → Adds system cycles (statements_below name port.word_bytes code bytes count) (commands_below port.word_bytes code bytes count)
below_adds system cycles name port code bytes zero named fit can some h = adds_none system cycles
below_adds system cycles name port code bytes (suc word) named fit can some h =
    adds_both system cycles (statements_below name port.word_bytes code bytes word) (statement name port.word_bytes code bytes word) (commands_below port.word_bytes code bytes word) (command port.word_bytes code bytes word ∷ [])
    (below_adds system cycles name port code bytes word named fit can some (omega (arith, h))) (one_adds system cycles name port code bytes word named fit can some (omega (arith, h)))

length-commands_below : (word_bytes : ℕ) (code : Code) (bytes : List ℕ) (count : ℕ) → length (commands_below word_bytes code bytes count) ≡ count
length-commands_below word_bytes code bytes zero = refl
length-commands_below word_bytes code bytes (suc word) = length-append (commands_below word_bytes code bytes word) (command word_bytes code bytes word ∷ []) ∙ omega (arith, length-commands_below word_bytes code bytes word)

-- ---- one packet

-- what stands in its text, behind so many commands
record IsStated (system : SystemTable) (cycles : ℕ) (text : List ℕ) (commands : List HostStatement) (before : ℕ) : Type 0 where
  adds : Adds system cycles text commands
  few : before + length commands ≤ 4096

-- no fault of a transaction
record KeepsRules (port : HostPort) (before : ℕ) (code : Code) (bytes : List ℕ) : Type 0 where
  long : has_length code bytes ≡ true
  placed : is_in_place port.word_bytes (range_of port) code bytes ≡ true
  few : before + words_of port.word_bytes bytes ≤ 4096

some_none : {X : Type 0} {x : X} → Some x ≡ None → ⊥
some_none {X} {x} e = cc

kept : (a b d : Bool) (one other last : PacketFault) → cond a (cond b (cond d (Some one) None) (Some other)) (Some last) ≡ None → (a ≡ true) × (b ≡ true) × (d ≡ false)
kept true true false one other last e = (refl, refl, refl)
kept true true true one other last e = absurd (some_none e)
kept true false d one other last e = absurd (some_none e)
kept false b d one other last e = absurd (some_none e)

keeps : (port : HostPort) (before : ℕ) (packet : Packet) (code : Code) → transaction_fault port.word_bytes (range_of port) before packet code ≡ None → KeepsRules port before code packet.bytes
keeps port before packet code e =
    let parts = kept (has_length code packet.bytes) (is_in_place port.word_bytes (range_of port) code packet.bytes) (nat_lt 4096 (before + words_of port.word_bytes packet.bytes)) _ _ _ e in
    record { long = parts.0; placed = parts.1; few = ltb-false 4096 (before + words_of port.word_bytes packet.bytes) parts.2 }

done : (port : HostPort) (before : ℕ) (code : Code) (bytes : List ℕ) → KeepsRules port before code bytes → AreBytes bytes → CanDo port code bytes
done port before code bytes keeps are = record {
  some = λ e. false≢true (sym (ap (λ (n : ℕ). not (n == 0)) e) ∙ (and_parts (not (size_in bytes == 0)) (length bytes == due_length code (size_in bytes)) keeps.long).0);
  placed = keeps.placed;
  are = are;
}

transaction_stated : (system : SystemTable) (cycles : ℕ) (name : List ℕ) (port : HostPort) (before : ℕ) (packet : Packet) (code : Code) → IsNamed system name port → IsFit port → AreBytes packet.bytes → code ≢ NoTransaction
    → transaction_fault port.word_bytes (range_of port) before packet code ≡ None
    → IsStated system cycles (statements_below name port.word_bytes code packet.bytes (words_of port.word_bytes packet.bytes)) (commands_below port.word_bytes code packet.bytes (words_of port.word_bytes packet.bytes)) before
transaction_stated system cycles name port before packet code named fit are some e =
    let rules = keeps port before packet code e in
    let few = rules.few in
    record {
      adds = below_adds system cycles name port code packet.bytes (words_of port.word_bytes packet.bytes) named fit (done port before code packet.bytes rules are) some (omega arith);
      few = omega (arith, few, length-commands_below port.word_bytes code packet.bytes (words_of port.word_bytes packet.bytes));
    }

packet_by : (system : SystemTable) (cycles : ℕ) (name : List ℕ) (port : HostPort) (before : ℕ) (packet : Packet) (code : Option Code) → IsNamed system name port → IsFit port → AreBytes packet.bytes → before ≤ 4096
    → fault_by port.word_bytes (range_of port) before packet code ≡ None
    → IsStated system cycles (statements_by name port.word_bytes packet.bytes code) (commands_by port.word_bytes packet.bytes code) before
packet_by system cycles name port before packet None named fit are few e = absurd (some_none e)
packet_by system cycles name port before packet (Some WriteFixed) named fit are few e = transaction_stated system cycles name port before packet WriteFixed named fit are (λ e. (cc)) e
packet_by system cycles name port before packet (Some WriteIncrementing) named fit are few e = transaction_stated system cycles name port before packet WriteIncrementing named fit are (λ e. (cc)) e
packet_by system cycles name port before packet (Some ReadFixed) named fit are few e = transaction_stated system cycles name port before packet ReadFixed named fit are (λ e. (cc)) e
packet_by system cycles name port before packet (Some ReadIncrementing) named fit are few e = transaction_stated system cycles name port before packet ReadIncrementing named fit are (λ e. (cc)) e
packet_by system cycles name port before packet (Some NoTransaction) named fit are few e = record { adds = adds_none system cycles; few = omega (arith, few) }

-- ---- all packets

-- the bytes of all packets are bytes
abbrev pub AllBytes : List Packet → Type 0
AllBytes [] = Unit {0}
AllBytes (packet ∷ rest) = AreBytes packet.bytes × AllBytes rest

neither : (one later : Option PacketFault) → or_later one later ≡ None → (one ≡ None) × (later ≡ None)
neither None later e = (refl, e)
neither (Some fault) later e = absurd (some_none e)

length-commands_by : (word_bytes : ℕ) (bytes : List ℕ) (code : Option Code) → length (commands_by word_bytes bytes code) ≡ counted_by word_bytes bytes code
length-commands_by word_bytes bytes None = refl
length-commands_by word_bytes bytes (Some WriteFixed) = length-commands_below word_bytes WriteFixed bytes (words_of word_bytes bytes)
length-commands_by word_bytes bytes (Some WriteIncrementing) = length-commands_below word_bytes WriteIncrementing bytes (words_of word_bytes bytes)
length-commands_by word_bytes bytes (Some ReadFixed) = length-commands_below word_bytes ReadFixed bytes (words_of word_bytes bytes)
length-commands_by word_bytes bytes (Some ReadIncrementing) = length-commands_below word_bytes ReadIncrementing bytes (words_of word_bytes bytes)
length-commands_by word_bytes bytes (Some NoTransaction) = refl

all_stated : (system : SystemTable) (cycles : ℕ) (name : List ℕ) (port : HostPort) (before : ℕ) (packets : List Packet) → IsNamed system name port → IsFit port → AllBytes packets → before ≤ 4096
    → first_fault port.word_bytes (range_of port) before packets ≡ None → IsStated system cycles (flat_map (packet_text name port.word_bytes) packets) (commands port.word_bytes packets) before
all_stated system cycles name port before [] named fit are few e = record { adds = adds_none system cycles; few = omega (arith, few) }
all_stated system cycles name port before (packet ∷ rest) named fit are few e =
    let parts = neither (packet_fault port.word_bytes (range_of port) before packet) (first_fault port.word_bytes (range_of port) (before + command_count port.word_bytes packet.bytes) rest) e in
    let here = packet_by system cycles name port before packet (code_of (slice_index packet.bytes 0)) named fit are.0 few parts.0 in
    let count = length-commands_by port.word_bytes packet.bytes (code_of (slice_index packet.bytes 0)) in
    let room = here.few in
    let later = all_stated system cycles name port (before + command_count port.word_bytes packet.bytes) rest named fit are.1 (omega (arith, room, count)) parts.1 in
    let more = later.few in
    record {
      adds = adds_both system cycles (packet_text name port.word_bytes packet) (flat_map (packet_text name port.word_bytes) rest) (packet_commands port.word_bytes packet) (commands port.word_bytes rest) here.adds later.adds;
      few = omega (arith, more, count, length-append (packet_commands port.word_bytes packet) (commands port.word_bytes rest));
    }

pub record AreStated (system : SystemTable) (cycles : ℕ) (text : List ℕ) (commands : List HostStatement) : Type 0 where
  pub adds : Adds system cycles text commands
  pub few : length commands ≤ 4096

pub packets_stated : (system : SystemTable) (cycles : ℕ) (name : List ℕ) (port : HostPort) (packets : List Packet) → IsNamed system name port → IsFit port → AllBytes packets
    → first_fault port.word_bytes (range_of port) 0 packets ≡ None → AreStated system cycles (flat_map (packet_text name port.word_bytes) packets) (commands port.word_bytes packets)
packets_stated system cycles name port packets named fit are e =
    let all = all_stated system cycles name port 0 packets named fit are (omega arith) e in
    let few = all.few in
    record { adds = all.adds; few = omega (arith, few) }
