-- The text of transactions, as it is read.
use Rattle.std.proofs.Common.{◌≡◌, ℕ, zero, suc, ◌*◌, ◌^◌, ◌<◌, ◌≤◌, ◌==◌, ◌&&◌, ◌||◌, true, inl, inr, List, ◌++◌, length, flat_map, codes, decimal, sym, subst, length-append, arith}
use Rattle.std.specs.Prelude.{slice_index}
use Rattle.std.proofs.lemmas.Bool.{and_parts}
use Rattle.std.proofs.lemmas.Fmt.{length-decimal-le}
use Rattle.std.proofs.lemmas.Nat.{pow_pos}
use Rattle.std.proofs.Math.Pow.{pow_mono}
use Rattle.iface_roles.specs.declared.records.HostPort.{HostPort}
use Rattle.iface_roles.specs.declared.records.Finished.{Finished}
use Rattle.iface_roles.specs.Proper.{IsBoundedHost, range_of}
use Rattle.system_tables.specs.Tables.{SystemTable, IsEnd, IsSystem}
use Rattle.packet_bytes.specs.declared.gathering.Packet.{Packet}
use Rattle.packet_bytes.specs.declared.transfers.Transfers.{Transfers}
use Rattle.packet_bytes.specs.Commands.{packet_text, scenario_text}
use Rattle.packet_bytes.specs.Rules.{IsWordSize as IsSize, AreTransfers}
use Rattle.scenarios.specs.Files.{IsScenarioOf}
use Rattle.scenario_runs.specs.Hosts.{can_transfer, IsTransferHost}
use Rattle.scenario_runs.specs.Commands.{commands}
use Rattle.scenario_runs.specs.Stated.{host_name, host_alone, AreStated}
use Rattle.scenario_runs.proofs.transfers.Stating.{whole_file}
use Rattle.scenario_runs.proofs.transfers.Packets.{IsFit, AllBytes, packets_stated}
use Rattle.scenario_runs.proofs.transfers.Bytes.{are_bytes, bytes_by, gathered_bytes}
use Rattle.scenario_runs.proofs.transfers.Names.{host_is_named, some_host}

-- ---- words

some_byte : (exponent bytes : ℕ) → bytes ≡ 2 ^ exponent → 1 ≤ bytes
some_byte exponent bytes e = let some = pow_pos exponent in omega (arith, some, e)

few_bytes : (exponent bytes : ℕ) → exponent ≤ 4 → bytes ≡ 2 ^ exponent → bytes ≤ 16
few_bytes exponent bytes h e = let most : 2 ^ exponent ≤ 2 ^ 4 = pow_mono {i = exponent} {j = 4} h in omega (arith, most, e)

size_by : (exponent bytes : ℕ) → exponent ≤ 4 → bytes ≡ 2 ^ exponent → IsSize bytes
size_by zero bytes h e = inl e
size_by (suc zero) bytes h e = inr (inl e)
size_by (suc (suc zero)) bytes h e = inr (inr (inl e))
size_by (suc (suc (suc zero))) bytes h e = inr (inr (inr (inl e)))
size_by (suc (suc (suc (suc zero)))) bytes h e = inr (inr (inr (inr e)))
size_by (suc (suc (suc (suc (suc exponent))))) bytes h e = absurd (omega arith)

pub is_size : (port : HostPort) → IsBoundedHost port → IsSize port.word_bytes
is_size port bounded = let word = bounded.ports.word in size_by word.exponent port.word_bytes word.small word.power

fits : (port : HostPort) → can_transfer port ≡ true → IsBoundedHost port → IsFit port
fits port can bounded =
    let word = bounded.ports.word in
    let parts = and_parts port.reads (port.writes && (port.word_bytes == 1 || port.enables)) can in
    let rest = and_parts port.writes (port.word_bytes == 1 || port.enables) parts.1 in
    record {
      reads = parts.0;
      writes = rest.0;
      lanes = rest.1;
      some = some_byte word.exponent port.word_bytes word.power;
      few = few_bytes word.exponent port.word_bytes word.small word.power;
      range = bounded.range;
    }

-- ---- the text

text_short : (cycles : ℕ) (text : List ℕ) → cycles ≤ 65536 → length text ≤ 256 * 4096 → length (codes "cycles " ++ decimal cycles ++ codes "\n" ++ text) < 2 ^ 31
text_short cycles text few short = simp length-append (omega (arith, short, length-decimal-le 5 cycles (omega arith) (omega arith) (omega arith)))

-- the same, of words of this size
record IsTold (system : SystemTable) (cycles word_bytes : ℕ) (ps : List Packet) : Type 0 where
  stated : IsScenarioOf system (scenario_text (host_name system) cycles word_bytes ps) (host_alone system cycles (commands word_bytes ps))
  short : length (scenario_text (host_name system) cycles word_bytes ps) < 2 ^ 31

pub text_is_stated : (system : SystemTable) (port : HostPort) (cycles : ℕ) (bytes : List ℕ) (transfers : Transfers) (known : Finished) (host : IsTransferHost system port) → IsSystem system → IsEnd system host.at.end known → IsBoundedHost port
    → 1 ≤ cycles → cycles ≤ 65536 → ((k : ℕ) → slice_index bytes k < 256) → AreTransfers port.word_bytes (range_of port) bytes transfers → AreStated system cycles transfers
text_is_stated system port cycles bytes transfers known host kept is bounded least most are read =
    let ps = transfers.packets.items in
    let fit = fits port host.can bounded in
    let named = host_is_named system port host.at known kept is in
    let spelled = subst (λ (bs : List ℕ). are_bytes bs ≡ true) read.read.whole.bytes (bytes_by bytes (λ k less. are k)) in
    let small : AllBytes ps = subst AllBytes (sym read.read.are) (gathered_bytes read.read.items spelled) in
    let whole = packets_stated system cycles (host_name system) port ps named fit small read.faultless in
    let count = whole.few in
    let long = whole.adds.short in
    let words : port.word_bytes ≡ transfers.word_bytes = sym read.words in
    let told : IsTold system cycles transfers.word_bytes ps = subst (λ (w : ℕ). IsTold system cycles w ps) words (record {
      stated = whole_file system cycles (flat_map (packet_text (host_name system) port.word_bytes) ps) (commands port.word_bytes ps) (some_host system port host.at) least most count whole.adds;
      short = text_short cycles (flat_map (packet_text (host_name system) port.word_bytes) ps) most (omega (arith, count, long));
    }) in
    record { stated = told.stated; short = told.short }
