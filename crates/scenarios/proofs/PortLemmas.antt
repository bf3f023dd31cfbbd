-- How large what ports bear is.
use Rattle.std.proofs.Common.{◌≡◌, ℕ, ◌+◌, ◌-◌, ◌/◌, ◌^◌, ◌<◌, ◌≤◌, true, nat_lt, List, length, refl, leb, arith}
use Rattle.std.specs.Prelude.{nat_le}
use Rattle.std.proofs.Math.Pow.{pow_mono}
use Rattle.std.proofs.lemmas.Bool.{and_parts}
use Rattle.std.proofs.lemmas.Bool.Decides.{nat_tests}
use Rattle.iface_roles.specs.Proper.{IsWordSize, span_of}
use Rattle.waves.specs.Words.{word_at}
use Rattle.waves.specs.Spelling.{is_hexadecimal, hexadecimal_in, are_bytes}
use Rattle.scenario_tables.specs.Statements.{all_lanes}
use Rattle.iface_roles.specs.declared.records.HostPort.{HostPort}
use Rattle.iface_roles.specs.declared.records.AgentPort.{AgentPort}
use Rattle.scenarios.specs.Hosts.{fits_address, fits_command}
use Rattle.scenarios.specs.Agents.{CanFill}

pub word_size : (bytes : ℕ) → IsWordSize bytes → bytes ≤ 16
word_size bytes h = let more : 2 ^ h.exponent ≤ 2 ^ 4 = pow_mono h.small in let same = h.power in omega arith

pub lanes_small : (n bytes : ℕ) → n ≡ bytes → IsWordSize bytes → 2 ^ n ≤ 65536
lanes_small n bytes e h = let small = word_size bytes h in let more : 2 ^ n ≤ 2 ^ 16 = pow_mono {i = n} {j = 16} (omega arith) in omega arith

pub below_top : (bits : ℕ) → bits < 128 → 2 ^ bits < 2 ^ 128
below_top bits h = let more : 2 ^ bits ≤ 2 ^ 127 = pow_mono {i = bits} {j = 127} (omega arith) in omega arith

pub longest_small : (bits : ℕ) → bits ≤ 11 → 2 ^ (bits - 1) ≤ 1024
longest_small bits h = let more : 2 ^ (bits - 1) ≤ 2 ^ 10 = pow_mono {i = bits - 1} {j = 10} (omega arith) in omega arith

-- each value fits more bits than it can have
pub all_fit : (value bits : ℕ) → value < 2 ^ 128 → 128 ≤ bits → leb 128 bits ≡ nat_lt value (2 ^ bits)
all_fit value bits v h = let more : 2 ^ 128 ≤ 2 ^ bits = pow_mono h in grind (arith, nat_tests)

-- bytes that a word spells are 1 to 32
pub some_byte : (text : List ℕ) → are_bytes text ≡ true → 1 ≤ length text / 2
unfolding are_bytes
some_byte text h = grind (arith, nat_tests)

within_lanes : (enables power : ℕ) → nat_le enables (power - 1) ≡ true → power ≤ 65536 → enables < 65536
within_lanes enables power h small = grind (arith, nat_tests)

before_end : (offset bytes span : ℕ) → nat_le (offset + bytes) span ≡ true → 1 ≤ bytes → span ≤ 2 ^ 32 → offset < 2 ^ 32
before_end offset bytes span h some small = grind (arith, nat_tests)

-- byte enables that fit a host have 16 bits at most
pub enables_small : (host : HostPort) (words : List (List ℕ)) → IsWordSize host.word_bytes → fits_command host words ≡ true → hexadecimal_in (word_at 3 words) < 65536
enables_small host words size h =
    let both = and_parts (fits_address host (hexadecimal_in (word_at 2 words))) _ h in
    let most = and_parts (nat_le (hexadecimal_in (word_at 3 words)) (all_lanes host.word_bytes)) _ both.1 in
    let small = lanes_small host.word_bytes host.word_bytes refl size in
    within_lanes (hexadecimal_in (word_at 3 words)) (2 ^ host.word_bytes) most.0 small

-- an offset of bytes that end within a span has 32 bits at most
pub offset_small : (agent : AgentPort) (words : List (List ℕ)) → CanFill agent words → span_of agent ≤ 2 ^ 32 → hexadecimal_in (word_at 2 words) < 2 ^ 32
offset_small agent words h small =
    let some = some_byte (word_at 3 words) (and_parts (is_hexadecimal (word_at 2 words)) _ h.spelled).1 in
    before_end (hexadecimal_in (word_at 2 words)) (length (word_at 3 words) / 2) (span_of agent) h.within some small

pub few_bytes : (text : List ℕ) → are_bytes text ≡ true → length text / 2 ≤ 32
unfolding are_bytes
few_bytes text h = grind (arith, nat_tests)
