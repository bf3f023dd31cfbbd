-- The rules of interfaces. Each is a test of what an interface holds, true where the rule fails.
use Rattle.std.specs.Prelude.{◌≡◌, ◌*◌, ◌/◌, ◌^◌, ◌<◌, ℕ, zero, suc, Bool, true, false, ◌&&◌, ◌||◌, not, ◌==◌, nat_lt, nat_le, max, List, [], ◌∷◌, IsTrue, slice_index_or, unwrap_or, if◌then◌else◌}
use Rattle.std.specs.List.{list_any}
use Rattle.std.specs.Option.{option_map_or}
use Rattle.iface_roles.specs.declared.kinds.Kind.{Kind}
use Rattle.iface_roles.specs.declared.kinds.Kind.TheVariants.{Clock, Reset, Mm, Stream, Conduit, Interrupt}
use Rattle.iface_roles.specs.declared.kinds.PortDirection.{PortDirection}
use Rattle.iface_roles.specs.declared.kinds.PortDirection.TheVariants.{Input, Output}
use Rattle.iface_roles.specs.declared.kinds.Side.{Side}
use Rattle.iface_roles.specs.declared.kinds.Side.TheVariants.{Start, End}
use Rattle.iface_roles.specs.declared.properties.PropertyId.{PropertyId}
use Rattle.iface_roles.specs.declared.properties.PropertyId.TheVariants.{AddressUnits, ReadLatency, ExplicitAddressSpan, BitsPerSymbol, BurstCountUnits, TimingUnits, AddressAlignment, IsBigEndian, SymbolsPerBeat, DataBitsPerSymbol, MaxChannel, BeatsPerCycle, EmptyWithinPacket, Enabled}
use Rattle.iface_roles.specs.declared.roles.Role.{Role}
use Rattle.iface_roles.specs.declared.roles.Role.TheVariants.{Address, Read, Write, WriteData, ByteEnable, BurstCount, WaitRequest, ReadData, ReadDataValid, Valid, Data, Channel, StartOfPacket, EndOfPacket, Empty}
use Rattle.iface_roles.specs.declared.roles.Driver.{Driver}
use Rattle.iface_roles.specs.declared.roles.Driver.TheVariants.{ByStart, ByEnd, ByEither}
use Rattle.iface_roles.specs.declared.roles.Widths.{Widths}
use Rattle.iface_roles.specs.declared.roles.Widths.TheVariants.{Between, Word, Lanes, Symbols, EmptySymbols, AnyWidth}
use Rattle.iface_roles.specs.Held.{Held, port_of, has, width_of, set_to, setting_of}
use Rattle.iface_roles.specs.Kinds.{is_avalon}
use Rattle.iface_roles.specs.Roles.{role_row, all_roles}

-- the first is there and the second isn't
abbrev pub without : Held → Role → Role → Bool
without i a b = has i a && not (has i b)

-- one of the two is there and the other isn't
abbrev pub unpaired : Held → Role → Role → Bool
unpaired i a b = without i a b || without i b a

-- the bits of a memory-mapped word, and its bytes
abbrev pub word_bits : Held → ℕ
word_bits i = if has i ReadData then width_of i ReadData else width_of i WriteData

abbrev pub word_bytes : Held → ℕ
word_bytes i = word_bits i / 8

-- the symbols of a beat: as they are set, else as many as the data has room for
abbrev pub symbols_of : Held → ℕ
symbols_of i = unwrap_or (set_to i SymbolsPerBeat) (width_of i Data / setting_of i DataBitsPerSymbol)

-- addresses count bytes; at 0 they count words
abbrev pub counts_bytes : Held → Bool
counts_bytes i = setting_of i AddressUnits == 1

-- I1: a host without `address`; a memory-mapped interface without `read` and `write`; a stream without `data` or `valid`
abbrev pub lacks_ports_as : Kind → Side → Held → Bool
lacks_ports_as Mm Start i = not (has i Address) || not (has i Read || has i Write)
lacks_ports_as Mm End i = not (has i Read || has i Write)
lacks_ports_as Stream side i = not (has i Data) || not (has i Valid)
lacks_ports_as Clock side i = false
lacks_ports_as Reset side i = false
lacks_ports_as Conduit side i = false
lacks_ports_as Interrupt side i = false

abbrev pub lacks_ports : Held → Bool
lacks_ports i = lacks_ports_as i.kind i.side i

-- I2: one of `read` and `readdata` without the other
abbrev pub has_read_alone : Held → Bool
has_read_alone i = unpaired i Read ReadData

-- I3: one of `write` and `writedata` without the other
abbrev pub has_write_alone : Held → Bool
has_write_alone i = unpaired i Write WriteData

-- I4: `readdata` and `writedata` of unequal width
abbrev pub has_two_words : Held → Bool
has_two_words i = has i ReadData && has i WriteData && not (width_of i ReadData == width_of i WriteData)

abbrev pub is_word : ℕ → Bool
is_word bits = bits == 8 || bits == 16 || bits == 32 || bits == 64 || bits == 128

-- 1 to 32 symbols fill the data
abbrev pub is_beat : Held → Bool
is_beat i =
    nat_le 1 (symbols_of i) && nat_le (symbols_of i) 32 && width_of i Data == symbols_of i * setting_of i DataBitsPerSymbol

-- I5: data of other than 8, 16, 32, 64 or 128 bits; in a stream, of other than 1 to 32 symbols times their bits
abbrev pub has_odd_data : Held → Bool
has_odd_data i =
    (has i ReadData && not (is_word (width_of i ReadData)))
    || (has i WriteData && not (is_word (width_of i WriteData)))
    || (has i Data && not (is_beat i))

-- I6: `byteenable` of other than a bit for each byte
abbrev pub has_odd_lanes : Held → Bool
has_odd_lanes i = has i ByteEnable && not (width_of i ByteEnable == word_bytes i)

-- the widths allow these bits; those of data, lanes and empty symbols are other rules'
abbrev pub allows : Widths → ℕ → Bool
allows (Between low high) bits = nat_le low bits && nat_le bits high
allows Word bits = true
allows Lanes bits = true
allows Symbols bits = true
allows EmptySymbols bits = true
allows AnyWidth bits = true

abbrev pub is_odd : Held → Role → Bool
is_odd i role = has i role && not (allows (role_row role).widths (width_of i role))

-- I7: another role's width outside the table
abbrev pub has_odd_width : Held → Bool
has_odd_width i = list_any (is_odd i) all_roles

-- at this side the role's port may have the direction
abbrev pub may_go : Driver → Side → PortDirection → Bool
may_go ByStart Start Output = true
may_go ByStart End Input = true
may_go ByEnd Start Input = true
may_go ByEnd End Output = true
may_go ByEither side direction = true
may_go ByStart side direction = false
may_go ByEnd side direction = false

abbrev pub is_turned : Held → Role → Bool
is_turned i role = option_map_or (λ port. not (may_go (role_row role).driver i.side port.direction)) (port_of i role) false

-- I8: a port whose direction isn't its role's
abbrev pub has_turned_port : Held → Bool
has_turned_port i = list_any (is_turned i) all_roles

-- I9: `readdatavalid` without `read`; `burstcount` without `waitrequest`; `burstcount` and `read` without `readdatavalid`
abbrev pub lacks_handshake : Held → Bool
lacks_handshake i =
    without i ReadDataValid Read
    || without i BurstCount WaitRequest
    || (has i BurstCount && without i Read ReadDataValid)

-- the bytes that addresses reach: a host's range, or an agent's span, which is at least one word
abbrev pub reach_as : Side → Held → ℕ
reach_as Start i = 2 ^ width_of i Address * (if counts_bytes i then 1 else word_bytes i)
reach_as End i =
    if counts_bytes i then max (2 ^ width_of i Address) (word_bytes i) else 2 ^ width_of i Address * word_bytes i

-- I10: a span or a range above 2^32 bytes
abbrev pub reaches_too_far : Held → Bool
reaches_too_far i = nat_lt (2 ^ 32) (reach_as i.side i)

-- I11: one of `startofpacket` and `endofpacket` without the other
abbrev pub has_half_packet : Held → Bool
has_half_packet i = unpaired i StartOfPacket EndOfPacket

-- an `empty` of these bits counts the symbols: 8 bits at most, and 2 to their number is enough
abbrev pub can_count : ℕ → ℕ → Bool
can_count symbols bits = nat_le bits 8 && nat_le symbols (2 ^ bits)

-- I12: `empty` without packets or of a wrong width; packets of more than one symbol per beat without `empty`
abbrev pub has_odd_empty : Held → Bool
has_odd_empty i =
    without i Empty StartOfPacket
    || (has i Empty && not (can_count (symbols_of i) (width_of i Empty)))
    || (without i StartOfPacket Empty && nat_lt 1 (symbols_of i))

-- I13: `maxChannel` above what `channel` can carry, or above 0 without `channel`
abbrev pub has_odd_channel : Held → Bool
has_odd_channel i =
    if has i Channel then nat_le (2 ^ width_of i Channel) (setting_of i MaxChannel) else nat_lt 0 (setting_of i MaxChannel)

-- properties of which one value alone is built: bytes as symbols, bursts counted in words, times in cycles, dynamic
-- alignment, little endian, a span of the address's, one beat a cycle, packets without holes, an enabled interface
abbrev pub only_values : List (PropertyId × ℕ)
only_values = (BitsPerSymbol, 8) ∷ (BurstCountUnits, 0) ∷ (TimingUnits, 0) ∷ (AddressAlignment, 0) ∷ (IsBigEndian, 0)
    ∷ (ExplicitAddressSpan, 0) ∷ (BeatsPerCycle, 1) ∷ (EmptyWithinPacket, 0) ∷ (Enabled, 1) ∷ []

abbrev pub delays_reads_as : Kind → Side → Held → Bool
delays_reads_as Mm Start i = nat_lt 0 (setting_of i ReadLatency)
delays_reads_as _ _ i = false

abbrev pub has_other_value : Held → Bool
has_other_value i = list_any (λ only. not (setting_of i only.0 == only.1)) only_values

-- I14: one of these has another value, or a host has a `readLatency`
abbrev pub asks_for_more : Held → Bool
asks_for_more i = has_other_value i || delays_reads_as i.kind i.side i

-- the tests by their numbers, from I1
abbrev pub tests : Held → List Bool
tests i = lacks_ports i ∷ has_read_alone i ∷ has_write_alone i ∷ has_two_words i ∷ has_odd_data i ∷ has_odd_lanes i
    ∷ has_odd_width i ∷ has_turned_port i ∷ lacks_handshake i ∷ reaches_too_far i ∷ has_half_packet i ∷ has_odd_empty i
    ∷ has_odd_channel i ∷ asks_for_more i ∷ []

-- the interface breaks the rule of this number; the rules speak of memory-mapped and streaming interfaces alone
abbrev pub breaks : Held → ℕ → Bool
breaks i zero = false
breaks i (suc k) = is_avalon i.kind && slice_index_or (tests i) k false

-- no rule fails
abbrev pub KeepsRules : Held → Type 0
KeepsRules i = (rule : ℕ) → breaks i rule ≡ false

-- this rule fails, and none before it
pub record IsLeastBroken (i : Held) (rule : ℕ) : Type 0 where
  pub broken : IsTrue (breaks i rule)
  pub least : (k : ℕ) → k < rule → breaks i k ≡ false
