-- The definitions at the interfaces of the example systems.
use Rattle.std.proofs.Common.{◌≡◌, ℕ, Bool, true, false, refl}
use Rattle.std.specs.List.{list_any}
use Rattle.iface_roles.specs.declared.interface.Port.{Port}
use Rattle.iface_roles.specs.declared.kinds.Kind.TheVariants.{Mm, Stream}
use Rattle.iface_roles.specs.declared.kinds.PortDirection.{PortDirection}
use Rattle.iface_roles.specs.declared.kinds.PortDirection.TheVariants.{Input, Output}
use Rattle.iface_roles.specs.declared.kinds.Side.TheVariants.{Start, End}
use Rattle.iface_roles.specs.declared.properties.PropertyId.TheVariants.{ReadLatency, ReadWaitTime}
use Rattle.iface_roles.specs.declared.records.Finished.TheVariants.{Host, Agent, Source}
use Rattle.iface_roles.specs.declared.roles.Role.TheVariants.{Address, Read, Write, WriteData, ByteEnable, WaitRequest, ReadData, ReadDataValid, Ready, Valid, Data, StartOfPacket, EndOfPacket}
use Rattle.iface_roles.specs.Held.{Held, empty, with_port, with_setting}
use Rattle.iface_roles.specs.Records.{finished}
use Rattle.iface_roles.specs.Rules.{tests, breaks}

abbrev port : PortDirection → ℕ → Port
port d w = record { direction = d; width = w }

abbrev some_rule_fails : Held → Bool
some_rule_fails i = list_any (λ test. test) (tests i)

-- a source of bytes in packets
abbrev generator : Held
generator =
    with_port (with_port (with_port (with_port (with_port (empty Stream Start) Ready (port Input 1)) Valid (port Output 1)) Data (port Output 8)) StartOfPacket (port Output 1)) EndOfPacket (port Output 1)

generator-kept : some_rule_fails generator ≡ false
generator-kept = refl

generator-finished : finished generator ≡ Source (record {
  symbols = 1;
  symbol_bits = 8;
  first_high = true;
  ready = true;
  latency = 0;
  allowance = 0;
  channel_bits = 0;
  max_channel = 0;
  error_bits = 0;
  packets = true;
  empty_bits = 0;
})
generator-finished = refl

-- a host of instructions: 32 bits, 20 address bits
abbrev instructions : Held
instructions =
    with_port (with_port (with_port (with_port (with_port (empty Mm Start) Address (port Output 20)) Read (port Output 1)) WaitRequest (port Input 1)) ReadData (port Input 32)) ReadDataValid (port Input 1)

instructions-kept : some_rule_fails instructions ≡ false
instructions-kept = refl

instructions-finished : finished instructions ≡ Host (record {
  address_bits = 20;
  byte_units = true;
  word_bytes = 4;
  reads = true;
  writes = false;
  enables = false;
  burst_bits = 0;
  readdatavalid = true;
  waitrequest = true;
  response = false;
  lock = false;
  write_response = false;
  allowance = 0;
  wraps = false;
})
instructions-finished = refl

-- a memory of 32 bits and 14 address bits, read a cycle after the command
abbrev memory : Held
memory =
    with_setting (with_setting (with_port (with_port (with_port (with_port (with_port (with_port (empty Mm End) Address (port Input 14)) Read (port Input 1)) Write (port Input 1)) WriteData (port Input 32)) ByteEnable (port Input 4)) ReadData (port Output 32)) ReadLatency 1) ReadWaitTime 0

memory-kept : some_rule_fails memory ≡ false
memory-kept = refl

memory-finished : finished memory ≡ Agent (record {
  address_bits = 14;
  byte_units = false;
  word_bytes = 4;
  reads = true;
  writes = true;
  enables = true;
  burst_bits = 0;
  readdatavalid = false;
  waitrequest = false;
  response = false;
  unsupported = false;
  write_response = false;
  allowance = 0;
  wraps = false;
  boundaries = false;
  read_latency = 1;
  read_wait = 0;
  write_wait = 0;
  pending = 0;
  setup_hold = false;
})
memory-finished = refl

-- with 31 address bits its words reach beyond 2 ^ 32 bytes
wide-refused : breaks (with_port memory Address (port Input 31)) 10 ≡ true
wide-refused = refl
