-- The definitions at the maps of the example systems.
use Rattle.std.proofs.Common.{◌≡◌, ℕ, Bool, true, false, List, [], ◌∷◌, Option, Some, None, refl}
use Rattle.std.specs.List.{list_any}
use Rattle.iface_roles.specs.declared.kinds.Kind.TheVariants.{Mm}
use Rattle.iface_roles.specs.declared.records.AgentPort.{AgentPort}
use Rattle.iface_roles.specs.declared.records.Finished.TheVariants.{Host, Agent}
use Rattle.iface_roles.specs.declared.records.HostPort.{HostPort}
use Rattle.system_tables.specs.declared.tables.EndId.{EndId}
use Rattle.address_map.specs.Footprints.{Footprint, footprint_as}
use Rattle.address_map.specs.MapRules.{breaks, other_of, tests}
use Rattle.address_map.specs.Maps.{entries_of, connection_at}

-- a host of 32 bits and 16 address bits
abbrev host : HostPort
host = record {
  address_bits = 16;
  byte_units = true;
  word_bytes = 4;
  reads = true;
  writes = true;
  enables = true;
  burst_bits = 0;
  readdatavalid = true;
  waitrequest = true;
  response = false;
  lock = false;
  write_response = false;
  allowance = 0;
  wraps = false;
}

-- an agent of 8 bits and 8 address bits: a span of 0x100
abbrev agent : AgentPort
agent = record {
  address_bits = 8;
  byte_units = false;
  word_bytes = 1;
  reads = true;
  writes = true;
  enables = false;
  burst_bits = 0;
  readdatavalid = false;
  waitrequest = false;
  response = false;
  unsupported = false;
  write_response = false;
  allowance = 0;
  wraps = false;
  boundaries = false;
  read_latency = 0;
  read_wait = 1;
  write_wait = 0;
  pending = 0;
  setup_hold = false;
}

abbrev end : ℕ → EndId
end n = record { instance = n; interface = 0 }

abbrev joined : ℕ → ℕ → ℕ → Option Footprint
joined from to base = footprint_as (record { start = end from; end = end to; kind = Mm; base = base; shares = 1; fifo = 0; clock_fits = true }) (Host host) (Agent agent)

abbrev any_rule : List (Option Footprint) → Option Footprint → Bool
any_rule earlier f = list_any (λ test. test) (tests earlier f)

-- two agents side by side: footprints that only touch
abbrev side_by_side : List (Option Footprint)
side_by_side = joined 0 1 0 ∷ joined 0 2 0x100 ∷ []

touching-kept : any_rule (joined 0 1 0 ∷ []) (joined 0 2 0x100) ≡ false
touching-kept = refl

touching-entries : entries_of (end 0) side_by_side
    ≡ record { connection = 0; first = 0; last = 0xff; reads = true; writes = true }
    ∷ record { connection = 1; first = 0x100; last = 0x1ff; reads = true; writes = true } ∷ []
touching-entries = refl

last-byte : connection_at (entries_of (end 0) side_by_side) 0xff ≡ Some 0
last-byte = refl

next-byte : connection_at (entries_of (end 0) side_by_side) 0x100 ≡ Some 1
next-byte = refl

past-all : connection_at (entries_of (end 0) side_by_side) 0x200 ≡ None
past-all = refl

-- a base that isn't a multiple of the footprint
misplaced-refused : breaks (joined 0 1 0 ∷ joined 0 2 0x80 ∷ []) 1 1 ≡ true
misplaced-refused = refl

-- one host may be joined to an agent where another is; of one host two agents may not stand at one base
abbrev two_hosts : List (Option Footprint)
two_hosts = joined 0 2 0 ∷ joined 1 2 0 ∷ joined 1 3 0 ∷ []

other-host-kept : any_rule (joined 0 2 0 ∷ []) (joined 1 2 0) ≡ false
other-host-kept = refl

same-base-refused : breaks two_hosts 2 2 ≡ true
same-base-refused = refl

same-base-least : breaks two_hosts 2 1 ≡ false
same-base-least = refl

same-base-other : other_of two_hosts 2 2 ≡ Some 1
same-base-other = refl

-- the last footprint of the range, and one past it
at-end-kept : any_rule [] (joined 0 1 0xff00) ≡ false
at-end-kept = refl

past-end-refused : breaks (joined 0 1 0x1_0000 ∷ []) 0 3 ≡ true
past-end-refused = refl
