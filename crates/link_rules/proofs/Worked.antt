-- The rules on pairs, each at a pair that breaks it alone, and at one beside it that breaks none.
use Rattle.std.proofs.Common.{◌≡◌, ℕ, ◌+◌, Bool, true, false, List, [], ◌∷◌, refl, if◌then◌else◌}
use Rattle.iface_roles.specs.declared.records.HostPort.{HostPort}
use Rattle.iface_roles.specs.declared.records.AgentPort.{AgentPort}
use Rattle.iface_roles.specs.declared.records.StreamPort.{StreamPort}
use Rattle.link_rules.specs.Links.{too_many}
use Rattle.link_rules.specs.Pairs.{mm_tests, stream_tests}

-- the numbers of the tests that are true
abbrev failing_from : ℕ → List Bool → List ℕ
failing_from n [] = []
failing_from n (test ∷ tests) = if test then n ∷ failing_from (n + 1) tests else failing_from (n + 1) tests

abbrev failing : List Bool → List ℕ
failing = failing_from 1

abbrev host : HostPort
host = record {
  address_bits = 16;
  byte_units = true;
  word_bytes = 4;
  reads = true;
  writes = false;
  enables = false;
  burst_bits = 0;
  readdatavalid = false;
  waitrequest = true;
  response = false;
  lock = false;
  write_response = false;
  allowance = 0;
  wraps = false;
}

abbrev agent : AgentPort
agent = record {
  address_bits = 8;
  byte_units = false;
  word_bytes = 4;
  reads = true;
  writes = false;
  enables = false;
  burst_bits = 0;
  readdatavalid = false;
  waitrequest = false;
  response = false;
  unsupported = false;
  write_response = false;
  allowance = 0;
  wraps = false;
  boundaries = false;
  read_latency = 0;
  read_wait = 1;
  write_wait = 0;
  pending = 0;
  setup_hold = false;
}

mm-kept : failing (mm_tests host agent true) ≡ []
mm-kept = refl

never-waits : failing (mm_tests (record host { waitrequest = false }) agent true) ≡ 1 ∷ []
never-waits = refl

host-allowance : failing (mm_tests (record host { allowance = 1 }) agent true) ≡ 2 ∷ []
host-allowance = refl

agent-allowance : failing (mm_tests host (record agent { allowance = 1 }) true) ≡ 2 ∷ []
agent-allowance = refl

wider-agent : failing (mm_tests host (record agent { word_bytes = 8 }) true) ≡ 3 ∷ []
wider-agent = refl

wider-agent-with-enables : failing (mm_tests host (record agent { word_bytes = 8; enables = true }) true) ≡ []
wider-agent-with-enables = refl

narrower-agent : failing (mm_tests host (record agent { word_bytes = 2 }) true) ≡ []
narrower-agent = refl

write-responses : failing (mm_tests host (record agent { write_response = true }) true) ≡ 4 ∷ []
write-responses = refl

reader-to-writer : failing (mm_tests host (record agent { reads = false; writes = true }) true) ≡ 5 ∷ []
reader-to-writer = refl

reader-to-both : failing (mm_tests host (record agent { writes = true }) true) ≡ []
reader-to-both = refl

locked : failing (mm_tests (record host { lock = true }) agent true) ≡ 6 ∷ []
locked = refl

wrapping : failing (mm_tests (record host { wraps = true }) agent true) ≡ 7 ∷ []
wrapping = refl

only-at-boundaries : failing (mm_tests host (record agent { boundaries = true }) true) ≡ 7 ∷ []
only-at-boundaries = refl

mm-other-clock : failing (mm_tests host agent false) ≡ 8 ∷ []
mm-other-clock = refl

setup-time : failing (mm_tests host (record agent { setup_hold = true }) true) ≡ 9 ∷ []
setup-time = refl

-- the least of several counts
several : failing (mm_tests (record host { waitrequest = false; wraps = true }) (record agent { allowance = 1 }) false) ≡ 1 ∷ 2 ∷ 7 ∷ 8 ∷ []
several = refl

abbrev source : StreamPort
source = record {
  symbols = 2;
  symbol_bits = 8;
  first_high = true;
  ready = true;
  latency = 0;
  allowance = 0;
  channel_bits = 0;
  max_channel = 0;
  error_bits = 0;
  packets = true;
  empty_bits = 1;
}

abbrev sink : StreamPort
sink = record {
  symbols = 2;
  symbol_bits = 8;
  first_high = true;
  ready = true;
  latency = 0;
  allowance = 0;
  channel_bits = 0;
  max_channel = 0;
  error_bits = 0;
  packets = true;
  empty_bits = 1;
}

stream-kept : failing (stream_tests source sink true) ≡ []
stream-kept = refl

other-symbols : failing (stream_tests source (record sink { symbol_bits = 16 }) true) ≡ 1 ∷ []
other-symbols = refl

packets-at-the-sink : failing (stream_tests (record source { packets = false }) sink true) ≡ 2 ∷ []
packets-at-the-sink = refl

ready-at-the-sink : failing (stream_tests (record source { ready = false }) sink true) ≡ 3 ∷ []
ready-at-the-sink = refl

ready-at-the-source : failing (stream_tests source (record sink { ready = false }) true) ≡ []
ready-at-the-source = refl

no-ready-to-three : failing (stream_tests (record source { ready = false }) (record sink { ready = false; symbols = 3 }) true) ≡ 3 ∷ []
no-ready-to-three = refl

no-ready-to-four : failing (stream_tests (record source { ready = false }) (record sink { ready = false; symbols = 4 }) true) ≡ []
no-ready-to-four = refl

no-ready-to-one : failing (stream_tests (record source { ready = false }) (record sink { ready = false; symbols = 1 }) true) ≡ 3 ∷ []
no-ready-to-one = refl

channels-to-four : failing (stream_tests (record source { channel_bits = 1 }) (record sink { symbols = 4 }) true) ≡ 4 ∷ []
channels-to-four = refl

channels-to-one : failing (stream_tests (record source { channel_bits = 1 }) (record sink { symbols = 1 }) true) ≡ []
channels-to-one = refl

errors-at-the-source : failing (stream_tests (record source { error_bits = 1 }) sink true) ≡ 5 ∷ []
errors-at-the-source = refl

errors-at-the-sink : failing (stream_tests source (record sink { error_bits = 1 }) true) ≡ []
errors-at-the-sink = refl

unequal-errors : failing (stream_tests (record source { error_bits = 1 }) (record sink { error_bits = 2 }) true) ≡ 5 ∷ []
unequal-errors = refl

long-beat : failing (stream_tests source (record sink { symbols = 18 }) true) ≡ 6 ∷ []
long-beat = refl

longest-beat : failing (stream_tests source (record sink { symbols = 16 }) true) ≡ []
longest-beat = refl

late : failing (stream_tests (record source { latency = 9; allowance = 9 }) sink true) ≡ 7 ∷ []
late = refl

late-without-ready : failing (stream_tests source (record sink { ready = false; latency = 9; allowance = 9 }) true) ≡ []
late-without-ready = refl

latest : failing (stream_tests (record source { latency = 8; allowance = 8 }) sink true) ≡ []
latest = refl

stream-other-clock : failing (stream_tests source sink false) ≡ 8 ∷ []
stream-other-clock = refl

-- an allowance of some beats behind a ready latency, at the source and at the sink
source-allowance : failing (stream_tests (record source { latency = 1; allowance = 3 }) sink true) ≡ []
source-allowance = refl

sink-allowance : failing (stream_tests source (record sink { latency = 1; allowance = 16 }) true) ≡ []
sink-allowance = refl

direct-allowance : failing (stream_tests (record source { allowance = 1 }) sink true) ≡ 9 ∷ []
direct-allowance = refl

direct-allowance-at-the-sink : failing (stream_tests source (record sink { allowance = 1 }) true) ≡ 9 ∷ []
direct-allowance-at-the-sink = refl

large-allowance : failing (stream_tests (record source { latency = 1; allowance = 17 }) sink true) ≡ 7 ∷ []
large-allowance = refl

small-allowance : failing (stream_tests (record source { latency = 2; allowance = 1 }) sink true) ≡ 9 ∷ []
small-allowance = refl

large-allowance-without-ready : failing (stream_tests source (record sink { ready = false; latency = 17; allowance = 17 }) true) ≡ []
large-allowance-without-ready = refl

other-allowance-without-ready : failing (stream_tests source (record sink { ready = false; allowance = 1 }) true) ≡ 9 ∷ []
other-allowance-without-ready = refl

-- the limits, each at its number and one past it
at-the-limits : failing (too_many 16 32 16) ≡ []
at-the-limits = refl

past-the-limits : failing (too_many 17 33 17) ≡ 1 ∷ 2 ∷ 3 ∷ []
past-the-limits = refl
