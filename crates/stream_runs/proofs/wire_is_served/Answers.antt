use Rattle.stream_runs.proofs.wire_is_served.Goals as goal
use Rattle.stream_runs.proofs.WireLaw

pub returns-clause-served : goal.returns-clause-served
returns-clause-served c = WireLaw.wire_serves

pub returns-clause-awake : goal.returns-clause-awake
returns-clause-awake c = WireLaw.wire_is_awake

pub returns-clause-byte_packets : goal.returns-clause-byte_packets
returns-clause-byte_packets c = WireLaw.byte_packets_served
