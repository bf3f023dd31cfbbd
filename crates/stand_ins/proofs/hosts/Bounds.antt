-- What the records of hosts and their statements are bounded by.
use Rattle.std.proofs.Common.{◌-◌, ◌≤◌, ℕ, sym, subst, arith}
use Rattle.std.proofs.Math.Pow.{pow_mono}
use Rattle.iface_roles.specs.declared.records.HostPort.{HostPort}
use Rattle.iface_roles.specs.Proper.{IsWordSize, IsBoundedHost}
use Rattle.scenario_tables.specs.Statements.{longest_of}

pub few_bytes : (bytes : ℕ) → IsWordSize bytes → bytes ≤ 16
few_bytes bytes size = subst (λ n. n ≤ 16) (sym size.power) (pow_mono size.small)

pub few_beats : (port : HostPort) → IsBoundedHost port → longest_of port ≤ 1024
few_beats port bounded = let small : port.burst_bits - 1 ≤ 10 = omega (arith, bounded.ports.burst) in pow_mono small
