-- The end of host 0, as a plan knows it.
use Rattle.std.proofs.Common.{◌≡◌, ℕ, ◌≤◌, List, [], ◌∷◌, length, slice_get, Some, refl, sym, subst, ◌∙◌, arith}
use Rattle.std.specs.Prelude.{slice_index_or}
use Rattle.iface_roles.specs.declared.records.HostPort.{HostPort}
use Rattle.iface_roles.specs.declared.records.Finished.{Finished}
use Rattle.iface_roles.specs.declared.records.Finished.TheVariants.{Host}
use Rattle.iface_roles.specs.Proper.{IsProper, IsBoundedHost}
use Rattle.system_tables.specs.declared.tables.EndId.{EndId}
use Rattle.system_tables.specs.Tables.{SystemTable, IsEnd}
use Rattle.address_map.specs.Footprints.{known_at}
use Rattle.address_map.specs.Maps.{hosts_of}
use Rattle.link_rules.specs.PlanConnections.{IsHostEnd}

first_is : (ends : List EndId) (other : EndId) → 1 ≤ length ends → slice_get ends 0 ≡ Some (slice_index_or ends 0 other)
first_is [] other some = absurd (omega arith)
first_is (end ∷ ends) other some = refl

-- the first of the ends of hosts is that of a host
pub first_known : (system : SystemTable) (ends : List EndId) (other : EndId) → ends ≡ hosts_of system → 1 ≤ length ends
    → ((number : ℕ) (end : EndId) → slice_get (hosts_of system) number ≡ Some end → IsHostEnd system end) → IsHostEnd system (slice_index_or ends 0 other)
first_known system ends other are some each =
    each 0 (slice_index_or ends 0 other) (subst (λ (list : List EndId). slice_get list 0 ≡ Some (slice_index_or ends 0 other)) are (first_is ends other some))

known_is : (system : SystemTable) (end : EndId) (known : Finished) → IsEnd system end known → known_at system end ≡ known
known_is system end known e = rw (e.instance_is, e.interface_is) e.is

-- and its record is bounded
pub bounded_at : (system : SystemTable) (end : EndId) (port : HostPort) → IsHostEnd system end → IsEnd system end (Host port) → ((host : HostPort) → IsProper (Host host) → IsBoundedHost host) → IsBoundedHost port
bounded_at system end port known is each =
    each port (subst IsProper (sym (known_is system end (Host known.host) known.is) ∙ known_is system end (Host port) is) known.proper)
