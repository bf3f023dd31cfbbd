-- What is known at an end of a system.
use Rattle.std.proofs.Common.{◌≡◌, sym, ◌∙◌}
use Rattle.iface_roles.specs.declared.records.Finished.{Finished}
use Rattle.system_tables.specs.declared.tables.EndId.{EndId}
use Rattle.system_tables.specs.Tables.{SystemTable, IsEnd}
use Rattle.address_map.specs.Footprints.{known_at}

pub known_at-end : (system : SystemTable) (end : EndId) (known : Finished) → IsEnd system end known → known_at system end ≡ known
known_at-end system end known e = rw (e.instance_is, e.interface_is) e.is

-- one thing is known of an end
pub same_known : (system : SystemTable) (end : EndId) (a b : Finished) → IsEnd system end a → IsEnd system end b → a ≡ b
same_known system end a b ea eb = sym (known_at-end system end a ea) ∙ known_at-end system end b eb
