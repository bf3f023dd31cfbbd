-- The names at the ends of a plan are short.
use Rattle.std.proofs.Common.{◌≤◌, ℕ, List, length, IsTrue}
use Rattle.std.proofs.lemmas.Bool.{and_parts, leb-true}
use Rattle.iface_roles.specs.declared.records.Finished.{Finished}
use Rattle.system_tables.specs.declared.tables.EndId.{EndId}
use Rattle.system_tables.specs.Names.{is_name}
use Rattle.system_tables.specs.Tables.{SystemTable, IsEnd, IsSystem}
use Rattle.link_rules.specs.Plans.{instance_name_at, interface_name_at}

short_name : (text : List ℕ) → IsTrue (is_name text) → length text ≤ 64
unfolding is_name
short_name text named = leb-true (length text) 64 (and_parts _ _ named).1

pub instance_short : (system : SystemTable) (end : EndId) (known : Finished) → IsSystem system → IsEnd system end known → length (instance_name_at system end) ≤ 64
instance_short system end known kept there = rw there.instance_is (short_name there.instance.name (kept.instances end.instance there.instance there.instance_is).name)

pub interface_short : (system : SystemTable) (end : EndId) (known : Finished) → IsSystem system → IsEnd system end known → length (interface_name_at system end) ≤ 64
interface_short system end known kept there =
    rw (there.instance_is, there.interface_is) (short_name there.interface.name ((kept.instances end.instance there.instance there.instance_is).interfaces end.interface there.interface there.interface_is))
