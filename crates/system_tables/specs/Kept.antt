-- The table that a kept system stands for: an instance names its component by number.
use Rattle.std.specs.Prelude.{ℕ, List, [], map, slice_index_or}
use Rattle.system_tables.specs.declared.system.Instance.{Instance}
use Rattle.system_tables.specs.declared.system.System.TheInside.{Inside}
use Rattle.system_tables.specs.declared.tables.Connection.{Connection}
use Rattle.system_tables.specs.declared.tables.InterfaceTable.{InterfaceTable}
use Rattle.system_tables.specs.Tables.{InstanceTable, SystemTable}

abbrev pub instance_of : List (List InterfaceTable) → Instance → InstanceTable
instance_of components kept = record { name = kept.name; interfaces = slice_index_or components kept.component [] }

abbrev pub kept_table : List ℕ → ℕ → List (List InterfaceTable) → List Instance → List Connection → SystemTable
kept_table name stages components instances connections =
    record { name = name; stages = stages; instances = map (instance_of components) instances; connections = connections }

abbrev pub table_of : Inside → SystemTable
table_of kept = kept_table kept.name kept.stages kept.components kept.instances.items kept.connections
