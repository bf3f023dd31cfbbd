-- The component that each system file may name without a file of its own.
use Rattle.std.specs.Prelude.{ℕ, List, [], ◌∷◌, map, codes}
use Rattle.iface_roles.specs.declared.kinds.Kind.{Kind}
use Rattle.iface_roles.specs.declared.kinds.Kind.TheVariants.{Clock, Reset}
use Rattle.iface_roles.specs.declared.kinds.Side.{Side}
use Rattle.iface_roles.specs.declared.kinds.Side.TheVariants.{Start, End}
use Rattle.iface_roles.specs.declared.records.Finished.TheVariants.{Other}
use Rattle.system_tables.specs.declared.tables.InterfaceTable.{InterfaceTable}
use Rattle.component_scripts.specs.Tables.{ComponentTable}

abbrev pub built_in : List ℕ → Kind → Side → InterfaceTable
built_in name kind side = record { name = name; kind = kind; side = side; clock = []; finished = Other }

-- a source of a clock and of its reset
abbrev pub clock_source_table : ComponentTable
clock_source_table =
    record {
      name = codes "clock_source";
      place = record { file = 0; line = 0; byte = 0 };
      interfaces = built_in (codes "clk_in") Clock End ∷ built_in (codes "clk_in_reset") Reset End
          ∷ built_in (codes "clk") Clock Start ∷ built_in (codes "clk_reset") Reset Start ∷ [];
    }

-- the interfaces of each component
abbrev pub interfaces_of : List ComponentTable → List (List InterfaceTable)
interfaces_of components = map (λ (component : ComponentTable). component.interfaces) components
