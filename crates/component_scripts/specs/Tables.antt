-- The tables of components with their interfaces.
use Rattle.std.specs.Prelude.{◌≡◌, ℕ, List, Option, IsTrue, All, map}
use Rattle.std.specs.List.{IsDistinct}
use Rattle.std.specs.Str.{bytes_eq}
use Rattle.av_base.specs.declared.faults.Place.{Place}
use Rattle.iface_roles.specs.declared.kinds.Kind.{Kind}
use Rattle.iface_roles.specs.declared.kinds.Kind.TheVariants.{Mm, Stream}
use Rattle.iface_roles.specs.declared.kinds.Side.{Side}
use Rattle.iface_roles.specs.declared.kinds.Side.TheVariants.{Start, End}
use Rattle.iface_roles.specs.declared.records.Finished.{Finished}
use Rattle.iface_roles.specs.declared.records.Finished.TheVariants.{Host, Agent, Source, Sink}
use Rattle.iface_roles.specs.Proper.{IsProper}
use Rattle.script_words.specs.Names.{place_of}
use Rattle.system_tables.specs.Names.{is_name}
use Rattle.system_tables.specs.declared.tables.InterfaceTable.{InterfaceTable}

-- a component: the name of its type and where that stands, and its interfaces in the order of their commands
pub record ComponentTable : Type 0 where
  pub name : List ℕ
  pub place : Place
  pub interfaces : List InterfaceTable

-- what is known of an interface of this kind and side
abbrev pub Fits : Kind → Side → Finished → Type 0
Fits Mm Start (Host host) = Unit {0}
Fits Mm End (Agent agent) = Unit {0}
Fits Stream Start (Source source) = Unit {0}
Fits Stream End (Sink sink) = Unit {0}
Fits Mm _ _ = ⊥
Fits Stream _ _ = ⊥
Fits _ _ known = Unit {0}

-- an interface of a component: what is known of it is of its kind and side, and keeps the rules
pub record IsSound (interface : InterfaceTable) : Type 0 where
  pub name : IsTrue (is_name interface.name)
  pub proper : IsProper interface.finished
  pub fits : Fits interface.kind interface.side interface.finished

-- the names of the interfaces, in order
abbrev pub HasNamesOf : List (List ℕ) → List InterfaceTable → Type 0
HasNamesOf names interfaces = names ≡ map (λ (interface : InterfaceTable). interface.name) interfaces

-- the place of the interface of this name
unfoldable pub interface_place : List InterfaceTable → List ℕ → Option ℕ
interface_place interfaces name = place_of (map (λ (interface : InterfaceTable). interface.name) interfaces) name

-- a component that a file states
pub record IsComponent (component : ComponentTable) : Type 0 where
  pub name : IsTrue (is_name component.name)
  pub interfaces : All IsSound component.interfaces
  pub distinct : IsDistinct bytes_eq (map (λ (interface : InterfaceTable). interface.name) component.interfaces)
