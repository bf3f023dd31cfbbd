-- The words for kinds of interface and for their sides, and the names of roles and properties there.
use Rattle.std.specs.Prelude.{ℕ, Bool, true, false, ◌&&◌, ◌||◌, not, List, Option, Some, None, find, codes, if◌then◌else◌}
use Rattle.std.specs.Str.{bytes_eq}
use Rattle.iface_roles.specs.declared.kinds.Kind.{Kind}
use Rattle.iface_roles.specs.declared.kinds.Kind.TheVariants.{Clock, Reset, Mm, Stream, Conduit, Interrupt}
use Rattle.iface_roles.specs.declared.kinds.Side.{Side}
use Rattle.iface_roles.specs.declared.kinds.Side.TheVariants.{Start, End}
use Rattle.iface_roles.specs.declared.kinds.PortDirection.{PortDirection}
use Rattle.iface_roles.specs.declared.kinds.PortDirection.TheVariants.{Input, Output, Bidir}
use Rattle.iface_roles.specs.declared.roles.Role.{Role}
use Rattle.iface_roles.specs.declared.properties.Property.{Property}
use Rattle.iface_roles.specs.declared.properties.Property.TheVariants.{Known, PassedOver, Unknown}
use Rattle.iface_roles.specs.declared.properties.PropertyId.{PropertyId}
use Rattle.iface_roles.specs.Kinds.{is_avalon}
use Rattle.iface_roles.specs.Names.{same_name}
use Rattle.iface_roles.specs.Roles.{role_row, all_roles}
use Rattle.iface_roles.specs.Properties.{property_row, all_properties, is_of, is_called, is_listed}

abbrev pub same_kind : Kind → Kind → Bool
same_kind Clock Clock = true
same_kind Reset Reset = true
same_kind Mm Mm = true
same_kind Stream Stream = true
same_kind Conduit Conduit = true
same_kind Interrupt Interrupt = true
same_kind _ _ = false

-- the kind that a word names
unfoldable pub kind_named : List ℕ → Option Kind
kind_named text =
    if bytes_eq text (codes "clock") then Some Clock
    else (if bytes_eq text (codes "reset") then Some Reset
    else (if bytes_eq text (codes "avalon") then Some Mm
    else (if bytes_eq text (codes "avalon_streaming") then Some Stream
    else (if bytes_eq text (codes "conduit") then Some Conduit
    else (if bytes_eq text (codes "interrupt") then Some Interrupt else None)))))

-- the words for a start of this kind
abbrev pub names_start : Kind → List ℕ → Bool
names_start kind text =
    bytes_eq text (codes "start")
    || (not (same_kind kind Stream) && (bytes_eq text (codes "master") || bytes_eq text (codes "host")))
    || (not (same_kind kind Mm) && bytes_eq text (codes "source"))

-- the words for an end of this kind
abbrev pub names_end : Kind → List ℕ → Bool
names_end kind text =
    bytes_eq text (codes "end")
    || (not (same_kind kind Stream) && (bytes_eq text (codes "slave") || bytes_eq text (codes "agent")))
    || (not (same_kind kind Mm) && bytes_eq text (codes "sink"))

-- the side that a word names in interfaces of this kind
unfoldable pub side_named : Kind → List ℕ → Option Side
side_named kind text = if names_start kind text then Some Start else (if names_end kind text then Some End else None)

-- a port's direction, in any case
unfoldable pub direction_named : List ℕ → Option PortDirection
direction_named text =
    if same_name (codes "Input") text then Some Input
    else (if same_name (codes "Output") text then Some Output
    else (if same_name (codes "Bidir") text then Some Bidir else None))

-- the role that a text names in interfaces of this kind
unfoldable pub role_named : Kind → List ℕ → Option Role
role_named kind text = find (λ role. same_kind (role_row role).kind kind && same_name (role_row role).name text) all_roles

abbrev pub known_or_not : Option PropertyId → Property
known_or_not (Some id) = Known id
known_or_not None = Unknown

-- what a text names among the properties of interfaces of this kind
unfoldable pub property_named : Kind → List ℕ → Property
property_named kind text =
    if not (is_avalon kind) || is_listed text then PassedOver
    else known_or_not (find (λ id. is_of (property_row id).kinds kind && is_called id text) all_properties)
