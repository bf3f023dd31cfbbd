-- What stands at the inputs of an end.
use Rattle.std.proofs.Common.{◌≡◌, ◌^◌, ◌<◌, ℕ, zero, suc, false, List, [], ◌∷◌, ◌++◌, slice_get, Option, Some, None, sym, subst, ◌∙◌}
use Rattle.av_base.specs.Word.{Word}
use Rattle.iface_roles.specs.declared.records.Finished.{Finished}
use Rattle.system_tables.specs.declared.tables.EndId.{EndId}
use Rattle.system_tables.specs.Tables.{SystemTable}
use Rattle.netlist.specs.declared.line.PortLine.{PortLine}
use Rattle.netlist.specs.Netlists.{Netlist, IsInputPort, input_net}
use Rattle.netlist.specs.Runs.{Run}
use Rattle.cycle_sim.specs.Sims.{widths_of, input_widths}
use Rattle.port_tables.specs.declared.roles.PortRole.{PortRole}
use Rattle.port_tables.specs.declared.roles.RolePort.{RolePort}
use Rattle.port_tables.specs.Ports.{ports_of}
use Rattle.port_tables.specs.PortMaps.{HasKnownPorts, IsPort, IsPortIf, port_at}
use Rattle.port_rows.specs.declared.driven.Driven.{Driven}
use Rattle.port_rows.specs.Levels.{AllFit, AllStand, level_if, levels_for}
use Rattle.port_rows.specs.Rows.{IsGivenRow, IsInputRole, IsPlace, level_in, place_among, shown_at}
use Rattle.port_rows.specs.Inputs.{EachFits, FitsPort, IsInputOf, place_at}

-- ---- what is known of rows

abbrev pub InputsAreRows : Type 0
InputsAreRows = (system : SystemTable) (netlist : Netlist) (run : Run) (c : ℕ) (row : List Word) → IsGivenRow system netlist run c row
    → (end : EndId) (role : PortRole) (absent : ℕ) → IsInputRole system end role
    → shown_at system netlist run end role absent c ≡ level_in row absent (place_among (ports_of system) (port_at system end role))

abbrev pub PlacesAreThere : Type 0
PlacesAreThere = (ports : List PortLine) (row : List Word) (k w : ℕ) → widths_of row ≡ input_widths ports → IsInputPort ports k w → IsPlace row (input_net ports k) w

-- ---- one port

input_port : (ports : List PortLine) (width k : ℕ) → IsPort ports false width k → IsInputPort ports k width
input_port ports width k h = record { port = h.port; is = h.is; input = h.output_is; width = h.width_is }

known_input : (system : SystemTable) (end : EndId) (there : Finished) (port : RolePort) → HasKnownPorts system → IsInputOf system end there port
    → IsPortIf (ports_of system) false port.width (port_at system end port.role)
known_input system end there port known h =
    subst (λ output. IsPortIf (ports_of system) output port.width (port_at system end port.role)) h.input (known.known end there port h.among h.known h.may)

input_role : (system : SystemTable) (end : EndId) (role : PortRole) (width : ℕ) → IsPortIf (ports_of system) false width (port_at system end role) → IsInputRole system end role
input_role system end role width h k at =
    (width, input_port (ports_of system) width k (subst (λ (found : Option ℕ). IsPortIf (ports_of system) false width found) at h))

stands_there : (ports : List PortLine) (row : List Word) (width absent level : ℕ) (found : Option ℕ) → IsPortIf ports false width found → FitsPort width absent level
    → AllStand row (level_if (place_among ports found) level) → level_in row absent (place_among ports found) ≡ level
stands_there ports row width absent level None none fits stands = sym (fits.default none)
stands_there ports row width absent level (Some k) is fits stands = stands.0

fits_there : (ports : List PortLine) (row : List Word) (width absent level : ℕ) (found : Option ℕ) → PlacesAreThere → widths_of row ≡ input_widths ports → IsPortIf ports false width found
    → FitsPort width absent level → AllFit row (level_if (place_among ports found) level)
fits_there ports row width absent level None there same none fits = tt
fits_there ports row width absent level (Some k) there same is fits =
    let place = there ports row k width same (input_port ports width k is) in
    (record { there = place.there; width = subst (λ (n : ℕ). level < 2 ^ n) (sym place.wide) (fits.room is.some) }, tt)

pub input_shown : (system : SystemTable) (netlist : Netlist) (run : Run) (c : ℕ) (row : List Word) → InputsAreRows → HasKnownPorts system → IsGivenRow system netlist run c row
    → (end : EndId) (there : Finished) (port : RolePort) (absent level : ℕ) → IsInputOf system end there port → FitsPort port.width absent level
    → AllStand row (level_if (place_at system end port.role) level) → shown_at system netlist run end port.role absent c ≡ level
input_shown system netlist run c row law known given end there port absent level is fits stands =
    let found = known_input system end there port known is in
    law system netlist run c row given end port.role absent (input_role system end port.role port.width found)
    ∙ stands_there (ports_of system) row port.width absent level (port_at system end port.role) found fits stands

pub input_fits : (system : SystemTable) (row : List Word) → PlacesAreThere → HasKnownPorts system → widths_of row ≡ input_widths (ports_of system)
    → (end : EndId) (there : Finished) (port : RolePort) (absent level : ℕ) → IsInputOf system end there port → FitsPort port.width absent level
    → AllFit row (level_if (place_at system end port.role) level)
input_fits system row law known same end there port absent level is fits =
    fits_there (ports_of system) row port.width absent level (port_at system end port.role) law same (known_input system end there port known is) fits

-- ---- several of them

first_stands : (row : List Word) (one : Driven) (later : List Driven) (place : Option ℕ) → AllStand row (level_if place one.bits ++ levels_for later) → AllStand row (level_if place one.bits)
first_stands row one later None h = tt
first_stands row one later (Some place) h = (h.0, tt)

later_stand : (row : List Word) (bits : ℕ) (later : List Driven) (place : Option ℕ) → AllStand row (level_if place bits ++ levels_for later) → AllStand row (levels_for later)
later_stand row bits later None h = h
later_stand row bits later (Some place) h = h.1

pub each_stands : (row : List Word) (driven : List Driven) (k : ℕ) (one : Driven) → slice_get driven k ≡ Some one → AllStand row (levels_for driven) → AllStand row (level_if one.place one.bits)
each_stands row [] k one at h = let none : None ≡ Some one = at in cc
each_stands row (first ∷ later) zero one at h =
    let is : first ≡ one = cc in
    subst (λ (d : Driven). AllStand row (level_if d.place d.bits)) is (first_stands row first later first.place h)
each_stands row (first ∷ later) (suc k) one at h = each_stands row later k one at (later_stand row first.bits later first.place h)

fits_before : (row : List Word) (bits : ℕ) (later : List Driven) (place : Option ℕ) → AllFit row (level_if place bits) → AllFit row (levels_for later) → AllFit row (level_if place bits ++ levels_for later)
fits_before row bits later None h rest = rest
fits_before row bits later (Some place) h rest = (h.0, rest)

pub all_fit : (row : List Word) (driven : List Driven) → EachFits row driven → AllFit row (levels_for driven)
all_fit row [] h = tt
all_fit row (first ∷ later) h = fits_before row first.bits later first.place h.0 (all_fit row later h.1)
