-- Ends of a system, each with what stands next to it: what drives their outputs.
use Rattle.std.specs.Prelude.{◌≡◌, ℕ, List, length, Some, slice_get}
use Rattle.system_tables.specs.declared.tables.EndId.{EndId}
use Rattle.system_tables.specs.Tables.{SystemTable}
use Rattle.netlist.specs.Netlists.{Netlist}
use Rattle.interconnect.specs.declared.outputs.Output.{Output}
use Rattle.interconnect.specs.Outputs.{MayDriveAt, AreDrivenAt, IsNoPortOf}

-- the port is none of these ends'
abbrev pub IsNoPortOfEach : SystemTable → List EndId → ℕ → Type 0
IsNoPortOfEach system ends port = (k : ℕ) (end : EndId) → slice_get ends k ≡ Some end → IsNoPortOf system end port

-- each end has its part, whose nets may drive the outputs there; no end is there twice
pub record MayDriveEach {P : Type 0} (system : SystemTable) (outputs : P → List Output) (ends : List EndId) (parts : List P)
    (netlist : Netlist) : Type 0 where
  pub many : length parts ≡ length ends
  pub apart : (j k : ℕ) (end : EndId) → slice_get ends j ≡ Some end → slice_get ends k ≡ Some end → j ≡ k
  pub can : (k : ℕ) (end : EndId) (part : P) → slice_get ends k ≡ Some end → slice_get parts k ≡ Some part
      → MayDriveAt system end (outputs part) netlist

-- the outputs at each end are driven by its part
abbrev pub AreEachDriven : {P : Type 0} → SystemTable → (P → List Output) → List EndId → List P → Netlist → Type 0
AreEachDriven {P} system outputs ends parts netlist =
    (k : ℕ) (end : EndId) (part : P) → slice_get ends k ≡ Some end → slice_get parts k ≡ Some part
    → AreDrivenAt system end (outputs part) netlist
