-- What the sections of a text are read by, line after line.
use Rattle.std.specs.Prelude.{◌≡◌, ℕ, ◌≤◌, Bool, true, false, List, ◌++◌, Option, None, if◌then◌else◌}
use Rattle.netlist.specs.declared.line.Line.{Line}
use Rattle.netlist.specs.declared.line.Memory.{Memory}
use Rattle.netlist.specs.declared.line.PortLine.{PortLine}
use Rattle.verilog_reader.specs.declared.spot.Spot.{Spot}
use Rattle.verilog_reader.specs.declared.spot.Spot.TheVariants.{At, Flawed}
use Rattle.verilog_forms.specs.Forms.{Form}
use Rattle.verilog_forms.specs.ClockedLines.{assign_form}
use Rattle.verilog_forms.specs.WholeTexts.{told, driven}
use Rattle.verilog_reader.specs.Spots.{found, IsWithin}

abbrev pub is_flawed : Spot → Bool
is_flawed (At at) = false
is_flawed (Flawed at rule) = true

-- What is read from here on is read from the start on, behind what was read before.
abbrev pub Leads : {X : Type 0} → Form (List X) → List ℕ → Spot → List X → Form (List X) → Spot → Type 0
Leads {X} all text start done form spot =
    (xs : List X) (end : Spot) → IsWithin text end → found form text spot ≡ found (Form.whole xs) text end
    → found all text start ≡ found (Form.whole (done ++ xs)) text end

-- a net of 1 to 128 bits
pub record HasBits (line : Line) : Type 0 where
  pub some_bit : 1 ≤ line.width
  pub small : line.width ≤ 128

-- what drives a port, behind another output's line or not
abbrev pub driven_form : List Memory → List Line → Bool → PortLine → Form (Option ℕ)
driven_form memories lines assigned port =
    if port.output then told (assign_form memories lines assigned port) driven else Form.whole None
