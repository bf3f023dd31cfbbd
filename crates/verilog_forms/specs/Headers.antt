-- The form of a module's header: its name, and the line of each port.
use Rattle.std.specs.Prelude.{◌≢◌, ℕ, suc, zero, ◌≤◌, ◌^◌, ◌-◌, Bool, true, false, ◌&&◌, ◌||◌, not, nat_eq, List, [], ◌∷◌, ◌++◌, All, Option, Some, None, codes, if◌then◌else◌}
use Rattle.std.specs.List.{list_all, list_any, ends_with}
use Rattle.netlist.specs.Names.{begins_with_letter, is_name_byte, is_dollar, IsPortName}
use Rattle.netlist.specs.declared.line.PortLine.{PortLine}
use Rattle.netlist.specs.Netlists.{Netlist, started}
use Rattle.verilog_forms.specs.declared.rule.Rule.{Rule}
use Rattle.verilog_forms.specs.declared.rule.Rule.TheVariants.{Name}
use Rattle.verilog_forms.specs.Forms.{Form, fixed, followed}
use Rattle.verilog_forms.specs.RightSides.{unless, is_char, same_bytes}
use Rattle.verilog_forms.specs.WireLines.{range_form}

-- the next byte is this character
abbrev pub is_next : List ℕ → Option ℕ → Bool
is_next character None = false
is_next character (Some b) = is_char character b

abbrev pub module_name_test : List ℕ → Option Rule
module_name_test run =
    unless (begins_with_letter run && (list_all is_name_byte run && ends_with nat_eq run (codes "_interconnect"))) Name None

-- one of the ports has this name
abbrev pub is_named : List ℕ → List PortLine → Bool
is_named name [] = false
is_named name (port ∷ ports) = same_bytes port.name name || is_named name ports

-- the name of a port behind these: a hole has no byte that it may not have
abbrev pub port_name_test : List PortLine → List ℕ → Option Rule
port_name_test ports run = unless (begins_with_letter run && (list_any is_dollar run && not (is_named run ports))) Name None

abbrev pub port_of : List ℕ → ℕ → Bool → PortLine
port_of name w output = record { name = name; width = w; output = output }

abbrev pub described_form : List PortLine → Bool → Form PortLine
described_form ports output =
    fixed (codes " wire ")
    (range_form (λ w. fixed (codes " ") (Form.hole (port_name_test ports) (λ name. Form.whole (port_of name w output)))))

abbrev pub direction_form : List PortLine → Option ℕ → Form PortLine
direction_form ports b =
    if is_next (codes "o") b then fixed (codes "output") (described_form ports true)
    else fixed (codes "input") (described_form ports false)

-- the line of a port behind these, from behind the line before it on
abbrev pub port_form : List PortLine → Form PortLine
port_form ports = fixed (codes ",\n  ") (Form.turn (direction_form ports))

-- the lines of so many ports at most, behind these
abbrev pub ports_form : ℕ → List PortLine → Form (List PortLine)
ports_form zero ports = Form.whole ports
ports_form (suc few) ports =
    Form.turn (λ b. if is_next (codes ",") b then followed (port_form ports) (λ port. ports_form few (ports ++ port ∷ []))
    else Form.whole ports)

-- the header of a module, which has fewer than 2^32 ports
abbrev pub header_form : Form Netlist
header_form =
    fixed (codes "module ") (Form.hole module_name_test (λ name. fixed (codes " (\n  input wire clk,\n  input wire reset")
    (followed (ports_form (2 ^ 32 - 1) []) (λ ports. fixed (codes "\n);\n") (Form.whole (started name ports))))))

-- a port that may stand behind these
pub record IsNextPort (ports : List PortLine) (port : PortLine) : Type 0 where
  pub name : IsPortName port.name
  pub new : All (λ (other : PortLine). other.name ≢ port.name) ports
  pub some_bit : 1 ≤ port.width
  pub small : port.width ≤ 128
