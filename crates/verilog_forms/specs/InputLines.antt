-- The form of an input net's line: the next input port by its name.
use Rattle.std.specs.Prelude.{◌≡◌, ℕ, ◌==◌, ◌≤◌, false, List, Option, None, Some, slice_get, codes, if◌then◌else◌}
use Rattle.netlist.specs.Names.{IsPortName}
use Rattle.netlist.specs.declared.line.Equation.TheVariants.{Input}
use Rattle.netlist.specs.declared.line.Line.{Line}
use Rattle.netlist.specs.declared.line.PortLine.{PortLine}
use Rattle.netlist.specs.Netlists.{line_of}
use Rattle.verilog_forms.specs.declared.rule.Rule.{Rule}
use Rattle.verilog_forms.specs.declared.rule.Rule.TheVariants.{Name, Width}
use Rattle.verilog_forms.specs.Forms.{Form, fixed}
use Rattle.verilog_forms.specs.RightSides.{unless, same_bytes}
use Rattle.verilog_forms.specs.WireLines.{range_form, named_form}
use Rattle.verilog_forms.specs.Headers.{is_next}

abbrev pub port_test : PortLine → ℕ → List ℕ → Option Rule
port_test port w run = unless (same_bytes run port.name) Name (unless (w == port.width) Width None)

abbrev pub input_wire_form : ℕ → ℕ → PortLine → Form Line
input_wire_form n k port =
    fixed (codes "wire ")
    (range_form (λ w. fixed (codes " ")
    (named_form n (fixed (codes " = ") (Form.hole (port_test port w) (λ run. fixed (codes ";\n")
    (Form.whole (line_of port.width (Input k)))))))))

-- a register where an input is due
abbrev pub no_input_form : Form Line
no_input_form = fixed (codes "reg ") (range_form (λ w. fixed (codes " n") (Form.refuse Name)))

-- the line of net n, the input of port k, which is this one
abbrev pub input_form : ℕ → ℕ → PortLine → Form Line
input_form n k port =
    fixed (codes "  ") (Form.turn (λ b. if is_next (codes "r") b then no_input_form else input_wire_form n k port))

-- port k is this one, an input
pub record IsInputAt (ports : List PortLine) (k : ℕ) (port : PortLine) : Type 0 where
  pub is : slice_get ports k ≡ Some port
  pub input : port.output ≡ false
  pub name : IsPortName port.name
  pub some_bit : 1 ≤ port.width
  pub small : port.width ≤ 128
