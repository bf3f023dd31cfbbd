-- The form of a wire's line, where each input port has its net.
use Rattle.std.specs.Prelude.{◌≡◌, ℕ, ◌+◌, ◌<◌, ◌≤◌, ◌^◌, false, nat_lt, List, length, Option, Some, None, codes, decimal}
use Rattle.netlist.specs.declared.line.Line.{Line}
use Rattle.netlist.specs.declared.line.Memory.{Memory}
use Rattle.netlist.specs.declared.line.PortLine.{PortLine}
use Rattle.netlist.specs.Netlists.{line_of, width_at}
use Rattle.verilog_forms.specs.declared.rule.Rule.{Rule}
use Rattle.verilog_forms.specs.declared.rule.Rule.TheVariants.{Width, Spelling}
use Rattle.verilog_forms.specs.Forms.{Form, fixed, followed}
use Rattle.verilog_forms.specs.RightSides.{unless, same_bytes, value_of, is_number, right_form, IsRightSide}

-- a width less one
abbrev pub high_test : List ℕ → Option Rule
high_test run = unless (is_number run) Spelling (unless (nat_lt (value_of run) 128) Width None)

-- the bits of a net, and what stands behind them
abbrev pub range_form : {A : Type 0} → (ℕ → Form A) → Form A
range_form form = fixed (codes "[") (Form.hole high_test (λ run. fixed (codes ":0]") (form (value_of run + 1))))

-- this number and no other
abbrev pub number_test : ℕ → List ℕ → Option Rule
number_test n run = unless (same_bytes run (decimal n)) Spelling None

-- net n by its name, and what stands behind it
abbrev pub named_form : {A : Type 0} → ℕ → Form A → Form A
named_form n form = fixed (codes "n") (Form.hole (number_test n) (λ run. form))

-- the right side of net n, of w bits, and the end of its line
abbrev pub ending_form : List Memory → List Line → ℕ → ℕ → Form Line
ending_form memories lines n w = followed (right_form memories lines n w) (λ e. fixed (codes ";\n") (Form.whole (line_of w e)))

-- the line of net n, a wire, among these memories and the lines before it
abbrev pub wire_form : List Memory → List Line → ℕ → Form Line
wire_form memories lines n =
    fixed (codes "  wire ")
    (range_form (λ w. fixed (codes " ") (named_form n (fixed (codes " = ") (ending_form memories lines n w)))))

-- where net n stands: what stands before it
pub record Behind (memories : List Memory) (lines : List Line) (n : ℕ) : Type 0 where
  pub few : n < 2 ^ 64
  pub room : n ≤ length lines
  pub few_memories : length memories ≤ 2 ^ 16
  pub small : (a v : ℕ) → width_at lines a ≡ Some v → v ≤ 128

-- a sound line of net n that is spelled by nets, memories and numbers
pub record IsWire (ports : List PortLine) (memories : List Memory) (lines : List Line) (n : ℕ) (line : Line) : Type 0 where
  pub some_bit : 1 ≤ line.width
  pub small : line.width ≤ 128
  pub right : IsRightSide ports memories lines n line.width line.equation
  pub complete : line.waits ≡ false
