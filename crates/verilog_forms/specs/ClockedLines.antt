-- The forms of the lines behind the nets: what the clock does to a register and to a memory, and the lines of outputs.
use Rattle.std.specs.Prelude.{ℕ, ◌==◌, Bool, false, ◌&&◌, not, nat_lt, List, length, Option, None, codes, if◌then◌else◌}
use Rattle.netlist.specs.declared.line.Equation.{Equation}
use Rattle.netlist.specs.declared.line.Equation.TheVariants.{Constant, Reg}
use Rattle.netlist.specs.declared.line.Line.{Line}
use Rattle.netlist.specs.declared.line.Memory.{Memory}
use Rattle.netlist.specs.declared.line.MemWrite.{MemWrite}
use Rattle.netlist.specs.declared.line.PortLine.{PortLine}
use Rattle.netlist.specs.Netlists.{line_of, write_of}
use Rattle.verilog_forms.specs.declared.rule.Rule.{Rule}
use Rattle.verilog_forms.specs.declared.rule.Rule.TheVariants.{Name, Spelling, NotThere, Order}
use Rattle.verilog_forms.specs.Forms.{Form, fixed, followed}
use Rattle.verilog_forms.specs.RightSides.{unless, same_bytes, value_of, is_number, net_of, is_net, operand, constant_form}
use Rattle.verilog_forms.specs.Headers.{is_next}

-- any net of these that fits
abbrev pub net_form : {A : Type 0} → List Line → (ℕ → Bool) → (ℕ → Form A) → Form A
net_form lines fits form = operand lines (length lines) fits form

-- a register that has its clocked line here: a net that is there, and the one that is due
abbrev pub clocked_net_test : List Line → (ℕ → Bool) → List ℕ → Option Rule
clocked_net_test lines is_due run =
    unless (is_net run) Spelling (unless (nat_lt (net_of run) (length lines)) NotThere (unless (is_due (net_of run)) Order None))

-- the same for a memory
abbrev pub clocked_memory_test : List Memory → (ℕ → Bool) → List ℕ → Option Rule
clocked_memory_test memories is_due run =
    unless (is_number run) Spelling
    (unless (nat_lt (value_of run) (length memories)) NotThere (unless (is_due (value_of run)) Order None))

abbrev pub none_due : ℕ → Bool
none_due k = false

-- the register, and what stands behind it
abbrev pub clocked_net_form : {A : Type 0} → List Line → (ℕ → Bool) → Form A → Form A
clocked_net_form lines is_due form = fixed (codes "reset) ") (Form.hole (clocked_net_test lines is_due) (λ run. form))

-- the enable and the memory, and what stands behind them
abbrev pub clocked_memory_form : {A : Type 0} → List Memory → List Line → (ℕ → Bool) → (ℕ → Form A) → Form A
clocked_memory_form memories lines is_due form =
    net_form lines (λ v. v
    == 1) (λ enable. fixed (codes ") m") (Form.hole (clocked_memory_test memories is_due) (λ run. form enable)))

-- a clocked line's first word on, of a register or a memory
abbrev pub always_form : {A : Type 0} → Form A → Form A → Form A
always_form register memory =
    fixed (codes "lways @(posedge clk) if (") (Form.turn (λ b. if is_next (codes "r") b then register else memory))

-- a register or a memory that isn't due
abbrev pub other_net_form : {A : Type 0} → List Line → Form A
other_net_form lines = clocked_net_form lines none_due (Form.refuse Order)

abbrev pub other_memory_form : {A : Type 0} → List Memory → List Line → Form A
other_memory_form memories lines = clocked_memory_form memories lines none_due (λ enable. Form.refuse Order)

-- the register with its reset value and its next net
abbrev pub register_with : ℕ → Equation → ℕ → Line
register_with w (Constant value) next = line_of w (Reg value next)
register_with w e next = line_of w e

abbrev pub next_form : List Line → ℕ → ℕ → Form Line
next_form lines n w =
    followed
    (constant_form w) (λ reset. fixed (codes "; else ")
    (Form.hole
    (clocked_net_test lines (λ k. k == n)) (λ run. fixed (codes " <= ")
    (net_form lines (λ v. v == w) (λ next. fixed (codes ";\n")
    (Form.whole (register_with w reset next)))))))

-- the clocked line of net n, a register of w bits, among these memories and nets
abbrev pub clock_form : List Memory → List Line → ℕ → ℕ → Form Line
clock_form memories lines n w =
    fixed (codes "  a")
    (always_form (clocked_net_form lines (λ k. k == n) (fixed (codes " <= ") (next_form lines n w)))
    (other_memory_form memories lines))

-- the clocked line of memory m, which is this one
abbrev pub write_form : List Memory → List Line → ℕ → Memory → Form MemWrite
write_form memories lines m memory =
    fixed (codes "  a")
    (always_form (other_net_form lines)
    (clocked_memory_form memories lines (λ k. k
    == m) (λ enable. fixed (codes "[") (net_form lines (λ v. v == memory.address_bits) (λ address.
    fixed (codes "] <= ")
    (net_form lines (λ v. v == memory.width) (λ word. fixed (codes ";\n") (Form.whole (write_of enable address word)))))))))

-- A clocked line where none is due, or else what has to stand there. Behind a line of an output none may stand.
abbrev pub none_clocked_form : {A : Type 0} → List Memory → List Line → Bool → Form A → Option ℕ → Form A
none_clocked_form memories lines assigned form b =
    if is_next (codes "l") b && not assigned then always_form (other_net_form lines) (other_memory_form memories lines) else form

abbrev pub output_test : List ℕ → List ℕ → Option Rule
output_test name run = unless (same_bytes run name) Name None

abbrev pub driver_form : List Line → PortLine → Form ℕ
driver_form lines port =
    fixed (codes "ssign ")
    (Form.hole
    (output_test port.name) (λ run. fixed (codes " = ")
    (net_form lines (λ v. v == port.width) (λ net. fixed (codes ";\n") (Form.whole net)))))

-- the line of the output that is due, which is this port, behind another output's or not
abbrev pub assign_form : List Memory → List Line → Bool → PortLine → Form ℕ
assign_form memories lines assigned port =
    fixed (codes "  a") (Form.turn (none_clocked_form memories lines assigned (driver_form lines port)))
