-- Parts of the lines behind the nets.
use Rattle.std.specs.Prelude.{◌≡◌, ℕ, ◌==◌, Bool, true, false, nat_lt, List, length, Option, None, Some, Result, Ok, Err, codes}
use Rattle.netlist.specs.declared.line.Line.{Line}
use Rattle.netlist.specs.declared.line.Memory.{Memory}
use Rattle.netlist.specs.declared.line.MemWrite.{MemWrite}
use Rattle.netlist.specs.Netlists.{width_at, write_of}
use Rattle.verilog_forms.specs.declared.rule.Rule.{Rule}
use Rattle.verilog_forms.specs.declared.rule.Rule.TheVariants.{Name, Spelling, NotThere, Order}
use Rattle.verilog_forms.specs.Forms.{Form, fixed}
use Rattle.verilog_forms.specs.RightSides.{unless}
use Rattle.verilog_reader.specs.Holes.{capped}
use Rattle.verilog_forms.specs.ClockedLines.{none_due, net_form, clocked_net_form, clocked_memory_form, always_form, other_net_form, other_memory_form, next_form, none_clocked_form}

-- the same nets but for what their clocked lines tell
pub record SameWidths (one other : List Line) : Type 0 where
  pub count : length one ≡ length other
  pub width : (a : ℕ) → width_at one a ≡ width_at other a

-- the number that is due, if one is
abbrev pub is_due : Option ℕ → ℕ → Bool
is_due None = none_due
is_due (Some n) = λ k. k == n

-- the number, where it is spelled as it has to be
abbrev pub Tells : Bool → ℕ → Option ℕ → Type 0
Tells spelled n None = spelled ≡ false
Tells spelled n (Some told) = (spelled ≡ true) × (told ≡ capped n)

-- what a number breaks where one of so many is due
abbrev pub due_test : Bool → ℕ → ℕ → Option ℕ → Option Rule
due_test spelled n count due = unless spelled Spelling (unless (nat_lt n count) NotThere (unless (is_due due n) Order None))

-- whether a test is passed, or the rule that it names
abbrev pub Passes : Option Rule → Result (Unit {0}) Rule → Type 0
Passes broken (Ok nothing) = broken ≡ None
Passes broken (Err rule) = broken ≡ Some rule

-- the clocked line of a register, behind its first bracket
abbrev pub clocked_register_form : List Line → ℕ → ℕ → Form Line
clocked_register_form lines n w = clocked_net_form lines (λ k. k == n) (fixed (codes " <= ") (next_form lines n w))

-- the clocked line of a memory, behind its first bracket
abbrev pub written_memory_form : List Memory → List Line → ℕ → Memory → Form MemWrite
written_memory_form memories lines m memory =
    clocked_memory_form memories lines (λ k. k
    == m) (λ enable. fixed (codes "[") (net_form lines (λ v. v == memory.address_bits) (λ address.
    fixed (codes "] <= ")
    (net_form lines (λ v. v == memory.width) (λ word. fixed (codes ";\n") (Form.whole (write_of enable address word)))))))

-- a clocked line where none is due, from its second letter on
abbrev pub other_clocked_form : {A : Type 0} → List Memory → List Line → Form A
other_clocked_form memories lines = always_form (other_net_form lines) (other_memory_form memories lines)

-- a line where the last is due
abbrev pub late_form : {A : Type 0} → List Memory → List Line → Bool → Form A
late_form memories lines assigned =
    fixed (codes "  a") (Form.turn (none_clocked_form memories lines assigned (fixed (codes "ssign ") (Form.refuse Name))))
