-- The operators between two operands, one by one.
use Rattle.std.specs.Prelude.{ℕ, ◌==◌, Bool, List, codes}
use Rattle.netlist.specs.declared.line.Equation.{Equation}
use Rattle.netlist.specs.declared.line.Equation.TheVariants.{And, Or, Xor, Add, Sub, Eq, Less}
use Rattle.netlist.specs.declared.line.Line.{Line}
use Rattle.verilog_forms.specs.declared.rule.Rule.TheVariants.{Width}
use Rattle.verilog_forms.specs.Forms.{Form}
use Rattle.verilog_forms.specs.RightSides.{guarded, second}
use Rattle.verilog_reader.specs.declared.operators.Infix.{Infix}
use Rattle.verilog_reader.specs.declared.operators.Infix.TheVariants as op

-- the byte that its sign begins with
abbrev pub first_byte : Infix → ℕ
first_byte op.And = 38
first_byte op.Or = 124
first_byte op.Xor = 94
first_byte op.Add = 43
first_byte op.Sub = 45
first_byte op.Eq = 61
first_byte op.Less = 60

-- its sign, and the blank behind that
abbrev pub sign_of : Infix → List ℕ
sign_of op.And = codes "& "
sign_of op.Or = codes "| "
sign_of op.Xor = codes "^ "
sign_of op.Add = codes "+ "
sign_of op.Sub = codes "- "
sign_of op.Eq = codes "== "
sign_of op.Less = codes "< "

-- of operands that are so wide it gives a net of this width: a comparison gives one bit, and the others as many as each operand has
abbrev pub gives : Infix → ℕ → ℕ → Bool
gives op.And wide width = wide == width
gives op.Or wide width = wide == width
gives op.Xor wide width = wide == width
gives op.Add wide width = wide == width
gives op.Sub wide width = wide == width
gives op.Eq wide width = width == 1
gives op.Less wide width = width == 1

abbrev pub equation_of : Infix → ℕ → ℕ → Equation
equation_of op.And a b = And a b
equation_of op.Or a b = Or a b
equation_of op.Xor a b = Xor a b
equation_of op.Add a b = Add a b
equation_of op.Sub a b = Sub a b
equation_of op.Eq a b = Eq a b
equation_of op.Less a b = Less a b

-- what stands from its sign on, where the first operand is so wide
abbrev pub operation_form : List Line → ℕ → ℕ → ℕ → Infix → ℕ → Form Equation
operation_form lines n w a operator wide =
    guarded (gives operator wide w) Width (second lines n (sign_of operator) (λ u. u == wide) (equation_of operator a))
