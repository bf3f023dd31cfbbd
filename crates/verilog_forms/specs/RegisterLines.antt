-- The form of a register's line. What the register takes is told by its clocked line.
use Rattle.std.specs.Prelude.{ℕ, codes}
use Rattle.netlist.specs.declared.line.Line.{Line}
use Rattle.netlist.specs.Netlists.{register_of}
use Rattle.verilog_forms.specs.Forms.{Form, fixed}
use Rattle.verilog_forms.specs.WireLines.{range_form, named_form}

-- a register of which no more than its width is told yet
abbrev pub untold : ℕ → ℕ → Line
untold n w = register_of n (record { width = w; bits = 0 })

-- the line of net n, a register
abbrev pub register_form : ℕ → Form Line
register_form n =
    fixed (codes "  reg ") (range_form (λ w. fixed (codes " ") (named_form n (fixed (codes ";\n") (Form.whole (untold n w))))))
