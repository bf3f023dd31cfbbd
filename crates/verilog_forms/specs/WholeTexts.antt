-- The form of a whole text, in the order of its lines. What stands ahead tells whether a memory's or a net's line comes next.
use Rattle.std.specs.Prelude.{ℕ, zero, suc, ◌+◌, ◌-◌, ◌^◌, ◌==◌, Bool, true, false, ◌&&◌, ◌||◌, not, nat_lt, List, [], ◌∷◌, ◌++◌, length, drop, Option, Some, None, codes, if◌then◌else◌}
use Rattle.std.specs.List.{list_any, prefix_len}
use Rattle.netlist.specs.declared.line.Line.{Line}
use Rattle.netlist.specs.declared.line.Memory.{Memory}
use Rattle.netlist.specs.declared.line.MemWrite.{MemWrite}
use Rattle.netlist.specs.declared.line.PortLine.{PortLine}
use Rattle.netlist.specs.Netlists.{Netlist, is_register}
use Rattle.verilog_writer.specs.Text.{header_text, memories_text, nets_text}
use Rattle.verilog_forms.specs.declared.rule.Rule.TheVariants.{Name, Spelling, AfterEnd, TooManyNets}
use Rattle.verilog_forms.specs.Forms.{Form, is_hole_byte, next, fixed, followed}
use Rattle.verilog_forms.specs.WireLines.{range_form, wire_form}
use Rattle.verilog_forms.specs.RegisterLines.{register_form}
use Rattle.verilog_forms.specs.MemoryLines.{memory_form}
use Rattle.verilog_forms.specs.Headers.{is_next, header_form}
use Rattle.verilog_forms.specs.InputLines.{input_form}
use Rattle.verilog_forms.specs.ClockedLines.{clock_form, write_form, none_clocked_form, assign_form}

abbrev pub begins : List ℕ → List ℕ → Bool
begins [] text = true
begins (c ∷ cs) [] = false
begins (c ∷ cs) (b ∷ bs) = b == c && begins cs bs

abbrev pub is_wire_line : List ℕ → Bool
is_wire_line text = begins (codes "  w") text

abbrev pub is_reg_line : List ℕ → Bool
is_reg_line text = begins (codes "  r") text

abbrev pub is_net_line : List ℕ → Bool
is_net_line text = is_wire_line text || is_reg_line text

abbrev pub behind_hole : List ℕ → List ℕ
behind_hole text = drop (prefix_len is_hole_byte text) text

-- the first letter of the name that a `reg` line has
abbrev pub named_letter : List ℕ → Option ℕ
named_letter text = next (drop (length (codes ":0] ")) (behind_hole (drop (length (codes "  reg [")) text)))

abbrev pub is_memory_line : List ℕ → Bool
is_memory_line text = is_reg_line text && is_next (codes "m") (named_letter text)

-- one, and the others behind it
abbrev pub listed : {X : Type 0} → Form X → Form (List X) → Form (List X)
listed one others = followed one (λ x. followed others (λ xs. Form.whole (x ∷ xs)))

abbrev pub told : {X Y : Type 0} → Form X → (X → Y) → Form Y
told form make = followed form (λ x. Form.whole (make x))

-- a memory behind the last that a module may have
abbrev pub late_memory_form : Form (List Memory)
late_memory_form = fixed (codes "  reg ") (range_form (λ w. fixed (codes " m") (Form.refuse Spelling)))

-- the lines of so many memories at most, from memory m on
abbrev pub memories_form : ℕ → ℕ → Form (List Memory)
memories_form zero m = Form.ahead (λ text. if is_memory_line text then late_memory_form else Form.whole [])
memories_form (suc few) m =
    Form.ahead (λ text. if is_memory_line text then listed (memory_form m) (memories_form few (m + 1)) else Form.whole [])

-- the line of net n, where a module has room for it
abbrev pub room_form : {A : Type 0} → ℕ → Form A → Form A
room_form n form = Form.ahead (λ text. if is_net_line text && not (nat_lt n (2 ^ 20)) then Form.refuse TooManyNets else form)

-- the lines of the inputs among the ports from port k on, as nets from net n on
abbrev pub inputs_form : ℕ → ℕ → List PortLine → Form (List Line)
inputs_form n k [] = Form.whole []
inputs_form n k (port ∷ ports) =
    if port.output then inputs_form n (k + 1) ports
    else room_form n (listed (input_form n k port) (inputs_form (n + 1) (k + 1) ports))

-- the lines of so many nets at most behind these, each a wire's or a register's
abbrev pub nets_form : ℕ → List Memory → List Line → Form (List Line)
nets_form zero memories lines = Form.ahead (λ text. if is_net_line text then Form.refuse TooManyNets else Form.whole lines)
nets_form (suc few) memories lines = Form.ahead (λ text.
    if is_wire_line text
    then followed (wire_form memories lines (length lines)) (λ line. nets_form few memories (lines ++ line ∷ []))
    else if is_reg_line text then followed (register_form (length lines)) (λ line. nets_form few memories (lines ++ line ∷ []))
    else Form.whole lines)

-- the net with what its clocked line tells, if it is a register
abbrev pub clocked_form : List Memory → List Line → ℕ → Line → Form Line
clocked_form memories lines n line = if is_register line.equation then clock_form memories lines n line.width else Form.whole line

-- the clocked lines of the registers among the nets from net n on
abbrev pub all_clocked_form : List Memory → List Line → ℕ → List Line → Form (List Line)
all_clocked_form memories lines n [] = Form.whole []
all_clocked_form memories lines n (line ∷ others) =
    listed (clocked_form memories lines n line) (all_clocked_form memories lines (n + 1) others)

abbrev pub written : Memory → MemWrite → Memory
written memory write = record memory { write = Some write }

-- the clocked lines of the memories from memory m on
abbrev pub all_written_form : List Memory → List Line → ℕ → List Memory → Form (List Memory)
all_written_form memories lines m [] = Form.whole []
all_written_form memories lines m (memory ∷ others) =
    listed (told (write_form memories lines m memory) (written memory)) (all_written_form memories lines (m + 1) others)

abbrev pub driven : ℕ → Option ℕ
driven net = Some net

-- the lines of the outputs among these ports, behind another output's or not
abbrev pub all_driven_form : List Memory → List Line → Bool → List PortLine → Form (List (Option ℕ))
all_driven_form memories lines assigned [] = Form.whole []
all_driven_form memories lines assigned (port ∷ ports) =
    if port.output
    then listed (told (assign_form memories lines assigned port) driven) (all_driven_form memories lines true ports)
    else listed (Form.whole None) (all_driven_form memories lines assigned ports)

-- behind the last line the text ends
abbrev pub nothing_form : {A : Type 0} → A → Option ℕ → Form A
nothing_form a None = Form.whole a
nothing_form a (Some b) = Form.refuse AfterEnd

-- The last line. Another output's line is refused at its name.
abbrev pub last_form : {A : Type 0} → List Memory → List Line → Bool → A → Form A
last_form memories lines assigned a =
    Form.turn (λ b. if is_next (codes " ") b
    then fixed (codes "  a")
    (Form.turn (none_clocked_form memories lines assigned (fixed (codes "ssign ") (Form.refuse Name))))
    else fixed (codes "endmodule\n") (Form.turn (nothing_form a)))

abbrev pub has_output : List PortLine → Bool
has_output ports = list_any (λ (port : PortLine). port.output) ports

-- what stands behind the nets of a module with this header
abbrev pub behind_nets_form : Netlist → List Memory → List Line → Form Netlist
behind_nets_form header memories lines =
    followed
    (all_clocked_form memories lines 0 lines) (λ clocked. followed
    (all_written_form memories lines 0 memories) (λ stored. followed
    (all_driven_form memories lines false header.ports) (λ drivers.
    last_form memories lines (has_output header.ports)
    (record header { lines = clocked; drivers = drivers; memories = stored }))))

-- the text of a module
abbrev pub module_form : Form Netlist
module_form =
    followed header_form (λ header. followed
    (memories_form (2 ^ 16) 0) (λ memories. followed (inputs_form 0 0 header.ports) (λ inputs.
    followed (nets_form (2 ^ 20 - length inputs) memories inputs) (λ lines. behind_nets_form header memories lines))))

-- the text of a module up to the lines of its nets
abbrev pub declared_text : Netlist → List ℕ
declared_text one = header_text one ++ memories_text 0 one.memories ++ nets_text one.ports 0 one.lines
