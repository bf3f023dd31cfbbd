-- A module's text tells the module.
use Rattle.std.proofs.Common.{◌≡◌, ℕ, suc, ◌+◌, ◌<◌, ◌≤◌, ◌^◌, Bool, true, false, List, [], ◌∷◌, ◌++◌, length, slice_get, Option, Some, None, refl, sym, ap, subst, ◌∙◌, arith, codes, append_assoc}
use Rattle.std.specs.Prelude.{slice_index_or, IfSome, IsSome}
use Rattle.std.specs.List.{list_all}
use Rattle.std.proofs.lemmas.List.{append_cancel_left}
use Rattle.std.proofs.lemmas.Option.{slice_get_within}
use Rattle.netlist.specs.declared.line.Equation.{Equation}
use Rattle.netlist.specs.declared.line.Equation.TheVariants.{Input, Constant, And, Or, Xor, Add, Sub, Eq, Less, Concat, Not, Any, Mux, Slice, Reg, Read}
use Rattle.netlist.specs.declared.line.Line.{Line}
use Rattle.netlist.specs.declared.line.PortLine.{PortLine}
use Rattle.netlist.specs.declared.line.Memory.{Memory}
use Rattle.netlist.specs.declared.line.MemWrite.{MemWrite}
use Rattle.netlist.specs.Netlists.{Netlist, IsModule, IsWellMade, IsSound, IsOperand, AreOperands, IsWriteOf, width_at, driver_of, is_input, input_lines, next_in}
use Rattle.netlist.specs.Names.{IsPortName, is_name_byte}
use Rattle.std.proofs.lemmas.Bool.{and_parts}
use Rattle.verilog_writer.specs.Text.{text_of, ports_text, memories_text, nets_text, clocked_text, writes_text, assigns_text, net_name, constant_text, memory_name, clocked_line, written_line, assign_line}
use Rattle.verilog_forms.proofs.Nets.{all-slice_get, width_at-line}
use Rattle.verilog_forms.proofs.Cuts.{cut}
use Rattle.verilog_forms.proofs.Rights.{Small}
use Rattle.verilog_forms.proofs.Lines.{Kind, Sound, Each, Pairs, AgreeOnInputs, begins_net, nets_tell, clocked_tell, clock_parts}
use Rattle.verilog_forms.specs.Spellings.{true_false}
use Rattle.verilog_forms.proofs.Memories.{EachMemory, no_memory_in_nets, memories_tell, writes_tell, write_parts}
use Rattle.verilog_forms.proofs.Headers.{EachPort, AllDriven, Driven, name_byte, ports_tell, assigns_tell, assign_parts}

-- behind the nets no line of a net begins

clocked_stop : (n : ℕ) (e : Equation) (r : List ℕ) → begins_net r ≡ false → begins_net (clocked_line n e ++ r) ≡ false
clocked_stop n (Reg reset next) r h =
    ap begins_net (clock_parts (codes "  always @(posedge clk) if (reset) ") (net_name n) (codes " <= ") (constant_text reset.width reset.bits) (codes "; else ") (net_name n) (codes " <= ") (net_name next) (codes ";\n") r)
clocked_stop n _ r h = h

all_clocked_stop : (n : ℕ) (lines : List Line) (r : List ℕ) → begins_net r ≡ false → begins_net (clocked_text n lines ++ r) ≡ false
all_clocked_stop n [] r h = h
all_clocked_stop n (line ∷ lines) r h =
    ap begins_net (append_assoc (clocked_line n line.equation) (clocked_text (n + 1) lines) r) ∙ clocked_stop n line.equation (clocked_text (n + 1) lines ++ r) (all_clocked_stop (n + 1) lines r h)

written_stop : (m : ℕ) (write : Option MemWrite) (r : List ℕ) → begins_net r ≡ false → begins_net (written_line m write ++ r) ≡ false
written_stop m None r h = h
written_stop m (Some x) r h =
    ap begins_net (write_parts (codes "  always @(posedge clk) if (") (net_name x.enable) (codes ") ") (memory_name m) (codes "[") (net_name x.address) (codes "] <= ") (net_name x.word) (codes ";\n") r)

all_written_stop : (m : ℕ) (memories : List Memory) (r : List ℕ) → begins_net r ≡ false → begins_net (writes_text m memories ++ r) ≡ false
all_written_stop m [] r h = h
all_written_stop m (memory ∷ memories) r h =
    ap begins_net (append_assoc (written_line m memory.write) (writes_text (m + 1) memories) r) ∙ written_stop m memory.write (writes_text (m + 1) memories ++ r) (all_written_stop (m + 1) memories r h)

assign_stop_as : (port : PortLine) (n : ℕ) (b : Bool) (r : List ℕ) → port.output ≡ b → begins_net r ≡ false → begins_net (assign_line port (Some n) ++ r) ≡ false
assign_stop_as port n true r is h = rw is (ap begins_net (assign_parts (codes "  assign ") port.name (codes " = ") (net_name n) (codes ";\n") r))
assign_stop_as port n false r is h = rw is h

assign_stop : (port : PortLine) (driver : Option ℕ) (r : List ℕ) → begins_net r ≡ false → begins_net (assign_line port driver ++ r) ≡ false
assign_stop port None r h = h
assign_stop port (Some n) r h = assign_stop_as port n port.output r refl h

all_assigns_stop : (ports : List PortLine) (drivers : List (Option ℕ)) (r : List ℕ) → begins_net r ≡ false → begins_net (assigns_text ports drivers ++ r) ≡ false
all_assigns_stop [] drivers r h = h
all_assigns_stop (port ∷ ports) [] r h = h
all_assigns_stop (port ∷ ports) (driver ∷ drivers) r h =
    ap begins_net (append_assoc (assign_line port driver) (assigns_text ports drivers) r) ∙ assign_stop port driver (assigns_text ports drivers ++ r) (all_assigns_stop ports drivers r h)

-- what a module keeps

below_len : (lines : List Line) (a w : ℕ) → length lines ≤ 2 ^ 20 → width_at lines a ≡ Some w → a < 2 ^ 64
below_len lines a w few e =
    let found = width_at-line lines a w e in
    let inside = slice_get_within lines a found.0 found.1 in
    omega (arith, inside, few)

small_at : (one : Netlist) → IsWellMade one → (a w : ℕ) → width_at one.lines a ≡ Some w → w ≤ 128
small_at one h a w e =
    let found = width_at-line one.lines a w e in
    let line = h.lines a found.0 found.1 in
    omega (arith, line.small, found.2)

one_small : (lines : List Line) (n a w : ℕ) → length lines ≤ 2 ^ 20 → IsOperand lines n a w → a < 2 ^ 64
one_small lines n a w few o = below_len lines a w few o.width

both_small : (lines : List Line) (n a b w : ℕ) → length lines ≤ 2 ^ 20 → AreOperands lines n a b w → Small a b
both_small lines n a b w few o = record { left = one_small lines n a w few o.left; right = one_small lines n b w few o.right }

kind_of : (one : Netlist) (n w : ℕ) (e : Equation) → IsWellMade one → IsSound one.ports one.memories one.lines n w e → IfSome (next_in e) (λ m. width_at one.lines m ≡ Some w) → Kind w e
kind_of one n w (Input port) h s next = Kind.of_input refl
kind_of one n w (Constant value) h s next = Kind.of_net refl s.word
kind_of one n w (And a b) h s next = Kind.of_net refl (both_small one.lines n a b w h.few s)
kind_of one n w (Or a b) h s next = Kind.of_net refl (both_small one.lines n a b w h.few s)
kind_of one n w (Xor a b) h s next = Kind.of_net refl (both_small one.lines n a b w h.few s)
kind_of one n w (Add a b) h s next = Kind.of_net refl (both_small one.lines n a b w h.few s)
kind_of one n w (Sub a b) h s next = Kind.of_net refl (both_small one.lines n a b w h.few s)
kind_of one n w (Eq a b) h s next = Kind.of_net refl (both_small one.lines n a b s.width h.few s.operands)
kind_of one n w (Less a b) h s next = Kind.of_net refl (both_small one.lines n a b s.width h.few s.operands)
kind_of one n w (Concat a b) h s next = Kind.of_net refl (record { left = one_small one.lines n a s.high_width h.few s.high; right = one_small one.lines n b s.low_width h.few s.low })
kind_of one n w (Not a) h s next = Kind.of_net refl (one_small one.lines n a w h.few s)
kind_of one n w (Any a) h s next = Kind.of_net refl (one_small one.lines n a s.width h.few s.operand)
kind_of one n w (Mux t a b) h s next =
    let branches = both_small one.lines n a b w h.few s.branches in
    Kind.of_net refl (record { left = one_small one.lines n t 1 h.few s.test; middle = branches.left; right = branches.right })
kind_of one n w (Slice a high low) h s next =
    let small = small_at one h a s.width s.operand.width in
    let top : high < 2 ^ 64 = omega (arith, small, s.inside) in
    let bottom : low < 2 ^ 64 = omega (arith, top, s.order) in
    Kind.of_net refl (record { left = one_small one.lines n a s.width h.few s.operand; middle = top; right = bottom })
kind_of one n w (Reg reset next) h s is = Kind.of_register reset next refl s.word (below_len one.lines next w h.few is)
kind_of one n w (Read m a) h s next =
    let inside = slice_get_within one.memories m s.memory s.is in
    Kind.of_net refl (record { left = omega (arith, inside, h.few_memories); right = one_small one.lines n a s.memory.address_bits h.few s.address })

pub still_as : (one : Netlist) (k : ℕ) (line : Line) → IsModule one → slice_get one.lines k ≡ Some line → (b : Bool) → line.waits ≡ b → line.waits ≡ false
still_as one k line h at true is = absurd (h.clocked k (record { line = line; is = at; waits = is }))
still_as one k line h at false is = is

pub sound_lines : (one : Netlist) → IsModule one → Each Sound one.lines
sound_lines one h k line at =
    let s = h.well_made.lines k line at in
    let still = still_as one k line h at line.waits refl in
    let next : IfSome (next_in line.equation) (λ m. width_at one.lines m ≡ Some line.width) = rw still at s.next in
    record { some_bit = s.some_bit; small = s.small; still = still; kind = kind_of one k line.width line.equation h.well_made s.equation next }

pub write_as : (one : Netlist) (k : ℕ) (memory : Memory) → IsModule one → slice_get one.memories k ≡ Some memory → (write : Option MemWrite) → memory.write ≡ write → (x : MemWrite) × (memory.write ≡ Some x)
write_as one k memory h at None is = absurd (h.written k (record { memory = memory; is = at; waits = is }))
write_as one k memory h at (Some x) is = (x, is)

pub whole_memories : (one : Netlist) → IsModule one → EachMemory one.memories
whole_memories one h k memory at =
    let s = h.well_made.memories k memory at in
    let write = write_as one k memory h at memory.write refl in
    let nets : IfSome (Some write.0) (λ x. IsWriteOf one.lines memory x) = subst (λ (o : Option MemWrite). IfSome o (λ x. IsWriteOf one.lines memory x)) write.1 s.write in
    record {
      write = write.0;
      is = write.1;
      enable = below_len one.lines write.0.enable 1 h.well_made.few nets.enable;
      address = below_len one.lines write.0.address memory.address_bits h.well_made.few nets.address;
      word = below_len one.lines write.0.word memory.width h.well_made.few nets.word;
      some_bit = s.some_bit;
      small = s.small;
      some_address = s.some_address;
      few = s.few_addresses;
    }

pub good_ports : (one : Netlist) → IsModule one → EachPort one.ports
good_ports one h k port at =
    let header = h.well_made.header in
    let name = all-slice_get (λ (p : PortLine). IsPortName p.name) one.ports k port header.port_names at in
    let width = all-slice_get (λ (p : PortLine). (1 ≤ p.width) × (p.width ≤ 128)) one.ports k port header.widths at in
    record { name = name.bytes; some_bit = width.0; small = width.1 }

pub same_port : (p q : PortLine) → Some p ≡ Some q → p ≡ q
same_port p q e = cc

driver_as : (one : Netlist) (k : ℕ) (port : PortLine) → IsModule one → slice_get one.ports k ≡ Some port → (driver : Option ℕ) → driver_of one k ≡ driver → (b : Bool) → port.output ≡ b → Driven port (driver_of one k)
driver_as one k port h at None is true out =
    let some : IsSome (driver_of one k) = h.driven k port.width (record { port = port; is = at; output = out; width = refl }) in
    absurd (true_false (sym (rw is at some)))
driver_as one k port h at None is false out = Driven.by_none out is
driver_as one k port h at (Some n) is b out =
    let d = h.well_made.drivers k n is in
    let same : d.port.port ≡ port = same_port d.port.port port (sym d.port.is ∙ at) in
    Driven.by_net n (ap (λ (p : PortLine). p.output) (sym same) ∙ d.port.output) is (below_len one.lines n d.width h.well_made.few d.net)

drivers_as : (ports : List PortLine) (drivers : List (Option ℕ)) → length drivers ≡ length ports → ((k : ℕ) (port : PortLine) → slice_get ports k ≡ Some port → Driven port (slice_index_or drivers k None)) → AllDriven ports drivers
drivers_as [] [] e h = tt
drivers_as [] (d ∷ ds) e h = absurd (omega (arith, e))
drivers_as (p ∷ ps) [] e h = absurd (omega (arith, e))
drivers_as (p ∷ ps) (d ∷ ds) e h =
    let shorter : length ds ≡ length ps = omega (arith, e) in
    (h 0 p refl, drivers_as ps ds shorter (λ k port at. h (suc k) port at))

pub all_driven : (one : Netlist) → IsModule one → AllDriven one.ports one.drivers
all_driven one h = drivers_as one.ports one.drivers h.well_made.places (λ k port at. driver_as one k port h at (driver_of one k) refl port.output refl)

same_line : (a b : Line) → Some a ≡ Some b → a ≡ b
same_line a b e = cc

pub agree_on_inputs : (one other : Netlist) → IsModule one → IsModule other → one.ports ≡ other.ports → Pairs AgreeOnInputs one.lines other.lines
agree_on_inputs one other h h' same k a b at at' =
    let left = λ (i : is_input a.equation ≡ true).
    (let here = h.well_made.inputs.no_others k a at i in
    let there = h'.well_made.inputs.first k a (ap (λ (ps : List PortLine). slice_get (input_lines 0 ps) k) (sym same) ∙ here) in
    same_line a b (sym there ∙ at')) in
    let right = λ (i : is_input b.equation ≡ true).
    (let there = h'.well_made.inputs.no_others k b at' i in
    let here = h.well_made.inputs.first k b (ap (λ (ps : List PortLine). slice_get (input_lines 0 ps) k) same ∙ there) in
    same_line a b (sym at ∙ here)) in
    (left, right)

-- the text in its parts

module_parts : (h1 name h2 ports h3 m n c w a z : List ℕ) → (h1 ++ name ++ h2 ++ ports ++ h3) ++ m ++ n ++ c ++ w ++ a ++ z ≡ h1 ++ (name ++ (h2 ++ (ports ++ (h3 ++ (m ++ (n ++ (c ++ (w ++ (a ++ z)))))))))
module_parts h1 name h2 ports h3 m n c w a z = simp append_assoc

abbrev behind_writes : Netlist → List ℕ
behind_writes one = assigns_text one.ports one.drivers ++ codes "endmodule\n"

abbrev behind_clocked : Netlist → List ℕ
behind_clocked one = writes_text 0 one.memories ++ behind_writes one

abbrev pub behind_nets : Netlist → List ℕ
behind_nets one = clocked_text 0 one.lines ++ behind_clocked one

abbrev behind_memories : Netlist → List ℕ
behind_memories one = nets_text one.ports 0 one.lines ++ behind_nets one

abbrev behind_header : Netlist → List ℕ
behind_header one = memories_text 0 one.memories ++ behind_memories one

text_shape : (one : Netlist)
    → text_of one ≡ codes "module " ++ (one.name ++ (codes " (\n  input wire clk,\n  input wire reset" ++ (ports_text one.ports ++ (codes "\n);\n" ++ behind_header one))))
text_shape one =
    module_parts (codes "module ") one.name (codes " (\n  input wire clk,\n  input wire reset") (ports_text one.ports) (codes "\n);\n") (memories_text 0 one.memories) (nets_text one.ports 0 one.lines)
    (clocked_text 0 one.lines) (writes_text 0 one.memories) (assigns_text one.ports one.drivers) (codes "endmodule\n")

pub nets_stop : (one : Netlist) → begins_net (behind_nets one) ≡ false
nets_stop one = all_clocked_stop 0 one.lines (behind_clocked one) (all_written_stop 0 one.memories (behind_writes one) (all_assigns_stop one.ports one.drivers (codes "endmodule\n") refl))

pub name_bytes : (name : List ℕ) → list_all is_name_byte name ≡ true → list_all name_byte name ≡ true
name_bytes [] h = refl
name_bytes (b ∷ bs) h =
    let parts = and_parts (is_name_byte b) (list_all is_name_byte bs) h in
    rw (parts.0, name_bytes bs parts.1) refl

good_name : (one : Netlist) → IsModule one → list_all name_byte one.name ≡ true
good_name one h = name_bytes one.name h.well_made.header.module_name.bytes

netlist_is : (one other : Netlist) → one.name ≡ other.name → one.ports ≡ other.ports → one.lines ≡ other.lines → one.drivers ≡ other.drivers → one.memories ≡ other.memories → one ≡ other
netlist_is one other a b c d e =
    let make = λ (n : List ℕ) (ps : List PortLine) (ls : List Line) (ds : List (Option ℕ)) (ms : List Memory). (let it : Netlist = record { name = n; ports = ps; lines = ls; drivers = ds; memories = ms } in it) in
    ap (λ (n : List ℕ). make n one.ports one.lines one.drivers one.memories) a
    ∙ ap (λ (ps : List PortLine). make other.name ps one.lines one.drivers one.memories) b
    ∙ ap (λ (ls : List Line). make other.name other.ports ls one.drivers one.memories) c
    ∙ ap (λ (ds : List (Option ℕ)). make other.name other.ports other.lines ds one.memories) d
    ∙ ap (λ (ms : List Memory). make other.name other.ports other.lines other.drivers ms) e

pub one_module : (one other : Netlist) → IsModule one → IsModule other → text_of one ≡ text_of other → one ≡ other
one_module one other h h' e =
    let name = cut name_byte one.name other.name _ _ (good_name one h) (good_name other h') refl refl (append_cancel_left (codes "module ") _ _ (sym (text_shape one) ∙ e ∙ text_shape other)) in
    let ports = ports_tell one.ports other.ports (codes ");\n" ++ behind_header one) (codes ");\n" ++ behind_header other) (good_ports one h) (good_ports other h')
    (append_cancel_left (codes " (\n  input wire clk,\n  input wire reset") _ _ name.rest) in
    let memories = memories_tell 0 one.memories other.memories (behind_memories one) (behind_memories other) (whole_memories one h) (whole_memories other h')
    (no_memory_in_nets one.ports 0 one.lines (behind_nets one) (sound_lines one h) (nets_stop one))
    (no_memory_in_nets other.ports 0 other.lines (behind_nets other) (sound_lines other h') (nets_stop other))
    (append_cancel_left (codes ");\n") _ _ ports.rest) in
    let nets = nets_tell one.ports 0 one.lines other.lines (behind_nets one) (behind_nets other) (sound_lines one h) (sound_lines other h') (agree_on_inputs one other h h' ports.what) (nets_stop one) (nets_stop other)
    (memories.rest ∙ ap (λ (ps : List PortLine). nets_text ps 0 other.lines ++ behind_nets other) (sym ports.what)) in
    let clocked = clocked_tell 0 one.lines other.lines (behind_clocked one) (behind_clocked other) nets.what nets.rest in
    let writes = writes_tell 0 one.memories other.memories (behind_writes one) (behind_writes other) (whole_memories one h) (whole_memories other h') memories.what clocked.rest in
    let driven : AllDriven one.ports other.drivers = rw ports.what (all_driven other h') in
    let assigns = assigns_tell one.ports one.drivers other.drivers (codes "endmodule\n") (codes "endmodule\n") (all_driven one h) driven
    (writes.rest ∙ ap (λ (ps : List PortLine). assigns_text ps other.drivers ++ codes "endmodule\n") (sym ports.what)) in
    netlist_is one other name.run ports.what clocked.what assigns.what writes.what
