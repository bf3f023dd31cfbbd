-- The whole text of a module is read.
use Rattle.std.proofs.Common.{◌≡◌, ℕ, zero, suc, ◌+◌, ◌-◌, ◌<◌, ◌≤◌, ◌^◌, Bool, true, false, List, [], ◌∷◌, ◌++◌, length, slice_get, Option, Some, None, refl, sym, ap, subst, ◌∙◌, arith, codes, append_assoc, length-append}
use Rattle.std.specs.Prelude.{if◌then◌else◌, IfSome, IsSome, slice_index_or}
use Rattle.std.proofs.lemmas.List.{append-nil}
use Rattle.std.proofs.lemmas.Option.{slice_get_within}
use Rattle.netlist.specs.Names.{IsPortName}
use Rattle.netlist.specs.declared.line.Equation.{Equation}
use Rattle.netlist.specs.declared.line.Equation.TheVariants.{Input, Reg}
use Rattle.netlist.specs.declared.line.Line.{Line}
use Rattle.netlist.specs.declared.line.Memory.{Memory}
use Rattle.netlist.specs.declared.line.MemWrite.{MemWrite}
use Rattle.netlist.specs.declared.line.PortLine.{PortLine}
use Rattle.netlist.specs.Netlists.{Netlist, IsModule, IsSoundLine, IsWriteOf, width_at, driver_of, is_input, is_register, input_lines, line_of, started}
use Rattle.verilog_writer.specs.Text.{text_of, header_text, memories_text, nets_text, net_line, clocked_text, writes_text, assigns_text}
use Rattle.verilog_forms.specs.Forms.{Form, followed, Due, Reads}
use Rattle.verilog_forms.specs.RegisterLines.{untold}
use Rattle.verilog_forms.specs.WireLines.{IsWire}
use Rattle.verilog_forms.specs.Headers.{header_form}
use Rattle.verilog_forms.specs.WholeTexts.{is_memory_line, memories_form, inputs_form, nets_form, all_clocked_form, all_written_form, all_driven_form, last_form, has_output, behind_nets_form, module_form}
use Rattle.verilog_forms.proofs.Nets.{slice_get-middle, all-slice_get}
use Rattle.verilog_forms.specs.Spellings.{true_false}
use Rattle.verilog_forms.proofs.Lines.{Kind, line_is, begins_net}
use Rattle.verilog_forms.proofs.Texts.{sound_lines, still_as, same_port, write_as, behind_nets, nets_stop}
use Rattle.verilog_forms.proofs.PortLines.{header_due, pushed_same}
use Rattle.verilog_forms.proofs.Followed.{then_due}
use Rattle.verilog_forms.proofs.ModuleLines.{AllOf, all_of, some_same, none_same, no_net_ahead, no_memory_ahead, no_memory_line, bare_line, bare, blank, still_bare, bare_length, blank_length, width_same_as, bare_width, bare_at, at_bare, bare_text, nets_text-append, Agree, sound_moved, to_blank}
use Rattle.verilog_forms.proofs.ModuleReads.{Sized, memories_due, GoodPort, inputs_due, NetLine, AreNets, IsSmall, length-more, nets_due, Clocked, AllClocked, all_clocked_due, Stored, all_written_due, Drives, AllDrive, all_driven_due, last_due}

pub from_zero : (n : ℕ) → 0 + n ≡ n
from_zero n = omega arith

-- the lines of inputs

pub record InputAt (ports : List PortLine) (k : ℕ) (line : Line) : Type 0 where
  pub place : ℕ
  pub port : PortLine
  pub is : slice_get ports place ≡ Some port
  pub input : port.output ≡ false
  pub spelled : line ≡ line_of port.width (Input (k + place))

later_input : (port : PortLine) (ports : List PortLine) (k : ℕ) (line : Line) → InputAt ports (k + 1) line → InputAt (port ∷ ports) k line
later_input port ports k line at =
    let there : (k + 1) + at.place ≡ k + suc at.place = omega arith in
    record { place = suc at.place; port = at.port; is = at.is; input = at.input; spelled = at.spelled ∙ ap (λ (j : ℕ). line_of at.port.width (Input j)) there }

input_at_as : (k : ℕ) (port : PortLine) (ports : List PortLine) (n : ℕ) (line : Line) (b : Bool) → port.output ≡ b → ((m : ℕ) → slice_get (input_lines (k + 1) ports) m ≡ Some line → InputAt ports (k + 1) line)
    → slice_get (if b then input_lines (k + 1) ports else line_of port.width (Input k) ∷ input_lines (k + 1) ports) n ≡ Some line → InputAt (port ∷ ports) k line
input_at_as k port ports n line true out later e = later_input port ports k line (later n e)
input_at_as k port ports zero line false out later e =
    let here : k ≡ k + 0 = omega arith in
    record { place = 0; port = port; is = refl; input = out; spelled = sym (some_same _ line e) ∙ ap (λ (j : ℕ). line_of port.width (Input j)) here }
input_at_as k port ports (suc n) line false out later e = later_input port ports k line (later n e)

pub input_at : (k : ℕ) (ports : List PortLine) (n : ℕ) (line : Line) → slice_get (input_lines k ports) n ≡ Some line → InputAt ports k line
input_at k [] n line e = none_same line e
input_at k (port ∷ ports) n line e = input_at_as k port ports n line port.output refl (λ m f. input_at (k + 1) ports m line f) e

pub input_still : (ports : List PortLine) (n : ℕ) (line : Line) → slice_get (input_lines 0 ports) n ≡ Some line → is_register line.equation ≡ false
input_still ports n line e = let at = input_at 0 ports n line e in ap (λ (l : Line). is_register l.equation) at.spelled

split_prefix : {X : Type 0} (xs ys : List X) → ((n : ℕ) (x : X) → slice_get xs n ≡ Some x → slice_get ys n ≡ Some x) → (zs : List X) × (ys ≡ xs ++ zs)
split_prefix [] ys begins = (ys, refl)
split_prefix (x ∷ xs) [] begins = none_same x (begins 0 x refl)
split_prefix {X} (x ∷ xs) (y ∷ ys) begins =
    let more = split_prefix xs ys (λ n z e. begins (suc n) z e) in
    let same : y ≡ x = some_same y x (begins 0 x refl) in
    (more.0, ap (λ (z : X). z ∷ ys) same ∙ ap (λ (zs : List X). x ∷ zs) more.1)

-- the nets of a module behind its inputs
pub record Behinds (one : Netlist) : Type 0 where
  pub todo : List Line
  pub is : bare 0 one.lines ≡ input_lines 0 one.ports ++ todo

pub behinds : (one : Netlist) → IsModule one → Behinds one
behinds one is =
    let split = split_prefix (input_lines 0 one.ports) (bare 0 one.lines) (λ n line e. (
    let at = at_bare 0 one.lines n line (is.well_made.inputs.first n line e) in
    let still = still_bare (0 + n) line (input_still one.ports n line e) in
    at ∙ ap (λ (l : Line). Some l) still
    )) in
    record { todo = split.0; is = split.1 }

pub width_left : (done others : List Line) (a : ℕ) → a < length done → width_at (done ++ others) a ≡ width_at done a
width_left [] others a h = absurd (omega (arith, h))
width_left (x ∷ done) others zero h = refl
width_left (x ∷ done) others (suc a) h = width_left done others a (omega (arith, h))

within_inputs : (one : Netlist) (n : ℕ) (line : Line) (b : Bool) → IsModule one → slice_get one.lines n ≡ Some line → length (input_lines 0 one.ports) ≤ n → is_input line.equation ≡ b → is_input line.equation ≡ false
within_inputs one n line true is at past e =
    let inside = slice_get_within (input_lines 0 one.ports) n line (is.well_made.inputs.no_others n line at e) in
    absurd (omega (arith, inside, past))
within_inputs one n line false is at past e = e

net_line_as : (one : Netlist) (done others : List Line) (line x : Line) (b : Bool) → IsModule one → bare 0 one.lines ≡ done ++ others → slice_get one.lines (length done) ≡ Some line → bare_line (length done) line ≡ x
    → length (input_lines 0 one.ports) ≤ length done → is_register line.equation ≡ b → NetLine one.ports (blank one.memories) done x
net_line_as one done others line x true is all at same past e =
    let s = is.well_made.lines (length done) line at in
    let untold_is : bare_line (length done) line ≡ untold (length done) line.width = rw e refl in
    NetLine.register line.width s.some_bit s.small (sym same ∙ untold_is)
net_line_as one done others line x false is all at same past e =
    let n = length done in
    let s = is.well_made.lines n line at in
    let agree : Agree one.lines done n = λ a w below width. (sym (width_left done others a below) ∙ ap (λ (ls : List Line). width_at ls a) (sym all) ∙ bare_width 0 one.lines a ∙ width) in
    let moved = sound_moved one.ports one.memories (blank one.memories) one.lines done n line.width line.equation agree (to_blank one.memories) s.equation in
    let wire : IsWire one.ports (blank one.memories) done n line = record {
      some_bit = s.some_bit;
      small = s.small;
      right = record { sound = moved; no_input = within_inputs one n line (is_input line.equation) is at past refl; no_register = e };
      complete = still_as one n line is at line.waits refl;
    } in
    subst (NetLine one.ports (blank one.memories) done) (sym (still_bare n line e) ∙ same) (NetLine.wire wire)

pub are_nets : (one : Netlist) (done todo : List Line) → IsModule one → bare 0 one.lines ≡ done ++ todo → length (input_lines 0 one.ports) ≤ length done → AreNets one.ports (blank one.memories) done todo
are_nets one done [] is all past = tt
are_nets one done (x ∷ xs) is all past =
    let n = length done in
    let found = bare_at 0 one.lines n x (ap (λ (ls : List Line). slice_get ls n) all ∙ slice_get-middle done x xs) in
    let same : bare_line n found.0 ≡ x = ap (λ (k : ℕ). bare_line k found.0) (sym (from_zero n)) ∙ found.2 in
    let longer : length (input_lines 0 one.ports) ≤ length (done ++ x ∷ []) = omega (arith, past, length-more done x) in
    (net_line_as one done (x ∷ xs) found.0 x (is_register found.0.equation) is all found.1 same past refl, are_nets one (done ++ x ∷ []) xs is (all ∙ sym (pushed_same done x xs)) longer)

pub small_bare : (one : Netlist) → IsModule one → AllOf IsSmall (bare 0 one.lines)
small_bare one is = all_of IsSmall (bare 0 one.lines) (λ k x e. (
    let found = bare_at 0 one.lines k x e in
    let small = (is.well_made.lines k found.0 found.1).small in
    let width : x.width ≡ found.0.width = sym (ap (λ (l : Line). l.width) found.2) ∙ width_same_as (0 + k) found.0 (is_register found.0.equation) refl in
    omega (arith, small, width)
    ))

pub all_apart : {X : Type 0} (P : X → Type 0) (xs ys : List X) → AllOf P (xs ++ ys) → AllOf P xs × AllOf P ys
all_apart P [] ys all = (tt, all)
all_apart P (x ∷ xs) ys all = let more = all_apart P xs ys all.1 in ((all.0, more.0), more.1)

-- the registers of a module are clocked

pub input_no_register : (e : Equation) → is_input e ≡ true → is_register e ≡ false
input_no_register (Input port) h = refl
input_no_register _ h = absurd (true_false (sym h))

clocked_as : (one : Netlist) (n : ℕ) (line : Line) → IsModule one → slice_get one.lines n ≡ Some line → Kind line.width line.equation → Clocked (bare 0 one.lines) n line
clocked_as one n line is at (Kind.of_input i) = Clocked.still (input_no_register line.equation i)
clocked_as one n line is at (Kind.of_net k plain) = Clocked.still k
clocked_as one n line is at (Kind.of_register reset next e word small) =
    let w = line.width in
    let whole = line_is line w (Reg reset next) (still_as one n line is at line.waits refl) refl e in
    let sound : IsSoundLine one.ports one.memories one.lines n (line_of w (Reg reset next)) = subst (IsSoundLine one.ports one.memories one.lines n) whole (is.well_made.lines n line at) in
    let inside = slice_get_within one.lines n line at in
    Clocked.register w reset next whole sound.equation (bare_width 0 one.lines next ∙ sound.next) (omega (arith, inside, bare_length 0 one.lines))

all_clocked : (one : Netlist) (n : ℕ) (todo : List Line) → IsModule one → ((k : ℕ) (line : Line) → slice_get todo k ≡ Some line → slice_get one.lines (n + k) ≡ Some line) → AllClocked (bare 0 one.lines) n todo
all_clocked one n [] is stand = tt
all_clocked one n (line ∷ others) is stand =
    let here : n + 0 ≡ n = omega arith in
    let at : slice_get one.lines n ≡ Some line = ap (slice_get one.lines) (sym here) ∙ stand 0 line refl in (
      clocked_as one n line is at (sound_lines one is n line at).kind,
      all_clocked one (n + 1) others is (λ k x e. (let there : (n + 1) + k ≡ n + suc k = omega arith in ap (slice_get one.lines) there ∙ stand (suc k) x e)),
    )

-- its memories are written and its outputs driven

stored : (one : Netlist) → IsModule one → AllOf (Stored (bare 0 one.lines)) one.memories
stored one is = all_of (Stored (bare 0 one.lines)) one.memories (λ m memory at. (
    let write = write_as one m memory is at memory.write refl in
    let good : IfSome (Some write.0) (λ x. IsWriteOf one.lines memory x) = subst (λ (o : Option MemWrite). IfSome o (λ x. IsWriteOf one.lines memory x)) write.1 (is.well_made.memories m memory at).write in
    record {
      write = write.0;
      is = write.1;
      good = record { enable = bare_width 0 one.lines write.0.enable ∙ good.enable; address = bare_width 0 one.lines write.0.address ∙ good.address; word = bare_width 0 one.lines write.0.word ∙ good.word };
    }
    ))

drives_as : (one : Netlist) (k : ℕ) (port : PortLine) → IsModule one → slice_get one.ports k ≡ Some port → (driver : Option ℕ) → driver_of one k ≡ driver → (b : Bool) → port.output ≡ b → Drives (bare 0 one.lines) port (driver_of one k)
drives_as one k port is at None e true out =
    let some : IsSome (driver_of one k) = is.driven k port.width (record { port = port; is = at; output = out; width = refl }) in
    absurd (true_false (sym (rw e at some)))
drives_as one k port is at None e false out = Drives.by_none out e
drives_as one k port is at (Some n) e b out =
    let d = is.well_made.drivers k n e in
    let same : d.port.port ≡ port = same_port d.port.port port (sym d.port.is ∙ at) in
    let width : d.width ≡ port.width = sym d.port.width ∙ ap (λ (p : PortLine). p.width) same in
    Drives.by_net n (ap (λ (p : PortLine). p.output) (sym same) ∙ d.port.output) e (bare_width 0 one.lines n ∙ d.net ∙ ap (λ (w : ℕ). Some w) width)

drive_each : (lines : List Line) (ports : List PortLine) (drivers : List (Option ℕ)) → length drivers ≡ length ports → ((k : ℕ) (port : PortLine) → slice_get ports k ≡ Some port → Drives lines port (slice_index_or drivers k None)) → AllDrive lines ports drivers
drive_each lines [] [] e h = tt
drive_each lines [] (d ∷ ds) e h = absurd (omega (arith, e))
drive_each lines (p ∷ ps) [] e h = absurd (omega (arith, e))
drive_each lines (p ∷ ps) (d ∷ ds) e h =
    let shorter : length ds ≡ length ps = omega (arith, e) in
    (h 0 p refl, drive_each lines ps ds shorter (λ k port at. h (suc k) port at))

all_drive : (one : Netlist) → IsModule one → AllDrive (bare 0 one.lines) one.ports one.drivers
all_drive one is = drive_each (bare 0 one.lines) one.ports one.drivers is.well_made.places (λ k port at. drives_as one k port is at (driver_of one k) refl port.output refl)

good_ports : (one : Netlist) → IsModule one → AllOf GoodPort one.ports
good_ports one is = all_of GoodPort one.ports (λ k port at. (
    let header = is.well_made.header in
    let width = all-slice_get (λ (p : PortLine). (1 ≤ p.width) × (p.width ≤ 128)) one.ports k port header.widths at in
    record { name = all-slice_get (λ (p : PortLine). IsPortName p.name) one.ports k port header.port_names at; some_bit = width.0; small = width.1 }
    ))

sized : (one : Netlist) → IsModule one → AllOf Sized one.memories
sized one is = all_of Sized one.memories (λ m memory at. (
    let s = is.well_made.memories m memory at in
    record { some_bit = s.some_bit; small = s.small; some_address = s.some_address; few_addresses = s.few_addresses }
    ))

-- the sections in a row

no_memory_in : (ports : List PortLine) (n : ℕ) (lines : List Line) (rest : List ℕ) → AllOf IsSmall lines → is_memory_line rest ≡ false → is_memory_line (nets_text ports n lines ++ rest) ≡ false
no_memory_in ports n [] rest small stop = stop
no_memory_in ports n (line ∷ lines) rest small stop =
    ap is_memory_line (append_assoc (net_line ports n line) (nets_text ports (n + 1) lines) rest) ∙ no_memory_line ports n line (nets_text ports (n + 1) lines ++ rest) small.0

behind_due : (one : Netlist) → IsModule one → Due (Form.whole one) [] (behind_nets_form (started one.name one.ports) (blank one.memories) (bare 0 one.lines)) (behind_nets one)
behind_due one is =
    let due = Form.whole one in
    let memories = blank one.memories in
    let lines = bare 0 one.lines in
    let fits : length lines ≤ 2 ^ 20 = omega (arith, is.well_made.few, bare_length 0 one.lines) in
    let few : length lines < 2 ^ 64 = omega (arith, fits) in
    let few_memories : length memories < 2 ^ 64 = omega (arith, is.well_made.few_memories, blank_length one.memories) in
    let make = λ (clocked : List Line) (kept : List Memory) (drivers : List (Option ℕ)). (let it : Netlist = record { name = one.name; ports = one.ports; lines = clocked; drivers = drivers; memories = kept } in it) in
    let last = λ (clocked : List Line) (kept : List Memory) (drivers : List (Option ℕ)). (last_form memories lines (has_output one.ports) (make clocked kept drivers)) in
    let assigns = λ (clocked : List Line) (kept : List Memory). (followed (all_driven_form memories lines false one.ports) (λ drivers. last clocked kept drivers)) in
    let writes = λ (clocked : List Line). (followed (all_written_form memories lines 0 memories) (λ kept. assigns clocked kept)) in
    let assigned = then_due (all_driven_form memories lines false one.ports) (λ drivers. last one.lines one.memories drivers) one.drivers due [] (assigns_text one.ports one.drivers) (codes "endmodule\n")
    (all_driven_due memories lines false one.ports one.drivers (codes "endmodule\n" ++ []) few (good_ports one is) (all_drive one is)) (last_due memories lines (has_output one.ports) one) in
    let behind_writes = assigns_text one.ports one.drivers ++ codes "endmodule\n" in
    let all_memories : 0 + length one.memories ≤ length memories = omega (arith, blank_length one.memories) in
    let written = then_due (all_written_form memories lines 0 memories) (λ kept. assigns one.lines kept) one.memories due [] (writes_text 0 one.memories) behind_writes
    (all_written_due memories lines 0 one.memories (behind_writes ++ []) few few_memories all_memories (stored one is)) assigned in
    let behind_clocked = writes_text 0 one.memories ++ behind_writes in
    let clocked = all_clocked one 0 one.lines is (λ k line e. (ap (slice_get one.lines) (from_zero k) ∙ e)) in
    then_due (all_clocked_form memories lines 0 lines) writes one.lines due [] (clocked_text 0 one.lines) behind_clocked (all_clocked_due memories lines 0 one.lines (behind_clocked ++ []) few clocked) written

pub whole_text : (h m i n c w a e : List ℕ) → h ++ (m ++ (i ++ (n ++ (c ++ (w ++ (a ++ e)))))) ≡ h ++ m ++ (i ++ n) ++ c ++ w ++ a ++ e
whole_text h m i n c w a e = simp append_assoc

pub nets_together : (one : Netlist) (todo : List Line) → bare 0 one.lines ≡ input_lines 0 one.ports ++ todo
    → nets_text one.ports 0 (input_lines 0 one.ports) ++ nets_text one.ports (length (input_lines 0 one.ports)) todo ≡ nets_text one.ports 0 one.lines
nets_together one todo is =
    let inputs = input_lines 0 one.ports in
    ap (λ (k : ℕ). nets_text one.ports 0 inputs ++ nets_text one.ports k todo) (sym (from_zero (length inputs))) ∙ sym (nets_text-append one.ports 0 inputs todo) ∙ ap (nets_text one.ports 0) (sym is) ∙ bare_text one.ports 0 one.lines

abbrev pub nets_behind : Netlist → List Memory → List Line → Form Netlist
nets_behind header memories inputs = followed (nets_form (2 ^ 20 - length inputs) memories inputs) (λ lines. behind_nets_form header memories lines)

abbrev pub inputs_behind : Netlist → List Memory → Form Netlist
inputs_behind header memories = followed (inputs_form 0 0 header.ports) (nets_behind header memories)

-- a module's text is good up to its inputs
pub declared_due : (one : Netlist) (due : Form Netlist) (rest back : List ℕ) → IsModule one → is_memory_line ((nets_text one.ports 0 (input_lines 0 one.ports) ++ back) ++ rest) ≡ false
    → Due due rest (nets_behind (started one.name one.ports) (blank one.memories) (input_lines 0 one.ports)) back
    → Due due rest module_form (header_text one ++ (memories_text 0 one.memories ++ (nets_text one.ports 0 (input_lines 0 one.ports) ++ back)))
declared_due one due rest back is no_memory nets =
    let ports = one.ports in
    let memories = blank one.memories in
    let inputs = input_lines 0 ports in
    let header = started one.name ports in
    let split = behinds one is in
    let counted : length inputs + length split.todo ≡ length one.lines = sym (length-append inputs split.todo) ∙ ap (λ (ls : List Line). length ls) (sym split.is) ∙ bare_length 0 one.lines in
    let input_fit : 0 + length inputs ≤ 2 ^ 20 = omega (arith, counted, is.well_made.few) in
    let listed = then_due (inputs_form 0 0 ports) (nets_behind header memories) inputs due rest (nets_text ports 0 inputs) back
    (inputs_due ports 0 0 ports (back ++ rest) (λ j port e. (ap (slice_get ports) (from_zero j) ∙ e)) (good_ports one is) input_fit) nets in
    let behind_memories = nets_text ports 0 inputs ++ back in
    let memories_fit : 0 + length one.memories ≤ 2 ^ 16 = omega (arith, is.well_made.few_memories) in
    let stored_due = then_due (memories_form (2 ^ 16) 0) (inputs_behind header) memories due rest (memories_text 0 one.memories) behind_memories
    (memories_due (2 ^ 16) 0 one.memories (behind_memories ++ rest) (sized one is) is.well_made.few_memories memories_fit no_memory) listed in
    let behind_header = memories_text 0 one.memories ++ behind_memories in
    then_due header_form (λ h. followed (memories_form (2 ^ 16) 0) (inputs_behind h)) header due rest (header_text header) behind_header (header_due one.name ports (behind_header ++ rest) is.well_made.header) stored_due

pub module_read : (one : Netlist) → IsModule one → Reads module_form (text_of one) one []
module_read one is =
    let due = Form.whole one in
    let ports = one.ports in
    let memories = blank one.memories in
    let inputs = input_lines 0 ports in
    let split = behinds one is in
    let todo = split.todo in
    let header = started one.name ports in
    let behind = behind_nets one in
    let counted : length inputs + length todo ≡ length one.lines = sym (length-append inputs todo) ∙ ap (λ (ls : List Line). length ls) (sym split.is) ∙ bare_length 0 one.lines in
    let room : length inputs + length todo ≤ 2 ^ 20 = omega (arith, counted, is.well_made.few) in
    let stop = no_net_ahead (behind ++ []) (ap begins_net (append-nil behind) ∙ nets_stop one) in
    let small = all_apart IsSmall inputs todo (subst (AllOf IsSmall) split.is (small_bare one is)) in
    let few_memories : length memories ≤ 2 ^ 16 = omega (arith, is.well_made.few_memories, blank_length one.memories) in
    let behind_form = λ (lines : List Line). (behind_nets_form header memories lines) in
    let rest_is : Due due [] (behind_form (inputs ++ todo)) behind = subst (λ (ls : List Line). Due due [] (behind_form ls) behind) split.is (behind_due one is) in
    let nets_fit : length todo ≤ 2 ^ 20 - length inputs = omega (arith, room) in
    let nets_are = are_nets one inputs todo is split.is (omega arith) in
    let nets = then_due (nets_form (2 ^ 20 - length inputs) memories inputs) behind_form (inputs ++ todo) due [] (nets_text ports (length inputs) todo) behind
    (nets_due ports (2 ^ 20 - length inputs) memories inputs todo (behind ++ []) few_memories small.0 nets_are nets_fit room stop.0 stop.1) rest_is in
    let back = nets_text ports (length inputs) todo ++ behind in
    let no_memory : is_memory_line ((nets_text ports 0 inputs ++ back) ++ []) ≡ false =
    ap is_memory_line (append-nil (nets_text ports 0 inputs ++ back)) ∙ no_memory_in ports 0 inputs back small.0 (no_memory_in ports (length inputs) todo behind small.1
    (ap is_memory_line (sym (append-nil behind)) ∙ no_memory_ahead (behind ++ []) stop.1)) in
    let all = declared_due one due [] back is no_memory nets in
    let front = header_text one ++ (memories_text 0 one.memories ++ (nets_text ports 0 inputs ++ back)) in
    let text : text_of one ≡ front =
    sym (whole_text (header_text one) (memories_text 0 one.memories) (nets_text ports 0 inputs) (nets_text ports (length inputs) todo) (clocked_text 0 one.lines) (writes_text 0 one.memories) (assigns_text ports one.drivers) (codes "endmodule\n")
    ∙ ap (λ (t : List ℕ). header_text one ++ memories_text 0 one.memories ++ t ++ clocked_text 0 one.lines ++ writes_text 0 one.memories ++ assigns_text ports one.drivers ++ codes "endmodule\n") (nets_together one todo split.is)) in
    record { front = front; parts = text ∙ sym (append-nil front); good = all }
