-- The text of a module is read whole.
use Rattle.std.proofs.Common.{◌≡◌, ℕ, zero, suc, ◌+◌, ◌<◌, ◌≤◌, ◌^◌, Bool, true, false, cond, List, [], ◌∷◌, ◌++◌, length, slice_get, Option, Some, None, refl, sym, ap, subst, ◌∙◌, arith, codes, append_assoc, length-append}
use Rattle.std.specs.Prelude.{if◌then◌else◌}
use Rattle.std.proofs.lemmas.List.{append-nil}
use Rattle.av_base.specs.declared.value.Val.{Val}
use Rattle.netlist.specs.Names.{IsPortName}
use Rattle.netlist.specs.declared.line.Equation.{Equation}
use Rattle.netlist.specs.declared.line.Equation.TheVariants.{Input, Reg}
use Rattle.netlist.specs.declared.line.Line.{Line}
use Rattle.netlist.specs.declared.line.Memory.{Memory}
use Rattle.netlist.specs.declared.line.MemWrite.{MemWrite}
use Rattle.netlist.specs.declared.line.PortLine.{PortLine}
use Rattle.netlist.specs.Netlists.{IsValue, IsWriteOf, width_at, is_register, input_lines, line_of}
use Rattle.verilog_writer.specs.Text.{memories_text, memory_line, nets_text, net_line, wire_line, register_line, clocked_text, clocked_line, writes_text, written_line, write_line, assigns_text, assign_line}
use Rattle.verilog_forms.specs.Forms.{Form, next, followed, Due}
use Rattle.verilog_forms.specs.RegisterLines.{untold, register_form}
use Rattle.verilog_forms.specs.WireLines.{wire_form, Behind, IsWire}
use Rattle.verilog_forms.specs.MemoryLines.{memory_form}
use Rattle.verilog_forms.specs.InputLines.{input_form}
use Rattle.verilog_forms.specs.ClockedLines.{clock_form, write_form, assign_form}
use Rattle.verilog_forms.specs.WholeTexts.{is_wire_line, is_reg_line, is_net_line, is_memory_line, memories_form, inputs_form, nets_form, clocked_form, all_clocked_form, written, all_written_form, driven, all_driven_form, nothing_form, last_form, listed, told}
use Rattle.verilog_forms.proofs.Nets.{width_at-line}
use Rattle.verilog_forms.proofs.Lines.{net_wire}
use Rattle.verilog_forms.specs.Spellings.{true_false}
use Rattle.verilog_forms.proofs.PortLines.{pushed_same}
use Rattle.verilog_forms.proofs.InputLines.{input_due}
use Rattle.verilog_forms.proofs.ClockedLines.{clock_due, write_due, assign_due}
use Rattle.verilog_forms.proofs.WireLines.{wire_read}
use Rattle.verilog_forms.proofs.RegisterLines.{register_read}
use Rattle.verilog_forms.proofs.MemoryLines.{memory_read}
use Rattle.verilog_forms.proofs.RightReads.{fixed_due}
use Rattle.verilog_forms.proofs.Followed.{then_due, reads_due}
use Rattle.verilog_forms.proofs.ModuleLines.{AllOf, of_all, all_more, listed_due, told_due, ahead_due, not_ahead_due, room_due, memory_ahead, bare_line, bare, blank_of, blank, still_bare}

-- the lines of memories

pub record Sized (memory : Memory) : Type 0 where
  pub some_bit : 1 ≤ memory.width
  pub small : memory.width ≤ 128
  pub some_address : 1 ≤ memory.address_bits
  pub few_addresses : memory.address_bits ≤ 10

pub memories_due : (few m : ℕ) (memories : List Memory) (rest : List ℕ) → AllOf Sized memories → length memories ≤ few → m + length memories ≤ 2 ^ 16 → is_memory_line rest ≡ false
    → Due (Form.whole (blank memories)) rest (memories_form few m) (memories_text m memories)
memories_due zero m [] rest all fits few_all stop = not_ahead_due (Form.whole []) rest is_memory_line _ (Form.whole []) [] stop Due.nothing
memories_due (suc few) m [] rest all fits few_all stop = not_ahead_due (Form.whole []) rest is_memory_line _ (Form.whole []) [] stop Due.nothing
memories_due zero m (x ∷ xs) rest all fits few_all stop = absurd (omega (arith, fits))
memories_due (suc few) m (x ∷ xs) rest all fits few_all stop =
    let is = all.0 in
    let more = memories_due few (m + 1) xs rest all.1 (omega (arith, fits)) (omega (arith, few_all)) stop in
    let small : m < 2 ^ 64 = omega (arith, few_all) in
    let here = reads_due (memory_form m) (memory_line m x) (blank_of x) (memories_text (m + 1) xs ++ rest) (memory_read m x (memories_text (m + 1) xs ++ rest) small is.some_bit is.small is.some_address is.few_addresses) in
    let line = listed_due (memory_form m) (memories_form few (m + 1)) (blank_of x) (blank xs) rest (memory_line m x) (memories_text (m + 1) xs) here more in
    let kind : is_memory_line ((memory_line m x ++ memories_text (m + 1) xs) ++ rest) ≡ true =
    ap is_memory_line (append_assoc (memory_line m x) (memories_text (m + 1) xs) rest) ∙ memory_ahead m x (memories_text (m + 1) xs ++ rest) is.small in
    ahead_due (Form.whole (blank (x ∷ xs))) rest is_memory_line (listed (memory_form m) (memories_form few (m + 1))) (Form.whole []) (memory_line m x ++ memories_text (m + 1) xs) kind line

-- the lines of inputs

pub record GoodPort (port : PortLine) : Type 0 where
  pub name : IsPortName port.name
  pub some_bit : 1 ≤ port.width
  pub small : port.width ≤ 128

-- these ports stand among all from port k on
abbrev pub StandFrom : List PortLine → ℕ → List PortLine → Type 0
StandFrom all k ports = (j : ℕ) (port : PortLine) → slice_get ports j ≡ Some port → slice_get all (k + j) ≡ Some port

pub stands_first : (all : List PortLine) (k : ℕ) (port : PortLine) (ports : List PortLine) → StandFrom all k (port ∷ ports) → slice_get all k ≡ Some port
stands_first all k port ports stand = let here : k + 0 ≡ k = omega arith in ap (slice_get all) (sym here) ∙ stand 0 port refl

pub stand_behind : (all : List PortLine) (k : ℕ) (port : PortLine) (ports : List PortLine) → StandFrom all k (port ∷ ports) → StandFrom all (k + 1) ports
stand_behind all k port ports stand j other e = let there : (k + 1) + j ≡ k + suc j = omega arith in ap (slice_get all) there ∙ stand (suc j) other e

inputs_as : (all : List PortLine) (n k : ℕ) (name : List ℕ) (w : ℕ) (output : Bool) (ports : List PortLine) (rest : List ℕ) → (let port : PortLine = record { name = name; width = w; output = output } in slice_get all k ≡ Some port)
    → (let port : PortLine = record { name = name; width = w; output = output } in GoodPort port)
    → ((m : ℕ) → m + length (input_lines (k + 1) ports) ≤ 2 ^ 20 → Due (Form.whole (input_lines (k + 1) ports)) rest (inputs_form m (k + 1) ports) (nets_text all m (input_lines (k + 1) ports)))
    → (let port : PortLine = record { name = name; width = w; output = output } in n + length (input_lines k (port ∷ ports)) ≤ 2 ^ 20)
    → (let port : PortLine = record { name = name; width = w; output = output } in Due (Form.whole (input_lines k (port ∷ ports))) rest (inputs_form n k (port ∷ ports)) (nets_text all n (input_lines k (port ∷ ports))))
inputs_as all n k name w true ports rest at good later fits = later n fits
inputs_as all n k name w false ports rest at good later fits =
    let port : PortLine = record { name = name; width = w; output = false } in
    let others = input_lines (k + 1) ports in
    let room : n < 2 ^ 20 = omega (arith, fits) in
    let few : n < 2 ^ 64 = omega (arith, room) in
    let more = later (n + 1) (omega (arith, fits)) in
    let here = input_due all n k port (nets_text all (n + 1) others ++ rest) few (record { is = at; input = refl; name = good.name; some_bit = good.some_bit; small = good.small }) in
    room_due (Form.whole (line_of w (Input k) ∷ others)) rest n (listed (input_form n k port) (inputs_form (n + 1) (k + 1) ports)) _ room
    (listed_due (input_form n k port) (inputs_form (n + 1) (k + 1) ports) (line_of w (Input k)) others rest (wire_line all n w (Input k)) (nets_text all (n + 1) others) here more)

pub inputs_due : (all : List PortLine) (n k : ℕ) (ports : List PortLine) (rest : List ℕ) → StandFrom all k ports → AllOf GoodPort ports → n + length (input_lines k ports) ≤ 2 ^ 20
    → Due (Form.whole (input_lines k ports)) rest (inputs_form n k ports) (nets_text all n (input_lines k ports))
inputs_due all n k [] rest stand good fits = Due.nothing
inputs_due all n k (port ∷ ports) rest stand good fits =
    inputs_as all n k port.name port.width port.output ports rest (stands_first all k port ports stand) good.0
    (λ m small. inputs_due all m (k + 1) ports rest (stand_behind all k port ports stand) good.1 small) fits

-- the lines of nets behind the inputs

pub data NetLine (ports : List PortLine) (memories : List Memory) (done : List Line) (line : Line) : Type 0 where
  wire : IsWire ports memories done (length done) line → NetLine ports memories done line
  register : (w : ℕ) → 1 ≤ w → w ≤ 128 → line ≡ untold (length done) w → NetLine ports memories done line

abbrev pub AreNets : List PortLine → List Memory → List Line → List Line → Type 0
AreNets ports memories done [] = Unit {0}
AreNets ports memories done (line ∷ lines) = NetLine ports memories done line × AreNets ports memories (done ++ line ∷ []) lines

abbrev pub IsSmall : Line → Type 0
IsSmall line = line.width ≤ 128

pub behind_of : (memories : List Memory) (done : List Line) → length memories ≤ 2 ^ 16 → length done < 2 ^ 64 → AllOf IsSmall done → Behind memories done (length done)
behind_of memories done few_memories few small = record {
  few = few;
  room = omega arith;
  few_memories = few_memories;
  small = λ a v e. (let found = width_at-line done a v e in let narrow = of_all IsSmall done small a found.0 found.1 in omega (arith, narrow, found.2));
}

pub net_small : (ports : List PortLine) (memories : List Memory) (done : List Line) (line : Line) → NetLine ports memories done line → IsSmall line
net_small ports memories done line (NetLine.wire is) = is.small
net_small ports memories done line (NetLine.register w some small is) = subst IsSmall (sym is) small

pub length-more : {X : Type 0} (xs : List X) (x : X) → length (xs ++ x ∷ []) ≡ length xs + 1
length-more xs x = length-append xs (x ∷ [])

abbrev NetsForm : ℕ → List Memory → List Line → List ℕ → Form (List Line)
NetsForm few memories done text =
    if is_wire_line text then followed (wire_form memories done (length done)) (λ line. nets_form few memories (done ++ line ∷ []))
    else if is_reg_line text then followed (register_form (length done)) (λ line. nets_form few memories (done ++ line ∷ [])) else Form.whole done

pub net_due : (ports : List PortLine) (few : ℕ) (memories : List Memory) (done : List Line) (line : Line) (due : Form (List Line)) (rest back : List ℕ) → NetLine ports memories done line → Behind memories done (length done)
    → Due due rest (nets_form few memories (done ++ line ∷ [])) back → Due due rest (Form.ahead (NetsForm few memories done)) (net_line ports (length done) line ++ back)
net_due ports few memories done line due rest back (NetLine.wire is) at more =
    let n = length done in
    let here = reads_due (wire_form memories done n) (wire_line ports n line.width line.equation) line (back ++ rest) (wire_read ports memories done n line (back ++ rest) at is) in
    let walked = then_due (wire_form memories done n) (λ x. nets_form few memories (done ++ x ∷ [])) line due rest (wire_line ports n line.width line.equation) back here more in
    subst (λ (t : List ℕ). Due due rest (Form.ahead (NetsForm few memories done)) (t ++ back)) (sym (net_wire ports n line is.right.no_register)) (Due.ahead (NetsForm few memories done) walked)
net_due ports few memories done line due rest back (NetLine.register w some small is) at more =
    let n = length done in
    let here = reads_due (register_form n) (register_line n w) (untold n w) (back ++ rest) (register_read n w (back ++ rest) at.few some small) in
    let behind = subst (λ (x : Line). Due due rest (nets_form few memories (done ++ x ∷ [])) back) is more in
    let walked = then_due (register_form n) (λ x. nets_form few memories (done ++ x ∷ [])) (untold n w) due rest (register_line n w) back here behind in
    subst (λ (x : Line). Due due rest (Form.ahead (NetsForm few memories done)) (net_line ports n x ++ back)) (sym is) (Due.ahead (NetsForm few memories done) walked)

nets_end : (few : ℕ) (memories : List Memory) (done : List Line) (rest : List ℕ) → is_wire_line rest ≡ false → is_reg_line rest ≡ false → Due (Form.whole (done ++ [])) rest (nets_form few memories done) []
nets_end zero memories done rest no_wire no_reg =
    let none : is_net_line rest ≡ false = rw (no_wire, no_reg) refl in
    not_ahead_due (Form.whole (done ++ [])) rest is_net_line _ (Form.whole done) [] none (subst (λ (x : List Line). Due (Form.whole x) rest (Form.whole done) []) (sym (append-nil done)) Due.nothing)
nets_end (suc few) memories done rest no_wire no_reg =
    let due = Form.whole (done ++ []) in
    let reg = followed (register_form (length done)) (λ line. nets_form few memories (done ++ line ∷ [])) in
    let wire = followed (wire_form memories done (length done)) (λ line. nets_form few memories (done ++ line ∷ [])) in
    let end_ : Due due rest (Form.whole done) [] = subst (λ (x : List Line). Due (Form.whole x) rest (Form.whole done) []) (sym (append-nil done)) Due.nothing in
    let second : Due due rest (cond (is_reg_line rest) reg (Form.whole done)) [] = subst (λ (t : Bool). Due due rest (cond t reg (Form.whole done)) []) (sym no_reg) end_ in
    Due.ahead (NetsForm few memories done) (subst (λ (t : Bool). Due due rest (cond t wire (cond (is_reg_line rest) reg (Form.whole done))) []) (sym no_wire) second)

pub nets_due : (ports : List PortLine) (few : ℕ) (memories : List Memory) (done todo : List Line) (rest : List ℕ) → length memories ≤ 2 ^ 16 → AllOf IsSmall done → AreNets ports memories done todo → length todo ≤ few → length done + length todo ≤ 2 ^ 20
    → is_wire_line rest ≡ false → is_reg_line rest ≡ false → Due (Form.whole (done ++ todo)) rest (nets_form few memories done) (nets_text ports (length done) todo)
nets_due ports few memories done [] rest few_memories small are fits room no_wire no_reg = nets_end few memories done rest no_wire no_reg
nets_due ports zero memories done (x ∷ xs) rest few_memories small are fits room no_wire no_reg = absurd (omega (arith, fits))
nets_due ports (suc few) memories done (x ∷ xs) rest few_memories small are fits room no_wire no_reg =
    let grown : length (done ++ x ∷ []) + length xs ≤ 2 ^ 20 = omega (arith, room, length-more done x) in
    let later = nets_due ports few memories (done ++ x ∷ []) xs rest few_memories (all_more IsSmall done x small (net_small ports memories done x are.0)) are.1 (omega (arith, fits)) grown no_wire no_reg in
    let numbered = subst (λ (k : ℕ). Due (Form.whole ((done ++ x ∷ []) ++ xs)) rest (nets_form few memories (done ++ x ∷ [])) (nets_text ports k xs)) (length-more done x) later in
    let more = subst (λ (ls : List Line). Due (Form.whole ls) rest (nets_form few memories (done ++ x ∷ [])) (nets_text ports (length done + 1) xs)) (pushed_same done x xs) numbered in
    net_due ports few memories done x (Form.whole (done ++ x ∷ xs)) rest (nets_text ports (length done + 1) xs) are.0 (behind_of memories done few_memories (omega (arith, room)) small) more

-- the clocked lines

pub data Clocked (lines : List Line) (n : ℕ) (line : Line) : Type 0 where
  still : is_register line.equation ≡ false → Clocked lines n line
  register : (w : ℕ) (reset : Val) (next : ℕ) → line ≡ line_of w (Reg reset next) → IsValue reset w → width_at lines next ≡ Some w → n < length lines → Clocked lines n line

abbrev pub AllClocked : List Line → ℕ → List Line → Type 0
AllClocked lines n [] = Unit {0}
AllClocked lines n (line ∷ others) = Clocked lines n line × AllClocked lines (n + 1) others

pub no_clocked_line : (n : ℕ) (e : Equation) → is_register e ≡ false → clocked_line n e ≡ []
no_clocked_line n (Reg reset next) is = absurd (true_false is)
no_clocked_line n _ is = refl

clocked_due : (memories : List Memory) (lines : List Line) (n : ℕ) (line : Line) (rest : List ℕ) → length lines < 2 ^ 64 → Clocked lines n line → Due (Form.whole line) rest (clocked_form memories lines n (bare_line n line)) (clocked_line n line.equation)
clocked_due memories lines n line rest few (Clocked.still is) =
    let due = Form.whole line in
    let here : Due due rest (clocked_form memories lines n line) [] = subst (λ (t : Bool). Due due rest (cond t (clock_form memories lines n line.width) (Form.whole line)) []) (sym is) Due.nothing in
    let bare_is = subst (λ (x : Line). Due due rest (clocked_form memories lines n x) []) (sym (still_bare n line is)) here in
    subst (λ (t : List ℕ). Due due rest (clocked_form memories lines n (bare_line n line)) t) (sym (no_clocked_line n line.equation is)) bare_is
clocked_due memories lines n line rest few (Clocked.register w reset next is good width there) =
    subst (λ (x : Line). Due (Form.whole x) rest (clocked_form memories lines n (bare_line n x)) (clocked_line n x.equation)) (sym is) (clock_due memories lines n w reset next rest few there good width)

pub all_clocked_due : (memories : List Memory) (lines : List Line) (n : ℕ) (todo : List Line) (rest : List ℕ) → length lines < 2 ^ 64 → AllClocked lines n todo
    → Due (Form.whole todo) rest (all_clocked_form memories lines n (bare n todo)) (clocked_text n todo)
all_clocked_due memories lines n [] rest few all = Due.nothing
all_clocked_due memories lines n (line ∷ others) rest few all =
    listed_due (clocked_form memories lines n (bare_line n line)) (all_clocked_form memories lines (n + 1) (bare (n + 1) others)) line others rest (clocked_line n line.equation) (clocked_text (n + 1) others)
    (clocked_due memories lines n line (clocked_text (n + 1) others ++ rest) few all.0) (all_clocked_due memories lines (n + 1) others rest few all.1)

-- the lines of writes

pub record Stored (lines : List Line) (memory : Memory) : Type 0 where
  pub write : MemWrite
  pub is : memory.write ≡ Some write
  pub good : IsWriteOf lines memory write

stored_as : (w bits : ℕ) (o : Option MemWrite) (write : MemWrite) → o ≡ Some write → (let x : Memory = record { width = w; address_bits = bits; write = Some write } in x) ≡ record { width = w; address_bits = bits; write = o }
stored_as w bits o write is = ap (λ (p : Option MemWrite). (let x : Memory = record { width = w; address_bits = bits; write = p } in x)) (sym is)

pub all_written_due : (memories : List Memory) (lines : List Line) (m : ℕ) (todo : List Memory) (rest : List ℕ) → length lines < 2 ^ 64 → length memories < 2 ^ 64 → m + length todo ≤ length memories → AllOf (Stored lines) todo
    → Due (Form.whole todo) rest (all_written_form memories lines m (blank todo)) (writes_text m todo)
all_written_due memories lines m [] rest few few_memories fits all = Due.nothing
all_written_due memories lines m (x ∷ xs) rest few few_memories fits all =
    let is = all.0 in
    let write = is.write in
    let there : m < length memories = omega (arith, fits) in
    let form = write_form memories lines m (blank_of x) in
    let behind = writes_text (m + 1) xs in
    let good : IsWriteOf lines (blank_of x) write = record { enable = is.good.enable; address = is.good.address; word = is.good.word } in
    let line = told_due form (written (blank_of x)) write (behind ++ rest) (write_line m write) (write_due memories lines m (blank_of x) write (behind ++ rest) few few_memories there good) in
    let kept = subst (λ (y : Memory). Due (Form.whole y) (behind ++ rest) (told form (written (blank_of x))) (write_line m write)) (stored_as x.width x.address_bits x.write write is.is) line in
    let spelled = subst (λ (o : Option MemWrite). Due (Form.whole x) (behind ++ rest) (told form (written (blank_of x))) (written_line m o)) (sym is.is) kept in
    listed_due (told form (written (blank_of x))) (all_written_form memories lines (m + 1) (blank xs)) x xs rest (written_line m x.write) behind spelled
    (all_written_due memories lines (m + 1) xs rest few few_memories (omega (arith, fits)) all.1)

-- the lines of outputs

pub data Drives (lines : List Line) (port : PortLine) (driver : Option ℕ) : Type 0 where
  by_none : port.output ≡ false → driver ≡ None → Drives lines port driver
  by_net : (n : ℕ) → port.output ≡ true → driver ≡ Some n → width_at lines n ≡ Some port.width → Drives lines port driver

abbrev pub AllDrive : List Line → List PortLine → List (Option ℕ) → Type 0
AllDrive lines [] [] = Unit {0}
AllDrive lines [] (d ∷ ds) = ⊥
AllDrive lines (p ∷ ps) [] = ⊥
AllDrive lines (p ∷ ps) (d ∷ ds) = Drives lines p d × AllDrive lines ps ds

abbrev pub one_driven_form : List Memory → List Line → Bool → PortLine → Form (List (Option ℕ)) → Form (List (Option ℕ)) → Bool → Form (List (Option ℕ))
one_driven_form memories lines assigned port behind_output behind_input output =
    if output then listed (told (assign_form memories lines assigned port) driven) behind_output else listed (Form.whole None) behind_input

driven_due : (memories : List Memory) (lines : List Line) (assigned : Bool) (port : PortLine) (driver : Option ℕ) (ports : List PortLine) (drivers : List (Option ℕ)) (rest back : List ℕ) → length lines < 2 ^ 64 → IsPortName port.name → Drives lines port driver
    → ((b : Bool) → Due (Form.whole drivers) rest (all_driven_form memories lines b ports) back) → Due (Form.whole (driver ∷ drivers)) rest (all_driven_form memories lines assigned (port ∷ ports)) (assign_line port driver ++ back)
driven_due memories lines assigned port driver ports drivers rest back few name (Drives.by_none out is) later =
    let due = Form.whole (None ∷ drivers) in
    let line = listed_due (Form.whole None) (all_driven_form memories lines assigned ports) None drivers rest [] back Due.nothing (later assigned) in
    let form = one_driven_form memories lines assigned port (all_driven_form memories lines true ports) (all_driven_form memories lines assigned ports) in
    subst (λ (d : Option ℕ). Due (Form.whole (d ∷ drivers)) rest (form port.output) (assign_line port d ++ back)) (sym is) (subst (λ (b : Bool). Due due rest (form b) back) (sym out) line)
driven_due memories lines assigned port driver ports drivers rest back few name (Drives.by_net n out is width) later =
    let due = Form.whole (Some n ∷ drivers) in
    let here = told_due (assign_form memories lines assigned port) driven n (back ++ rest) (assign_line port (Some n)) (assign_due memories lines assigned port n (back ++ rest) few name out width) in
    let line = listed_due (told (assign_form memories lines assigned port) driven) (all_driven_form memories lines true ports) (Some n) drivers rest (assign_line port (Some n)) back here (later true) in
    let form = one_driven_form memories lines assigned port (all_driven_form memories lines true ports) (all_driven_form memories lines assigned ports) in
    subst (λ (d : Option ℕ). Due (Form.whole (d ∷ drivers)) rest (form port.output) (assign_line port d ++ back)) (sym is) (subst (λ (b : Bool). Due due rest (form b) (assign_line port (Some n) ++ back)) (sym out) line)

pub all_driven_due : (memories : List Memory) (lines : List Line) (assigned : Bool) (ports : List PortLine) (drivers : List (Option ℕ)) (rest : List ℕ) → length lines < 2 ^ 64 → AllOf GoodPort ports → AllDrive lines ports drivers
    → Due (Form.whole drivers) rest (all_driven_form memories lines assigned ports) (assigns_text ports drivers)
all_driven_due memories lines assigned [] [] rest few good all = Due.nothing
all_driven_due memories lines assigned [] (d ∷ ds) rest few good all = absurd all
all_driven_due memories lines assigned (p ∷ ps) [] rest few good all = absurd all
all_driven_due memories lines assigned (p ∷ ps) (d ∷ ds) rest few good all =
    driven_due memories lines assigned p d ps ds rest (assigns_text ps ds) few good.0.name all.0 (λ b. all_driven_due memories lines b ps ds rest few good.1 all.1)

-- the last line

pub last_due : {A : Type 0} (memories : List Memory) (lines : List Line) (assigned : Bool) (a : A) → Due (Form.whole a) [] (last_form memories lines assigned a) (codes "endmodule\n")
last_due memories lines assigned a =
    let ended : Due (Form.whole a) [] (Form.turn (nothing_form a)) [] = Due.turn (nothing_form a) Due.nothing in
    Due.turn _ (fixed_due (Form.whole a) [] (codes "endmodule\n") (Form.turn (nothing_form a)) [] ended)
