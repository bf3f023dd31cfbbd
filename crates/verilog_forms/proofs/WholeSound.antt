-- A text that is read whole is that of a module.
use Rattle.std.proofs.Common.{◌≡◌, ◌<◌, ℕ, zero, suc, ◌+◌, ◌-◌, ◌≤◌, ◌^◌, Bool, true, false, List, [], ◌∷◌, ◌++◌, length, slice_get, Option, Some, None, inl, inr, ◌⊎◌, refl, sym, ap, subst, ◌∙◌, arith, codes, length-append}
use Rattle.std.specs.Prelude.{IfSome, IsSome, slice_index_or}
use Rattle.std.proofs.lemmas.List.{append-nil}
use Rattle.netlist.specs.declared.line.Equation.{Equation}
use Rattle.netlist.specs.declared.line.Equation.TheVariants.{Reg}
use Rattle.netlist.specs.declared.line.Line.{Line}
use Rattle.netlist.specs.declared.line.Memory.{Memory}
use Rattle.netlist.specs.declared.line.MemWrite.{MemWrite}
use Rattle.netlist.specs.declared.line.PortLine.{PortLine}
use Rattle.netlist.specs.Netlists.{Netlist, IsHeader, IsModule, IsSoundLine, IsSoundMemory, IsWriteOf, BeginsWithInputs, width_at, driver_of, is_input, is_register, input_lines, next_in, next_of}
use Rattle.verilog_writer.specs.Text.{text_of, header_text, memories_text, nets_text, clocked_text, writes_text, assigns_text}
use Rattle.verilog_forms.specs.Forms.{followed, Reads}
use Rattle.verilog_forms.specs.RegisterLines.{untold}
use Rattle.verilog_forms.specs.Headers.{header_form}
use Rattle.verilog_forms.specs.WholeTexts.{memories_form, inputs_form, nets_form, all_clocked_form, all_written_form, all_driven_form, last_form, has_output, behind_nets_form, module_form}
use Rattle.verilog_forms.proofs.Nets.{all-slice_get, slice_get-left}
use Rattle.verilog_forms.specs.Spellings.{true_false}
use Rattle.verilog_forms.specs.Walked.{Walked}
use Rattle.verilog_forms.proofs.Followed.{followed_walked}
use Rattle.verilog_forms.proofs.PortLines.{header_walked, pushed_same}
use Rattle.verilog_forms.proofs.ModuleLines.{AllOf, all_of, of_all, some_same, none_same, bare_line, bare, blank, still_bare, bare_length, blank_length, bare_width, bare_at, at_bare, blank_text, Agree, sound_moved, from_blank}
use Rattle.verilog_forms.proofs.ModuleReads.{Sized, NetLine, AreNets, IsSmall, length-more, Clocked, AllClocked, Stored, Drives, AllDrive}
use Rattle.verilog_forms.proofs.WholeReads.{nets_behind, inputs_behind, from_zero, width_left, whole_text, nets_together, input_no_register, input_at, input_still}
use Rattle.verilog_forms.proofs.WholeWalked.{Blank, memories_walked, inputs_walked, nets_walked, BareLine, AllBare, all_clocked_walked, all_written_walked, all_driven_walked, last_walked}

-- what the sections of a text tell of a netlist
pub record Pieces (one : Netlist) : Type 0 where
  pub header : IsHeader one.name one.ports
  pub todo : List Line
  pub lines_are : bare 0 one.lines ≡ input_lines 0 one.ports ++ todo
  pub few : length one.lines ≤ 2 ^ 20
  pub nets : AreNets one.ports (blank one.memories) (input_lines 0 one.ports) todo
  pub clocked : AllClocked (bare 0 one.lines) 0 one.lines
  pub few_memories : length one.memories ≤ 2 ^ 16
  pub sizes : AllOf Sized one.memories
  pub stored : AllOf (Stored (bare 0 one.lines)) one.memories
  pub drive : AllDrive (bare 0 one.lines) one.ports one.drivers

clocked_at : (lines : List Line) (n : ℕ) (xs : List Line) (k : ℕ) (x : Line) → AllClocked lines n xs → slice_get xs k ≡ Some x → Clocked lines (n + k) x
clocked_at lines n [] k x all e = none_same x e
clocked_at lines n (y ∷ xs) zero x all e =
    let here : n ≡ n + 0 = omega arith in
    subst (λ (j : ℕ). Clocked lines j x) here (subst (Clocked lines n) (some_same y x e) all.0)
clocked_at lines n (y ∷ xs) (suc k) x all e =
    let there : (n + 1) + k ≡ n + suc k = omega arith in
    subst (λ (j : ℕ). Clocked lines j x) there (clocked_at lines (n + 1) xs k x all.1 e)

slice_get_apart : {X : Type 0} (xs ys : List X) (n : ℕ) (x : X) → slice_get (xs ++ ys) n ≡ Some x → (slice_get xs n ≡ Some x) ⊎ ((k : ℕ) × (slice_get ys k ≡ Some x) × (n ≡ length xs + k))
slice_get_apart [] ys n x e = let here : n ≡ 0 + n = omega arith in inr (n, e, here)
slice_get_apart (y ∷ xs) ys zero x e = inl e
slice_get_apart (y ∷ xs) ys (suc n) x e =
    elim (slice_get_apart xs ys n x e) [
      | inl left ↦ inl left
      | inr right ↦ let there : suc n ≡ suc (length xs) + right.0 = omega (arith, right.2) in inr (right.0, right.1, there)
    ]

-- a net behind the inputs, among those before it
record NetAt (ports : List PortLine) (memories : List Memory) (all : List Line) (n : ℕ) (x : Line) : Type 0 where
  pub before : List Line
  pub others : List Line
  pub is : all ≡ before ++ others
  pub place : length before ≡ n
  pub net : NetLine ports memories before x

net_at : (ports : List PortLine) (memories : List Memory) (all done todo : List Line) (k : ℕ) (x : Line) → all ≡ done ++ todo → AreNets ports memories done todo → slice_get todo k ≡ Some x → NetAt ports memories all (length done + k) x
net_at ports memories all done [] k x is are e = none_same x e
net_at ports memories all done (y ∷ todo) zero x is are e =
    let here : length done ≡ length done + 0 = omega arith in
    record { before = done; others = y ∷ todo; is = is; place = here; net = subst (NetLine ports memories done) (some_same y x e) are.0 }
net_at ports memories all done (y ∷ todo) (suc k) x is are e =
    let more = net_at ports memories all (done ++ y ∷ []) todo k x (is ∙ sym (pushed_same done y todo)) are.1 e in
    let there : length (done ++ y ∷ []) + k ≡ length done + suc k = omega (arith, length-more done y) in
    subst (λ (n : ℕ). NetAt ports memories all n x) there more

data Place (one : Netlist) (n : ℕ) (x : Line) : Type 0 where
  of_input : slice_get (input_lines 0 one.ports) n ≡ Some x → Place one n x
  of_net : NetAt one.ports (blank one.memories) (bare 0 one.lines) n x → Place one n x

place_of : (one : Netlist) (n : ℕ) (x : Line) → Pieces one → slice_get (bare 0 one.lines) n ≡ Some x → Place one n x
place_of one n x p e =
    let inputs = input_lines 0 one.ports in
    elim (slice_get_apart inputs p.todo n x (ap (λ (ls : List Line). slice_get ls n) (sym p.lines_are) ∙ e)) [
      | inl left ↦ Place.of_input left
      | inr right ↦ Place.of_net (subst (λ (j : ℕ). NetAt one.ports (blank one.memories) (bare 0 one.lines) j x) (sym right.2) (net_at one.ports (blank one.memories) (bare 0 one.lines) inputs p.todo right.0 x p.lines_are p.nets right.1))
    ]

bare_here : (one : Netlist) (n : ℕ) (line : Line) → slice_get one.lines n ≡ Some line → slice_get (bare 0 one.lines) n ≡ Some (bare_line n line)
bare_here one n line at = at_bare 0 one.lines n line at ∙ ap (λ (k : ℕ). Some (bare_line k line)) (from_zero n)

no_next : (e : Equation) → is_register e ≡ false → next_in e ≡ None
no_next (Reg reset next) h = absurd (true_false h)
no_next _ h = refl

-- each line is sound

input_sound_line : (one : Netlist) (n : ℕ) (line : Line) → Pieces one → slice_get (input_lines 0 one.ports) n ≡ Some line → IsSoundLine one.ports one.memories one.lines n line
input_sound_line one n line p e =
    let at = input_at 0 one.ports n line e in
    let widths = all-slice_get (λ (port : PortLine). (1 ≤ port.width) × (port.width ≤ 128)) one.ports at.place at.port p.header.widths at.is in
    let here : slice_get one.ports (0 + at.place) ≡ Some at.port = ap (slice_get one.ports) (from_zero at.place) ∙ at.is in
    subst (IsSoundLine one.ports one.memories one.lines n) (sym at.spelled) (record {
      some_bit = widths.0;
      small = widths.1;
      equation = record { port = at.port; is = here; input = at.input; width = refl };
      next = tt;
      waits = λ waits. absurd (true_false (sym waits));
    })

net_sound_line : (one : Netlist) (n : ℕ) (line : Line) (before others : List Line) → bare 0 one.lines ≡ before ++ others → length before ≡ n → is_register line.equation ≡ false → NetLine one.ports (blank one.memories) before line
    → IsSoundLine one.ports one.memories one.lines n line
net_sound_line one n line before others all place plain (NetLine.register w some small is) = absurd (true_false (sym (ap (λ (l : Line). is_register l.equation) is) ∙ plain))
net_sound_line one n line before others all place plain (NetLine.wire is) =
    let agree : Agree before one.lines (length before) = λ a w below width. (sym (bare_width 0 one.lines a) ∙ ap (λ (ls : List Line). width_at ls a) all ∙ width_left before others a below ∙ width) in
    let moved = sound_moved one.ports (blank one.memories) one.memories before one.lines (length before) line.width line.equation agree (from_blank one.memories) is.right.sound in
    let none : next_of line ≡ None = rw is.complete (no_next line.equation plain) in
    subst (λ (k : ℕ). IsSoundLine one.ports one.memories one.lines k line) place (record {
      some_bit = is.some_bit;
      small = is.small;
      equation = moved;
      next = subst (λ (o : Option ℕ). IfSome o (λ m. width_at one.lines m ≡ Some line.width)) (sym none) tt;
      waits = λ waits. absurd (true_false (sym waits ∙ is.complete));
    })

placed_line : (one : Netlist) (n : ℕ) (line : Line) → Pieces one → is_register line.equation ≡ false → Place one n line → IsSoundLine one.ports one.memories one.lines n line
placed_line one n line p plain (Place.of_input e) = input_sound_line one n line p e
placed_line one n line p plain (Place.of_net at) = net_sound_line one n line at.before at.others at.is at.place plain at.net

record Bits (w : ℕ) : Type 0 where
  pub some_bit : 1 ≤ w
  pub small : w ≤ 128

untold_bits : (ports : List PortLine) (memories : List Memory) (before : List Line) (n w : ℕ) → NetLine ports memories before (untold n w) → Bits w
untold_bits ports memories before n w (NetLine.wire is) = absurd (true_false is.right.no_register)
untold_bits ports memories before n w (NetLine.register v some small is) =
    let same : w ≡ v = ap (λ (l : Line). l.width) is in
    record { some_bit = omega (arith, some, same); small = omega (arith, small, same) }

placed_bits : (one : Netlist) (n k w : ℕ) → Place one n (untold k w) → Bits w
placed_bits one n k w (Place.of_input e) = absurd (true_false (input_still one.ports n (untold k w) e))
placed_bits one n k w (Place.of_net at) = untold_bits one.ports (blank one.memories) at.before k w at.net

line_as : (one : Netlist) (n : ℕ) (line : Line) → Pieces one → slice_get one.lines n ≡ Some line → Clocked (bare 0 one.lines) n line → IsSoundLine one.ports one.memories one.lines n line
line_as one n line p at (Clocked.still plain) =
    placed_line one n line p plain (place_of one n line p (bare_here one n line at ∙ ap (λ (l : Line). Some l) (still_bare n line plain)))
line_as one n line p at (Clocked.register w reset next is good width there) =
    let bits = placed_bits one n n w (place_of one n (untold n w) p (bare_here one n line at ∙ ap (λ (l : Line). Some (bare_line n l)) is)) in
    subst (IsSoundLine one.ports one.memories one.lines n) (sym is) (record {
      some_bit = bits.some_bit;
      small = bits.small;
      equation = good;
      next = sym (bare_width 0 one.lines next) ∙ width;
      waits = λ waits. absurd (true_false (sym waits));
    })

clocked_here : (one : Netlist) (n : ℕ) (line : Line) → Pieces one → slice_get one.lines n ≡ Some line → Clocked (bare 0 one.lines) n line
clocked_here one n line p at = subst (λ (k : ℕ). Clocked (bare 0 one.lines) k line) (from_zero n) (clocked_at (bare 0 one.lines) 0 one.lines n line p.clocked at)

sound_line : (one : Netlist) (n : ℕ) (line : Line) → Pieces one → slice_get one.lines n ≡ Some line → IsSoundLine one.ports one.memories one.lines n line
sound_line one n line p at = line_as one n line p at (clocked_here one n line p at)

-- the inputs come first

first_as : (one : Netlist) (n : ℕ) (x line : Line) (b : Bool) → slice_get (input_lines 0 one.ports) n ≡ Some x → slice_get one.lines n ≡ Some line → bare_line (0 + n) line ≡ x → is_register line.equation ≡ b → slice_get one.lines n ≡ Some x
first_as one n x line true input at same register =
    let untold_is : bare_line (0 + n) line ≡ untold (0 + n) line.width = rw register refl in
    absurd (true_false (ap (λ (l : Line). is_register l.equation) (sym untold_is ∙ same) ∙ input_still one.ports n x input))
first_as one n x line false input at same plain = at ∙ ap (λ (l : Line). Some l) (sym (still_bare (0 + n) line plain) ∙ same)

no_input_net : (ports : List PortLine) (memories : List Memory) (before : List Line) (line : Line) → is_input line.equation ≡ true → NetLine ports memories before line → ⊥
no_input_net ports memories before line input (NetLine.wire is) = true_false (sym input ∙ is.right.no_input)
no_input_net ports memories before line input (NetLine.register w some small is) = true_false (sym input ∙ ap (λ (l : Line). is_input l.equation) is)

no_other_as : (one : Netlist) (n : ℕ) (line : Line) → is_input line.equation ≡ true → Place one n line → slice_get (input_lines 0 one.ports) n ≡ Some line
no_other_as one n line input (Place.of_input e) = e
no_other_as one n line input (Place.of_net at) = absurd (no_input_net one.ports (blank one.memories) at.before line input at.net)

begins_with_inputs : (one : Netlist) → Pieces one → BeginsWithInputs one.ports one.lines
begins_with_inputs one p = record {
  first = λ n x e. (
      let found = bare_at 0 one.lines n x (ap (λ (ls : List Line). slice_get ls n) p.lines_are ∙ slice_get-left (input_lines 0 one.ports) p.todo n x e) in
      first_as one n x found.0 (is_register found.0.equation) e found.1 found.2 refl
      );
  no_others = λ n line at input. (
      let plain = still_bare n line (input_no_register line.equation input) in
      no_other_as one n line input (place_of one n line p (bare_here one n line at ∙ ap (λ (l : Line). Some l) plain))
      );
}

-- the drivers

record DriverAt (lines : List Line) (ports : List PortLine) (k n : ℕ) : Type 0 where
  pub port : PortLine
  pub is : slice_get ports k ≡ Some port
  pub output : port.output ≡ true
  pub width : width_at lines n ≡ Some port.width

driver_here : (lines : List Line) (port : PortLine) (ports : List PortLine) (d : Option ℕ) (n : ℕ) → Drives lines port d → d ≡ Some n → DriverAt lines (port ∷ ports) 0 n
driver_here lines port ports d n (Drives.by_none output none) e = none_same n (sym none ∙ e)
driver_here lines port ports d n (Drives.by_net m output is width) e =
    let same : m ≡ n = some_same m n (sym is ∙ e) in
    record { port = port; is = refl; output = output; width = ap (width_at lines) (sym same) ∙ width }

driver_at : (lines : List Line) (ports : List PortLine) (drivers : List (Option ℕ)) (k n : ℕ) → AllDrive lines ports drivers → slice_index_or drivers k None ≡ Some n → DriverAt lines ports k n
driver_at lines [] [] k n all e = none_same n e
driver_at lines [] (d ∷ ds) k n all e = absurd all
driver_at lines (p ∷ ps) [] k n all e = absurd all
driver_at lines (p ∷ ps) (d ∷ ds) zero n all e = driver_here lines p ps d n all.0 e
driver_at lines (p ∷ ps) (d ∷ ds) (suc k) n all e =
    let more = driver_at lines ps ds k n all.1 e in
    record { port = more.port; is = more.is; output = more.output; width = more.width }

drives_at : (lines : List Line) (ports : List PortLine) (drivers : List (Option ℕ)) (k : ℕ) (port : PortLine) → AllDrive lines ports drivers → slice_get ports k ≡ Some port → Drives lines port (slice_index_or drivers k None)
drives_at lines [] drivers k port all e = none_same port e
drives_at lines (p ∷ ps) [] k port all e = absurd all
drives_at lines (p ∷ ps) (d ∷ ds) zero port all e = subst (λ (q : PortLine). Drives lines q d) (some_same p port e) all.0
drives_at lines (p ∷ ps) (d ∷ ds) (suc k) port all e = drives_at lines ps ds k port all.1 e

drive_length : (lines : List Line) (ports : List PortLine) (drivers : List (Option ℕ)) → AllDrive lines ports drivers → length drivers ≡ length ports
drive_length lines [] [] all = refl
drive_length lines [] (d ∷ ds) all = absurd all
drive_length lines (p ∷ ps) [] all = absurd all
drive_length lines (p ∷ ps) (d ∷ ds) all = ap suc (drive_length lines ps ds all.1)

is_driven : (lines : List Line) (port : PortLine) (d : Option ℕ) → port.output ≡ true → Drives lines port d → IsSome d
is_driven lines port d output (Drives.by_none input none) = absurd (true_false (sym output ∙ input))
is_driven lines port d output (Drives.by_net n out is width) = rw is refl

-- the memories

memory_sound : (one : Netlist) (memory : Memory) → Sized memory → Stored (bare 0 one.lines) memory → IsSoundMemory one.lines memory
memory_sound one memory size kept =
    let moved = λ (a w : ℕ) (e : width_at (bare 0 one.lines) a ≡ Some w). sym (bare_width 0 one.lines a) ∙ e in
    let write : IsWriteOf one.lines memory kept.write =
    record { enable = moved kept.write.enable 1 kept.good.enable; address = moved kept.write.address memory.address_bits kept.good.address; word = moved kept.write.word memory.width kept.good.word } in
    record {
      some_bit = size.some_bit;
      small = size.small;
      some_address = size.some_address;
      few_addresses = size.few_addresses;
      write = subst (λ (o : Option MemWrite). IfSome o (λ w. IsWriteOf one.lines memory w)) (sym kept.is) write;
    }

not_waiting : (line : Line) (lines : List Line) (n : ℕ) → line.waits ≡ true → (line.waits ≡ true → is_register line.equation ≡ true) → Clocked lines n line → ⊥
not_waiting line lines n waits register (Clocked.still plain) = true_false (sym (register waits) ∙ plain)
not_waiting line lines n waits register (Clocked.register w reset next is good width there) = true_false (sym waits ∙ ap (λ (l : Line). l.waits) is)

pub pieces_module : (one : Netlist) → Pieces one → IsModule one
pieces_module one p = record {
  well_made = record {
    header = p.header;
    few = p.few;
    inputs = begins_with_inputs one p;
    lines = λ n line at. sound_line one n line p at;
    places = drive_length (bare 0 one.lines) one.ports one.drivers p.drive;
    drivers = λ k n e. (
        let d = driver_at (bare 0 one.lines) one.ports one.drivers k n p.drive e in
        record { width = d.port.width; port = record { port = d.port; is = d.is; output = d.output; width = refl }; net = sym (bare_width 0 one.lines n) ∙ d.width }
        );
    few_memories = p.few_memories;
    memories = λ m memory at. memory_sound one memory (of_all Sized one.memories p.sizes m memory at) (of_all (Stored (bare 0 one.lines)) one.memories p.stored m memory at);
  };
  driven = λ k w o. is_driven (bare 0 one.lines) o.port (driver_of one k) o.output (drives_at (bare 0 one.lines) one.ports one.drivers k o.port p.drive o.is);
  clocked = λ n w. not_waiting w.line (bare 0 one.lines) n w.waits (sound_line one n w.line p w.is).waits (clocked_here one n w.line p w.is);
  written = λ m w. (let kept = of_all (Stored (bare 0 one.lines)) one.memories p.stored m w.memory w.is in none_same kept.write (sym w.waits ∙ kept.is));
}

-- the lines of inputs and nets, before they are clocked

all_bare_apart : (n : ℕ) (xs ys : List Line) → AllBare n xs → AllBare (n + length xs) ys → AllBare n (xs ++ ys)
all_bare_apart n [] ys left right = let here : n + 0 ≡ n = omega arith in subst (λ (k : ℕ). AllBare k ys) here right
all_bare_apart n (x ∷ xs) ys left right =
    let there : n + suc (length xs) ≡ (n + 1) + length xs = omega arith in
    (left.0, all_bare_apart (n + 1) xs ys left.1 (subst (λ (k : ℕ). AllBare k ys) there right))

still_all : (n : ℕ) (xs : List Line) → ((k : ℕ) (line : Line) → slice_get xs k ≡ Some line → is_register line.equation ≡ false) → AllBare n xs
still_all n [] plain = tt
still_all n (x ∷ xs) plain = (BareLine.still (plain 0 x refl), still_all (n + 1) xs (λ k line e. plain (suc k) line e))

net_bare : (ports : List PortLine) (memories : List Memory) (done : List Line) (line : Line) → NetLine ports memories done line → BareLine (length done) line
net_bare ports memories done line (NetLine.wire is) = BareLine.still is.right.no_register
net_bare ports memories done line (NetLine.register w some small is) = BareLine.register w some small is

nets_bare : (ports : List PortLine) (memories : List Memory) (done todo : List Line) → AreNets ports memories done todo → AllBare (length done) todo
nets_bare ports memories done [] are = tt
nets_bare ports memories done (x ∷ xs) are =
    (net_bare ports memories done x are.0, subst (λ (k : ℕ). AllBare k xs) (length-more done x) (nets_bare ports memories (done ++ x ∷ []) xs are.1))

pub inputs_small : (ports : List PortLine) (name : List ℕ) → IsHeader name ports → AllOf IsSmall (input_lines 0 ports)
inputs_small ports name header = all_of IsSmall (input_lines 0 ports) (λ n line e. (
    let at = input_at 0 ports n line e in
    let widths = all-slice_get (λ (port : PortLine). (1 ≤ port.width) × (port.width ≤ 128)) ports at.place at.port header.widths at.is in
    subst IsSmall (sym at.spelled) widths.1
    ))

blank_sizes : (memories kept : List Memory) → blank kept ≡ memories → AllOf Blank memories → AllOf Sized kept
blank_sizes memories [] is are = tt
blank_sizes memories (x ∷ xs) is are =
    let all : AllOf Blank (blank (x ∷ xs)) = subst (AllOf Blank) (sym is) are in
    (record { some_bit = all.0.size.some_bit; small = all.0.size.small; some_address = all.0.size.some_address; few_addresses = all.0.size.few_addresses }, blank_sizes (blank xs) xs refl all.1)

-- the sections in a row

pub record Whole (one : Netlist) (rest front : List ℕ) : Type 0 where
  pub is : IsModule one
  pub spelled : front ≡ text_of one
  pub ended : rest ≡ []

abbrev netlist_of : Netlist → List Line → List Memory → List (Option ℕ) → Netlist
netlist_of header clocked kept drivers = record header { lines = clocked; drivers = drivers; memories = kept }

record Behind (header : Netlist) (memories : List Memory) (lines : List Line) (one : Netlist) (rest front : List ℕ) : Type 0 where
  pub clocked : List Line
  pub kept : List Memory
  pub drivers : List (Option ℕ)
  pub is : netlist_of header clocked kept drivers ≡ one
  pub ended : rest ≡ []
  pub spelled : front ≡ clocked_text 0 clocked ++ (writes_text 0 kept ++ (assigns_text header.ports drivers ++ codes "endmodule\n"))
  pub lines_are : bare 0 clocked ≡ lines
  pub clocks : AllClocked lines 0 clocked
  pub memories_are : blank kept ≡ memories
  pub stored : AllOf (Stored lines) kept
  pub drive : AllDrive lines header.ports drivers

behind_walked : (header : Netlist) (memories : List Memory) (lines : List Line) (one : Netlist) (rest front : List ℕ) → length lines < 2 ^ 64 → length memories < 2 ^ 64 → AllBare 0 lines → AllOf Blank memories → Walked one rest (behind_nets_form header memories lines) front
    → Behind header memories lines one rest front
behind_walked header memories lines one rest front few few_memories are blanks d =
    let last = λ (clocked : List Line) (kept : List Memory) (drivers : List (Option ℕ)). (last_form memories lines (has_output header.ports) (netlist_of header clocked kept drivers)) in
    let assigns = λ (clocked : List Line) (kept : List Memory). (followed (all_driven_form memories lines false header.ports) (λ drivers. last clocked kept drivers)) in
    let writes = λ (clocked : List Line). (followed (all_written_form memories lines 0 memories) (λ kept. assigns clocked kept)) in
    let a = followed_walked one rest (all_clocked_form memories lines 0 lines) writes front d in
    let all : 0 + length lines ≤ length lines = omega arith in
    let clocked = all_clocked_walked memories lines 0 lines a.value (a.behind ++ rest) a.ahead few are all a.first in
    let b = followed_walked one rest (all_written_form memories lines 0 memories) (λ kept. assigns a.value kept) a.behind a.second in
    let stored = all_written_walked memories lines 0 memories b.value (b.behind ++ rest) b.ahead few few_memories blanks b.first in
    let c = followed_walked one rest (all_driven_form memories lines false header.ports) (λ drivers. last a.value b.value drivers) b.behind b.second in
    let driven = all_driven_walked memories lines false header.ports c.value (c.behind ++ rest) c.ahead few c.first in
    let end_ = last_walked memories lines (has_output header.ports) (netlist_of header a.value b.value c.value) one rest c.behind c.second in
    record {
      clocked = a.value;
      kept = b.value;
      drivers = c.value;
      is = end_.0;
      ended = end_.1;
      spelled = a.parts ∙ ap (λ (t : List ℕ). t ++ a.behind) clocked.spelled ∙ ap (λ (t : List ℕ). clocked_text 0 a.value ++ t) (b.parts ∙ ap (λ (t : List ℕ). t ++ b.behind) stored.spelled
          ∙ ap (λ (t : List ℕ). writes_text 0 b.value ++ t) (c.parts ∙ ap (λ (t : List ℕ). t ++ c.behind) driven.spelled ∙ ap (λ (t : List ℕ). assigns_text header.ports c.value ++ t) end_.2));
      lines_are = clocked.is;
      clocks = clocked.clocked;
      memories_are = stored.is;
      stored = stored.stored;
      drive = driven.drive;
    }

module_spelled : (one : Netlist) (todo : List Line) (memories : List Memory) (behind : List ℕ) → bare 0 one.lines ≡ input_lines 0 one.ports ++ todo → blank one.memories ≡ memories
    → behind ≡ clocked_text 0 one.lines ++ (writes_text 0 one.memories ++ (assigns_text one.ports one.drivers ++ codes "endmodule\n"))
    → header_text one ++ (memories_text 0 memories ++ (nets_text one.ports 0 (input_lines 0 one.ports) ++ (nets_text one.ports (length (input_lines 0 one.ports)) todo ++ behind))) ≡ text_of one
module_spelled one todo memories behind lines_are memories_are is =
    let inputs = input_lines 0 one.ports in
    let clocked = clocked_text 0 one.lines in
    let writes = writes_text 0 one.memories in
    let assigns = assigns_text one.ports one.drivers in
    let stored = memories_text 0 one.memories in
    let memory_text : memories_text 0 memories ≡ stored = ap (memories_text 0) (sym memories_are) ∙ blank_text 0 one.memories in
    ap (λ (t : List ℕ). header_text one ++ (t ++ (nets_text one.ports 0 inputs ++ (nets_text one.ports (length inputs) todo ++ behind)))) memory_text
    ∙ ap (λ (t : List ℕ). header_text one ++ (stored ++ (nets_text one.ports 0 inputs ++ (nets_text one.ports (length inputs) todo ++ t)))) is
    ∙ whole_text (header_text one) stored (nets_text one.ports 0 inputs) (nets_text one.ports (length inputs) todo) clocked writes assigns (codes "endmodule\n")
    ∙ ap (λ (t : List ℕ). header_text one ++ stored ++ t ++ clocked ++ writes ++ assigns ++ codes "endmodule\n") (nets_together one todo lines_are)

record NetsPart (header : Netlist) (memories : List Memory) (one : Netlist) (rest front : List ℕ) : Type 0 where
  pub todo : List Line
  pub behind : List ℕ
  pub spelled : front ≡ nets_text header.ports 0 (input_lines 0 header.ports) ++ (nets_text header.ports (length (input_lines 0 header.ports)) todo ++ behind)
  pub nets : AreNets header.ports memories (input_lines 0 header.ports) todo
  pub few : length (input_lines 0 header.ports) + length todo ≤ 2 ^ 20
  pub walked : Walked one rest (behind_nets_form header memories (input_lines 0 header.ports ++ todo)) behind

nets_part : (header : Netlist) (memories : List Memory) (one : Netlist) (rest front : List ℕ) → IsHeader header.name header.ports → length memories ≤ 2 ^ 16 → length (input_lines 0 header.ports) ≤ 2 ^ 20
    → Walked one rest (nets_behind header memories (input_lines 0 header.ports)) front
    → (todo : List Line) × (behind : List ℕ) × (front ≡ nets_text header.ports (length (input_lines 0 header.ports)) todo ++ behind) × AreNets header.ports memories (input_lines 0 header.ports) todo
    × (length (input_lines 0 header.ports) + length todo ≤ 2 ^ 20) × Walked one rest (behind_nets_form header memories (input_lines 0 header.ports ++ todo)) behind
nets_part header memories one rest front is few_memories few_inputs d =
    let inputs = input_lines 0 header.ports in
    let room : length inputs + (2 ^ 20 - length inputs) ≤ 2 ^ 20 = omega (arith, few_inputs) in
    let e = followed_walked one rest (nets_form (2 ^ 20 - length inputs) memories inputs) (λ lines. behind_nets_form header memories lines) front d in
    let nets = nets_walked header.ports (2 ^ 20 - length inputs) memories inputs e.value (e.behind ++ rest) e.ahead few_memories room (inputs_small header.ports header.name is) e.first in
    let fits : length inputs + length nets.todo ≤ 2 ^ 20 = omega (arith, few_inputs, nets.fits) in
    (nets.todo, e.behind, e.parts ∙ ap (λ (t : List ℕ). t ++ e.behind) nets.spelled, nets.are, fits, subst (λ (ls : List Line). Walked one rest (behind_nets_form header memories ls) e.behind) nets.is e.second)

inputs_part : (header : Netlist) (memories : List Memory) (one : Netlist) (rest front : List ℕ) → IsHeader header.name header.ports → length memories ≤ 2 ^ 16 → Walked one rest (inputs_behind header memories) front
    → NetsPart header memories one rest front
inputs_part header memories one rest front is few_memories d =
    let ports = header.ports in
    let inputs = input_lines 0 ports in
    let c = followed_walked one rest (inputs_form 0 0 ports) (nets_behind header memories) front d in
    let listed = inputs_walked ports 0 0 ports c.value (c.behind ++ rest) c.ahead (λ j port e. (ap (slice_get ports) (from_zero j) ∙ e)) c.first in
    let fits : 0 + length inputs ≤ 2 ^ 20 = listed.fits (omega arith) in
    let few_inputs : length inputs ≤ 2 ^ 20 = omega (arith, fits) in
    let (todo, behind, spelled, nets, few, walked) = nets_part header memories one rest c.behind is few_memories few_inputs (subst (λ (ls : List Line). Walked one rest (nets_behind header memories ls) c.behind) listed.is c.second) in
    record {
      todo = todo;
      behind = behind;
      spelled = c.parts ∙ ap (λ (t : List ℕ). t ++ c.behind) listed.spelled ∙ ap (λ (t : List ℕ). nets_text ports 0 inputs ++ t) spelled;
      nets = nets;
      few = few;
      walked = walked;
    }

record Declared (one : Netlist) (rest front : List ℕ) : Type 0 where
  pub header : Netlist
  pub memories : List Memory
  pub declared : List ℕ
  pub spelled : front ≡ header_text header ++ (memories_text 0 memories ++ declared)
  pub is : IsHeader header.name header.ports
  pub are : AllOf Blank memories
  pub few_memories : length memories ≤ 2 ^ 16
  pub nets : NetsPart header memories one rest declared

declared_walked : (one : Netlist) (rest front : List ℕ) → Walked one rest module_form front → Declared one rest front
declared_walked one rest front d =
    let a = followed_walked one rest header_form (λ h. followed (memories_form (2 ^ 16) 0) (inputs_behind h)) front d in
    let header = header_walked a.value (a.behind ++ rest) a.ahead a.first in
    let b = followed_walked one rest (memories_form (2 ^ 16) 0) (inputs_behind a.value) a.behind a.second in
    let stored = memories_walked (2 ^ 16) 0 b.value (b.behind ++ rest) b.ahead b.first in
    record {
      header = a.value;
      memories = b.value;
      declared = b.behind;
      spelled = a.parts ∙ ap (λ (t : List ℕ). t ++ a.behind) header.spelled ∙ ap (λ (t : List ℕ). header_text a.value ++ t) (b.parts ∙ ap (λ (t : List ℕ). t ++ b.behind) stored.spelled);
      is = header.is;
      are = stored.are;
      few_memories = stored.fits;
      nets = inputs_part a.value b.value one rest b.behind header.is stored.fits b.second;
    }

bares : (ports : List PortLine) (memories : List Memory) (todo : List Line) → AreNets ports memories (input_lines 0 ports) todo → AllBare 0 (input_lines 0 ports ++ todo)
bares ports memories todo nets =
    let inputs = input_lines 0 ports in
    all_bare_apart 0 inputs todo (still_all 0 inputs (λ k line at. input_still ports k line at)) (subst (λ (k : ℕ). AllBare k todo) (sym (from_zero (length inputs))) (nets_bare ports memories inputs todo nets))

count_same : (clocked inputs todo : List Line) → bare 0 clocked ≡ inputs ++ todo → length inputs + length todo ≤ 2 ^ 20 → length clocked ≤ 2 ^ 20
count_same clocked inputs todo is few =
    let counted : length clocked ≡ length inputs + length todo = sym (bare_length 0 clocked) ∙ ap (λ (ls : List Line). length ls) is ∙ length-append inputs todo in
    omega (arith, counted, few)

memories_same : (kept memories : List Memory) → blank kept ≡ memories → length memories ≤ 2 ^ 16 → length kept ≤ 2 ^ 16
memories_same kept memories is few =
    let counted : length kept ≡ length memories = sym (blank_length kept) ∙ ap (λ (ms : List Memory). length ms) is in
    omega (arith, counted, few)

whole_of : (header : Netlist) (memories : List Memory) (todo : List Line) (one : Netlist) (rest behind : List ℕ) → IsHeader header.name header.ports → AllOf Blank memories → length memories ≤ 2 ^ 16
    → AreNets header.ports memories (input_lines 0 header.ports) todo → length (input_lines 0 header.ports) + length todo ≤ 2 ^ 20
    → Behind header memories (input_lines 0 header.ports ++ todo) one rest behind
    → Whole one rest (header_text header ++ (memories_text 0 memories ++ (nets_text header.ports 0 (input_lines 0 header.ports) ++ (nets_text header.ports (length (input_lines 0 header.ports)) todo ++ behind))))
whole_of header memories todo one rest behind is are few_memories nets few f =
    let ports = header.ports in
    let inputs = input_lines 0 ports in
    let it = netlist_of header f.clocked f.kept f.drivers in
    let front = header_text header ++ (memories_text 0 memories ++ (nets_text ports 0 inputs ++ (nets_text ports (length inputs) todo ++ behind))) in
    let pieces : Pieces it = record {
      header = is;
      todo = todo;
      lines_are = f.lines_are;
      few = count_same f.clocked inputs todo f.lines_are few;
      nets = subst (λ (m : List Memory). AreNets ports m inputs todo) (sym f.memories_are) nets;
      clocked = subst (λ (ls : List Line). AllClocked ls 0 f.clocked) (sym f.lines_are) f.clocks;
      few_memories = memories_same f.kept memories f.memories_are few_memories;
      sizes = blank_sizes memories f.kept f.memories_are are;
      stored = subst (λ (ls : List Line). AllOf (Stored ls) f.kept) (sym f.lines_are) f.stored;
      drive = subst (λ (ls : List Line). AllDrive ls ports f.drivers) (sym f.lines_are) f.drive;
    } in
    let text : front ≡ text_of it = module_spelled it todo memories behind f.lines_are f.memories_are f.spelled in
    subst (λ (x : Netlist). Whole x rest front) f.is (record { is = pieces_module it pieces; spelled = text; ended = f.ended })

pub module_walked : (one : Netlist) (rest front : List ℕ) → Walked one rest module_form front → Whole one rest front
module_walked one rest front d =
    let a = declared_walked one rest front d in
    let n = a.nets in
    let ports = a.header.ports in
    let inputs = input_lines 0 ports in
    let few : length (inputs ++ n.todo) < 2 ^ 64 = omega (arith, n.few, length-append inputs n.todo) in
    let f = behind_walked a.header a.memories (inputs ++ n.todo) one rest n.behind few (omega (arith, a.few_memories)) (bares ports a.memories n.todo n.nets) a.are n.walked in
    let whole = whole_of a.header a.memories n.todo one rest n.behind a.is a.are a.few_memories n.nets n.few f in
    let text = a.spelled ∙ ap (λ (t : List ℕ). header_text a.header ++ (memories_text 0 a.memories ++ t)) n.spelled in
    record { is = whole.is; spelled = text ∙ whole.spelled; ended = whole.ended }

pub module_sound : (one : Netlist) (text rest : List ℕ) → Reads module_form text one rest → IsModule one × (text ≡ text_of one) × (rest ≡ [])
module_sound one text rest r =
    let w = module_walked one rest r.front r.good in
    (w.is, r.parts ∙ ap (λ (t : List ℕ). r.front ++ t) w.ended ∙ append-nil r.front ∙ w.spelled, w.ended)
