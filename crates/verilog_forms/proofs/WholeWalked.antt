-- What is read of each section of a text.
use Rattle.std.proofs.Common.{◌≡◌, ℕ, zero, suc, ◌+◌, ◌<◌, ◌≤◌, ◌^◌, ◌&&◌, Bool, true, false, cond, not, List, [], ◌∷◌, ◌++◌, length, slice_get, Option, Some, None, inl, inr, refl, sym, ap, subst, ◌∙◌, arith, codes}
use Rattle.std.specs.Prelude.{nat_lt, if◌then◌else◌}
use Rattle.std.proofs.lemmas.Bool.{ltb-true}
use Rattle.std.proofs.lemmas.List.{append-nil, append_cancel_right}
use Rattle.netlist.specs.declared.line.Equation.TheVariants.{Input}
use Rattle.netlist.specs.declared.line.Line.{Line}
use Rattle.netlist.specs.declared.line.Memory.{Memory}
use Rattle.netlist.specs.declared.line.MemWrite.{MemWrite}
use Rattle.netlist.specs.declared.line.PortLine.{PortLine}
use Rattle.netlist.specs.Netlists.{is_register, input_lines, line_of}
use Rattle.verilog_writer.specs.Text.{memories_text, memory_line, nets_text, net_line, wire_line, register_line, clocked_text, clocked_line, writes_text, written_line, assigns_text, assign_line}
use Rattle.verilog_forms.specs.declared.rule.Rule.TheVariants.{Name, Spelling, TooManyNets}
use Rattle.verilog_forms.specs.Forms.{Form, next, fixed, followed}
use Rattle.verilog_forms.specs.RegisterLines.{untold, register_form}
use Rattle.verilog_forms.specs.WireLines.{range_form, wire_form}
use Rattle.verilog_forms.specs.MemoryLines.{memory_form}
use Rattle.verilog_forms.specs.Headers.{is_next}
use Rattle.verilog_forms.specs.InputLines.{input_form}
use Rattle.verilog_forms.specs.ClockedLines.{none_clocked_form, clock_form, write_form, assign_form}
use Rattle.verilog_forms.specs.WholeTexts.{is_wire_line, is_reg_line, is_net_line, is_memory_line, listed, told, late_memory_form, memories_form, room_form, inputs_form, nets_form, clocked_form, all_clocked_form, written, all_written_form, driven, all_driven_form, nothing_form, last_form}
use Rattle.verilog_forms.specs.Spellings.{true_false}
use Rattle.verilog_forms.proofs.Lines.{net_wire}
use Rattle.verilog_forms.specs.Walked.{inverted, Walked, room_walked}
use Rattle.verilog_forms.proofs.RightSound.{cond_walked, fixed_walked}
use Rattle.verilog_forms.proofs.PortLines.{pushed_same}
use Rattle.verilog_forms.proofs.Followed.{followed_walked, ranged_walked}
use Rattle.verilog_forms.proofs.WireLines.{wire_walked}
use Rattle.verilog_forms.proofs.RegisterLines.{register_sound}
use Rattle.verilog_forms.proofs.MemoryLines.{memory_sound}
use Rattle.verilog_forms.proofs.InputLines.{input_walked}
use Rattle.verilog_forms.proofs.ClockedLines.{clock_walked, write_walked, assign_walked, none_clocked}
use Rattle.verilog_forms.proofs.ModuleLines.{AllOf, all_more, told_walked, listed_walked, walked_reads, bare_line, bare, blank_of, blank, still_bare}
use Rattle.verilog_forms.proofs.ModuleReads.{Sized, StandFrom, stands_first, stand_behind, NetLine, AreNets, IsSmall, behind_of, net_small, length-more, Clocked, AllClocked, no_clocked_line, Stored, Drives, AllDrive, one_driven_form}

-- memories

pub record Blank (memory : Memory) : Type 0 where
  pub size : Sized memory
  pub unwritten : memory.write ≡ None

pub record MemoriesRead (few m : ℕ) (memories : List Memory) (front : List ℕ) : Type 0 where
  pub spelled : front ≡ memories_text m memories
  pub are : AllOf Blank memories
  pub fits : length memories ≤ few

no_late_memory : {X : Type 0} (memories : List Memory) (rest front : List ℕ) → Walked memories rest late_memory_form front → X
no_late_memory memories rest front d =
    let reg = fixed_walked memories rest (codes "  reg ") (range_form (λ w. fixed (codes " m") (Form.refuse Spelling))) front d in
    let range = ranged_walked memories rest (λ w. fixed (codes " m") (Form.refuse Spelling)) reg.0 reg.2 in
    let name = fixed_walked memories rest (codes " m") (Form.refuse Spelling) range.later range.walked in
    absurd (inverted memories refl name.2)

no_memories : (few m : ℕ) (memories : List Memory) (rest front : List ℕ) → Walked memories rest (Form.whole []) front → MemoriesRead few m memories front
no_memories few m memories rest front d =
    let last = inverted memories refl d in
    subst (λ (ms : List Memory). MemoriesRead few m ms front) last.0 (record { spelled = last.1; are = tt; fits = omega arith })

pub memories_walked : (few m : ℕ) (memories : List Memory) (rest front : List ℕ) → Walked memories rest (memories_form few m) front → MemoriesRead few m memories front
memories_walked zero m memories rest front d =
    elim (cond_walked memories rest (is_memory_line (front ++ rest)) late_memory_form (Form.whole []) front (inverted memories refl d)) [
      | inl late ↦ no_late_memory memories rest front late
      | inr none ↦ no_memories 0 m memories rest front none
    ]
memories_walked (suc few) m memories rest front d =
    elim (cond_walked memories rest (is_memory_line (front ++ rest)) (listed (memory_form m) (memories_form few (m + 1))) (Form.whole []) front (inverted memories refl d)) [
      | inl one ↦
          let l = listed_walked (memory_form m) (memories_form few (m + 1)) memories rest front one in
          let here = memory_sound [] m l.x (l.ahead ++ (l.behind ++ rest)) (l.behind ++ rest) (walked_reads (memory_form m) l.x (l.behind ++ rest) l.ahead l.first) in
          let line = append_cancel_right l.ahead (memory_line m l.x) (l.behind ++ rest) here.2 in
          let more = memories_walked few (m + 1) l.xs rest l.behind l.second in
          let size : Sized l.x = record { some_bit = here.0.some_bit; small = here.0.small; some_address = here.0.some_address; few_addresses = here.0.few_addresses } in
          subst (λ (ms : List Memory). MemoriesRead (suc few) m ms front) l.is (record {
            spelled = l.parts ∙ ap (λ (t : List ℕ). t ++ l.behind) line ∙ ap (λ (t : List ℕ). memory_line m l.x ++ t) more.spelled;
            are = (record { size = size; unwritten = here.1 }, more.are);
            fits = omega (arith, more.fits);
          })
      | inr none ↦ no_memories (suc few) m memories rest front none
    ]

-- inputs

pub record InputsRead (all : List PortLine) (n k : ℕ) (ports : List PortLine) (lines : List Line) (front : List ℕ) : Type 0 where
  pub is : lines ≡ input_lines k ports
  pub spelled : front ≡ nets_text all n (input_lines k ports)
  pub fits : n ≤ 2 ^ 20 → n + length (input_lines k ports) ≤ 2 ^ 20

inputs_walked_as : (all : List PortLine) (n k : ℕ) (name : List ℕ) (w : ℕ) (output : Bool) (ports : List PortLine) (lines : List Line) (rest front : List ℕ) → (let port : PortLine = record { name = name; width = w; output = output } in slice_get all k ≡ Some port)
    → ((m : ℕ) (more : List Line) (back : List ℕ) → Walked more rest (inputs_form m (k + 1) ports) back → InputsRead all m (k + 1) ports more back)
    → (let port : PortLine = record { name = name; width = w; output = output } in Walked lines rest (inputs_form n k (port ∷ ports)) front)
    → (let port : PortLine = record { name = name; width = w; output = output } in InputsRead all n k (port ∷ ports) lines front)
inputs_walked_as all n k name w true ports lines rest front at later d =
    let more = later n lines front d in
    record { is = more.is; spelled = more.spelled; fits = more.fits }
inputs_walked_as all n k name w false ports lines rest front at later d =
    let port : PortLine = record { name = name; width = w; output = false } in
    let room = room_walked n (listed (input_form n k port) (inputs_form (n + 1) (k + 1) ports)) lines rest front d in
    let l = listed_walked (input_form n k port) (inputs_form (n + 1) (k + 1) ports) lines rest front room.1 in
    let here = input_walked all n k port l.x (l.behind ++ rest) l.ahead at l.first in
    let more = later (n + 1) l.xs l.behind l.second in
    let begun : front ≡ wire_line all n w (Input k) ++ l.behind = l.parts ∙ ap (λ (t : List ℕ). t ++ l.behind) here.1 in
    let below : n < 2 ^ 20 = room.0 (ap (λ (t : List ℕ). is_net_line (t ++ rest)) begun) in
    let fits = more.fits (omega (arith, below)) in
    record {
      is = sym l.is ∙ ap (λ (x : Line). x ∷ l.xs) here.0 ∙ ap (λ (xs : List Line). line_of w (Input k) ∷ xs) more.is;
      spelled = begun ∙ ap (λ (t : List ℕ). wire_line all n w (Input k) ++ t) more.spelled;
      fits = λ h. omega (arith, fits);
    }

pub inputs_walked : (all : List PortLine) (n k : ℕ) (ports : List PortLine) (lines : List Line) (rest front : List ℕ) → StandFrom all k ports → Walked lines rest (inputs_form n k ports) front → InputsRead all n k ports lines front
inputs_walked all n k [] lines rest front stand d =
    let last = inverted lines refl d in
    record { is = sym last.0; spelled = last.1; fits = λ h. omega (arith, h) }
inputs_walked all n k (port ∷ ports) lines rest front stand d =
    inputs_walked_as all n k port.name port.width port.output ports lines rest front (stands_first all k port ports stand) (λ m more back w. inputs_walked all m (k + 1) ports more rest back (stand_behind all k port ports stand) w) d

-- nets

pub record NetsRead (ports : List PortLine) (few : ℕ) (memories : List Memory) (done all : List Line) (front : List ℕ) : Type 0 where
  pub todo : List Line
  pub is : all ≡ done ++ todo
  pub spelled : front ≡ nets_text ports (length done) todo
  pub are : AreNets ports memories done todo
  pub fits : length todo ≤ few

no_nets : (ports : List PortLine) (few : ℕ) (memories : List Memory) (done all : List Line) (rest front : List ℕ) → Walked all rest (Form.whole done) front → NetsRead ports few memories done all front
no_nets ports few memories done all rest front d =
    let last = inverted all refl d in
    record { todo = []; is = sym last.0 ∙ sym (append-nil done); spelled = last.1; are = tt; fits = omega arith }

one_net : (ports : List PortLine) (few : ℕ) (memories : List Memory) (done all : List Line) (line : Line) (front behind : List ℕ) → NetLine ports memories done line → front ≡ net_line ports (length done) line ++ behind
    → NetsRead ports few memories (done ++ line ∷ []) all behind → NetsRead ports (suc few) memories done all front
one_net ports few memories done all line front behind net begun more = record {
  todo = line ∷ more.todo;
  is = more.is ∙ pushed_same done line more.todo;
  spelled = begun ∙ ap (λ (t : List ℕ). net_line ports (length done) line ++ t) (more.spelled ∙ ap (λ (k : ℕ). nets_text ports k more.todo) (length-more done line));
  are = (net, more.are);
  fits = omega (arith, more.fits);
}

pub nets_walked : (ports : List PortLine) (few : ℕ) (memories : List Memory) (done all : List Line) (rest front : List ℕ) → length memories ≤ 2 ^ 16 → length done + few ≤ 2 ^ 20 → AllOf IsSmall done
    → Walked all rest (nets_form few memories done) front → NetsRead ports few memories done all front
nets_walked ports zero memories done all rest front few_memories room small d =
    elim (cond_walked all rest (is_net_line (front ++ rest)) (Form.refuse TooManyNets) (Form.whole done) front (inverted all refl d)) [
      | inl full ↦ absurd (inverted all refl full)
      | inr none ↦ no_nets ports 0 memories done all rest front none
    ]
nets_walked ports (suc few) memories done all rest front few_memories room small d =
    let n = length done in
    let next_form = λ (line : Line). (nets_form few memories (done ++ line ∷ [])) in
    let register = followed (register_form n) next_form in
    let grown = λ (line : Line). (let counted : length (done ++ line ∷ []) + few ≤ 2 ^ 20 = omega (arith, room, length-more done line) in counted) in
    elim (cond_walked all rest (is_wire_line (front ++ rest)) (followed (wire_form memories done n) next_form) (if is_reg_line (front ++ rest) then register else Form.whole done) front (inverted all refl d)) [
      | inl wire ↦
          let apart = followed_walked all rest (wire_form memories done n) next_form front wire in
          let m = wire_walked ports memories done n apart.value (apart.behind ++ rest) apart.ahead (behind_of memories done few_memories (omega (arith, room)) small) apart.first in
          let net = NetLine.wire m.wire in
          let more = nets_walked ports few memories (done ++ apart.value ∷ []) all rest apart.behind few_memories (grown apart.value) (all_more IsSmall done apart.value small m.wire.small) apart.second in
          one_net ports few memories done all apart.value front apart.behind net
          (apart.parts ∙ ap (λ (t : List ℕ). t ++ apart.behind) (m.spelled ∙ sym (net_wire ports n apart.value m.wire.right.no_register))) more
      | inr other ↦ elim (cond_walked all rest (is_reg_line (front ++ rest)) register (Form.whole done) front other) [
        | inl reg ↦
            let apart = followed_walked all rest (register_form n) next_form front reg in
            let (w, some, narrow, is, text) = register_sound n apart.value (apart.ahead ++ (apart.behind ++ rest)) (apart.behind ++ rest) (walked_reads (register_form n) apart.value (apart.behind ++ rest) apart.ahead apart.first) in
            let line = append_cancel_right apart.ahead (register_line n w) (apart.behind ++ rest) text in
            let net : NetLine ports memories done apart.value = NetLine.register w some narrow is in
            let more = nets_walked ports few memories (done ++ apart.value ∷ []) all rest apart.behind few_memories (grown apart.value) (all_more IsSmall done apart.value small (net_small ports memories done apart.value net)) apart.second in
            one_net ports few memories done all apart.value front apart.behind net
            (apart.parts ∙ ap (λ (t : List ℕ). t ++ apart.behind) line ∙ ap (λ (l : Line). net_line ports n l ++ apart.behind) (sym is)) more
        | inr none ↦ no_nets ports (suc few) memories done all rest front none
      ]
    ]

-- clocked lines of registers

pub data BareLine (n : ℕ) (line : Line) : Type 0 where
  still : is_register line.equation ≡ false → BareLine n line
  register : (w : ℕ) → 1 ≤ w → w ≤ 128 → line ≡ untold n w → BareLine n line

abbrev pub AllBare : ℕ → List Line → Type 0
AllBare n [] = Unit {0}
AllBare n (line ∷ lines) = BareLine n line × AllBare (n + 1) lines

record ClockedRead (lines : List Line) (n : ℕ) (line out : Line) (front : List ℕ) : Type 0 where
  pub is : bare_line n out ≡ line
  pub spelled : front ≡ clocked_line n out.equation
  pub clocked : Clocked lines n out

clocked_walked : (memories : List Memory) (lines : List Line) (n : ℕ) (line out : Line) (rest front : List ℕ) → length lines < 2 ^ 64 → BareLine n line → n < length lines → Walked out rest (clocked_form memories lines n line) front → ClockedRead lines n line out front
clocked_walked memories lines n line out rest front few (BareLine.still plain) there d =
    let last = inverted out refl (subst (λ (t : Bool). Walked out rest (cond t (clock_form memories lines n line.width) (Form.whole line)) front) plain d) in
    subst (λ (x : Line). ClockedRead lines n line x front) last.0
    (record { is = still_bare n line plain; spelled = last.1 ∙ sym (no_clocked_line n line.equation plain); clocked = Clocked.still plain })
clocked_walked memories lines n line out rest front few (BareLine.register w some small is) there d =
    let m = clock_walked memories lines n w out rest front few some small (subst (λ (l : Line). Walked out rest (clocked_form memories lines n l) front) is d) in
    record {
      is = ap (bare_line n) m.is ∙ sym is;
      spelled = m.spelled ∙ ap (λ (l : Line). clocked_line n l.equation) (sym m.is);
      clocked = Clocked.register w m.value m.next m.is m.good m.width there;
    }

pub record AllClockedRead (lines : List Line) (n : ℕ) (todo out : List Line) (front : List ℕ) : Type 0 where
  pub is : bare n out ≡ todo
  pub spelled : front ≡ clocked_text n out
  pub clocked : AllClocked lines n out

pub all_clocked_walked : (memories : List Memory) (lines : List Line) (n : ℕ) (todo out : List Line) (rest front : List ℕ) → length lines < 2 ^ 64 → AllBare n todo → n + length todo ≤ length lines → Walked out rest (all_clocked_form memories lines n todo) front
    → AllClockedRead lines n todo out front
all_clocked_walked memories lines n [] out rest front few are fits d =
    let last = inverted out refl d in
    subst (λ (x : List Line). AllClockedRead lines n [] x front) last.0 (record { is = refl; spelled = last.1; clocked = tt })
all_clocked_walked memories lines n (line ∷ others) out rest front few are fits d =
    let l = listed_walked (clocked_form memories lines n line) (all_clocked_form memories lines (n + 1) others) out rest front d in
    let here = clocked_walked memories lines n line l.x (l.behind ++ rest) l.ahead few are.0 (omega (arith, fits)) l.first in
    let more = all_clocked_walked memories lines (n + 1) others l.xs rest l.behind few are.1 (omega (arith, fits)) l.second in
    subst (λ (x : List Line). AllClockedRead lines n (line ∷ others) x front) l.is (record {
      is = ap (λ (x : Line). x ∷ bare (n + 1) l.xs) here.is ∙ ap (λ (xs : List Line). line ∷ xs) more.is;
      spelled = l.parts ∙ ap (λ (t : List ℕ). t ++ l.behind) here.spelled ∙ ap (λ (t : List ℕ). clocked_line n l.x.equation ++ t) more.spelled;
      clocked = (here.clocked, more.clocked);
    })

-- clocked lines of memories

blank_is : (memory : Memory) → memory.write ≡ None → blank_of memory ≡ memory
blank_is memory none = ap (λ (o : Option MemWrite). (let x : Memory = record { width = memory.width; address_bits = memory.address_bits; write = o } in x)) (sym none)

pub record AllWrittenRead (lines : List Line) (m : ℕ) (todo out : List Memory) (front : List ℕ) : Type 0 where
  pub is : blank out ≡ todo
  pub spelled : front ≡ writes_text m out
  pub stored : AllOf (Stored lines) out

pub all_written_walked : (memories : List Memory) (lines : List Line) (m : ℕ) (todo out : List Memory) (rest front : List ℕ) → length lines < 2 ^ 64 → length memories < 2 ^ 64 → AllOf Blank todo → Walked out rest (all_written_form memories lines m todo) front → AllWrittenRead lines m todo out front
all_written_walked memories lines m [] out rest front few few_memories are d =
    let last = inverted out refl d in
    subst (λ (x : List Memory). AllWrittenRead lines m [] x front) last.0 (record { is = refl; spelled = last.1; stored = tt })
all_written_walked memories lines m (x ∷ xs) out rest front few few_memories are d =
    let form = write_form memories lines m x in
    let l = listed_walked (told form (written x)) (all_written_form memories lines (m + 1) xs) out rest front d in
    let one = told_walked form (written x) l.x (l.behind ++ rest) l.ahead l.first in
    let write = one.value in
    let w = write_walked memories lines m x write (l.behind ++ rest) l.ahead few few_memories one.walked in
    let more = all_written_walked memories lines (m + 1) xs l.xs rest l.behind few few_memories are.1 l.second in
    let same : blank_of l.x ≡ x = ap blank_of (sym one.is) ∙ blank_is x are.0.unwritten in
    let line : l.ahead ≡ written_line m l.x.write = w.spelled ∙ ap (λ (y : Memory). written_line m y.write) one.is in
    let kept : Stored lines l.x = subst (Stored lines) one.is (record { write = write; is = refl; good = record { enable = w.good.enable; address = w.good.address; word = w.good.word } }) in
    subst (λ (y : List Memory). AllWrittenRead lines m (x ∷ xs) y front) l.is (record {
      is = ap (λ (y : Memory). y ∷ blank l.xs) same ∙ ap (λ (ys : List Memory). x ∷ ys) more.is;
      spelled = l.parts ∙ ap (λ (t : List ℕ). t ++ l.behind) line ∙ ap (λ (t : List ℕ). written_line m l.x.write ++ t) more.spelled;
      stored = (kept, more.stored);
    })

-- lines of outputs

pub record AllDrivenRead (lines : List Line) (ports : List PortLine) (out : List (Option ℕ)) (front : List ℕ) : Type 0 where
  pub spelled : front ≡ assigns_text ports out
  pub drive : AllDrive lines ports out

no_assign : (port : PortLine) (driver : Option ℕ) → driver ≡ None → assign_line port driver ≡ []
no_assign port driver is = ap (assign_line port) is

driven_walked : (memories : List Memory) (lines : List Line) (assigned : Bool) (port : PortLine) (ports : List PortLine) (out : List (Option ℕ)) (rest front : List ℕ) (b : Bool) → length lines < 2 ^ 64 → port.output ≡ b
    → ((c : Bool) (others : List (Option ℕ)) (back : List ℕ) → Walked others rest (all_driven_form memories lines c ports) back → AllDrivenRead lines ports others back)
    → Walked out rest (one_driven_form memories lines assigned port (all_driven_form memories lines true ports) (all_driven_form memories lines assigned ports) b) front → AllDrivenRead lines (port ∷ ports) out front
driven_walked memories lines assigned port ports out rest front true few output later d =
    let form = assign_form memories lines assigned port in
    let l = listed_walked (told form driven) (all_driven_form memories lines true ports) out rest front d in
    let one = told_walked form driven l.x (l.behind ++ rest) l.ahead l.first in
    let m = assign_walked memories lines assigned port one.value (l.behind ++ rest) l.ahead few output one.walked in
    let more = later true l.xs l.behind l.second in
    subst (λ (x : List (Option ℕ)). AllDrivenRead lines (port ∷ ports) x front) l.is (record {
      spelled = l.parts ∙ ap (λ (t : List ℕ). t ++ l.behind) (m.spelled ∙ ap (assign_line port) one.is) ∙ ap (λ (t : List ℕ). assign_line port l.x ++ t) more.spelled;
      drive = (Drives.by_net one.value output (sym one.is) m.width, more.drive);
    })
driven_walked memories lines assigned port ports out rest front false few output later d =
    let l = listed_walked (Form.whole None) (all_driven_form memories lines assigned ports) out rest front d in
    let here = inverted (l.x) refl l.first in
    let more = later assigned l.xs l.behind l.second in
    subst (λ (x : List (Option ℕ)). AllDrivenRead lines (port ∷ ports) x front) l.is (record {
      spelled = l.parts ∙ ap (λ (t : List ℕ). t ++ l.behind) (here.1 ∙ sym (no_assign port l.x (sym here.0))) ∙ ap (λ (t : List ℕ). assign_line port l.x ++ t) more.spelled;
      drive = (Drives.by_none output (sym here.0), more.drive);
    })

pub all_driven_walked : (memories : List Memory) (lines : List Line) (assigned : Bool) (ports : List PortLine) (out : List (Option ℕ)) (rest front : List ℕ) → length lines < 2 ^ 64 → Walked out rest (all_driven_form memories lines assigned ports) front → AllDrivenRead lines ports out front
all_driven_walked memories lines assigned [] out rest front few d =
    let last = inverted out refl d in
    subst (λ (x : List (Option ℕ)). AllDrivenRead lines [] x front) last.0 (record { spelled = last.1; drive = tt })
all_driven_walked memories lines assigned (port ∷ ports) out rest front few d =
    driven_walked memories lines assigned port ports out rest front port.output few refl (λ c others back w. all_driven_walked memories lines c ports others rest back few w) d

-- the last line

nothing_walked : {A : Type 0} (a b : A) (rest later text : List ℕ) → text ≡ later ++ rest → Walked b rest (nothing_form a (next text)) later → (a ≡ b) × (rest ≡ []) × (later ≡ [])
nothing_walked a b rest later [] at d =
    let last = inverted b refl d in
    (last.0, sym (at ∙ ap (λ (t : List ℕ). t ++ rest) last.1), last.1)
nothing_walked a b rest later (c ∷ text) at d = absurd (inverted b refl d)

pub last_walked : {A : Type 0} (memories : List Memory) (lines : List Line) (assigned : Bool) (a b : A) (rest front : List ℕ) → Walked b rest (last_form memories lines assigned a) front → (a ≡ b) × (rest ≡ []) × (front ≡ codes "endmodule\n")
last_walked {A} memories lines assigned a b rest front d =
    let over : Form A = fixed (codes "ssign ") (Form.refuse Name) in
    let blank_form : Form A = fixed (codes "  a") (Form.turn (none_clocked_form memories lines assigned over)) in
    elim (cond_walked b rest (is_next (codes " ") (next (front ++ rest))) blank_form (fixed (codes "endmodule\n") (Form.turn (nothing_form a))) front (inverted b refl d)) [
      | inl blanks ↦
          let begun = fixed_walked b rest (codes "  a") (Form.turn (none_clocked_form memories lines assigned over)) front blanks in
          let word = none_clocked memories lines assigned over (next (begun.0 ++ rest)) b rest begun.0 (inverted b refl begun.2) in
          let name = fixed_walked b rest (codes "ssign ") (Form.refuse Name) begun.0 word in
          absurd (inverted b refl name.2)
      | inr ends ↦
          let word = fixed_walked b rest (codes "endmodule\n") (Form.turn (nothing_form a)) front ends in
          let last = nothing_walked a b rest word.0 (word.0 ++ rest) refl (inverted b refl word.2) in
          (last.0, last.1, word.1 ∙ ap (λ (t : List ℕ). codes "endmodule\n" ++ t) last.2)
    ]
