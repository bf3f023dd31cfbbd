-- The lines of a dump's text, as they are read.
use Rattle.std.proofs.Common.{◌≡◌, ℕ, zero, suc, ◌+◌, ◌^◌, ◌<◌, ◌≤◌, ◌==◌, ◌&&◌, ◌||◌, Bool, true, false, not, cond, inl, inr, List, [], ◌∷◌, ◌++◌, length, length-append, Some, codes, decimal, refl, sym, ap, subst, ◌∙◌, eq-eqb, append_assoc, arith}
use Rattle.std.specs.Prelude.{nat_lt, slice_set}
use Rattle.std.specs.List.{list_any}
use Rattle.std.specs.Str.{bytes_eq}
use Rattle.std.proofs.lemmas.Bool.{lt-ltb, le-ltb, ne_eqb, eqb-true, cases_lt}
use Rattle.std.proofs.Math.Seq.{set-append_seam, get_or-append_seam}
use Rattle.av_base.specs.Word.{Word, word}
use Rattle.vcd_text.specs.declared.port.DumpPort.{DumpPort}
use Rattle.vcd_text.specs.Text.{code, binary, value_line as line_of_value, change_line as line_of_change, values_text, changes_text, some_change}
use Rattle.vcd_text.specs.Dumps.{IsPort, IsValue}
use Rattle.vcd_reader.specs.declared.rule.Rule.TheVariants.{Name, Width, Code, Time, Value}
use Rattle.vcd_reader.specs.Found.{Found, followed, fixed, hole}
use Rattle.vcd_reader.specs.Spellings.{is_of_name, is_of_number, is_of_code, number_in, port_name_in, port_in, Spelled, value_in}
use Rattle.vcd_reader.specs.Readings.{begins, is_empty, port_line, coded, spelled_behind, spelled_line, judged_value, judged, value_line, first_values, width_at, bits_at, change_line, change_lines, time_line}
use Rattle.vcd_reader.proofs.Spell.{hole_read, decimal_run, number_read, binary_read, bit_read, code_run, code_read, port_read}

-- ---- the line of a port

port_text : (width code name end rest : List ℕ) → codes "var wire " ++ width ++ codes " " ++ code ++ codes " " ++ name ++ end ++ rest ≡ codes "var wire " ++ (width ++ (codes " " ++ (code ++ (codes " " ++ (name ++ (end ++ rest))))))
port_text width code name end rest = simp append_assoc

pub port_is_read : (ports : List DumpPort) (port : DumpPort) (rest : List ℕ) → IsPort port → list_any (λ (other : DumpPort). bytes_eq other.name port.name) ports ≡ false
    → port_line ports (codes "var wire " ++ (decimal port.width ++ (codes " " ++ (code (length ports) ++ (codes " " ++ (port.name ++ (codes " $end\n" ++ rest))))))) ≡ Found.told port rest
port_is_read ports port rest is new =
    let behind_name = codes " $end\n" ++ rest in
    let behind_code = codes " " ++ (port.name ++ behind_name) in
    let behind_width = codes " " ++ (code (length ports) ++ behind_code) in
    let width : hole is_of_number Width (number_in 0 128) (decimal port.width ++ behind_width) ≡ Found.told port.width behind_width =
    hole_read is_of_number Width (number_in 0 128) (decimal port.width) behind_width port.width (decimal_run port.width (let s = is.small in omega arith)) refl
    (number_read 0 128 port.width (let s = is.some_bit in omega arith) is.small (let s = is.small in omega arith)) in
    let coded : hole is_of_code Code (port_in (λ k. k == length ports)) (code (length ports) ++ behind_code) ≡ Found.told (length ports) behind_code =
    hole_read is_of_code Code (port_in (λ k. k == length ports)) (code (length ports)) behind_code (length ports) (code_run (length ports)) refl
    (code_read (λ k. k == length ports) (length ports) (eq-eqb (length ports) (length ports) refl)) in
    let named : hole is_of_name Name (port_name_in ports) (port.name ++ behind_name) ≡ Found.told port.name behind_name =
    hole_read is_of_name Name (port_name_in ports) port.name behind_name port.name is.name.bytes refl (port_read ports port.name is.name new) in
    rw (width, coded, named) refl

-- ---- the line of a value

code_is_read : (lets_in : ℕ → Bool) (spelled : Spelled) (k : ℕ) (rest : List ℕ) → lets_in k ≡ true → coded lets_in spelled (code k ++ (codes "\n" ++ rest)) ≡ Found.told (k, spelled) rest
code_is_read lets_in spelled k rest h =
    let here : hole is_of_code Code (port_in lets_in) (code k ++ (codes "\n" ++ rest)) ≡ Found.told k (codes "\n" ++ rest) =
    hole_read is_of_code Code (port_in lets_in) (code k) (codes "\n" ++ rest) k (code_run k) refl (code_read lets_in k h) in
    rw here refl

-- what a line spells of this value
pub record IsSpelled (lets_in : ℕ → Bool) (k : ℕ) (value : Word) (rest text : List ℕ) : Type 0 where
  pub spelled : Spelled
  pub is_read : spelled_line lets_in text ≡ Found.told (k, spelled) rest
  pub tells : value_in value.width spelled ≡ Some value

bit_is_spelled : (lets_in : ℕ → Bool) (k b : ℕ) (rest : List ℕ) → lets_in k ≡ true → b < 2 → IsSpelled lets_in k (word 1 b) rest ((48 + b) ∷ (code k ++ (codes "\n" ++ rest)))
bit_is_spelled lets_in k b rest h small = record {
  spelled = Spelled.bit (48 + b);
  is_read = ap (λ (t : Bool). spelled_behind lets_in (48 + b) t (code k ++ (codes "\n" ++ rest))) (ne_eqb (48 + b) 98 (λ e. omega arith)) ∙ code_is_read lets_in (Spelled.bit (48 + b)) k rest h;
  tells = bit_read b small;
}

digits_are_spelled : (lets_in : ℕ → Bool) (k width n : ℕ) (rest : List ℕ) → lets_in k ≡ true → 2 ≤ width → n < 2 ^ width
    → IsSpelled lets_in k (word width n) rest (98 ∷ (binary width n ++ (codes " " ++ (code k ++ (codes "\n" ++ rest)))))
digits_are_spelled lets_in k width n rest h wide few =
    let run = binary width n in
    let is = binary_read width n wide few in
    let behind = codes " " ++ (code k ++ (codes "\n" ++ rest)) in
    let here : hole is_of_number Value Some (run ++ behind) ≡ Found.told run behind = hole_read is_of_number Value Some run behind run is.run_is refl refl in
    record {
      spelled = Spelled.digits run;
      is_read = ap (λ (f : Found (List ℕ)). followed f (λ run text. followed (fixed (codes " ") text) (λ _ text. coded lets_in (Spelled.digits run) text))) here ∙ code_is_read lets_in (Spelled.digits run) k rest h;
      tells = is.tells;
    }

wide_text : (digits code rest : List ℕ) → codes "b" ++ digits ++ codes " " ++ code ++ codes "\n" ++ rest ≡ 98 ∷ (digits ++ (codes " " ++ (code ++ (codes "\n" ++ rest))))
wide_text digits code rest = simp append_assoc

line_by : (k : ℕ) (value : Word) (t : Bool) → (value.width == 1) ≡ t → line_of_value k value ≡ cond t ((48 + value.bits) ∷ (code k ++ codes "\n")) (codes "b" ++ binary value.width value.bits ++ codes " " ++ code k ++ codes "\n")
line_by k value t e = ap (λ (b : Bool). cond b ((48 + value.bits) ∷ (code k ++ codes "\n")) (codes "b" ++ binary value.width value.bits ++ codes " " ++ code k ++ codes "\n")) e

value_is_spelled : (lets_in : ℕ → Bool) (k : ℕ) (value : Word) (rest : List ℕ) → lets_in k ≡ true → IsValue value → IsSpelled lets_in k value rest (line_of_value k value ++ rest)
value_is_spelled lets_in k value rest h is =
    elim (cases_lt value.width 2) [
      | inl one ↦
          let width : value.width ≡ 1 = (let s = is.some_bit in omega arith) in
          let small : value.bits < 2 = subst (λ (w : ℕ). value.bits < 2 ^ w) width is.fits in
          let text : line_of_value k value ++ rest ≡ (48 + value.bits) ∷ (code k ++ (codes "\n" ++ rest)) =
          ap (λ (bs : List ℕ). bs ++ rest) (line_by k value true (eq-eqb value.width 1 width)) ∙ ap (λ (bs : List ℕ). (48 + value.bits) ∷ bs) (append_assoc (code k) (codes "\n") rest) in
          let same : word 1 value.bits ≡ value = ap (λ (w : ℕ). word w value.bits) (sym width) in
          subst (λ (bs : List ℕ). IsSpelled lets_in k value rest bs) (sym text)
          (subst (λ (v : Word). IsSpelled lets_in k v rest ((48 + value.bits) ∷ (code k ++ (codes "\n" ++ rest)))) same (bit_is_spelled lets_in k value.bits rest h small))
      | inr more ↦
          let text : line_of_value k value ++ rest ≡ 98 ∷ (binary value.width value.bits ++ (codes " " ++ (code k ++ (codes "\n" ++ rest)))) =
          ap (λ (bs : List ℕ). bs ++ rest) (line_by k value false (ne_eqb value.width 1 (λ e. omega arith))) ∙ wide_text (binary value.width value.bits) (code k) rest in
          subst (λ (bs : List ℕ). IsSpelled lets_in k value rest bs) (sym text) (digits_are_spelled lets_in k value.width value.bits rest h more is.fits)
    ]

pub value_is_read : (width : ℕ → ℕ) (lets_in : ℕ → Bool) (fits : ℕ → Word → Bool) (k : ℕ) (value : Word) (rest : List ℕ) → lets_in k ≡ true → IsValue value → width k ≡ value.width → fits k value ≡ true
    → value_line width lets_in fits (line_of_value k value ++ rest) ≡ Found.told (k, value) rest
value_is_read width lets_in fits k value rest h is wide fit =
    let text = line_of_value k value ++ rest in
    let line = value_is_spelled lets_in k value rest h is in
    ap (judged width fits text) line.is_read
    ∙ ap (λ (w : ℕ). judged_value fits text k rest (value_in w line.spelled)) wide
    ∙ ap (judged_value fits text k rest) line.tells
    ∙ ap (λ (t : Bool). cond t (Found.told (k, value) rest) (Found.broken text Value)) fit

-- a line of a value doesn't begin as that of a time
value_begins : (k : ℕ) (value : Word) (rest : List ℕ) → IsValue value → begins 35 (line_of_value k value ++ rest) ≡ false
value_begins k value rest is =
    elim (cases_lt value.width 2) [
      | inl one ↦
          let width : value.width ≡ 1 = (let s = is.some_bit in omega arith) in
          ap (λ (bs : List ℕ). begins 35 (bs ++ rest)) (line_by k value true (eq-eqb value.width 1 width)) ∙ ne_eqb (48 + value.bits) 35 (λ e. omega arith)
      | inr more ↦ ap (λ (bs : List ℕ). begins 35 (bs ++ rest)) (line_by k value false (ne_eqb value.width 1 (λ e. omega arith)))
    ]

-- ---- the first values

-- values of these widths
abbrev pub AreValues : List ℕ → List Word → Type 0
AreValues [] [] = Unit {0}
AreValues [] (value ∷ row) = ⊥
AreValues (width ∷ widths) [] = ⊥
AreValues (width ∷ widths) (value ∷ row) = (value.width ≡ width) × IsValue value × AreValues widths row

pub first_are_read : (k : ℕ) (widths : List ℕ) (row : List Word) (rest : List ℕ) → AreValues widths row → first_values k widths (values_text k row ++ rest) ≡ Found.told row rest
first_are_read k [] [] rest are = refl
first_are_read k [] (value ∷ row) rest are = absurd are
first_are_read k (width ∷ widths) [] rest are = absurd are
first_are_read k (width ∷ widths) (value ∷ row) rest are =
    let later = values_text (k + 1) row ++ rest in
    let here : value_line (λ _. width) (λ port. port == k) (λ _ _. true) (line_of_value k value ++ later) ≡ Found.told (k, value) later =
    value_is_read (λ _. width) (λ port. port == k) (λ _ _. true) k value later (eq-eqb k k refl) are.1 (sym are.0) refl in
    ap (first_values k (width ∷ widths)) (append_assoc (line_of_value k value) (values_text (k + 1) row) rest)
    ∙ ap (λ (f : Found (ℕ × Word)). followed f (λ line text. followed (first_values (k + 1) widths text) (λ values text. Found.told (line.1 ∷ values) text))) here
    ∙ ap (λ (f : Found (List Word)). followed f (λ values text. Found.told (value ∷ values) text)) (first_are_read (k + 1) widths row rest are.2)

-- ---- changes

pub change_by : (k : ℕ) (one value : Word) (t : Bool) → (value.bits == one.bits) ≡ t → line_of_change k one value ≡ cond t [] (line_of_value k value)
change_by k one value t e = ap (λ (b : Bool). cond b [] (line_of_value k value)) e

some_change_by : (one value : Word) (before now : List Word) (t : Bool) → (value.bits == one.bits) ≡ t → some_change (one ∷ before) (value ∷ now) ≡ (not t || some_change before now)
some_change_by one value before now t e = ap (λ (b : Bool). not b || some_change before now) e

same_value : (one value : Word) (width : ℕ) → one.width ≡ width → value.width ≡ width → value.bits ≡ one.bits → one ≡ value
same_value one value width e f g = ap (λ (w : ℕ). word w one.bits) (e ∙ sym f) ∙ ap (λ (b : ℕ). word value.width b) (sym g)

-- nothing is written where nothing changes
pub record IsStill (k : ℕ) (before now : List Word) : Type 0 where
  pub text : changes_text k before now ≡ []
  pub row : before ≡ now

still_more : (k width : ℕ) (one value : Word) (before now : List Word) (t : Bool) → (value.bits == one.bits) ≡ t → one.width ≡ width → value.width ≡ width → (not t || some_change before now) ≡ false
    → (some_change before now ≡ false → IsStill (k + 1) before now) → IsStill k (one ∷ before) (value ∷ now)
still_more k width one value before now true e f g none later =
    let rest = later none in
    let same = same_value one value width f g (eqb-true value.bits one.bits e) in
    record {
      text = ap (λ (bs : List ℕ). bs ++ changes_text (k + 1) before now) (change_by k one value true e) ∙ rest.text;
      row = ap (λ (v : Word). v ∷ before) same ∙ ap (λ (vs : List Word). value ∷ vs) rest.row;
    }
still_more k width one value before now false e f g none later = cc

pub is_still : (k : ℕ) (widths : List ℕ) (before now : List Word) → AreValues widths before → AreValues widths now → some_change before now ≡ false → IsStill k before now
is_still k [] [] [] b n none = record { text = refl; row = refl }
is_still k [] (one ∷ before) now b n none = absurd b
is_still k [] [] (value ∷ now) b n none = absurd n
is_still k (width ∷ widths) [] now b n none = absurd b
is_still k (width ∷ widths) (one ∷ before) [] b n none = absurd n
is_still k (width ∷ widths) (one ∷ before) (value ∷ now) b n none =
    still_more k width one value before now (value.bits == one.bits) refl b.0 n.0 none (λ h. is_still (k + 1) widths before now b.2 n.2 h)

-- else the text begins as that of a value
pub record BeginsWithValue (text : List ℕ) : Type 0 where
  pub no_time : begins 35 text ≡ false
  pub some : is_empty text ≡ false

value_is_some : (k : ℕ) (value : Word) (rest : List ℕ) → IsValue value → is_empty (line_of_value k value ++ rest) ≡ false
value_is_some k value rest is =
    elim (cases_lt value.width 2) [
      | inl one ↦
          let width : value.width ≡ 1 = (let s = is.some_bit in omega arith) in
          ap (λ (bs : List ℕ). is_empty (bs ++ rest)) (line_by k value true (eq-eqb value.width 1 width))
      | inr more ↦ ap (λ (bs : List ℕ). is_empty (bs ++ rest)) (line_by k value false (ne_eqb value.width 1 (λ e. omega arith)))
    ]

begins_more : (k : ℕ) (one value : Word) (before now : List Word) (rest : List ℕ) (t : Bool) → (value.bits == one.bits) ≡ t → IsValue value → (not t || some_change before now) ≡ true
    → (some_change before now ≡ true → BeginsWithValue (changes_text (k + 1) before now ++ rest)) → BeginsWithValue (changes_text k (one ∷ before) (value ∷ now) ++ rest)
begins_more k one value before now rest true e is some later =
    subst BeginsWithValue (ap (λ (bs : List ℕ). bs ++ changes_text (k + 1) before now ++ rest) (sym (change_by k one value true e))) (later some)
begins_more k one value before now rest false e is some later =
    let text : line_of_value k value ++ (changes_text (k + 1) before now ++ rest) ≡ changes_text k (one ∷ before) (value ∷ now) ++ rest =
    sym (append_assoc (line_of_value k value) (changes_text (k + 1) before now) rest) ∙ ap (λ (bs : List ℕ). bs ++ changes_text (k + 1) before now ++ rest) (sym (change_by k one value false e)) in
    subst BeginsWithValue text (record { no_time = value_begins k value (changes_text (k + 1) before now ++ rest) is; some = value_is_some k value (changes_text (k + 1) before now ++ rest) is })

pub changes_begin : (k : ℕ) (widths : List ℕ) (before now : List Word) (rest : List ℕ) → AreValues widths before → AreValues widths now → some_change before now ≡ true → BeginsWithValue (changes_text k before now ++ rest)
changes_begin k [] [] [] rest b n some = cc
changes_begin k [] (one ∷ before) now rest b n some = absurd b
changes_begin k [] [] (value ∷ now) rest b n some = absurd n
changes_begin k (width ∷ widths) [] now rest b n some = absurd b
changes_begin k (width ∷ widths) (one ∷ before) [] rest b n some = absurd n
changes_begin k (width ∷ widths) (one ∷ before) (value ∷ now) rest b n some =
    begins_more k one value before now rest (value.bits == one.bits) refl n.1 some (λ h. changes_begin (k + 1) widths before now rest b.2 n.2 h)

-- where the value at port k stays
stays : (few k next width : ℕ) (front later : List ℕ) (done before now : List Word) (one value : Word) (rest : List ℕ) → (value.bits == one.bits) ≡ true → one ≡ value
    → change_lines few ((front ++ width ∷ []) ++ later) next ((done ++ one ∷ []) ++ before) (changes_text (k + 1) before now ++ rest) ≡ Found.told ((done ++ one ∷ []) ++ now) rest
    → change_lines few (front ++ width ∷ later) next (done ++ one ∷ before) (changes_text k (one ∷ before) (value ∷ now) ++ rest) ≡ Found.told (done ++ value ∷ now) rest
stays few k next width front later done before now one value rest e same more =
    ap (λ (bs : List ℕ). change_lines few (front ++ width ∷ later) next (done ++ one ∷ before) (bs ++ changes_text (k + 1) before now ++ rest)) (change_by k one value true e)
    ∙ ap (λ (ws : List ℕ). change_lines few ws next (done ++ one ∷ before) (changes_text (k + 1) before now ++ rest)) (sym (append_assoc front (width ∷ []) later))
    ∙ ap (λ (vs : List Word). change_lines few ((front ++ width ∷ []) ++ later) next vs (changes_text (k + 1) before now ++ rest)) (sym (append_assoc done (one ∷ []) before))
    ∙ more
    ∙ ap (λ (vs : List Word). Found.told vs rest) (append_assoc done (one ∷ []) now)
    ∙ ap (λ (v : Word). Found.told (done ++ v ∷ now) rest) same

-- the line of port k, whose value changes
line_is_read : (few k next width : ℕ) (front later : List ℕ) (done before : List Word) (one value : Word) (rest : List ℕ) → length front ≡ k → length done ≡ k → next ≤ k
    → (value.bits == one.bits) ≡ false → value.width ≡ width → IsValue value
    → change_lines (suc few) (front ++ width ∷ later) next (done ++ one ∷ before) (line_of_value k value ++ rest)
    ≡ elim (begins 35 rest) [ true ↦ Found.told (done ++ value ∷ before) rest | false ↦ change_lines few (front ++ width ∷ later) (k + 1) (done ++ value ∷ before) rest ]
line_is_read few k next width front later done before one value rest fl dl low e wide is =
    let widths = front ++ width ∷ later in
    let row = done ++ one ∷ before in
    let at : width_at widths k ≡ value.width = ap (λ (n : ℕ). width_at widths n) (sym fl) ∙ get_or-append_seam front width later 0 ∙ sym wide in
    let old : bits_at row k ≡ one.bits = ap (λ (n : ℕ). bits_at row n) (sym dl) ∙ ap (λ (v : Word). v.bits) (get_or-append_seam done one before (word 0 0)) in
    let few_ports : k < length widths = omega (arith, fl, length-append front (width ∷ later)) in
    let let_in : (not (nat_lt k next) && nat_lt k (length widths)) ≡ true = ap (λ (t : Bool). not t && nat_lt k (length widths)) (le-ltb k next low) ∙ lt-ltb k (length widths) few_ports in
    let changes : not (value.bits == bits_at row k) ≡ true = ap (λ (b : ℕ). not (value.bits == b)) old ∙ ap not e in
    let here : change_line widths next row (line_of_value k value ++ rest) ≡ Found.told (k, value) rest =
    value_is_read (width_at widths) (λ port. not (nat_lt port next) && nat_lt port (length widths)) (λ port now. not (now.bits == bits_at row port)) k value rest let_in is at changes in
    let set : slice_set row k value ≡ done ++ value ∷ before = ap (λ (n : ℕ). slice_set row n value) (sym dl) ∙ set-append_seam done one before value in
    ap (λ (f : Found (ℕ × Word)). followed f (λ line text. elim (begins 35 text) [
      | true ↦ Found.told (slice_set row line.0 line.1) text
      | false ↦ change_lines few widths (line.0 + 1) (slice_set row line.0 line.1) text
    ])) here
    ∙ ap (λ (vs : List Word). elim (begins 35 rest) [ true ↦ Found.told vs rest | false ↦ change_lines few widths (k + 1) vs rest ]) set

-- where it changes
changes : (few k next width : ℕ) (front later : List ℕ) (done before now : List Word) (one value : Word) (rest : List ℕ) (some : Bool) → length front ≡ k → length done ≡ k → next ≤ k
    → (value.bits == one.bits) ≡ false → value.width ≡ width → IsValue value → AreValues later before → AreValues later now → begins 35 rest ≡ true → some_change before now ≡ some
    → (some_change before now ≡ true
    → change_lines few ((front ++ width ∷ []) ++ later) (k + 1) ((done ++ value ∷ []) ++ before) (changes_text (k + 1) before now ++ rest) ≡ Found.told ((done ++ value ∷ []) ++ now) rest)
    → change_lines (suc few) (front ++ width ∷ later) next (done ++ one ∷ before) (changes_text k (one ∷ before) (value ∷ now) ++ rest) ≡ Found.told (done ++ value ∷ now) rest
changes few k next width front later done before now one value rest true fl dl low e wide is b n hash some more =
    let behind = changes_text (k + 1) before now ++ rest in
    ap (λ (bs : List ℕ). change_lines (suc few) (front ++ width ∷ later) next (done ++ one ∷ before) (bs ++ changes_text (k + 1) before now ++ rest)) (change_by k one value false e)
    ∙ ap (λ (bs : List ℕ). change_lines (suc few) (front ++ width ∷ later) next (done ++ one ∷ before) bs) (append_assoc (line_of_value k value) (changes_text (k + 1) before now) rest)
    ∙ line_is_read few k next width front later done before one value behind fl dl low e wide is
    ∙ ap (λ (t : Bool). elim t [ true ↦ Found.told (done ++ value ∷ before) behind | false ↦ change_lines few (front ++ width ∷ later) (k + 1) (done ++ value ∷ before) behind ])
    (changes_begin (k + 1) later before now rest b n some).no_time
    ∙ ap (λ (ws : List ℕ). change_lines few ws (k + 1) (done ++ value ∷ before) behind) (sym (append_assoc front (width ∷ []) later))
    ∙ ap (λ (vs : List Word). change_lines few ((front ++ width ∷ []) ++ later) (k + 1) vs behind) (sym (append_assoc done (value ∷ []) before))
    ∙ more some
    ∙ ap (λ (vs : List Word). Found.told vs rest) (append_assoc done (value ∷ []) now)
changes few k next width front later done before now one value rest false fl dl low e wide is b n hash some more =
    let still = is_still (k + 1) later before now b n some in
    ap (λ (bs : List ℕ). change_lines (suc few) (front ++ width ∷ later) next (done ++ one ∷ before) (bs ++ changes_text (k + 1) before now ++ rest)) (change_by k one value false e)
    ∙ ap (λ (bs : List ℕ). change_lines (suc few) (front ++ width ∷ later) next (done ++ one ∷ before) bs) (append_assoc (line_of_value k value) (changes_text (k + 1) before now) rest)
    ∙ ap (λ (bs : List ℕ). change_lines (suc few) (front ++ width ∷ later) next (done ++ one ∷ before) (line_of_value k value ++ (bs ++ rest))) still.text
    ∙ line_is_read few k next width front later done before one value rest fl dl low e wide is
    ∙ ap (λ (t : Bool). elim t [ true ↦ Found.told (done ++ value ∷ before) rest | false ↦ change_lines few (front ++ width ∷ later) (k + 1) (done ++ value ∷ before) rest ]) hash
    ∙ ap (λ (vs : List Word). Found.told (done ++ value ∷ vs) rest) still.row

some_same : (t s : Bool) → t ≡ true → (not t || s) ≡ true → s ≡ true
some_same true s e h = h
some_same false s e h = cc

-- one more port
more_ports : (few k next width : ℕ) (front later : List ℕ) (done before now : List Word) (one value : Word) (rest : List ℕ) (t : Bool) → (value.bits == one.bits) ≡ t → length front ≡ k → length done ≡ k → next ≤ k
    → one.width ≡ width → value.width ≡ width → IsValue value → AreValues later before → AreValues later now → length (value ∷ now) < few → begins 35 rest ≡ true → some_change (one ∷ before) (value ∷ now) ≡ true
    → ((fewer onward : ℕ) (here : Word) → length now < fewer → onward ≤ k + 1 → some_change before now ≡ true
    → change_lines fewer ((front ++ width ∷ []) ++ later) onward ((done ++ here ∷ []) ++ before) (changes_text (k + 1) before now ++ rest) ≡ Found.told ((done ++ here ∷ []) ++ now) rest)
    → change_lines few (front ++ width ∷ later) next (done ++ one ∷ before) (changes_text k (one ∷ before) (value ∷ now) ++ rest) ≡ Found.told (done ++ value ∷ now) rest
more_ports few k next width front later done before now one value rest true e fl dl low w v is b n room hash some more =
    stays few k next width front later done before now one value rest e (same_value one value width w v (eqb-true value.bits one.bits e))
    (more few next one (omega arith) (omega arith) (some_same (value.bits == one.bits) (some_change before now) e some))
more_ports zero k next width front later done before now one value rest false e fl dl low w v is b n room hash some more = absurd (omega arith)
more_ports (suc few) k next width front later done before now one value rest false e fl dl low w v is b n room hash some more =
    changes few k next width front later done before now one value rest (some_change before now) fl dl low e v is b n hash refl (λ h. more few (k + 1) value (omega arith) (omega arith) h)

pub changes_are_read : (few k next : ℕ) (front later : List ℕ) (done before now : List Word) (rest : List ℕ) → length front ≡ k → length done ≡ k → next ≤ k
    → AreValues later before → AreValues later now → length now < few → begins 35 rest ≡ true → some_change before now ≡ true
    → change_lines few (front ++ later) next (done ++ before) (changes_text k before now ++ rest) ≡ Found.told (done ++ now) rest
changes_are_read few k next front [] done [] [] rest fl dl low b n room hash some = cc
changes_are_read few k next front [] done (one ∷ before) now rest fl dl low b n room hash some = absurd b
changes_are_read few k next front [] done [] (value ∷ now) rest fl dl low b n room hash some = absurd n
changes_are_read few k next front (width ∷ later) done [] now rest fl dl low b n room hash some = absurd b
changes_are_read few k next front (width ∷ later) done (one ∷ before) [] rest fl dl low b n room hash some = absurd n
changes_are_read few k next front (width ∷ later) done (one ∷ before) (value ∷ now) rest fl dl low b n room hash some =
    more_ports few k next width front later done before now one value rest (value.bits == one.bits) refl fl dl low b.0 n.0 n.1 b.2 n.2 room hash some
    (λ fewer onward here enough later_port h.
    changes_are_read fewer (k + 1) onward (front ++ width ∷ []) later (done ++ here ∷ []) before now rest (omega (arith, fl, length-append front (width ∷ []))) (omega (arith, dl, length-append done (here ∷ []))) later_port b.2 n.2 enough hash h)

-- ---- times

pub time_is_read : (last time : ℕ) (rest : List ℕ) → last < time → time ≤ 65536 → time_line last (codes "#" ++ (decimal time ++ (codes "\n" ++ rest))) ≡ Found.told time rest
time_is_read last time rest low high =
    let here : hole is_of_number Time (number_in last 65536) (decimal time ++ (codes "\n" ++ rest)) ≡ Found.told time (codes "\n" ++ rest) =
    hole_read is_of_number Time (number_in last 65536) (decimal time) (codes "\n" ++ rest) time (decimal_run time (omega arith)) refl (number_read last 65536 time low high (omega arith)) in
    rw here refl
