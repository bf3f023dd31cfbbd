-- What stands in a text where something is told of it.
use Rattle.std.proofs.Common.{◌≡◌, ℕ, suc, ◌+◌, ◌-◌, ◌*◌, ◌/◌, ◌%◌, ◌^◌, ◌<◌, ◌≤◌, ◌==◌, ◌&&◌, ◌||◌, Bool, true, false, not, cond, List, [], ◌∷◌, ◌++◌, take, drop, Option, Some, None, codes, decimal, refl, sym, ap, subst, ◌∙◌, append_assoc, arith}
use Rattle.std.specs.Prelude.{nat_lt, nat_eq, if◌then◌else◌}
use Rattle.std.specs.List.{list_all, list_any, prefix_len, ends_with}
use Rattle.std.specs.Str.{bytes_eq}
use Rattle.std.proofs.lemmas.Bool.{ne_eqb, eqb-true, ltb-true, and_parts}
use Rattle.std.proofs.lemmas.List.{take-append-drop}
use Rattle.std.proofs.lemmas.Slice.Eq.{bytes_eq-Decides}
use Rattle.av_base.specs.Word.{Word, word}
use Rattle.netlist.specs.Names.{is_name_byte, is_dollar, begins_with_letter, IsModuleName, IsPortName}
use Rattle.vcd_text.specs.declared.port.DumpPort.{DumpPort}
use Rattle.vcd_text.specs.Text.{code, binary, value_line as line_of_value}
use Rattle.vcd_text.specs.Dumps.{IsValue}
use Rattle.vcd_text.specs.CodeLaws.{code_low, code_high}
use Rattle.vcd_reader.specs.declared.rule.Rule.{Rule}
use Rattle.vcd_reader.specs.declared.rule.Rule.TheVariants.{OtherByte, Code, Value}
use Rattle.vcd_reader.specs.Found.{Found, followed, fixed, told_or, hole}
use Rattle.vcd_reader.specs.Spellings.{is_of_name, is_of_number, is_of_code, number_behind, number_in, module_name_in, port_name_in, port_number, port_in, Spelled, value_in}
use Rattle.vcd_reader.specs.Readings.{coded, spelled_behind, spelled_line, judged_value, judged, value_line}

-- ---- parts

-- a part that tells something, and what is told behind it
pub record Parted {A B : Type 0} (found : Found A) (next : A → List ℕ → Found B) (b : B) (rest : List ℕ) : Type 0 where
  pub value : A
  pub middle : List ℕ
  pub first : found ≡ Found.told value middle
  pub later : next value middle ≡ Found.told b rest

pub parted : {A B : Type 0} (found : Found A) (next : A → List ℕ → Found B) (b : B) (rest : List ℕ) → followed found next ≡ Found.told b rest → Parted found next b rest
parted (Found.told a middle) next b rest e = record { value = a; middle = middle; first = refl; later = e }
parted (Found.broken text rule) next b rest e = cc

-- the same is told, and the same text stands behind it
pub record SameTold {A : Type 0} (a b : A) (r s : List ℕ) : Type 0 where
  pub value : a ≡ b
  pub rest : r ≡ s

pub same_told : {A : Type 0} (a b : A) (r s : List ℕ) → Found.told a r ≡ Found.told b s → SameTold a b r s
same_told {A} a b r s e = record { value = cc; rest = cc }

fixed_by : (b c : ℕ) (bs text rest : List ℕ) (u : Unit {0}) (t : Bool) → (c == b) ≡ t → cond t (fixed bs text) (Found.broken (c ∷ text) OtherByte) ≡ Found.told u rest → (fixed bs text ≡ Found.told u rest → text ≡ bs ++ rest) → c ∷ text ≡ b ∷ (bs ++ rest)
fixed_by b c bs text rest u true same e later = ap (λ (x : ℕ). x ∷ text) (eqb-true c b same) ∙ ap (λ (xs : List ℕ). b ∷ xs) (later e)
fixed_by b c bs text rest u false same e later = cc

pub fixed_told : (bs text rest : List ℕ) (u : Unit {0}) → fixed bs text ≡ Found.told u rest → text ≡ bs ++ rest
fixed_told [] text rest u e = (same_told tt u text rest e).rest
fixed_told (b ∷ bs) [] rest u e = cc
fixed_told (b ∷ bs) (c ∷ text) rest u e = fixed_by b c bs text rest u (c == b) refl e (λ h. fixed_told bs text rest u h)

-- ---- holes

pub record IsHole {A : Type 0} (p : ℕ → Bool) (tells : List ℕ → Option A) (text : List ℕ) (a : A) (rest : List ℕ) : Type 0 where
  pub run : List ℕ
  pub is : text ≡ run ++ rest
  pub all : list_all p run ≡ true
  pub tells_it : tells run ≡ Some a

prefix_tested : (p : ℕ → Bool) (x : ℕ) (xs : List ℕ) (t : Bool) → p x ≡ t → list_all p (take (prefix_len p xs) xs) ≡ true → list_all p (take (cond t (1 + prefix_len p xs) 0) (x ∷ xs)) ≡ true
prefix_tested p x xs true e more =
    let one : 1 + prefix_len p xs ≡ suc (prefix_len p xs) = omega arith in
    ap (λ (k : ℕ). list_all p (take k (x ∷ xs))) one ∙ ap (λ (t : Bool). t && list_all p (take (prefix_len p xs) xs)) e ∙ more
prefix_tested p x xs false e more = refl

prefix_passes : (p : ℕ → Bool) (xs : List ℕ) → list_all p (take (prefix_len p xs) xs) ≡ true
prefix_passes p [] = refl
prefix_passes p (x ∷ xs) = prefix_tested p x xs (p x) refl (prefix_passes p xs)

told_or_told : {A : Type 0} (rule : Rule) (text r rest : List ℕ) (a : A) (o : Option A) → told_or rule text r o ≡ Found.told a rest → (o ≡ Some a) × (r ≡ rest)
told_or_told {A} rule text r rest a None e = cc
told_or_told {A} rule text r rest a (Some b) e = let same = same_told b a r rest e in (ap (λ (x : A). Some x) same.value, same.rest)

pub hole_told : {A : Type 0} (p : ℕ → Bool) (rule : Rule) (tells : List ℕ → Option A) (text : List ℕ) (a : A) (rest : List ℕ) → hole p rule tells text ≡ Found.told a rest → IsHole p tells text a rest
unfolding hole
hole_told {A} p rule tells text a rest e =
    let n = prefix_len p text in
    let parts = told_or_told rule text (drop n text) rest a (tells (take n text)) e in
    record {
      run = take n text;
      is = sym (take-append-drop n text) ∙ ap (λ (r : List ℕ). take n text ++ r) parts.1;
      all = prefix_passes p text;
      tells_it = parts.0;
    }

-- ---- what holes tell

pub record IsNumberTold (above most : ℕ) (run : List ℕ) (n : ℕ) : Type 0 where
  pub spelled : run ≡ decimal n
  pub low : above < n
  pub high : n ≤ most

some_same : (m n : ℕ) → Some m ≡ Some n → m ≡ n
some_same m n e = cc

number_by : (above most v n : ℕ) (run : List ℕ) (a b c : Bool) → bytes_eq run (decimal v) ≡ a → nat_lt above v ≡ b → nat_lt v (most + 1) ≡ c → (if a && (b && c) then Some v else None) ≡ Some n → IsNumberTold above most run n
number_by above most v n run true true true x y z e =
    let same = some_same v n e in
    record {
      spelled = (bytes_eq-Decides run (decimal v)).0 x ∙ ap (λ (m : ℕ). decimal m) same;
      low = omega (arith, ltb-true above v y, same);
      high = omega (arith, ltb-true v (most + 1) z, same);
    }
number_by above most v n run true true false x y z e = cc
number_by above most v n run true false c x y z e = cc
number_by above most v n run false b c x y z e = cc

pub number_told : (above most n : ℕ) (run : List ℕ) → number_in above most run ≡ Some n → IsNumberTold above most run n
number_told above most n run e =
    let v = number_behind 10 0 run in
    number_by above most v n run (bytes_eq run (decimal v)) (nat_lt above v) (nat_lt v (most + 1)) refl refl refl e

-- bytes of a code spell a port
code_of_bytes : (byte : ℕ) (more : List ℕ) → list_all is_of_code (byte ∷ more) ≡ true → byte ∷ more ≡ code (port_number (byte ∷ more))
code_of_bytes byte [] all =
    let parts = and_parts (is_of_code byte) true all in
    let range = and_parts (nat_lt 32 byte) (nat_lt byte 127) parts.0 in
    let low = ltb-true 32 byte range.0 in
    let high = ltb-true byte 127 range.1 in
    let is : 33 + (byte - 33) % 94 ≡ byte = omega (arith, low, high) in
    sym (code_low (byte - 33) (omega (arith, low, high)) ∙ ap (λ (b : ℕ). b ∷ []) is)
code_of_bytes byte (next ∷ more) all =
    let parts = and_parts (is_of_code byte) (list_all is_of_code (next ∷ more)) all in
    let range = and_parts (nat_lt 32 byte) (nat_lt byte 127) parts.0 in
    let low = ltb-true 32 byte range.0 in
    let high = ltb-true byte 127 range.1 in
    let m = port_number (next ∷ more) in
    let k = byte - 33 + 94 * (m + 1) in
    let first : 33 + k % 94 ≡ byte = omega (arith, low, high) in
    let later : k / 94 - 1 ≡ m = omega (arith, low, high) in
    sym (
    code_high k (omega arith) ∙ ap (λ (b : ℕ). b ∷ code (k / 94 - 1)) first ∙ ap (λ (j : ℕ). byte ∷ code j) later
    ∙ ap (λ (bs : List ℕ). byte ∷ bs) (sym (code_of_bytes next more parts.1))
    )

pub record IsPortTold (lets_in : ℕ → Bool) (run : List ℕ) (k : ℕ) : Type 0 where
  pub spelled : run ≡ code k
  pub let_in : lets_in k ≡ true

port_by : (lets_in : ℕ → Bool) (k m : ℕ) (run : List ℕ) (t : Bool) → lets_in m ≡ t → run ≡ code m → (if t then Some m else None) ≡ Some k → IsPortTold lets_in run k
port_by lets_in k m run true e is same =
    let here = some_same m k same in record { spelled = is ∙ ap code here; let_in = ap lets_in (sym here) ∙ e }
port_by lets_in k m run false e is same = cc

pub port_told : (lets_in : ℕ → Bool) (run : List ℕ) (k : ℕ) → list_all is_of_code run ≡ true → port_in lets_in run ≡ Some k → IsPortTold lets_in run k
port_told lets_in [] k all e = cc
port_told lets_in (byte ∷ more) k all e = port_by lets_in k (port_number (byte ∷ more)) (byte ∷ more) (lets_in (port_number (byte ∷ more))) refl (code_of_bytes byte more all) e

name_by : (a b c : Bool) (run name : List ℕ) → (if a && (b && c) then Some run else None) ≡ Some name → (a ≡ true) × (b ≡ true) × (c ≡ true) × (run ≡ name)
name_by true true true run name e = (refl, refl, refl, cc)
name_by true true false run name e = cc
name_by true false c run name e = cc
name_by false b c run name e = cc

pub module_told : (run name : List ℕ) → module_name_in run ≡ Some name → IsModuleName name × (run ≡ name)
module_told run name e =
    let parts = name_by (begins_with_letter run) (list_all is_name_byte run) (ends_with nat_eq run (codes "_interconnect")) run name e in
    (subst IsModuleName parts.3 (record { first = parts.0; bytes = parts.1; suffix = parts.2 }), parts.3)

pub record IsNameTold (ports : List DumpPort) (run name : List ℕ) : Type 0 where
  pub is_name : IsPortName name
  pub new : list_any (λ (port : DumpPort). bytes_eq port.name name) ports ≡ false
  pub same : run ≡ name

not_so : (t : Bool) → not t ≡ true → t ≡ false
not_so true h = sym h
not_so false h = refl

pub name_told : (ports : List DumpPort) (run name : List ℕ) → list_all is_of_name run ≡ true → port_name_in ports run ≡ Some name → IsNameTold ports run name
name_told ports run name all e =
    let parts = name_by (begins_with_letter run) (list_any is_dollar run) (not (list_any (λ (port : DumpPort). bytes_eq port.name run) ports)) run name e in
    let here : IsPortName run = record { first = parts.0; bytes = all; dollar = parts.1 } in
    record {
      is_name = subst IsPortName parts.3 here;
      new = ap (λ (n : List ℕ). list_any (λ (port : DumpPort). bytes_eq port.name n) ports) (sym parts.3) ∙ not_so (list_any (λ (port : DumpPort). bytes_eq port.name run) ports) parts.2;
      same = parts.3;
    }

-- ---- values

-- the text behind the first byte of a value's line, without the code
abbrev pub spelled_text : Spelled → List ℕ → List ℕ
spelled_text (Spelled.bit byte) coded = byte ∷ coded
spelled_text (Spelled.digits run) coded = 98 ∷ (run ++ (codes " " ++ coded))

pub record IsLineTold (lets_in : ℕ → Bool) (text : List ℕ) (line : ℕ × Spelled) (rest : List ℕ) : Type 0 where
  pub is : text ≡ spelled_text line.1 (code line.0 ++ (codes "\n" ++ rest))
  pub let_in : lets_in line.0 ≡ true

pub record IsCoded (lets_in : ℕ → Bool) (spelled : Spelled) (text : List ℕ) (line : ℕ × Spelled) (rest : List ℕ) : Type 0 where
  pub is : text ≡ code line.0 ++ (codes "\n" ++ rest)
  pub let_in : lets_in line.0 ≡ true
  pub same : spelled ≡ line.1

coded_told : (lets_in : ℕ → Bool) (spelled : Spelled) (text : List ℕ) (line : ℕ × Spelled) (rest : List ℕ) → coded lets_in spelled text ≡ Found.told line rest → IsCoded lets_in spelled text line rest
coded_told lets_in spelled text line rest e =
    let one = parted (hole is_of_code Code (port_in lets_in) text) (λ port text. followed (fixed (codes "\n") text) (λ _ text. Found.told (port, spelled) text)) line rest e in
    let two = parted (fixed (codes "\n") one.middle) (λ _ text. Found.told (one.value, spelled) text) line rest one.later in
    let here = hole_told is_of_code Code (port_in lets_in) text one.value one.middle one.first in
    let port = port_told lets_in here.run one.value here.all here.tells_it in
    let end = fixed_told (codes "\n") one.middle two.middle two.value two.first in
    let same = same_told (one.value, spelled) line two.middle rest two.later in
    let number : one.value ≡ line.0 = ap (λ (l : ℕ × Spelled). l.0) same.value in
    record {
      is = here.is ∙ ap (λ (bs : List ℕ). bs ++ one.middle) port.spelled ∙ ap (λ (m : ℕ). code m ++ one.middle) number
          ∙ ap (λ (bs : List ℕ). code line.0 ++ bs) (end ∙ ap (λ (bs : List ℕ). codes "\n" ++ bs) same.rest);
      let_in = ap lets_in (sym number) ∙ port.let_in;
      same = ap (λ (l : ℕ × Spelled). l.1) same.value;
    }

behind_told : (lets_in : ℕ → Bool) (byte : ℕ) (text : List ℕ) (line : ℕ × Spelled) (rest : List ℕ) (t : Bool) → (byte == 98) ≡ t → spelled_behind lets_in byte t text ≡ Found.told line rest → IsLineTold lets_in (byte ∷ text) line rest
behind_told lets_in byte text line rest true is e =
    let one = parted (hole is_of_number Value Some text) (λ run text. followed (fixed (codes " ") text) (λ _ text. coded lets_in (Spelled.digits run) text)) line rest e in
    let two = parted (fixed (codes " ") one.middle) (λ _ text. coded lets_in (Spelled.digits one.value) text) line rest one.later in
    let here = hole_told is_of_number Value Some text one.value one.middle one.first in
    let blank = fixed_told (codes " ") one.middle two.middle two.value two.first in
    let last = coded_told lets_in (Spelled.digits one.value) two.middle line rest two.later in
    let run : here.run ≡ one.value = (let t = here.tells_it in cc) in
    record {
      is = ap (λ (b : ℕ). b ∷ text) (eqb-true byte 98 is)
          ∙ ap (λ (bs : List ℕ). 98 ∷ bs) (here.is ∙ ap (λ (bs : List ℕ). bs ++ one.middle) run ∙ ap (λ (bs : List ℕ). one.value ++ bs) (blank ∙ ap (λ (bs : List ℕ). codes " " ++ bs) last.is))
          ∙ ap (λ (s : Spelled). spelled_text s (code line.0 ++ (codes "\n" ++ rest))) last.same;
      let_in = last.let_in;
    }
behind_told lets_in byte text line rest false is e =
    let last = coded_told lets_in (Spelled.bit byte) text line rest e in
    record {
      is = ap (λ (bs : List ℕ). byte ∷ bs) last.is ∙ ap (λ (s : Spelled). spelled_text s (code line.0 ++ (codes "\n" ++ rest))) last.same;
      let_in = last.let_in;
    }

line_told : (lets_in : ℕ → Bool) (text : List ℕ) (line : ℕ × Spelled) (rest : List ℕ) → spelled_line lets_in text ≡ Found.told line rest → IsLineTold lets_in text line rest
line_told lets_in [] line rest e = cc
line_told lets_in (byte ∷ text) line rest e = behind_told lets_in byte text line rest (byte == 98) refl e

-- a value of a width, and its line
pub record IsSpelledValue (width : ℕ) (spelled : Spelled) (value : Word) : Type 0 where
  pub wide : value.width ≡ width
  pub is_value : IsValue value
  pub line : (k : ℕ) (rest : List ℕ) → spelled_text spelled (code k ++ (codes "\n" ++ rest)) ≡ line_of_value k value ++ rest

bit_line : (b k : ℕ) (rest : List ℕ) → (48 + b) ∷ (code k ++ (codes "\n" ++ rest)) ≡ line_of_value k (word 1 b) ++ rest
bit_line b k rest = ap (λ (bs : List ℕ). (48 + b) ∷ bs) (sym (append_assoc (code k) (codes "\n") rest))

digits_line : (digits code rest : List ℕ) → 98 ∷ (digits ++ (codes " " ++ (code ++ (codes "\n" ++ rest)))) ≡ codes "b" ++ digits ++ codes " " ++ code ++ codes "\n" ++ rest
digits_line digits code rest = simp append_assoc

wide_line : (width n k : ℕ) (rest : List ℕ) → 1 < width → 98 ∷ (binary width n ++ (codes " " ++ (code k ++ (codes "\n" ++ rest)))) ≡ line_of_value k (word width n) ++ rest
wide_line width n k rest wide =
    digits_line (binary width n) (code k) rest
    ∙ ap (λ (t : Bool). cond t ((48 + n) ∷ (code k ++ codes "\n")) (codes "b" ++ binary width n ++ codes " " ++ code k ++ codes "\n") ++ rest) (sym (ne_eqb width 1 (λ e. omega arith)))

word_same : (one other : Word) → Some one ≡ Some other → one ≡ other
word_same one other e = cc

one_bit : (width b : ℕ) → width ≡ 1 → b < 2 → IsSpelledValue width (Spelled.bit (48 + b)) (word 1 b)
one_bit width b e small = record { wide = sym e; is_value = record { some_bit = omega arith; small = omega arith; fits = omega arith }; line = λ k rest. bit_line b k rest }

bit_by : (width byte : ℕ) (value : Word) (a z o : Bool) → (width == 1) ≡ a → (byte == 48) ≡ z → (byte == 49) ≡ o → (if a && (z || o) then Some (word 1 (byte - 48)) else None) ≡ Some value → IsSpelledValue width (Spelled.bit byte) value
bit_by width byte value true true o x y w e =
    let zero_byte = eqb-true byte 48 y in
    let is : word 1 0 ≡ value = ap (λ (b : ℕ). word 1 (b - 48)) (sym zero_byte) ∙ word_same (word 1 (byte - 48)) value e in
    subst (λ (v : Word). IsSpelledValue width (Spelled.bit byte) v) is (subst (λ (b : ℕ). IsSpelledValue width (Spelled.bit b) (word 1 0)) (sym zero_byte) (one_bit width 0 (eqb-true width 1 x) (omega arith)))
bit_by width byte value true false true x y w e =
    let one_byte = eqb-true byte 49 w in
    let is : word 1 1 ≡ value = ap (λ (b : ℕ). word 1 (b - 48)) (sym one_byte) ∙ word_same (word 1 (byte - 48)) value e in
    subst (λ (v : Word). IsSpelledValue width (Spelled.bit byte) v) is (subst (λ (b : ℕ). IsSpelledValue width (Spelled.bit b) (word 1 1)) (sym one_byte) (one_bit width 1 (eqb-true width 1 x) (omega arith)))
bit_by width byte value true false false x y w e = cc
bit_by width byte value false z o x y w e = cc

digits_by : (width n : ℕ) (run : List ℕ) (value : Word) (a b c : Bool) → 1 ≤ width → width ≤ 128 → nat_lt 1 width ≡ a → bytes_eq run (binary width n) ≡ b → nat_lt n (2 ^ width) ≡ c
    → (if a && (b && c) then Some (word width n) else None) ≡ Some value → IsSpelledValue width (Spelled.digits run) value
digits_by width n run value true true true some small x y z e =
    let is = word_same (word width n) value e in
    let wide = ltb-true 1 width x in
    let spelled = (bytes_eq-Decides run (binary width n)).0 y in
    let here : IsSpelledValue width (Spelled.digits run) (word width n) = record {
      wide = refl;
      is_value = record { some_bit = some; small = small; fits = ltb-true n (2 ^ width) z };
      line = λ k rest. ap (λ (bs : List ℕ). 98 ∷ (bs ++ (codes " " ++ (code k ++ (codes "\n" ++ rest))))) spelled ∙ wide_line width n k rest wide;
    } in
    subst (λ (v : Word). IsSpelledValue width (Spelled.digits run) v) is here
digits_by width n run value true true false some small x y z e = cc
digits_by width n run value true false c some small x y z e = cc
digits_by width n run value false b c some small x y z e = cc

value_told : (width : ℕ) (spelled : Spelled) (value : Word) → 1 ≤ width → width ≤ 128 → value_in width spelled ≡ Some value → IsSpelledValue width spelled value
value_told width (Spelled.bit byte) value some small e = bit_by width byte value (width == 1) (byte == 48) (byte == 49) refl refl refl e
value_told width (Spelled.digits run) value some small e =
    let n = number_behind 2 0 run in
    digits_by width n run value (nat_lt 1 width) (bytes_eq run (binary width n)) (nat_lt n (2 ^ width)) some small refl refl refl e

-- the line of a value
pub record IsValueTold (width : ℕ → ℕ) (lets_in : ℕ → Bool) (fits : ℕ → Word → Bool) (text : List ℕ) (line : ℕ × Word) (rest : List ℕ) : Type 0 where
  pub is : text ≡ line_of_value line.0 line.1 ++ rest
  pub let_in : lets_in line.0 ≡ true
  pub wide : line.1.width ≡ width line.0
  pub is_value : IsValue line.1
  pub fit : fits line.0 line.1 ≡ true

fits_by : (width : ℕ → ℕ) (lets_in : ℕ → Bool) (fits : ℕ → Word → Bool) (text r rest : List ℕ) (k : ℕ) (spelled : Spelled) (value : Word) (line : ℕ × Word) (t : Bool) → fits k value ≡ t → lets_in k ≡ true
    → text ≡ spelled_text spelled (code k ++ (codes "\n" ++ r)) → IsSpelledValue (width k) spelled value
    → (if t then Found.told (k, value) r else Found.broken text Value) ≡ Found.told line rest → IsValueTold width lets_in fits text line rest
fits_by width lets_in fits text r rest k spelled value line true e h is here told =
    let same = same_told (k, value) line r rest told in
    let known : IsValueTold width lets_in fits text (k, value) r = record { is = is ∙ here.line k r; let_in = h; wide = here.wide; is_value = here.is_value; fit = e } in
    subst (λ (x : List ℕ). IsValueTold width lets_in fits text line x) same.rest (subst (λ (l : ℕ × Word). IsValueTold width lets_in fits text l r) same.value known)
fits_by width lets_in fits text r rest k spelled value line false e h is here told = cc

judged_by : (width : ℕ → ℕ) (lets_in : ℕ → Bool) (fits : ℕ → Word → Bool) (text r rest : List ℕ) (spelled : ℕ × Spelled) (line : ℕ × Word) (o : Option Word) → 1 ≤ width spelled.0 → width spelled.0 ≤ 128 → value_in (width spelled.0) spelled.1 ≡ o
    → IsLineTold lets_in text spelled r → judged_value fits text spelled.0 r o ≡ Found.told line rest → IsValueTold width lets_in fits text line rest
judged_by width lets_in fits text r rest spelled line None some small e here told = cc
judged_by width lets_in fits text r rest spelled line (Some value) some small e here told =
    fits_by width lets_in fits text r rest spelled.0 spelled.1 value line (fits spelled.0 value) refl here.let_in here.is (value_told (width spelled.0) spelled.1 value some small e) told

judged_told : (width : ℕ → ℕ) (lets_in : ℕ → Bool) (fits : ℕ → Word → Bool) (text rest : List ℕ) (line : ℕ × Word) (found : Found (ℕ × Spelled)) → ((k : ℕ) → lets_in k ≡ true → (1 ≤ width k) × (width k ≤ 128)) → spelled_line lets_in text ≡ found
    → judged width fits text found ≡ Found.told line rest → IsValueTold width lets_in fits text line rest
judged_told width lets_in fits text rest line (Found.told spelled r) small e told =
    let here = line_told lets_in text spelled r e in
    let bits = small spelled.0 here.let_in in
    judged_by width lets_in fits text r rest spelled line (value_in (width spelled.0) spelled.1) bits.0 bits.1 refl here told
judged_told width lets_in fits text rest line (Found.broken r rule) small e told = cc

pub value_line_told : (width : ℕ → ℕ) (lets_in : ℕ → Bool) (fits : ℕ → Word → Bool) (text : List ℕ) (line : ℕ × Word) (rest : List ℕ) → ((k : ℕ) → lets_in k ≡ true → (1 ≤ width k) × (width k ≤ 128))
    → value_line width lets_in fits text ≡ Found.told line rest → IsValueTold width lets_in fits text line rest
value_line_told width lets_in fits text line rest small told = judged_told width lets_in fits text rest line (spelled_line lets_in text) small refl told
