-- Lines of values, step by step.
use Rattle.std.proofs.Common.{◌≡◌, ℕ, zero, suc, ◌+◌, ◌-◌, ◌<◌, ◌≤◌, ◌==◌, ◌&&◌, Bool, true, false, not, cond, List, [], ◌∷◌, ◌++◌, length, length-append, take, drop, get_or, Option, Some, None, codes, inl, inr, refl, sym, ap, ◌∙◌, append_assoc, append-nil, arith}
use Rattle.std.specs.Prelude.{nat_lt, slice_set, slice_index_or}
use Rattle.std.specs.List.{prefix_len}
use Rattle.std.proofs.lemmas.Bool.{lt-ltb, le-ltb, ne_eqb, eq-eqb, cases_lt, false≢true}
use Rattle.std.proofs.lemmas.List.{length-map, drop_all, take_all}
use Rattle.std.proofs.Math.Seq.{drop-cons}
use Rattle.av_base.specs.Word.{Word, word}
use Rattle.vcd_text.specs.declared.port.DumpPort.{DumpPort}
use Rattle.vcd_text.specs.Dumps.{widths_of}
use Rattle.vcd_reader.specs.declared.rule.Rule.{Rule}
use Rattle.vcd_reader.specs.declared.rule.Rule.TheVariants.{Value}
use Rattle.vcd_reader.specs.Found.{Found, followed, fixed, hole}
use Rattle.vcd_reader.specs.Spellings.{is_of_number, Spelled, value_in}
use Rattle.vcd_reader.specs.Readings.{begins, coded, spelled_behind, spelled_line, judged_value, judged, value_line, first_values, width_at, bits_at, change_line, change_lines}
use Rattle.vcd_reader.specs.Reads.{LetsIn, Suits, valued, changed, changed_row}
use Rattle.vcd_reader.proofs.Told.{same_told}
use Rattle.vcd_reader.proofs.Steps.{on_told, on_broken, followed_twice, hole_tells}

-- ---- values of lines

abbrev pub spelled_found : ℕ → Spelled → List ℕ → Found (ℕ × Spelled)
spelled_found port spelled rest = Found.told (port, spelled) rest

pub valued_told : (width : ℕ → ℕ) (found : Found (ℕ × Spelled)) (port w : ℕ) (spelled : Spelled) (value : Option Word) (rest : List ℕ) → found ≡ Found.told (port, spelled) rest → width port ≡ w → value ≡ value_in w spelled
    → valued width found ≡ Found.told (port, value) rest
valued_told width found port w spelled value rest e is told =
    ap (valued width) e ∙ ap (λ (v : Option Word). Found.told (port, v) rest) (ap (λ (k : ℕ). value_in k spelled) is ∙ sym told)

pub valued_broken : (width : ℕ → ℕ) (found : Found (ℕ × Spelled)) (rest : List ℕ) (rule : Rule) → found ≡ Found.broken rest rule → valued width found ≡ Found.broken rest rule
valued_broken width found rest rule e = ap (valued width) e

judged_by_value : (width : ℕ → ℕ) (fits : ℕ → Word → Bool) (text : List ℕ) (found : Found (ℕ × Spelled)) (port : ℕ) (value : Option Word) (rest : List ℕ) → valued width found ≡ Found.told (port, value) rest
    → judged width fits text found ≡ judged_value fits text port rest value
judged_by_value width fits text (Found.told line middle) port value rest e =
    let same = same_told (line.0, value_in (width line.0) line.1) (port, value) middle rest e in
    ap (λ (v : ℕ × Option Word). judged_value fits text v.0 middle v.1) same.value ∙ ap (λ (r : List ℕ). judged_value fits text port r value) same.rest
judged_by_value width fits text (Found.broken middle rule) port value rest e = cc

pub value_line_judged : (width : ℕ → ℕ) (lets_in : ℕ → Bool) (fits : ℕ → Word → Bool) (text : List ℕ) (port : ℕ) (value : Option Word) (rest : List ℕ) → valued width (spelled_line lets_in text) ≡ Found.told (port, value) rest
    → value_line width lets_in fits text ≡ judged_value fits text port rest value
value_line_judged width lets_in fits text port value rest e = judged_by_value width fits text (spelled_line lets_in text) port value rest e

judged_broken : (width : ℕ → ℕ) (fits : ℕ → Word → Bool) (text : List ℕ) (found : Found (ℕ × Spelled)) (rest : List ℕ) (rule : Rule) → valued width found ≡ Found.broken rest rule → judged width fits text found ≡ Found.broken rest rule
judged_broken width fits text (Found.told line middle) rest rule e = cc
judged_broken width fits text (Found.broken middle other) rest rule e = broken_same middle rest other rule e
  where
    broken_same : (r s : List ℕ) (one two : Rule) → ◌≡◌ {A = Found (ℕ × Option Word)} (Found.broken r one) (Found.broken s two) → ◌≡◌ {A = Found (ℕ × Word)} (Found.broken r one) (Found.broken s two)
    broken_same r s one two e = let a : r ≡ s = cc in let b : one ≡ two = cc in ap (λ (x : List ℕ). Found.broken x one) a ∙ ap (Found.broken s) b

pub value_line_broken : (width : ℕ → ℕ) (lets_in : ℕ → Bool) (fits : ℕ → Word → Bool) (text rest : List ℕ) (rule : Rule) → valued width (spelled_line lets_in text) ≡ Found.broken rest rule → value_line width lets_in fits text ≡ Found.broken rest rule
value_line_broken width lets_in fits text rest rule e = judged_broken width fits text (spelled_line lets_in text) rest rule e

-- what stands behind a `b`
pub digits_go_on : (lets_in : ℕ → Bool) (text behind middle run : List ℕ) (found : Found (ℕ × Spelled)) → run ≡ take (prefix_len is_of_number text) text → behind ≡ drop (prefix_len is_of_number text) text
    → fixed (codes " ") behind ≡ Found.told tt middle → coded lets_in (Spelled.digits run) middle ≡ found → spelled_behind lets_in 98 true text ≡ found
digits_go_on lets_in text behind middle run found is rest blank code =
    on_told (hole is_of_number Value Some text) (λ run text. followed (fixed (codes " ") text) (λ _ text. coded lets_in (Spelled.digits run) text)) run behind found (hole_tells is_of_number Value Some text run behind run is rest refl)
    (on_told (fixed (codes " ") behind) (λ _ text. coded lets_in (Spelled.digits run) text) tt middle found blank code)

pub digits_break : (lets_in : ℕ → Bool) (text behind middle run : List ℕ) (rule : Rule) → run ≡ take (prefix_len is_of_number text) text → behind ≡ drop (prefix_len is_of_number text) text
    → fixed (codes " ") behind ≡ Found.broken middle rule → spelled_behind lets_in 98 true text ≡ Found.broken middle rule
digits_break lets_in text behind middle run rule is rest blank =
    on_told (hole is_of_number Value Some text) (λ run text. followed (fixed (codes " ") text) (λ _ text. coded lets_in (Spelled.digits run) text)) run behind (Found.broken middle rule)
    (hole_tells is_of_number Value Some text run behind run is rest refl)
    (on_broken (fixed (codes " ") behind) (λ _ text. coded lets_in (Spelled.digits run) text) middle rule blank)

pub first_of : (text : List ℕ) → 1 ≤ length text → text ≡ get_or text 0 0 ∷ take (length text - 1) (drop 1 text)
first_of [] h = absurd (omega arith)
first_of (byte ∷ text) h = let few : length text ≤ length (byte ∷ text) - 1 = omega arith in ap (λ (t : List ℕ). byte ∷ t) (sym (take_all (length (byte ∷ text) - 1) text few))

pub other_line : (lets_in : ℕ → Bool) (text rest : List ℕ) (byte : ℕ) → text ≡ byte ∷ rest → (byte ≡ 98 → ⊥) → spelled_line lets_in text ≡ spelled_behind lets_in byte false rest
other_line lets_in text rest byte is other = ap (spelled_line lets_in) is ∙ ap (λ (t : Bool). spelled_behind lets_in byte t rest) (ne_eqb byte 98 other)

-- a value that fits where it isn't the one before
changed_by : (text : List ℕ) (row : List Word) (port : ℕ) (rest : List ℕ) (value : Word) (t : Bool) → (value.bits == bits_at row port) ≡ t
    → cond (not t) (Found.told (port, value) rest) (Found.broken text Value) ≡ judged_value (λ _ _. true) text port rest (cond t None (Some value))
changed_by text row port rest value true e = refl
changed_by text row port rest value false e = refl

pub judged_change : (text : List ℕ) (row : List Word) (port : ℕ) (rest : List ℕ) (value : Option Word)
    → judged_value (λ port value. not (value.bits == bits_at row port)) text port rest value ≡ judged_value (λ _ _. true) text port rest (changed (slice_index_or row port (word 0 0)) value)
judged_change text row port rest None = refl
judged_change text row port rest (Some value) = changed_by text row port rest value (value.bits == bits_at row port) refl

-- ---- ports that are let in

only_by : (p k : ℕ) → (p == k) ≡ (not (nat_lt p k) && nat_lt p (k + 1))
only_by p k =
    elim (cases_lt p k) [
      | inl less ↦ ne_eqb p k (λ e. omega arith) ∙ sym (ap (λ (t : Bool). not t && nat_lt p (k + 1)) (lt-ltb p k less))
      | inr more ↦ elim (cases_lt k p) [
        | inl above ↦ ne_eqb p k (λ e. omega arith) ∙ sym (ap (λ (t : Bool). not t && nat_lt p (k + 1)) (le-ltb p k more) ∙ le-ltb p (k + 1) (omega arith))
        | inr same ↦ eq-eqb p k (omega arith) ∙ sym (ap (λ (t : Bool). not t && nat_lt p (k + 1)) (le-ltb p k more) ∙ lt-ltb p (k + 1) (omega arith))
      ]
    ]

pub next_port : (number count : ℕ) → number ≡ count → LetsIn number (number + 1) (λ k. k == count)
next_port number count is = record { is = λ p. ap (λ (n : ℕ). p == n) (sym is) ∙ only_by p number }

pub width_of : (ports : List DumpPort) (k : ℕ) (d : DumpPort) → k < length ports → width_at (widths_of ports) k ≡ (get_or ports k d).width
width_of [] k d h = absurd (omega arith)
width_of (port ∷ ports) zero d h = refl
width_of (port ∷ ports) (suc k) d h = width_of ports k d (omega arith)

pub this_port : (widths : List ℕ) (number k w : ℕ) → number ≡ k → w ≡ width_at widths k → Suits widths number (number + 1) (λ _. w) (λ port. port == k)
this_port widths number k w here is = record {
  lets = record { is = λ p. ap (λ (n : ℕ). p == n) (sym here) ∙ only_by p number };
  same = λ p low high. (let one : k ≡ p = omega arith in is ∙ ap (width_at widths) one);
}

pub later_ports : (ports : List DumpPort) (next : ℕ) → Suits (widths_of ports) next (length ports) (width_at (widths_of ports)) (λ port. not (nat_lt port next) && nat_lt port (length (widths_of ports)))
later_ports ports next = record {
  lets = record { is = λ k. ap (λ (n : ℕ). not (nat_lt k next) && nat_lt k n) (length-map ports (λ (port : DumpPort). port.width)) };
  same = λ k low high. refl;
}

pub change_broken : (ports : List DumpPort) (next : ℕ) (row : List Word) (text rest : List ℕ) (rule : Rule)
    → valued (width_at (widths_of ports)) (spelled_line (λ port. not (nat_lt port next) && nat_lt port (length (widths_of ports))) text) ≡ Found.broken rest rule → change_line (widths_of ports) next row text ≡ Found.broken rest rule
change_broken ports next row text rest rule e =
    value_line_broken (width_at (widths_of ports)) (λ port. not (nat_lt port next) && nat_lt port (length (widths_of ports))) (λ port value. not (value.bits == bits_at row port)) text rest rule e

pub change_told : (ports : List DumpPort) (next : ℕ) (row : List Word) (text middle : List ℕ) (port : ℕ) (value : Option Word) (found : Found (ℕ × Word))
    → valued (width_at (widths_of ports)) (spelled_line (λ port. not (nat_lt port next) && nat_lt port (length (widths_of ports))) text) ≡ Found.told (port, value) middle
    → judged_value (λ _ _. true) text port middle (changed (slice_index_or row port (word 0 0)) value) ≡ found → change_line (widths_of ports) next row text ≡ found
change_told ports next row text middle port value found e more =
    value_line_judged (width_at (widths_of ports)) (λ port. not (nat_lt port next) && nat_lt port (length (widths_of ports))) (λ port value. not (value.bits == bits_at row port)) text port value middle e
    ∙ judged_change text row port middle value ∙ more

-- ---- the first values

same_found : {A : Type 0} (found : Found A) → followed found (λ a text. Found.told a text) ≡ found
same_found (Found.told a rest) = refl
same_found (Found.broken rest rule) = refl

alike : {A B : Type 0} (found : Found A) (one other : A → List ℕ → Found B) → ((a : A) (rest : List ℕ) → one a rest ≡ other a rest) → followed found one ≡ followed found other
alike (Found.told a rest) one other same = same a rest
alike (Found.broken rest rule) one other same = refl

-- what first values are behind those of a row
abbrev pub values_behind : List ℕ → List Word → List ℕ → Found (List Word)
values_behind widths row text = followed (first_values (length row) (drop (length row) widths) text) (λ values text. Found.told (row ++ values) text)

pub no_values : (widths : List ℕ) (text : List ℕ) → first_values 0 widths text ≡ values_behind widths [] text
no_values widths text = sym (same_found (first_values 0 widths text))

width_on : (widths : List ℕ) (k : ℕ) → k < length widths → drop k widths ≡ width_at widths k ∷ drop (k + 1) widths
width_on widths k inside = let one : suc k ≡ k + 1 = omega arith in drop-cons widths k 0 inside ∙ ap (λ (n : ℕ). width_at widths k ∷ drop n widths) one

first_line : (k : ℕ) (widths : List ℕ) (text : List ℕ) → k < length widths
    → first_values k (drop k widths) text ≡ followed (value_line (λ _. width_at widths k) (λ port. port == k) (λ _ _. true) text) (λ line text. followed (first_values (k + 1) (drop (k + 1) widths) text) (λ values text. Found.told (line.1 ∷ values) text))
first_line k widths text inside = ap (λ (ws : List ℕ). first_values k ws text) (width_on widths k inside)

pub one_value : (widths : List ℕ) (row : List Word) (text rest : List ℕ) (port : ℕ) (value : Word) → length row < length widths
    → value_line (λ _. width_at widths (length row)) (λ port. port == length row) (λ _ _. true) text ≡ Found.told (port, value) rest → values_behind widths row text ≡ values_behind widths (row ++ value ∷ []) rest
one_value widths row text rest port value inside e =
    let k = length row in
    let behind = λ (values : List Word) (text : List ℕ). (Found.told (row ++ values) text) in
    let longer : k + 1 ≡ length (row ++ value ∷ []) = omega (arith, length-append row (value ∷ [])) in
    ap (λ (f : Found (List Word)). followed f behind) (first_line k widths text inside)
    ∙ ap (λ (f : Found (ℕ × Word)). followed (followed f (λ line text. followed (first_values (k + 1) (drop (k + 1) widths) text) (λ values text. Found.told (line.1 ∷ values) text))) behind) e
    ∙ followed_twice (first_values (k + 1) (drop (k + 1) widths) rest) (λ values text. Found.told (value ∷ values) text) behind
    ∙ alike (first_values (k + 1) (drop (k + 1) widths) rest) (λ values text. Found.told (row ++ (value ∷ values)) text) (λ values text. Found.told ((row ++ value ∷ []) ++ values) text)
    (λ values text. ap (λ (vs : List Word). Found.told vs text) (sym (append_assoc row (value ∷ []) values)))
    ∙ ap (λ (n : ℕ). followed (first_values n (drop n widths) rest) (λ values text. Found.told ((row ++ value ∷ []) ++ values) text)) longer

pub value_breaks : (widths : List ℕ) (row : List Word) (text rest : List ℕ) (rule : Rule) → length row < length widths
    → value_line (λ _. width_at widths (length row)) (λ port. port == length row) (λ _ _. true) text ≡ Found.broken rest rule → values_behind widths row text ≡ Found.broken rest rule
value_breaks widths row text rest rule inside e =
    let k = length row in
    let behind = λ (values : List Word) (text : List ℕ). (Found.told (row ++ values) text) in
    ap (λ (f : Found (List Word)). followed f behind) (first_line k widths text inside)
    ∙ ap (λ (f : Found (ℕ × Word)). followed (followed f (λ line text. followed (first_values (k + 1) (drop (k + 1) widths) text) (λ values text. Found.told (line.1 ∷ values) text))) behind) e

pub all_values : (widths : List ℕ) (row : List Word) (text : List ℕ) → length widths ≤ length row → values_behind widths row text ≡ Found.told row text
all_values widths row text end_ =
    ap (λ (ws : List ℕ). followed (first_values (length row) ws text) (λ values text. Found.told (row ++ values) text)) (drop_all (length row) widths end_) ∙ ap (λ (vs : List Word). Found.told vs text) (append-nil row)

-- ---- changes

-- what changes are, so many at most, behind one
abbrev pub changes_behind : ℕ → List ℕ → ℕ → List Word → List ℕ → Found (List Word)
changes_behind few widths next row text = elim (begins 35 text) [
  | true ↦ Found.told row text
  | false ↦ change_lines few widths next row text
]

change_turns : (few : ℕ) (widths : List ℕ) (next : ℕ) (row : List Word) (found : Found (ℕ × Word)) (after : ℕ) (now : List Word) (rest : List ℕ)
    → followed {B = ℕ × List Word} found (λ line text. Found.told (line.0 + 1, slice_set row line.0 line.1) text) ≡ Found.told (after, now) rest
    → followed found (λ line text. changes_behind few widths (line.0 + 1) (slice_set row line.0 line.1) text) ≡ changes_behind few widths after now rest
change_turns few widths next row (Found.told line middle) after now rest e =
    let same = same_told (line.0 + 1, slice_set row line.0 line.1) (after, now) middle rest e in
    ap (λ (v : ℕ × List Word). changes_behind few widths v.0 v.1 middle) same.value ∙ ap (changes_behind few widths after now) same.rest
change_turns few widths next row (Found.broken middle rule) after now rest e = cc

turned : (few : ℕ) (widths : List ℕ) (next : ℕ) (row : List Word) (text : List ℕ)
    → change_lines (suc few) widths next row text ≡ followed (change_line widths next row text) (λ line text. changes_behind few widths (line.0 + 1) (slice_set row line.0 line.1) text)
turned few widths next row text =
    alike (change_line widths next row text) (λ line text. elim (begins 35 text) [
      | true ↦ Found.told (slice_set row line.0 line.1) text
      | false ↦ change_lines few widths (line.0 + 1) (slice_set row line.0 line.1) text
    ]) (λ line text. changes_behind few widths (line.0 + 1) (slice_set row line.0 line.1) text) (λ line text. refl)

pub one_change : (few : ℕ) (widths : List ℕ) (next after : ℕ) (row now : List Word) (text rest : List ℕ) → changed_row widths next row text ≡ Found.told (after, now) rest
    → change_lines (suc few) widths next row text ≡ changes_behind few widths after now rest
one_change few widths next after row now text rest e = turned few widths next row text ∙ change_turns few widths next row (change_line widths next row text) after now rest e

change_stops : (few : ℕ) (widths : List ℕ) (next : ℕ) (row : List Word) (found : Found (ℕ × Word)) (rest : List ℕ) (rule : Rule)
    → followed {B = ℕ × List Word} found (λ line text. Found.told (line.0 + 1, slice_set row line.0 line.1) text) ≡ Found.broken rest rule
    → followed found (λ line text. changes_behind few widths (line.0 + 1) (slice_set row line.0 line.1) text) ≡ Found.broken rest rule
change_stops few widths next row (Found.told line middle) rest rule e = cc
change_stops few widths next row (Found.broken middle other) rest rule e = broken_same middle rest other rule e
  where
    broken_same : (r s : List ℕ) (one two : Rule) → ◌≡◌ {A = Found (ℕ × List Word)} (Found.broken r one) (Found.broken s two) → ◌≡◌ {A = Found (List Word)} (Found.broken r one) (Found.broken s two)
    broken_same r s one two e = let a : r ≡ s = cc in let b : one ≡ two = cc in ap (λ (x : List ℕ). Found.broken x one) a ∙ ap (Found.broken s) b

pub change_breaks : (few : ℕ) (widths : List ℕ) (next : ℕ) (row : List Word) (text rest : List ℕ) (rule : Rule) → changed_row widths next row text ≡ Found.broken rest rule → change_lines (suc few) widths next row text ≡ Found.broken rest rule
change_breaks few widths next row text rest rule e = turned few widths next row text ∙ change_stops few widths next row (change_line widths next row text) rest rule e

-- what stands while changes are taken: the whole goes on with as many changes as there may be
pub record AreTaken (widths : List ℕ) (all : Found (List Word)) (next : ℕ) (row : List Word) (text : List ℕ) : Type 0 where
  pub few : ℕ
  pub room : length widths < few + next
  pub goes_on : all ≡ changes_behind few widths next row text

pub first_taken : (widths : List ℕ) (after : ℕ) (row now : List Word) (text rest : List ℕ) → 0 < after → changed_row widths 0 row text ≡ Found.told (after, now) rest
    → AreTaken widths (change_lines (suc (length widths)) widths 0 row text) after now rest
first_taken widths after row now text rest some e = record {
  few = length widths;
  room = omega arith;
  goes_on = one_change (length widths) widths 0 after row now text rest e;
}

not_yet : (few : ℕ) (widths : List ℕ) (next : ℕ) (row : List Word) (text : List ℕ) (t : Bool) → t ≡ false → elim t [
  | true ↦ Found.told row text
  | false ↦ change_lines few widths next row text
] ≡ change_lines few widths next row text
not_yet few widths next row text true e = absurd (false≢true (sym e))
not_yet few widths next row text false e = refl

next_taken : (few : ℕ) (widths : List ℕ) (all : Found (List Word)) (next after : ℕ) (row now : List Word) (text rest : List ℕ) → length widths < few + next → next ≤ length widths → next < after → begins 35 text ≡ false
    → all ≡ changes_behind few widths next row text → changed_row widths next row text ≡ Found.told (after, now) rest → AreTaken widths all after now rest
next_taken zero widths all next after row now text rest room within more stop goes_on e = absurd (omega arith)
next_taken (suc few) widths all next after row now text rest room within more stop goes_on e = record {
  few = few;
  room = omega arith;
  goes_on = goes_on ∙ not_yet (suc few) widths next row text (begins 35 text) stop ∙ one_change few widths next after row now text rest e;
}

pub one_taken : (widths : List ℕ) (all : Found (List Word)) (next after : ℕ) (row now : List Word) (text rest : List ℕ) → next ≤ length widths → next < after → begins 35 text ≡ false → AreTaken widths all next row text
    → changed_row widths next row text ≡ Found.told (after, now) rest → AreTaken widths all after now rest
one_taken widths all next after row now text rest within more stop are e = next_taken are.few widths all next after row now text rest are.room within more stop are.goes_on e

next_breaks : (few : ℕ) (widths : List ℕ) (all : Found (List Word)) (next : ℕ) (row : List Word) (text rest : List ℕ) (rule : Rule) → length widths < few + next → next ≤ length widths → begins 35 text ≡ false
    → all ≡ changes_behind few widths next row text → changed_row widths next row text ≡ Found.broken rest rule → all ≡ Found.broken rest rule
next_breaks zero widths all next row text rest rule room within stop goes_on e = absurd (omega arith)
next_breaks (suc few) widths all next row text rest rule room within stop goes_on e =
    goes_on ∙ not_yet (suc few) widths next row text (begins 35 text) stop ∙ change_breaks few widths next row text rest rule e

pub taken_breaks : (widths : List ℕ) (all : Found (List Word)) (next : ℕ) (row : List Word) (text rest : List ℕ) (rule : Rule) → next ≤ length widths → begins 35 text ≡ false → AreTaken widths all next row text
    → changed_row widths next row text ≡ Found.broken rest rule → all ≡ Found.broken rest rule
taken_breaks widths all next row text rest rule within stop are e = next_breaks are.few widths all next row text rest rule are.room within stop are.goes_on e

ended : (few : ℕ) (widths : List ℕ) (next : ℕ) (row : List Word) (text : List ℕ) (t : Bool) → t ≡ true → elim t [
  | true ↦ Found.told row text
  | false ↦ change_lines few widths next row text
] ≡ Found.told row text
ended few widths next row text true e = refl
ended few widths next row text false e = absurd (false≢true e)

pub all_taken : (widths : List ℕ) (all : Found (List Word)) (next : ℕ) (row : List Word) (text : List ℕ) → begins 35 text ≡ true → AreTaken widths all next row text → all ≡ Found.told row text
all_taken widths all next row text stop are = are.goes_on ∙ ended are.few widths next row text (begins 35 text) stop
