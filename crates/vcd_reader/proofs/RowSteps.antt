-- Rows, step by step.
use Rattle.std.proofs.Common.{◌≡◌, ℕ, zero, suc, ◌+◌, ◌-◌, ◌<◌, ◌≤◌, ◌==◌, ◌&&◌, Bool, true, false, not, cond, List, [], ◌∷◌, ◌++◌, length, length-append, take, drop, Option, Some, None, Result, Ok, Err, codes, inl, inr, refl, sym, ap, ◌∙◌, append_assoc, append-nil, arith}
use Rattle.std.specs.Prelude.{nat_lt, slice_set, slice_get, IsOk}
use Rattle.std.proofs.lemmas.Bool.{cases_lt, false≢true}
use Rattle.std.proofs.lemmas.List.{take_all, take-append-le}
use Rattle.av_base.specs.Word.{Word}
use Rattle.vcd_reader.specs.declared.rule.Rule.{Rule}
use Rattle.vcd_reader.specs.declared.rule.Rule.TheVariants.{Time, Code, Value}
use Rattle.vcd_reader.specs.Found.{Found, followed, fixed, hole}
use Rattle.vcd_reader.specs.Spellings.{is_of_number, is_of_code, number_in, port_in, Spelled, value_in}
use Rattle.vcd_reader.specs.Readings.{begins, is_empty, width_at, bits_at, coded, spelled_behind, spelled_line, judged_value, judged, value_line, first_values, change_line, change_lines, time_line, repeated, time_lines, row_lines}
use Rattle.vcd_reader.specs.Reads.{found_by, found_with, first_row, begun, later_row, rows_told, TellsRows}
use Rattle.vcd_reader.specs.Walks.{behind_time, IsUnder}
use Rattle.vcd_reader.proofs.Told.{parted, same_told, fixed_told, hole_told}
use Rattle.vcd_reader.proofs.Steps.{on_told, on_broken}

-- ---- no text grows as it is read

shorter_fixed : (bs text rest : List ℕ) (u : Unit {0}) → fixed bs text ≡ Found.told u rest → length rest + length bs ≤ length text
shorter_fixed bs text rest u e = omega (arith, ap length (fixed_told bs text rest u e), length-append bs rest)

shorter_hole : {A : Type 0} (p : ℕ → Bool) (rule : Rule) (tells : List ℕ → Option A) (text : List ℕ) (a : A) (rest : List ℕ) → hole p rule tells text ≡ Found.told a rest → length rest ≤ length text
shorter_hole p rule tells text a rest e =
    let is = hole_told p rule tells text a rest e in
    omega (arith, ap length is.is, length-append is.run rest)

shorter_coded : (lets_in : ℕ → Bool) (spelled : Spelled) (text : List ℕ) (line : ℕ × Spelled) (rest : List ℕ) → coded lets_in spelled text ≡ Found.told line rest → length rest ≤ length text
shorter_coded lets_in spelled text line rest e =
    let one = parted (hole is_of_code Code (port_in lets_in) text) (λ port text. followed (fixed (codes "\n") text) (λ _ text. Found.told (port, spelled) text)) line rest e in
    let two = parted (fixed (codes "\n") one.middle) (λ _ text. Found.told (one.value, spelled) text) line rest one.later in
    let same = same_told (one.value, spelled) line two.middle rest two.later in
    let code = shorter_hole is_of_code Code (port_in lets_in) text one.value one.middle one.first in
    let feed = shorter_fixed (codes "\n") one.middle two.middle two.value two.first in
    omega (arith, ap length same.rest)

shorter_behind : (lets_in : ℕ → Bool) (byte : ℕ) (t : Bool) (text : List ℕ) (line : ℕ × Spelled) (rest : List ℕ) → spelled_behind lets_in byte t text ≡ Found.told line rest → length rest ≤ length text
shorter_behind lets_in byte true text line rest e =
    let one = parted (hole is_of_number Value Some text) (λ run text. followed (fixed (codes " ") text) (λ _ text. coded lets_in (Spelled.digits run) text)) line rest e in
    let two = parted (fixed (codes " ") one.middle) (λ _ text. coded lets_in (Spelled.digits one.value) text) line rest one.later in
    let digits = shorter_hole is_of_number Value Some text one.value one.middle one.first in
    let blank = shorter_fixed (codes " ") one.middle two.middle two.value two.first in
    let code = shorter_coded lets_in (Spelled.digits one.value) two.middle line rest two.later in
    omega arith
shorter_behind lets_in byte false text line rest e = shorter_coded lets_in (Spelled.bit byte) text line rest e

shorter_spelled : (lets_in : ℕ → Bool) (text : List ℕ) (line : ℕ × Spelled) (rest : List ℕ) → spelled_line lets_in text ≡ Found.told line rest → length rest ≤ length text
shorter_spelled lets_in [] line rest e = cc
shorter_spelled lets_in (byte ∷ text) line rest e = let more = shorter_behind lets_in byte (byte == 98) text line rest e in omega arith

shorter_judged : (fits : ℕ → Word → Bool) (text : List ℕ) (port : ℕ) (middle : List ℕ) (value : Option Word) (line : ℕ × Word) (rest : List ℕ) → judged_value fits text port middle value ≡ Found.told line rest → middle ≡ rest
shorter_judged fits text port middle None line rest e = cc
shorter_judged fits text port middle (Some value) line rest e = by_test (fits port value) e
  where
    by_test : (t : Bool) → cond t (Found.told (port, value) middle) (Found.broken text Value) ≡ Found.told line rest → middle ≡ rest
    by_test true e = (same_told (port, value) line middle rest e).rest
    by_test false e = cc

shorter_value : (width : ℕ → ℕ) (fits : ℕ → Word → Bool) (text : List ℕ) (found : Found (ℕ × Spelled)) (line : ℕ × Word) (rest : List ℕ) → ((spelled : ℕ × Spelled) (middle : List ℕ) → found ≡ Found.told spelled middle → length middle ≤ length text)
    → judged width fits text found ≡ Found.told line rest → length rest ≤ length text
shorter_value width fits text (Found.told spelled middle) line rest shorter e =
    omega (arith, shorter spelled middle refl, ap length (shorter_judged fits text spelled.0 middle (value_in (width spelled.0) spelled.1) line rest e))
shorter_value width fits text (Found.broken middle rule) line rest shorter e = cc

shorter_change : (widths : List ℕ) (next : ℕ) (row : List Word) (text : List ℕ) (line : ℕ × Word) (rest : List ℕ) → change_line widths next row text ≡ Found.told line rest → length rest ≤ length text
shorter_change widths next row text line rest e = by_line (width_at widths) (λ port. not (nat_lt port next) && nat_lt port (length widths)) (λ port value. not (value.bits == bits_at row port)) e
  where
    by_line : (width : ℕ → ℕ) (lets_in : ℕ → Bool) (fits : ℕ → Word → Bool) → value_line width lets_in fits text ≡ Found.told line rest → length rest ≤ length text
    by_line width lets_in fits e = shorter_value width fits text (spelled_line lets_in text) line rest (λ spelled middle is. shorter_spelled lets_in text spelled middle is) e

shorter_changes : (few : ℕ) (widths : List ℕ) (next : ℕ) (row : List Word) (text : List ℕ) (now : List Word) (rest : List ℕ) → change_lines few widths next row text ≡ Found.told now rest → length rest ≤ length text
shorter_changes zero widths next row text now rest e = cc
shorter_changes (suc few) widths next row text now rest e =
    let one = parted (change_line widths next row text) (λ line text. elim (begins 35 text) [
      | true ↦ Found.told (slice_set row line.0 line.1) text
      | false ↦ change_lines few widths (line.0 + 1) (slice_set row line.0 line.1) text
    ]) now rest e in
    let here = shorter_change widths next row text one.value one.middle one.first in
    by_test (λ next row text now rest e. shorter_changes few widths next row text now rest e) one.value one.middle here (begins 35 one.middle) one.later
  where
    by_test : ((next : ℕ) (row : List Word) (text : List ℕ) (now : List Word) (rest : List ℕ) → change_lines few widths next row text ≡ Found.told now rest → length rest ≤ length text) → (line : ℕ × Word) (middle : List ℕ) → length middle ≤ length text
        → (t : Bool) → elim t [
          | true ↦ Found.told (slice_set row line.0 line.1) middle
          | false ↦ change_lines few widths (line.0 + 1) (slice_set row line.0 line.1) middle
        ] ≡ Found.told now rest → length rest ≤ length text
    by_test more line middle here true e = omega (arith, ap length (same_told (slice_set row line.0 line.1) now middle rest e).rest)
    by_test more line middle here false e = let there = more (line.0 + 1) (slice_set row line.0 line.1) middle now rest e in omega arith

-- a time, and what is left
record IsTime (last : ℕ) (text : List ℕ) (time : ℕ) (rest : List ℕ) : Type 0 where
  shorter : length rest < length text

time_is : (last : ℕ) (text : List ℕ) (time : ℕ) (rest : List ℕ) → time_line last text ≡ Found.told time rest → IsTime last text time rest
time_is last text time rest e =
    let one = parted (fixed (codes "#") text) (λ _ text. followed (hole is_of_number Time (number_in last 65536) text) (λ time text. followed (fixed (codes "\n") text) (λ _ text. Found.told time text))) time rest e in
    let two = parted (hole is_of_number Time (number_in last 65536) one.middle) (λ time text. followed (fixed (codes "\n") text) (λ _ text. Found.told time text)) time rest one.later in
    let three = parted (fixed (codes "\n") two.middle) (λ _ text. Found.told two.value text) time rest two.later in
    let same = same_told two.value time three.middle rest three.later in
    let sign = shorter_fixed (codes "#") text one.middle one.value one.first in
    let digits = shorter_hole is_of_number Time (number_in last 65536) one.middle two.value two.middle two.first in
    let feed = shorter_fixed (codes "\n") two.middle three.middle three.value three.first in
    record { shorter = omega (arith, ap length same.rest) }

-- ---- rows that stay the same

repeated_long : (count : ℕ) (row : List Word) → length (repeated count row) ≡ count
repeated_long zero row = refl
repeated_long (suc count) row = ap suc (repeated_long count row)

repeated_at : (count : ℕ) (row : List Word) (k : ℕ) → k < count → slice_get (repeated count row) k ≡ Some row
repeated_at zero row k h = absurd (omega arith)
repeated_at (suc count) row zero h = refl
repeated_at (suc count) row (suc k) h = repeated_at count row k (omega arith)

row_in_front : {X : Type 0} (xs ys : List X) (n : ℕ) (x : X) → slice_get xs n ≡ Some x → slice_get (xs ++ ys) n ≡ Some x
row_in_front [] ys n x e = cc
row_in_front (a ∷ xs) ys zero x e = e
row_in_front (a ∷ xs) ys (suc n) x e = row_in_front xs ys n x e

row_at_end : {X : Type 0} (xs : List X) (y : X) → slice_get (xs ++ y ∷ []) (length xs) ≡ Some y
row_at_end [] y = refl
row_at_end (a ∷ xs) y = row_at_end xs y

behind_front : {X : Type 0} (xs ys : List X) (k : ℕ) → slice_get (xs ++ ys) (length xs + k) ≡ slice_get ys k
behind_front [] ys k = let none : 0 + k ≡ k = omega arith in ap (slice_get ys) none
behind_front (x ∷ xs) ys k = let more : length (x ∷ xs) + k ≡ suc (length xs + k) = omega arith in ap (slice_get (x ∷ xs ++ ys)) more ∙ behind_front xs ys k

-- behind `time` rows, of which the last is this one and stays the same up to a later time
same_on : (front : List (List Word)) (now : List Word) (time later : ℕ) → length front ≡ time → time < later
    → (k : ℕ) → time ≤ k → k < later → slice_get (front ++ now ∷ [] ++ repeated (later - time - 1) now) k ≡ Some now
same_on front now time later count more k low high =
    elim (cases_lt time k) [
      | inl behind ↦
          let long : length (front ++ now ∷ []) + (k - time - 1) ≡ k = omega (arith, length-append front (now ∷ []), count) in
          ap (λ (n : ℕ). slice_get (front ++ now ∷ [] ++ repeated (later - time - 1) now) n) (sym long)
          ∙ behind_front (front ++ now ∷ []) (repeated (later - time - 1) now) (k - time - 1)
          ∙ repeated_at (later - time - 1) now (k - time - 1) (omega arith)
      | inr up ↦
          let here : length front ≡ k = omega (arith, count) in
          row_in_front (front ++ now ∷ []) (repeated (later - time - 1) now) k now (ap (λ (n : ℕ). slice_get (front ++ now ∷ []) n) (sym here) ∙ row_at_end front now)
    ]

-- ---- the first row, and later ones

regrouped : {R B : Type 0} (one : Found (Unit {0})) (two : List ℕ → Found R) (three : List ℕ → Found (Unit {0})) (last : R → List ℕ → Found B)
    → followed one (λ _ t. followed (two t) (λ row t. followed (three t) (λ _ t. last row t))) ≡ followed (followed one (λ _ t. followed (two t) (λ row t. followed (three t) (λ _ t. Found.told row t)))) last
regrouped (Found.broken rest rule) two three last = refl
regrouped (Found.told u text) two three last = behind (two text)
  where
    at_end : (row : _) (found : Found (Unit {0})) → followed found (λ _ t. last row t) ≡ followed (followed found (λ _ t. Found.told row t)) last
    at_end row (Found.broken rest rule) = refl
    at_end row (Found.told u rest) = refl

    behind : (found : Found _) → followed found (λ row t. followed (three t) (λ _ t. last row t)) ≡ followed (followed found (λ row t. followed (three t) (λ _ t. Found.told row t))) last
    behind (Found.broken rest rule) = refl
    behind (Found.told row rest) = at_end row (three rest)

rows_begin : (widths : List ℕ) (text : List ℕ) → row_lines widths text ≡ followed (first_row widths text) (λ row text. time_lines (suc (length text)) widths 0 (row ∷ []) row text)
rows_begin widths text = regrouped (fixed (codes "#0\n$dumpvars\n") text) (λ t. first_values 0 widths t) (λ t. fixed (codes "$end\n") t) (λ row t. time_lines (suc (length t)) widths 0 (row ∷ []) row t)

times_on : (few : ℕ) (widths : List ℕ) (last time : ℕ) (front : List (List Word)) (row : List Word) (text rest : List ℕ) → time_line last text ≡ Found.told time rest
    → time_lines (suc few) widths last front row text ≡ behind_time few widths time (front ++ repeated (time - last - 1) row) row rest
times_on few widths last time front row text rest e =
    ap (λ (f : Found ℕ). followed f (λ time text. elim (is_empty text) [
      | true ↦ Found.told (front ++ repeated (time - last - 1) row) text
      | false ↦ followed (change_lines (suc (length widths)) widths 0 row text) (λ now text. time_lines few widths time (front ++ repeated (time - last - 1) row ++ now ∷ []) now text)
    ])) e

times_stop : (few : ℕ) (widths : List ℕ) (last : ℕ) (front : List (List Word)) (row : List Word) (text rest : List ℕ) (rule : Rule) → time_line last text ≡ Found.broken rest rule → time_lines (suc few) widths last front row text ≡ Found.broken rest rule
times_stop few widths last front row text rest rule e =
    ap (λ (f : Found ℕ). followed f (λ time text. elim (is_empty text) [
      | true ↦ Found.told (front ++ repeated (time - last - 1) row) text
      | false ↦ followed (change_lines (suc (length widths)) widths 0 row text) (λ now text. time_lines few widths time (front ++ repeated (time - last - 1) row ++ now ∷ []) now text)
    ])) e

broken_alike : (B : Type 0) (r s : List ℕ) (one two : Rule) → r ≡ s → one ≡ two → ◌≡◌ {A = Found B} (Found.broken r one) (Found.broken s two)
broken_alike B r s one two a b = cc

broken_same : {A B : Type 0} (r s : List ℕ) (one two : Rule) → ◌≡◌ {A = Found A} (Found.broken r one) (Found.broken s two) → ◌≡◌ {A = Found B} (Found.broken r one) (Found.broken s two)
broken_same {A = A} {B = B} r s one two e = let a : r ≡ s = cc in let b : one ≡ two = cc in broken_alike B r s one two a b

-- the first row, and the time behind it
pub begun_under : (widths : List ℕ) (text : List ℕ) (time : ℕ) (row : List Word) (rest : List ℕ) → 0 < time → begun widths text ≡ Found.told (time, row) rest → IsUnder widths (row_lines widths text) 0 time row rest
begun_under widths text time row rest some e =
    let one = parted (first_row widths text) (λ row text. followed (time_line 0 text) (λ time text. Found.told (time, row) text)) (time, row) rest e in
    let two = parted (time_line 0 one.middle) (λ time text. Found.told (time, one.value) text) (time, row) rest one.later in
    let same = same_told (two.value, one.value) (time, row) two.middle rest two.later in
    let when : two.value ≡ time = ap (λ (p : ℕ × List Word). p.0) same.value in
    let what : one.value ≡ row = ap (λ (p : ℕ × List Word). p.1) same.value in
    let first : first_row widths text ≡ Found.told row one.middle = one.first ∙ ap (λ (r : List Word). Found.told r one.middle) what in
    let line : time_line 0 one.middle ≡ Found.told time rest = two.first ∙ ap (λ (n : ℕ). Found.told n two.middle) when ∙ ap (Found.told time) same.rest in
    let shorter = (time_is 0 one.middle time rest line).shorter in
    record {
      few = length one.middle;
      front = row ∷ [] ++ repeated (time - 0 - 1) row;
      goes_on = rows_begin widths text ∙ ap (λ (f : Found (List Word)). followed f (λ row text. time_lines (suc (length text)) widths 0 (row ∷ []) row text)) first
          ∙ times_on (length one.middle) widths 0 time (row ∷ []) row one.middle rest line;
      room = shorter;
      count = omega (arith, length-append (row ∷ []) (repeated (time - 0 - 1) row), repeated_long (time - 0 - 1) row);
      same = same_on [] row 0 time refl some;
    }

pub begun_breaks : (widths : List ℕ) (text rest : List ℕ) (rule : Rule) → begun widths text ≡ Found.broken rest rule → row_lines widths text ≡ Found.broken rest rule
begun_breaks widths text rest rule e = rows_begin widths text ∙ at_first (first_row widths text) e
  where
    at_time : (row : List Word) (middle : List ℕ) (found : Found ℕ) → time_line 0 middle ≡ found → followed {B = ℕ × List Word} found (λ time text. Found.told (time, row) text) ≡ Found.broken rest rule
        → time_lines (suc (length middle)) widths 0 (row ∷ []) row middle ≡ Found.broken rest rule
    at_time row middle (Found.told time behind) is e = cc
    at_time row middle (Found.broken behind other) is e =
        times_stop (length middle) widths 0 (row ∷ []) row middle behind other is ∙ broken_same {A = ℕ × List Word} {B = List (List Word)} behind rest other rule e

    at_first : (found : Found (List Word)) → followed {B = ℕ × List Word} found (λ row text. followed (time_line 0 text) (λ time text. Found.told (time, row) text)) ≡ Found.broken rest rule
        → followed found (λ row text. time_lines (suc (length text)) widths 0 (row ∷ []) row text) ≡ Found.broken rest rule
    at_first (Found.told row middle) e = at_time row middle (time_line 0 middle) refl e
    at_first (Found.broken middle other) e = broken_same {A = ℕ × List Word} {B = List (List Word)} middle rest other rule e

more_by : (few : ℕ) (widths : List ℕ) (time : ℕ) (front : List (List Word)) (row : List Word) (text : List ℕ) (t : Bool) → t ≡ false → elim t [
  | true ↦ Found.told front text
  | false ↦ followed (change_lines (suc (length widths)) widths 0 row text) (λ now text. time_lines few widths time (front ++ now ∷ []) now text)
] ≡ followed (change_lines (suc (length widths)) widths 0 row text) (λ now text. time_lines few widths time (front ++ now ∷ []) now text)
more_by few widths time front row text true e = absurd (false≢true (sym e))
more_by few widths time front row text false e = refl

-- a reader moves on to the row of the time, and reads the time behind it
moved_by : (few : ℕ) (widths : List ℕ) (found : Found (List (List Word))) (time later : ℕ) (front : List (List Word)) (row now : List Word) (text rest : List ℕ) → found ≡ behind_time few widths time front row text → length text < few → length front ≡ time
    → time < later → is_empty text ≡ false → later_row widths time row text ≡ Found.told (later, now) rest → IsUnder widths found time later now rest
moved_by zero widths found time later front row now text rest goes_on room count more there e = absurd (omega arith)
moved_by (suc few) widths found time later front row now text rest goes_on room count more there e =
    let one = parted (change_lines (suc (length widths)) widths 0 row text) (λ now text. followed (time_line time text) (λ later text. Found.told (later, now) text)) (later, now) rest e in
    let two = parted (time_line time one.middle) (λ later text. Found.told (later, one.value) text) (later, now) rest one.later in
    let same = same_told (two.value, one.value) (later, now) two.middle rest two.later in
    let when : two.value ≡ later = ap (λ (p : ℕ × List Word). p.0) same.value in
    let what : one.value ≡ now = ap (λ (p : ℕ × List Word). p.1) same.value in
    let changes : change_lines (suc (length widths)) widths 0 row text ≡ Found.told now one.middle = one.first ∙ ap (λ (r : List Word). Found.told r one.middle) what in
    let line : time_line time one.middle ≡ Found.told later rest = two.first ∙ ap (λ (n : ℕ). Found.told n two.middle) when ∙ ap (Found.told later) same.rest in
    let shorter = (time_is time one.middle later rest line).shorter in
    let no_longer = shorter_changes (suc (length widths)) widths 0 row text now one.middle changes in
    record {
      few = few;
      front = front ++ now ∷ [] ++ repeated (later - time - 1) now;
      goes_on = goes_on ∙ more_by (suc few) widths time front row text (is_empty text) there
          ∙ ap (λ (f : Found (List Word)). followed f (λ now text. time_lines (suc few) widths time (front ++ now ∷ []) now text)) changes
          ∙ times_on few widths time later (front ++ now ∷ []) now one.middle rest line;
      room = omega arith;
      count = omega (arith, length-append (front ++ now ∷ []) (repeated (later - time - 1) now), length-append front (now ∷ []), repeated_long (later - time - 1) now, count);
      same = same_on front now time later count more;
    }

pub moved_under : (widths : List ℕ) (found : Found (List (List Word))) (cycle time later : ℕ) (row now : List Word) (text rest : List ℕ) → IsUnder widths found cycle time row text → time < later → is_empty text ≡ false
    → later_row widths time row text ≡ Found.told (later, now) rest → IsUnder widths found time later now rest
moved_under widths found cycle time later row now text rest under more there e = moved_by under.few widths found time later under.front row now text rest under.goes_on under.room under.count more there e

breaks_by : (few : ℕ) (widths : List ℕ) (found : Found (List (List Word))) (time : ℕ) (front : List (List Word)) (row : List Word) (text rest : List ℕ) (rule : Rule) → found ≡ behind_time few widths time front row text → length text < few
    → is_empty text ≡ false → later_row widths time row text ≡ Found.broken rest rule → found ≡ Found.broken rest rule
breaks_by zero widths found time front row text rest rule goes_on room there e = absurd (omega arith)
breaks_by (suc few) widths found time front row text rest rule goes_on room there e =
    goes_on ∙ more_by (suc few) widths time front row text (is_empty text) there ∙ at_changes (change_lines (suc (length widths)) widths 0 row text) e
  where
    at_time : (now : List Word) (middle : List ℕ) (found : Found ℕ) → time_line time middle ≡ found → followed {B = ℕ × List Word} found (λ later text. Found.told (later, now) text) ≡ Found.broken rest rule
        → time_lines (suc few) widths time (front ++ now ∷ []) now middle ≡ Found.broken rest rule
    at_time now middle (Found.told later behind) is e = cc
    at_time now middle (Found.broken behind other) is e =
        times_stop few widths time (front ++ now ∷ []) now middle behind other is ∙ broken_same {A = ℕ × List Word} {B = List (List Word)} behind rest other rule e

    at_changes : (found : Found (List Word)) → followed {B = ℕ × List Word} found (λ now text. followed (time_line time text) (λ later text. Found.told (later, now) text)) ≡ Found.broken rest rule
        → followed found (λ now text. time_lines (suc few) widths time (front ++ now ∷ []) now text) ≡ Found.broken rest rule
    at_changes (Found.told now middle) e = at_time now middle (time_line time middle) refl e
    at_changes (Found.broken middle other) e = broken_same {A = ℕ × List Word} {B = List (List Word)} middle rest other rule e

pub moved_breaks : (widths : List ℕ) (found : Found (List (List Word))) (cycle time : ℕ) (row : List Word) (text rest : List ℕ) (rule : Rule) → IsUnder widths found cycle time row text → is_empty text ≡ false
    → later_row widths time row text ≡ Found.broken rest rule → found ≡ Found.broken rest rule
moved_breaks widths found cycle time row text rest rule under there e = breaks_by under.few widths found time under.front row text rest rule under.goes_on under.room there e

none_by : (few : ℕ) (widths : List ℕ) (time : ℕ) (front : List (List Word)) (row : List Word) (text : List ℕ) → is_empty text ≡ true → behind_time few widths time front row text ≡ Found.told front []
none_by few widths time front row [] e = refl
none_by few widths time front row (byte ∷ text) e = cc

rows_of : (found : Found (List (List Word))) (rows : List (List Word)) → found ≡ Found.told rows [] → (time : ℕ) → length rows ≡ time → TellsRows found time
rows_of found rows e time count =
    let are : rows_told found ≡ rows = ap rows_told e in
    record { told = e ∙ ap (λ (rs : List (List Word)). Found.told rs []) (sym are); count = sym count ∙ ap length (sym are) }

-- the text ends behind the line of the time
pub ended_under : (widths : List ℕ) (found : Found (List (List Word))) (cycle time : ℕ) (row : List Word) (text : List ℕ) → IsUnder widths found cycle time row text → is_empty text ≡ true → TellsRows found time
ended_under widths found cycle time row text under none = rows_of found under.front (under.goes_on ∙ none_by under.few widths time under.front row text none) time under.count

-- ---- the rows of a walk

pub record IsFront (front rows : List (List Word)) : Type 0 where
  pub others : List (List Word)
  pub are : rows ≡ front ++ others

longer_front : (front more rows : List (List Word)) → IsFront (front ++ more) rows → IsFront front rows
longer_front front more rows is = record { others = more ++ is.others; are = is.are ∙ append_assoc front more is.others }

whole_front : (front : List (List Word)) (more rows : List (List Word)) (middle rest : List ℕ) → Found.told (front ++ more) middle ≡ Found.told rows rest → IsFront front rows
whole_front front more rows middle rest e = record { others = more; are = sym (same_told (front ++ more) rows middle rest e).value }

times_front : (few : ℕ) (widths : List ℕ) (last : ℕ) (front : List (List Word)) (row : List Word) (text : List ℕ) (rows : List (List Word)) (rest : List ℕ) → time_lines few widths last front row text ≡ Found.told rows rest → IsFront front rows
times_front zero widths last front row text rows rest e = cc
times_front (suc few) widths last front row text rows rest e =
    let one = parted (time_line last text) (λ time text. elim (is_empty text) [
      | true ↦ Found.told (front ++ repeated (time - last - 1) row) text
      | false ↦ followed (change_lines (suc (length widths)) widths 0 row text) (λ now text. time_lines few widths time (front ++ repeated (time - last - 1) row ++ now ∷ []) now text)
    ]) rows rest e in
    by_end (λ last front row text e. times_front few widths last front row text rows rest e) one.value one.middle (is_empty one.middle) one.later
  where
    by_end : ((last : ℕ) (front : List (List Word)) (row : List Word) (text : List ℕ) → time_lines few widths last front row text ≡ Found.told rows rest → IsFront front rows) → (time : ℕ) (middle : List ℕ) (t : Bool) → elim t [
      | true ↦ Found.told (front ++ repeated (time - last - 1) row) middle
      | false ↦ followed (change_lines (suc (length widths)) widths 0 row middle) (λ now text. time_lines few widths time (front ++ repeated (time - last - 1) row ++ now ∷ []) now text)
    ] ≡ Found.told rows rest → IsFront front rows
    by_end more time middle true e = whole_front front (repeated (time - last - 1) row) rows middle rest e
    by_end more time middle false e =
        let two = parted (change_lines (suc (length widths)) widths 0 row middle) (λ now text. time_lines few widths time (front ++ repeated (time - last - 1) row ++ now ∷ []) now text) rows rest e in
        longer_front front (repeated (time - last - 1) row) rows (longer_front (front ++ repeated (time - last - 1) row) (two.value ∷ []) rows (more time (front ++ repeated (time - last - 1) row ++ two.value ∷ []) two.value two.middle two.later))

behind_by : (few : ℕ) (widths : List ℕ) (time : ℕ) (front : List (List Word)) (row : List Word) (text : List ℕ) (rows : List (List Word)) (rest : List ℕ) (t : Bool) → elim t [
  | true ↦ Found.told front text
  | false ↦ followed (change_lines (suc (length widths)) widths 0 row text) (λ now text. time_lines few widths time (front ++ now ∷ []) now text)
] ≡ Found.told rows rest → IsFront front rows
behind_by few widths time front row text rows rest true e = record { others = []; are = sym (same_told front rows text rest e).value ∙ sym (append-nil front) }
behind_by few widths time front row text rows rest false e =
    let one = parted (change_lines (suc (length widths)) widths 0 row text) (λ now text. time_lines few widths time (front ++ now ∷ []) now text) rows rest e in
    longer_front front (one.value ∷ []) rows (times_front few widths time (front ++ one.value ∷ []) one.value one.middle rows rest one.later)

-- the row of the cycle is one of all
pub row_there : (widths : List ℕ) (found : Found (List (List Word))) (rows : List (List Word)) (cycle time : ℕ) (row : List Word) (text : List ℕ) → IsUnder widths found cycle time row text → cycle < time → found ≡ Found.told rows []
    → slice_get rows cycle ≡ Some row
row_there widths found rows cycle time row text under within e =
    let front = behind_by under.few widths time under.front row text rows [] (is_empty text) (sym under.goes_on ∙ e) in
    ap (λ (rs : List (List Word)). slice_get rs cycle) front.are ∙ row_in_front under.front front.others cycle row (under.same cycle (omega arith) within)

-- the same row stands in the next cycle
pub next_under : (widths : List ℕ) (found : Found (List (List Word))) (cycle next time : ℕ) (row : List Word) (text : List ℕ) → cycle ≤ next → IsUnder widths found cycle time row text → IsUnder widths found next time row text
next_under widths found cycle next time row text more under = record {
  few = under.few;
  front = under.front;
  goes_on = under.goes_on;
  room = under.room;
  count = under.count;
  same = λ k low high. under.same k (omega arith) high;
}

-- where rows are left, the text doesn't end
pub more_ahead : (widths : List ℕ) (found : Found (List (List Word))) (rows : List (List Word)) (cycle time : ℕ) (row : List Word) (text : List ℕ) → IsUnder widths found cycle time row text → found ≡ Found.told rows [] → time < length rows → is_empty text ≡ false
more_ahead widths found rows cycle time row text under e more = by_test (is_empty text) refl
  where
    by_test : (t : Bool) → is_empty text ≡ t → is_empty text ≡ false
    by_test false is = is
    by_test true is =
        let same = same_told under.front rows [] [] (sym (none_by under.few widths time under.front row text is) ∙ sym under.goes_on ∙ e) in
        absurd (omega (arith, ap length same.value, under.count))

-- ---- what one row more finds

pub later_breaks : (widths : List ℕ) (time : ℕ) (row : List Word) (text rest : List ℕ) (rule : Rule) → change_lines (suc (length widths)) widths 0 row text ≡ Found.broken rest rule → later_row widths time row text ≡ Found.broken rest rule
later_breaks widths time row text rest rule e = on_broken (change_lines (suc (length widths)) widths 0 row text) (λ now text. followed (time_line time text) (λ later text. Found.told (later, now) text)) rest rule e

later_by : (now : List Word) (result : Result ℕ Rule) (rest : List ℕ) → followed {B = ℕ × List Word} (found_by result rest) (λ later text. Found.told (later, now) text) ≡ found_with now result rest
later_by now (Ok later) rest = refl
later_by now (Err rule) rest = refl

pub later_ends : (widths : List ℕ) (time : ℕ) (row now : List Word) (text middle rest : List ℕ) (result : Result ℕ Rule) → change_lines (suc (length widths)) widths 0 row text ≡ Found.told now middle → time_line time middle ≡ found_by result rest
    → later_row widths time row text ≡ found_with now result rest
later_ends widths time row now text middle rest result e line =
    on_told (change_lines (suc (length widths)) widths 0 row text) (λ now text. followed (time_line time text) (λ later text. Found.told (later, now) text)) now middle (found_with now result rest) e
    (ap (λ (f : Found ℕ). followed f (λ later text. Found.told (later, now) text)) line ∙ later_by now result rest)

-- a walk whose rows are told finds its next row
pub walk_goes_on : (widths : List ℕ) (found : Found (List (List Word))) (rows : List (List Word)) (cycle time : ℕ) (row now : List Word) (text rest : List ℕ) (result : Result ℕ Rule) → IsUnder widths found cycle time row text → found ≡ Found.told rows []
    → time < length rows → later_row widths time row text ≡ found_with now result rest → IsOk result
walk_goes_on widths found rows cycle time row now text rest (Ok later) under e more line = refl
walk_goes_on widths found rows cycle time row now text rest (Err rule) under e more line =
    never (sym e ∙ moved_breaks widths found cycle time row text rest rule under (more_ahead widths found rows cycle time row text under e more) line)
  where
    never : Found.told rows [] ≡ Found.broken rest rule → IsOk {T = ℕ} {E = Rule} (Err rule)
    never e = cc

-- what stands in a vector of which all items were written
pub written_back : {X : Type 0} (into items : List X) (len : ℕ) → len ≡ length items → length into ≡ length items → take len (into ++ drop (length into) items) ≡ into
written_back into items len e f =
    let all : len ≡ length into = e ∙ sym f in
    let few : len ≤ length into = omega arith in
    let most : length into ≤ len = omega arith in
    take-append-le len into (drop (length into) items) few ∙ take_all len into most
