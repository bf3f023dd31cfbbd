-- A text of which a dump is told is that dump's.
use Rattle.std.proofs.Common.{◌≡◌, ◌≢◌, ℕ, zero, suc, ◌+◌, ◌-◌, ◌<◌, ◌≤◌, ◌==◌, ◌||◌, Bool, true, false, inl, inr, List, [], ◌∷◌, ◌++◌, length, length-append, map, get_or, codes, decimal, refl, sym, ap, subst, ◌∙◌, append_assoc, append-nil, arith}
use Rattle.std.specs.Prelude.{All, AllPairs}
use Rattle.std.specs.List.{list_any}
use Rattle.std.specs.Str.{bytes_eq}
use Rattle.std.proofs.lemmas.Bool.{eqb-true, cases_lt}
use Rattle.std.proofs.lemmas.List.{get_or_append_left}
use Rattle.std.proofs.lemmas.List.Elements.{All-nil, All-cons}
use Rattle.std.proofs.lemmas.Slice.Eq.{bytes_eq-Decides}
use Rattle.std.proofs.Math.Seq.{get_or-append_seam}
use Rattle.av_base.specs.Word.{Word}
use Rattle.vcd_text.specs.declared.port.DumpPort.{DumpPort}
use Rattle.vcd_text.specs.Text.{code, values_text, changes_text, some_change, later_texts, rows_text, time_line as line_of_time, port_line as line_of_port, ports_text, head_text, DumpValue}
use Rattle.vcd_text.specs.Dumps.{IsPort, IsValue, IsRow, widths_of}
use Rattle.netlist.specs.Names.{IsModuleName}
use Rattle.vcd_reader.specs.declared.rule.Rule.TheVariants.{Name, Width, Code, Time}
use Rattle.vcd_reader.specs.Found.{Found, followed, fixed, hole}
use Rattle.vcd_reader.specs.Spellings.{is_of_name, is_of_number, is_of_code, number_in, module_name_in, port_name_in, port_in}
use Rattle.vcd_reader.specs.Readings.{begins, is_empty, port_line, port_lines, first_values, change_lines, time_line, time_lines, repeated, row_lines, dump_read, IsDumpText}
use Rattle.vcd_reader.proofs.Lines.{AreValues}
use Rattle.vcd_reader.proofs.Whole.{AreRows, later_by, dump_form, port_form, later_form}
use Rattle.vcd_reader.proofs.Told.{parted, same_told, fixed_told, hole_told, number_told, port_told, module_told, name_told}
use Rattle.vcd_reader.proofs.Sound.{AreWidths, first_told, none_changes, AreChanged, changes_told}

-- ---- times

pub record IsTimeTold (last : ℕ) (text : List ℕ) (time : ℕ) (rest : List ℕ) : Type 0 where
  pub is : text ≡ codes "#" ++ (decimal time ++ (codes "\n" ++ rest))
  pub low : last < time
  pub high : time ≤ 65536

time_told : (last : ℕ) (text : List ℕ) (time : ℕ) (rest : List ℕ) → time_line last text ≡ Found.told time rest → IsTimeTold last text time rest
time_told last text time rest e =
    let one = parted (fixed (codes "#") text) (λ _ text. followed (hole is_of_number Time (number_in last 65536) text) (λ time text. followed (fixed (codes "\n") text) (λ _ text. Found.told time text))) time rest e in
    let two = parted (hole is_of_number Time (number_in last 65536) one.middle) (λ time text. followed (fixed (codes "\n") text) (λ _ text. Found.told time text)) time rest one.later in
    let three = parted (fixed (codes "\n") two.middle) (λ _ text. Found.told two.value text) time rest two.later in
    let hash = fixed_told (codes "#") text one.middle one.value one.first in
    let run = hole_told is_of_number Time (number_in last 65536) one.middle two.value two.middle two.first in
    let number = number_told last 65536 two.value run.run run.tells_it in
    let end = fixed_told (codes "\n") two.middle three.middle three.value three.first in
    let same = same_told two.value time three.middle rest three.later in
    record {
      is = hash ∙ ap (λ (bs : List ℕ). codes "#" ++ bs) (run.is ∙ ap (λ (bs : List ℕ). bs ++ two.middle) number.spelled ∙ ap (λ (n : ℕ). decimal n ++ two.middle) same.value
          ∙ ap (λ (bs : List ℕ). decimal time ++ bs) (end ∙ ap (λ (bs : List ℕ). codes "\n" ++ bs) same.rest));
      low = (let l = number.low in let s = same.value in omega arith);
      high = (let h = number.high in let s = same.value in omega arith);
    }

idle_more : (time count : ℕ) (row : List Word) (more : List (List Word)) → later_texts time row (repeated count row ++ more) ≡ later_texts (time + count) row more
idle_more time zero row more = let e : time ≡ time + 0 = omega arith in ap (λ (n : ℕ). later_texts n row more) e
idle_more time (suc count) row more =
    let e : time + 1 + count ≡ time + suc count = omega arith in
    ap (λ (bs : List ℕ). bs ++ later_texts (time + 1) row (repeated count row ++ more)) (later_by time row row false (none_changes row))
    ∙ idle_more (time + 1) count row more ∙ ap (λ (n : ℕ). later_texts n row more) e

repeated_count : (count : ℕ) (row : List Word) → length (repeated count row) ≡ count
repeated_count zero row = refl
repeated_count (suc count) row = ap suc (repeated_count count row)

repeated_are : (widths : List ℕ) (count : ℕ) (row : List Word) (more : List (List Word)) → AreValues widths row → AreRows widths more → AreRows widths (repeated count row ++ more)
repeated_are widths zero row more here later = later
repeated_are widths (suc count) row more here later = (here, repeated_are widths count row more here later)

-- the rows behind the last time
pub record AreTimesTold (last : ℕ) (widths : List ℕ) (front : List (List Word)) (row : List Word) (rows : List (List Word)) (text rest : List ℕ) : Type 0 where
  pub later : List (List Word)
  pub rows_are : rows ≡ front ++ later
  pub is : text ≡ later_texts (last + 1) row later ++ line_of_time (last + 1 + length later)
  pub are : AreRows widths later
  pub few : last + 1 + length later ≤ 65536
  pub ends : rest ≡ []

empty_is : (text : List ℕ) → is_empty text ≡ true → text ≡ []
empty_is [] e = refl
empty_is (b ∷ text) e = cc

times_ended : (last time : ℕ) (widths : List ℕ) (front : List (List Word)) (row : List Word) (rows : List (List Word)) (text middle rest : List ℕ) → AreValues widths row → IsTimeTold last text time middle → is_empty middle ≡ true
    → Found.told (front ++ repeated (time - last - 1) row) middle ≡ Found.told rows rest → AreTimesTold last widths front row rows text rest
times_ended last time widths front row rows text middle rest are here none e =
    let count = time - last - 1 in
    let same = same_told (front ++ repeated count row) rows middle rest e in
    let all : last + 1 + count ≡ time = (let l = here.low in omega arith) in
    let long : last + 1 + length (repeated count row) ≡ time = omega (arith, repeated_count count row, all) in
    let idle : later_texts (last + 1) row (repeated count row) ≡ [] = ap (λ (rs : List (List Word)). later_texts (last + 1) row rs) (sym (append-nil (repeated count row))) ∙ idle_more (last + 1) count row [] in
    record {
      later = repeated count row;
      rows_are = sym same.value;
      is = here.is ∙ ap (λ (bs : List ℕ). codes "#" ++ (decimal time ++ (codes "\n" ++ bs))) (empty_is middle none)
          ∙ ap (λ (n : ℕ). line_of_time n) (sym long) ∙ ap (λ (bs : List ℕ). bs ++ line_of_time (last + 1 + length (repeated count row))) (sym idle);
      are = subst (λ (rs : List (List Word)). AreRows widths rs) (append-nil (repeated count row)) (repeated_are widths count row [] are tt);
      few = (let h = here.high in omega (arith, long));
      ends = sym same.rest ∙ empty_is middle none;
    }

times_gone_on : (last time : ℕ) (widths : List ℕ) (front : List (List Word)) (row now : List Word) (rows : List (List Word)) (text middle behind rest : List ℕ) → AreValues widths row → IsTimeTold last text time middle
    → AreChanged 0 widths [] row now middle behind → AreTimesTold time widths (front ++ repeated (time - last - 1) row ++ now ∷ []) now rows behind rest → AreTimesTold last widths front row rows text rest
times_gone_on last time widths front row now rows text middle behind rest are here changed more =
    let count = time - last - 1 in
    let same : changed.after ≡ now = sym changed.row in
    let some : some_change row now ≡ true = subst (λ (r : List Word). some_change row r ≡ true) same changed.some in
    let now_are : AreValues widths now = subst (λ (r : List Word). AreValues widths r) same changed.are in
    let changes : middle ≡ changes_text 0 row now ++ behind = subst (λ (r : List Word). middle ≡ changes_text 0 row r ++ behind) same changed.is in
    let later = repeated count row ++ now ∷ more.later in
    let end = time + 1 + length more.later in
    let at : last + 1 + count ≡ time = (let l = here.low in omega arith) in
    let long : last + 1 + length later ≡ end = omega (arith, length-append (repeated count row) (now ∷ more.later), repeated_count count row, at) in
    let lines : later_texts (last + 1) row later ≡ line_of_time time ++ changes_text 0 row now ++ later_texts (time + 1) now more.later =
    idle_more (last + 1) count row (now ∷ more.later) ∙ ap (λ (n : ℕ). later_texts n row (now ∷ more.later)) at
    ∙ ap (λ (bs : List ℕ). bs ++ later_texts (time + 1) now more.later) (later_by time row now true some) in
    record {
      later = later;
      rows_are = more.rows_are ∙ append_assoc (front ++ repeated count row) (now ∷ []) more.later ∙ append_assoc front (repeated count row) (now ∷ more.later);
      is = here.is ∙ ap (λ (bs : List ℕ). codes "#" ++ (decimal time ++ (codes "\n" ++ bs))) (changes ∙ ap (λ (bs : List ℕ). changes_text 0 row now ++ bs) more.is)
          ∙ sym (later_form (decimal time) (changes_text 0 row now) (later_texts (time + 1) now more.later) (line_of_time end))
          ∙ ap (λ (bs : List ℕ). bs ++ line_of_time end) (sym lines) ∙ ap (λ (n : ℕ). later_texts (last + 1) row later ++ line_of_time n) (sym long);
      are = repeated_are widths count row (now ∷ more.later) are (now_are, more.are);
      few = (let f = more.few in omega (arith, long, f));
      ends = more.ends;
    }

times_told : (few last : ℕ) (widths : List ℕ) (front : List (List Word)) (row : List Word) (rows : List (List Word)) (text rest : List ℕ) → AreWidths widths → AreValues widths row
    → time_lines few widths last front row text ≡ Found.told rows rest → AreTimesTold last widths front row rows text rest
times_told zero last widths front row rows text rest ok are e = cc
times_told (suc few) last widths front row rows text rest ok are e =
    let one = parted (time_line last text) (λ time text. elim (is_empty text) [
      | true ↦ Found.told (front ++ repeated (time - last - 1) row) text
      | false ↦ followed (change_lines (suc (length widths)) widths 0 row text) (λ now text. time_lines few widths time (front ++ repeated (time - last - 1) row ++ now ∷ []) now text)
    ]) rows rest e in
    by_end (λ last widths front row rows text rest ok are e. times_told few last widths front row rows text rest ok are e) (is_empty one.middle) one.value one.middle (time_told last text one.value one.middle one.first) refl one.later
  where
    by_end : ((last : ℕ) (widths : List ℕ) (front : List (List Word)) (row : List Word) (rows : List (List Word)) (text rest : List ℕ) → AreWidths widths → AreValues widths row
        → time_lines few widths last front row text ≡ Found.told rows rest → AreTimesTold last widths front row rows text rest)
        → (t : Bool) (time : ℕ) (middle : List ℕ) → IsTimeTold last text time middle → is_empty middle ≡ t → elim t [
          | true ↦ Found.told (front ++ repeated (time - last - 1) row) middle
          | false ↦ followed (change_lines (suc (length widths)) widths 0 row middle) (λ now text. time_lines few widths time (front ++ repeated (time - last - 1) row ++ now ∷ []) now text)
        ] ≡ Found.told rows rest → AreTimesTold last widths front row rows text rest
    by_end told_on true time middle here none e = times_ended last time widths front row rows text middle rest are here none e
    by_end told_on false time middle here none e =
        let one = parted (change_lines (suc (length widths)) widths 0 row middle) (λ now text. time_lines few widths time (front ++ repeated (time - last - 1) row ++ now ∷ []) now text) rows rest e in
        let changed = changes_told (suc (length widths)) 0 [] widths [] row one.value middle one.middle refl refl ok are one.first in
        times_gone_on last time widths front row one.value rows text middle one.middle rest are here changed
        (told_on time widths (front ++ repeated (time - last - 1) row ++ one.value ∷ []) one.value rows one.middle rest ok
        (subst (λ (r : List Word). AreValues widths r) (sym changed.row) changed.are) one.later)

-- ---- ports

abbrev pub Apart : DumpPort → DumpPort → Type 0
Apart one other = one.name ≢ other.name

pub record IsPortLineTold (ports : List DumpPort) (text : List ℕ) (port : DumpPort) (rest : List ℕ) : Type 0 where
  pub is : text ≡ codes "var wire " ++ (decimal port.width ++ (codes " " ++ (code (length ports) ++ (codes " " ++ (port.name ++ (codes " $end\n" ++ rest))))))
  pub is_port : IsPort port
  pub new : list_any (λ (other : DumpPort). bytes_eq other.name port.name) ports ≡ false

port_line_told : (ports : List DumpPort) (text : List ℕ) (port : DumpPort) (rest : List ℕ) → port_line ports text ≡ Found.told port rest → IsPortLineTold ports text port rest
port_line_told ports text port rest e =
    let one = parted (fixed (codes "var wire ") text) (λ _ text. followed (hole is_of_number Width (number_in 0 128) text) (λ width text.
    followed (fixed (codes " ") text) (λ _ text. followed (hole is_of_code Code (port_in (λ k. k == length ports)) text) (λ _ text.
    followed (fixed (codes " ") text) (λ _ text. followed (hole is_of_name Name (port_name_in ports) text) (λ name text.
    followed (fixed (codes " $end\n") text) (λ _ text. Found.told (record { name = name; width = width }) text))))))) port rest e in
    let two = parted (hole is_of_number Width (number_in 0 128) one.middle) (λ width text.
    followed (fixed (codes " ") text) (λ _ text. followed (hole is_of_code Code (port_in (λ k. k == length ports)) text) (λ _ text.
    followed (fixed (codes " ") text) (λ _ text. followed (hole is_of_name Name (port_name_in ports) text) (λ name text.
    followed (fixed (codes " $end\n") text) (λ _ text. Found.told (record { name = name; width = width }) text)))))) port rest one.later in
    let three = parted (fixed (codes " ") two.middle) (λ _ text. followed (hole is_of_code Code (port_in (λ k. k == length ports)) text) (λ _ text.
    followed (fixed (codes " ") text) (λ _ text. followed (hole is_of_name Name (port_name_in ports) text) (λ name text.
    followed (fixed (codes " $end\n") text) (λ _ text. Found.told (record { name = name; width = two.value }) text))))) port rest two.later in
    let four = parted (hole is_of_code Code (port_in (λ k. k == length ports)) three.middle) (λ _ text.
    followed (fixed (codes " ") text) (λ _ text. followed (hole is_of_name Name (port_name_in ports) text) (λ name text.
    followed (fixed (codes " $end\n") text) (λ _ text. Found.told (record { name = name; width = two.value }) text)))) port rest three.later in
    let five = parted (fixed (codes " ") four.middle) (λ _ text. followed (hole is_of_name Name (port_name_in ports) text) (λ name text.
    followed (fixed (codes " $end\n") text) (λ _ text. Found.told (record { name = name; width = two.value }) text))) port rest four.later in
    let six = parted (hole is_of_name Name (port_name_in ports) five.middle) (λ name text. followed (fixed (codes " $end\n") text) (λ _ text. Found.told (record { name = name; width = two.value }) text)) port rest five.later in
    let seven = parted (fixed (codes " $end\n") six.middle) (λ _ text. Found.told (record { name = six.value; width = two.value }) text) port rest six.later in
    let begun = fixed_told (codes "var wire ") text one.middle one.value one.first in
    let width_run = hole_told is_of_number Width (number_in 0 128) one.middle two.value two.middle two.first in
    let width = number_told 0 128 two.value width_run.run width_run.tells_it in
    let blank = fixed_told (codes " ") two.middle three.middle three.value three.first in
    let code_run = hole_told is_of_code Code (port_in (λ k. k == length ports)) three.middle four.value four.middle four.first in
    let coded = port_told (λ k. k == length ports) code_run.run four.value code_run.all code_run.tells_it in
    let number : four.value ≡ length ports = eqb-true four.value (length ports) coded.let_in in
    let other_blank = fixed_told (codes " ") four.middle five.middle five.value five.first in
    let name_run = hole_told is_of_name Name (port_name_in ports) five.middle six.value six.middle six.first in
    let named = name_told ports name_run.run six.value name_run.all name_run.tells_it in
    let end = fixed_told (codes " $end\n") six.middle seven.middle seven.value seven.first in
    let here : DumpPort = record { name = six.value; width = two.value } in
    let same = same_told here port seven.middle rest seven.later in
    let known : IsPortLineTold ports text here seven.middle = record {
      is = begun ∙ ap (λ (bs : List ℕ). codes "var wire " ++ bs) (width_run.is ∙ ap (λ (bs : List ℕ). bs ++ two.middle) width.spelled ∙ ap (λ (bs : List ℕ). decimal two.value ++ bs)
          (blank ∙ ap (λ (bs : List ℕ). codes " " ++ bs) (code_run.is ∙ ap (λ (bs : List ℕ). bs ++ four.middle) coded.spelled ∙ ap (λ (k : ℕ). code k ++ four.middle) number ∙ ap (λ (bs : List ℕ). code (length ports) ++ bs)
          (other_blank ∙ ap (λ (bs : List ℕ). codes " " ++ bs) (name_run.is ∙ ap (λ (bs : List ℕ). bs ++ six.middle) named.same ∙ ap (λ (bs : List ℕ). six.value ++ bs) end)))));
      is_port = record { name = named.is_name; some_bit = (let l = width.low in omega arith); small = width.high };
      new = named.new;
    } in
    subst (λ (bs : List ℕ). IsPortLineTold ports text port bs) same.rest (subst (λ (p : DumpPort). IsPortLineTold ports text p seven.middle) same.value known)

none_same : (ports : List DumpPort) (name : List ℕ) → list_any (λ (other : DumpPort). bytes_eq other.name name) ports ≡ false → (i : ℕ) (d : DumpPort) → i < length ports → (get_or ports i d).name ≢ name
none_same [] name e i d h = absurd (omega arith)
none_same (port ∷ ports) name e zero d h = λ same. clash (bytes_eq port.name name) e ((bytes_eq-Decides port.name name).1 same)
  where
    clash : (t : Bool) → (t || list_any (λ (other : DumpPort). bytes_eq other.name name) ports) ≡ false → t ≡ true → ⊥
    clash true e h = cc
    clash false e h = cc
none_same (port ∷ ports) name e (suc i) d h = none_same ports name (rest (bytes_eq port.name name) e) i d (omega arith)
  where
    rest : (t : Bool) → (t || list_any (λ (other : DumpPort). bytes_eq other.name name) ports) ≡ false → list_any (λ (other : DumpPort). bytes_eq other.name name) ports ≡ false
    rest true e = cc
    rest false e = e

one_apart : (done : List DumpPort) (port : DumpPort) → AllPairs Apart done → list_any (λ (other : DumpPort). bytes_eq other.name port.name) done ≡ false → AllPairs Apart (done ++ port ∷ [])
one_apart done port apart new i j d order inside =
    elim (cases_lt j (length done)) [
      | inl low ↦
          let one : get_or (done ++ port ∷ []) i d ≡ get_or done i d = get_or_append_left done (port ∷ []) d i (omega arith) in
          let other : get_or (done ++ port ∷ []) j d ≡ get_or done j d = get_or_append_left done (port ∷ []) d j low in
          λ e. apart i j d order low (ap (λ (p : DumpPort). p.name) (sym one) ∙ e ∙ ap (λ (p : DumpPort). p.name) other)
      | inr high ↦
          let last : j ≡ length done = (let l = inside in omega (arith, l, length-append done (port ∷ []))) in
          let before : i < length done = omega arith in
          let one : get_or (done ++ port ∷ []) i d ≡ get_or done i d = get_or_append_left done (port ∷ []) d i before in
          let other : get_or (done ++ port ∷ []) j d ≡ port = ap (λ (n : ℕ). get_or (done ++ port ∷ []) n d) last ∙ get_or-append_seam done port [] d in
          λ e. none_same done port.name new i d before (ap (λ (p : DumpPort). p.name) (sym one) ∙ e ∙ ap (λ (p : DumpPort). p.name) other)
    ]

pub record ArePortsTold (done ports : List DumpPort) (text rest : List ℕ) : Type 0 where
  pub more : List DumpPort
  pub ports_are : ports ≡ done ++ more
  pub is : text ≡ ports_text (length done) more ++ (codes "$" ++ rest)
  pub each : All IsPort more
  pub apart : AllPairs Apart (done ++ more)

ports_told : (few : ℕ) (done : List DumpPort) (text : List ℕ) (ports : List DumpPort) (rest : List ℕ) → AllPairs Apart done → port_lines few done text ≡ Found.told ports rest → ArePortsTold done ports text rest
ports_told zero done text ports rest apart e = cc
ports_told (suc few) done text ports rest apart e =
    let one = parted (fixed (codes "$") text) (λ _ text. elim (begins 118 text) [
      | true ↦ followed (port_line done text) (λ port text. port_lines few (done ++ port ∷ []) text)
      | false ↦ Found.told done text
    ]) ports rest e in
    by_kind (λ done text ports rest apart e. ports_told few done text ports rest apart e) (begins 118 one.middle) one.middle (fixed_told (codes "$") text one.middle one.value one.first) one.later
  where
    by_kind : ((done : List DumpPort) (text : List ℕ) (ports : List DumpPort) (rest : List ℕ) → AllPairs Apart done → port_lines few done text ≡ Found.told ports rest → ArePortsTold done ports text rest)
        → (t : Bool) (middle : List ℕ) → text ≡ codes "$" ++ middle → elim t [
          | true ↦ followed (port_line done middle) (λ port text. port_lines few (done ++ port ∷ []) text)
          | false ↦ Found.told done middle
        ] ≡ Found.told ports rest → ArePortsTold done ports text rest
    by_kind told_on true middle is e =
        let one = parted (port_line done middle) (λ port text. port_lines few (done ++ port ∷ []) text) ports rest e in
        let port = one.value in
        let here = port_line_told done middle port one.middle one.first in
        let more = told_on (done ++ port ∷ []) one.middle ports rest (one_apart done port apart here.new) one.later in
        let next : length (done ++ port ∷ []) ≡ length done + 1 = omega (arith, length-append done (port ∷ [])) in
        let later : one.middle ≡ ports_text (length done + 1) more.more ++ (codes "$" ++ rest) = more.is ∙ ap (λ (n : ℕ). ports_text n more.more ++ (codes "$" ++ rest)) next in
        record {
          more = port ∷ more.more;
          ports_are = more.ports_are ∙ append_assoc done (port ∷ []) more.more;
          is = is ∙ ap (λ (bs : List ℕ). codes "$" ++ bs) here.is ∙ sym (port_form (decimal port.width) (code (length done)) port.name one.middle)
              ∙ ap (λ (bs : List ℕ). line_of_port (length done) port ++ bs) later ∙ sym (append_assoc (line_of_port (length done) port) (ports_text (length done + 1) more.more) (codes "$" ++ rest));
          each = All-cons IsPort port more.more here.is_port more.each;
          apart = subst (λ (ps : List DumpPort). AllPairs Apart ps) (append_assoc done (port ∷ []) more.more) more.apart;
        }
    by_kind told_on false middle is e =
        let same = same_told done ports middle rest e in
        record {
          more = [];
          ports_are = sym same.value ∙ sym (append-nil done);
          is = is ∙ ap (λ (bs : List ℕ). codes "$" ++ bs) same.rest;
          each = All-nil IsPort;
          apart = subst (λ (ps : List DumpPort). AllPairs Apart ps) (sym (append-nil done)) apart;
        }

-- ---- the whole

widths_are : (ports : List DumpPort) → All IsPort ports → AreWidths (widths_of ports)
widths_are [] each = tt
widths_are (port ∷ ports) each =
    let here = each zero port (omega arith) in
    (here.some_bit, here.small, widths_are ports (λ k d h. each (suc k) d (omega arith)))

row_is : (widths : List ℕ) (row : List Word) → AreValues widths row → (map (λ (value : Word). value.width) row ≡ widths) × All IsValue row
row_is [] [] are = (refl, All-nil IsValue)
row_is [] (value ∷ row) are = absurd are
row_is (width ∷ widths) [] are = absurd are
row_is (width ∷ widths) (value ∷ row) are =
    let more = row_is widths row are.2 in
    (ap (λ (w : ℕ). w ∷ map (λ (v : Word). v.width) row) are.0 ∙ ap (λ (ws : List ℕ). width ∷ ws) more.0, All-cons IsValue value row are.1 more.1)

rows_are : (ports : List DumpPort) (rows : List (List Word)) → AreRows (widths_of ports) rows → All (IsRow ports) rows
rows_are ports [] are = All-nil (IsRow ports)
rows_are ports (row ∷ rows) are =
    let here = row_is (widths_of ports) row are.0 in
    All-cons (IsRow ports) row rows (record { widths = here.0; words = here.1 }) (rows_are ports rows are.1)

-- the rows behind the header
pub record AreRowsTold (widths : List ℕ) (text : List ℕ) (rows : List (List Word)) (rest : List ℕ) : Type 0 where
  pub row : List Word
  pub later : List (List Word)
  pub rows_are : rows ≡ row ∷ later
  pub is : text ≡ codes "#0\n$dumpvars\n" ++ (values_text 0 row ++ (codes "$end\n" ++ (later_texts 1 row later ++ line_of_time (1 + length later))))
  pub are : AreRows widths (row ∷ later)
  pub few : 1 + length later ≤ 65536
  pub ends : rest ≡ []

row_lines_told : (widths : List ℕ) (text : List ℕ) (rows : List (List Word)) (rest : List ℕ) → AreWidths widths → row_lines widths text ≡ Found.told rows rest → AreRowsTold widths text rows rest
row_lines_told widths text rows rest ok e =
    let one = parted (fixed (codes "#0\n$dumpvars\n") text) (λ _ text. followed (first_values 0 widths text) (λ row text. followed (fixed (codes "$end\n") text) (λ _ text.
    time_lines (suc (length text)) widths 0 (row ∷ []) row text))) rows rest e in
    let two = parted (first_values 0 widths one.middle) (λ row text. followed (fixed (codes "$end\n") text) (λ _ text. time_lines (suc (length text)) widths 0 (row ∷ []) row text)) rows rest one.later in
    let three = parted (fixed (codes "$end\n") two.middle) (λ _ text. time_lines (suc (length text)) widths 0 (two.value ∷ []) two.value text) rows rest two.later in
    let begun = fixed_told (codes "#0\n$dumpvars\n") text one.middle one.value one.first in
    let first = first_told 0 widths one.middle two.value two.middle ok two.first in
    let end = fixed_told (codes "$end\n") two.middle three.middle three.value three.first in
    let times = times_told (suc (length three.middle)) 0 widths (two.value ∷ []) two.value rows three.middle rest ok first.are three.later in
    record {
      row = two.value;
      later = times.later;
      rows_are = times.rows_are;
      is = begun ∙ ap (λ (bs : List ℕ). codes "#0\n$dumpvars\n" ++ bs) (first.is ∙ ap (λ (bs : List ℕ). values_text 0 two.value ++ bs) (end ∙ ap (λ (bs : List ℕ). codes "$end\n" ++ bs) times.is));
      are = (first.are, times.are);
      few = times.few;
      ends = times.ends;
    }

dump_of_parts : (name : List ℕ) (ports : List DumpPort) (rows : List (List Word)) (text body rest : List ℕ) → IsModuleName name → All IsPort ports → AllPairs Apart ports
    → text ≡ codes "$timescale 1 ns $end\n$scope module " ++ (name ++ (codes " $end\n" ++ (ports_text 0 ports ++ (codes "$" ++ (codes "upscope $end\n$enddefinitions $end\n" ++ body)))))
    → AreRowsTold (widths_of ports) body rows rest → IsDumpText text (record { name = name; ports = ports; rows = rows }) rest
dump_of_parts name ports rows text body rest named each apart is told =
    let count : length (told.row ∷ told.later) ≡ 1 + length told.later = omega arith in
    let known : IsDumpText text (record { name = name; ports = ports; rows = told.row ∷ told.later }) rest = record {
      is = is ∙ ap (λ (bs : List ℕ). codes "$timescale 1 ns $end\n$scope module " ++ (name ++ (codes " $end\n" ++ (ports_text 0 ports ++ (codes "$" ++ (codes "upscope $end\n$enddefinitions $end\n" ++ bs)))))) told.is
          ∙ sym (dump_form name (ports_text 0 ports) (values_text 0 told.row) (later_texts 1 told.row told.later) (line_of_time (1 + length told.later)))
          ∙ ap (λ (n : ℕ). head_text name ports ++ rows_text (told.row ∷ told.later) ++ line_of_time n) (sym count);
      is_dump = record {
        name = named;
        ports = each;
        distinct = apart;
        some_row = omega (arith, count);
        few = (let f = told.few in omega (arith, count, f));
        rows = rows_are ports (told.row ∷ told.later) told.are;
      };
      ends = told.ends;
    } in
    subst (λ (rs : List (List Word)). IsDumpText text (record { name = name; ports = ports; rows = rs }) rest) (sym told.rows_are) known

pub dump_told : (text : List ℕ) (dump : DumpValue) (rest : List ℕ) → dump_read text ≡ Found.told dump rest → IsDumpText text dump rest
dump_told text dump rest e =
    let one = parted (fixed (codes "$timescale 1 ns $end\n$scope module ") text) (λ _ text. followed (hole is_of_name Name module_name_in text) (λ name text.
    followed (fixed (codes " $end\n") text) (λ _ text. followed (port_lines (suc (length text)) [] text) (λ ports text.
    followed (fixed (codes "upscope $end\n$enddefinitions $end\n") text) (λ _ text. followed (row_lines (widths_of ports) text) (λ rows text.
    Found.told (record { name = name; ports = ports; rows = rows }) text)))))) dump rest e in
    let two = parted (hole is_of_name Name module_name_in one.middle) (λ name text.
    followed (fixed (codes " $end\n") text) (λ _ text. followed (port_lines (suc (length text)) [] text) (λ ports text.
    followed (fixed (codes "upscope $end\n$enddefinitions $end\n") text) (λ _ text. followed (row_lines (widths_of ports) text) (λ rows text.
    Found.told (record { name = name; ports = ports; rows = rows }) text))))) dump rest one.later in
    let three = parted (fixed (codes " $end\n") two.middle) (λ _ text. followed (port_lines (suc (length text)) [] text) (λ ports text.
    followed (fixed (codes "upscope $end\n$enddefinitions $end\n") text) (λ _ text. followed (row_lines (widths_of ports) text) (λ rows text.
    Found.told (record { name = two.value; ports = ports; rows = rows }) text)))) dump rest two.later in
    let four = parted (port_lines (suc (length three.middle)) [] three.middle) (λ ports text.
    followed (fixed (codes "upscope $end\n$enddefinitions $end\n") text) (λ _ text. followed (row_lines (widths_of ports) text) (λ rows text.
    Found.told (record { name = two.value; ports = ports; rows = rows }) text))) dump rest three.later in
    let five = parted (fixed (codes "upscope $end\n$enddefinitions $end\n") four.middle) (λ _ text. followed (row_lines (widths_of four.value) text) (λ rows text.
    Found.told (record { name = two.value; ports = four.value; rows = rows }) text)) dump rest four.later in
    let six = parted (row_lines (widths_of four.value) five.middle) (λ rows text. Found.told (record { name = two.value; ports = four.value; rows = rows }) text) dump rest five.later in
    let begun = fixed_told (codes "$timescale 1 ns $end\n$scope module ") text one.middle one.value one.first in
    let run = hole_told is_of_name Name module_name_in one.middle two.value two.middle two.first in
    let named = module_told run.run two.value run.tells_it in
    let end = fixed_told (codes " $end\n") two.middle three.middle three.value three.first in
    let listed = ports_told (suc (length three.middle)) [] three.middle four.value four.middle (λ i j d order inside. absurd (omega arith)) four.first in
    let ports : four.value ≡ listed.more = listed.ports_are in
    let each : All IsPort four.value = subst (λ (ps : List DumpPort). All IsPort ps) (sym ports) listed.each in
    let apart : AllPairs Apart four.value = subst (λ (ps : List DumpPort). AllPairs Apart ps) (sym ports) listed.apart in
    let closed = fixed_told (codes "upscope $end\n$enddefinitions $end\n") four.middle five.middle five.value five.first in
    let rowed = row_lines_told (widths_of four.value) five.middle six.value six.middle (widths_are four.value each) six.first in
    let here : DumpValue = record { name = two.value; ports = four.value; rows = six.value } in
    let same = same_told here dump six.middle rest six.later in
    let is : text ≡ codes "$timescale 1 ns $end\n$scope module " ++ (two.value ++ (codes " $end\n" ++ (ports_text 0 four.value ++ (codes "$" ++ (codes "upscope $end\n$enddefinitions $end\n" ++ five.middle))))) =
    begun ∙ ap (λ (bs : List ℕ). codes "$timescale 1 ns $end\n$scope module " ++ bs)
    (run.is ∙ ap (λ (bs : List ℕ). bs ++ two.middle) named.1 ∙ ap (λ (bs : List ℕ). two.value ++ bs)
    (end ∙ ap (λ (bs : List ℕ). codes " $end\n" ++ bs) (listed.is ∙ ap (λ (ps : List DumpPort). ports_text 0 ps ++ (codes "$" ++ four.middle)) (sym ports) ∙ ap (λ (bs : List ℕ). ports_text 0 four.value ++ (codes "$" ++ bs)) closed))) in
    let known : IsDumpText text here six.middle = dump_of_parts two.value four.value six.value text five.middle six.middle named.0 each apart is rowed in
    subst (λ (bs : List ℕ). IsDumpText text dump bs) same.rest (subst (λ (d : DumpValue). IsDumpText text d six.middle) same.value known)
