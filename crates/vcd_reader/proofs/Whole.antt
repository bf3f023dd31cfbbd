-- The whole text of a dump, as it is read.
use Rattle.std.proofs.Common.{◌≡◌, ◌≢◌, ℕ, zero, suc, ◌+◌, ◌-◌, ◌<◌, ◌≤◌, Bool, true, false, cond, List, [], ◌∷◌, ◌++◌, length, length-append, map, get_or, codes, decimal, refl, sym, ap, subst, ◌∙◌, append_assoc, append-nil, arith}
use Rattle.std.specs.Prelude.{All, AllPairs}
use Rattle.std.specs.List.{list_any}
use Rattle.std.specs.Str.{bytes_eq}
use Rattle.std.proofs.lemmas.List.Elements.{All-head, All-tail}
use Rattle.std.proofs.lemmas.List.Folds.{list_any_none}
use Rattle.std.proofs.lemmas.List.{get_or_append_left}
use Rattle.std.proofs.lemmas.Slice.Eq.{bytes_eq-Decides}
use Rattle.std.proofs.Math.Seq.{get_or-append_seam}
use Rattle.av_base.specs.Word.{Word}
use Rattle.vcd_text.specs.declared.port.DumpPort.{DumpPort}
use Rattle.vcd_text.specs.Text.{code, some_change, changes_text, values_text, later_text, later_texts, rows_text, time_line as line_of_time, port_line as line_of_port, ports_text, head_text, DumpValue, dump_text}
use Rattle.vcd_text.specs.Dumps.{IsPort, IsValue, IsRow, IsDump, widths_of}
use Rattle.vcd_reader.specs.declared.rule.Rule.TheVariants.{Name}
use Rattle.vcd_reader.specs.Found.{Found, followed, fixed, hole}
use Rattle.vcd_reader.specs.Spellings.{is_of_name, module_name_in}
use Rattle.vcd_reader.specs.Readings.{begins, is_empty, port_line, port_lines, change_lines, time_lines, repeated, row_lines, dump_read}
use Rattle.vcd_reader.proofs.Spell.{hole_read, module_run, module_read}
use Rattle.vcd_reader.proofs.Lines.{port_is_read, AreValues, first_are_read, changes_begin, is_still, changes_are_read, time_is_read}

-- ---- the ports

pub port_form : (width code name rest : List ℕ) → codes "$var wire " ++ width ++ codes " " ++ code ++ codes " " ++ name ++ codes " $end\n" ++ rest
    ≡ 36 ∷ (codes "var wire " ++ (width ++ (codes " " ++ (code ++ (codes " " ++ (name ++ (codes " $end\n" ++ rest)))))))
port_form width code name rest = simp append_assoc

-- no earlier port has the name of a later one
new_name : (done more : List DumpPort) (port : DumpPort) → AllPairs (λ (one other : DumpPort). one.name ≢ other.name) (done ++ port ∷ more) → list_any (λ (other : DumpPort). bytes_eq other.name port.name) done ≡ false
new_name done more port apart =
    list_any_none (λ (other : DumpPort). bytes_eq other.name port.name) done (λ k d inside.
    let pair = apart k (length done) d inside (omega (arith, length-append done (port ∷ more))) in
    let one : get_or (done ++ port ∷ more) k d ≡ get_or done k d = get_or_append_left done (port ∷ more) d k inside in
    let other : get_or (done ++ port ∷ more) (length done) d ≡ port = get_or-append_seam done port more d in
    different (get_or done k d).name port.name (λ e. pair (ap (λ (p : DumpPort). p.name) one ∙ e ∙ ap (λ (p : DumpPort). p.name) (sym other))))
  where
    by_test : (xs ys : List ℕ) (t : Bool) → bytes_eq xs ys ≡ t → (xs ≡ ys → ⊥) → t ≡ false
    by_test xs ys true e apart = absurd (apart ((bytes_eq-Decides xs ys).0 e))
    by_test xs ys false e apart = refl

    different : (xs ys : List ℕ) → (xs ≡ ys → ⊥) → bytes_eq xs ys ≡ false
    different xs ys apart = by_test xs ys (bytes_eq xs ys) refl apart

port_long : (k : ℕ) (port : DumpPort) → 1 ≤ length (line_of_port k port)
port_long k port = subst (λ (bs : List ℕ). 1 ≤ length bs) (append-nil (line_of_port k port)) (subst (λ (bs : List ℕ). 1 ≤ length bs) (sym (port_form (decimal port.width) (code k) port.name [])) (omega arith))

ports_are_read : (few : ℕ) (done more : List DumpPort) (rest : List ℕ) → All IsPort more → AllPairs (λ (one other : DumpPort). one.name ≢ other.name) (done ++ more) → length (ports_text (length done) more) < few → begins 118 rest ≡ false
    → port_lines few done (ports_text (length done) more ++ (codes "$" ++ rest)) ≡ Found.told (done ++ more) rest
ports_are_read zero done more rest each apart room last = absurd (omega arith)
ports_are_read (suc few) done [] rest each apart room last =
    ap (λ (t : Bool). elim t [ true ↦ followed (port_line done rest) (λ port text. port_lines few (done ++ port ∷ []) text) | false ↦ Found.told done rest ]) last
    ∙ ap (λ (ps : List DumpPort). Found.told ps rest) (sym (append-nil done))
ports_are_read (suc few) done (port ∷ more) rest each apart room last =
    let k = length done in
    let later = ports_text (k + 1) more ++ (codes "$" ++ rest) in
    let body = codes "var wire " ++ (decimal port.width ++ (codes " " ++ (code k ++ (codes " " ++ (port.name ++ (codes " $end\n" ++ later)))))) in
    let text : ports_text k (port ∷ more) ++ (codes "$" ++ rest) ≡ 36 ∷ body = append_assoc (line_of_port k port) (ports_text (k + 1) more) (codes "$" ++ rest) ∙ port_form (decimal port.width) (code k) port.name later in
    let here : port_line done body ≡ Found.told port later = port_is_read done port later (All-head IsPort port more each) (new_name done more port apart) in
    let next : length (done ++ port ∷ []) ≡ k + 1 = omega (arith, length-append done (port ∷ [])) in
    let enough : length (ports_text (length (done ++ port ∷ [])) more) < few =
    omega (arith, ap (λ (n : ℕ). length (ports_text n more)) next, room, length-append (line_of_port k port) (ports_text (k + 1) more), port_long k port) in
    ap (port_lines (suc few) done) text
    ∙ ap (λ (f : Found DumpPort). followed f (λ port text. port_lines few (done ++ port ∷ []) text)) here
    ∙ ap (λ (n : ℕ). port_lines few (done ++ port ∷ []) (ports_text n more ++ (codes "$" ++ rest))) (sym next)
    ∙ ports_are_read few (done ++ port ∷ []) more rest (All-tail IsPort port more each) (subst (AllPairs (λ (one other : DumpPort). one.name ≢ other.name)) (sym (append_assoc done (port ∷ []) more)) apart) enough last
    ∙ ap (λ (ps : List DumpPort). Found.told ps rest) (append_assoc done (port ∷ []) more)

-- ---- the rows

-- each row has values of these widths
abbrev pub AreRows : List ℕ → List (List Word) → Type 0
AreRows widths [] = Unit {0}
AreRows widths (row ∷ rows) = AreValues widths row × AreRows widths rows

pub later_by : (time : ℕ) (before row : List Word) (t : Bool) → some_change before row ≡ t → later_text time before row ≡ cond t (line_of_time time ++ changes_text 0 before row) []
later_by time before row t e = ap (λ (b : Bool). cond b (line_of_time time ++ changes_text 0 before row) []) e

time_form : (time rest : List ℕ) → codes "#" ++ time ++ codes "\n" ++ rest ≡ codes "#" ++ (time ++ (codes "\n" ++ rest))
time_form time rest = simp append_assoc

pub later_form : (time changes later rest : List ℕ) → codes "#" ++ time ++ codes "\n" ++ changes ++ later ++ rest ≡ codes "#" ++ (time ++ (codes "\n" ++ (changes ++ (later ++ rest))))
later_form time changes later rest = simp append_assoc

-- behind the changes of a row stands the line of a time
begins_by : (time last : ℕ) (before row : List Word) (rows : List (List Word)) (t : Bool) → some_change before row ≡ t → (row ≡ row → begins 35 (later_texts (time + 1) row rows ++ line_of_time last) ≡ true)
    → begins 35 (later_texts time before (row ∷ rows) ++ line_of_time last) ≡ true
begins_by time last before row rows true e later = ap (λ (bs : List ℕ). begins 35 (bs ++ later_texts (time + 1) row rows ++ line_of_time last)) (later_by time before row true e)
begins_by time last before row rows false e later = ap (λ (bs : List ℕ). begins 35 (bs ++ later_texts (time + 1) row rows ++ line_of_time last)) (later_by time before row false e) ∙ later refl

times_begin : (time last : ℕ) (before : List Word) (rows : List (List Word)) → begins 35 (later_texts time before rows ++ line_of_time last) ≡ true
times_begin time last before [] = refl
times_begin time last before (row ∷ rows) = begins_by time last before row rows (some_change before row) refl (λ _. times_begin (time + 1) last row rows)

repeated_more : (count : ℕ) (row : List Word) → repeated (suc count) row ≡ repeated count row ++ row ∷ []
repeated_more zero row = refl
repeated_more (suc count) row = ap (λ (rs : List (List Word)). row ∷ rs) (repeated_more count row)

-- where the row of a time is the one before
idles : (few last time end : ℕ) (widths : List ℕ) (front : List (List Word)) (row next : List Word) (rows : List (List Word)) → last < time → some_change row next ≡ false → row ≡ next
    → time_lines few widths last front row (later_texts (time + 1) row rows ++ line_of_time end) ≡ Found.told (front ++ repeated (time + 1 - last - 1) row ++ rows) []
    → time_lines few widths last front row (later_texts time row (next ∷ rows) ++ line_of_time end) ≡ Found.told (front ++ repeated (time - last - 1) row ++ next ∷ rows) []
idles few last time end widths front row next rows low none same more =
    let count : time + 1 - last - 1 ≡ suc (time - last - 1) = omega arith in
    ap (λ (bs : List ℕ). time_lines few widths last front row (bs ++ later_texts (time + 1) next rows ++ line_of_time end)) (later_by time row next false none)
    ∙ ap (λ (r : List Word). time_lines few widths last front row (later_texts (time + 1) r rows ++ line_of_time end)) (sym same)
    ∙ more
    ∙ ap (λ (n : ℕ). Found.told (front ++ repeated n row ++ rows) []) count
    ∙ ap (λ (rs : List (List Word)). Found.told (front ++ rs ++ rows) []) (repeated_more (time - last - 1) row)
    ∙ ap (λ (rs : List (List Word)). Found.told (rs ++ rows) []) (sym (append_assoc front (repeated (time - last - 1) row) (row ∷ [])))
    ∙ ap (λ (rs : List (List Word)). Found.told rs []) (append_assoc (front ++ repeated (time - last - 1) row) (row ∷ []) rows)
    ∙ ap (λ (r : List Word). Found.told (front ++ repeated (time - last - 1) row ++ r ∷ rows) []) same

-- where it is another
turns : (few last time end : ℕ) (widths : List ℕ) (front : List (List Word)) (row next : List Word) (rows : List (List Word)) → last < time → time ≤ 65536 → some_change row next ≡ true → AreValues widths row → AreValues widths next
    → length next ≡ length widths
    → time_lines few widths time (front ++ repeated (time - last - 1) row ++ next ∷ []) next (later_texts (time + 1) next rows ++ line_of_time end)
    ≡ Found.told (front ++ repeated (time - last - 1) row ++ next ∷ [] ++ repeated (time + 1 - time - 1) next ++ rows) []
    → time_lines (suc few) widths last front row (later_texts time row (next ∷ rows) ++ line_of_time end) ≡ Found.told (front ++ repeated (time - last - 1) row ++ next ∷ rows) []
turns few last time end widths front row next rows low high some here there wide more =
    let later = later_texts (time + 1) next rows in
    let rest = later ++ line_of_time end in
    let body = changes_text 0 row next ++ rest in
    let front_now = front ++ repeated (time - last - 1) row ++ next ∷ [] in
    let text : later_texts time row (next ∷ rows) ++ line_of_time end ≡ codes "#" ++ (decimal time ++ (codes "\n" ++ body)) =
    ap (λ (bs : List ℕ). bs ++ later ++ line_of_time end) (later_by time row next true some) ∙ later_form (decimal time) (changes_text 0 row next) later (line_of_time end) in
    let begun = changes_begin 0 widths row next rest here there some in
    let changed : change_lines (suc (length widths)) widths 0 row body ≡ Found.told next rest =
    changes_are_read (suc (length widths)) 0 0 [] widths [] row next rest refl refl (omega arith) here there (omega (arith, wide)) (times_begin (time + 1) end next rows) some in
    let nothing : time + 1 - time - 1 ≡ 0 = omega arith in
    ap (time_lines (suc few) widths last front row) text
    ∙ ap (λ (f : Found ℕ). followed f (λ time text. elim (is_empty text) [
      | true ↦ Found.told (front ++ repeated (time - last - 1) row) text
      | false ↦ followed (change_lines (suc (length widths)) widths 0 row text) (λ now text. time_lines few widths time (front ++ repeated (time - last - 1) row ++ now ∷ []) now text)
    ])) (time_is_read last time body low high)
    ∙ ap (λ (t : Bool). elim t [
      | true ↦ Found.told (front ++ repeated (time - last - 1) row) body
      | false ↦ followed (change_lines (suc (length widths)) widths 0 row body) (λ now text. time_lines few widths time (front ++ repeated (time - last - 1) row ++ now ∷ []) now text)
    ]) begun.some
    ∙ ap (λ (f : Found (List Word)). followed f (λ now text. time_lines few widths time (front ++ repeated (time - last - 1) row ++ now ∷ []) now text)) changed
    ∙ more
    ∙ ap (λ (n : ℕ). Found.told (front_now ++ repeated n next ++ rows) []) nothing
    ∙ ap (λ (rs : List (List Word)). Found.told (rs ++ rows) []) (append-nil front_now)
    ∙ ap (λ (rs : List (List Word)). Found.told rs []) (append_assoc (front ++ repeated (time - last - 1) row) (next ∷ []) rows)

later_long : (time : ℕ) (before row : List Word) → some_change before row ≡ true → 1 ≤ length (later_text time before row)
later_long time before row some = subst (λ (bs : List ℕ). 1 ≤ length bs) (sym (later_by time before row true some)) (omega arith)

pub values_count : (widths : List ℕ) (row : List Word) → AreValues widths row → length row ≡ length widths
values_count [] [] are = refl
values_count [] (value ∷ row) are = absurd are
values_count (width ∷ widths) [] are = absurd are
values_count (width ∷ widths) (value ∷ row) are = ap suc (values_count widths row are.2)

-- one more row
more_rows : (few last time end : ℕ) (widths : List ℕ) (front : List (List Word)) (row next : List Word) (rows : List (List Word)) (t : Bool) → some_change row next ≡ t → last < time → time ≤ 65536 → AreValues widths row → AreValues widths next
    → length (later_texts time row (next ∷ rows)) < few
    → ((fewer since : ℕ) (ahead : List (List Word)) (now : List Word) → since < time + 1 → AreValues widths now → now ≡ next → length (later_texts (time + 1) now rows) < fewer
    → time_lines fewer widths since ahead now (later_texts (time + 1) now rows ++ line_of_time end) ≡ Found.told (ahead ++ repeated (time + 1 - since - 1) now ++ rows) [])
    → time_lines few widths last front row (later_texts time row (next ∷ rows) ++ line_of_time end) ≡ Found.told (front ++ repeated (time - last - 1) row ++ next ∷ rows) []
more_rows few last time end widths front row next rows false none low high here there room more =
    let same = (is_still 0 widths row next here there none).row in
    let short : length (later_texts time row (next ∷ rows)) ≡ length (later_texts (time + 1) row rows) =
    ap (λ (bs : List ℕ). length (bs ++ later_texts (time + 1) next rows)) (later_by time row next false none) ∙ ap (λ (r : List Word). length (later_texts (time + 1) r rows)) (sym same) in
    idles few last time end widths front row next rows low none same (more few last front row (omega arith) here same (omega (arith, short, room)))
more_rows zero last time end widths front row next rows true some low high here there room more = absurd (omega arith)
more_rows (suc few) last time end widths front row next rows true some low high here there room more =
    turns few last time end widths front row next rows low high some here there (values_count widths next there)
    (more few time (front ++ repeated (time - last - 1) row ++ next ∷ []) next (omega arith) there refl
    (omega (arith, room, length-append (later_text time row next) (later_texts (time + 1) next rows), later_long time row next some)))

times_are_read : (few last time end : ℕ) (widths : List ℕ) (front : List (List Word)) (row : List Word) (rows : List (List Word)) → last < time → time + length rows ≡ end → end ≤ 65536 → AreValues widths row → AreRows widths rows
    → length (later_texts time row rows) < few → time_lines few widths last front row (later_texts time row rows ++ line_of_time end) ≡ Found.told (front ++ repeated (time - last - 1) row ++ rows) []
times_are_read zero last time end widths front row [] low is high here each room = absurd (omega arith)
times_are_read (suc few) last time end widths front row [] low is high here each room =
    let now : end ≡ time = omega arith in
    ap (λ (n : ℕ). time_lines (suc few) widths last front row (line_of_time n)) now
    ∙ ap (λ (f : Found ℕ). followed f (λ time text. elim (is_empty text) [
      | true ↦ Found.told (front ++ repeated (time - last - 1) row) text
      | false ↦ followed (change_lines (suc (length widths)) widths 0 row text) (λ now text. time_lines few widths time (front ++ repeated (time - last - 1) row ++ now ∷ []) now text)
    ])) (time_is_read last time [] low (omega arith))
    ∙ ap (λ (rs : List (List Word)). Found.told rs []) (sym (append-nil (front ++ repeated (time - last - 1) row)))
times_are_read few last time end widths front row (next ∷ rows) low is high here each room =
    more_rows few last time end widths front row next rows (some_change row next) refl low (omega arith) here each.0 room
    (λ fewer since ahead now later are same enough. times_are_read fewer since (time + 1) end widths ahead now rows later (omega arith) high are each.1 enough)

-- ---- the whole

are_values : (widths : List ℕ) (row : List Word) → map (λ (value : Word). value.width) row ≡ widths → All IsValue row → AreValues widths row
are_values [] [] e each = tt
are_values [] (value ∷ row) e each = cc
are_values (width ∷ widths) [] e each = cc
are_values (width ∷ widths) (value ∷ row) e each =
    let first : value.width ≡ width = cc in
    let others : map (λ (value : Word). value.width) row ≡ widths = cc in
    (first, All-head IsValue value row each, are_values widths row others (All-tail IsValue value row each))

are_rows : (ports : List DumpPort) (rows : List (List Word)) → All (IsRow ports) rows → AreRows (widths_of ports) rows
are_rows ports [] each = tt
are_rows ports (row ∷ rows) each =
    let here = All-head (IsRow ports) row rows each in
    (are_values (widths_of ports) row here.widths here.words, are_rows ports rows (All-tail (IsRow ports) row rows each))

regrouped : (a name b ports c d e first f later time : List ℕ)
    → a ++ name ++ b ++ ports ++ (c ++ d) ++ (e ++ first ++ f ++ later) ++ time ≡ a ++ (name ++ (b ++ (ports ++ (c ++ (d ++ (e ++ (first ++ (f ++ (later ++ time)))))))))
regrouped a name b ports c d e first f later time = simp append_assoc

pub dump_form : (name ports first later time : List ℕ)
    → codes "$timescale 1 ns $end\n$scope module " ++ name ++ codes " $end\n" ++ ports ++ codes "$upscope $end\n$enddefinitions $end\n" ++ (codes "#0\n$dumpvars\n" ++ first ++ codes "$end\n" ++ later) ++ time
    ≡ codes "$timescale 1 ns $end\n$scope module " ++ (name ++ (codes " $end\n" ++ (ports ++ (codes "$" ++ (codes "upscope $end\n$enddefinitions $end\n" ++ (codes "#0\n$dumpvars\n" ++ (first ++ (codes "$end\n" ++ (later ++ time)))))))))
dump_form name ports first later time =
    regrouped (codes "$timescale 1 ns $end\n$scope module ") name (codes " $end\n") ports (codes "$") (codes "upscope $end\n$enddefinitions $end\n") (codes "#0\n$dumpvars\n") first (codes "$end\n") later time

-- the rows behind the header
rows_are_read : (widths : List ℕ) (row : List Word) (rows : List (List Word)) → AreValues widths row → AreRows widths rows → 1 + length rows ≤ 65536
    → row_lines widths (codes "#0\n$dumpvars\n" ++ (values_text 0 row ++ (codes "$end\n" ++ (later_texts 1 row rows ++ line_of_time (1 + length rows))))) ≡ Found.told (row ∷ rows) []
rows_are_read widths row rows here each few =
    let rest = later_texts 1 row rows ++ line_of_time (1 + length rows) in
    ap (λ (f : Found (List Word)). followed f (λ row text. followed (fixed (codes "$end\n") text) (λ _ text. time_lines (suc (length text)) widths 0 (row ∷ []) row text)))
    (first_are_read 0 widths row (codes "$end\n" ++ rest) here)
    ∙ times_are_read (suc (length rest)) 0 1 (1 + length rows) widths (row ∷ []) row rows (omega arith) refl few here each (omega (arith, length-append (later_texts 1 row rows) (line_of_time (1 + length rows))))

whole_is_read : (name : List ℕ) (ports : List DumpPort) (row : List Word) (rows : List (List Word)) → IsDump (record { name = name; ports = ports; rows = row ∷ rows })
    → dump_read (dump_text (record { name = name; ports = ports; rows = row ∷ rows })) ≡ Found.told (record { name = name; ports = ports; rows = row ∷ rows }) []
whole_is_read name ports row rows is =
    let each = are_rows ports (row ∷ rows) is.rows in
    let time = line_of_time (1 + length rows) in
    let body = codes "#0\n$dumpvars\n" ++ (values_text 0 row ++ (codes "$end\n" ++ (later_texts 1 row rows ++ time))) in
    let behind = codes "upscope $end\n$enddefinitions $end\n" ++ body in
    let listed = ports_text 0 ports ++ (codes "$" ++ behind) in
    let count : length (row ∷ rows) ≡ 1 + length rows = omega arith in
    let text : dump_text (record { name = name; ports = ports; rows = row ∷ rows }) ≡ codes "$timescale 1 ns $end\n$scope module " ++ (name ++ (codes " $end\n" ++ listed)) =
    ap (λ (n : ℕ). head_text name ports ++ rows_text (row ∷ rows) ++ line_of_time n) count ∙ dump_form name (ports_text 0 ports) (values_text 0 row) (later_texts 1 row rows) time in
    let named : hole is_of_name Name module_name_in (name ++ (codes " $end\n" ++ listed)) ≡ Found.told name (codes " $end\n" ++ listed) =
    hole_read is_of_name Name module_name_in name (codes " $end\n" ++ listed) name (module_run name is.name) refl (module_read name is.name) in
    let ported : port_lines (suc (length listed)) [] listed ≡ Found.told ports behind =
    ports_are_read (suc (length listed)) [] ports behind is.ports is.distinct (omega (arith, length-append (ports_text 0 ports) (codes "$" ++ behind))) refl in
    let rowed : row_lines (widths_of ports) body ≡ Found.told (row ∷ rows) [] = rows_are_read (widths_of ports) row rows each.0 each.1 (let f = is.few in omega arith) in
    ap dump_read text
    ∙ ap (λ (f : Found (List ℕ)). followed f (λ name text.
    followed (fixed (codes " $end\n") text) (λ _ text. followed (port_lines (suc (length text)) [] text) (λ ports text.
    followed (fixed (codes "upscope $end\n$enddefinitions $end\n") text) (λ _ text. followed (row_lines (widths_of ports) text) (λ rows text.
    Found.told (record { name = name; ports = ports; rows = rows }) text)))))) named
    ∙ ap (λ (f : Found (List DumpPort)). followed f (λ ports text.
    followed (fixed (codes "upscope $end\n$enddefinitions $end\n") text) (λ _ text. followed (row_lines (widths_of ports) text) (λ rows text.
    Found.told (record { name = name; ports = ports; rows = rows }) text)))) ported
    ∙ ap (λ (f : Found (List (List Word))). followed f (λ rows text. Found.told (record { name = name; ports = ports; rows = rows }) text)) rowed

pub dump_is_read : (dump : DumpValue) → IsDump dump → dump_read (dump_text dump) ≡ Found.told dump []
dump_is_read dump is = by_rows dump.rows refl
  where
    by_rows : (rows : List (List Word)) → dump.rows ≡ rows → dump_read (dump_text dump) ≡ Found.told dump []
    by_rows [] e = let some = is.some_row in absurd (omega (arith, ap (λ (rs : List (List Word)). length rs) e, some))
    by_rows (row ∷ rows) e =
        let same : dump ≡ record { name = dump.name; ports = dump.ports; rows = row ∷ rows } = ap (λ (rs : List (List Word)). record { name = dump.name; ports = dump.ports; rows = rs }) e in
        ap (λ (d : DumpValue). dump_read (dump_text d)) same ∙ whole_is_read dump.name dump.ports row rows (subst IsDump same is) ∙ ap (λ (d : DumpValue). Found.told d []) (sym same)
