-- Lines that state the commands of host 0, as they are read.
use Rattle.std.proofs.Common.{◌≡◌, ℕ, zero, suc, ◌+◌, ◌-◌, ◌*◌, ◌^◌, ◌<◌, ◌≤◌, ◌&&◌, Bool, true, false, not, cond, List, [], ◌∷◌, ◌++◌, length, Option, Some, None, Ok, Err, codes, decimal, refl, sym, ap, subst, ◌∙◌, append_assoc, append-nil, length-append, arith}
use Rattle.std.specs.Prelude.{nat_lt, nat_le, replicate}
use Rattle.std.specs.List.{list_all}
use Rattle.std.proofs.lemmas.Bool.{lt-ltb, le-leb, lt-leb}
use Rattle.iface_roles.specs.declared.records.HostPort.{HostPort}
use Rattle.iface_roles.specs.Proper.{range_of}
use Rattle.system_tables.specs.Tables.{SystemTable}
use Rattle.address_map.specs.Maps.{hosts_of, agents_of}
use Rattle.link_rules.specs.PlanConnections.{stream_connections}
use Rattle.waves.specs.Cuts.{line_feed, lines}
use Rattle.verilog_writer.specs.Text.{hex_digits}
use Rattle.scenario_tables.specs.declared.statements.HostStatement.{HostStatement}
use Rattle.scenario_tables.specs.declared.statements.HostStatement.TheVariants.{Write, Read}
use Rattle.scenario_tables.specs.Statements.{longest_of}
use Rattle.waves.specs.declared.keywords.Keyword.TheVariants.{Cycles, Write as Writes, Read as Reads}
use Rattle.waves.specs.Keywords.{keyword_in}
use Rattle.waves.specs.Words.{is_silent, is_clean, words_of}
use Rattle.waves.specs.Spelling.{is_hexadecimal, hexadecimal_in, is_count, count_in}
use Rattle.scenarios.specs.declared.faults.ScenarioRule.{ScenarioRule}
use Rattle.scenarios.specs.declared.faults.ScenarioRule.TheVariants.{Characters, Spelling, Ranges, Beginning, Transfers, Limits}
use Rattle.scenarios.specs.declared.so_far.SoFar.{SoFar}
use Rattle.scenarios.specs.Rules.{first_broken}
use Rattle.scenarios.specs.Interfaces.{host_named}
use Rattle.scenarios.specs.SoFar.{Reading, judged, with_host, blank}
use Rattle.scenarios.specs.Hosts.{is_rest, is_full, fits_word, fits_enables, fits_command, spells_write, spells_read, can_write, can_read, write_rule, read_rule, write_of, read_of, write_in, read_in}
use Rattle.scenarios.specs.Lines.{cycles_in, at_one, by_keyword, words_in, line_in}
use Rattle.scenarios.specs.Files.{gone_on, lines_in, file_in}
use Rattle.scenario_runs.specs.Stated.{host_alone}
use Rattle.scenario_runs.proofs.transfers.Cutting.{IsWord, AreWords, joined, words_are, line_is_clean, lines_are}
use Rattle.scenario_runs.proofs.transfers.Numbers.{length-hex_digits, hexes_are_digits, digits_are_word, is_spelled, hex_read, decimal_is_word, count_is_spelled, count_read}

-- what is stated behind the line of cycles and so many statements of host 0
abbrev pub standing : SystemTable → ℕ → List HostStatement → SoFar
standing system cycles script = record {
  cycles = Some cycles;
  hosts = script ∷ replicate (length (hosts_of system) - 1) [];
  agents = replicate (length (agents_of system)) [];
  sources = replicate (length (stream_connections system)) [];
  sinks = replicate (length (stream_connections system)) [];
}

-- host 0 has this name and these ports
pub record IsNamed (system : SystemTable) (name : List ℕ) (port : HostPort) : Type 0 where
  pub is_word : IsWord name
  pub few : length name ≤ 129
  pub named : host_named system name ≡ Some (record { number = 0; port = port })

-- a command fits its host
pub record Fits (port : HostPort) (address enables : ℕ) : Type 0 where
  pub address_is : address < range_of port
  pub range : range_of port ≤ 2 ^ 32
  pub enables_are : fits_enables port enables ≡ true
  pub few : enables < 16 ^ 4
  pub beats : 1 ≤ longest_of port

-- ---- one line

line_read : (system : SystemTable) (so_far : SoFar) (word : List ℕ) (others : List (List ℕ)) → AreWords (word ∷ others) → is_silent (joined (word ∷ others)) ≡ false
    → line_in system so_far (joined (word ∷ others)) ≡ words_in system so_far (word ∷ others)
unfolding line_in
line_read system so_far word others are loud =
    ap (λ (t : Bool). cond t (Ok so_far) (cond (is_clean (joined (word ∷ others))) (words_in system so_far (words_of (joined (word ∷ others)))) (Err Characters))) loud
    ∙ ap (λ (t : Bool). cond t (words_in system so_far (words_of (joined (word ∷ others)))) (Err Characters)) (line_is_clean word others are)
    ∙ ap (words_in system so_far) (words_are word others are)

write_word : keyword_in (codes "write") ≡ Some Writes
unfolding keyword_in
write_word = refl

read_word : keyword_in (codes "read") ≡ Some Reads
unfolding keyword_in
read_word = refl

cycles_word : keyword_in (codes "cycles") ≡ Some Cycles
unfolding keyword_in
cycles_word = refl

none_broken : (a b d e : Bool) → a ≡ true → b ≡ true → d ≡ true → e ≡ false
    → first_broken ((not a, Spelling) ∷ (not b, Ranges) ∷ (false, Beginning) ∷ (not d, Transfers) ∷ (e, Limits) ∷ []) ≡ None
none_broken a b d e x y z w = rw (x, y, z, w) refl

room : (count : ℕ) → count < 4096 → is_full count ≡ false
room count h = lt-leb 4096 count h

-- the words of a statement
statement_words : (word name : List ℕ) (address enables : ℕ) (last : List ℕ) → IsWord word → IsWord name → IsWord last
    → AreWords (word ∷ name ∷ hex_digits 10 address ∷ hex_digits 4 enables ∷ last ∷ [])
statement_words word name address enables last a b e = (
  a,
  (
    b,
    (
      digits_are_word (hex_digits 10 address) (hexes_are_digits 10 address) (omega (arith, length-hex_digits 10 address)),
      (digits_are_word (hex_digits 4 enables) (hexes_are_digits 4 enables) (omega (arith, length-hex_digits 4 enables)), (e, tt)),
    ),
  ),
)

-- ---- writes

abbrev write_words : List ℕ → ℕ → ℕ → List ℕ → List (List ℕ)
write_words name address enables digits = codes "write" ∷ name ∷ hex_digits 10 address ∷ hex_digits 4 enables ∷ digits ∷ []

both_true : (a b : Bool) → a ≡ true → b ≡ true → (a && b) ≡ true
both_true a b x y = rw (x, y) refl

address_spelled : (address : ℕ) → is_hexadecimal (hex_digits 10 address) ≡ true
address_spelled address = is_spelled (hex_digits 10 address) (hexes_are_digits 10 address) (omega (arith, length-hex_digits 10 address)) (omega (arith, length-hex_digits 10 address))

enables_spelled : (enables : ℕ) → is_hexadecimal (hex_digits 4 enables) ≡ true
enables_spelled enables = is_spelled (hex_digits 4 enables) (hexes_are_digits 4 enables) (omega (arith, length-hex_digits 4 enables)) (omega (arith, length-hex_digits 4 enables))

address_read : (port : HostPort) (address enables : ℕ) → Fits port address enables → hexadecimal_in (hex_digits 10 address) ≡ address
address_read port address enables fits =
    let low = fits.address_is in
    let small = fits.range in
    hex_read 10 address (omega (arith, low, small))

command_fits : (port : HostPort) (address enables : ℕ) (first name : List ℕ) (others : List (List ℕ)) → Fits port address enables
    → fits_command port (first ∷ name ∷ hex_digits 10 address ∷ hex_digits 4 enables ∷ others) ≡ true
command_fits port address enables first name others fits =
    both_true (nat_lt (hexadecimal_in (hex_digits 10 address)) (range_of port)) (fits_enables port (hexadecimal_in (hex_digits 4 enables)))
    (lt-ltb (hexadecimal_in (hex_digits 10 address)) (range_of port) (subst (λ (n : ℕ). n < range_of port) (sym (address_read port address enables fits)) fits.address_is))
    (ap (fits_enables port) (hex_read 4 enables fits.few) ∙ fits.enables_are)

-- the digits of a word that fits a host
pub record IsDigitWord (port : HostPort) (digits : List ℕ) : Type 0 where
  pub is_word : IsWord digits
  pub few : length digits ≤ 32
  pub spelled : is_hexadecimal digits ≡ true
  pub fits : fits_word port digits ≡ true

write_read : (system : SystemTable) (cycles : ℕ) (script : List HostStatement) (name : List ℕ) (port : HostPort) (address enables : ℕ) (digits : List ℕ) → IsNamed system name port → port.writes ≡ true
    → Fits port address enables → IsDigitWord port digits → length script < 4096
    → line_in system (standing system cycles script) (joined (write_words name address enables digits)) ≡ Ok (standing system cycles (script ++ Write address enables (hexadecimal_in digits ∷ []) ∷ []))
unfolding words_in write_in write_rule
write_read system cycles script name port address enables digits named writes fits word short =
    let words = write_words name address enables digits in
    let so_far = standing system cycles script in
    let are : AreWords words = statement_words (codes "write") name address enables digits (record { solid = refl; some = refl }) named.is_word word.is_word in
    let spells : spells_write words ≡ true =
    both_true (is_hexadecimal (hex_digits 10 address)) (is_hexadecimal (hex_digits 4 enables) && (is_hexadecimal digits && true)) (address_spelled address)
    (both_true (is_hexadecimal (hex_digits 4 enables)) (is_hexadecimal digits && true) (enables_spelled enables) (both_true (is_hexadecimal digits) true word.spelled refl)) in
    let ranges : (fits_command port words && list_all (fits_word port) (digits ∷ [])) ≡ true =
    both_true (fits_command port words) (fits_word port digits && true) (command_fits port address enables (codes "write") name (digits ∷ []) fits) (both_true (fits_word port digits) true word.fits refl) in
    let can : can_write port 1 ≡ true = both_true port.writes (nat_le 1 1 && nat_le 1 (longest_of port)) writes (both_true (nat_le 1 1) (nat_le 1 (longest_of port)) refl (le-leb 1 (longest_of port) fits.beats)) in
    let kept : write_rule port false (length script) words ≡ None =
    none_broken (spells_write words) (fits_command port words && list_all (fits_word port) (digits ∷ [])) (can_write port 1) (is_full (length script)) spells ranges can (room (length script) short) in
    line_read system so_far (codes "write") (name ∷ hex_digits 10 address ∷ hex_digits 4 enables ∷ digits ∷ []) are refl
    ∙ ap (by_keyword system so_far words) write_word
    ∙ ap (λ o. at_one o (λ host. write_in so_far host words)) named.named
    ∙ ap (λ (o : Option ScenarioRule). judged o (with_host 0 (write_of words) so_far)) kept
    ∙ ap (λ (n : ℕ). Ok (standing system cycles (script ++ Write n (hexadecimal_in (hex_digits 4 enables)) (hexadecimal_in digits ∷ []) ∷ []))) (address_read port address enables fits)
    ∙ ap (λ (n : ℕ). Ok (standing system cycles (script ++ Write address n (hexadecimal_in digits ∷ []) ∷ []))) (hex_read 4 enables fits.few)

-- ---- reads

abbrev read_words : List ℕ → ℕ → ℕ → List (List ℕ)
read_words name address enables = codes "read" ∷ name ∷ hex_digits 10 address ∷ hex_digits 4 enables ∷ codes "1" ∷ []

one_spelled : is_count (codes "1") ≡ true
unfolding is_count
one_spelled = refl

one_read : count_in (codes "1") ≡ 1
unfolding count_in
one_read = refl

read_read : (system : SystemTable) (cycles : ℕ) (script : List HostStatement) (name : List ℕ) (port : HostPort) (address enables : ℕ) → IsNamed system name port → port.reads ≡ true
    → Fits port address enables → length script < 4096
    → line_in system (standing system cycles script) (joined (read_words name address enables)) ≡ Ok (standing system cycles (script ++ Read address enables 1 ∷ []))
unfolding words_in read_in read_rule
read_read system cycles script name port address enables named reads fits short =
    let words = read_words name address enables in
    let so_far = standing system cycles script in
    let are : AreWords words = statement_words (codes "read") name address enables (codes "1") (record { solid = refl; some = refl }) named.is_word (record { solid = refl; some = refl }) in
    let spells : spells_read words ≡ true =
    both_true (is_hexadecimal (hex_digits 10 address)) (is_hexadecimal (hex_digits 4 enables) && is_count (codes "1")) (address_spelled address)
    (both_true (is_hexadecimal (hex_digits 4 enables)) (is_count (codes "1")) (enables_spelled enables) one_spelled) in
    let ranges : fits_command port words ≡ true = command_fits port address enables (codes "read") name (codes "1" ∷ []) fits in
    let can : can_read port (count_in (codes "1")) ≡ true =
    ap (can_read port) one_read ∙ both_true port.reads (nat_le 1 1 && nat_le 1 (longest_of port)) reads (both_true (nat_le 1 1) (nat_le 1 (longest_of port)) refl (le-leb 1 (longest_of port) fits.beats)) in
    let kept : read_rule port false (length script) words ≡ None =
    none_broken (spells_read words) (fits_command port words) (can_read port (count_in (codes "1"))) (is_full (length script)) spells ranges can (room (length script) short) in
    line_read system so_far (codes "read") (name ∷ hex_digits 10 address ∷ hex_digits 4 enables ∷ codes "1" ∷ []) are refl
    ∙ ap (by_keyword system so_far words) read_word
    ∙ ap (λ o. at_one o (λ host. read_in so_far host words)) named.named
    ∙ ap (λ (o : Option ScenarioRule). judged o (with_host 0 (read_of words) so_far)) kept
    ∙ ap (λ (n : ℕ). Ok (standing system cycles (script ++ Read n (hexadecimal_in (hex_digits 4 enables)) (count_in (codes "1")) ∷ []))) (address_read port address enables fits)
    ∙ ap (λ (n : ℕ). Ok (standing system cycles (script ++ Read address n (count_in (codes "1")) ∷ []))) (hex_read 4 enables fits.few)
    ∙ ap (λ (n : ℕ). Ok (standing system cycles (script ++ Read address enables n ∷ []))) one_read

-- ---- lines

-- a text is lines that state these commands behind others
pub record Adds (system : SystemTable) (cycles : ℕ) (text : List ℕ) (commands : List HostStatement) : Type 0 where
  pub short : length text ≤ 256 * length commands
  pub read : (script : List HostStatement) (number : ℕ) (rest : List ℕ) → length script + length commands ≤ 4096
      → lines_in system number (standing system cycles script) (lines (text ++ rest)) ≡ lines_in system (number + length commands) (standing system cycles (script ++ commands)) (lines rest)

pub adds_none : (system : SystemTable) (cycles : ℕ) → Adds system cycles [] []
adds_none system cycles = record {
  short = omega arith;
  read = λ script number rest h.
      ap (λ (n : ℕ). lines_in system n (standing system cycles script) (lines rest)) (let e : number ≡ number + 0 = omega arith in e)
      ∙ ap (λ (ss : List HostStatement). lines_in system (number + 0) (standing system cycles ss) (lines rest)) (sym (append-nil script));
}

pub adds_both : (system : SystemTable) (cycles : ℕ) (one other : List ℕ) (first second : List HostStatement) → Adds system cycles one first → Adds system cycles other second → Adds system cycles (one ++ other) (first ++ second)
adds_both system cycles one other first second a b = record {
  short = (let x = a.short in let y = b.short in omega (arith, x, y, length-append one other, length-append first second));
  read = λ script number rest h.
      let long = length-append first second in
      let more = length-append script first in
      ap (λ (bs : List ℕ). lines_in system number (standing system cycles script) (lines bs)) (append_assoc one other rest)
      ∙ a.read script number (other ++ rest) (omega (arith, h, long))
      ∙ b.read (script ++ first) (number + length first) rest (omega (arith, h, long, more))
      ∙ ap (λ (n : ℕ). lines_in system n (standing system cycles ((script ++ first) ++ second)) (lines rest)) (let e : number + length first + length second ≡ number + length (first ++ second) = omega (arith, long) in e)
      ∙ ap (λ (ss : List HostStatement). lines_in system (number + length (first ++ second)) (standing system cycles ss) (lines rest)) (append_assoc script first second);
}

adds_line : (system : SystemTable) (cycles : ℕ) (words : List (List ℕ)) (text : List ℕ) (command : HostStatement) → AreWords words → length text ≤ 256 → ((rest : List ℕ) → text ++ rest ≡ joined words ++ line_feed ∷ rest)
    → ((script : List HostStatement) → length script < 4096 → line_in system (standing system cycles script) (joined words) ≡ Ok (standing system cycles (script ++ command ∷ [])))
    → Adds system cycles text (command ∷ [])
adds_line system cycles words text command are short is reads = record {
  short = short;
  read = λ script number rest h.
      ap (λ (bs : List ℕ). lines_in system number (standing system cycles script) (lines bs)) (is rest)
      ∙ ap (lines_in system number (standing system cycles script)) (lines_are words rest are)
      ∙ ap (λ (r : Reading). gone_on number r (λ next. lines_in system (number + 1) next (lines rest))) (reads script (omega (arith, h)));
}

-- how a statement is put together
joined_is : (word name address enables last rest : List ℕ)
    → ((word ++ codes " " ++ name ++ codes " " ++ address) ++ codes " " ++ enables ++ codes " " ++ last ++ codes "\n") ++ rest ≡ joined (word ∷ name ∷ address ∷ enables ∷ last ∷ []) ++ line_feed ∷ rest
joined_is word name address enables last rest = simp append_assoc

line_short : (word name address enables last : List ℕ) → length word ≤ 5 → length name ≤ 129 → length address ≡ 10 → length enables ≡ 4 → length last ≤ 32
    → length ((word ++ codes " " ++ name ++ codes " " ++ address) ++ codes " " ++ enables ++ codes " " ++ last ++ codes "\n") ≤ 256
line_short word name address enables last a b c d e = simp length-append (omega arith)

-- the text of a statement
abbrev pub line_text : List ℕ → List ℕ → ℕ → ℕ → List ℕ → List ℕ
line_text word name address enables last = (word ++ codes " " ++ name ++ codes " " ++ hex_digits 10 address) ++ codes " " ++ hex_digits 4 enables ++ codes " " ++ last ++ codes "\n"

pub write_adds : (system : SystemTable) (cycles : ℕ) (name : List ℕ) (port : HostPort) (address enables : ℕ) (digits : List ℕ) → IsNamed system name port → port.writes ≡ true → Fits port address enables
    → IsDigitWord port digits → Adds system cycles (line_text (codes "write") name address enables digits) (Write address enables (hexadecimal_in digits ∷ []) ∷ [])
write_adds system cycles name port address enables digits named writes fits word =
    adds_line system cycles (write_words name address enables digits) (line_text (codes "write") name address enables digits) (Write address enables (hexadecimal_in digits ∷ []))
    (statement_words (codes "write") name address enables digits (record { solid = refl; some = refl }) named.is_word word.is_word)
    (line_short (codes "write") name (hex_digits 10 address) (hex_digits 4 enables) digits (omega arith) named.few (length-hex_digits 10 address) (length-hex_digits 4 enables) word.few)
    (joined_is (codes "write") name (hex_digits 10 address) (hex_digits 4 enables) digits)
    (λ script short. write_read system cycles script name port address enables digits named writes fits word short)

pub read_adds : (system : SystemTable) (cycles : ℕ) (name : List ℕ) (port : HostPort) (address enables : ℕ) → IsNamed system name port → port.reads ≡ true → Fits port address enables
    → Adds system cycles (line_text (codes "read") name address enables (codes "1")) (Read address enables 1 ∷ [])
read_adds system cycles name port address enables named reads fits =
    adds_line system cycles (read_words name address enables) (line_text (codes "read") name address enables (codes "1")) (Read address enables 1)
    (statement_words (codes "read") name address enables (codes "1") (record { solid = refl; some = refl }) named.is_word (record { solid = refl; some = refl }))
    (line_short (codes "read") name (hex_digits 10 address) (hex_digits 4 enables) (codes "1") (omega arith) named.few (length-hex_digits 10 address) (length-hex_digits 4 enables) (omega arith))
    (joined_is (codes "read") name (hex_digits 10 address) (hex_digits 4 enables) (codes "1"))
    (λ script short. read_read system cycles script name port address enables named reads fits short)

-- ---- the whole file

cycles_none : (a b : Bool) → a ≡ true → b ≡ true → first_broken ((not a, Spelling) ∷ (not b, Ranges) ∷ (false, Beginning) ∷ []) ≡ None
cycles_none a b x y = rw (x, y) refl

abbrev blanks : ℕ → List (List HostStatement)
blanks n = replicate n []

some_first : (n : ℕ) → 0 < n → blanks n ≡ [] ∷ blanks (n - 1)
some_first zero h = absurd (omega arith)
some_first (suc n) h = let e : suc n - 1 ≡ n = omega arith in ap (λ (k : ℕ). [] ∷ blanks k) (sym e)

cycles_read : (system : SystemTable) (cycles : ℕ) → 0 < length (hosts_of system) → 1 ≤ cycles → cycles ≤ 65536
    → line_in system (blank system) (joined (codes "cycles" ∷ decimal cycles ∷ [])) ≡ Ok (standing system cycles [])
unfolding words_in cycles_in
cycles_read system cycles some least most =
    let words = codes "cycles" ∷ decimal cycles ∷ [] in
    let value = count_read cycles (omega arith) in
    let rest : is_rest (count_in (decimal cycles)) ≡ true =
    ap is_rest value ∙ both_true (nat_le 1 cycles) (nat_le cycles 65536) (le-leb 1 cycles least) (le-leb cycles 65536 most) in
    line_read system (blank system) (codes "cycles") (decimal cycles ∷ []) (record { solid = refl; some = refl }, (decimal_is_word cycles (omega arith), tt)) refl
    ∙ ap (by_keyword system (blank system) words) cycles_word
    ∙ ap (λ (o : Option ScenarioRule). judged o (record (blank system) { cycles = Some (count_in (decimal cycles)) })) (cycles_none (is_count (decimal cycles)) (is_rest (count_in (decimal cycles))) (count_is_spelled cycles (omega arith) (omega arith)) rest)
    ∙ ap (λ (n : ℕ). Ok (record (blank system) { cycles = Some n })) value
    ∙ ap (λ (hs : List (List HostStatement)). Ok (record (blank system) { cycles = Some cycles; hosts = hs })) (some_first (length (hosts_of system)) some)

-- the line of cycles, and lines of commands behind it
pub whole_file : (system : SystemTable) (cycles : ℕ) (text : List ℕ) (commands : List HostStatement) → 0 < length (hosts_of system) → 1 ≤ cycles → cycles ≤ 65536 → length commands ≤ 4096
    → Adds system cycles text commands → file_in system (codes "cycles " ++ decimal cycles ++ codes "\n" ++ text) ≡ Ok (host_alone system cycles commands)
unfolding file_in
whole_file system cycles text commands some least most few adds =
    let words = codes "cycles" ∷ decimal cycles ∷ [] in
    let are : AreWords words = (record { solid = refl; some = refl }, (decimal_is_word cycles (omega arith), tt)) in
    let same : codes "cycles " ++ decimal cycles ++ codes "\n" ++ text ≡ joined words ++ line_feed ∷ text = simp append_assoc in
    let end : text ≡ text ++ [] = sym (append-nil text) in
    ap (λ (bs : List ℕ). lines_in system 1 (blank system) (lines bs)) same
    ∙ ap (lines_in system 1 (blank system)) (lines_are words text are)
    ∙ ap (λ (r : Reading). gone_on 1 r (λ next. lines_in system (1 + 1) next (lines text))) (cycles_read system cycles some least most)
    ∙ ap (λ (bs : List ℕ). lines_in system (1 + 1) (standing system cycles []) (lines bs)) end
    ∙ adds.read [] (1 + 1) [] (omega (arith, few))
