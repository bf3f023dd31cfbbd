-- Dumps as they are read.
use Rattle.std.specs.Prelude.{◌≡◌, ℕ, zero, suc, ◌+◌, ◌-◌, Bool, true, false, ◌&&◌, not, ◌==◌, nat_lt, List, [], ◌∷◌, ◌++◌, length, slice_index_or, slice_set, Option, Some, None, codes, if◌then◌else◌}
use Rattle.av_base.specs.Word.{Word, word}
use Rattle.vcd_text.specs.declared.port.DumpPort.{DumpPort}
use Rattle.vcd_text.specs.Text.{DumpValue, dump_text}
use Rattle.vcd_text.specs.Dumps.{widths_of, IsDump}
use Rattle.vcd_reader.specs.declared.rule.Rule.TheVariants.{OtherByte, Name, Width, Code, Time, Value}
use Rattle.vcd_reader.specs.Found.{Found, followed, fixed, hole}
use Rattle.vcd_reader.specs.Spellings.{is_of_name, is_of_number, is_of_code, number_in, module_name_in, port_name_in, port_in, Spelled, value_in}

-- the text begins with this byte
abbrev pub begins : ℕ → List ℕ → Bool
begins byte [] = false
begins byte (first ∷ text) = first == byte

abbrev pub is_empty : List ℕ → Bool
is_empty [] = true
is_empty (byte ∷ text) = false

-- ---- the header

-- the line of the port behind these, from its second byte on
abbrev pub port_line : List DumpPort → List ℕ → Found DumpPort
port_line ports text =
    followed (fixed (codes "var wire ") text) (λ _ text. followed (hole is_of_number Width (number_in 0 128) text) (λ width text.
    followed
    (fixed (codes " ") text) (λ _ text. followed (hole is_of_code Code (port_in (λ k. k == length ports)) text) (λ _ text.
    followed (fixed (codes " ") text) (λ _ text. followed (hole is_of_name Name (port_name_in ports) text) (λ name text.
    followed (fixed (codes " $end\n") text) (λ _ text. Found.told (record { name = name; width = width }) text)))))))

-- the lines of so many ports at most behind these, and the first byte of the next line
abbrev pub port_lines : ℕ → List DumpPort → List ℕ → Found (List DumpPort)
port_lines zero ports text = Found.broken text OtherByte
port_lines (suc few) ports text =
    followed (fixed (codes "$") text) (λ _ text. elim (begins 118 text) [
      | true ↦ followed (port_line ports text) (λ port text. port_lines few (ports ++ port ∷ []) text)
      | false ↦ Found.told ports text
    ])

-- ---- values

-- the code of one of the ports that are let in, behind its value
abbrev pub coded : (ℕ → Bool) → Spelled → List ℕ → Found (ℕ × Spelled)
coded lets_in spelled text =
    followed
    (hole is_of_code Code (port_in lets_in) text) (λ port text. followed
    (fixed (codes "\n") text) (λ _ text. Found.told (port, spelled) text))

-- what stands behind the first byte of a value's line: behind a `b` digits, a blank and a code, else a code
abbrev pub spelled_behind : (ℕ → Bool) → ℕ → Bool → List ℕ → Found (ℕ × Spelled)
spelled_behind lets_in byte true text =
    followed
    (hole is_of_number Value Some text) (λ run text. followed
    (fixed (codes " ") text) (λ _ text. coded lets_in (Spelled.digits run) text))
spelled_behind lets_in byte false text = coded lets_in (Spelled.bit byte) text

-- a value's line, whatever the value
abbrev pub spelled_line : (ℕ → Bool) → List ℕ → Found (ℕ × Spelled)
spelled_line lets_in [] = Found.broken [] OtherByte
spelled_line lets_in (byte ∷ text) = spelled_behind lets_in byte (byte == 98) text

-- a value of a port, or none where the line is of the wrong form
abbrev pub judged_value : (ℕ → Word → Bool) → List ℕ → ℕ → List ℕ → Option Word → Found (ℕ × Word)
judged_value fits text port rest None = Found.broken text Value
judged_value fits text port rest (Some value) = if fits port value then Found.told (port, value) rest else Found.broken text Value

abbrev pub judged : (ℕ → ℕ) → (ℕ → Word → Bool) → List ℕ → Found (ℕ × Spelled) → Found (ℕ × Word)
judged width fits text (Found.broken rest rule) = Found.broken rest rule
judged width fits text (Found.told line rest) = judged_value fits text line.0 rest (value_in (width line.0) line.1)

-- the line of a value that is let in, of a port that is let in; a value is refused at the first byte of its line, behind what
-- else the line breaks
abbrev pub value_line : (ℕ → ℕ) → (ℕ → Bool) → (ℕ → Word → Bool) → List ℕ → Found (ℕ × Word)
value_line width lets_in fits text = judged width fits text (spelled_line lets_in text)

-- the first value of each of the ports from port k on, in order
abbrev pub first_values : ℕ → List ℕ → List ℕ → Found (List Word)
first_values k [] text = Found.told [] text
first_values k (width ∷ widths) text =
    followed
    (value_line (λ _. width) (λ port. port == k) (λ _ _. true) text) (λ line text. followed
    (first_values (k + 1) widths text) (λ values text. Found.told (line.1 ∷ values) text))

-- the width of a port, and its value in a row
abbrev pub width_at : List ℕ → ℕ → ℕ
width_at widths port = slice_index_or widths port 0

abbrev pub bits_at : List Word → ℕ → ℕ
bits_at row port = (slice_index_or row port (word 0 0)).bits

-- the line of a port from `next` on, whose value in a row changes
abbrev pub change_line : List ℕ → ℕ → List Word → List ℕ → Found (ℕ × Word)
change_line widths next row text =
    value_line
    (width_at widths) (λ port. not (nat_lt port next)
    && nat_lt port (length widths)) (λ port value. not (value.bits == bits_at row port)) text

-- the lines of so many changes at most under one time: at least one, and further ones up to the line of a time. They tell the row
-- that they make of this one.
abbrev pub change_lines : ℕ → List ℕ → ℕ → List Word → List ℕ → Found (List Word)
change_lines zero widths next row text = Found.broken text OtherByte
change_lines (suc few) widths next row text =
    followed (change_line widths next row text) (λ line text. elim (begins 35 text) [
      | true ↦ Found.told (slice_set row line.0 line.1) text
      | false ↦ change_lines few widths (line.0 + 1) (slice_set row line.0 line.1) text
    ])

-- ---- times

-- the line of a time behind the last
abbrev pub time_line : ℕ → List ℕ → Found ℕ
time_line last text =
    followed
    (fixed (codes "#") text) (λ _ text. followed
    (hole is_of_number Time (number_in last 65536) text) (λ time text. followed
    (fixed (codes "\n") text) (λ _ text. Found.told time text)))

abbrev pub repeated : ℕ → List Word → List (List Word)
repeated zero row = []
repeated (suc count) row = row ∷ repeated count row

-- the lines of so many times at most behind the last, whose row this is, as the last of these rows: values that change under
-- each, and the end of the text behind the last line, which tells how many rows there are
abbrev pub time_lines : ℕ → List ℕ → ℕ → List (List Word) → List Word → List ℕ → Found (List (List Word))
time_lines zero widths last rows row text = Found.broken text OtherByte
time_lines (suc few) widths last rows row text =
    followed (time_line last text) (λ time text. elim (is_empty text) [
      | true ↦ Found.told (rows ++ repeated (time - last - 1) row) text
      | false ↦
          followed
          (change_lines (suc (length widths)) widths 0 row text) (λ now text. time_lines few widths time
          (rows ++ repeated (time - last - 1) row ++ now ∷ []) now text)
    ])

-- ---- the whole

-- the rows of a dump with ports of these widths
abbrev pub row_lines : List ℕ → List ℕ → Found (List (List Word))
row_lines widths text =
    followed
    (fixed (codes "#0\n$dumpvars\n") text) (λ _ text. followed
    (first_values 0 widths text) (λ row text. followed (fixed (codes "$end\n") text) (λ _ text.
    time_lines (suc (length text)) widths 0 (row ∷ []) row text)))

-- a dump
abbrev pub dump_read : List ℕ → Found DumpValue
dump_read text =
    followed
    (fixed (codes "$timescale 1 ns $end\n$scope module ") text) (λ _ text. followed
    (hole is_of_name Name module_name_in text) (λ name text.
    followed (fixed (codes " $end\n") text) (λ _ text. followed (port_lines (suc (length text)) [] text) (λ ports text.
    followed
    (fixed (codes "upscope $end\n$enddefinitions $end\n") text) (λ _ text. followed
    (row_lines (widths_of ports) text) (λ rows text.
    Found.told (record { name = name; ports = ports; rows = rows }) text))))))

-- the text is that of a dump, and nothing stands behind it
pub record IsDumpText (text : List ℕ) (dump : DumpValue) (rest : List ℕ) : Type 0 where
  pub is : text ≡ dump_text dump
  pub is_dump : IsDump dump
  pub ends : rest ≡ []
