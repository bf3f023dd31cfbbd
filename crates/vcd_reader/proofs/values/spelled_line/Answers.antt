use Rattle.std.proofs.Common.{ℕ, List, ◌∷◌, get_or, sym, ap, ◌∙◌}
use Rattle.vcd_reader.specs.Readings.{spelled_line}
use Rattle.vcd_reader.specs.Reads.{valued}
use Rattle.vcd_reader.proofs.ValueSteps.{other_line, first_of}
use Rattle.vcd_reader.proofs.values.spelled_line.Goals as goal

pub returns-else-byte-eq98-clause-read : goal.returns-else-byte-eq98-clause-read
returns-else-byte-eq98-clause-read c = λ width lets_in suits. (
    let text = c.rest-text.result.now in
    let byte = get_or text 0 0 in
    ap (λ (t : List ℕ). valued width (spelled_line lets_in t)) (sym c.rest-text.ensures)
    ∙ ap (valued width) (other_line lets_in text c.go_on.new.self byte (first_of text c.in-len1-up.len_at_least ∙ ap (λ (t : List ℕ). byte ∷ t) (sym c.go_on.ensures)) c.if-byte-eq98.false)
    ∙ c.bit_line.ensures.read width lets_in suits)
