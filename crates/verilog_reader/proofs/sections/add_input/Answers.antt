use Rattle.std.proofs.Common.{◌≡◌, ℕ, List, length, sym, ap, subst, arith, length-append, [], ◌∷◌}
use Rattle.std.specs.Prelude.{All}
use Rattle.std.proofs.lemmas.List.Elements.{All-push}
use Rattle.netlist.specs.declared.line.Line.{Line}
use Rattle.netlist.specs.declared.line.PortLine.{PortLine}
use Rattle.verilog_reader.specs.declared.spot.Spot.{Spot}
use Rattle.verilog_forms.specs.Forms.{Form}
use Rattle.verilog_forms.specs.InputLines.{input_form}
use Rattle.verilog_forms.specs.WholeTexts.{room_form}
use Rattle.verilog_reader.specs.Spots.{found}
use Rattle.verilog_reader.specs.Sections.{HasBits}
use Rattle.verilog_reader.proofs.SectionSteps.{has_room, port_read}
use Rattle.verilog_reader.proofs.sections.add_input.Goals as goal

-- what is read is told of the lines of the vector
read_of : (k : ℕ) (port : PortLine) (text : List ℕ) (spot : Spot) (lines slice : List Line) (line : Line) (behind : Spot) → slice ≡ lines
    → found (room_form (length slice) (input_form (length slice) k port)) text spot ≡ found (Form.whole line) text behind → found (room_form (length lines) (input_form (length lines) k port)) text spot ≡ found (Form.whole line) text behind
read_of k port text spot lines slice line behind same e = subst (λ (ls : List Line). found (room_form (length ls) (input_form (length ls) k port)) text spot ≡ found (Form.whole line) text behind) same e

pub returns-clause-leads : goal.returns-clause-leads
returns-clause-leads c = λ all start ports.
    let text = c.args.bytes.now in
    let k = c.args.number in
    let port = c.args.port.now in
    let lines = c.args.lines.now.items in
    let line = c.input-line.result.0 in
    let behind = c.input-line.result.1 in
    let here = read_of k port text c.args.spot lines c.as_slice.result.now line behind c.as_slice.ensures.value c.input-line.ensures.read in
    port_read k port ports all text start lines c.push.new.self.items c.args.spot line behind c.requires.input c.requires.within c.input-line.ensures.within c.in_ok-push.ensures.items here

pub returns-clause-room : goal.returns-clause-room
returns-clause-room c = λ good few.
    let text = c.args.bytes.now in
    let k = c.args.number in
    let port = c.args.port.now in
    let lines = c.args.lines.now.items in
    let line = c.input-line.result.0 in
    let behind = c.input-line.result.1 in
    let here = read_of k port text c.args.spot lines c.as_slice.result.now line behind c.as_slice.ensures.value c.input-line.ensures.read in
    let room = has_room c.input_lines.ensures.sound (length lines) k port text c.args.spot line behind here good in
    omega (arith, room, ap (λ (ls : List Line). length ls) c.in_ok-push.ensures.items, length-append lines (line ∷ []))

pub returns-clause-widths : goal.returns-clause-widths
returns-clause-widths c =
    let line = c.input-line.result.0 in
    let width = c.input-line.ensures.width in
    subst (All HasBits) (sym c.in_ok-push.ensures.items) (All-push HasBits c.args.lines.now.items line c.requires.widths (record { some_bit = omega (arith, width, c.requires.width.some_bit); small = omega (arith, width, c.requires.width.small) }))
