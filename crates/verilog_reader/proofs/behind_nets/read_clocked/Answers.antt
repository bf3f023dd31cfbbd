use Rattle.std.proofs.Common.{◌≡◌, ◌<◌, ◌≤◌, List, [], length, take, drop, sym, ap, subst, ◌∙◌, arith}
use Rattle.std.proofs.lemmas.List.{drop_all, take_all}
use Rattle.netlist.specs.declared.line.Line.{Line}
use Rattle.verilog_forms.specs.Forms.{Form}
use Rattle.verilog_reader.specs.Spots.{found}
use Rattle.verilog_forms.specs.WholeTexts.{all_clocked_form}
use Rattle.verilog_reader.specs.ClockedParts.{SameWidths}
use Rattle.verilog_reader.proofs.SectionSteps.{leads_to}
use Rattle.verilog_reader.proofs.BehindSteps.{widths_on, todo_on, here_item, clocked_on}
use Rattle.verilog_reader.proofs.behind_nets.read_clocked.Goals as goal

pub nets-preserved : goal.nets-preserved
nets-preserved c =
    let old = c.args.lines.now.items in
    let new = c.nets.lines.items in
    let n = c.nets.net in
    let line = c.index-line.result.now in
    let x = c.clocked_net-clocked.result.0 in
    let behind = c.clocked_net-clocked.result.1 in
    let inv = c.nets.invariant in
    let inside : n < length new = omega (arith, inv.same.count, inv.count) in
    let same_now = subst (SameWidths old) (sym c.as_slice.ensures.value) inv.same in
    record {
      within = c.clocked_net-clocked.ensures.within;
      count = inv.count;
      same = widths_on old new n x line inv.same inside c.index-line.ensures c.clocked_net-clocked.ensures.width;
      todo = todo_on old new n x inside inv.todo;
      leads = λ all many. clocked_on all old new c.args.bytes.now c.args.start c.nets.spot behind n line x inside inv.within c.clocked_net-clocked.ensures.within (here_item old new n line inside inv.todo c.index-line.ensures) (inv.leads all many)
          (c.clocked_net-clocked.ensures.read old all same_now many);
    }

pub returns-clause-read : goal.returns-clause-read
returns-clause-read c = λ all many.
    let old = c.args.lines.now.items in
    let new = c.nets.lines.items in
    let n = c.nets.net in
    let inv = c.nets.invariant in
    let bytes = c.args.bytes.now in
    let over : length old ≤ n = omega (arith, inv.count) in
    let through : length new ≤ n = omega (arith, inv.count, inv.same.count) in
    let form = all_clocked_form all old 0 old in
    let ended : found (all_clocked_form all old n (drop n old)) bytes c.nets.spot ≡ found (Form.whole []) bytes c.nets.spot =
    ap (λ (ls : List Line). found (all_clocked_form all old n ls) bytes c.nets.spot) (drop_all n old over) in
    leads_to form bytes c.args.start (take n new) (all_clocked_form all old n (drop n old)) c.nets.spot c.nets.spot (inv.leads all many) inv.within ended
    ∙ ap (λ (ls : List Line). found (Form.whole ls) bytes c.nets.spot) (take_all n new through)
