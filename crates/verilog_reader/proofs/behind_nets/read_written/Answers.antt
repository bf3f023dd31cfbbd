use Rattle.std.proofs.Common.{◌≡◌, ◌<◌, ◌≤◌, List, [], length, take, drop, sym, ap, ◌∙◌, arith}
use Rattle.std.proofs.Math.ListN.{length-set}
use Rattle.std.proofs.lemmas.List.{drop_all, take_all}
use Rattle.netlist.specs.declared.line.Memory.{Memory}
use Rattle.verilog_forms.specs.Forms.{Form}
use Rattle.verilog_reader.specs.Spots.{found}
use Rattle.verilog_forms.specs.WholeTexts.{written, all_written_form}
use Rattle.verilog_reader.proofs.SectionSteps.{leads_to}
use Rattle.verilog_reader.proofs.BehindSteps.{todo_on, here_item, written_on}
use Rattle.verilog_reader.proofs.behind_nets.read_written.Goals as goal

pub memories-preserved : goal.memories-preserved
memories-preserved c =
    let all = c.args.memories.now.items in
    let new = c.memories.memories.items in
    let n = c.memories.number in
    let memory = c.index.result.now in
    let write = c.write_line-behind.result.0 in
    let behind = c.write_line-behind.result.1 in
    let x = written memory write in
    let inv = c.memories.invariant in
    let inside : n < length new = omega (arith, inv.count, inv.total) in
    record {
      within = c.write_line-behind.ensures.within;
      total = inv.total;
      count = length-set new n x ∙ inv.count;
      todo = todo_on all new n x inside inv.todo;
      leads = λ old same. written_on old all new c.args.bytes.now c.args.start c.memories.spot behind n memory write inside inv.within c.write_line-behind.ensures.within (here_item all new n memory inside inv.todo c.index.ensures)
          (inv.leads old same) (c.write_line-behind.ensures.read old all same (sym inv.total));
    }

pub returns-clause-read : goal.returns-clause-read
returns-clause-read c = λ old same.
    let all = c.args.memories.now.items in
    let new = c.memories.memories.items in
    let n = c.memories.number in
    let inv = c.memories.invariant in
    let bytes = c.args.bytes.now in
    let spot = c.memories.spot in
    let over : length all ≤ n = omega (arith, inv.total) in
    let through : length new ≤ n = omega (arith, inv.total, inv.count) in
    let none : Form (List Memory) = Form.whole [] in
    let ended : found (all_written_form all old n (drop n all)) bytes spot ≡ found none bytes spot = ap (λ (ms : List Memory). found (all_written_form all old n ms) bytes spot) (drop_all n all over) in
    leads_to (all_written_form all old 0 all) bytes c.args.start (take n new) (all_written_form all old n (drop n all)) spot spot (inv.leads old same) inv.within ended
    ∙ ap (λ (ms : List Memory). found (Form.whole ms) bytes spot) (take_all n new through)
