use Rattle.std.proofs.Common.{◌≡◌, ◌<◌, true, false, length, replicate, slice_get, Some, ap, sym, ◌∙◌, arith}
use Rattle.std.proofs.lemmas.Option.{slice_get-get_or}
use Rattle.netlist.specs.declared.line.Equation.TheVariants.{Read}
use Rattle.netlist.specs.Netlists.{line_of}
use Rattle.pruned_netlists.proofs.Lines.{slice_get-some}
use Rattle.pruned_netlists.proofs.Needs.{told, told_within, equation_told, reading_begun, reading_more, reading_same, memory_marks_are}
use Rattle.pruned_netlists.proofs.marking.read_memories.Goals as goal
use Rattle.pruned_netlists.proofs.marking.read_memories.Goals.{then-marks-net+in-Read, then-marks-net+in_default, else-marks-net}

pub loop-net-init : goal.loop-net-init
loop-net-init c = reading_begun c.args.module.now _ (c.in_ok-read.ensures ∙ ap (λ n. replicate n false) c.memory_count.ensures.count)

pub index_mut-requires : goal.index_mut-requires
index_mut-requires c =
    let lt : c.loop-net.net < length c.args.module.now.lines = omega (arith, c.loop-net-test.true, c.net_count-net-end.ensures.count) in
    let within = told_within c.args.module.now c.loop-net.net (Read c.in-Read.memory c.in-Read.address) c.well_made.ensures lt c.in-Read.ensures in
    omega (arith, within, c.loop-net.invariant.length_is)

pub loop-net-preserved : goal.loop-net-preserved
loop-net-preserved c =
    let b = c.args.module.now in
    let lt : c.loop-net.net < length c.args.module.now.lines = omega (arith, c.loop-net-test.true, c.net_count-net-end.ensures.count) in
    let some = slice_get-some c.args.module.now.lines c.loop-net.net lt in
    elim c.if-marks-net.branch [
      | then-marks-net+in-Read w ↦
          (let within = told_within b c.loop-net.net (Read w.in-Read.memory w.in-Read.address) c.well_made.ensures lt w.in-Read.ensures in
          let inside : w.in-Read.memory < length c.loop-net.read.items = omega (arith, within, c.loop-net.invariant.length_is) in
          let is = told b c.loop-net.net (Read w.in-Read.memory w.in-Read.address) w.in-Read.ensures some.0 some.1 in
          let mark : slice_get c.args.marks.now c.loop-net.net ≡ Some true = slice_get-get_or c.args.marks.now c.loop-net.net false (omega (arith, lt, c.requires.count)) ∙ ap Some w.if-marks-net.true in
          rw w.read-is (reading_more b c.loop-net.read.items c.loop-net.net some.0.width w.in-Read.memory w.in-Read.address c.loop-net.invariant (c.requires.only c.loop-net.net mark) (some.1 ∙ ap Some is) inside))
      | then-marks-net+in_default w ↦ rw w.read-is (reading_same b c.loop-net.read.items c.loop-net.net c.loop-net.invariant
          (λ v m a needed at. w.in_default.not-Read m a (sym (equation_told b c.loop-net.net w.equation.result w.equation.ensures (line_of v (Read m a)) at))))
      | else-marks-net w ↦ rw w.read-is (reading_same b c.loop-net.read.items c.loop-net.net c.loop-net.invariant
          (λ v m a needed at. (let marked = c.requires.all c.loop-net.net needed in
          let mark : slice_get c.args.marks.now c.loop-net.net ≡ Some false = slice_get-get_or c.args.marks.now c.loop-net.net false (omega (arith, lt, c.requires.count)) ∙ ap Some w.if-marks-net.false in cc)))
    ]

pub returns : goal.returns
returns c = memory_marks_are c.args.module.now c.loop-net.read.items c.loop-net.net (omega (arith, c.loop-net-test.false, c.net_count-net-end.ensures.count)) c.loop-net.invariant
