use Rattle.std.proofs.Common.{◌≡◌, ◌<◌, ◌-◌, ◌*◌, ℕ, List, length, refl, sym, ap, subst, ◌∙◌, arith}
use Rattle.trace_lines.specs.declared.counts.Counts.{Counts}
use Rattle.benches.specs.Counting.{HaveRoom}
use Rattle.simulations.specs.Lanes.{value_in}
use Rattle.simulations.proofs.campaigns.Cycles.{cycle_left, lane_goes_on, room_for_cycle, told}
use Rattle.simulations.proofs.campaigns.Many.{some_at, within}
use Rattle.simulations.proofs.campaigns.evaluated.run_cycle.Goals as goal

pub evaluate-requires-clause-count : goal.evaluate-requires-clause-count
evaluate-requires-clause-count c = c.requires.so_far.5.count

pub evaluate-requires-clause-left : goal.evaluate-requires-clause-left
evaluate-requires-clause-left c = λ j lane at.
    let f = c.requires.so_far.5 in
    let low = within c.args.benches.now j lane at in
    let scenario = some_at c.requires.so_far.1 j (omega (arith, low, f.count, f.scenario_count)) in
    cycle_left c.requires.so_far.0 scenario.0 c.requires.so_far.2 c.requires.so_far.3 c.args.lanes.now j lane c.requires.so_far.4 (f.each j scenario.0 lane scenario.1 at)

pub end_all-requires-clause-told : goal.end_all-requires-clause-told
end_all-requires-clause-told c = λ j lane at.
    let f = c.requires.so_far.5 in
    let low = within c.evaluate.new.benches j lane at in
    let before = some_at c.args.benches.now j (omega (arith, low, c.evaluate.ensures.count, f.count)) in
    let scenario = some_at c.requires.so_far.1 j (omega (arith, low, c.evaluate.ensures.count, f.scenario_count)) in
    told (value_in c.args.lanes.now j before.0) (value_in c.evaluate.new.lanes j lane)
    (cycle_left c.requires.so_far.0 scenario.0 c.requires.so_far.2 c.requires.so_far.3 c.args.lanes.now j before.0 c.requires.so_far.4 (f.each j scenario.0 before.0 scenario.1 before.1))
    c.evaluate.ensures.netlist (c.evaluate.ensures.each j before.0 lane before.1 at)

pub end_all-requires-clause-room : goal.end_all-requires-clause-room
end_all-requires-clause-room c = λ j lane at.
    let f = c.requires.so_far.5 in
    let low = within c.evaluate.new.benches j lane at in
    let before = some_at c.args.benches.now j (omega (arith, low, c.evaluate.ensures.count, f.count)) in
    let scenario = some_at c.requires.so_far.1 j (omega (arith, low, c.evaluate.ensures.count, f.scenario_count)) in
    subst (HaveRoom 64) (sym (c.evaluate.ensures.counts j before.0 lane before.1 at))
    (room_for_cycle c.requires.so_far.2 c.requires.so_far.3 before.0.counts c.requires.so_far.4 (f.each j scenario.0 before.0 scenario.1 before.1).room)

pub returns-clause-netlist : goal.returns-clause-netlist
returns-clause-netlist c = c.advance.ensures.netlist ∙ c.evaluate.ensures.netlist

pub returns-clause-more : goal.returns-clause-more
returns-clause-more c = λ plan scenarios cycles k low first. record {
  count = c.end_all.ensures.count;
  scenario_count = first.scenario_count;
  each = λ j scenario ended at there.
      let inside = within scenarios j scenario at in
      let before = some_at c.args.benches.now j (omega (arith, inside, first.scenario_count, first.count)) in
      let shown = some_at c.evaluate.new.benches j (omega (arith, inside, first.scenario_count, c.evaluate.ensures.count)) in
      lane_goes_on c.counts_go_on.ensures.next plan scenario cycles k c.args.lanes.now c.evaluate.new.lanes c.advance.new.self j before.0 shown.0 ended low (first.each j scenario before.0 at before.1)
      c.evaluate.ensures.netlist c.advance.ensures.netlist (c.evaluate.ensures.counts j before.0 shown.0 before.1 shown.1) (c.evaluate.ensures.each j before.0 shown.0 before.1 shown.1)
      (c.end_all.ensures.each j shown.0 ended shown.1 there) (c.advance.ensures.lanes j (omega (arith, inside, first.scenario_count)));
}
