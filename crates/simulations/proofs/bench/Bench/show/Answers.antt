use Rattle.std.proofs.Common.{◌≡◌, List, ap}
use Rattle.av_base.specs.Word.{Word}
use Rattle.port_rows.specs.Levels.{set_levels}
use Rattle.simulations.specs.Benches.{BenchValue, all_levels}
use Rattle.simulations.specs.Cycles.{first_words}
use Rattle.simulations.specs.Value.{value_with}
use Rattle.simulations.proofs.bench.Bench.show.Goals as goal

pub show_parts-requires : goal.show_parts-requires
show_parts-requires c =
    let r = c.requires.1 in
    let bench = value_with c.requires.0 c.args.self.now in
    let fits = c.first_words_fit.ensures r.plan r.scenario bench.sim.netlist r.run r.cycle bench r.set r.under_way.components in
    rw (c.as_slice.ensures.value, c.as_slice-2.ensures.value, c.as_slice-3.ensures.value)
    (c.levels_have_room.ensures.all r.plan r.scenario bench.sim.netlist r.run r.cycle bench first_words bench.row r.set r.under_way.components fits r.under_way.row)

pub returns : goal.returns
returns c = λ sim.
    let bench = value_with sim c.args.self.now in
    let is : c.show_parts.new.row ≡ set_levels bench.row (all_levels bench first_words) = rw (c.as_slice.ensures.value, c.as_slice-2.ensures.value, c.as_slice-3.ensures.value) at c.show_parts.ensures in
    ap (λ (row : List Word). record bench { row = row }) is
