use Rattle.std.proofs.Common.{◌<◌, length, sym, subst, ap}
use Rattle.av_base.specs.Word.{Word}
use Rattle.netlist.specs.Netlists.{HasWidth}
use Rattle.lane_sim.specs.LaneWords.{value_at}
use Rattle.lane_sim.specs.LaneSims.{LanesValue, lane_words}
use Rattle.lane_sim.proofs.Lines.{value_width}
use Rattle.lane_sim.proofs.LaneLists.{first, lane_read}
use Rattle.lane_sim.proofs.sim.Lanes.value.Goals as goal

pub returns-clause-width : goal.returns-clause-width
returns-clause-width c =
    let lt = subst (λ (v : LanesValue). c.args.net < length v.netlist.lines) (sym c.self.view_is) c.requires.net_is in
    subst (λ (v : LanesValue). HasWidth v.netlist c.args.net c.lane.result.width) c.self.view_is
    (subst (λ w. HasWidth c.self.inside.module c.args.net w) (sym (ap (λ (x : Word). x.width) c.lane.ensures))
    (value_width c.self.inside.module.lines (lane_words 0 c.self.inside.nets.items) c.args.net (value_at c.index.result.now 0) (c.self.invariant.0.each 0 first).nets lt (lane_read 0 c.self.inside.nets.items c.args.net c.index.result.now c.index.ensures)))
