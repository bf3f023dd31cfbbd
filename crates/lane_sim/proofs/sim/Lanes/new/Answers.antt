use Rattle.std.proofs.Common.{◌≡◌, ◌+◌, false, length, Some, refl, ap, ◌∙◌, arith}
use Rattle.std.proofs.lemmas.Bool.{false≢true}
use Rattle.std.proofs.lemmas.Option.{slice_get-get_or}
use Rattle.cycle_sim.specs.Readers.{block_count}
use Rattle.cycle_sim.specs.Sims.{place_of}
use Rattle.lane_sim.specs.LaneSims.{cells_at, lane_words}
use Rattle.lane_sim.proofs.Settling.{settled_none}
use Rattle.lane_sim.proofs.sim.Lanes.new.Goals as goal

pub invariant_of-result : goal.invariant_of-result
invariant_of-result c =
    let count : length c.resize.new.self.items ≡ block_count c.args.module = omega (arith, c.resize.new.self.ok.0, c.in_ok-resize.ensures.len, c.block_count.ensures) in (
      record {
        count = c.in_ok-cells.ensures.cells.count;
        each = λ j lt. record { is_module = c.well_made.ensures; nets = c.in_ok-nets.ensures.nets j lt; words = (c.in_ok-cells.ensures.cells.each j lt).words; valuation = λ e. absurd (false≢true e) };
        places = λ j lt. (c.in_ok-cells.ensures.cells.each j lt).places;
      },
      c.in_ok-readers.ensures,
      λ j lt. settled_none c.args.module (lane_words j c.in_ok-nets.nets.items) (cells_at c.in_ok-cells.cells.items j).words c.resize.new.self.items count
          (λ block below. slice_get-get_or c.resize.new.self.items block false below ∙ ap Some (c.in_ok-resize.ensures.by_index.1 block false refl (omega (arith, c.new-stale.ensures.len)) (omega (arith, count, c.block_count.ensures)))),
      c.in_ok-registers.ensures,
      omega (arith, c.resize-2.new.self.ok.0, c.in_ok-resize-2.ensures.len, c.len.ensures, c.in_ok-registers.registers.ok.0),
    )
