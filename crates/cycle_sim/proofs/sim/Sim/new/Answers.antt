use Rattle.std.proofs.Common.{◌≡◌, false, length, Some, refl, ap, ◌∙◌, arith}
use Rattle.std.proofs.lemmas.Bool.{false≢true}
use Rattle.std.proofs.lemmas.Option.{slice_get-get_or}
use Rattle.cycle_sim.specs.Readers.{block_count}
use Rattle.cycle_sim.proofs.Settling.{settled_none}
use Rattle.cycle_sim.proofs.sim.Sim.new.Goals as goal

pub invariant_of-result : goal.invariant_of-result
invariant_of-result c =
    let count : length c.resize.new.self.items ≡ block_count c.args.module = omega (arith, c.resize.new.self.ok.0, c.in_ok-resize.ensures.len, c.block_count.ensures) in (
      record { is_module = c.well_made.ensures; nets = c.in_ok-nets.ensures.nets; words = c.in_ok-cells.ensures.words; valuation = λ e. absurd (false≢true e) },
      c.in_ok-cells.ensures.places,
      c.in_ok-readers.ensures,
      settled_none c.args.module c.in_ok-nets.nets.items c.in_ok-cells.cells.words.items c.resize.new.self.items count
          (λ block lt. slice_get-get_or c.resize.new.self.items block false lt ∙ ap Some (c.in_ok-resize.ensures.by_index.1 block false refl (omega (arith, c.new-stale.ensures.len)) (omega (arith, count, c.block_count.ensures)))),
      c.in_ok-registers.ensures,
      omega (arith, c.resize-2.new.self.ok.0, c.in_ok-resize-2.ensures.len, c.len.ensures, c.in_ok-registers.registers.ok.0),
    )
