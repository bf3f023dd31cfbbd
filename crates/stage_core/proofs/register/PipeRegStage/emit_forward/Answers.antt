use Rattle.std.proofs.Common.{refl, ap, ◌∙◌, arith}
use Rattle.stage_core.specs.Beats.{widths_of}
use Rattle.stage_core.specs.Lasting.{beat_lasts}
use Rattle.stage_core.specs.BeatLaws.{numbered_here, widths_alike}
use Rattle.stage_core.proofs.register.PipeRegStage.emit_forward.Goals as goal

pub returns-clause-widths : goal.returns-clause-widths
returns-clause-widths c = ap widths_of c.copied-to.ensures ∙ widths_alike _ _ c.in_ok-registers.ensures.widths

pub returns-clause-kept : goal.returns-clause-kept
returns-clause-kept c = record {
  from = beat_lasts _ _ _ c.reg_beat.ensures.grows.extends c.requires.from;
  nets = c.in_ok-registers.ensures.beat;
  widths = c.in_ok-registers.ensures.widths;
  registers = record { numbers = numbered_here _ _ c.in_ok-registers.ensures.registers.numbers; wait = c.in_ok-registers.ensures.registers.wait };
}

pub returns-clause-owned : goal.returns-clause-owned
returns-clause-owned c n o =
    let at = c.in_ok-registers.ensures.registers.numbers.valid in
    let from = o.from in
    let below = o.below in
    (omega arith, omega (arith, c.in_ok-registers.ensures.count))

pub returns-clause-made : goal.returns-clause-made
returns-clause-made c = record {
  from_is = refl;
  to_is = c.copied-to.ensures;
  nets = c.in_ok-registers.ensures.beat;
  numbers = numbered_here _ _ c.in_ok-registers.ensures.registers.numbers;
  starts = c.in_ok-registers.ensures.starts;
}

pub returns-clause-own_wait : goal.returns-clause-own_wait
returns-clause-own_wait c = c.in_ok-registers.ensures.registers.wait
