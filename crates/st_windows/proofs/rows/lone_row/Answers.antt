use Rattle.std.proofs.Common.{◌∙◌, refl, sym, subst, ap, arith}
use Rattle.net_parts.specs.Laws.{adds_fewer}
use Rattle.net_parts.specs.Refusing.{handed_on}
use Rattle.stage_core.specs.Beats.{AreBeatNets}
use Rattle.stage_core.specs.Groups.{shown_in}
use Rattle.stage_core.specs.declared.beat.BeatNets.{BeatNets}
use Rattle.stage_core.specs.Lasting.{beat_lasts}
use Rattle.st_windows.proofs.CountNets.{worded_shown}
use Rattle.st_windows.proofs.rows.lone_row.Goals as goal

pub returns-clause-row : goal.returns-clause-row
returns-clause-row c =
    let base = subst (AreBeatNets c.level.new.builder) (sym c.copied.ensures) (beat_lasts _ _ _ c.level.ensures.adds.grows.extends c.requires.held) in
    record { valid = c.in_ok-valid.ensures.net; word = c.level.ensures.adds.grows.extends.nets _ _ c.requires.word.is_net; channel = base.channel; error = base.error; first = base.first; last = base.last; empty = base.empty }

pub returns-clause-widths : goal.returns-clause-widths
returns-clause-widths c =
    record {
      word = c.requires.word.has_width;
      channel = ap (λ (n : BeatNets). n.channel.width) c.copied.ensures;
      error = ap (λ (n : BeatNets). n.error.width) c.copied.ensures;
      empty = ap (λ (n : BeatNets). n.empty.width) c.copied.ensures ∙ c.requires.empty;
    }

pub returns-clause-value : goal.returns-clause-value
returns-clause-value c cycle v = worded_shown (shown_in cycle c.copied.result) (shown_in cycle c.args.held.now) _ 1 _ _ (ap (shown_in cycle) c.copied.ensures) (c.in_ok-valid.ensures.value cycle v) refl

pub returns-in_err-valid-clause-adds : goal.returns-in_err-valid-clause-adds
returns-in_err-valid-clause-adds c = adds_fewer _ _ _ _ (omega arith) c.level.ensures.adds

pub returns-clause-adds : goal.returns-clause-adds
returns-clause-adds c = adds_fewer _ _ _ _ (omega arith) c.level.ensures.adds

pub returns-in_err-valid-clause-full : goal.returns-in_err-valid-clause-full
returns-in_err-valid-clause-full c e = let full = c.level.ensures.full (handed_on _ _ _ _ c.in_err-valid.was c.from_residual.ensures.1 e) in omega (arith, full)

pub returns-clause-full : goal.returns-clause-full
returns-clause-full c e = cc
