use Rattle.std.proofs.Common.{sym, subst, ap, arith}
use Rattle.net_parts.specs.Laws.{extends_twice, adds_twice, adds_fewer}
use Rattle.net_parts.specs.Refusing.{handed_on}
use Rattle.stage_core.specs.Beats.{AreBeatNets}
use Rattle.stage_core.specs.declared.beat.BeatNets.{BeatNets}
use Rattle.stage_core.specs.Lasting.{beat_lasts}
use Rattle.st_windows.proofs.window.like_held.Goals as goal

pub returns-clause-nets : goal.returns-clause-nets
returns-clause-nets c =
    let base = subst (AreBeatNets c.constant-2.new.builder) (sym c.copied.ensures) (beat_lasts _ _ _ (extends_twice _ _ _ c.constant.ensures.adds.grows.extends c.constant-2.ensures.adds.grows.extends) c.requires.from) in
    record { valid = base.valid; word = c.constant-2.ensures.adds.grows.extends.nets _ _ c.in_ok-word.ensures.net.is_net; channel = base.channel; error = base.error; first = base.first; last = base.last; empty = c.in_ok-empty.ensures.net.is_net }

pub returns-clause-widths : goal.returns-clause-widths
returns-clause-widths c =
    record {
      word = c.in_ok-word.ensures.net.has_width;
      channel = ap (λ (n : BeatNets). n.channel.width) c.copied.ensures;
      error = ap (λ (n : BeatNets). n.error.width) c.copied.ensures;
      empty = c.in_ok-empty.ensures.net.has_width;
    }

pub returns-in_err-word-clause-adds : goal.returns-in_err-word-clause-adds
returns-in_err-word-clause-adds c = adds_fewer _ _ _ _ (omega arith) c.constant.ensures.adds

pub returns-in_err-empty-clause-adds : goal.returns-in_err-empty-clause-adds
returns-in_err-empty-clause-adds c = adds_fewer _ _ _ _ (omega arith) (adds_twice _ _ _ _ _ c.constant.ensures.adds c.constant-2.ensures.adds)

pub returns-clause-adds : goal.returns-clause-adds
returns-clause-adds c = adds_fewer _ _ _ _ (omega arith) (adds_twice _ _ _ _ _ c.constant.ensures.adds c.constant-2.ensures.adds)

pub returns-in_err-word-clause-full : goal.returns-in_err-word-clause-full
returns-in_err-word-clause-full c e = let full = c.constant.ensures.full (handed_on _ _ _ _ c.in_err-word.was c.from_residual.ensures.1 e) in omega (arith, full)

pub returns-in_err-empty-clause-full : goal.returns-in_err-empty-clause-full
returns-in_err-empty-clause-full c e = let most0 = c.constant.ensures.adds.most in let full = c.constant-2.ensures.full (handed_on _ _ _ _ c.in_err-empty.was c.from_residual-in_err-empty.ensures.1 e) in omega (arith, most0, full)

pub returns-clause-full : goal.returns-clause-full
returns-clause-full c e = cc
