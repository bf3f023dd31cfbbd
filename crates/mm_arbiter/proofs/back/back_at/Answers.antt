use Rattle.std.proofs.Common.{refl, arith}
use Rattle.net_parts.specs.Laws.{extends_twice, net_lasts, adds_fewer, adds_twice}
use Rattle.mm_arbiter.specs.Backward.{below_lasts}
use Rattle.net_parts.specs.Refusing.{handed_on}
use Rattle.mm_arbiter.proofs.back.back_at.Goals as goal

pub valid_for-requires-clause-below : goal.valid_for-requires-clause-below
valid_for-requires-clause-below c = below_lasts _ _ _ _ _ c.wait_at.ensures.adds.grows.extends c.requires.below

pub returns-clause-made : goal.returns-clause-made
returns-clause-made c =
    let e1 = c.valid_for.ensures.adds.grows.extends in
    let below = below_lasts _ _ _ _ _ (extends_twice _ _ _ c.wait_at.ensures.adds.grows.extends e1) c.requires.below in
    record {
      wait_net = net_lasts _ _ _ 1 e1 c.in_ok-wait.ensures.net;
      nets = record { valid = c.in_ok-valid.ensures.net; word = below.answer.word; code = below.answer.code };
      wait = λ cycle v. c.in_ok-wait.ensures.value cycle (e1.valuations cycle v);
      valid = c.in_ok-valid.ensures.value;
      word = refl;
      code = refl;
    }

pub returns-in_err-wait-clause-adds : goal.returns-in_err-wait-clause-adds
returns-in_err-wait-clause-adds c = adds_fewer _ _ _ _ (omega arith) c.wait_at.ensures.adds

pub returns-in_err-wait-clause-full : goal.returns-in_err-wait-clause-full
returns-in_err-wait-clause-full c e = let full = c.wait_at.ensures.full (handed_on _ _ _ _ c.in_err-wait.was c.from_residual.ensures.1 e) in omega (arith, full)

pub returns-in_err-valid-clause-adds : goal.returns-in_err-valid-clause-adds
returns-in_err-valid-clause-adds c = adds_fewer _ _ _ _ (omega arith) (adds_twice _ _ _ _ _ c.wait_at.ensures.adds c.valid_for.ensures.adds)

pub returns-in_err-valid-clause-full : goal.returns-in_err-valid-clause-full
returns-in_err-valid-clause-full c e =
    let most0 = c.wait_at.ensures.adds.most in
    let full = c.valid_for.ensures.full (handed_on _ _ _ _ c.in_err-valid.was c.from_residual-in_err-valid.ensures.1 e) in
    omega (arith, most0, full)

pub returns-clause-adds : goal.returns-clause-adds
returns-clause-adds c = adds_fewer _ _ _ _ (omega arith) (adds_twice _ _ _ _ _ c.wait_at.ensures.adds c.valid_for.ensures.adds)

pub returns-clause-full : goal.returns-clause-full
returns-clause-full c e = cc

pub wait_at-requires-clause-chosen : goal.wait_at-requires-clause-chosen
wait_at-requires-clause-chosen c = c.requires.chosen

pub wait_at-requires-clause-seat : goal.wait_at-requires-clause-seat
wait_at-requires-clause-seat c = c.requires.seat

pub wait_at-requires-clause-below : goal.wait_at-requires-clause-below
wait_at-requires-clause-below c = c.requires.below

pub valid_for-requires-clause-some : goal.valid_for-requires-clause-some
valid_for-requires-clause-some c = c.requires.some

pub valid_for-requires-clause-few : goal.valid_for-requires-clause-few
valid_for-requires-clause-few c = c.requires.few

pub valid_for-requires-clause-host : goal.valid_for-requires-clause-host
valid_for-requires-clause-host c = c.requires.host
