use Rattle.std.proofs.Common.{subst, arith}
use Rattle.net_parts.specs.Nets.{IsNetOfWidth}
use Rattle.net_parts.specs.Laws.{extends_twice, net_lasts, adds_twice, adds_grow, grows_fewer, grows_twice}
use Rattle.net_parts.specs.Refusing.{handed_on}
use Rattle.mm_agent.proofs.answers.give_no_word.Goals as goal

pub returns-clause-value : goal.returns-clause-value
returns-clause-value c = record {
  valid = λ cycle v. c.in_ok-valid.ensures.value cycle (c.constant.ensures.adds.grows.extends.valuations cycle (c.row_port.ensures.grows.extends.valuations cycle v));
  word = λ cycle v. c.in_ok-word.ensures.value cycle (c.row_port.ensures.grows.extends.valuations cycle v);
  code = c.in_ok-code.ensures.value;
}

pub returns-in_err-valid-clause-grows : goal.returns-in_err-valid-clause-grows
returns-in_err-valid-clause-grows c = grows_fewer _ _ _ _ (omega arith) (adds_grow _ _ _ c.level.ensures.adds)

pub returns-in_err-valid-clause-still_wait : goal.returns-in_err-valid-clause-still_wait
returns-in_err-valid-clause-still_wait c n w = c.level.ensures.adds.grows.waits n w

pub returns-in_err-valid-clause-full : goal.returns-in_err-valid-clause-full
returns-in_err-valid-clause-full c e = let full = c.level.ensures.full (handed_on _ _ _ _ c.in_err-valid.was c.from_residual.ensures.1 e) in omega (arith, full)

pub returns-in_err-word-clause-grows : goal.returns-in_err-word-clause-grows
returns-in_err-word-clause-grows c = grows_fewer _ _ _ _ (omega arith) (adds_grow _ _ _ (adds_twice _ _ _ _ _ c.level.ensures.adds c.constant.ensures.adds))

pub returns-in_err-word-clause-still_wait : goal.returns-in_err-word-clause-still_wait
returns-in_err-word-clause-still_wait c n w = c.constant.ensures.adds.grows.waits n (c.level.ensures.adds.grows.waits n w)

pub returns-in_err-word-clause-full : goal.returns-in_err-word-clause-full
returns-in_err-word-clause-full c e =
    let most0 = c.level.ensures.adds.most in
    let full = c.constant.ensures.full (handed_on _ _ _ _ c.in_err-word.was c.from_residual-in_err-word.ensures.1 e) in
    omega (arith, most0, full)

pub returns-in_err-code-clause-grows : goal.returns-in_err-code-clause-grows
returns-in_err-code-clause-grows c = grows_twice _ _ _ _ _ (adds_grow _ _ _ (adds_twice _ _ _ _ _ c.level.ensures.adds c.constant.ensures.adds)) c.row_port.ensures.grows

pub returns-in_err-code-clause-still_wait : goal.returns-in_err-code-clause-still_wait
returns-in_err-code-clause-still_wait c n w = c.row_port.ensures.still_wait n (c.constant.ensures.adds.grows.waits n (c.level.ensures.adds.grows.waits n w))

pub returns-in_err-code-clause-full : goal.returns-in_err-code-clause-full
returns-in_err-code-clause-full c e =
    let most0 = c.level.ensures.adds.most in
    let most1 = c.constant.ensures.adds.most in
    let full = c.row_port.ensures.full (handed_on _ _ _ _ c.in_err-code.was c.from_residual-in_err-code.ensures.1 e) in
    omega (arith, most0, most1, full)

pub returns-clause-grows : goal.returns-clause-grows
returns-clause-grows c = grows_twice _ _ _ _ _ (adds_grow _ _ _ (adds_twice _ _ _ _ _ c.level.ensures.adds c.constant.ensures.adds)) c.row_port.ensures.grows

pub returns-clause-still_wait : goal.returns-clause-still_wait
returns-clause-still_wait c n w = c.row_port.ensures.still_wait n (c.constant.ensures.adds.grows.waits n (c.level.ensures.adds.grows.waits n w))

pub returns-clause-full : goal.returns-clause-full
returns-clause-full c e = cc

pub returns-clause-nets : goal.returns-clause-nets
returns-clause-nets c =
    record {
      valid = net_lasts _ _ _ _ (extends_twice _ _ _ c.constant.ensures.adds.grows.extends c.row_port.ensures.grows.extends) c.in_ok-valid.ensures.net;
      word = net_lasts _ _ _ _ c.row_port.ensures.grows.extends (subst (IsNetOfWidth c.constant.new.builder c.in_ok-word.word) c.word_bits.ensures.bits c.in_ok-word.ensures.net);
      code = c.in_ok-code.ensures.net;
    }
