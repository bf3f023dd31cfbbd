use Rattle.std.proofs.Common.{arith}
use Rattle.net_parts.specs.Laws.{adds_fewer, adds_twice}
use Rattle.net_parts.specs.Refusing.{handed_on}
use Rattle.mm_agent.proofs.answers.give_words.Goals as goal

pub returns-clause-value : goal.returns-clause-value
returns-clause-value c cycle v =
    let v1 = c.given_or_low-3.ensures.adds.grows.extends.valuations cycle v in
    let v0 = c.given_or_low-2.ensures.adds.grows.extends.valuations cycle v1 in
    record {
      valid = c.in_ok-valid.ensures.value cycle v0;
      word = c.in_ok-word.ensures.value cycle v1;
      code = c.in_ok-code.ensures.value cycle v;
    }

pub returns-in_err-valid-clause-adds : goal.returns-in_err-valid-clause-adds
returns-in_err-valid-clause-adds c = adds_fewer _ _ _ _ (omega arith) c.given_or_low.ensures.adds

pub returns-in_err-valid-clause-full : goal.returns-in_err-valid-clause-full
returns-in_err-valid-clause-full c e = let full = c.given_or_low.ensures.full (handed_on _ _ _ _ c.in_err-valid.was c.from_residual.ensures.1 e) in omega (arith, full)

pub returns-in_err-word-clause-adds : goal.returns-in_err-word-clause-adds
returns-in_err-word-clause-adds c = adds_fewer _ _ _ _ (omega arith) (adds_twice _ _ _ _ _ c.given_or_low.ensures.adds c.given_or_low-2.ensures.adds)

pub returns-in_err-word-clause-full : goal.returns-in_err-word-clause-full
returns-in_err-word-clause-full c e =
    let most0 = c.given_or_low.ensures.adds.most in
    let full = c.given_or_low-2.ensures.full (handed_on _ _ _ _ c.in_err-word.was c.from_residual-in_err-word.ensures.1 e) in
    omega (arith, most0, full)

pub returns-in_err-code-clause-adds : goal.returns-in_err-code-clause-adds
returns-in_err-code-clause-adds c = adds_fewer _ _ _ _ (omega arith) (adds_twice _ _ _ _ _ (adds_twice _ _ _ _ _ c.given_or_low.ensures.adds c.given_or_low-2.ensures.adds) c.given_or_low-3.ensures.adds)

pub returns-in_err-code-clause-full : goal.returns-in_err-code-clause-full
returns-in_err-code-clause-full c e =
    let most0 = c.given_or_low.ensures.adds.most in
    let most1 = c.given_or_low-2.ensures.adds.most in
    let full = c.given_or_low-3.ensures.full (handed_on _ _ _ _ c.in_err-code.was c.from_residual-in_err-code.ensures.1 e) in
    omega (arith, most0, most1, full)

pub returns-clause-adds : goal.returns-clause-adds
returns-clause-adds c = adds_fewer _ _ _ _ (omega arith) (adds_twice _ _ _ _ _ (adds_twice _ _ _ _ _ c.given_or_low.ensures.adds c.given_or_low-2.ensures.adds) c.given_or_low-3.ensures.adds)

pub returns-clause-full : goal.returns-clause-full
returns-clause-full c e = cc
