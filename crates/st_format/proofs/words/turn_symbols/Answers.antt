use Rattle.std.proofs.Common.{◌≡◌, suc, ◌+◌, ◌*◌, ◌^◌, ◌<◌, sym, subst, ap, ◌∙◌, arith, ◌≤◌}
use Rattle.stream_machines.specs.Words.{turned_word}
use Rattle.std.proofs.lemmas.Result.{IfOk-from_err}
use Rattle.net_parts.specs.Laws.{grows_once, adds_twice, adds_fewer, valued_fits}
use Rattle.st_format.proofs.Turning.{turned_more, turned_one}
use Rattle.std.proofs.Math.Nat.{mul-le-mul_left}
use Rattle.stage_core.specs.Refusing.{handed_on}
use Rattle.st_format.proofs.words.turn_symbols.Goals as goal

pub loop-place-preserved : goal.loop-place-preserved
loop-place-preserved c =
    let next : c.loop-place.place + 1 ≡ suc c.loop-place.place = omega arith in
    let sum : c.args.bits * c.loop-place.place + c.args.bits ≡ c.args.bits * (c.loop-place.place + 1) = omega arith in
    record {
      some = omega arith;
      adds = adds_fewer _ _ _ _ (omega arith) (adds_twice _ _ _ _ _ (adds_twice _ _ _ _ _ c.loop-place.invariant.adds c.take_symbol-in-loop-place.ensures.adds) (grows_once _ _ c.concat.ensures.extends c.concat.ensures.grows));
      net = record { is_net = c.in_ok-turned-2.ensures.net.0; has_width = c.in_ok-turned-2.ensures.net.1 ∙ (let wide = c.loop-place.invariant.net.has_width in let one = c.in_ok-symbol.ensures.net.has_width in omega (arith, wide, one, sum)) };
      value = λ cycle v2. (
          let v1 = c.concat.ensures.extends.valuations cycle v2 in
          let v0 = c.take_symbol-in-loop-place.ensures.adds.grows.extends.valuations cycle v1 in
          (c.in_ok-turned-2.ensures.value cycle v2).1
          ∙ ap (λ n. cycle.net c.loop-place.turned.number * 2 ^ n + cycle.net c.in_ok-symbol.symbol.number) c.in_ok-symbol.ensures.net.has_width
          ∙ ap (λ n. n * 2 ^ c.args.bits + cycle.net c.in_ok-symbol.symbol.number) (c.loop-place.invariant.value cycle v0)
          ∙ ap (λ n. turned_word c.args.bits c.loop-place.place (cycle.net c.args.word.number) * 2 ^ c.args.bits + n) (c.in_ok-symbol.ensures.value cycle v1)
          ∙ sym (ap (λ n. turned_word c.args.bits n (cycle.net c.args.word.number)) next ∙ turned_more c.args.bits c.loop-place.place (cycle.net c.args.word.number)));
    }

pub returns-then-symbols-eq1-clause-value : goal.returns-then-symbols-eq1-clause-value
returns-then-symbols-eq1-clause-value c cycle v =
    let one : c.args.symbols ≡ 1 = omega arith in
    let bare : c.args.bits * c.args.symbols ≡ c.args.bits = ap (λ n. c.args.bits * n) one ∙ omega arith in
    let fits : cycle.net c.args.word.number < 2 ^ c.args.bits = subst (λ w. cycle.net c.args.word.number < 2 ^ w) (c.requires.word.has_width ∙ bare) (valued_fits _ cycle v _ _ c.requires.word.is_net) in
    turned_one c.args.bits (cycle.net c.args.word.number) fits ∙ ap (λ n. turned_word c.args.bits n (cycle.net c.args.word.number)) (sym one)

pub take_symbol-requires-in-loop-place-clause-inside : goal.take_symbol-requires-in-loop-place-clause-inside
take_symbol-requires-in-loop-place-clause-inside c = let le : c.loop-place.place + 1 ≤ c.args.symbols = omega arith in let most = mul-le-mul_left c.args.bits le in let width = c.requires.word.has_width in omega (arith, most, width)

pub concat-requires-clause-widths : goal.concat-requires-clause-widths
concat-requires-clause-widths c = let le : c.loop-place.place + 1 ≤ c.args.symbols = omega arith in let most = mul-le-mul_left c.args.bits le in let wide = c.loop-place.invariant.net.has_width in let one = c.in_ok-symbol.ensures.net.has_width in let small = c.requires.small in omega (arith, most, wide, one, small)

pub returns-in_err-turned-clause-adds : goal.returns-in_err-turned-clause-adds
returns-in_err-turned-clause-adds c = adds_fewer _ _ _ _ (omega arith) c.take_symbol.ensures.adds

pub returns-in_err-symbol-clause-adds : goal.returns-in_err-symbol-clause-adds
returns-in_err-symbol-clause-adds c = adds_fewer _ _ _ _ (omega arith) (adds_twice _ _ _ _ _ c.loop-place.invariant.adds c.take_symbol-in-loop-place.ensures.adds)

pub returns-in_err-turned-2-clause-adds : goal.returns-in_err-turned-2-clause-adds
returns-in_err-turned-2-clause-adds c = adds_fewer _ _ _ _ (omega arith) (adds_twice _ _ _ _ _ (adds_twice _ _ _ _ _ c.loop-place.invariant.adds c.take_symbol-in-loop-place.ensures.adds) (grows_once _ _ c.concat.ensures.extends c.concat.ensures.grows))

pub returns-clause-adds : goal.returns-clause-adds
returns-clause-adds c = adds_fewer _ _ _ _ (omega arith) c.loop-place.invariant.adds

pub returns-in_err-turned-clause-full : goal.returns-in_err-turned-clause-full
returns-in_err-turned-clause-full c e = let full = c.take_symbol.ensures.full (handed_on _ _ _ _ c.in_err-turned.was c.from_residual.ensures.1 e) in omega (arith, full)

pub returns-in_err-symbol-clause-full : goal.returns-in_err-symbol-clause-full
returns-in_err-symbol-clause-full c e = let most = c.loop-place.invariant.adds.most in let full = c.take_symbol-in-loop-place.ensures.full (handed_on _ _ _ _ c.in_err-symbol.was c.from_residual-in_err-symbol.ensures.1 e) in omega (arith, most, full)

pub returns-in_err-turned-2-clause-full : goal.returns-in_err-turned-2-clause-full
returns-in_err-turned-2-clause-full c e = let most = c.loop-place.invariant.adds.most in let one = c.take_symbol-in-loop-place.ensures.adds.most in let full = c.concat.ensures.full.0 (handed_on _ _ _ _ c.in_err-turned-2.was c.from_residual-in_err-turned-2.ensures.1 e) in omega (arith, most, one, full)

pub concat-requires-clause-a_is : goal.concat-requires-clause-a_is
concat-requires-clause-a_is c = c.take_symbol-in-loop-place.ensures.adds.grows.extends.nets _ _ c.loop-place.invariant.net.is_net

pub concat-requires-clause-b_is : goal.concat-requires-clause-b_is
concat-requires-clause-b_is c = c.in_ok-symbol.ensures.net.is_net

pub returns-clause-full : goal.returns-clause-full
returns-clause-full c e = cc

pub returns-then-symbols-eq1-clause-full : goal.returns-then-symbols-eq1-clause-full
returns-then-symbols-eq1-clause-full c e = cc

pub returns-in_err-turned-clause-net : goal.returns-in_err-turned-clause-net
returns-in_err-turned-clause-net c = IfOk-from_err _ _ c.from_residual.ensures.0

pub returns-in_err-turned-clause-value : goal.returns-in_err-turned-clause-value
returns-in_err-turned-clause-value c = IfOk-from_err _ _ c.from_residual.ensures.0

pub returns-in_err-symbol-clause-net : goal.returns-in_err-symbol-clause-net
returns-in_err-symbol-clause-net c = IfOk-from_err _ _ c.from_residual-in_err-symbol.ensures.0

pub returns-in_err-symbol-clause-value : goal.returns-in_err-symbol-clause-value
returns-in_err-symbol-clause-value c = IfOk-from_err _ _ c.from_residual-in_err-symbol.ensures.0

pub returns-in_err-turned-2-clause-net : goal.returns-in_err-turned-2-clause-net
returns-in_err-turned-2-clause-net c = IfOk-from_err _ _ c.from_residual-in_err-turned-2.ensures.0

pub returns-in_err-turned-2-clause-value : goal.returns-in_err-turned-2-clause-value
returns-in_err-turned-2-clause-value c = IfOk-from_err _ _ c.from_residual-in_err-turned-2.ensures.0

pub take_symbol-requires-clause-word : goal.take_symbol-requires-clause-word
take_symbol-requires-clause-word c = c.requires.word.is_net

pub take_symbol-requires-clause-some : goal.take_symbol-requires-clause-some
take_symbol-requires-clause-some c = c.requires.some_bits

pub take_symbol-requires-clause-small : goal.take_symbol-requires-clause-small
take_symbol-requires-clause-small c = let width = c.requires.word.has_width in let small = c.requires.small in omega (arith, width, small)

pub take_symbol-requires-in-loop-place-clause-word : goal.take_symbol-requires-in-loop-place-clause-word
take_symbol-requires-in-loop-place-clause-word c = c.loop-place.invariant.adds.grows.extends.nets _ _ c.requires.word.is_net

pub take_symbol-requires-in-loop-place-clause-some : goal.take_symbol-requires-in-loop-place-clause-some
take_symbol-requires-in-loop-place-clause-some c = c.requires.some_bits

pub take_symbol-requires-in-loop-place-clause-small : goal.take_symbol-requires-in-loop-place-clause-small
take_symbol-requires-in-loop-place-clause-small c = let width = c.requires.word.has_width in let small = c.requires.small in omega (arith, width, small)

pub returns-clause-net : goal.returns-clause-net
returns-clause-net c = let all : c.loop-place.place ≡ c.args.symbols = omega arith in record { is_net = c.loop-place.invariant.net.is_net; has_width = c.loop-place.invariant.net.has_width ∙ ap (λ n. c.args.bits * n) all }

pub returns-clause-value : goal.returns-clause-value
returns-clause-value c cycle v = let all : c.loop-place.place ≡ c.args.symbols = omega arith in c.loop-place.invariant.value cycle v ∙ ap (λ n. turned_word c.args.bits n (cycle.net c.args.word.number)) all
