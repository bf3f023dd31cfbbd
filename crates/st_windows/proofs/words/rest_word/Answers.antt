use Rattle.std.proofs.Common.{◌≡◌, ◌-◌, ◌∙◌, sym, ap, arith}
use Rattle.std.proofs.lemmas.Result.{IfOk-from_err}
use Rattle.net_parts.specs.Laws.{net_lasts, extends_twice, adds_twice, adds_fewer}
use Rattle.net_parts.specs.Refusing.{handed_on}
use Rattle.st_windows.specs.Cuts.{cut_of, rest_at, chosen_at}
use Rattle.st_windows.proofs.WordLemmas.{chosen_none, chosen_more}
use Rattle.st_windows.proofs.words.rest_word.Goals as goal

pub loop-most-init : goal.loop-most-init
loop-most-init c =
    let some = c.args.sizes.now.some_into in
    record {
      some = omega arith;
      most = omega (arith, some);
      adds = adds_fewer _ _ _ _ (omega arith) c.cut_symbols.ensures.adds;
      net = c.in_ok-rest.ensures.net;
      value = λ cycle v. chosen_none (cycle.net c.args.count.number) (rest_at c.args.sizes.now.bits c.args.sizes.now.from c.args.sizes.now.into c.args.sizes.now.held (cycle.net c.args.coming.number)) _ (c.in_ok-rest.ensures.value cycle v ∙ (let whole : c.args.sizes.now.into ≡ c.args.sizes.now.into - 0 = omega arith in ap (λ n. cut_of c.args.sizes.now.bits c.args.sizes.now.from n c.args.sizes.now.held (cycle.net c.args.coming.number)) whole));
    }

pub loop-most-preserved : goal.loop-most-preserved
loop-most-preserved c =
    record {
      some = omega arith;
      most = omega arith;
      adds = adds_fewer _ _ _ _ (omega arith) (adds_twice _ _ _ _ _ (adds_twice _ _ _ _ _ c.loop-most.invariant.adds c.cut_symbols-in-loop-most.ensures.adds) c.choose_at.ensures.adds);
      net = record { is_net = c.in_ok-rest-2.ensures.net.is_net; has_width = c.in_ok-rest-2.ensures.net.has_width ∙ c.in_ok-cut.ensures.net.has_width };
      value = λ cycle v2. (
          let v1 = c.choose_at.ensures.adds.grows.extends.valuations cycle v2 in
          let v0 = c.cut_symbols-in-loop-most.ensures.adds.grows.extends.valuations cycle v1 in
          chosen_more (cycle.net c.args.count.number) c.loop-most.most (rest_at c.args.sizes.now.bits c.args.sizes.now.from c.args.sizes.now.into c.args.sizes.now.held (cycle.net c.args.coming.number)) _ _ _ c.loop-most.invariant.some (c.loop-most.invariant.value cycle v0) (c.in_ok-cut.ensures.value cycle v1) (c.in_ok-rest-2.ensures.value cycle v2));
    }

pub choose_at-requires-clause-held : goal.choose_at-requires-clause-held
choose_at-requires-clause-held c = net_lasts _ _ _ _ (extends_twice _ _ _ c.loop-most.invariant.adds.grows.extends c.cut_symbols-in-loop-most.ensures.adds.grows.extends) c.requires.count

pub choose_at-requires-clause-word : goal.choose_at-requires-clause-word
choose_at-requires-clause-word c = c.in_ok-cut.ensures.net.is_net

pub choose_at-requires-clause-other : goal.choose_at-requires-clause-other
choose_at-requires-clause-other c = record { is_net = c.cut_symbols-in-loop-most.ensures.adds.grows.extends.nets _ _ c.loop-most.invariant.net.is_net; has_width = c.loop-most.invariant.net.has_width ∙ sym c.in_ok-cut.ensures.net.has_width }

pub returns-in_err-rest-clause-net : goal.returns-in_err-rest-clause-net
returns-in_err-rest-clause-net c = IfOk-from_err _ _ c.from_residual.ensures.0

pub returns-in_err-rest-clause-value : goal.returns-in_err-rest-clause-value
returns-in_err-rest-clause-value c = IfOk-from_err _ _ c.from_residual.ensures.0

pub returns-in_err-cut-clause-net : goal.returns-in_err-cut-clause-net
returns-in_err-cut-clause-net c = IfOk-from_err _ _ c.from_residual-in_err-cut.ensures.0

pub returns-in_err-cut-clause-value : goal.returns-in_err-cut-clause-value
returns-in_err-cut-clause-value c = IfOk-from_err _ _ c.from_residual-in_err-cut.ensures.0

pub returns-in_err-rest-2-clause-net : goal.returns-in_err-rest-2-clause-net
returns-in_err-rest-2-clause-net c = IfOk-from_err _ _ c.from_residual-in_err-rest-2.ensures.0

pub returns-in_err-rest-2-clause-value : goal.returns-in_err-rest-2-clause-value
returns-in_err-rest-2-clause-value c = IfOk-from_err _ _ c.from_residual-in_err-rest-2.ensures.0

pub returns-in_err-rest-clause-adds : goal.returns-in_err-rest-clause-adds
returns-in_err-rest-clause-adds c = let some = c.args.sizes.now.some_into in adds_fewer _ _ _ _ (omega (arith, some)) c.cut_symbols.ensures.adds

pub returns-in_err-cut-clause-adds : goal.returns-in_err-cut-clause-adds
returns-in_err-cut-clause-adds c = adds_fewer _ _ _ _ (omega arith) (adds_twice _ _ _ _ _ c.loop-most.invariant.adds c.cut_symbols-in-loop-most.ensures.adds)

pub returns-in_err-rest-2-clause-adds : goal.returns-in_err-rest-2-clause-adds
returns-in_err-rest-2-clause-adds c = adds_fewer _ _ _ _ (omega arith) (adds_twice _ _ _ _ _ (adds_twice _ _ _ _ _ c.loop-most.invariant.adds c.cut_symbols-in-loop-most.ensures.adds) c.choose_at.ensures.adds)

pub returns-in_err-rest-clause-full : goal.returns-in_err-rest-clause-full
returns-in_err-rest-clause-full c e = let some = c.args.sizes.now.some_into in let full = c.cut_symbols.ensures.full (handed_on _ _ _ _ c.in_err-rest.was c.from_residual.ensures.1 e) in omega (arith, some, full)

pub returns-in_err-cut-clause-full : goal.returns-in_err-cut-clause-full
returns-in_err-cut-clause-full c e = let most0 = c.loop-most.invariant.adds.most in let full = c.cut_symbols-in-loop-most.ensures.full (handed_on _ _ _ _ c.in_err-cut.was c.from_residual-in_err-cut.ensures.1 e) in omega (arith, most0, full)

pub returns-in_err-rest-2-clause-full : goal.returns-in_err-rest-2-clause-full
returns-in_err-rest-2-clause-full c e = let most0 = c.loop-most.invariant.adds.most in let most1 = c.cut_symbols-in-loop-most.ensures.adds.most in let full = c.choose_at.ensures.full (handed_on _ _ _ _ c.in_err-rest-2.was c.from_residual-in_err-rest-2.ensures.1 e) in omega (arith, most0, most1, full)

pub returns-clause-full : goal.returns-clause-full
returns-clause-full c e = cc

pub returns-clause-net : goal.returns-clause-net
returns-clause-net c = c.loop-most.invariant.net

pub returns-clause-value : goal.returns-clause-value
returns-clause-value c cycle v = let all : c.loop-most.most ≡ c.args.sizes.now.into = (let most = c.loop-most.invariant.most in let some = c.loop-most.invariant.some in omega (arith, most, some)) in c.loop-most.invariant.value cycle v ∙ ap (λ n. chosen_at (cycle.net c.args.count.number) (rest_at c.args.sizes.now.bits c.args.sizes.now.from c.args.sizes.now.into c.args.sizes.now.held (cycle.net c.args.coming.number)) (n - 1)) all

pub returns-clause-adds : goal.returns-clause-adds
returns-clause-adds c = adds_fewer _ _ _ _ (let most = c.loop-most.invariant.most in omega (arith, most)) c.loop-most.invariant.adds

pub cut_symbols-requires-in-loop-most-clause-word : goal.cut_symbols-requires-in-loop-most-clause-word
cut_symbols-requires-in-loop-most-clause-word c = net_lasts _ _ _ _ c.loop-most.invariant.adds.grows.extends c.requires.coming
