use Rattle.std.proofs.Common.{◌≡◌, ◌∙◌, sym, ap, arith}
use Rattle.std.proofs.lemmas.Result.{IfOk-from_err}
use Rattle.net_parts.specs.Laws.{net_lasts, extends_twice, adds_twice, adds_fewer}
use Rattle.net_parts.specs.Refusing.{handed_on}
use Rattle.st_windows.specs.Cuts.{cut_of, front_at, chosen_below}
use Rattle.st_windows.proofs.WordLemmas.{below_more}
use Rattle.st_windows.proofs.words.front_word.Goals as goal

pub loop-most-init : goal.loop-most-init
loop-most-init c =
    record {
      most = omega arith;
      adds = adds_fewer _ _ _ _ (omega arith) c.cut_symbols.ensures.adds;
      net = c.in_ok-front.ensures.net;
      value = c.in_ok-front.ensures.value;
    }

pub loop-most-preserved : goal.loop-most-preserved
loop-most-preserved c =
    record {
      most = omega arith;
      adds = adds_fewer _ _ _ _ (omega arith) (adds_twice _ _ _ _ _ (adds_twice _ _ _ _ _ c.loop-most.invariant.adds c.lay_front.ensures.adds) c.choose_at.ensures.adds);
      net = record { is_net = c.in_ok-front-2.ensures.net.is_net; has_width = c.in_ok-front-2.ensures.net.has_width ∙ c.in_ok-laid.ensures.net.has_width };
      value = λ cycle v2. (
          let v1 = c.choose_at.ensures.adds.grows.extends.valuations cycle v2 in
          let v0 = c.lay_front.ensures.adds.grows.extends.valuations cycle v1 in
          below_more (cycle.net c.args.count.number) c.loop-most.most (front_at c.args.sizes.now.bits c.args.sizes.now.from c.args.sizes.now.into c.args.sizes.now.held (cycle.net c.args.held.number) (cycle.net c.args.coming.number)) (cut_of c.args.sizes.now.bits c.args.sizes.now.held 0 c.args.sizes.now.into (cycle.net c.args.held.number)) _ _ _ (c.loop-most.invariant.value cycle v0) (c.in_ok-laid.ensures.value cycle v1) (c.in_ok-front-2.ensures.value cycle v2));
    }

pub choose_at-requires-clause-held : goal.choose_at-requires-clause-held
choose_at-requires-clause-held c = net_lasts _ _ _ _ (extends_twice _ _ _ c.loop-most.invariant.adds.grows.extends c.lay_front.ensures.adds.grows.extends) c.requires.count

pub choose_at-requires-clause-word : goal.choose_at-requires-clause-word
choose_at-requires-clause-word c = c.in_ok-laid.ensures.net.is_net

pub choose_at-requires-clause-other : goal.choose_at-requires-clause-other
choose_at-requires-clause-other c = record { is_net = c.lay_front.ensures.adds.grows.extends.nets _ _ c.loop-most.invariant.net.is_net; has_width = c.loop-most.invariant.net.has_width ∙ sym c.in_ok-laid.ensures.net.has_width }

pub returns-in_err-front-clause-net : goal.returns-in_err-front-clause-net
returns-in_err-front-clause-net c = IfOk-from_err _ _ c.from_residual.ensures.0

pub returns-in_err-front-clause-value : goal.returns-in_err-front-clause-value
returns-in_err-front-clause-value c = IfOk-from_err _ _ c.from_residual.ensures.0

pub returns-in_err-laid-clause-net : goal.returns-in_err-laid-clause-net
returns-in_err-laid-clause-net c = IfOk-from_err _ _ c.from_residual-in_err-laid.ensures.0

pub returns-in_err-laid-clause-value : goal.returns-in_err-laid-clause-value
returns-in_err-laid-clause-value c = IfOk-from_err _ _ c.from_residual-in_err-laid.ensures.0

pub returns-in_err-front-2-clause-net : goal.returns-in_err-front-2-clause-net
returns-in_err-front-2-clause-net c = IfOk-from_err _ _ c.from_residual-in_err-front-2.ensures.0

pub returns-in_err-front-2-clause-value : goal.returns-in_err-front-2-clause-value
returns-in_err-front-2-clause-value c = IfOk-from_err _ _ c.from_residual-in_err-front-2.ensures.0

pub returns-in_err-front-clause-adds : goal.returns-in_err-front-clause-adds
returns-in_err-front-clause-adds c = adds_fewer _ _ _ _ (omega arith) c.cut_symbols.ensures.adds

pub returns-in_err-laid-clause-adds : goal.returns-in_err-laid-clause-adds
returns-in_err-laid-clause-adds c = adds_fewer _ _ _ _ (omega arith) (adds_twice _ _ _ _ _ c.loop-most.invariant.adds c.lay_front.ensures.adds)

pub returns-in_err-front-2-clause-adds : goal.returns-in_err-front-2-clause-adds
returns-in_err-front-2-clause-adds c = adds_fewer _ _ _ _ (omega arith) (adds_twice _ _ _ _ _ (adds_twice _ _ _ _ _ c.loop-most.invariant.adds c.lay_front.ensures.adds) c.choose_at.ensures.adds)

pub returns-in_err-front-clause-full : goal.returns-in_err-front-clause-full
returns-in_err-front-clause-full c e = let full = c.cut_symbols.ensures.full (handed_on _ _ _ _ c.in_err-front.was c.from_residual.ensures.1 e) in omega (arith, full)

pub returns-in_err-laid-clause-full : goal.returns-in_err-laid-clause-full
returns-in_err-laid-clause-full c e = let most0 = c.loop-most.invariant.adds.most in let full = c.lay_front.ensures.full (handed_on _ _ _ _ c.in_err-laid.was c.from_residual-in_err-laid.ensures.1 e) in omega (arith, most0, full)

pub returns-in_err-front-2-clause-full : goal.returns-in_err-front-2-clause-full
returns-in_err-front-2-clause-full c e = let most0 = c.loop-most.invariant.adds.most in let most1 = c.lay_front.ensures.adds.most in let full = c.choose_at.ensures.full (handed_on _ _ _ _ c.in_err-front-2.was c.from_residual-in_err-front-2.ensures.1 e) in omega (arith, most0, most1, full)

pub returns-clause-full : goal.returns-clause-full
returns-clause-full c e = cc

pub returns-clause-net : goal.returns-clause-net
returns-clause-net c = c.loop-most.invariant.net

pub returns-clause-value : goal.returns-clause-value
returns-clause-value c cycle v = let all : c.loop-most.most ≡ c.args.sizes.now.into = (let most = c.loop-most.invariant.most in omega (arith, most)) in c.loop-most.invariant.value cycle v ∙ ap (chosen_below (cycle.net c.args.count.number) (front_at c.args.sizes.now.bits c.args.sizes.now.from c.args.sizes.now.into c.args.sizes.now.held (cycle.net c.args.held.number) (cycle.net c.args.coming.number)) (cut_of c.args.sizes.now.bits c.args.sizes.now.held 0 c.args.sizes.now.into (cycle.net c.args.held.number))) all

pub returns-clause-adds : goal.returns-clause-adds
returns-clause-adds c = adds_fewer _ _ _ _ (let most = c.loop-most.invariant.most in omega (arith, most)) c.loop-most.invariant.adds

pub lay_front-requires-clause-held : goal.lay_front-requires-clause-held
lay_front-requires-clause-held c = net_lasts _ _ _ _ c.loop-most.invariant.adds.grows.extends c.requires.held

pub lay_front-requires-clause-coming : goal.lay_front-requires-clause-coming
lay_front-requires-clause-coming c = net_lasts _ _ _ _ c.loop-most.invariant.adds.grows.extends c.requires.coming
