use Rattle.std.proofs.Common.{◌≡◌, suc, ◌+◌, ◌*◌, ◌^◌, sym, ap, ◌∙◌, arith}
use Rattle.net_parts.specs.Laws.{grows_once, adds_twice, adds_fewer, net_lasts}
use Rattle.net_parts.specs.Refusing.{handed_on}
use Rattle.std.proofs.lemmas.Result.{IfOk-from_err}
use Rattle.st_format.specs.WidenNets.{part_at, laid}
use Rattle.st_format.proofs.WidenLemmas.{laid_one}
use Rattle.st_format.proofs.widen.lay_word.Goals as goal

pub loop-part-init : goal.loop-part-init
loop-part-init c =
    let several = c.args.sizes.now.several in
    let one : c.args.sizes.now.bits * c.args.sizes.now.symbols ≡ c.args.sizes.now.bits * (c.args.sizes.now.symbols * 1) = omega arith in
    record {
      some = omega arith;
      most = omega (arith, several);
      adds = adds_fewer _ _ _ _ (omega arith) c.lay_part.ensures.adds;
      net = record { is_net = c.in_ok-word.ensures.net.is_net; has_width = c.in_ok-word.ensures.net.has_width ∙ one };
      value = λ cycle v. c.in_ok-word.ensures.value cycle v ∙ laid_one c.args.sizes.now.bits c.args.sizes.now.symbols c.args.sizes.now.parts (cycle.net c.args.held.number) (cycle.net c.args.coming.number) (cycle.net c.args.gathered.number);
    }

pub loop-part-preserved : goal.loop-part-preserved
loop-part-preserved c =
    let next : c.loop-part.part + 1 ≡ suc c.loop-part.part = omega arith in
    let sum : c.args.sizes.now.bits * c.args.sizes.now.symbols + c.args.sizes.now.bits * (c.args.sizes.now.symbols * c.loop-part.part) ≡ c.args.sizes.now.bits * (c.args.sizes.now.symbols * (c.loop-part.part + 1)) = omega arith in
    record {
      some = omega arith;
      most = omega arith;
      adds = adds_fewer _ _ _ _ (omega arith) (adds_twice _ _ _ _ _ (adds_twice _ _ _ _ _ c.loop-part.invariant.adds c.lay_part-in-loop-part.ensures.adds) (grows_once _ _ c.concat.ensures.extends c.concat.ensures.grows));
      net = record { is_net = c.in_ok-word-2.ensures.net.0; has_width = c.in_ok-word-2.ensures.net.1 ∙ (let wide = c.loop-part.invariant.net.has_width in let one = c.in_ok-above.ensures.net.has_width in omega (arith, wide, one, sum)) };
      value = λ cycle v2. (
          let v1 = c.concat.ensures.extends.valuations cycle v2 in
          let v0 = c.lay_part-in-loop-part.ensures.adds.grows.extends.valuations cycle v1 in
          (c.in_ok-word-2.ensures.value cycle v2).1
          ∙ ap (λ n. cycle.net c.in_ok-above.above.number * 2 ^ n + cycle.net c.loop-part.word.number) c.loop-part.invariant.net.has_width
          ∙ ap (λ n. n * 2 ^ (c.args.sizes.now.bits * (c.args.sizes.now.symbols * c.loop-part.part)) + cycle.net c.loop-part.word.number) (c.in_ok-above.ensures.value cycle v1)
          ∙ ap (λ n. part_at c.args.sizes.now.bits c.args.sizes.now.symbols c.args.sizes.now.parts (cycle.net c.args.held.number) (cycle.net c.args.coming.number) (cycle.net c.args.gathered.number) c.loop-part.part * 2 ^ (c.args.sizes.now.bits * (c.args.sizes.now.symbols * c.loop-part.part)) + n) (c.loop-part.invariant.value cycle v0)
          ∙ sym (ap (laid c.args.sizes.now.bits c.args.sizes.now.symbols c.args.sizes.now.parts (cycle.net c.args.held.number) (cycle.net c.args.coming.number) (cycle.net c.args.gathered.number)) next));
    }

pub lay_part-requires-clause-held : goal.lay_part-requires-clause-held
lay_part-requires-clause-held c = c.requires.held

pub lay_part-requires-clause-coming : goal.lay_part-requires-clause-coming
lay_part-requires-clause-coming c = c.requires.coming

pub lay_part-requires-clause-gathered : goal.lay_part-requires-clause-gathered
lay_part-requires-clause-gathered c = c.requires.gathered

pub lay_part-requires-clause-inside : goal.lay_part-requires-clause-inside
lay_part-requires-clause-inside c = let several = c.args.sizes.now.several in omega (arith, several)

pub lay_part-requires-in-loop-part-clause-held : goal.lay_part-requires-in-loop-part-clause-held
lay_part-requires-in-loop-part-clause-held c = net_lasts _ _ _ _ c.loop-part.invariant.adds.grows.extends c.requires.held

pub lay_part-requires-in-loop-part-clause-coming : goal.lay_part-requires-in-loop-part-clause-coming
lay_part-requires-in-loop-part-clause-coming c = net_lasts _ _ _ _ c.loop-part.invariant.adds.grows.extends c.requires.coming

pub lay_part-requires-in-loop-part-clause-gathered : goal.lay_part-requires-in-loop-part-clause-gathered
lay_part-requires-in-loop-part-clause-gathered c = net_lasts _ _ _ _ c.loop-part.invariant.adds.grows.extends c.requires.gathered

pub concat-requires-clause-a_is : goal.concat-requires-clause-a_is
concat-requires-clause-a_is c = c.in_ok-above.ensures.net.is_net

pub concat-requires-clause-b_is : goal.concat-requires-clause-b_is
concat-requires-clause-b_is c = c.lay_part-in-loop-part.ensures.adds.grows.extends.nets _ _ c.loop-part.invariant.net.is_net

pub returns-in_err-word-clause-net : goal.returns-in_err-word-clause-net
returns-in_err-word-clause-net c = IfOk-from_err _ _ c.from_residual.ensures.0

pub returns-in_err-word-clause-value : goal.returns-in_err-word-clause-value
returns-in_err-word-clause-value c = IfOk-from_err _ _ c.from_residual.ensures.0

pub returns-in_err-above-clause-net : goal.returns-in_err-above-clause-net
returns-in_err-above-clause-net c = IfOk-from_err _ _ c.from_residual-in_err-above.ensures.0

pub returns-in_err-above-clause-value : goal.returns-in_err-above-clause-value
returns-in_err-above-clause-value c = IfOk-from_err _ _ c.from_residual-in_err-above.ensures.0

pub returns-in_err-word-2-clause-net : goal.returns-in_err-word-2-clause-net
returns-in_err-word-2-clause-net c = IfOk-from_err _ _ c.from_residual-in_err-word-2.ensures.0

pub returns-in_err-word-2-clause-value : goal.returns-in_err-word-2-clause-value
returns-in_err-word-2-clause-value c = IfOk-from_err _ _ c.from_residual-in_err-word-2.ensures.0

pub returns-in_err-word-clause-adds : goal.returns-in_err-word-clause-adds
returns-in_err-word-clause-adds c = let several = c.args.sizes.now.several in adds_fewer _ _ _ _ (omega (arith, several)) c.lay_part.ensures.adds

pub returns-in_err-above-clause-adds : goal.returns-in_err-above-clause-adds
returns-in_err-above-clause-adds c = adds_fewer _ _ _ _ (omega arith) (adds_twice _ _ _ _ _ c.loop-part.invariant.adds c.lay_part-in-loop-part.ensures.adds)

pub returns-in_err-word-2-clause-adds : goal.returns-in_err-word-2-clause-adds
returns-in_err-word-2-clause-adds c = adds_fewer _ _ _ _ (omega arith) (adds_twice _ _ _ _ _ (adds_twice _ _ _ _ _ c.loop-part.invariant.adds c.lay_part-in-loop-part.ensures.adds) (grows_once _ _ c.concat.ensures.extends c.concat.ensures.grows))

pub returns-in_err-word-clause-full : goal.returns-in_err-word-clause-full
returns-in_err-word-clause-full c e = let several = c.args.sizes.now.several in let full = c.lay_part.ensures.full (handed_on _ _ _ _ c.in_err-word.was c.from_residual.ensures.1 e) in omega (arith, several, full)

pub returns-in_err-above-clause-full : goal.returns-in_err-above-clause-full
returns-in_err-above-clause-full c e = let most0 = c.loop-part.invariant.adds.most in let full = c.lay_part-in-loop-part.ensures.full (handed_on _ _ _ _ c.in_err-above.was c.from_residual-in_err-above.ensures.1 e) in omega (arith, most0, full)

pub returns-in_err-word-2-clause-full : goal.returns-in_err-word-2-clause-full
returns-in_err-word-2-clause-full c e = let most0 = c.loop-part.invariant.adds.most in let most1 = c.lay_part-in-loop-part.ensures.adds.most in let full = c.concat.ensures.full.0 (handed_on _ _ _ _ c.in_err-word-2.was c.from_residual-in_err-word-2.ensures.1 e) in omega (arith, most0, most1, full)

pub returns-clause-full : goal.returns-clause-full
returns-clause-full c e = cc

pub returns-clause-net : goal.returns-clause-net
returns-clause-net c = let all : c.loop-part.part ≡ c.args.sizes.now.parts = (let most = c.loop-part.invariant.most in omega (arith, most)) in record { is_net = c.loop-part.invariant.net.is_net; has_width = c.loop-part.invariant.net.has_width ∙ ap (λ n. c.args.sizes.now.bits * (c.args.sizes.now.symbols * n)) all }

pub returns-clause-value : goal.returns-clause-value
returns-clause-value c cycle v = let all : c.loop-part.part ≡ c.args.sizes.now.parts = (let most = c.loop-part.invariant.most in omega (arith, most)) in c.loop-part.invariant.value cycle v ∙ ap (laid c.args.sizes.now.bits c.args.sizes.now.symbols c.args.sizes.now.parts (cycle.net c.args.held.number) (cycle.net c.args.coming.number) (cycle.net c.args.gathered.number)) all

pub returns-clause-adds : goal.returns-clause-adds
returns-clause-adds c = adds_fewer _ _ _ _ (let most = c.loop-part.invariant.most in omega (arith, most)) c.loop-part.invariant.adds
