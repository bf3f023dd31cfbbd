use Rattle.std.proofs.Common.{refl, arith}
use Rattle.net_parts.specs.Laws.{adds_none, adds_twice, adds_fewer}
use Rattle.st_format.proofs.ClearLaw.{none_cleared, one_cleared}
use Rattle.st_format.proofs.Turning.{below_width}
use Rattle.stage_core.specs.Refusing.{handed_on}
use Rattle.st_format.proofs.clear.clear_symbols.Goals as goal

pub loop-count-init : goal.loop-count-init
loop-count-init c = record {
  adds = adds_none _;
  net = record { is_net = c.requires.word.is_net; has_width = refl };
  value = λ cycle v. none_cleared c.args.bits (cycle.net c.args.empty.number) (cycle.net c.args.word.number);
}

pub clear_more-requires-clause-inside : goal.clear_more-requires-clause-inside
clear_more-requires-clause-inside c = let most = below_width c.args.bits c.loop-count.count c.args.symbols (omega arith) in let wide = c.requires.word.has_width in omega (arith, most, wide)

pub loop-count-preserved : goal.loop-count-preserved
loop-count-preserved c = record {
  adds = adds_fewer _ _ _ _ (omega arith) (adds_twice _ _ _ _ _ c.loop-count.invariant.adds c.clear_more.ensures.adds);
  net = c.in_ok-cleared.ensures.net;
  value = λ cycle v1. (
      let v0 = c.clear_more.ensures.adds.grows.extends.valuations cycle v1 in
      one_cleared c.args.bits c.loop-count.count (cycle.net c.args.empty.number) (cycle.net c.args.word.number) _ _ (c.loop-count.invariant.value cycle v0) (c.in_ok-cleared.ensures.value cycle v1));
}

pub clear_more-requires-clause-word : goal.clear_more-requires-clause-word
clear_more-requires-clause-word c = c.loop-count.invariant.adds.grows.extends.nets _ _ c.requires.word.is_net

pub clear_more-requires-clause-cleared : goal.clear_more-requires-clause-cleared
clear_more-requires-clause-cleared c = c.loop-count.invariant.net

pub returns-in_err-cleared-clause-adds : goal.returns-in_err-cleared-clause-adds
returns-in_err-cleared-clause-adds c = adds_fewer _ _ _ _ (omega arith) (adds_twice _ _ _ _ _ c.loop-count.invariant.adds c.clear_more.ensures.adds)

pub returns-in_err-cleared-clause-full : goal.returns-in_err-cleared-clause-full
returns-in_err-cleared-clause-full c e = let most = c.loop-count.invariant.adds.most in let full = c.clear_more.ensures.full (handed_on _ _ _ _ c.in_err-cleared.was c.from_residual.ensures.1 e) in omega (arith, most, full)

pub returns-clause-full : goal.returns-clause-full
returns-clause-full c e = cc
