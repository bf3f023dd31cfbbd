use Rattle.std.proofs.Common.{◌+◌, ◌*◌, ◌^◌, sym, ap₂, ◌∙◌, arith}
use Rattle.net_parts.specs.Laws.{extends_twice, adds_twice, adds_fewer, grows_once, net_lasts}
use Rattle.net_parts.specs.Refusing.{handed_on}
use Rattle.mm_split.proofs.Fills.{whole_bits}
use Rattle.mm_split.proofs.gather.fill_word.Goals as goal

pub returns-in_err-low-clause-adds : goal.returns-in_err-low-clause-adds
returns-in_err-low-clause-adds c = adds_fewer _ _ _ _ (let few = c.requires.sizes.few in let many = c.requires.sizes.many in omega (arith, few, many)) (c.fill_first.ensures.adds)

pub returns-in_err-low-clause-full : goal.returns-in_err-low-clause-full
returns-in_err-low-clause-full c e =
    let full = c.fill_first.ensures.full (handed_on _ _ _ _ c.in_err-low.was c.from_residual.ensures.1 e) in
    omega (arith, full, c.requires.sizes.few, c.requires.sizes.many)

pub returns-in_err-below-clause-adds : goal.returns-in_err-below-clause-adds
returns-in_err-below-clause-adds c = adds_fewer _ _ _ _ (let few = c.requires.sizes.few in let many = c.requires.sizes.many in omega (arith, few, many)) (adds_twice _ _ _ _ _ c.fill_first.ensures.adds c.fill_below.ensures.adds)

pub returns-in_err-below-clause-full : goal.returns-in_err-below-clause-full
returns-in_err-below-clause-full c e =
    let most0 = c.fill_first.ensures.adds.most in
    let full = c.fill_below.ensures.full (handed_on _ _ _ _ c.in_err-below.was c.from_residual-in_err-below.ensures.1 e) in
    omega (arith, most0, full, c.requires.sizes.few, c.requires.sizes.many)

pub returns-in_err-word-clause-adds : goal.returns-in_err-word-clause-adds
returns-in_err-word-clause-adds c = adds_fewer _ _ _ _ (let few = c.requires.sizes.few in let many = c.requires.sizes.many in omega (arith, few, many)) (adds_twice _ _ _ _ _ (adds_twice _ _ _ _ _ c.fill_first.ensures.adds c.fill_below.ensures.adds) (grows_once _ _ c.concat.ensures.extends c.concat.ensures.grows))

pub returns-in_err-word-clause-full : goal.returns-in_err-word-clause-full
returns-in_err-word-clause-full c e =
    let most0 = c.fill_first.ensures.adds.most in
    let most1 = c.fill_below.ensures.adds.most in
    let full = c.concat.ensures.full.0 (handed_on _ _ _ _ c.in_err-word.was c.from_residual-in_err-word.ensures.1 e) in
    omega (arith, most0, most1, full, c.requires.sizes.few, c.requires.sizes.many)

pub returns-clause-adds : goal.returns-clause-adds
returns-clause-adds c = adds_fewer _ _ _ _ (let few = c.requires.sizes.few in let many = c.requires.sizes.many in omega (arith, few, many)) (adds_twice _ _ _ _ _ (adds_twice _ _ _ _ _ c.fill_first.ensures.adds c.fill_below.ensures.adds) (grows_once _ _ c.concat.ensures.extends c.concat.ensures.grows))

pub returns-clause-full : goal.returns-clause-full
returns-clause-full c e = cc

pub fill_below-requires-clause-set : goal.fill_below-requires-clause-set
fill_below-requires-clause-set c = net_lasts _ _ _ _ c.fill_first.ensures.adds.grows.extends c.requires.set

pub fill_below-requires-clause-kept : goal.fill_below-requires-clause-kept
fill_below-requires-clause-kept c =
    let kept = net_lasts _ _ _ _ c.fill_first.ensures.adds.grows.extends c.requires.kept in
    record { is_net = kept.is_net; has_width = kept.has_width ∙ sym c.in_ok-low.ensures.net.has_width }

pub returns-clause-low_net : goal.returns-clause-low_net
returns-clause-low_net c = net_lasts _ _ _ _ (extends_twice _ _ _ c.fill_below.ensures.adds.grows.extends c.concat.ensures.extends) c.in_ok-low.ensures.net

pub returns-clause-word_net : goal.returns-clause-word_net
returns-clause-word_net c = record {
  is_net = c.in_ok-word.ensures.net.0;
  has_width = c.in_ok-word.ensures.net.1 ∙ ap₂ (λ x y. x + y) c.requires.piece.has_width (c.in_ok-below.ensures.net.has_width ∙ c.in_ok-low.ensures.net.has_width) ∙ whole_bits c.args.sizes.now.pieces c.args.sizes.now.narrow_bytes _ c.requires.sizes.many c.requires.sizes.whole;
}

pub returns-clause-low : goal.returns-clause-low
returns-clause-low c cycle v = c.in_ok-low.ensures.value cycle ((extends_twice _ _ _ c.fill_below.ensures.adds.grows.extends c.concat.ensures.extends).valuations cycle v)

pub returns-clause-word : goal.returns-clause-word
returns-clause-word c cycle v =
    (c.in_ok-word.ensures.value cycle v).1
    ∙ ap₂ (λ x y. cycle.net c.args.piece_net.number * 2 ^ x + y) (c.in_ok-below.ensures.net.has_width ∙ c.in_ok-low.ensures.net.has_width) (c.in_ok-below.ensures.value cycle (c.concat.ensures.extends.valuations cycle v))
