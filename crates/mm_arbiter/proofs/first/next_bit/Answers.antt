use Rattle.std.proofs.Common.{◌≡◌, ℕ, ◌+◌, ◌%◌, ◌^◌, ◌<◌, ◌-◌, ◌*◌, ◌/◌, sym, ◌∙◌, arith}
use Rattle.netlist.specs.Runs.{Always}
use Rattle.net_parts.specs.Laws.{if_ok, adds_fewer, adds_twice, grows_once}
use Rattle.mm_arbiter.proofs.Words.{next_level}
use Rattle.mm_arbiter.specs.Depends.{AnyTwo, IsSame}
use Rattle.mm_arbiter.proofs.Same.{same_by_one, same_by_two}
use Rattle.net_parts.specs.Refusing.{handed_on}
use Rattle.mm_arbiter.proofs.first.next_bit.Goals as goal

pub returns-clause-value : goal.returns-clause-value
returns-clause-value c =
    if_ok c.one_up.result _ (λ next. Always c.one_up.new.builder (λ cycle. (k : ℕ) → k < c.args.count → cycle.net c.args.holder.number ≡ 2 ^ k → cycle.net next.number ≡ 2 ^ (k + 1) % 2 ^ c.args.count))
    (λ next value cycle v3 k lt is. (
    let v2 = c.one_up.ensures.adds.grows.extends.valuations cycle v3 in
    let v1 = c.in_ok-low.ensures.adds.grows.extends.valuations cycle v2 in
    next_level c.args.count k _ _ c.in_ok-low.low.width _ _ c.requires.some lt is (c.in_ok-others.ensures.value cycle v1).1 c.in_ok-low.ensures.net.has_width (c.in_ok-low.ensures.value cycle v2) (value cycle v3)))
    c.one_up.ensures.value

pub returns-clause-reads : goal.returns-clause-reads
returns-clause-reads c =
    if_ok c.one_up.result _ (λ next. AnyTwo c.one_up.new.builder (λ one other. IsSame c.args.holder one other → IsSame next one other))
    (λ next value one other v3 w3 holder. (
    let v2 = c.one_up.ensures.adds.grows.extends.valuations one v3 in
    let w2 = c.one_up.ensures.adds.grows.extends.valuations other w3 in
    let v1 = c.in_ok-low.ensures.adds.grows.extends.valuations one v2 in
    let w1 = c.in_ok-low.ensures.adds.grows.extends.valuations other w2 in
    let low = c.in_ok-low.ensures.value one v2 ∙ sym (c.in_ok-low.ensures.value other w2) in
    let others = same_by_one (λ x. x / 2 ^ 0 % 2 ^ (c.args.count - 2 - 0 + 1)) (c.in_ok-others.ensures.value one v1).1 (c.in_ok-others.ensures.value other w1).1 holder in
    same_by_two (λ x y. x * 2 ^ c.in_ok-low.low.width + y) (value one v3) (value other w3) others low))
    c.one_up.ensures.value

pub returns-in_err-others-clause-adds : goal.returns-in_err-others-clause-adds
returns-in_err-others-clause-adds c = adds_fewer _ _ _ _ (omega arith) (grows_once _ _ c.slice.ensures.extends c.slice.ensures.grows)

pub returns-in_err-others-clause-full : goal.returns-in_err-others-clause-full
returns-in_err-others-clause-full c e = let full = c.slice.ensures.full.0 (handed_on _ _ _ _ c.in_err-others.was c.from_residual.ensures.1 e) in omega (arith, full)

pub returns-in_err-low-clause-adds : goal.returns-in_err-low-clause-adds
returns-in_err-low-clause-adds c = adds_fewer _ _ _ _ (omega arith) (adds_twice _ _ _ _ _ (grows_once _ _ c.slice.ensures.extends c.slice.ensures.grows) c.level.ensures.adds)

pub returns-in_err-low-clause-full : goal.returns-in_err-low-clause-full
returns-in_err-low-clause-full c e =
    let most0 = c.slice.ensures.grows.most in
    let full = c.level.ensures.full (handed_on _ _ _ _ c.in_err-low.was c.from_residual-in_err-low.ensures.1 e) in
    omega (arith, most0, full)

pub returns-clause-net : goal.returns-clause-net
returns-clause-net c = c.one_up.ensures.net

pub returns-clause-adds : goal.returns-clause-adds
returns-clause-adds c = adds_fewer _ _ _ _ (omega arith) (adds_twice _ _ _ _ _ (adds_twice _ _ _ _ _ (grows_once _ _ c.slice.ensures.extends c.slice.ensures.grows) c.level.ensures.adds) c.one_up.ensures.adds)

pub returns-clause-full : goal.returns-clause-full
returns-clause-full c e =
    let most0 = c.slice.ensures.grows.most in
    let most1 = c.level.ensures.adds.most in
    let full = c.one_up.ensures.full e in
    omega (arith, most0, most1, full)

pub slice-requires-clause-a_is : goal.slice-requires-clause-a_is
slice-requires-clause-a_is c = c.requires.holder.is_net

pub one_up-requires-clause-some : goal.one_up-requires-clause-some
one_up-requires-clause-some c = c.requires.some

pub one_up-requires-clause-few : goal.one_up-requires-clause-few
one_up-requires-clause-few c = c.requires.few

pub one_up-requires-clause-others : goal.one_up-requires-clause-others
one_up-requires-clause-others c = record { is_net = c.level.ensures.adds.grows.extends.nets _ _ c.in_ok-others.ensures.net.0; has_width = c.in_ok-others.ensures.net.1 ∙ omega arith }

pub one_up-requires-clause-low : goal.one_up-requires-clause-low
one_up-requires-clause-low c = c.in_ok-low.ensures.net
