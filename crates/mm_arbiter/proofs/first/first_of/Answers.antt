use Rattle.std.proofs.Common.{◌≡◌, Bool, List, length, arith, sym, ◌∙◌}
use Rattle.netlist.specs.Runs.{Always}
use Rattle.net_parts.specs.Laws.{if_ok, adds_twice, grows_once, extends_twice, net_lasts, adds_fewer}
use Rattle.mm_arbiter.specs.Asks.{number, first_high, or_else, seat_bit}
use Rattle.mm_arbiter.proofs.Words.{first_level}
use Rattle.mm_arbiter.specs.Depends.{AnyTwo, IsSame}
use Rattle.mm_arbiter.proofs.Same.{same_any, same_choice}
use Rattle.net_parts.specs.Nets.{IsNetOfWidth}
use Rattle.net_parts.specs.Refusing.{handed_on}
use Rattle.mm_arbiter.proofs.first.first_of.Goals as goal

pub returns-clause-value : goal.returns-clause-value
returns-clause-value c =
    if_ok c.choose.result _ (λ first. Always c.choose.new.builder (λ cycle. (high bits : List Bool) → length high ≡ c.args.count → length bits ≡ c.args.count → cycle.net c.args.behind.number ≡ number high → cycle.net c.args.asks.number ≡ number bits
    → cycle.net first.number ≡ seat_bit (or_else (first_high high) (first_high bits))))
    (λ first value cycle v4 high bits l m b a. (
    let v3 = c.choose.ensures.adds.grows.extends.valuations cycle v4 in
    let v2 = c.any.ensures.extends.valuations cycle v3 in
    let v1 = c.in_ok-again.ensures.adds.grows.extends.valuations cycle v2 in
    first_level _ _ _ _ _ high bits b (c.in_ok-next.ensures.value cycle v1 high l b) (c.in_ok-again.ensures.value cycle v2 bits m a) (c.in_ok-some.ensures.value cycle v3).1 (value cycle v4)))
    c.choose.ensures.value

pub returns-clause-adds : goal.returns-clause-adds
returns-clause-adds c =
    adds_twice 3 5 _ _ _ c.lowest.ensures.adds (adds_twice 3 2 _ _ _ c.lowest-2.ensures.adds (adds_twice 1 1 _ _ _ (grows_once _ _ c.any.ensures.extends c.any.ensures.grows) c.choose.ensures.adds))

pub returns-clause-reads : goal.returns-clause-reads
returns-clause-reads c =
    if_ok c.choose.result _ (λ first. AnyTwo c.choose.new.builder (λ one other. IsSame c.args.behind one other → IsSame c.args.asks one other → IsSame first one other))
    (λ first value one other v4 w4 behind asks. (
    let v3 = c.choose.ensures.adds.grows.extends.valuations one v4 in
    let w3 = c.choose.ensures.adds.grows.extends.valuations other w4 in
    let v2 = c.any.ensures.extends.valuations one v3 in
    let w2 = c.any.ensures.extends.valuations other w3 in
    let v1 = c.in_ok-again.ensures.adds.grows.extends.valuations one v2 in
    let w1 = c.in_ok-again.ensures.adds.grows.extends.valuations other w2 in
    same_choice (same_any (c.in_ok-some.ensures.value one v3).1 (c.in_ok-some.ensures.value other w3).1 behind) (c.in_ok-next.ensures.reads one other v1 w1 behind) (c.in_ok-again.ensures.reads one other v2 w2 asks) (value one v4) (value other w4)))
    c.choose.ensures.value

pub returns-in_err-next-clause-adds : goal.returns-in_err-next-clause-adds
returns-in_err-next-clause-adds c = adds_fewer _ _ _ _ (omega arith) c.lowest.ensures.adds

pub returns-in_err-next-clause-full : goal.returns-in_err-next-clause-full
returns-in_err-next-clause-full c e = let full = c.lowest.ensures.full (handed_on _ _ _ _ c.in_err-next.was c.from_residual.ensures.1 e) in omega (arith, full)

pub returns-in_err-again-clause-adds : goal.returns-in_err-again-clause-adds
returns-in_err-again-clause-adds c = adds_fewer _ _ _ _ (omega arith) (adds_twice _ _ _ _ _ c.lowest.ensures.adds c.lowest-2.ensures.adds)

pub returns-in_err-again-clause-full : goal.returns-in_err-again-clause-full
returns-in_err-again-clause-full c e =
    let most0 = c.lowest.ensures.adds.most in
    let full = c.lowest-2.ensures.full (handed_on _ _ _ _ c.in_err-again.was c.from_residual-in_err-again.ensures.1 e) in
    omega (arith, most0, full)

pub returns-in_err-some-clause-adds : goal.returns-in_err-some-clause-adds
returns-in_err-some-clause-adds c = adds_fewer _ _ _ _ (omega arith) (adds_twice _ _ _ _ _ (adds_twice _ _ _ _ _ c.lowest.ensures.adds c.lowest-2.ensures.adds) (grows_once _ _ c.any.ensures.extends c.any.ensures.grows))

pub returns-in_err-some-clause-full : goal.returns-in_err-some-clause-full
returns-in_err-some-clause-full c e =
    let most0 = c.lowest.ensures.adds.most in
    let most1 = c.lowest-2.ensures.adds.most in
    let full = c.any.ensures.full.0 (handed_on _ _ _ _ c.in_err-some.was c.from_residual-in_err-some.ensures.1 e) in
    omega (arith, most0, most1, full)

pub returns-clause-full : goal.returns-clause-full
returns-clause-full c e =
    let most0 = c.lowest.ensures.adds.most in
    let most1 = c.lowest-2.ensures.adds.most in
    let most2 = c.any.ensures.grows.most in
    let full = c.choose.ensures.full e in
    omega (arith, most0, most1, most2, full)

pub returns-clause-net : goal.returns-clause-net
returns-clause-net c = if_ok c.choose.result _ (λ first. IsNetOfWidth c.choose.new.builder first c.args.count) (λ first net. record { is_net = net.is_net; has_width = net.has_width ∙ c.in_ok-next.ensures.net.has_width }) c.choose.ensures.net

pub lowest-requires-clause-bits : goal.lowest-requires-clause-bits
lowest-requires-clause-bits c = c.requires.behind

pub lowest-requires-clause-some : goal.lowest-requires-clause-some
lowest-requires-clause-some c = c.requires.some

pub lowest-requires-clause-few : goal.lowest-requires-clause-few
lowest-requires-clause-few c = c.requires.few

pub lowest-requires-2-clause-bits : goal.lowest-requires-2-clause-bits
lowest-requires-2-clause-bits c = net_lasts _ _ _ _ c.lowest.ensures.adds.grows.extends c.requires.asks

pub lowest-requires-2-clause-some : goal.lowest-requires-2-clause-some
lowest-requires-2-clause-some c = c.requires.some

pub lowest-requires-2-clause-few : goal.lowest-requires-2-clause-few
lowest-requires-2-clause-few c = c.requires.few

pub any-requires : goal.any-requires
any-requires c = record { a_is = (extends_twice _ _ _ c.lowest.ensures.adds.grows.extends c.lowest-2.ensures.adds.grows.extends).nets _ _ c.requires.behind.is_net }

pub choose-requires-clause-bit : goal.choose-requires-clause-bit
choose-requires-clause-bit c = record { is_net = c.in_ok-some.ensures.net.0; has_width = c.in_ok-some.ensures.net.1 }

pub choose-requires-clause-one : goal.choose-requires-clause-one
choose-requires-clause-one c = (extends_twice _ _ _ c.lowest-2.ensures.adds.grows.extends c.any.ensures.extends).nets _ _ c.in_ok-next.ensures.net.is_net

pub choose-requires-clause-other : goal.choose-requires-clause-other
choose-requires-clause-other c = c.any.ensures.extends.nets _ _ c.in_ok-again.ensures.net.is_net

pub choose-requires-clause-widths : goal.choose-requires-clause-widths
choose-requires-clause-widths c = c.in_ok-next.ensures.net.has_width ∙ sym c.in_ok-again.ensures.net.has_width
