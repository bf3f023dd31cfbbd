use Rattle.std.proofs.Common.{◌≡◌, ℕ, ◌+◌, ◌-◌, ◌^◌, ◌<◌, ◌%◌, sym, ◌∙◌, arith}
use Rattle.netlist.specs.Runs.{Always}
use Rattle.net_parts.specs.Laws.{if_ok, adds_fewer, adds_twice, grows_once}
use Rattle.mm_arbiter.proofs.Words.{above_level}
use Rattle.mm_arbiter.specs.Depends.{AnyTwo, IsSame}
use Rattle.mm_arbiter.proofs.Same.{same_by_two}
use Rattle.net_parts.specs.Nets.{IsNetOfWidth}
use Rattle.net_parts.specs.Refusing.{handed_on}
use Rattle.mm_arbiter.proofs.first.all_above.Goals as goal

pub returns-clause-value : goal.returns-clause-value
returns-clause-value c =
    if_ok c.sub.result _ (λ above. Always c.sub.new.self (λ cycle. (k : ℕ) → k < c.args.count → cycle.net c.args.holder.number ≡ 2 ^ k → cycle.net above.number ≡ 2 ^ c.args.count - 2 ^ (k + 1)))
    (λ above value cycle v3 k lt is. (
    let v2 = c.sub.ensures.extends.valuations cycle v3 in
    let v1 = c.in_ok-none.ensures.adds.grows.extends.valuations cycle v2 in
    above_level c.in_ok-none.none.width c.args.count k _ _ _ c.in_ok-none.ensures.net.has_width lt (c.in_ok-none.ensures.value cycle v2) (c.in_ok-next.ensures.value cycle v1 k lt is) (value cycle v3).1))
    c.sub.ensures.value

pub returns-clause-reads : goal.returns-clause-reads
returns-clause-reads c =
    if_ok c.sub.result _ (λ above. AnyTwo c.sub.new.self (λ one other. IsSame c.args.holder one other → IsSame above one other))
    (λ above value one other v3 w3 holder. (
    let v2 = c.sub.ensures.extends.valuations one v3 in
    let w2 = c.sub.ensures.extends.valuations other w3 in
    let none = c.in_ok-none.ensures.value one v2 ∙ sym (c.in_ok-none.ensures.value other w2) in
    let next = c.in_ok-next.ensures.reads one other (c.in_ok-none.ensures.adds.grows.extends.valuations one v2) (c.in_ok-none.ensures.adds.grows.extends.valuations other w2) holder in
    same_by_two (λ x y. (x + (2 ^ c.in_ok-none.none.width - y)) % 2 ^ c.in_ok-none.none.width) (value one v3).1 (value other w3).1 none next))
    c.sub.ensures.value

pub returns-in_err-next-clause-adds : goal.returns-in_err-next-clause-adds
returns-in_err-next-clause-adds c = adds_fewer _ _ _ _ (omega arith) c.next_bit.ensures.adds

pub returns-in_err-next-clause-full : goal.returns-in_err-next-clause-full
returns-in_err-next-clause-full c e = let full = c.next_bit.ensures.full (handed_on _ _ _ _ c.in_err-next.was c.from_residual.ensures.1 e) in omega (arith, full)

pub returns-in_err-none-clause-adds : goal.returns-in_err-none-clause-adds
returns-in_err-none-clause-adds c = adds_fewer _ _ _ _ (omega arith) (adds_twice _ _ _ _ _ c.next_bit.ensures.adds c.constant.ensures.adds)

pub returns-in_err-none-clause-full : goal.returns-in_err-none-clause-full
returns-in_err-none-clause-full c e =
    let most0 = c.next_bit.ensures.adds.most in
    let full = c.constant.ensures.full (handed_on _ _ _ _ c.in_err-none.was c.from_residual-in_err-none.ensures.1 e) in
    omega (arith, most0, full)

pub returns-clause-adds : goal.returns-clause-adds
returns-clause-adds c = adds_fewer _ _ _ _ (omega arith) (adds_twice _ _ _ _ _ (adds_twice _ _ _ _ _ c.next_bit.ensures.adds c.constant.ensures.adds) (grows_once _ _ c.sub.ensures.extends c.sub.ensures.grows))

pub returns-clause-full : goal.returns-clause-full
returns-clause-full c e =
    let most0 = c.next_bit.ensures.adds.most in
    let most1 = c.constant.ensures.adds.most in
    let full = c.sub.ensures.full.0 e in
    omega (arith, most0, most1, full)

pub returns-clause-net : goal.returns-clause-net
returns-clause-net c = if_ok c.sub.result _ (λ above. IsNetOfWidth c.sub.new.self above c.args.count) (λ above net. record { is_net = net.0; has_width = net.1 ∙ c.in_ok-none.ensures.net.has_width }) c.sub.ensures.net

pub next_bit-requires-clause-holder : goal.next_bit-requires-clause-holder
next_bit-requires-clause-holder c = c.requires.holder

pub next_bit-requires-clause-some : goal.next_bit-requires-clause-some
next_bit-requires-clause-some c = c.requires.some

pub next_bit-requires-clause-few : goal.next_bit-requires-clause-few
next_bit-requires-clause-few c = c.requires.few

pub constant-requires-clause-small : goal.constant-requires-clause-small
constant-requires-clause-small c = c.requires.few

pub sub-requires-clause-a_is : goal.sub-requires-clause-a_is
sub-requires-clause-a_is c = c.in_ok-none.ensures.net.is_net

pub sub-requires-clause-b_is : goal.sub-requires-clause-b_is
sub-requires-clause-b_is c = c.constant.ensures.adds.grows.extends.nets _ _ c.in_ok-next.ensures.net.is_net

pub sub-requires-clause-widths : goal.sub-requires-clause-widths
sub-requires-clause-widths c = c.in_ok-none.ensures.net.has_width ∙ sym c.in_ok-next.ensures.net.has_width
