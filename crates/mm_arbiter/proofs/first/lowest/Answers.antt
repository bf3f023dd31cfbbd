use Rattle.std.proofs.Common.{bit_and, ◌≡◌, Bool, List, length, ◌+◌, ◌-◌, ◌%◌, ◌^◌, sym, ◌∙◌, arith}
use Rattle.netlist.specs.Runs.{Always}
use Rattle.net_parts.specs.Laws.{if_ok, extends_twice, adds_fewer, adds_twice, grows_once}
use Rattle.mm_arbiter.specs.Asks.{number, first_high, seat_bit}
use Rattle.mm_arbiter.proofs.Words.{lowest_level}
use Rattle.mm_arbiter.specs.Depends.{AnyTwo, IsSame}
use Rattle.mm_arbiter.proofs.Same.{same_by_two}
use Rattle.net_parts.specs.Nets.{IsNetOfWidth}
use Rattle.net_parts.specs.Refusing.{handed_on}
use Rattle.mm_arbiter.proofs.first.lowest.Goals as goal

pub returns-clause-value : goal.returns-clause-value
returns-clause-value c =
    if_ok c.and.result _ (λ low. Always c.and.new.self (λ cycle. (high : List Bool) → length high ≡ c.args.count → cycle.net c.args.bits.number ≡ number high → cycle.net low.number ≡ seat_bit (first_high high)))
    (λ low value cycle v3 high l is. (
    let v2 = c.and.ensures.extends.valuations cycle v3 in
    let v1 = c.in_ok-minus.ensures.extends.valuations cycle v2 in
    lowest_level c.in_ok-none.none.width c.args.count _ _ _ _ high c.in_ok-none.ensures.net.has_width l is (c.in_ok-none.ensures.value cycle v1) (c.in_ok-minus.ensures.value cycle v2).1 (value cycle v3).1))
    c.and.ensures.value

pub returns-clause-reads : goal.returns-clause-reads
returns-clause-reads c =
    if_ok c.and.result _ (λ low. AnyTwo c.and.new.self (λ one other. IsSame c.args.bits one other → IsSame low one other))
    (λ low value one other v3 w3 bits. (
    let v2 = c.and.ensures.extends.valuations one v3 in
    let w2 = c.and.ensures.extends.valuations other w3 in
    let none = c.in_ok-none.ensures.value one (c.in_ok-minus.ensures.extends.valuations one v2) ∙ sym (c.in_ok-none.ensures.value other (c.in_ok-minus.ensures.extends.valuations other w2)) in
    let minus = same_by_two (λ x y. (x + (2 ^ c.in_ok-none.none.width - y)) % 2 ^ c.in_ok-none.none.width) (c.in_ok-minus.ensures.value one v2).1 (c.in_ok-minus.ensures.value other w2).1 none bits in
    same_by_two bit_and (value one v3).1 (value other w3).1 bits minus))
    c.and.ensures.value

pub returns-in_err-none-clause-adds : goal.returns-in_err-none-clause-adds
returns-in_err-none-clause-adds c = adds_fewer _ _ _ _ (omega arith) c.constant.ensures.adds

pub returns-in_err-none-clause-full : goal.returns-in_err-none-clause-full
returns-in_err-none-clause-full c e = let full = c.constant.ensures.full (handed_on _ _ _ _ c.in_err-none.was c.from_residual.ensures.1 e) in omega (arith, full)

pub returns-in_err-minus-clause-adds : goal.returns-in_err-minus-clause-adds
returns-in_err-minus-clause-adds c = adds_fewer _ _ _ _ (omega arith) (adds_twice _ _ _ _ _ c.constant.ensures.adds (grows_once _ _ c.sub.ensures.extends c.sub.ensures.grows))

pub returns-in_err-minus-clause-full : goal.returns-in_err-minus-clause-full
returns-in_err-minus-clause-full c e =
    let most0 = c.constant.ensures.adds.most in
    let full = c.sub.ensures.full.0 (handed_on _ _ _ _ c.in_err-minus.was c.from_residual-in_err-minus.ensures.1 e) in
    omega (arith, most0, full)

pub returns-clause-adds : goal.returns-clause-adds
returns-clause-adds c = adds_fewer _ _ _ _ (omega arith) (adds_twice _ _ _ _ _ (adds_twice _ _ _ _ _ c.constant.ensures.adds (grows_once _ _ c.sub.ensures.extends c.sub.ensures.grows)) (grows_once _ _ c.and.ensures.extends c.and.ensures.grows))

pub returns-clause-full : goal.returns-clause-full
returns-clause-full c e =
    let most0 = c.constant.ensures.adds.most in
    let most1 = c.sub.ensures.grows.most in
    let full = c.and.ensures.full.0 e in
    omega (arith, most0, most1, full)

pub returns-clause-net : goal.returns-clause-net
returns-clause-net c = if_ok c.and.result _ (λ low. IsNetOfWidth c.and.new.self low c.args.count) (λ low net. record { is_net = net.0; has_width = net.1 ∙ c.requires.bits.has_width }) c.and.ensures.net

pub constant-requires-clause-some : goal.constant-requires-clause-some
constant-requires-clause-some c = c.requires.some

pub constant-requires-clause-small : goal.constant-requires-clause-small
constant-requires-clause-small c = c.requires.few

pub sub-requires-clause-a_is : goal.sub-requires-clause-a_is
sub-requires-clause-a_is c = c.in_ok-none.ensures.net.is_net

pub sub-requires-clause-b_is : goal.sub-requires-clause-b_is
sub-requires-clause-b_is c = c.constant.ensures.adds.grows.extends.nets _ _ c.requires.bits.is_net

pub sub-requires-clause-widths : goal.sub-requires-clause-widths
sub-requires-clause-widths c = c.in_ok-none.ensures.net.has_width ∙ sym c.requires.bits.has_width

pub and-requires-clause-a_is : goal.and-requires-clause-a_is
and-requires-clause-a_is c = (extends_twice _ _ _ c.constant.ensures.adds.grows.extends c.sub.ensures.extends).nets _ _ c.requires.bits.is_net

pub and-requires-clause-b_is : goal.and-requires-clause-b_is
and-requires-clause-b_is c = c.in_ok-minus.ensures.net.0

pub and-requires-clause-widths : goal.and-requires-clause-widths
and-requires-clause-widths c = c.requires.bits.has_width ∙ sym (c.in_ok-minus.ensures.net.1 ∙ c.in_ok-none.ensures.net.has_width)
