use Rattle.std.proofs.Common.{◌≡◌, ℕ, ◌^◌, ◌<◌, nat_le, if◌then◌else◌, ◌+◌, ◌-◌, ◌/◌, ◌%◌, arith}
use Rattle.netlist.specs.Runs.{Always}
use Rattle.net_parts.specs.Laws.{if_ok, adds_fewer, adds_twice, grows_once}
use Rattle.mm_arbiter.proofs.Words.{from_level}
use Rattle.mm_arbiter.specs.Depends.{AnyTwo, IsSame}
use Rattle.mm_arbiter.proofs.Same.{same_by_one, same_any}
use Rattle.net_parts.specs.Nets.{IsBit}
use Rattle.net_parts.specs.Refusing.{handed_on}
use Rattle.mm_arbiter.proofs.pick.is_from.Goals as goal

pub returns-clause-value : goal.returns-clause-value
returns-clause-value c =
    if_ok c.any.result _ (λ here. Always c.any.new.self (λ cycle. (k : ℕ) → k < c.args.to → cycle.net c.args.bits.number ≡ 2 ^ k → cycle.net here.number ≡ (if nat_le c.args.from k then 1 else 0)))
    (λ here value cycle v2 k lt is. (
    let v1 = c.any.ensures.extends.valuations cycle v2 in
    from_level c.args.from c.args.to k _ _ _ c.requires.order lt is (c.in_ok-part.ensures.value cycle v1).1 (value cycle v2).1))
    c.any.ensures.value

pub returns-clause-reads : goal.returns-clause-reads
returns-clause-reads c =
    if_ok c.any.result _ (λ here. AnyTwo c.any.new.self (λ one other. IsSame c.args.bits one other → IsSame here one other))
    (λ here value one other v2 w2 bits. (
    let v1 = c.any.ensures.extends.valuations one v2 in
    let w1 = c.any.ensures.extends.valuations other w2 in
    let part = same_by_one (λ x. x / 2 ^ c.args.from % 2 ^ (c.args.to - 1 - c.args.from + 1)) (c.in_ok-part.ensures.value one v1).1 (c.in_ok-part.ensures.value other w1).1 bits in
    same_any (value one v2).1 (value other w2).1 part))
    c.any.ensures.value

pub returns-in_err-part-clause-adds : goal.returns-in_err-part-clause-adds
returns-in_err-part-clause-adds c = adds_fewer _ _ _ _ (omega arith) (grows_once _ _ c.slice.ensures.extends c.slice.ensures.grows)

pub returns-in_err-part-clause-full : goal.returns-in_err-part-clause-full
returns-in_err-part-clause-full c e = let full = c.slice.ensures.full.0 (handed_on _ _ _ _ c.in_err-part.was c.from_residual.ensures.1 e) in omega (arith, full)

pub returns-clause-adds : goal.returns-clause-adds
returns-clause-adds c = adds_fewer _ _ _ _ (omega arith) (adds_twice _ _ _ _ _ (grows_once _ _ c.slice.ensures.extends c.slice.ensures.grows) (grows_once _ _ c.any.ensures.extends c.any.ensures.grows))

pub returns-clause-full : goal.returns-clause-full
returns-clause-full c e =
    let most0 = c.slice.ensures.grows.most in
    let full = c.any.ensures.full.0 e in
    omega (arith, most0, full)

pub returns-clause-net : goal.returns-clause-net
returns-clause-net c = if_ok c.any.result _ (IsBit c.any.new.self) (λ here net. record { is_net = net.0; has_width = net.1 }) c.any.ensures.net

pub slice-requires-clause-a_is : goal.slice-requires-clause-a_is
slice-requires-clause-a_is c = c.requires.bits.is_net

pub any-requires : goal.any-requires
any-requires c = record { a_is = c.in_ok-part.ensures.net.0 }
