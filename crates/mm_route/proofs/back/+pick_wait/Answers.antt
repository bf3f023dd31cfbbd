use Rattle.std.proofs.Common.{◌≡◌, ◌==◌, List, if◌then◌else◌, length, sym, subst, ap, ◌∙◌, arith}
use Rattle.std.specs.Int.{bit_at}
use Rattle.netlist.specs.Runs.{Always}
use Rattle.net_parts.specs.Laws.{if_ok, adds_fewer, adds_twice, grows_once, adds_none, extends_twice}
use Rattle.net_parts.specs.Refusing.{handed_on}
use Rattle.net_parts.specs.Nets.{IsBit}
use Rattle.mm_route.specs.declared.back.BackNets.{BackNets}
use Rattle.mm_route.specs.Backward.{AreBackNets, picked, waits_in}
use Rattle.mm_route.proofs.Levels.{bit_is}
use Rattle.mm_route.proofs.back.+pick_wait.Goals as goal

pub pick_wait-requires : goal.pick_wait-requires
pick_wait-requires t c =
    let is = c.in-Some.ensures.cases.0 in
    let fewer = ap (length {A = BackNets}) is in
    let d = c.decreases in
    let few = c.requires.few in
    (omega (arith, d, fewer), (c.requires.bits, (omega (arith, few, fewer), ((subst (AreBackNets c.args.builder.now c.args.word_bits) is c.requires.backs).1, c.requires.low))))

pub returns-in_ok-here-in-Some-clause-value : goal.returns-in_ok-here-in-Some-clause-value
returns-in_ok-here-in-Some-clause-value t c =
    let is = c.in-Some.ensures.cases.0 in
    let bits = c.args.bits in
    if_ok c.choose.result _ (λ made. Always c.choose.new.builder (λ cycle. cycle.net made.number ≡ picked c.args.k (cycle.net bits.number) (waits_in cycle c.args.backs.now) (cycle.net c.args.low.number)))
    (λ made value cycle v3. (
    let v2 = c.choose.ensures.adds.grows.extends.valuations cycle v3 in
    let v1 = c.slice.ensures.extends.valuations cycle v2 in
    let one = cycle.net c.in-Some.first.now.wait.number in
    value cycle v3
    ∙ ap (λ n. if n == 0 then cycle.net c.in_ok-other-in-Some.other.number else one) (bit_is (cycle.net bits.number) c.args.k _ (c.in_ok-here-in-Some.ensures.value cycle v2).1)
    ∙ ap (λ n. if bit_at (cycle.net bits.number) c.args.k == 0 then n else one) (c.in_ok-other-in-Some.ensures.value cycle v1)
    ∙ ap (λ (backs : List BackNets). picked c.args.k (cycle.net bits.number) (waits_in cycle backs) (cycle.net c.args.low.number)) (sym is)))
    c.choose.ensures.value

pub returns-in_err-other-in-Some-clause-adds : goal.returns-in_err-other-in-Some-clause-adds
returns-in_err-other-in-Some-clause-adds t c = let count = ap (length {A = BackNets}) c.in-Some.ensures.cases.0 in adds_fewer _ _ _ _ (omega (arith, count)) c.pick_wait.ensures.adds

pub returns-in_err-other-in-Some-clause-full : goal.returns-in_err-other-in-Some-clause-full
returns-in_err-other-in-Some-clause-full t c e = let count = ap (length {A = BackNets}) c.in-Some.ensures.cases.0 in let full = c.pick_wait.ensures.full (handed_on _ _ _ _ c.in_err-other-in-Some.was c.from_residual.ensures.1 e) in omega (arith, count, full)

pub returns-in_err-here-in-Some-clause-adds : goal.returns-in_err-here-in-Some-clause-adds
returns-in_err-here-in-Some-clause-adds t c = let count = ap (length {A = BackNets}) c.in-Some.ensures.cases.0 in adds_fewer _ _ _ _ (omega (arith, count)) (adds_twice _ _ _ _ _ c.pick_wait.ensures.adds (grows_once _ _ c.slice.ensures.extends c.slice.ensures.grows))

pub returns-in_err-here-in-Some-clause-full : goal.returns-in_err-here-in-Some-clause-full
returns-in_err-here-in-Some-clause-full t c e = let count = ap (length {A = BackNets}) c.in-Some.ensures.cases.0 in let most = c.pick_wait.ensures.adds.most in let full = c.slice.ensures.full.0 (handed_on _ _ _ _ c.in_err-here-in-Some.was c.from_residual-in_err-here-in-Some.ensures.1 e) in omega (arith, count, most, full)

pub returns-in_ok-here-in-Some-clause-adds : goal.returns-in_ok-here-in-Some-clause-adds
returns-in_ok-here-in-Some-clause-adds t c = let count = ap (length {A = BackNets}) c.in-Some.ensures.cases.0 in adds_fewer _ _ _ _ (omega (arith, count)) (adds_twice _ _ _ _ _ (adds_twice _ _ _ _ _ c.pick_wait.ensures.adds (grows_once _ _ c.slice.ensures.extends c.slice.ensures.grows)) c.choose.ensures.adds)

pub returns-in_ok-here-in-Some-clause-full : goal.returns-in_ok-here-in-Some-clause-full
returns-in_ok-here-in-Some-clause-full t c e = let count = ap (length {A = BackNets}) c.in-Some.ensures.cases.0 in let most = c.pick_wait.ensures.adds.most in let most2 = c.slice.ensures.grows.most in let full = c.choose.ensures.full e in omega (arith, count, most, most2, full)

pub returns-in-None-clause-adds : goal.returns-in-None-clause-adds
returns-in-None-clause-adds t c = adds_fewer _ _ _ _ (omega arith) (adds_none _)

pub returns-in-None-clause-full : goal.returns-in-None-clause-full
returns-in-None-clause-full t c e = cc

pub returns-in-None-clause-net : goal.returns-in-None-clause-net
returns-in-None-clause-net t c = c.requires.low

pub slice-requires-clause-a_is : goal.slice-requires-clause-a_is
slice-requires-clause-a_is t c = c.pick_wait.ensures.adds.grows.extends.nets _ _ c.requires.bits.is_net

pub slice-requires-clause-inside : goal.slice-requires-clause-inside
slice-requires-clause-inside t c = let count = ap (length {A = BackNets}) c.in-Some.ensures.cases.0 in let few = c.requires.few in let width = c.requires.bits.has_width in omega (arith, count, few, width)

pub choose-requires-clause-bit : goal.choose-requires-clause-bit
choose-requires-clause-bit t c = record { is_net = c.in_ok-here-in-Some.ensures.net.0; has_width = c.in_ok-here-in-Some.ensures.net.1 ∙ omega arith }

pub choose-requires-clause-one : goal.choose-requires-clause-one
choose-requires-clause-one t c = (extends_twice _ _ _ c.pick_wait.ensures.adds.grows.extends c.slice.ensures.extends).nets _ _ (subst (AreBackNets c.args.builder.now c.args.word_bits) c.in-Some.ensures.cases.0 c.requires.backs).0.0.is_net

pub choose-requires-clause-other : goal.choose-requires-clause-other
choose-requires-clause-other t c = c.slice.ensures.extends.nets _ _ c.in_ok-other-in-Some.ensures.net.is_net

pub choose-requires-clause-widths : goal.choose-requires-clause-widths
choose-requires-clause-widths t c = (subst (AreBackNets c.args.builder.now c.args.word_bits) c.in-Some.ensures.cases.0 c.requires.backs).0.0.has_width ∙ sym c.in_ok-other-in-Some.ensures.net.has_width

pub returns-in_ok-here-in-Some-clause-net : goal.returns-in_ok-here-in-Some-clause-net
returns-in_ok-here-in-Some-clause-net t c = if_ok c.choose.result _ (IsBit c.choose.new.builder) (λ made net. record { is_net = net.is_net; has_width = net.has_width ∙ (subst (AreBackNets c.args.builder.now c.args.word_bits) c.in-Some.ensures.cases.0 c.requires.backs).0.0.has_width }) c.choose.ensures.net
