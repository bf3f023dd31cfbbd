use Rattle.std.proofs.Common.{◌≡◌, ◌+◌, ◌*◌, ◌^◌, ◌<◌, nat_lt, if◌then◌else◌, sym, subst, ◌∙◌, arith}
use Rattle.std.proofs.lemmas.Bool.{eqb-true}
use Rattle.netlist.specs.Runs.{Always}
use Rattle.net_parts.specs.Nets.{IsNetOfWidth}
use Rattle.net_parts.specs.Laws.{extends_twice, grows_once, adds_twice, adds_fewer, if_ok, net_fits}
use Rattle.st_format.specs.ClearNets.{without_low}
use Rattle.st_format.proofs.ClearLaw.{more_cleared, none_above}
use Rattle.stage_core.specs.Refusing.{handed_on}
use Rattle.st_format.proofs.clear.clear_more.Goals as goal

pub returns-clause-net : goal.returns-clause-net
returns-clause-net c = if_ok c.mux.result _ (λ more. IsNetOfWidth c.mux.new.self more c.args.word.width) (λ more net. record { is_net = net.0; has_width = net.1 ∙ c.in_ok-shorter.ensures.net.has_width }) c.mux.ensures.net

pub mux-requires-clause-b_is : goal.mux-requires-clause-b_is
mux-requires-clause-b_is c = (extends_twice _ _ _ c.constant.ensures.adds.grows.extends (extends_twice _ _ _ c.less.ensures.extends c.clear_low.ensures.adds.grows.extends)).nets _ _ c.requires.cleared.is_net

pub returns-clause-value : goal.returns-clause-value
returns-clause-value c =
    if_ok c.mux.result _ (λ more. Always c.mux.new.self (λ cycle. cycle.net more.number ≡ (if nat_lt c.args.count (cycle.net c.args.empty.number) then without_low (c.args.bits * c.args.count + c.args.bits) (cycle.net c.args.word.number) else cycle.net c.args.cleared.number)))
    (λ more value cycle v4. (
    let v3 = c.mux.ensures.extends.valuations cycle v4 in
    let v2 = c.clear_low.ensures.adds.grows.extends.valuations cycle v3 in
    let v1 = c.less.ensures.extends.valuations cycle v2 in
    let v0 = c.constant.ensures.adds.grows.extends.valuations cycle v1 in
    more_cleared c.args.count _ (cycle.net c.args.empty.number) _ (cycle.net c.args.cleared.number) _ _ _ (c.in_ok-number.ensures.value cycle v1) (c.in_ok-more.ensures.value cycle v2).1 (c.in_ok-shorter.ensures.value cycle v3) (value cycle v4).1))
    c.mux.ensures.value

pub returns-then-is_largest-clause-value : goal.returns-then-is_largest-clause-value
returns-then-is_largest-clause-value c cycle v =
    let largest = eqb-true _ _ (sym c.is_largest.ensures ∙ c.if-is_largest.true) in
    let fits = subst (λ w. cycle.net c.args.empty.number < 2 ^ w) (sym c.width-width.ensures.value) (net_fits _ _ c.requires.empty cycle v) in
    none_above c.args.count _ _ _ _ largest fits

pub returns-clause-adds : goal.returns-clause-adds
returns-clause-adds c = adds_fewer _ _ _ _ (omega arith) (adds_twice _ _ _ _ _ (adds_twice _ _ _ _ _ (adds_twice _ _ _ _ _ c.constant.ensures.adds (grows_once _ _ c.less.ensures.extends c.less.ensures.grows)) c.clear_low.ensures.adds) (grows_once _ _ c.mux.ensures.extends c.mux.ensures.grows))

pub returns-in_err-number-clause-adds : goal.returns-in_err-number-clause-adds
returns-in_err-number-clause-adds c = adds_fewer _ _ _ _ (omega arith) c.constant.ensures.adds

pub returns-in_err-more-clause-adds : goal.returns-in_err-more-clause-adds
returns-in_err-more-clause-adds c = adds_fewer _ _ _ _ (omega arith) (adds_twice _ _ _ _ _ c.constant.ensures.adds (grows_once _ _ c.less.ensures.extends c.less.ensures.grows))

pub returns-in_err-shorter-clause-adds : goal.returns-in_err-shorter-clause-adds
returns-in_err-shorter-clause-adds c = adds_fewer _ _ _ _ (omega arith) (adds_twice _ _ _ _ _ (adds_twice _ _ _ _ _ c.constant.ensures.adds (grows_once _ _ c.less.ensures.extends c.less.ensures.grows)) c.clear_low.ensures.adds)

pub returns-in_err-number-clause-full : goal.returns-in_err-number-clause-full
returns-in_err-number-clause-full c e = let full = c.constant.ensures.full (handed_on _ _ _ _ c.in_err-number.was c.from_residual.ensures.1 e) in omega (arith, full)

pub returns-in_err-more-clause-full : goal.returns-in_err-more-clause-full
returns-in_err-more-clause-full c e = let most0 = c.constant.ensures.adds.most in let full = c.less.ensures.full.0 (handed_on _ _ _ _ c.in_err-more.was c.from_residual-in_err-more.ensures.1 e) in omega (arith, most0, full)

pub returns-in_err-shorter-clause-full : goal.returns-in_err-shorter-clause-full
returns-in_err-shorter-clause-full c e = let most0 = c.constant.ensures.adds.most in let most1 = c.less.ensures.grows.most in let full = c.clear_low.ensures.full (handed_on _ _ _ _ c.in_err-shorter.was c.from_residual-in_err-shorter.ensures.1 e) in omega (arith, most0, most1, full)

pub returns-clause-full : goal.returns-clause-full
returns-clause-full c e = let most0 = c.constant.ensures.adds.most in let most1 = c.less.ensures.grows.most in let most2 = c.clear_low.ensures.adds.most in let full = c.mux.ensures.full.0 e in omega (arith, most0, most1, most2, full)

pub less-requires-clause-a_is : goal.less-requires-clause-a_is
less-requires-clause-a_is c = c.in_ok-number.ensures.net.is_net

pub less-requires-clause-b_is : goal.less-requires-clause-b_is
less-requires-clause-b_is c = c.constant.ensures.adds.grows.extends.nets _ _ c.requires.empty

pub less-requires-clause-widths : goal.less-requires-clause-widths
less-requires-clause-widths c = c.in_ok-number.ensures.net.has_width ∙ c.width-width.ensures.value

pub clear_low-requires-clause-word : goal.clear_low-requires-clause-word
clear_low-requires-clause-word c = (extends_twice _ _ _ c.constant.ensures.adds.grows.extends c.less.ensures.extends).nets _ _ c.requires.word

pub mux-requires-clause-s_is : goal.mux-requires-clause-s_is
mux-requires-clause-s_is c = c.clear_low.ensures.adds.grows.extends.nets _ _ c.in_ok-more.ensures.net.0

pub mux-requires-clause-a_is : goal.mux-requires-clause-a_is
mux-requires-clause-a_is c = c.in_ok-shorter.ensures.net.is_net
