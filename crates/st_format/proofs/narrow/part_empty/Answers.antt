use Rattle.std.proofs.Common.{◌≡◌, ◌-◌, ◌*◌, nat_lt, if◌then◌else◌, ◌∙◌, arith}
use Rattle.netlist.specs.Runs.{Always}
use Rattle.net_parts.specs.Laws.{valued_fits, net_lasts, extends_twice, grows_once, adds_twice, adds_fewer, bit_fits, if_ok}
use Rattle.st_format.proofs.CountedLemmas.{left_where}
use Rattle.stage_core.specs.Refusing.{handed_on}
use Rattle.st_format.proofs.narrow.part_empty.Goals as goal

pub mux-requires-clause-s_is : goal.mux-requires-clause-s_is
mux-requires-clause-s_is c = (net_lasts _ _ _ _ (extends_twice _ _ _ c.constant.ensures.adds.grows.extends (extends_twice _ _ _ c.sub.ensures.extends c.constant-2.ensures.adds.grows.extends)) c.requires.more).is_net

pub returns-clause-value : goal.returns-clause-value
returns-clause-value c =
    if_ok c.mux.result _ (λ left. Always c.mux.new.self (λ cycle. cycle.net left.number ≡ (if nat_lt (cycle.net c.args.empty.number) (c.args.sizes.now.symbols * (c.args.sizes.now.parts - 1)) then 0 else cycle.net c.args.empty.number - c.args.sizes.now.symbols * (c.args.sizes.now.parts - 1))))
    (λ left value cycle v4. (
    let v3 = c.mux.ensures.extends.valuations cycle v4 in
    let v2 = c.constant-2.ensures.adds.grows.extends.valuations cycle v3 in
    let v1 = c.sub.ensures.extends.valuations cycle v2 in
    let v0 = c.constant.ensures.adds.grows.extends.valuations cycle v1 in
    left_where c.args.empty.width (cycle.net c.args.more.number) (cycle.net c.args.empty.number) _ _ _ (cycle.net left.number) _ (valued_fits _ cycle v0 _ _ c.requires.empty.is_net) (bit_fits _ _ c.requires.more cycle v0) (c.requires.follows cycle v0)
    (c.in_ok-behind.ensures.value cycle v1 ∙ c.rest_symbols.ensures.value) (c.in_ok-left.ensures.value cycle v2).1 (c.in_ok-none.ensures.value cycle v3) (value cycle v4).1))
    c.mux.ensures.value

pub returns-clause-adds : goal.returns-clause-adds
returns-clause-adds c = adds_fewer _ _ _ _ (omega arith) (adds_twice _ _ _ _ _ (adds_twice _ _ _ _ _ (adds_twice _ _ _ _ _ c.constant.ensures.adds (grows_once _ _ c.sub.ensures.extends c.sub.ensures.grows)) c.constant-2.ensures.adds) (grows_once _ _ c.mux.ensures.extends c.mux.ensures.grows))

pub mux-requires-clause-a_is : goal.mux-requires-clause-a_is
mux-requires-clause-a_is c = c.in_ok-none.ensures.net.is_net

pub mux-requires-clause-b_is : goal.mux-requires-clause-b_is
mux-requires-clause-b_is c = c.constant-2.ensures.adds.grows.extends.nets _ _ c.in_ok-left.ensures.net.0

pub returns-in_err-behind-clause-adds : goal.returns-in_err-behind-clause-adds
returns-in_err-behind-clause-adds c = adds_fewer _ _ _ _ (omega arith) c.constant.ensures.adds

pub returns-in_err-left-clause-adds : goal.returns-in_err-left-clause-adds
returns-in_err-left-clause-adds c = adds_fewer _ _ _ _ (omega arith) (adds_twice _ _ _ _ _ c.constant.ensures.adds (grows_once _ _ c.sub.ensures.extends c.sub.ensures.grows))

pub returns-in_err-none-clause-adds : goal.returns-in_err-none-clause-adds
returns-in_err-none-clause-adds c = adds_fewer _ _ _ _ (omega arith) (adds_twice _ _ _ _ _ (adds_twice _ _ _ _ _ c.constant.ensures.adds (grows_once _ _ c.sub.ensures.extends c.sub.ensures.grows)) c.constant-2.ensures.adds)

pub returns-in_err-behind-clause-full : goal.returns-in_err-behind-clause-full
returns-in_err-behind-clause-full c e = let full = c.constant.ensures.full (handed_on _ _ _ _ c.in_err-behind.was c.from_residual.ensures.1 e) in omega (arith, full)

pub returns-in_err-left-clause-full : goal.returns-in_err-left-clause-full
returns-in_err-left-clause-full c e = let most0 = c.constant.ensures.adds.most in let full = c.sub.ensures.full.0 (handed_on _ _ _ _ c.in_err-left.was c.from_residual-in_err-left.ensures.1 e) in omega (arith, most0, full)

pub returns-in_err-none-clause-full : goal.returns-in_err-none-clause-full
returns-in_err-none-clause-full c e = let most0 = c.constant.ensures.adds.most in let most1 = c.sub.ensures.grows.most in let full = c.constant-2.ensures.full (handed_on _ _ _ _ c.in_err-none.was c.from_residual-in_err-none.ensures.1 e) in omega (arith, most0, most1, full)

pub returns-clause-full : goal.returns-clause-full
returns-clause-full c e = let most0 = c.constant.ensures.adds.most in let most1 = c.sub.ensures.grows.most in let most2 = c.constant-2.ensures.adds.most in let full = c.mux.ensures.full.0 e in omega (arith, most0, most1, most2, full)
