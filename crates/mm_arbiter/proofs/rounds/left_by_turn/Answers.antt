use Rattle.std.proofs.Common.{◌≡◌, ◌-◌, ◌<◌, true, if◌then◌else◌, arith, sym, ◌∙◌}
use Rattle.histories.specs.History.{is_raised}
use Rattle.netlist.specs.Runs.{Always}
use Rattle.net_parts.specs.Laws.{if_ok, width_fits, adds_twice, grows_once, extends_twice, net_lasts, adds_fewer}
use Rattle.mm_arbiter.proofs.Words.{left_level}
use Rattle.net_parts.specs.Nets.{IsNetOfWidth}
use Rattle.net_parts.specs.Refusing.{handed_on}
use Rattle.mm_arbiter.specs.Rounds.{chosen_last}
use Rattle.mm_arbiter.proofs.rounds.left_by_turn.Goals as goal

pub returns-clause-value : goal.returns-clause-value
returns-clause-value c =
    let turns = c.args.turns.now in
    let chosen = c.args.chosen.now in
    if_ok c.choose.result _ (λ left. Always c.choose.new.builder (λ cycle. (is_raised (cycle.net chosen.stays.number) ≡ true → 0 < cycle.net turns.left.number)
    → cycle.net left.number ≡ (if is_raised (cycle.net chosen.stays.number) then cycle.net turns.left.number - 1 else (if is_raised (cycle.net chosen.some.number) then cycle.net c.args.spare.number else 0))))
    (λ left value cycle v5 some. (
    let v4 = c.choose.ensures.adds.grows.extends.valuations cycle v5 in
    let v3 = c.begun_shares.ensures.adds.grows.extends.valuations cycle v4 in
    let v2 = c.constant-2.ensures.adds.grows.extends.valuations cycle v3 in
    let v1 = c.sub.ensures.extends.valuations cycle v2 in
    let v0 = c.constant.ensures.adds.grows.extends.valuations cycle v1 in
    left_level turns.left.width (cycle.net turns.left.number) _ _ _ _ (cycle.net chosen.stays.number) (cycle.net chosen.some.number) (cycle.net c.args.spare.number) _ c.requires.turns.left.has_width (width_fits _ _ 6 c.requires.turns.left cycle v0)
    (c.in_ok-one.ensures.value cycle v1) (c.in_ok-less.ensures.value cycle v2).1 (c.in_ok-none.ensures.value cycle v3) (c.in_ok-begun.ensures.value cycle v4) (value cycle v5) some))
    c.choose.ensures.value

pub returns-clause-adds : goal.returns-clause-adds
returns-clause-adds c =
    adds_twice 1 4 _ _ _ c.constant.ensures.adds
    (adds_twice 1 3 _ _ _ (grows_once _ _ c.sub.ensures.extends c.sub.ensures.grows) (adds_twice 1 2 _ _ _ c.constant-2.ensures.adds (adds_twice 1 1 _ _ _ c.begun_shares.ensures.adds c.choose.ensures.adds)))

pub returns-in_err-one-clause-adds : goal.returns-in_err-one-clause-adds
returns-in_err-one-clause-adds c = adds_fewer _ _ _ _ (omega arith) c.constant.ensures.adds

pub returns-in_err-one-clause-full : goal.returns-in_err-one-clause-full
returns-in_err-one-clause-full c e = let full = c.constant.ensures.full (handed_on _ _ _ _ c.in_err-one.was c.from_residual.ensures.1 e) in omega (arith, full)

pub returns-in_err-less-clause-adds : goal.returns-in_err-less-clause-adds
returns-in_err-less-clause-adds c = adds_fewer _ _ _ _ (omega arith) (adds_twice _ _ _ _ _ c.constant.ensures.adds (grows_once _ _ c.sub.ensures.extends c.sub.ensures.grows))

pub returns-in_err-less-clause-full : goal.returns-in_err-less-clause-full
returns-in_err-less-clause-full c e =
    let most0 = c.constant.ensures.adds.most in
    let full = c.sub.ensures.full.0 (handed_on _ _ _ _ c.in_err-less.was c.from_residual-in_err-less.ensures.1 e) in
    omega (arith, most0, full)

pub returns-in_err-none-clause-adds : goal.returns-in_err-none-clause-adds
returns-in_err-none-clause-adds c = adds_fewer _ _ _ _ (omega arith) (adds_twice _ _ _ _ _ (adds_twice _ _ _ _ _ c.constant.ensures.adds (grows_once _ _ c.sub.ensures.extends c.sub.ensures.grows)) c.constant-2.ensures.adds)

pub returns-in_err-none-clause-full : goal.returns-in_err-none-clause-full
returns-in_err-none-clause-full c e =
    let most0 = c.constant.ensures.adds.most in
    let most1 = c.sub.ensures.grows.most in
    let full = c.constant-2.ensures.full (handed_on _ _ _ _ c.in_err-none.was c.from_residual-in_err-none.ensures.1 e) in
    omega (arith, most0, most1, full)

pub returns-in_err-begun-clause-adds : goal.returns-in_err-begun-clause-adds
returns-in_err-begun-clause-adds c = adds_fewer _ _ _ _ (omega arith) (adds_twice _ _ _ _ _ (adds_twice _ _ _ _ _ (adds_twice _ _ _ _ _ c.constant.ensures.adds (grows_once _ _ c.sub.ensures.extends c.sub.ensures.grows)) c.constant-2.ensures.adds) c.begun_shares.ensures.adds)

pub returns-in_err-begun-clause-full : goal.returns-in_err-begun-clause-full
returns-in_err-begun-clause-full c e =
    let most0 = c.constant.ensures.adds.most in
    let most1 = c.sub.ensures.grows.most in
    let most2 = c.constant-2.ensures.adds.most in
    let full = c.begun_shares.ensures.full (handed_on _ _ _ _ c.in_err-begun.was c.from_residual-in_err-begun.ensures.1 e) in
    omega (arith, most0, most1, most2, full)

pub returns-clause-full : goal.returns-clause-full
returns-clause-full c e =
    let most0 = c.constant.ensures.adds.most in
    let most1 = c.sub.ensures.grows.most in
    let most2 = c.constant-2.ensures.adds.most in
    let most3 = c.begun_shares.ensures.adds.most in
    let full = c.choose.ensures.full e in
    omega (arith, most0, most1, most2, most3, full)

pub returns-clause-net : goal.returns-clause-net
returns-clause-net c = if_ok c.choose.result _ (λ left. IsNetOfWidth c.choose.new.builder left 6) (λ left net. record { is_net = net.is_net; has_width = net.has_width ∙ c.in_ok-less.ensures.net.1 ∙ c.requires.turns.left.has_width }) c.choose.ensures.net

pub sub-requires-clause-a_is : goal.sub-requires-clause-a_is
sub-requires-clause-a_is c = c.constant.ensures.adds.grows.extends.nets _ _ c.requires.turns.left.is_net

pub sub-requires-clause-b_is : goal.sub-requires-clause-b_is
sub-requires-clause-b_is c = c.in_ok-one.ensures.net.is_net

pub sub-requires-clause-widths : goal.sub-requires-clause-widths
sub-requires-clause-widths c = c.requires.turns.left.has_width ∙ sym c.in_ok-one.ensures.net.has_width

pub begun_shares-requires-clause-chosen : goal.begun_shares-requires-clause-chosen
begun_shares-requires-clause-chosen c = chosen_last _ _ _ _ (extends_twice _ _ _ c.constant.ensures.adds.grows.extends (extends_twice _ _ _ c.sub.ensures.extends c.constant-2.ensures.adds.grows.extends)) c.requires.chosen

pub begun_shares-requires-clause-spare : goal.begun_shares-requires-clause-spare
begun_shares-requires-clause-spare c = net_lasts _ _ _ _ (extends_twice _ _ _ c.constant.ensures.adds.grows.extends (extends_twice _ _ _ c.sub.ensures.extends c.constant-2.ensures.adds.grows.extends)) c.requires.spare

pub begun_shares-requires-clause-none : goal.begun_shares-requires-clause-none
begun_shares-requires-clause-none c = c.in_ok-none.ensures.net

pub choose-requires-clause-bit : goal.choose-requires-clause-bit
choose-requires-clause-bit c = net_lasts _ _ _ _ (extends_twice _ _ _ c.constant.ensures.adds.grows.extends (extends_twice _ _ _ c.sub.ensures.extends (extends_twice _ _ _ c.constant-2.ensures.adds.grows.extends c.begun_shares.ensures.adds.grows.extends))) c.requires.chosen.stays

pub choose-requires-clause-one : goal.choose-requires-clause-one
choose-requires-clause-one c = (extends_twice _ _ _ c.constant-2.ensures.adds.grows.extends c.begun_shares.ensures.adds.grows.extends).nets _ _ c.in_ok-less.ensures.net.0

pub choose-requires-clause-other : goal.choose-requires-clause-other
choose-requires-clause-other c = c.in_ok-begun.ensures.net.is_net

pub choose-requires-clause-widths : goal.choose-requires-clause-widths
choose-requires-clause-widths c = c.in_ok-less.ensures.net.1 ∙ c.requires.turns.left.has_width ∙ sym c.in_ok-begun.ensures.net.has_width
