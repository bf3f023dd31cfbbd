use Rattle.std.proofs.Common.{◌≡◌, ℕ, false, Bool, List, get_or, Some, None, if◌then◌else◌, arith, sym, ◌∙◌}
use Rattle.histories.specs.History.{is_raised}
use Rattle.netlist.specs.Runs.{Always}
use Rattle.net_parts.specs.Laws.{if_ok, extends_twice, net_lasts, adds_fewer, adds_twice}
use Rattle.mm_arbiter.specs.Asks.{seat_bit, stays_on, chosen_seat}
use Rattle.mm_arbiter.specs.Turns.{StandsAt, HoldSame, turn_nets_last}
use Rattle.mm_arbiter.proofs.Words.{turn_level}
use Rattle.mm_arbiter.specs.Depends.{AnyTwo, IsSame}
use Rattle.mm_arbiter.proofs.Same.{same_choice}
use Rattle.net_parts.specs.Refusing.{handed_on}
use Rattle.mm_arbiter.proofs.choice.choose_turn.Goals as goal

pub returns-clause-value : goal.returns-clause-value
returns-clause-value c =
    let turns = c.args.turns.now in
    let own = c.args.own.now in
    if_ok c.own_or_turn.result _ (λ seat. Always c.own_or_turn.new.builder (λ cycle. (bits : List Bool) (k : ℕ) → StandsAt cycle c.args.count c.args.asks turns.holder bits k
    → cycle.net own.seat.number ≡ seat_bit (if get_or bits k false then Some k else None) → is_raised (cycle.net own.stays.number) ≡ stays_on k (cycle.net turns.left.number) bits
    → cycle.net seat.number ≡ seat_bit (chosen_seat (is_raised (cycle.net turns.inside.number)) k (cycle.net turns.left.number) bits)))
    (λ seat value cycle v3 bits k at o s. (
    let v2 = c.own_or_turn.ensures.adds.grows.extends.valuations cycle v3 in
    let v1 = c.choose.ensures.adds.grows.extends.valuations cycle v2 in
    turn_level (cycle.net turns.inside.number) _ _ _ _ _ _ (cycle.net turns.left.number) k bits o s (c.in_ok-first.ensures.value cycle v1 bits k at) at.holder_is (c.in_ok-turn.ensures.value cycle v2) (value cycle v3)))
    c.own_or_turn.ensures.value

pub returns-clause-reads : goal.returns-clause-reads
returns-clause-reads c =
    if_ok c.own_or_turn.result _ (λ seat. AnyTwo c.own_or_turn.new.builder (λ one other. HoldSame c.args.turns.now one other → IsSame c.args.asks one other → IsSame c.args.own.now.seat one other → IsSame c.args.own.now.stays one other → IsSame seat one other))
    (λ seat value one other v3 w3 turns asks own stays. (
    let v2 = c.own_or_turn.ensures.adds.grows.extends.valuations one v3 in
    let w2 = c.own_or_turn.ensures.adds.grows.extends.valuations other w3 in
    let first = c.in_ok-first.ensures.reads one other (c.choose.ensures.adds.grows.extends.valuations one v2) (c.choose.ensures.adds.grows.extends.valuations other w2) asks turns.holder in
    let turn = same_choice stays turns.holder first (c.in_ok-turn.ensures.value one v2) (c.in_ok-turn.ensures.value other w2) in
    same_choice turns.inside own turn (value one v3) (value other w3)))
    c.own_or_turn.ensures.value

pub returns-in_err-first-clause-adds : goal.returns-in_err-first-clause-adds
returns-in_err-first-clause-adds c = adds_fewer _ _ _ _ (omega arith) c.first_asking.ensures.adds

pub returns-in_err-first-clause-full : goal.returns-in_err-first-clause-full
returns-in_err-first-clause-full c e = let full = c.first_asking.ensures.full (handed_on _ _ _ _ c.in_err-first.was c.from_residual.ensures.1 e) in omega (arith, full)

pub returns-in_err-turn-clause-adds : goal.returns-in_err-turn-clause-adds
returns-in_err-turn-clause-adds c = adds_fewer _ _ _ _ (omega arith) (adds_twice _ _ _ _ _ c.first_asking.ensures.adds c.choose.ensures.adds)

pub returns-in_err-turn-clause-full : goal.returns-in_err-turn-clause-full
returns-in_err-turn-clause-full c e =
    let most0 = c.first_asking.ensures.adds.most in
    let full = c.choose.ensures.full (handed_on _ _ _ _ c.in_err-turn.was c.from_residual-in_err-turn.ensures.1 e) in
    omega (arith, most0, full)

pub returns-clause-net : goal.returns-clause-net
returns-clause-net c = c.own_or_turn.ensures.net

pub returns-clause-adds : goal.returns-clause-adds
returns-clause-adds c = adds_fewer _ _ _ _ (omega arith) (adds_twice _ _ _ _ _ (adds_twice _ _ _ _ _ c.first_asking.ensures.adds c.choose.ensures.adds) c.own_or_turn.ensures.adds)

pub returns-clause-full : goal.returns-clause-full
returns-clause-full c e =
    let most0 = c.first_asking.ensures.adds.most in
    let most1 = c.choose.ensures.adds.most in
    let full = c.own_or_turn.ensures.full e in
    omega (arith, most0, most1, full)

pub first_asking-requires-clause-asks : goal.first_asking-requires-clause-asks
first_asking-requires-clause-asks c = c.requires.asks

pub first_asking-requires-clause-holder : goal.first_asking-requires-clause-holder
first_asking-requires-clause-holder c = c.requires.turns.holder

pub first_asking-requires-clause-some : goal.first_asking-requires-clause-some
first_asking-requires-clause-some c = c.requires.some

pub first_asking-requires-clause-few : goal.first_asking-requires-clause-few
first_asking-requires-clause-few c = c.requires.few

pub choose-requires-clause-bit : goal.choose-requires-clause-bit
choose-requires-clause-bit c = net_lasts _ _ _ _ c.first_asking.ensures.adds.grows.extends c.requires.own_stays

pub choose-requires-clause-one : goal.choose-requires-clause-one
choose-requires-clause-one c = c.first_asking.ensures.adds.grows.extends.nets _ _ c.requires.turns.holder.is_net

pub choose-requires-clause-other : goal.choose-requires-clause-other
choose-requires-clause-other c = c.in_ok-first.ensures.net.is_net

pub choose-requires-clause-widths : goal.choose-requires-clause-widths
choose-requires-clause-widths c = c.requires.turns.holder.has_width ∙ sym c.in_ok-first.ensures.net.has_width

pub own_or_turn-requires-clause-turns : goal.own_or_turn-requires-clause-turns
own_or_turn-requires-clause-turns c = turn_nets_last _ _ _ _ (extends_twice _ _ _ c.first_asking.ensures.adds.grows.extends c.choose.ensures.adds.grows.extends) c.requires.turns

pub own_or_turn-requires-clause-own : goal.own_or_turn-requires-clause-own
own_or_turn-requires-clause-own c = net_lasts _ _ _ _ (extends_twice _ _ _ c.first_asking.ensures.adds.grows.extends c.choose.ensures.adds.grows.extends) c.requires.own_seat

pub own_or_turn-requires-clause-turn : goal.own_or_turn-requires-clause-turn
own_or_turn-requires-clause-turn c = record { is_net = c.in_ok-turn.ensures.net.is_net; has_width = c.in_ok-turn.ensures.net.has_width ∙ c.requires.turns.holder.has_width }
