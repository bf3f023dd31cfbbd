use Rattle.std.proofs.Common.{bit_and, ◌≡◌, ℕ, ◌+◌, Bool, List, arith, sym, ◌∙◌}
use Rattle.netlist.specs.Runs.{Always}
use Rattle.net_parts.specs.Laws.{if_ok, adds_fewer, adds_twice, grows_once}
use Rattle.mm_arbiter.specs.Asks.{number, past}
use Rattle.mm_arbiter.specs.Turns.{StandsAt}
use Rattle.mm_arbiter.proofs.Words.{behind_level}
use Rattle.mm_arbiter.specs.Depends.{AnyTwo, IsSame}
use Rattle.mm_arbiter.proofs.Same.{same_by_two}
use Rattle.net_parts.specs.Nets.{IsNetOfWidth}
use Rattle.net_parts.specs.Refusing.{handed_on}
use Rattle.mm_arbiter.proofs.first.asking_behind.Goals as goal

pub returns-clause-value : goal.returns-clause-value
returns-clause-value c =
    if_ok c.and.result _ (λ behind. Always c.and.new.self (λ cycle. (bits : List Bool) (k : ℕ) → StandsAt cycle c.args.count c.args.asks c.args.holder bits k → cycle.net behind.number ≡ number (past (k + 1) bits)))
    (λ behind value cycle v2 bits k at. (
    let v1 = c.and.ensures.extends.valuations cycle v2 in
    behind_level c.args.count _ _ _ k bits at.count_is at.within at.asks_are (c.in_ok-above.ensures.value cycle v1 k at.within at.holder_is) (value cycle v2).1))
    c.and.ensures.value

pub returns-clause-reads : goal.returns-clause-reads
returns-clause-reads c =
    if_ok c.and.result _ (λ behind. AnyTwo c.and.new.self (λ one other. IsSame c.args.asks one other → IsSame c.args.holder one other → IsSame behind one other))
    (λ behind value one other v2 w2 asks holder. (
    let above = c.in_ok-above.ensures.reads one other (c.and.ensures.extends.valuations one v2) (c.and.ensures.extends.valuations other w2) holder in
    same_by_two bit_and (value one v2).1 (value other w2).1 asks above))
    c.and.ensures.value

pub returns-in_err-above-clause-adds : goal.returns-in_err-above-clause-adds
returns-in_err-above-clause-adds c = adds_fewer _ _ _ _ (omega arith) c.all_above.ensures.adds

pub returns-in_err-above-clause-full : goal.returns-in_err-above-clause-full
returns-in_err-above-clause-full c e = let full = c.all_above.ensures.full (handed_on _ _ _ _ c.in_err-above.was c.from_residual.ensures.1 e) in omega (arith, full)

pub returns-clause-adds : goal.returns-clause-adds
returns-clause-adds c = adds_fewer _ _ _ _ (omega arith) (adds_twice _ _ _ _ _ c.all_above.ensures.adds (grows_once _ _ c.and.ensures.extends c.and.ensures.grows))

pub returns-clause-full : goal.returns-clause-full
returns-clause-full c e =
    let most0 = c.all_above.ensures.adds.most in
    let full = c.and.ensures.full.0 e in
    omega (arith, most0, full)

pub returns-clause-net : goal.returns-clause-net
returns-clause-net c = if_ok c.and.result _ (λ behind. IsNetOfWidth c.and.new.self behind c.args.count) (λ behind net. record { is_net = net.0; has_width = net.1 ∙ c.requires.asks.has_width }) c.and.ensures.net

pub all_above-requires-clause-holder : goal.all_above-requires-clause-holder
all_above-requires-clause-holder c = c.requires.holder

pub all_above-requires-clause-some : goal.all_above-requires-clause-some
all_above-requires-clause-some c = c.requires.some

pub all_above-requires-clause-few : goal.all_above-requires-clause-few
all_above-requires-clause-few c = c.requires.few

pub and-requires-clause-a_is : goal.and-requires-clause-a_is
and-requires-clause-a_is c = c.all_above.ensures.adds.grows.extends.nets _ _ c.requires.asks.is_net

pub and-requires-clause-b_is : goal.and-requires-clause-b_is
and-requires-clause-b_is c = c.in_ok-above.ensures.net.is_net

pub and-requires-clause-widths : goal.and-requires-clause-widths
and-requires-clause-widths c = c.requires.asks.has_width ∙ sym c.in_ok-above.ensures.net.has_width
