use Rattle.std.proofs.Common.{◌≡◌, ℕ, ◌+◌, suc, Bool, List, ap, ◌∙◌, arith}
use Rattle.netlist.specs.Runs.{Always}
use Rattle.net_parts.specs.Laws.{if_ok, net_lasts, adds_fewer, adds_twice}
use Rattle.mm_arbiter.specs.Asks.{first_high, past, or_else, first_after, seat_bit}
use Rattle.mm_arbiter.specs.Turns.{StandsAt}
use Rattle.mm_arbiter.proofs.Words.{past_length}
use Rattle.mm_arbiter.specs.Depends.{AnyTwo, IsSame}
use Rattle.net_parts.specs.Refusing.{handed_on}
use Rattle.mm_arbiter.proofs.first.first_asking.Goals as goal

pub returns-clause-value : goal.returns-clause-value
returns-clause-value c =
    if_ok c.first_of.result _ (λ first. Always c.first_of.new.builder (λ cycle. (bits : List Bool) (k : ℕ) → StandsAt cycle c.args.count c.args.asks c.args.holder bits k → cycle.net first.number ≡ seat_bit (first_after k bits)))
    (λ first value cycle v2 bits k at. (
    let v1 = c.first_of.ensures.adds.grows.extends.valuations cycle v2 in
    let same : k + 1 ≡ suc k = omega arith in
    value cycle v2 (past (k + 1) bits) bits (past_length (k + 1) bits ∙ at.count_is) at.count_is (c.in_ok-behind.ensures.value cycle v1 bits k at) at.asks_are
    ∙ ap (λ n. seat_bit (or_else (first_high (past n bits)) (first_high bits))) same))
    c.first_of.ensures.value

pub returns-clause-reads : goal.returns-clause-reads
returns-clause-reads c =
    if_ok c.first_of.result _ (λ first. AnyTwo c.first_of.new.builder (λ one other. IsSame c.args.asks one other → IsSame c.args.holder one other → IsSame first one other))
    (λ first reads one other v2 w2 asks holder. (
    let behind = c.in_ok-behind.ensures.reads one other (c.first_of.ensures.adds.grows.extends.valuations one v2) (c.first_of.ensures.adds.grows.extends.valuations other w2) asks holder in
    reads one other v2 w2 behind asks))
    c.first_of.ensures.reads

pub returns-in_err-behind-clause-adds : goal.returns-in_err-behind-clause-adds
returns-in_err-behind-clause-adds c = adds_fewer _ _ _ _ (omega arith) c.asking_behind.ensures.adds

pub returns-in_err-behind-clause-full : goal.returns-in_err-behind-clause-full
returns-in_err-behind-clause-full c e = let full = c.asking_behind.ensures.full (handed_on _ _ _ _ c.in_err-behind.was c.from_residual.ensures.1 e) in omega (arith, full)

pub returns-clause-net : goal.returns-clause-net
returns-clause-net c = c.first_of.ensures.net

pub returns-clause-adds : goal.returns-clause-adds
returns-clause-adds c = adds_fewer _ _ _ _ (omega arith) (adds_twice _ _ _ _ _ c.asking_behind.ensures.adds c.first_of.ensures.adds)

pub returns-clause-full : goal.returns-clause-full
returns-clause-full c e =
    let most0 = c.asking_behind.ensures.adds.most in
    let full = c.first_of.ensures.full e in
    omega (arith, most0, full)

pub asking_behind-requires-clause-asks : goal.asking_behind-requires-clause-asks
asking_behind-requires-clause-asks c = c.requires.asks

pub asking_behind-requires-clause-holder : goal.asking_behind-requires-clause-holder
asking_behind-requires-clause-holder c = c.requires.holder

pub asking_behind-requires-clause-some : goal.asking_behind-requires-clause-some
asking_behind-requires-clause-some c = c.requires.some

pub asking_behind-requires-clause-few : goal.asking_behind-requires-clause-few
asking_behind-requires-clause-few c = c.requires.few

pub first_of-requires-clause-behind : goal.first_of-requires-clause-behind
first_of-requires-clause-behind c = c.in_ok-behind.ensures.net

pub first_of-requires-clause-asks : goal.first_of-requires-clause-asks
first_of-requires-clause-asks c = net_lasts _ _ _ _ c.asking_behind.ensures.adds.grows.extends c.requires.asks

pub first_of-requires-clause-few : goal.first_of-requires-clause-few
first_of-requires-clause-few c = c.requires.few
