use Rattle.std.proofs.Common.{◌≡◌, ℕ, zero, suc, ◌+◌, ◌-◌, ◌*◌, ◌≤◌, Bool, true, false, nat_eq, arith, tests, refl}
use Rattle.netlist.specs.Runs.{Always}
use Rattle.net_parts.specs.Laws.{if_ok}
use Rattle.mm_split.specs.Pieces.{is_marked, fill}
use Rattle.mm_split.specs.Gathers.{gather_lasts}
use Rattle.mm_split.proofs.Fills.{first_filled, more_filled}
use Rattle.mm_split.proofs.gather.+fill_first.Goals as goal

one_less : (n m : ℕ) → (n - 1) * m ≤ n * m
one_less zero m = omega arith
one_less (suc n) m = let more : suc n * m ≡ n * m + m = omega arith in let less : suc n - 1 ≡ n = omega arith in rw less (omega (arith, more))

pub fill_first-requires : goal.fill_first-requires
fill_first-requires t c =
    let more = c.if-count-eq1.false in
    let one = c.requires.one in
    let few = c.requires.few in
    let marks = c.requires.marks in
    let inside = c.requires.inside in
    let less = one_less c.args.count c.args.bits in
    let two : 2 ≤ c.args.count = by_test (nat_eq c.args.count 1) refl in
    (omega (arith, c.decreases, two), (gather_lasts _ _ _ _ c.fill_lane.ensures.adds.grows.extends c.requires.gather, (c.requires.some, (omega (arith, two), (omega (arith, few), (omega (arith, marks), omega (arith, less, inside)))))))
  where
    by_test : (b : Bool) → nat_eq c.args.count 1 ≡ b → 2 ≤ c.args.count
    by_test true e = absurd (c.if-count-eq1.false (grind (arith, tests, e)))
    by_test false e = let one = c.requires.one in grind (arith, tests, e, one)

pub returns-then-count-eq1-clause-value : goal.returns-then-count-eq1-clause-value
returns-then-count-eq1-clause-value t c cycle v =
    first_filled (is_marked (cycle.net c.args.gather.now.here.number)) c.args.bits (cycle.net c.args.gather.now.word.number) (cycle.net c.args.gather.now.piece.number) c.args.count (cycle.net c.in_ok-highest.highest.number) c.if-count-eq1.true (c.in_ok-highest.ensures.value cycle v)

pub returns-clause-value : goal.returns-clause-value
returns-clause-value t c =
    if_ok c.concat.result _ (λ net. Always c.concat.new.self (λ cycle. cycle.net net.number ≡ fill (is_marked (cycle.net c.args.gather.now.here.number)) c.args.bits (cycle.net c.args.gather.now.word.number) (cycle.net c.args.gather.now.piece.number) c.args.count))
    (λ net value cycle v. (
    let v1 = c.concat.ensures.extends.valuations cycle v in
    let v0 = c.fill_first.ensures.adds.grows.extends.valuations cycle v1 in
    more_filled (is_marked (cycle.net c.args.gather.now.here.number)) c.args.bits (cycle.net c.args.gather.now.word.number) (cycle.net c.args.gather.now.piece.number) c.args.count (cycle.net c.in_ok-highest.highest.number) (cycle.net c.in_ok-below.below.number) c.in_ok-below.below.width (cycle.net net.number)
    c.requires.one (c.in_ok-highest.ensures.value cycle v0) (c.in_ok-below.ensures.value cycle v1) c.in_ok-below.ensures.net.has_width (value cycle v).1))
    c.concat.ensures.value
