use Rattle.std.proofs.Common.{◌≡◌, ◌<◌, ℕ, List, length, arith, ap, subst, ◌∙◌}
use Rattle.std.proofs.lemmas.Option.{get_or_from_slice_get}
use Rattle.link_rules.specs.Links.{streams_of}
use Rattle.interconnect.specs.Joins.{low_at, IsJoinedUpTo}
use Rattle.interconnect.proofs.streams.join_streams.Goals as goal

pub bounds-lows-number : goal.bounds-lows-number
bounds-lows-number c = omega (arith, ap (λ (xs : List ℕ). length xs) c.streams-number-end.ensures, c.loop-number-test.true, c.requires.lows.count)

pub join_stream-requires-clause-low : goal.join_stream-requires-clause-low
join_stream-requires-clause-low c place e =
    let inside : c.loop-number.number < length (streams_of c.args.plan.now.system) = omega (arith, ap (λ (xs : List ℕ). length xs) c.streams-number-end.ensures, c.loop-number-test.true) in
    c.index-lows-number.is ∙ get_or_from_slice_get c.args.lows.now c.loop-number.number (low_at c.args.plan.now.system c.loop-number.number place) c.index-lows-number.result (c.requires.lows.each c.loop-number.number place inside e)

pub returns : goal.returns
returns c =
    let last : c.loop-number.number ≡ length (streams_of c.args.plan.now.system) = omega (arith, ap (λ (xs : List ℕ). length xs) c.streams-number-end.ensures, c.loop-number-test.false, c.loop-number.auto.number-end) in
    subst (λ (n : ℕ). IsJoinedUpTo c.args.plan.now n c.loop-number.builder) last c.loop-number.invariant
