use Rattle.std.proofs.Common.{◌≡◌, ℕ, Bool, true, false, ◌==◌, ◌&&◌, nat_lt, if◌then◌else◌, ap, ◌∙◌}
use Rattle.netlist.specs.Runs.{Always}
use Rattle.net_parts.specs.Laws.{bit_fits, if_ok}
use Rattle.net_parts.specs.Bits.{high_and}
use Rattle.st_mux.proofs.turns.behind_holder.Goals as goal

high_test : (b : Bool) (x : ℕ) → x ≡ (if b then 1 else 0) → (x == 1) ≡ b
high_test true x e = ap (λ n. n == 1) e
high_test false x e = ap (λ n. n == 1) e

pub returns-clause-value : goal.returns-clause-value
returns-clause-value c =
    if_ok c.and.result _ (λ net. Always c.and.new.self (λ cycle. (cycle.net net.number == 1) ≡ ((cycle.net c.args.asks.number == 1) && nat_lt (cycle.net c.args.holder.number) c.args.number)))
    (λ net value cycle v3. (
    let v2 = c.and.ensures.extends.valuations cycle v3 in
    let v1 = c.less.ensures.extends.valuations cycle v2 in
    let v0 = c.constant.ensures.adds.grows.extends.valuations cycle v1 in
    high_and (cycle.net c.args.asks.number) (cycle.net c.in_ok-behind.behind.number) (cycle.net net.number) (bit_fits _ _ c.requires.asks cycle v0) (c.in_ok-behind.ensures.value cycle v2).0 (value cycle v3).1
    ∙ ap (λ t. (cycle.net c.args.asks.number == 1) && t)
    (high_test (nat_lt (cycle.net c.args.holder.number) (cycle.net c.in_ok-wanted.wanted.number)) (cycle.net c.in_ok-behind.behind.number) (c.in_ok-behind.ensures.value cycle v2).1
    ∙ ap (λ n. nat_lt (cycle.net c.args.holder.number) n) (c.in_ok-wanted.ensures.value cycle v1))))
    c.and.ensures.value
