use Rattle.std.proofs.Common.{◌≡◌, false, rules}
use Rattle.std.specs.Prelude.{◌==◌}
use Rattle.std.proofs.lemmas.Result.{IfOk-weaker}
use Rattle.std.proofs.lemmas.Bool.Decides.{nat_tests}
use Rattle.std.proofs.lemmas.Option.{slice_get-get_or}
use Rattle.drawn_scenarios.proofs.HostLemmas.{idles, accesses}
use Rattle.drawn_scenarios.proofs.hosts.host_statement.Goals as goal

pub returns-then-choice-eq3 : goal.returns-then-choice-eq3
returns-then-choice-eq3 c = idles c.args.links.now _ _ _ _ _ c.draw-choice.ensures.drawn c.if-choice-eq3.true c.draw.ensures.drawn

pub returns : goal.returns
returns c =
    let other : (c.draw-choice.result == 3) ≡ false = search (rules, nat_tests) in
    IfOk-weaker c.reach.result _ _ (λ statement e. accesses c.args.links.now _ _ _ _ _ _ _ c.draw-choice.ensures.drawn other c.draw-number.ensures.drawn (slice_get-get_or c.args.links.now c.draw-number.result _ c.draw-number.ensures.small) e) c.reach.ensures

pub reach-requires : goal.reach-requires
reach-requires c = c.requires.reached c.draw-number.result _ (slice_get-get_or c.args.links.now c.draw-number.result _ c.draw-number.ensures.small)
