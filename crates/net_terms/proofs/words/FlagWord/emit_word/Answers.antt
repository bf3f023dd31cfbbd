use Rattle.std.proofs.Common.{◌≡◌, arith}
use Rattle.histories.specs.History.{one_if}
use Rattle.netlist.specs.Runs.{Always}
use Rattle.net_parts.specs.Laws.{if_ok, adds_twice, adds_fewer}
use Rattle.net_terms.proofs.words.FlagWord.emit_word.Goals as goal

pub returns-clause-value : goal.returns-clause-value
returns-clause-value g c =
    if_ok c.flag_of.result _ (λ net. Always c.flag_of.new.builder (λ cycle. cycle.net net.number ≡ one_if (g.A.Bit.level c.args.self.now.0 cycle)))
    (λ net made cycle v. (
    let v0 = c.flag_of.ensures.adds.grows.extends.valuations cycle v in
    let f0 = c.in_ok-a.ensures.value cycle v0 in
    let fact = made cycle v in cc))
    c.flag_of.ensures.value

pub returns-clause-adds : goal.returns-clause-adds
returns-clause-adds g c = adds_fewer _ _ _ _ (omega arith) (adds_twice _ _ _ _ _ c.emit.ensures.adds c.flag_of.ensures.adds)
