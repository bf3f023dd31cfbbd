use Rattle.std.proofs.Common.{◌≡◌, nat_lt}
use Rattle.histories.specs.History.{is_raised}
use Rattle.netlist.specs.Runs.{Always}
use Rattle.net_parts.specs.Laws.{if_ok, adds_twice}
use Rattle.net_terms.proofs.bits.NonZeroBit.emit.Goals as goal

pub returns-clause-value : goal.returns-clause-value
returns-clause-value g c =
    if_ok c.is_any.result _ (λ net. Always c.is_any.new.builder (λ cycle. is_raised (cycle.net net.number) ≡ nat_lt 0 (g.A.Word.value c.args.self.now.0 cycle)))
    (λ net made cycle v. (
    let v0 = c.is_any.ensures.adds.grows.extends.valuations cycle v in
    let f0 = c.in_ok-a.ensures.value cycle v0 in
    let w0 = c.in_ok-a.ensures.net.has_width in
    let fact = made cycle v in cc))
    c.is_any.ensures.value

pub returns-clause-adds : goal.returns-clause-adds
returns-clause-adds g c = adds_twice _ _ _ _ _ c.emit_word.ensures.adds c.is_any.ensures.adds
