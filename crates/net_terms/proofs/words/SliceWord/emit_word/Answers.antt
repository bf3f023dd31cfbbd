use Rattle.std.proofs.Common.{◌≡◌, ◌+◌, ◌-◌, ◌/◌, ◌%◌, ◌^◌}
use Rattle.netlist.specs.Runs.{Always}
use Rattle.net_parts.specs.Laws.{if_ok, adds_twice}
use Rattle.net_terms.proofs.words.SliceWord.emit_word.Goals as goal

pub returns-clause-value : goal.returns-clause-value
returns-clause-value g c =
    if_ok c.cut.result _ (λ net. Always c.cut.new.builder (λ cycle. cycle.net net.number ≡ g.A.Word.value c.args.self.now.word cycle / 2 ^ c.args.self.now.low % 2 ^ (c.args.self.now.high - c.args.self.now.low + 1)))
    (λ net made cycle v. (
    let v0 = c.cut.ensures.adds.grows.extends.valuations cycle v in
    let f0 = c.in_ok-a.ensures.value cycle v0 in
    let w0 = c.in_ok-a.ensures.net.has_width in
    let fact = made cycle v in cc))
    c.cut.ensures.value

pub returns-clause-adds : goal.returns-clause-adds
returns-clause-adds g c = adds_twice _ _ _ _ _ c.emit_word.ensures.adds c.cut.ensures.adds
