use Rattle.std.proofs.Common.{◌≡◌, ◌+◌, ◌%◌, ◌^◌, subst}
use Rattle.netlist.specs.Runs.{Always}
use Rattle.net_parts.specs.Growth.{AddsNets, fit_nets}
use Rattle.net_parts.specs.Laws.{if_ok, adds_twice}
use Rattle.net_terms.proofs.words.FitWord.emit_word.Goals as goal

pub returns-clause-value : goal.returns-clause-value
returns-clause-value g c =
    if_ok c.fitted.result _ (λ net. Always c.fitted.new.builder (λ cycle. cycle.net net.number ≡ g.A.Word.value c.args.self.now.word cycle % 2 ^ c.args.self.now.bits))
    (λ net made cycle v. (
    let v0 = c.fitted.ensures.adds.grows.extends.valuations cycle v in
    let f0 = c.in_ok-a.ensures.value cycle v0 in
    let w0 = c.in_ok-a.ensures.net.has_width in
    let fact = made cycle v in cc))
    c.fitted.ensures.value

pub returns-clause-adds : goal.returns-clause-adds
returns-clause-adds g c = subst (λ n. AddsNets (g.A.Word.word_nets c.args.self.now.word + fit_nets n c.args.self.now.bits) c.args.builder.now c.fitted.new.builder) c.in_ok-a.ensures.net.has_width (adds_twice _ _ _ _ _ c.emit_word.ensures.adds c.fitted.ensures.adds)
