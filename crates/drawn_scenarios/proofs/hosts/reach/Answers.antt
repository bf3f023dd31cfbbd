use Rattle.std.proofs.Common.{◌∙◌, ap, ℕ}
use Rattle.std.proofs.lemmas.Result.{IfOk-weaker}
use Rattle.scenario_tables.specs.declared.statements.HostStatement.{HostStatement}
use Rattle.drawn_scenarios.specs.Draws.{draw}
use Rattle.drawn_scenarios.specs.Hosts.{transfer}
use Rattle.drawn_scenarios.proofs.HostLemmas.{reaches, word_bytes_some}
use Rattle.drawn_scenarios.proofs.hosts.reach.Goals as goal

pub transfer-requires : goal.transfer-requires
transfer-requires c = (word_bytes_some c.args.link.now.host.word_bytes c.requires.host.ports.word).1

pub returns : goal.returns
returns c =
    let P : ℕ → ℕ × ℕ = λ bound. draw bound c.args.generator.now in
    let Q : ℕ → HostStatement × ℕ = λ address. transfer c.args.link.now.host c.args.choice address c.draw-words.new.self in
    IfOk-weaker c.transfer.result _ _
    (λ statement e. reaches c.args.choice c.args.link.now _ _ _ _ (c.draw-words.ensures.drawn ∙ ap P c.words_reached.ensures.value) (e ∙ ap Q c.address_of.ensures)) c.transfer.ensures
