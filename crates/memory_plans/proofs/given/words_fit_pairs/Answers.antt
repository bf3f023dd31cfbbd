use Rattle.std.proofs.Common.{◌≡◌, ◌&&◌, not, true, false, Bool, refl, lt-ltb}
use Rattle.memory_plans.proofs.Hosts.{word_ends}
use Rattle.memory_plans.proofs.given.words_fit_pairs.Goals as goal

-- rule P3
has_enables : (wider enables : Bool) → wider ≡ true → (wider && not enables) ≡ false → enables ≡ true
has_enables true true e h = refl
has_enables true false e h = cc
has_enables false enables e h = cc

pub returns-clause-word : goal.returns-clause-word
returns-clause-word c = λ plan is k link at. word_ends plan is (c.memory_connections_are_numbered.ensures.links plan.system is.system) k link at

pub returns-clause-lanes : goal.returns-clause-lanes
returns-clause-lanes c = λ plan is k link at wider.
    (let numbered = c.memory_connections_are_numbered.ensures.links plan.system is.system k link at in
    has_enables _ link.agent.enables (lt-ltb link.host.word_bytes link.agent.word_bytes wider) (c.links_keep_rules.ensures.memory plan is k link at numbered.connection numbered.connection_is 3))
