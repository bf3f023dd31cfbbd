use Rattle.std.proofs.Common.{◌+◌, arith, ap, ◌∙◌}
use Rattle.memory_runs.specs.Views.{Shape}
use Rattle.memory_awake.specs.Fair.{may_burst_to}
use Rattle.memory_awake.proofs.Building.{end_words}
use Rattle.memory_awake.proofs.FairRow.{asks_soon, taken_at_arbiter}
use Rattle.memory_awake.proofs.FairWired.{for_joined}
use Rattle.memory_awake.proofs.fair.prompt_links_ask_within.Goals as goal

pub returns : goal.returns
returns c = λ responses system run inside states ranks end agent few built legal there prompt host number from here fit waits.
    let parts = c.machines_keep_their_records.ensures.parts responses system run inside states ranks end built legal in
    let now = waits from (omega arith) (omega arith) in
    let later = waits (from + few) (omega arith) (omega arith) in
    let is_joined = for_joined system run host agent number from (λ kind address place. (built.plan.places host here).joined kind address agent place) now.presented in
    let words = end_words built.machines host agent here there in
    let whole = ap (λ (s : Shape). s.word_bytes) (built.rows.pipe agent there).same in (
      from + few,
      omega arith,
      omega arith,
      asks_soon system run host agent (inside.after_host host) (λ a. inside.upper host a (inside.links host a)) end there (parts.host host here) (parts.route host here)
          (inside.upper host agent 0) ((parts.arbiter agent there).legal host here) few (may_burst_to system host agent) (prompt host is_joined) (λ may. may)
          (words ∙ whole ∙ (built.machines.agent agent there).commands.words)
          (λ k low. taken_at_arbiter system run agent (λ h. inside.upper h agent 0) (inside.lower agent 0) (inside.lower agent system.stages) end
          (c.commands_begin_by_turns.ensures responses system run inside states ranks end agent built legal there) (parts.arbiter agent there) host here words k low)
          from (omega (arith, fit))
          (λ alone quiet. c.waiting_hosts_ask.ensures.asks responses system run inside states ranks end agent host from built legal there here (omega (arith, fit)) alone quiet)
          number now later,
    )
