use Rattle.std.proofs.Common.{arith, ap, ◌∙◌}
use Rattle.memory_runs.specs.Views.{Shape}
use Rattle.memory_awake.proofs.Building.{end_words}
use Rattle.memory_awake.proofs.FairRow.{taken_at_arbiter}
use Rattle.memory_awake.proofs.FairStraight.{ends_there}
use Rattle.memory_awake.proofs.fair.straight_links_hand_on.Goals as goal

pub returns : goal.returns
returns c = λ responses system run inside states ranks end agent ahead built legal there apart leads. record {
  apart = apart;
  links = λ host from last is_joined fit plainly at.
      let parts = c.machines_keep_their_records.ensures.parts responses system run inside states ranks end built legal in
      let here = built.plan.joined agent host is_joined in
      let words = end_words built.machines host agent here there in
      let whole = ap (λ (s : Shape). s.word_bytes) (built.rows.pipe agent there).same in
      let lead = leads host is_joined in
      let starts = plainly.starts in
      ends_there system run host agent (inside.after_host host) (λ a. inside.upper host a (inside.links host a)) end there (parts.host host here) (parts.route host here)
      (inside.upper host agent 0) ((parts.arbiter agent there).legal host here) (ahead host) lead.straight lead.step
      (words ∙ whole ∙ (built.machines.agent agent there).commands.words)
      (λ k low. taken_at_arbiter system run agent (λ h. inside.upper h agent 0) (inside.lower agent 0) (inside.lower agent system.stages) end
      (c.commands_begin_by_turns.ensures responses system run inside states ranks end agent built legal there) (parts.arbiter agent there) host here words k low)
      from last fit starts plainly.earlier plainly.writes
      (λ k least most. c.plain_writes_go_on.ensures.route system run host agent (inside.after_host host) (λ a. inside.upper host a (inside.links host a)) end there (parts.host host here) (parts.route host here) k (omega (arith, most, fit)) (plainly.writes k least most));
}
