use Rattle.std.proofs.Common.{ℕ, ◌+◌, arith}
use Rattle.memory_runs.specs.Views.{System, Run, Responses}
use Rattle.memory_runs.specs.Whole.{IsLegalRun, IsSafe}
use Rattle.memory_runs.specs.Awake.{window_of}
use Rattle.memory_awake.specs.Theorem.{Boundaries, States, LinkRanks, IsBuilt, approach_of, inside_of}
use Rattle.memory_awake.proofs.Building.{lines, holds}
use Rattle.memory_awake.proofs.machines_are_awake.Goals.{After-machines_keep_their_records}
use Rattle.memory_awake.proofs.machines_are_awake.Goals as goal

is_safe : After-machines_keep_their_records → (responses : Responses) (system : System) (run : Run) (inside : Boundaries) (states : States) (ranks : LinkRanks) (end : ℕ)
    → IsBuilt responses system run inside states ranks end → IsLegalRun system run end → IsSafe responses system run end
is_safe c responses system run inside states ranks end built legal =
    let keep = c.machines_keep_their_lines.ensures responses system run inside states end built.plan built.machines in
    c.the_lines_give_the_headline.ensures responses system run (inside_of system inside) (holds responses system run inside states end built.plan built.rows) end (lines responses system run inside states end built.plan built.rows keep) legal

pub returns-clause-safe : goal.returns-clause-safe
returns-clause-safe c = is_safe (goal.at.returns-clause-safe c).After-machines_keep_their_records

pub returns-clause-awake : goal.returns-clause-awake
returns-clause-awake c = λ responses system run inside states ranks end built legal.
    let awake = c.machines_keep_their_records.ensures.awake responses system run inside states ranks (end + 2) built legal in
    let safe = is_safe (goal.at.returns-clause-awake c).After-machines_keep_their_records responses system run inside states ranks (end + 2) built legal in
    let served = c.systems_are_awake.ensures system run (approach_of system run inside states ranks) end awake in
    record {
      agents = served.agents;
      default = served.default;
      ahead = c.systems_read_ahead.ensures system run (approach_of system run inside states ranks) end awake (c.machines_keep_their_records.ensures.ahead responses system run inside states ranks (end + 2) built legal);
      hosts_at_default = λ host low from number fits wanted.
          c.wanted_default_moves_on.ensures system run host (window_of system 0) (end + 2) (omega arith) (legal.hosts host low) (safe.at_hosts host low) (awake.default host low) from number (omega (arith, fits)) wanted;
    }
