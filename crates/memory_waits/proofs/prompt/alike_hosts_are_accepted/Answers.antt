use Rattle.std.proofs.Common.{◌+◌}
use Rattle.memory_awake.specs.RowSystem.{boundaries_of}
use Rattle.memory_waits.proofs.Alike.{one_of}
use Rattle.memory_waits.proofs.prompt.alike_hosts_are_accepted.Goals as goal

pub returns : goal.returns
returns c = λ responses system run ports states end planned machines rows legal.
    let built = c.machines_with_links_are_built.ensures.built responses system run ports states (end + 2) planned machines rows legal in
    record {
      accepts = λ a h late there low joined alike some prompt.
          c.wired_hosts_move_on.ensures.accepts responses system run (boundaries_of ports) states built.0 end a h late built.1 legal there
          (λ other is. rows.wired other a (planned.joined a other is) there is (one_of _ (system.joined a) other alike is)) joined low some prompt;
    }
