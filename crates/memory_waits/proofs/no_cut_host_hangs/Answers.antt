use Rattle.std.proofs.Common.{◌+◌, refl}
use Rattle.memory_awake.specs.RowSystem.{boundaries_of}
use Rattle.memory_waits.proofs.Joined.{joined_cuts}
use Rattle.memory_waits.proofs.no_cut_host_hangs.Goals as goal

pub returns : goal.returns
returns c = λ responses system run ports states end planned machines rows legal wires.
    let built = c.machines_with_links_are_built.ensures.built responses system run ports states (end + 2) planned machines rows legal in
    record {
      moves = λ agent host there low joined.
          c.cut_hosts_move.ensures responses system run (boundaries_of ports) states built.0 end agent host (λ other. ports.below_cutter other agent) built.1 legal there
          (λ other is. joined_cuts system run ports (end + 2) other agent rows (planned.joined agent other is) there is (rows.idle other agent) refl)
          (λ other is. wires agent other there is) joined low;
    }
