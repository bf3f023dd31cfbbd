use Rattle.std.proofs.Common.{◌+◌, ◌*◌, arith}
use Rattle.memory_awake.proofs.FairPassing.{more_may_pass}
use Rattle.memory_awake.proofs.fair.machines_are_fair.Goals as goal

pub returns : goal.returns
returns c = λ responses system run inside states ranks end built legal hands asks. record {
  few = λ a there. more_may_pass (30 + (2 * system.stages + 2)) (4 * system.stages + 32) system run a end (omega arith) (c.waiting_commands_are_passed_by_few.ensures responses system run inside states ranks end a 30 built legal there (asks a there));
  turns = λ a there. c.commands_take_turns.ensures responses system run inside states ranks end a built legal there (hands a there);
}
