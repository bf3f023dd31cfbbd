use Rattle.std.proofs.Common.{◌∷◌, ◌++◌, [], List, ap, sym, ◌∙◌}
use Rattle.netlist.specs.declared.line.Memory.{Memory}
use Rattle.settled_netlists.proofs.Lists.{take-more}
use Rattle.settled_netlists.proofs.copies.copied_memories.Goals as goal

pub loop-number-preserved : goal.loop-number-preserved
loop-number-preserved c =
    c.in_ok-push.ensures.items ∙ ap (λ (ms : List Memory). ms ++ c.copied_memory.result ∷ []) c.loop-number.invariant
    ∙ sym (take-more c.args.module.now.memories c.loop-number.number c.copied_memory.result c.copied_memory.ensures)
