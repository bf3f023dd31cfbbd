use Rattle.std.proofs.Common.{sym, subst, ◌∙◌}
use Rattle.netlist.specs.Netlists.{Netlist}
use Rattle.pruned_netlists.specs.Numbers.{AreMarks, AreMemoryMarks}
use Rattle.pruned_netlists.specs.Pruned.{IsPruned}
use Rattle.pruned_netlists.proofs.Renumbered.{IsRenumbered, pruned_module}
use Rattle.pruned_netlists.proofs.Wholes.{pruned_is}
use Rattle.pruned_netlists.proofs.pruning.prune.Goals as goal

pub of_parts-requires : goal.of_parts-requires
of_parts-requires c = pruned_module c.args.module.now _ c.in_ok-nets.nets c.in_ok-memories.memories (record {
  is_module = c.well_made.ensures;
  marked = subst (AreMarks c.args.module.now) (sym c.in_ok-nets.ensures) c.in_ok-needed.ensures;
  read = subst (AreMemoryMarks c.args.module.now) (sym c.in_ok-memories.ensures) c.in_ok-read.ensures;
  name = c.in_ok-copy.ensures ∙ c.name.ensures;
  ports = c.in_ok-copied_ports.ensures ∙ c.ports.ensures;
  lines = c.in_ok-moved_lines.ensures;
  memories = c.in_ok-moved_memories.ensures;
  places = c.in_ok-moved_drivers.ensures.count;
  drivers = c.in_ok-moved_drivers.ensures.each;
})

pub returns : goal.returns
returns c =
    let made : Netlist = record {
      name = c.in_ok-copy.field-0;
      ports = c.in_ok-copied_ports.field-0;
      lines = c.in_ok-moved_lines.field-0.items;
      drivers = c.in_ok-moved_drivers.field-0.items;
      memories = c.in_ok-moved_memories.field-0.items;
    } in
    let renumbered : IsRenumbered c.args.module.now made c.in_ok-nets.nets c.in_ok-memories.memories = record {
      is_module = c.well_made.ensures;
      marked = subst (AreMarks c.args.module.now) (sym c.in_ok-nets.ensures) c.in_ok-needed.ensures;
      read = subst (AreMemoryMarks c.args.module.now) (sym c.in_ok-memories.ensures) c.in_ok-read.ensures;
      name = c.in_ok-copy.ensures ∙ c.name.ensures;
      ports = c.in_ok-copied_ports.ensures ∙ c.ports.ensures;
      lines = c.in_ok-moved_lines.ensures;
      memories = c.in_ok-moved_memories.ensures;
      places = c.in_ok-moved_drivers.ensures.count;
      drivers = c.in_ok-moved_drivers.ensures.each;
    } in
    subst (IsPruned c.args.module.now) (sym c.of_parts.ensures.same)
    (pruned_is c.args.module.now made c.in_ok-nets.nets c.in_ok-memories.memories (record { agree = c.agree.ensures; has_run = c.has_run.ensures; has_valuation = c.has_valuation.ensures }) renumbered)
