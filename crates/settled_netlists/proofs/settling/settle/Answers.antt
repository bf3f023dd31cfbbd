use Rattle.std.proofs.Common.{sym, subst, ◌∙◌, List, Option, length}
use Rattle.av_base.specs.Word.{Word}
use Rattle.netlist.specs.Netlists.{Netlist}
use Rattle.settled_netlists.specs.Lines.{AreSettledLines}
use Rattle.settled_netlists.specs.Settled.{IsSettled}
use Rattle.settled_netlists.proofs.Constants.{IsMade, module_made}
use Rattle.settled_netlists.proofs.Same.{settled_is}
use Rattle.settled_netlists.proofs.settling.settle.Goals as goal

pub of_parts-requires : goal.of_parts-requires
of_parts-requires c = module_made c.args.module.now _ c.in_ok-values.values.items (record {
  is_module = c.well_made.ensures;
  bounds = c.in_ok-values.ensures.bounds;
  settled = c.in_ok-values.ensures.settled;
  name = c.in_ok-copy.ensures ∙ c.name.ensures;
  ports = c.in_ok-copied_ports.ensures ∙ c.ports.ensures;
  lines = subst (λ (vs : List (Option Word)). AreSettledLines c.args.module.now vs (length c.args.module.now.lines) c.in_ok-settled_lines.field-0.items) c.as_slice.ensures.value c.in_ok-settled_lines.ensures;
  places = c.in_ok-copied_drivers.ensures.count;
  drivers = c.in_ok-copied_drivers.ensures.each;
  memories = c.in_ok-copied_memories.ensures;
})

pub returns : goal.returns
returns c =
    let made : Netlist = record {
      name = c.in_ok-copy.field-0;
      ports = c.in_ok-copied_ports.field-0;
      lines = c.in_ok-settled_lines.field-0.items;
      drivers = c.in_ok-copied_drivers.field-0.items;
      memories = c.in_ok-copied_memories.field-0.items;
    } in
    let is_made : IsMade c.args.module.now made c.in_ok-values.values.items = record {
      is_module = c.well_made.ensures;
      bounds = c.in_ok-values.ensures.bounds;
      settled = c.in_ok-values.ensures.settled;
      name = c.in_ok-copy.ensures ∙ c.name.ensures;
      ports = c.in_ok-copied_ports.ensures ∙ c.ports.ensures;
      lines = subst (λ (vs : List (Option Word)). AreSettledLines c.args.module.now vs (length c.args.module.now.lines) c.in_ok-settled_lines.field-0.items) c.as_slice.ensures.value c.in_ok-settled_lines.ensures;
      places = c.in_ok-copied_drivers.ensures.count;
      drivers = c.in_ok-copied_drivers.ensures.each;
      memories = c.in_ok-copied_memories.ensures;
    } in
    subst (IsSettled c.args.module.now) (sym c.of_parts.ensures.same) (settled_is c.args.module.now made c.in_ok-values.values.items is_made)
