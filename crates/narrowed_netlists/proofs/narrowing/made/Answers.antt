use Rattle.std.proofs.Common.{◌≡◌, List, length, None, sym, ap, subst, ◌∙◌}
use Rattle.std.specs.Prelude.{slice_index_or}
use Rattle.std.proofs.lemmas.Option.{slice_get_within}
use Rattle.netlist.specs.declared.line.PortLine.{PortLine}
use Rattle.netlist.specs.Netlists.{Netlist, IsOutputPort}
use Rattle.net_parts.specs.Laws.{extends_twice}
use Rattle.narrowed_netlists.specs.Masks.{AreMasks}
use Rattle.narrowed_netlists.specs.Narrowed.{IsNarrowed}
use Rattle.narrowed_netlists.proofs.Copying.{copies_later, next_lasts}
use Rattle.narrowed_netlists.proofs.Finishing.{all_wait, driver_there, narrow_lasts, writes_later}
use Rattle.narrowed_netlists.proofs.Fixed.{fixed_lasts}
use Rattle.narrowed_netlists.proofs.Law.{narrowed_is}
use Rattle.narrowed_netlists.proofs.Reading.{clocked_same, waits_same}
use Rattle.narrowed_netlists.proofs.narrowing.made.Goals as goal

pub copied_nets-requires-clause-clocked : goal.copied_nets-requires-clause-clocked
copied_nets-requires-clause-clocked c = clocked_same c.in_ok-builder.builder c.copied_memories.new.builder c.in_ok-mems.ensures.lines c.in_ok-builder.ensures.clocked

pub set_writes-requires-clause-copies : goal.set_writes-requires-clause-copies
set_writes-requires-clause-copies c =
    rw (c.as_slice-4.ensures.value, c.as_slice-5.ensures.value) (copies_later c.args.module.now c.copied_nets.new.builder c.set_registers.new.builder c.as_slice-registers.result.now c.as_slice-memories.result.now c.in_ok-copies.copies.nets.items c.in_ok-copies.copies.cores.items (length c.args.module.now.lines) c.in_ok-set_registers.ensures.extends c.in_ok-copies.ensures.copies)

pub set_writes-requires-clause-narrow : goal.set_writes-requires-clause-narrow
set_writes-requires-clause-narrow c = narrow_lasts c.args.module.now c.copied_memories.new.builder c.set_registers.new.builder c.as_slice-memories.result.now (length c.args.module.now.memories) (extends_twice c.copied_memories.new.builder c.copied_nets.new.builder c.set_registers.new.builder c.in_ok-copies.ensures.extends c.in_ok-set_registers.ensures.extends) c.in_ok-mems.ensures.narrow

pub set_writes-requires-clause-waits : goal.set_writes-requires-clause-waits
set_writes-requires-clause-waits c = all_wait c.copied_memories.new.builder c.set_registers.new.builder 0 (length c.args.module.now.memories) (c.in_ok-set_registers.ensures.memories ∙ c.in_ok-copies.ensures.memories) c.in_ok-mems.ensures.waits

pub drive_outputs-requires-clause-copies : goal.drive_outputs-requires-clause-copies
drive_outputs-requires-clause-copies c =
    rw (c.as_slice-7.ensures.value, c.as_slice-8.ensures.value) (copies_later c.args.module.now c.copied_nets.new.builder c.set_writes.new.builder c.as_slice-registers.result.now c.as_slice-memories.result.now c.in_ok-copies.copies.nets.items c.in_ok-copies.copies.cores.items (length c.args.module.now.lines) (extends_twice c.copied_nets.new.builder c.set_registers.new.builder c.set_writes.new.builder c.in_ok-set_registers.ensures.extends c.in_ok-set_writes.ensures.extends) c.in_ok-copies.ensures.copies)

pub drive_outputs-requires-clause-undriven : goal.drive_outputs-requires-clause-undriven
drive_outputs-requires-clause-undriven c k =
    let same : c.set_writes.new.builder.drivers ≡ c.in_ok-builder.builder.drivers = c.in_ok-set_writes.ensures.drivers ∙ c.in_ok-set_registers.ensures.drivers ∙ c.in_ok-copies.ensures.drivers ∙ c.in_ok-mems.ensures.drivers in
    ap (λ drivers. slice_index_or drivers k None) same ∙ c.in_ok-builder.ensures.undriven k

pub finish-requires-clause-driven : goal.finish-requires-clause-driven
finish-requires-clause-driven c k w port =
    let started : c.in_ok-builder.builder.ports ≡ c.args.ports = ap (λ (b : Netlist). b.ports) c.in_ok-builder.ensures.started in
    let ports : c.drive_outputs.new.builder.ports ≡ c.args.module.now.ports = (extends_twice c.in_ok-builder.builder c.set_writes.new.builder c.drive_outputs.new.builder (extends_twice c.in_ok-builder.builder c.set_registers.new.builder c.set_writes.new.builder (extends_twice c.in_ok-builder.builder c.copied_nets.new.builder c.set_registers.new.builder (extends_twice c.in_ok-builder.builder c.copied_memories.new.builder c.copied_nets.new.builder c.in_ok-mems.ensures.extends c.in_ok-copies.ensures.extends) c.in_ok-set_registers.ensures.extends) c.in_ok-set_writes.ensures.extends) c.drive_outputs.ensures.extends).keeps.ports ∙ started ∙ c.requires.ports in
    let whole = subst (λ (ps : List PortLine). IsOutputPort ps k w) ports port in
    driver_there c.as_slice-7.result.now _ _ (c.drive_outputs.ensures.driven k (slice_get_within c.args.module.now.ports k whole.port whole.is)) (c.requires.module.driven k w whole)

pub finish-requires-clause-clocked : goal.finish-requires-clause-clocked
finish-requires-clause-clocked c = c.drive_outputs.ensures.clocked c.in_ok-set_writes.ensures.clocked

pub finish-requires-clause-written : goal.finish-requires-clause-written
finish-requires-clause-written c m w = c.in_ok-set_writes.ensures.written m (waits_same c.drive_outputs.new.builder c.set_writes.new.builder m (sym c.drive_outputs.ensures.memories) w)

pub returns : goal.returns
returns c =
    let name : c.in_ok-builder.builder.name ≡ c.args.name = ap (λ (b : Netlist). b.name) c.in_ok-builder.ensures.started in
    let ports : c.in_ok-builder.builder.ports ≡ c.args.ports = ap (λ (b : Netlist). b.ports) c.in_ok-builder.ensures.started in
    let begun = (extends_twice c.in_ok-builder.builder c.set_writes.new.builder c.drive_outputs.new.builder (extends_twice c.in_ok-builder.builder c.set_registers.new.builder c.set_writes.new.builder (extends_twice c.in_ok-builder.builder c.copied_nets.new.builder c.set_registers.new.builder (extends_twice c.in_ok-builder.builder c.copied_memories.new.builder c.copied_nets.new.builder c.in_ok-mems.ensures.extends c.in_ok-copies.ensures.extends) c.in_ok-set_registers.ensures.extends) c.in_ok-set_writes.ensures.extends) c.drive_outputs.ensures.extends).keeps in
    let made = (extends_twice c.copied_nets.new.builder c.set_writes.new.builder c.drive_outputs.new.builder (extends_twice c.copied_nets.new.builder c.set_registers.new.builder c.set_writes.new.builder c.in_ok-set_registers.ensures.extends c.in_ok-set_writes.ensures.extends) c.drive_outputs.ensures.extends) in
    let masks : AreMasks c.args.module.now c.as_slice-nets.result.now c.as_slice-registers.result.now c.as_slice-memories.result.now = rw (c.as_slice-nets.ensures.value, c.as_slice-registers.ensures.value, c.as_slice-memories.ensures.value) c.requires.masks in
    subst (IsNarrowed c.args.module.now) (sym c.finish.ensures.same) (narrowed_is c.args.module.now c.drive_outputs.new.builder c.as_slice-nets.result.now c.as_slice-registers.result.now c.as_slice-memories.result.now c.in_ok-copies.copies.nets.items c.in_ok-copies.copies.cores.items (record {
      is_module = c.requires.module;
      masks_are = masks;
      made = record {
        name = begun.name ∙ name ∙ c.requires.name;
        ports = begun.ports ∙ ports ∙ c.requires.ports;
        copies = copies_later c.args.module.now c.copied_nets.new.builder c.drive_outputs.new.builder c.as_slice-registers.result.now c.as_slice-memories.result.now c.in_ok-copies.copies.nets.items c.in_ok-copies.copies.cores.items (length c.args.module.now.lines) made c.in_ok-copies.ensures.copies;
        next = next_lasts c.args.module.now c.set_registers.new.builder c.drive_outputs.new.builder c.as_slice-registers.result.now c.in_ok-copies.copies.nets.items c.in_ok-copies.copies.cores.items (length c.args.module.now.lines) (extends_twice c.set_registers.new.builder c.set_writes.new.builder c.drive_outputs.new.builder c.in_ok-set_writes.ensures.extends c.drive_outputs.ensures.extends) (rw (c.as_slice-2.ensures.value, c.as_slice-3.ensures.value) at c.in_ok-set_registers.ensures.next);
        narrow = narrow_lasts c.args.module.now c.copied_memories.new.builder c.drive_outputs.new.builder c.as_slice-memories.result.now (length c.args.module.now.memories) (extends_twice c.copied_memories.new.builder c.set_writes.new.builder c.drive_outputs.new.builder (extends_twice c.copied_memories.new.builder c.set_registers.new.builder c.set_writes.new.builder (extends_twice c.copied_memories.new.builder c.copied_nets.new.builder c.set_registers.new.builder c.in_ok-copies.ensures.extends c.in_ok-set_registers.ensures.extends) c.in_ok-set_writes.ensures.extends) c.drive_outputs.ensures.extends) c.in_ok-mems.ensures.narrow;
        writes = writes_later c.args.module.now c.set_writes.new.builder c.drive_outputs.new.builder c.as_slice-memories.result.now c.in_ok-copies.copies.nets.items (length c.args.module.now.memories) c.drive_outputs.ensures.extends (rw c.as_slice-4.ensures.value at c.in_ok-set_writes.ensures.writes);
        driven = rw c.as_slice-7.ensures.value at c.drive_outputs.ensures.driven;
        fixed = fixed_lasts c.args.module.now c.copied_nets.new.builder c.drive_outputs.new.builder c.in_ok-copies.copies.nets.items (length c.args.module.now.lines) c.requires.module made c.in_ok-copies.ensures.fixed;
      };
    }))
