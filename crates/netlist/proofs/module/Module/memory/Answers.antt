use Rattle.std.proofs.Common.{◌≡◌, ◌<◌, ◌∙◌, length, slice_get, Some, refl, ap, sym, subst}
use Rattle.netlist.specs.Netlists.{Netlist}
use Rattle.netlist.proofs.Growth.{line_read}
use Rattle.netlist.proofs.Memories.{written_some, memory_told}
use Rattle.netlist.proofs.module.Module.memory.Goals as goal

pub unwrap-write-requires : goal.unwrap-write-requires
unwrap-write-requires c =
    let inside : c.args.k < length c.self.inside.memories.items = subst (λ (b : Netlist). c.args.k < length b.memories) (sym c.self.view_is) c.requires in
    let at = line_read c.self.inside.memories.items c.args.k c.args.k c.index-memory.result.now refl inside c.index-memory.ensures in
    written_some _ c.args.k c.index-memory.result.now c.self.invariant.written at

pub returns : goal.returns
returns c =
    let inside : c.args.k < length c.self.inside.memories.items = subst (λ (b : Netlist). c.args.k < length b.memories) (sym c.self.view_is) c.requires in
    let at = line_read c.self.inside.memories.items c.args.k c.args.k c.index-memory.result.now refl inside c.index-memory.ensures in
    subst (λ (b : Netlist). slice_get b.memories c.args.k ≡ Some c.index-memory.result.now) c.self.view_is at
    ∙ ap Some (memory_told c.index-memory.result.now c.unwrap-write.result c.unwrap-write.ensures)
