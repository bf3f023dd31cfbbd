use Rattle.std.proofs.Common.{◌≡◌, ℕ, ◌+◌, ◌^◌, ◌<◌, subst, sym}
use Rattle.std.specs.Prelude.{◌==◌, ◌&&◌, if◌then◌else◌}
use Rattle.netlist.specs.Netlists.{Netlist, IsWellMade, WaitsForWrite, write_of}
use Rattle.netlist.specs.Runs.{Run, IsRun}
use Rattle.netlist.specs.Longer.{Extends}
use Rattle.netlist.proofs.Lists.{slice_get-within}
use Rattle.netlist.proofs.Memories.{IsWellMade-with_write, Extends-with_write, with_write-steps, waits_set, waits_unset, may_write, mem_bits, set_memory_view, nets_are}
use Rattle.netlist.proofs.builder.Builder.set_write.Goals as goal

pub invariant_of-self : goal.invariant_of-self
invariant_of-self c =
    let well : IsWellMade c.args.self.now = subst IsWellMade c.self.view_is c.self.invariant in
    let within = slice_get-within c.args.self.now.memories c.args.mem.number c.requires.waits.memory c.requires.waits.is in
    let write = nets_are _ _ _ _ _ _ c.number.ensures c.number-2.ensures c.number-3.ensures in
    let new = set_memory_view _ c.args.self.now c.number-number.result c.args.mem.number c.index.result.now c.requires.waits.memory c.written.result _ _ c.self.view_is c.number-number.ensures within c.index.ensures c.requires.waits.is c.written.ensures write in
    let may = may_write c.args.self.now c.args.mem c.args.enable.number c.args.address.number c.args.word.number c.args.enable.width c.args.address.width c.args.word.width c.requires.mem_is c.requires.waits c.requires.enable_is c.requires.one_bit c.requires.address_is c.requires.address_width c.requires.word_is c.requires.word_width in
    subst IsWellMade (sym new) (IsWellMade-with_write c.args.self.now c.args.mem.number c.requires.waits.memory (write_of c.args.enable.number c.args.address.number c.args.word.number) well may)

pub returns-clause-memory : goal.returns-clause-memory
returns-clause-memory c memory at =
    let within = slice_get-within c.args.self.now.memories c.args.mem.number memory at in
    let write = nets_are _ _ _ _ _ _ c.number.ensures c.number-2.ensures c.number-3.ensures in
    set_memory_view _ c.args.self.now c.number-number.result c.args.mem.number c.index.result.now memory c.written.result _ _ c.self.view_is c.number-number.ensures within c.index.ensures at c.written.ensures write

pub returns-clause-value : goal.returns-clause-value
returns-clause-value c =
    let new = returns-clause-memory c c.requires.waits.memory c.requires.waits.is in
    let may = may_write c.args.self.now c.args.mem c.args.enable.number c.args.address.number c.args.word.number c.args.enable.width c.args.address.width c.args.word.width c.requires.mem_is c.requires.waits c.requires.enable_is c.requires.one_bit c.requires.address_is c.requires.address_width c.requires.word_is c.requires.word_width in
    let bits = mem_bits c.args.self.now c.args.mem c.requires.waits.memory c.requires.mem_is c.requires.waits.is in
    subst (λ (b : Netlist). (run : Run) (cycles : ℕ) → IsRun b run cycles → (k : ℕ) → k + 1 < cycles → (place : ℕ) → place < 2 ^ c.args.mem.address_bits →
    run.cell (k + 1) c.args.mem.number place ≡ (if (run.net k c.args.enable.number == 1) && (run.net k c.args.address.number == place) then run.net k c.args.word.number else run.cell k c.args.mem.number place)) (sym new)
    (with_write-steps c.args.self.now c.args.mem.number c.args.mem.address_bits c.requires.waits.memory (write_of c.args.enable.number c.args.address.number c.args.word.number) may bits)

pub returns-clause-extends : goal.returns-clause-extends
returns-clause-extends c =
    let new = returns-clause-memory c c.requires.waits.memory c.requires.waits.is in
    let may = may_write c.args.self.now c.args.mem c.args.enable.number c.args.address.number c.args.word.number c.args.enable.width c.args.address.width c.args.word.width c.requires.mem_is c.requires.waits c.requires.enable_is c.requires.one_bit c.requires.address_is c.requires.address_width c.requires.word_is c.requires.word_width in
    subst (λ (b : Netlist). Extends c.args.self.now b) (sym new) (Extends-with_write c.args.self.now c.args.mem.number c.requires.waits.memory (write_of c.args.enable.number c.args.address.number c.args.word.number) may)

pub returns-clause-still_wait : goal.returns-clause-still_wait
returns-clause-still_wait c m d h =
    let new = returns-clause-memory c c.requires.waits.memory c.requires.waits.is in
    subst (λ (b : Netlist). WaitsForWrite b m) (sym new) (waits_set c.args.self.now c.args.mem.number m c.requires.waits.memory (write_of c.args.enable.number c.args.address.number c.args.word.number) d h)

pub returns-clause-no_more_wait : goal.returns-clause-no_more_wait
returns-clause-no_more_wait c =
    let new = returns-clause-memory c c.requires.waits.memory c.requires.waits.is in
    subst (λ (b : Netlist). (m : ℕ) → WaitsForWrite b m → WaitsForWrite c.args.self.now m × (m ≡ c.args.mem.number → ⊥)) (sym new)
    (λ m h. waits_unset c.args.self.now c.args.mem.number m c.requires.waits.memory (write_of c.args.enable.number c.args.address.number c.args.word.number) h)
