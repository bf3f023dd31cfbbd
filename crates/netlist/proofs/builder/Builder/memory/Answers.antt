use Rattle.std.proofs.Common.{◌≡◌, ℕ, ◌<◌, ◌^◌, ◌∙◌, length, arith, ap, sym, subst, refl, ◌⊎◌}
use Rattle.netlist.specs.Netlists.{Netlist, IsWellMade, IsMem, WaitsForWrite, memory_with, with_memory}
use Rattle.netlist.specs.Nets.{MemValue, mem_of}
use Rattle.netlist.specs.Runs.{Always}
use Rattle.netlist.specs.Longer.{Extends}
use Rattle.netlist.proofs.Memories.{IsWellMade-with_memory, Extends-with_memory, waiting_sound, mem_last, words_last, waits_appended, waits_newly, waits_last, pushed_memory, unpushed_memory}
use Rattle.netlist.proofs.Growth.{Extends-same}
use Rattle.netlist.proofs.builder.Builder.memory.Goals as goal

pub invariant_of-self-2 : goal.invariant_of-self-2
invariant_of-self-2 c =
    let well : IsWellMade c.args.self.now = subst IsWellMade c.self.view_is c.self.invariant in
    let count : length c.self.inside.memories.items ≡ length c.args.self.now.memories = ap (λ (b : Netlist). length b.memories) c.self.view_is in
    let few : length c.args.self.now.memories < 2 ^ 16 = omega arith in
    let new = pushed_memory _ c.args.self.now c.push.new.self.items (memory_with c.args.width c.args.address_bits) c.self.view_is c.in_ok-push.ensures.items in
    let sound = waiting_sound c.args.self.now c.args.width c.args.address_bits c.requires.some_bit c.requires.small c.requires.some_address c.requires.few_addresses in
    subst IsWellMade (sym new) (IsWellMade-with_memory c.args.self.now (memory_with c.args.width c.args.address_bits) well few sound)

pub returns-clause-mem : goal.returns-clause-mem
returns-clause-mem c =
    let count : length c.args.self.now.memories ≡ length c.self.inside.memories.items = ap (λ (b : Netlist). length b.memories) (sym c.self.view_is) in
    let number : length c.args.self.now.memories ≡ c.len-number.result = omega arith in
    let is : mem_of (length c.args.self.now.memories) c.args.width c.args.address_bits ≡ c.new.result = ap (λ m. mem_of m c.args.width c.args.address_bits) number ∙ sym c.new.ensures in
    let new = pushed_memory _ c.args.self.now c.push.new.self.items (memory_with c.args.width c.args.address_bits) c.self.view_is c.in_ok-push.ensures.items in
    subst (λ (b : Netlist). IsMem b c.new.result) (sym new)
    (subst (λ (m : MemValue). IsMem (with_memory c.args.self.now (memory_with c.args.width c.args.address_bits)) m) is (mem_last c.args.self.now c.args.width c.args.address_bits))

pub returns-clause-fits : goal.returns-clause-fits
returns-clause-fits c =
    let count : length c.args.self.now.memories ≡ length c.self.inside.memories.items = ap (λ (b : Netlist). length b.memories) (sym c.self.view_is) in
    let number : length c.args.self.now.memories ≡ c.len-number.result = omega arith in
    let is : length c.args.self.now.memories ≡ c.new.result.number = number ∙ sym (ap (λ (m : MemValue). m.number) c.new.ensures) in
    let new = pushed_memory _ c.args.self.now c.push.new.self.items (memory_with c.args.width c.args.address_bits) c.self.view_is c.in_ok-push.ensures.items in
    subst (λ (b : Netlist). Always b (λ cycle. (address : ℕ) → address < 2 ^ c.args.address_bits → cycle.cell c.new.result.number address < 2 ^ c.args.width)) (sym new)
    (subst (λ m. Always (with_memory c.args.self.now (memory_with c.args.width c.args.address_bits)) (λ cycle. (address : ℕ) → address < 2 ^ c.args.address_bits → cycle.cell m address < 2 ^ c.args.width)) is
    (words_last c.args.self.now c.args.width c.args.address_bits))

pub returns-clause-waits : goal.returns-clause-waits
returns-clause-waits c =
    let count : length c.args.self.now.memories ≡ length c.self.inside.memories.items = ap (λ (b : Netlist). length b.memories) (sym c.self.view_is) in
    let number : length c.args.self.now.memories ≡ c.len-number.result = omega arith in
    let is : length c.args.self.now.memories ≡ c.new.result.number = number ∙ sym (ap (λ (m : MemValue). m.number) c.new.ensures) in
    let new = pushed_memory _ c.args.self.now c.push.new.self.items (memory_with c.args.width c.args.address_bits) c.self.view_is c.in_ok-push.ensures.items in
    subst (λ (b : Netlist). WaitsForWrite b c.new.result.number) (sym new)
    (subst (WaitsForWrite (with_memory c.args.self.now (memory_with c.args.width c.args.address_bits))) is (waits_last c.args.self.now (memory_with c.args.width c.args.address_bits) refl))

pub returns-clause-extends : goal.returns-clause-extends
returns-clause-extends c =
    let new = pushed_memory _ c.args.self.now c.push.new.self.items (memory_with c.args.width c.args.address_bits) c.self.view_is c.in_ok-push.ensures.items in
    subst (λ (b : Netlist). Extends c.args.self.now b) (sym new) (Extends-with_memory c.args.self.now (memory_with c.args.width c.args.address_bits))

pub returns-clause-still_wait : goal.returns-clause-still_wait
returns-clause-still_wait c m h =
    let new = pushed_memory _ c.args.self.now c.push.new.self.items (memory_with c.args.width c.args.address_bits) c.self.view_is c.in_ok-push.ensures.items in
    subst (λ (b : Netlist). WaitsForWrite b m) (sym new) (waits_appended c.args.self.now (memory_with c.args.width c.args.address_bits) m h)

pub returns-clause-newly : goal.returns-clause-newly
returns-clause-newly c =
    let new = pushed_memory _ c.args.self.now c.push.new.self.items (memory_with c.args.width c.args.address_bits) c.self.view_is c.in_ok-push.ensures.items in
    subst (λ (b : Netlist). (m : ℕ) → WaitsForWrite b m → WaitsForWrite c.args.self.now m ⊎ (m ≡ length c.args.self.now.memories)) (sym new)
    (waits_newly c.args.self.now (memory_with c.args.width c.args.address_bits))

pub returns-in_err-push-clause-extends : goal.returns-in_err-push-clause-extends
returns-in_err-push-clause-extends c = Extends-same c.args.self.now _ (unpushed_memory _ c.args.self.now c.push.new.self.items c.self.view_is c.in_err-push.ensures.items)
