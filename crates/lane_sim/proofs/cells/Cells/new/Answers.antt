use Rattle.std.proofs.Common.{◌≡◌, ◌+◌, ◌^◌, ◌++◌, [], ◌∷◌, ℕ, List, length, refl, sym, subst, ap, ◌∙◌, arith}
use Rattle.netlist.specs.Netlists.{memory_of}
use Rattle.lane_sim.proofs.Words.{AreCleared, cleared_more, cleared_words}
use Rattle.lane_sim.proofs.Access.{size_small, shifted}
use Rattle.lane_sim.proofs.Places.{place_small}
use Rattle.lane_sim.proofs.cells.Cells.new.Goals as goal

pub overflow_shl-memory : goal.overflow_shl-memory
overflow_shl-memory c =
    let few = (c.well_made.ensures.well_made.memories c.loop-number.number (memory_of c.memory-memory.result) c.memory-memory.ensures).few_addresses in
    omega (arith, few)

pub overflow_add-place : goal.overflow_add-place
overflow_add-place c =
    let few = (c.well_made.ensures.well_made.memories c.loop-number.number (memory_of c.memory-memory.result) c.memory-memory.ensures).few_addresses in
    let size = size_small c.memory-memory.result.address_bits few in
    let is = shifted c.memory-memory.result.address_bits few in
    let place = place_small c.args.module.now c.well_made.ensures c.loop-number.number in
    let count = c.loop-number.invariant.count in
    omega (arith, c.loop-number.words.ok.0, c.len-place.ensures, size, is, place, count)

pub zero-requires-clause-some_bit : goal.zero-requires-clause-some_bit
zero-requires-clause-some_bit c = (c.well_made.ensures.well_made.memories c.loop-number.number (memory_of c.memory-memory.result) c.memory-memory.ensures).some_bit

pub zero-requires-clause-small : goal.zero-requires-clause-small
zero-requires-clause-small c = (c.well_made.ensures.well_made.memories c.loop-number.number (memory_of c.memory-memory.result) c.memory-memory.ensures).small

pub loop-number-preserved : goal.loop-number-preserved
loop-number-preserved c =
    let sound = c.well_made.ensures.well_made.memories c.loop-number.number (memory_of c.memory-memory.result) c.memory-memory.ensures in
    let is = shifted c.memory-memory.result.address_bits sound.few_addresses in
    let place : c.len-place.result ≡ length c.loop-number.words.items = c.len-place.ensures ∙ c.loop-number.words.ok.0 in
    let pushed : c.push.new.self.items ≡ c.loop-number.places.items ++ length c.loop-number.words.items ∷ [] = c.in_ok-push.ensures.items ∙ ap (λ p. c.loop-number.places.items ++ p ∷ []) place in
    let count : length c.resize.new.self.items ≡ length c.loop-number.words.items + 2 ^ c.memory-memory.result.address_bits = omega (arith, c.resize.new.self.ok.0, c.in_ok-resize.ensures.len, place, is) in
    subst (λ (ps : List ℕ). AreCleared c.args.module.now.memories ps c.resize.new.self.items (c.loop-number.number + 1)) (sym pushed)
    (cleared_more c.args.module.now.memories c.loop-number.places.items c.loop-number.words.items c.resize.new.self.items c.loop-number.number (memory_of c.memory-memory.result) c.loop-number.invariant c.memory-memory.ensures sound.some_bit sound.small count
    (λ n d lt. c.in_ok-resize.ensures.by_index.0 n d (omega (arith, place, is)) (omega (arith, c.loop-number.words.ok.0)))
    (λ n d le lt. c.in_ok-resize.ensures.by_index.1 n d refl (omega (arith, c.loop-number.words.ok.0)) (omega (arith, place, is)) ∙ c.zero.ensures))

pub returns-clause-words : goal.returns-clause-words
returns-clause-words c =
    let all : c.loop-number.number ≡ length c.args.module.now.memories = omega arith in
    cleared_words c.args.module.now.memories c.loop-number.places.items c.loop-number.words.items (subst (AreCleared c.args.module.now.memories c.loop-number.places.items c.loop-number.words.items) all c.loop-number.invariant)
