use Rattle.std.proofs.Common.{◌≡◌, ℕ, ◌+◌, ◌<◌, ◌^◌, length, slice_get, Some, refl, sym, subst, ◌∙◌, arith}
use Rattle.std.proofs.lemmas.Option.{slice_get_read, same_Some}
use Rattle.netlist.specs.declared.line.Memory.{Memory}
use Rattle.cycle_sim.specs.Sims.{place_of, size_of}
use Rattle.lane_sim.specs.LaneSims.{AreCells, CellsValue}
use Rattle.lane_sim.proofs.Access.{address_small, place_is, in_places, in_words, sum_small}
use Rattle.lane_sim.proofs.cells.Cells.word.Goals as goal

pub overflow_cast-address : goal.overflow_cast-address
overflow_cast-address c =
    let m = c.requires.memory_is in
    let fits : c.args.address.bits < size_of m.0 = subst (λ n. c.args.address.bits < 2 ^ n) m.2 c.bits-address.ensures.word.fits in
    let small = address_small c.args.module.now c.requires.module c.args.memory m.0 m.1 c.args.address.bits fits in
    omega (arith, small, c.bits-address.ensures.value)

pub index-requires : goal.index-requires
index-requires c =
    let m = c.requires.memory_is in
    let cells = subst (AreCells c.args.module.now.memories) (sym c.self.view_is) c.requires.cells in
    omega (arith, c.self.inside.places.ok.0, in_places c.args.module.now.memories c.self.inside.places.items c.args.memory m.0 cells.places m.1)

pub overflow_add-index : goal.overflow_add-index
overflow_add-index c =
    let m = c.requires.memory_is in
    let cells = subst (AreCells c.args.module.now.memories) (sym c.self.view_is) c.requires.cells in
    let fits : c.args.address.bits < size_of m.0 = subst (λ n. c.args.address.bits < 2 ^ n) m.2 c.bits-address.ensures.word.fits in
    let place : c.index.result.now ≡ place_of c.args.module.now.memories c.args.memory = place_is c.args.module.now.memories c.self.inside.places.items c.args.memory m.0 cells.places m.1 _ c.index.ensures in
    let small = sum_small c.args.module.now c.requires.module c.args.memory m.0 m.1 c.args.address.bits fits _ _ place c.bits-address.ensures.value in
    omega (arith, small)

pub index-requires-2 : goal.index-requires-2
index-requires-2 c =
    let m = c.requires.memory_is in
    let cells = subst (AreCells c.args.module.now.memories) (sym c.self.view_is) c.requires.cells in
    let fits : c.args.address.bits < size_of m.0 = subst (λ n. c.args.address.bits < 2 ^ n) m.2 c.bits-address.ensures.word.fits in
    let place : c.index.result.now ≡ place_of c.args.module.now.memories c.args.memory = place_is c.args.module.now.memories c.self.inside.places.items c.args.memory m.0 cells.places m.1 _ c.index.ensures in
    omega (
      arith,
      c.self.inside.words.ok.0,
      in_words c.args.module.now.memories c.self.inside.words.items c.args.memory m.0 c.args.address.bits cells.words m.1 fits (c.index.result.now + c.bits-address.result) (omega (arith, place, c.bits-address.ensures.value)),
    )

pub returns-clause-word : goal.returns-clause-word
returns-clause-word c =
    let m = c.requires.memory_is in
    let cells = subst (AreCells c.args.module.now.memories) (sym c.self.view_is) c.requires.cells in
    let fits : c.args.address.bits < size_of m.0 = subst (λ n. c.args.address.bits < 2 ^ n) m.2 c.bits-address.ensures.word.fits in
    let place : c.index.result.now ≡ place_of c.args.module.now.memories c.args.memory = place_is c.args.module.now.memories c.self.inside.places.items c.args.memory m.0 cells.places m.1 _ c.index.ensures in
    let there : c.index.result.now + c.bits-address.result ≡ place_of c.args.module.now.memories c.args.memory + c.args.address.bits = omega (arith, place, c.bits-address.ensures.value) in
    let within = in_words c.args.module.now.memories c.self.inside.words.items c.args.memory m.0 c.args.address.bits cells.words m.1 fits (c.index.result.now + c.bits-address.result) there in
    let stands = slice_get_read c.self.inside.words.items (length c.self.inside.words.items) (c.index.result.now + c.bits-address.result) c.index-2.result.now refl within c.index-2.ensures in
    subst (λ (v : CellsValue). slice_get v.words (place_of c.args.module.now.memories c.args.memory + c.args.address.bits) ≡ Some c.index-2.result.now) c.self.view_is
    (subst (λ k. slice_get c.self.inside.words.items k ≡ Some c.index-2.result.now) there stands)

pub returns-clause-width : goal.returns-clause-width
returns-clause-width c k at =
    let m = c.requires.memory_is in
    let cells = subst (AreCells c.args.module.now.memories) (sym c.self.view_is) c.requires.cells in
    let fits : c.args.address.bits < size_of m.0 = subst (λ n. c.args.address.bits < 2 ^ n) m.2 c.bits-address.ensures.word.fits in
    let place : c.index.result.now ≡ place_of c.args.module.now.memories c.args.memory = place_is c.args.module.now.memories c.self.inside.places.items c.args.memory m.0 cells.places m.1 _ c.index.ensures in
    let there : c.index.result.now + c.bits-address.result ≡ place_of c.args.module.now.memories c.args.memory + c.args.address.bits = omega (arith, place, c.bits-address.ensures.value) in
    let within = in_words c.args.module.now.memories c.self.inside.words.items c.args.memory m.0 c.args.address.bits cells.words m.1 fits (c.index.result.now + c.bits-address.result) there in
    let stands = slice_get_read c.self.inside.words.items (length c.self.inside.words.items) (c.index.result.now + c.bits-address.result) c.index-2.result.now refl within c.index-2.ensures in
    let same : m.0 ≡ k = same_Some _ _ (sym m.1 ∙ at) in
    (cells.words.fit c.args.memory k at c.args.address.bits c.index-2.result.now (subst (λ (x : Memory). c.args.address.bits < size_of x) same fits)
    (subst (λ n. slice_get c.self.inside.words.items n ≡ Some c.index-2.result.now) there stands)).width
