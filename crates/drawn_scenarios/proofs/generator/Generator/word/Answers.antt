use Rattle.std.proofs.Common.{◌≡◌, ◌+◌, ◌-◌, ℕ, cond, ap, arith, rules}
use Rattle.drawn_scenarios.proofs.DrawLemmas.{place_high, place_low, word_more, word_room, word_done, word_fits}
use Rattle.drawn_scenarios.proofs.generator.Generator.word.Goals.{then-first_high, else-first_high}
use Rattle.drawn_scenarios.proofs.generator.Generator.word.Goals as goal

pub symbols-preserved : goal.symbols-preserved
symbols-preserved c =
    let n = c.args.symbols in
    let k = c.symbols.k in
    let place_is : c.if-first_high.place ≡ cond c.args.first_high (n - (k + 1)) k =
    elim c.if-first_high.branch [
      | then-first_high w ↦ place_high c.args.first_high n k _ w.if-first_high.true w.place-is
      | else-first_high w ↦ place_low c.args.first_high n k _ w.if-first_high.false w.place-is
    ] in
    word_more c.args.first_high c.args.bits c.args.bound n k _ _ _ _ _ _ _ (omega arith) c.draw.ensures.drawn place_is c.placed-word.ensures c.symbols.invariant

pub overflow_add-word : goal.overflow_add-word
overflow_add-word c =
    let n = c.args.symbols in
    let k = c.symbols.k in
    let place_is : c.if-first_high.place ≡ cond c.args.first_high (n - (k + 1)) k =
    elim c.if-first_high.branch [
      | then-first_high w ↦ place_high c.args.first_high n k _ w.if-first_high.true w.place-is
      | else-first_high w ↦ place_low c.args.first_high n k _ w.if-first_high.false w.place-is
    ] in
    let more = word_more c.args.first_high c.args.bits c.args.bound n k _ _ _ _ _ _ _ (omega arith) c.draw.ensures.drawn place_is c.placed-word.ensures c.symbols.invariant in
    let room = word_room c.args.first_high c.args.bits c.args.bound c.args.symbols _ _ _ _ _ c.requires.some c.requires.bits c.requires.few more in
    search rules

pub returns-clause-drawn : goal.returns-clause-drawn
returns-clause-drawn c = word_done c.args.first_high c.args.bits c.args.bound c.args.symbols c.symbols.k _ _ _ (omega arith) c.symbols.invariant

pub returns-clause-fits : goal.returns-clause-fits
returns-clause-fits c =
    let drawn = word_done c.args.first_high c.args.bits c.args.bound c.args.symbols c.symbols.k _ _ _ (omega arith) c.symbols.invariant in
    let first : ℕ × ℕ → ℕ = λ p. p.0 in
    let is = ap first drawn in
    let fits = word_fits c.args.first_high c.args.bits c.args.bound c.args.symbols c.args.self.now c.requires.some c.requires.bits in
    omega arith
