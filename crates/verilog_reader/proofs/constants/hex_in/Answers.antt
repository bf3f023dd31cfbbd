use Rattle.std.proofs.Common.{ℕ, ◌+◌, ◌/◌, refl, sym, ap, ◌∙◌}
use Rattle.av_base.specs.Word.{word}
use Rattle.verilog_reader.proofs.Hexes.{other_count_breaks, no_digits_break, small_passes}
use Rattle.verilog_reader.proofs.constants.hex_in.Goals as goal

pub returns-then-run-from : goal.returns-then-run-from
returns-then-run-from c = other_count_breaks c.args.width c.args.run.now (λ e. c.if-run-from.true (e ∙ ap (λ (v : ℕ). (v + 3) / 4) (sym c.from.ensures)))

pub returns-in-None : goal.returns-in-None
returns-in-None c = no_digits_break c.args.width c.args.run.now (c.if-run-from.false ∙ ap (λ (v : ℕ). (v + 3) / 4) c.from.ensures) c.in-None.ensures

pub returns-in-Some-new : goal.returns-in-Some-new
returns-in-Some-new c =
    let told = c.in-Some.ensures in
    let fits = (c.in-Some-new.ensures.some.0 refl).fits in (
      small_passes c.args.width c.args.run.now c.in-Some.bits (c.if-run-from.false ∙ ap (λ (v : ℕ). (v + 3) / 4) c.from.ensures) told.0 told.1 fits,
      c.in-Some-new.ensures.value ∙ ap (λ (b : ℕ). word c.args.width b) told.0,
    )
