use Rattle.std.proofs.Common.{◌≡◌, ℕ, ◌+◌, ◌<◌, List, ◌∷◌, length, drop, get_or, sym, ap, ◌∙◌, arith}
use Rattle.std.proofs.lemmas.List.{drop_all}
use Rattle.verilog_forms.specs.declared.rule.Rule.TheVariants.{OtherByte}
use Rattle.verilog_reader.specs.declared.spot.Spot.TheVariants.{Flawed}
use Rattle.verilog_reader.specs.Spots.{fixed_at}
use Rattle.verilog_reader.proofs.Steps.{here}
use Rattle.verilog_reader.proofs.spot.fixed_at.Goals as goal

-- a part goes on where the text has ended
text_ended : (part bytes : List ℕ) (i at : ℕ) → i < length part → at ≡ length bytes → fixed_at (drop i part) (drop at bytes) at ≡ Flawed at OtherByte
text_ended part bytes i at inside end_ =
    ap (λ (p : List ℕ). fixed_at p (drop at bytes) at) (here part i inside)
    ∙ ap (λ (t : List ℕ). fixed_at (get_or part i 0 ∷ drop (i + 1) part) t at) (drop_all at bytes (omega (arith, end_)))

pub returns-then-at-bytes-clause-fixed : goal.returns-then-at-bytes-clause-fixed
returns-then-at-bytes-clause-fixed c =
    c.other_byte.ensures ∙ sym (text_ended c.args.part.now c.args.bytes.now c.part.byte-index c.part.at (omega arith) (omega arith)) ∙ c.part.invariant.goes_on
