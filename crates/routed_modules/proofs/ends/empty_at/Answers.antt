use Rattle.std.proofs.Common.{ℕ, Option, sym, ap, subst, ◌∙◌, refl}
use Rattle.std.specs.Prelude.{unwrap_or}
use Rattle.routed_modules.specs.Ends.{IsInputIf}
use Rattle.routed_modules.proofs.InputPorts.{is_input_at}
use Rattle.routed_modules.proofs.ends.empty_at.Goals as goal

pub input-requires : goal.input-requires
input-requires c = (c.in-Some.field-0, c.requires c.in-Some.field-0 c.in-Some.is)

pub returns-in-Some-clause-at : goal.returns-in-Some-clause-at
returns-in-Some-clause-at c =
    subst (λ (o : Option ℕ). IsInputIf c.args.builder.now c.args.port o c.input.result) (sym c.in-Some.is)
    (is_input_at c.args.builder.now c.args.port c.in-Some.field-0 c.input.result (c.requires c.in-Some.field-0 c.in-Some.is) c.input.ensures.net c.input.ensures.number c.input.ensures.width c.args.port refl)

pub returns-in-Some-clause-wide : goal.returns-in-Some-clause-wide
returns-in-Some-clause-wide c = c.input.ensures.width c.in-Some.field-0 (c.requires c.in-Some.field-0 c.in-Some.is) ∙ sym (ap (λ (o : Option ℕ). unwrap_or o 1) c.in-Some.is)
