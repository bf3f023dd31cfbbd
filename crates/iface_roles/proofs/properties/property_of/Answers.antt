use Rattle.std.proofs.Common.{not, inl, inr, sym, ap, ◌∙◌}
use Rattle.iface_roles.specs.Properties.{IsPassedOver}
use Rattle.iface_roles.proofs.PropertyLemmas.{never_known, known_found, lacked_found, none_found}
use Rattle.iface_roles.proofs.properties.property_of.Goals as goal
use Rattle.iface_roles.proofs.properties.property_of.Goals.{then-not-is_avalon-via-then-not-is_avalon, then-not-is_avalon-via-else-not-is_avalon+then-is_listed}

pub returns-then-not-is_avalon-clause-known : goal.returns-then-not-is_avalon-clause-known
returns-then-not-is_avalon-clause-known c =
    let kind = c.args.kind in
    let text = c.args.text.now in
    let passed : IsPassedOver kind text =
    elim c.then-not-is_avalon.branch [
      | then-not-is_avalon-via-then-not-is_avalon w ↦ inl (ap not (sym c.is_avalon.ensures ∙ w.if-not-is_avalon.true))
      | then-not-is_avalon-via-else-not-is_avalon+then-is_listed w ↦ inr (sym w.is_listed.ensures ∙ w.if-is_listed.true)
    ] in
    λ id. (λ is. cc, λ h. absurd (never_known kind text passed id h))

pub returns-in-Some-clause-known : goal.returns-in-Some-clause-known
returns-in-Some-clause-known c =
    known_found c.args.kind c.args.text.now c.in-Some.id (sym c.in-Some.is ∙ c.find_called.ensures) (sym c.is_of.ensures ∙ c.if-is_of.true)

pub returns-in_default-clause-known : goal.returns-in_default-clause-known
returns-in_default-clause-known c =
    λ id. (
      λ is. cc,
      λ h. absurd (lacked_found c.args.kind c.args.text.now c.in-Some.id (sym c.in-Some.is ∙ c.find_called.ensures) (sym c.is_of.ensures ∙ c.if-is_of.false) id h),
    )

pub returns-in_default-2-clause-known : goal.returns-in_default-2-clause-known
returns-in_default-2-clause-known c =
    λ id. (λ is. cc, λ h. absurd (none_found c.args.kind c.args.text.now (sym c.in_default.is ∙ c.find_called.ensures) id h))
