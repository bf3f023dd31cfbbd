use Rattle.std.proofs.Common.{◌≡◌, ℕ, List, IfOk, ◌∙◌, subst}
use Rattle.routed_modules.proofs.header.name_of_port.Goals as goal

pub returns : goal.returns
returns c = subst (λ (text : List ℕ). IfOk c.copy.result (λ (name : List ℕ). name ≡ text)) (c.as_str.ensures.value ∙ c.in_ok-name.ensures.ok) c.copy.ensures
