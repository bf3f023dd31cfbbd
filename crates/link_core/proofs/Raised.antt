-- A bit that is another one while a third is high.
use Rattle.std.proofs.Common.{◌≡◌, ℕ, Bool, true, false, ◌&&◌, if◌then◌else◌, ap, ◌∙◌}
use Rattle.histories.specs.History.{is_raised}

pub both_are_raised : (a b : Bool) (y z : ℕ) → a ≡ b → z ≡ (if a then y else 0) → is_raised z ≡ (b && is_raised y)
both_are_raised true b y z e h = ap is_raised h ∙ ap (λ t. t && is_raised y) e
both_are_raised false b y z e h = ap is_raised h ∙ ap (λ t. t && is_raised y) e
