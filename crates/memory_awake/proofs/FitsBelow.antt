-- What is shown below a cutter of bursts suits what fits words there: byte enables fit, and what gathers is shown bursts that
-- lie in wide words.
use Rattle.std.proofs.Common.{ℕ, ◌≡◌, ◌*◌, ap, subst, ◌∙◌}
use Rattle.memory_runs.specs.Views.{Shape}
use Rattle.memory_machines.specs.Link.{Target, Port, AreLegalAt}
use Rattle.memory_machines.specs.Machines.{ShowsFitBeats}
use Rattle.memory_machines.specs.SideLaws.{fit_when_shown}
use Rattle.memory_links.specs.Cutters.{Reach, CutterState, RunsAsCutter, IsTouchPlan, reach_words}
use Rattle.memory_links.specs.Gathers.{LieInWords}
use Rattle.memory_links.specs.Selects.{EnablesFit}
use Rattle.memory_awake.specs.Rows.{CutsBursts, CutsBursts.cutter, CutsBursts.no_cutter, FitsWords, FitsWords.selector, FitsWords.gatherer, FitsWords.splitter, FitsWords.no_width, GathersBelowCut}
use Rattle.memory_awake.proofs.Enables.{enables_below}

-- what a cutter at the ends of wide words shows lies in them
abbrev pub TouchesLie : Type 0
TouchesLie =
    (many : ℕ) (up down : Port) (state : CutterState) (end : ℕ) (wide : Shape) → IsTouchPlan many up.shape down.shape → RunsAsCutter (reach_words up.shape.word_bytes many) 1 up down state →
    ShowsFitBeats up end → EnablesFit up end → wide.word_bytes ≡ many * up.shape.word_bytes → LieInWords down wide end

abbrev pub Suits : {target : Target} {up down : Port} → FitsWords target up down → ℕ → Type 0
Suits {target} {up} {down} (selector many room offsets plan deep run) end = EnablesFit up end
Suits {target} {up} {down} (gatherer many room state plan deep run) end = LieInWords up down.shape end
Suits {target} {up} {down} (splitter count room state may some run) end = Unit {0}
Suits {target} {up} {down} (no_width wired) end = Unit {0}

pub suits_below : TouchesLie → {target : Target} {top middle low : Port} (end : ℕ) (cuts : CutsBursts top middle) (fits : FitsWords target middle low) → GathersBelowCut cuts fits → EnablesFit top end → AreLegalAt top end → Suits fits end
suits_below law {target} {top} {middle} {low} end cuts (selector many room offsets plan deep run) below enables legal = enables_below end cuts enables
suits_below law {target} {top} {middle} {low} end (cutter reach longest cut cut_plan cut_run) (gatherer many room state plan deep run) below enables legal =
    law many top middle cut end low.shape below.0
    (subst (λ n. RunsAsCutter (reach_words top.shape.word_bytes many) n top middle cut) below.2 (subst (λ (r : Reach). RunsAsCutter r longest top middle cut) below.1 cut_run))
    (λ c h shown. fit_when_shown top end c legal h shown) enables (plan.whole ∙ ap (λ n. many * n) below.0.same)
suits_below law {target} {top} {middle} {low} end (no_cutter wired) (gatherer many room state plan deep run) below enables legal = absurd below
suits_below law {target} {top} {middle} {low} end cuts (splitter count room state may some run) below enables legal = tt
suits_below law {target} {top} {middle} {low} end cuts (no_width wired) below enables legal = tt
