-- A cutter at wide words above a gatherer.
use Rattle.std.proofs.Common.{ℕ, ◌<◌, ◌≤◌, ◌≡◌, ◌*◌, ◌/◌, min, flat_map, arith, refl, sym, ap, ap₂, subst, ◌∙◌, one-mul, mul-le-mul_right, le_of_lt}
use Rattle.histories.specs.History.{IsPrefix}
use Rattle.memory_runs.specs.Views.{Shape}
use Rattle.memory_runs.specs.Laws.{same_pieces}
use Rattle.memory_runs.specs.Operations.{pieces}
use Rattle.memory_machines.specs.Link.{Target, Port, AreLegalAt, taken_at}
use Rattle.memory_machines.specs.Lines.{KeepsRow}
use Rattle.memory_machines.specs.Machines.{ShowsFitBeats}
use Rattle.memory_links.specs.Links.{IsLink, LinkForm, FormsFit, chain_form}
use Rattle.memory_links.specs.Cutters.{CutterState, cut_form}
use Rattle.memory_links.specs.Selects.{EnablesFit}
use Rattle.memory_links.proofs.Lanes.{SelectsBeats}
use Rattle.memory_links.proofs.CutLink.{cut_is_link}
use Rattle.memory_links.proofs.CutRuns.{legal_fits}
use Rattle.memory_links.specs.Cutters.{RunsAsCutter, IsTouchPlan, reach_words}
use Rattle.memory_links.specs.Gathers.{GatherState, RunsAsGather, IsGatherPlan, LieInWords, gather_form}
use Rattle.memory_links.specs.Packs.{touches_of, acting, PacksReads}
use Rattle.memory_links.proofs.CutParts.{cutting}
use Rattle.memory_links.proofs.CutShown.{cut_legal}
use Rattle.memory_links.proofs.Touching.{touches_are_cuts, lie_below}
use Rattle.memory_links.proofs.GatherLink.{gather_is_link}
use Rattle.memory_links.proofs.CutPacks.{cut_packs}
use Rattle.memory_links.proofs.GatherPacks.{gather_packs}

module _ (law : SelectsBeats) (wire : (target : Target) (port : Port) (end : ℕ) → 0 < port.shape.word_bytes → KeepsRow target 0 port port end)
    (chain : (first second : LinkForm) (up middle down : Port) (end : ℕ) → FormsFit first second up middle down → IsLink first up middle end → IsLink second middle down end → IsLink (chain_form first second) up down end)
    (target : Target) (many room : ℕ) (up middle down : Port) (cut : CutterState) (gather : GatherState) (end : ℕ) (touch : IsTouchPlan many up.shape middle.shape) (plan : IsGatherPlan target middle.shape down.shape many) (deep : 1 < room)
    (cuts : RunsAsCutter (reach_words up.shape.word_bytes many) 1 up middle cut) (gathers : RunsAsGather room middle down gather) (fit : ShowsFitBeats up end) (enables : EnablesFit up end) where
  lie : LieInWords middle down.shape end
  lie = lie_below many up middle cut touch cuts end fit enables down.shape (plan.whole ∙ ap (λ n. many * n) touch.same)

  above : IsLink (cut_form target) up middle end
  above = cut_is_link wire target up middle end (subst (λ n. 0 < n) (sym touch.same) touch.some) (λ k h legal. cutting target (reach_words up.shape.word_bytes many) 1 up middle cut (touches_are_cuts many up.shape middle.shape touch) cuts k legal)

  below : IsLink (gather_form target) middle down end
  below = gather_is_link law wire target middle down many room gather end plan deep gathers lie

  one_piece : (narrow wide : Shape) → 0 < narrow.word_bytes → narrow.word_bytes ≤ wide.word_bytes → pieces narrow wide ≡ 1
  one_piece narrow wide some less =
      let least : min narrow.word_bytes wide.word_bytes ≡ narrow.word_bytes = omega arith in
      let self : min narrow.word_bytes narrow.word_bytes ≡ narrow.word_bytes = omega arith in
      ap (λ n. narrow.word_bytes / n) least ∙ ap (λ n. narrow.word_bytes / n) (sym self) ∙ same_pieces narrow some

  pub packed_link : IsLink (chain_form (cut_form target) (gather_form target)) up down end
  packed_link =
      let smaller : middle.shape.word_bytes ≤ down.shape.word_bytes = (let more = mul-le-mul_right middle.shape.word_bytes (le_of_lt plan.more) in let unit = one-mul middle.shape.word_bytes in let whole = plan.whole in omega (arith, more, unit, whole)) in
      let same = touch.same in
      let first = one_piece up.shape middle.shape touch.some (omega (arith, same)) in
      let second = one_piece middle.shape down.shape plan.some smaller in
      let both = one_piece up.shape down.shape touch.some (omega (arith, same, smaller)) in
      chain (cut_form target) (gather_form target) up middle down end
      (record { target = refl; pieces = (let product = ap₂ (λ a b. a * b) second first in omega (arith, product, both)); words = refl }) above below

  module _ (s : ℕ) (spans : 0 < s) (span : target.span ≡ s * target.shape.word_bytes) (legal : AreLegalAt up end) where
    pub row_packs : PacksReads target up down end
    row_packs c h =
        let word : target.shape.word_bytes ≡ many * up.shape.word_bytes = sym plan.same ∙ plan.whole ∙ ap (λ n. many * n) touch.same in
        let legal_middle = cut_legal (reach_words up.shape.word_bytes many) 1 up middle cut (touches_are_cuts many up.shape middle.shape touch) cuts end (legal_fits up end legal) legal in
        subst (λ l. IsPrefix l (acting (flat_map (touches_of target up.shape) (taken_at up c)))) (sym (gather_packs law target middle down many room gather plan gathers end lie legal_middle c h))
        (cut_packs target many s up middle cut touch cuts end legal spans word span c h)
