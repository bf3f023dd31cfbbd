-- A row packs reads: its cutter and what fits words below it do, and wires and what drops beats keep the sizes.
use Rattle.std.proofs.Common.{ℕ, ◌<◌, ◌≤◌, ◌≡◌, ◌*◌, arith, sym, subst, ◌∙◌, List, flat_map}
use Rattle.histories.specs.History.{IsPrefix}
use Rattle.histories.specs.Laws.{prefix_trans}
use Rattle.memory_machines.specs.Link.{Target, Port, AreLegalAt, taken_at}
use Rattle.memory_machines.specs.Machines.{ShowsFitBeats}
use Rattle.memory_machines.specs.SideLaws.{fit_when_shown}
use Rattle.memory_links.specs.Cutters.{Reach, CutterState, RunsAsCutter, IsCutPlan, IsTouchPlan, reach_words}
use Rattle.memory_links.specs.Gathers.{GatherState, RunsAsGather, IsGatherPlan}
use Rattle.memory_links.specs.Packs.{PacksReads, acting, beat_sizes}
use Rattle.memory_links.specs.Selects.{RunsAsSelect, IsSelectPlan, EnablesFit}
use Rattle.memory_awake.specs.Rows.{CutsBursts, CutsBursts.cutter, CutsBursts.no_cutter, FitsWords, FitsWords.selector, FitsWords.gatherer, FitsWords.splitter, FitsWords.no_width, DropsBeats, DropsBeats.dropper, DropsBeats.no_dropper, GathersBelowCut, IsWired}
use Rattle.memory_awake.specs.Packed.{KeepsSizes, RowPacks}
use Rattle.memory_awake.proofs.packed.Dropping.{drop_keeps}
use Rattle.memory_awake.proofs.packed.Splitting.{split_equal, split_keeps}
use Rattle.memory_awake.proofs.packed.Wiring.{wire_words, wire_legal, wire_enables, wire_touches, wire_keeps}

-- what the links promise
pub record Laws : Type 0 where
  pub packed : (target : Target) (many room : ℕ) (up middle down : Port) (cut : CutterState) (gather : GatherState) (end : ℕ) → IsTouchPlan many up.shape middle.shape →
      IsGatherPlan target middle.shape down.shape many → 1 < room → RunsAsCutter (reach_words up.shape.word_bytes many) 1 up middle cut → RunsAsGather room middle down gather →
      ShowsFitBeats up end → EnablesFit up end → (times : ℕ) → 0 < times → target.span ≡ times * target.shape.word_bytes → AreLegalAt up end → PacksReads target up down end
  pub wire : (target : Target) (port : Port) (times end : ℕ) → 0 < port.shape.word_bytes → 0 < times → target.shape.word_bytes ≡ port.shape.word_bytes → target.span ≡ times * target.shape.word_bytes → PacksReads target port port end
  pub cut : (target : Target) (reach : Reach) (longest : ℕ) (up down : Port) (state : CutterState) (end times : ℕ) → IsCutPlan reach longest up.shape down.shape →
      RunsAsCutter reach longest up down state → AreLegalAt up end → 0 < times → target.shape.word_bytes ≡ up.shape.word_bytes → target.span ≡ times * target.shape.word_bytes → PacksReads target up down end
  pub cut_legal : (reach : Reach) (longest : ℕ) (up down : Port) (state : CutterState) (end : ℕ) → IsCutPlan reach longest up.shape down.shape → RunsAsCutter reach longest up down state → AreLegalAt up end → AreLegalAt down end
  pub select : (target : Target) (up down : Port) (many room : ℕ) (offsets : ℕ → List ℕ) (end : ℕ) → IsSelectPlan target up.shape down.shape many →
      1 < room → RunsAsSelect room up down offsets → EnablesFit up end → AreLegalAt up end → PacksReads target up down end

-- below what packs reads other links may keep the sizes
packs_further : (target : Target) (up middle down : Port) (end : ℕ) → PacksReads target up middle end → KeepsSizes target middle down end → PacksReads target up down end
packs_further target up middle down end packs keeps c h = prefix_trans (keeps c h) (packs c h)

cut_words : (top middle : Port) → CutsBursts top middle → top.shape.word_bytes ≡ middle.shape.word_bytes
cut_words top middle (cutter reach longest state plan run) = sym plan.same
cut_words top middle (no_cutter wired) = wire_words top middle wired.wire

module _ (target : Target) (end : ℕ) where
  pub drop_words : (low down : Port) → DropsBeats target low down → low.shape.word_bytes ≡ down.shape.word_bytes
  drop_words low down (dropper room state plan some run) = sym plan.same
  drop_words low down (no_dropper wired) = wire_words low down wired.wire

  drop_sizes : (low down : Port) → DropsBeats target low down → KeepsSizes target low down end
  drop_sizes low down (dropper room state plan some run) = drop_keeps target room low down state plan run end
  drop_sizes low down (no_dropper wired) = wire_keeps low down wired.wire target end

  -- a cutter that cuts at wide words
  gathered : Laws → (many room : ℕ) (top middle low : Port) (cuts : CutsBursts top middle) (state : GatherState) (plan : IsGatherPlan target middle.shape low.shape many) (deep : 1 < room) (run : RunsAsGather room middle low state) →
      GathersBelowCut cuts (gatherer many room state plan deep run) → (times : ℕ) → 0 < times → target.span ≡ times * target.shape.word_bytes → EnablesFit top end → AreLegalAt top end → PacksReads target top low end
  gathered laws many room top middle low (cutter reach longest cut plan cuts) state gather deep run below times some span enables legal =
      laws.packed target many room top middle low cut state end below.0 gather deep
      (subst (λ n. RunsAsCutter (reach_words top.shape.word_bytes many) n top middle cut) below.2 (subst (λ r. RunsAsCutter r longest top middle cut) below.1 cuts)) run
      (λ c h shown. fit_when_shown top end c legal h shown) enables times some span legal
  gathered laws many room top middle low (no_cutter wired) state gather deep run below times some span enables legal = absurd below

  -- single reads through a lane selector
  selected : Laws → (many room : ℕ) (top middle low : Port) → IsWired top middle → (offsets : ℕ → List ℕ) → IsSelectPlan target middle.shape low.shape many → 1 < room → RunsAsSelect room middle low offsets →
      EnablesFit top end → AreLegalAt top end → PacksReads target top low end
  selected laws many room top middle low wired offsets plan deep run enables legal c h =
      subst (λ l. IsPrefix (acting (flat_map (beat_sizes target low.shape) (taken_at low c))) (acting l)) (wire_touches top middle wired.wire target c)
      (laws.select target middle low many room offsets end plan deep run (wire_enables top middle wired.wire end enables) (wire_legal top middle wired.wire end legal) c h)

  -- between equal words
  cut_packs : Laws → (top middle : Port) → CutsBursts top middle → target.shape.word_bytes ≡ top.shape.word_bytes → (times : ℕ) → 0 < times → target.span ≡ times * target.shape.word_bytes → AreLegalAt top end → PacksReads target top middle end
  cut_packs laws top middle (cutter reach longest state plan run) words times some span legal = laws.cut target reach longest top middle state end times plan run legal some words span
  cut_packs laws top middle (no_cutter wired) words times some span legal =
      packs_further target top top middle end (laws.wire target top times end wired.some some words span) (wire_keeps top middle wired.wire target end)

  legal_below : Laws → (top middle : Port) → CutsBursts top middle → AreLegalAt top end → AreLegalAt middle end
  legal_below laws top middle (cutter reach longest state plan run) legal = laws.cut_legal reach longest top middle state end plan run legal
  legal_below laws top middle (no_cutter wired) legal = wire_legal top middle wired.wire end legal

  fitted : Laws → (top middle low : Port) (cuts : CutsBursts top middle) (fits : FitsWords target middle low) → GathersBelowCut cuts fits → RowPacks cuts fits →
      top.shape.word_bytes ≤ target.shape.word_bytes → low.shape.word_bytes ≡ target.shape.word_bytes → (times : ℕ) → 0 < times → target.span ≡ times * target.shape.word_bytes →
      EnablesFit top end → AreLegalAt top end → PacksReads target top low end
  fitted laws top middle low (cutter reach longest cut cut_plan cut_run) (selector many room offsets plan deep run) below packs fits words times some span enables legal = absurd packs
  fitted laws top middle low (no_cutter wired) (selector many room offsets plan deep run) below packs fits words times some span enables legal =
      selected laws many room top middle low wired offsets plan deep run enables legal
  fitted laws top middle low cuts (gatherer many room state plan deep run) below packs fits words times some span enables legal =
      gathered laws many room top middle low cuts state plan deep run below times some span enables legal
  fitted laws top middle low cuts (splitter count room state may some_room run) below packs fits words times some span enables legal =
      let above = cut_words top middle cuts in
      let narrow : middle.shape.word_bytes ≤ target.shape.word_bytes = omega (arith, above, fits) in
      packs_further target top middle low end (cut_packs laws top middle cuts (sym (above ∙ split_equal target middle.shape low.shape count may narrow)) times some span legal)
      (split_keeps target room count middle low state end may run (legal_below laws top middle cuts legal) narrow)
  fitted laws top middle low cuts (no_width wired) below packs fits words times some span enables legal =
      packs_further target top middle low end (cut_packs laws top middle cuts (sym (cut_words top middle cuts ∙ wire_words middle low wired.wire ∙ words)) times some span legal)
      (wire_keeps middle low wired.wire target end)

  pub row_packs : Laws → (top middle low down : Port) (cuts : CutsBursts top middle) (fits : FitsWords target middle low) → DropsBeats target low down → GathersBelowCut cuts fits → RowPacks cuts fits →
      top.shape.word_bytes ≤ target.shape.word_bytes → down.shape.word_bytes ≡ target.shape.word_bytes → (times : ℕ) → 0 < times → target.span ≡ times * target.shape.word_bytes →
      EnablesFit top end → AreLegalAt top end → PacksReads target top down end
  row_packs laws top middle low down cuts fits drops below packs narrow words times some span enables legal =
      packs_further target top low down end
      (fitted laws top middle low cuts fits below packs narrow (drop_words low down drops ∙ words) times some span enables legal)
      (drop_sizes low down drops)
