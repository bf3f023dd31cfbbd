-- A row of link machines is one link: what it keeps of commands and answers, and of lanes.
use Rattle.std.proofs.Common.{ℕ, ◌≤◌, ◌<◌, ◌≡◌, ◌*◌, ◌+◌, ◌-◌, ◌/◌, min, Bool, true, false, ◌||◌, List, arith, refl, sym, subst, ap, ap₂, ◌∙◌, le_refl, IsTrue, IsFalse}
use Rattle.std.proofs.lemmas.Bool.{or_left, or_right}
use Rattle.memory_runs.specs.Views.{System, Run}
use Rattle.memory_runs.specs.Laws.{same_pieces}
use Rattle.memory_runs.specs.Operations.{pieces}
use Rattle.memory_runs.specs.Order.{host_transfers}
use Rattle.memory_machines.specs.Shorter.{legal_at_before}
use Rattle.memory_machines.specs.Link.{Target, Port, AreLegalAt, AnswersAreOwed}
use Rattle.memory_machines.specs.Lines.{KeepsRow, BringsLanes, BringsLanes.made, BringsLanes.kept, HavePlacedLanes, sent_by, target_of}
use Rattle.memory_machines.specs.Machines.{MaySplit}
use Rattle.memory_machines.specs.PartRanks.{JoinsAlike}
use Rattle.memory_links.specs.Cutters.{Reach, CutterState, RunsAsCutter, IsCutPlan, cut_form}
use Rattle.memory_links.specs.Drops.{DropState, RunsAsDrop, IsDropPlan, drop_form}
use Rattle.memory_links.specs.Gathers.{GatherState, RunsAsGather, IsGatherPlan, LieInWords, gather_form}
use Rattle.memory_links.specs.Links.{LinkForm, IsLink, FormsFit, BringsLanesDown, chain_form, pass_form}
use Rattle.memory_links.specs.Selects.{RunsAsSelect, IsSelectPlan, EnablesFit, select_form}
use Rattle.memory_links.specs.Splits.{SplitState, RunsAsSplit, split_form}
use Rattle.memory_awake.specs.Rows.{IsWired, CutsBursts, CutsBursts.cutter, CutsBursts.no_cutter, FitsWords, FitsWords.selector, FitsWords.gatherer, FitsWords.splitter, FitsWords.no_width, DropsBeats, DropsBeats.dropper, DropsBeats.no_dropper, drops_some, GathersBelowCut}
use Rattle.memory_awake.proofs.FitsBelow.{TouchesLie, Suits, suits_below}
use Rattle.memory_awake.proofs.RowOfThree.{Carries, settled}
use Rattle.memory_awake.proofs.Widened.{wire_link}

-- each machine is a link
pub record LinkLaws : Type 0 where
  pub wire : (target : Target) (port : Port) (end : ℕ) → 0 < port.shape.word_bytes → IsLink (pass_form target) port port end
  pub cut : (target : Target) (reach : Reach) (longest : ℕ) (up down : Port) (state : CutterState) (end : ℕ) → IsCutPlan reach longest up.shape down.shape → RunsAsCutter reach longest up down state → IsLink (cut_form target) up down end
  pub select : (target : Target) (up down : Port) (many room : ℕ) (offsets : ℕ → List ℕ) (end : ℕ) → IsSelectPlan target up.shape down.shape many → 1 < room → RunsAsSelect room up down offsets → EnablesFit up end → IsLink (select_form target) up down end
  pub gather : (target : Target) (up down : Port) (many room : ℕ) (state : GatherState) (end : ℕ) → IsGatherPlan target up.shape down.shape many → 1 < room → RunsAsGather room up down state → LieInWords up down.shape end → IsLink (gather_form target) up down end
  pub lie : TouchesLie
  pub split : (target : Target) (room count : ℕ) (up down : Port) (state : SplitState) (end : ℕ) → MaySplit target up.shape down.shape count → 0 < room → RunsAsSplit room up down state → IsLink (split_form target) up down end
  pub drop : (target : Target) (room : ℕ) (up down : Port) (state : DropState) (end : ℕ) → IsDropPlan target up.shape down.shape → 0 < room → RunsAsDrop room up down state → JoinsAlike target up end → IsLink (drop_form target) up down end

-- a link of some form
pub record Linked (target : Target) (hold : ℕ) (makes_lanes gathers : Bool) (up down : Port) (end : ℕ) : Type 0 where
  pub form : LinkForm
  pub for_target : form.target ≡ target
  pub few : form.hold ≤ hold
  pub lanes : form.makes_lanes ≡ makes_lanes
  pub words : IsTrue (gathers || form.word_for_word)
  pub link : IsLink form up down end

pub carries_of : {form : LinkForm} {up down : Port} {end : ℕ} → IsLink form up down end → Carries form.target up down end
carries_of link = record { hold = _; carries = link.row.carries; joins = link.joins }

pub linked_carries : {target : Target} {hold : ℕ} {makes_lanes gathers : Bool} {up down : Port} {end : ℕ} → Linked target hold makes_lanes gathers up down end → Carries target up down end
linked_carries {target} {hold} {makes_lanes} {gathers} {up} {down} {end} linked = subst (λ t. Carries t up down end) linked.for_target (carries_of linked.link)

-- words stay
pub record HasSameWords (up down : Port) : Type 0 where
  pub some : 0 < up.shape.word_bytes
  pub same : down.shape.word_bytes ≡ up.shape.word_bytes

one_piece : {up down : Port} → HasSameWords up down → pieces up.shape down.shape ≡ 1
one_piece {up} {down} words = ap (λ n. up.shape.word_bytes / min up.shape.word_bytes n) words.same ∙ same_pieces up.shape words.some

same_above : {up middle : Port} (down : Port) → HasSameWords up middle → pieces middle.shape down.shape * pieces up.shape middle.shape ≤ pieces up.shape down.shape
same_above {up} {middle} down words =
    let same : pieces middle.shape down.shape ≡ pieces up.shape down.shape = ap (λ n. n / min n down.shape.word_bytes) words.same in
    subst (λ n. pieces middle.shape down.shape * n ≤ pieces up.shape down.shape) (sym (one_piece words)) (omega (arith, same))

pub same_below : {middle down : Port} (up : Port) → HasSameWords middle down → pieces middle.shape down.shape * pieces up.shape middle.shape ≤ pieces up.shape down.shape
same_below {middle} {down} up words =
    let same : pieces up.shape down.shape ≡ pieces up.shape middle.shape = ap (λ n. up.shape.word_bytes / min up.shape.word_bytes n) words.same in
    subst (λ n. n * pieces up.shape middle.shape ≤ pieces up.shape down.shape) (sym (one_piece words)) (omega (arith, same))

wired_words : {up down : Port} → IsWired up down → HasSameWords up down
wired_words {up} {down} wired = record { some = wired.some; same = sym (ap (λ p. p.shape.word_bytes) wired.wire.same) }

pub cut_words : {up down : Port} → CutsBursts up down → HasSameWords up down
cut_words (cutter reach longest state plan run) = record { some = plan.some; same = plan.same }
cut_words (no_cutter wired) = wired_words wired

pub drop_words : {target : Target} {up down : Port} → DropsBeats target up down → HasSameWords up down
drop_words (dropper room state plan some run) = record { some = plan.some; same = plan.same }
drop_words (no_dropper wired) = wired_words wired

pub record RowLaws : Type 0 where
  pub links : LinkLaws
  pub chain : (first second : LinkForm) (up middle down : Port) (end : ℕ) → FormsFit first second up middle down → IsLink first up middle end → IsLink second middle down end → IsLink (chain_form first second) up down end
  pub wider : (target : Target) (hold more : ℕ) (up down : Port) (end : ℕ) → hold ≤ more → KeepsRow target hold up down end → KeepsRow target more up down end

module _ (laws : RowLaws) (target : Target) where
  wired_linked : (hold : ℕ) (gathers : Bool) (up down : Port) → IsWired up down → (end : ℕ) → Linked target hold false gathers up down end
  wired_linked hold gathers up down wired end =
      record { form = pass_form target; for_target = refl; few = omega arith; lanes = refl; words = or_right gathers true refl; link = wire_link target up down end wired.wire (laws.links.wire target up end wired.some) }

  pub cut_linked : (up down : Port) → CutsBursts up down → (end : ℕ) → Linked target 1 false false up down end
  cut_linked up down (cutter reach longest state plan run) end = record { form = cut_form target; for_target = refl; few = omega arith; lanes = refl; words = refl; link = laws.links.cut target reach longest up down state end plan run }
  cut_linked up down (no_cutter wired) end = wired_linked 1 false up down wired end

  pub fit_linked : (up down : Port) (fits : FitsWords target up down) (end : ℕ) → Suits fits end → Linked target 0 false true up down end
  fit_linked up down (selector many room offsets plan deep run) end fit = record {
    form = select_form target;
    for_target = refl;
    few = omega arith;
    lanes = refl;
    words = refl;
    link = laws.links.select target up down many room offsets end plan deep run fit;
  }
  fit_linked up down (gatherer many room state plan deep run) end lie = record {
    form = gather_form target;
    for_target = refl;
    few = omega arith;
    lanes = refl;
    words = refl;
    link = laws.links.gather target up down many room state end plan deep run lie;
  }
  fit_linked up down (splitter count room state may some run) end fit = record { form = split_form target; for_target = refl; few = omega arith; lanes = refl; words = refl; link = laws.links.split target room count up down state end may some run }
  fit_linked up down (no_width wired) end fit = wired_linked 0 true up down wired end

  pub drop_linked : (up down : Port) (drops : DropsBeats target up down) (c : ℕ) → JoinsAlike target up c → Linked target 1 (drops_some drops) false up down c
  drop_linked up down (dropper room state plan some run) c alike = record { form = drop_form target; for_target = refl; few = omega arith; lanes = refl; words = refl; link = laws.links.drop target room up down state c plan some run alike }
  drop_linked up down (no_dropper wired) c alike = wired_linked 1 false up down wired c

  chained : {first_hold second_hold : ℕ} {first_makes second_makes first_gathers second_gathers : Bool} {up middle down : Port} {end : ℕ} →
      (one : Linked target first_hold first_makes first_gathers up middle end) (two : Linked target second_hold second_makes second_gathers middle down end) →
      IsTrue (one.form.word_for_word || two.form.word_for_word) → pieces middle.shape down.shape * pieces up.shape middle.shape ≤ pieces up.shape down.shape →
      Linked target (first_hold + second_hold) (first_makes || second_makes) true up down end
  chained one two words between = record {
    form = chain_form one.form two.form;
    for_target = one.for_target;
    few = (let first = one.few in let second = two.few in omega (arith, first, second));
    lanes = ap₂ (λ a b. a || b) one.lanes two.lanes;
    words = refl;
    link = laws.chain one.form two.form _ _ _ _ (record { target = one.for_target ∙ sym two.for_target; pieces = between; words = words }) one.link two.link;
  }

  module _ (top middle low down : Port) (end : ℕ) (cuts : CutsBursts top middle) (fits : FitsWords target middle low) (drops : DropsBeats target low down) (gathers : GathersBelowCut cuts fits) (enables : EnablesFit top end) where
    fit_middle : (c : ℕ) → c ≤ end → AreLegalAt top c → Suits fits c
    fit_middle c h legal = suits_below laws.links.lie c cuts fits gathers (λ k less. enables k (omega (arith, less, h))) legal

    row_linked : (c : ℕ) → c ≤ end → AreLegalAt top c → JoinsAlike target low c → Linked target 2 (drops_some drops) true top down c
    row_linked c h legal alike =
        let high = cut_linked top middle cuts c in
        let mid = fit_linked middle low fits c (fit_middle c h legal) in
        let last = drop_linked low down drops c alike in
        let upper = chained high mid (or_left high.form.word_for_word mid.form.word_for_word high.words) (same_above low (cut_words cuts)) in
        chained upper last (or_right upper.form.word_for_word last.form.word_for_word last.words) (same_below top (drop_words drops))

    -- joined commands are alike above what drops beats
    alike_low : (c : ℕ) → c ≤ end → JoinsAlike target top c → AreLegalAt top c → AnswersAreOwed down (c - 1) → JoinsAlike target low c
    alike_low c h alike legal owed =
        let earlier = legal_at_before top (c - 1) c (omega arith) legal in
        let before = settled target top middle low down (c - 1) earlier owed (λ k less. alike k (omega (arith, less)))
        (linked_carries (cut_linked top middle cuts (c - 1))) (linked_carries (fit_linked middle low fits (c - 1) (fit_middle (c - 1) (omega (arith, h)) earlier))) (λ k there. linked_carries (drop_linked low down drops k there)) (c - 1) (le_refl (c - 1)) in
        let high = linked_carries (cut_linked top middle cuts c) in
        let mid = linked_carries (fit_linked middle low fits c (fit_middle c h legal)) in
        mid.joins c (le_refl c) ((high.carries.commands c (le_refl c) legal before.owed_middle).legal) before.owed_low (high.joins c (le_refl c) legal before.owed_middle alike)

    module _ (alike : JoinsAlike target top end) where
      linked_at : (c : ℕ) → c ≤ end → AreLegalAt top c → AnswersAreOwed down (c - 1) → Linked target 2 (drops_some drops) true top down c
      linked_at c h legal owed = row_linked c h legal (alike_low c h (λ k less. alike k (omega (arith, less, h))) legal owed)

      row_at : (c : ℕ) → c ≤ end → AreLegalAt top c → AnswersAreOwed down (c - 1) → KeepsRow target 2 top down c
      row_at c h legal owed =
          let linked = linked_at c h legal owed in
          subst (λ t. KeepsRow t 2 top down c) linked.for_target (laws.wider linked.form.target linked.form.hold 2 top down c linked.few linked.link.row)

      owed_before : (c : ℕ) → AnswersAreOwed down c → AnswersAreOwed down (c - 1)
      owed_before c owed k less = owed k (omega (arith, less))

      pub row_kept : KeepsRow target 2 top down end
      row_kept = record {
        carries = record {
          commands = λ c h legal owed. (row_at c h legal owed).carries.commands c (le_refl c) legal owed;
          answers = λ c h legal owed. (row_at c h legal (owed_before c owed)).carries.answers c (le_refl c) legal owed;
        };
        codes = λ c h legal owed. (row_at c h legal (owed_before c owed)).codes c (le_refl c) legal owed;
        hands_on = λ c h legal owed. (row_at c h legal owed).hands_on c (le_refl c) legal owed;
      }

      pub lanes_brought : BringsLanesDown (drops_some drops) target top down end
      lanes_brought c h legal owed has =
          let linked = linked_at c h legal owed in
          let lanes = subst (λ b. BringsLanesDown b linked.form.target top down c) linked.lanes linked.link.lanes in
          (subst (λ t. BringsLanesDown (drops_some drops) t top down c) linked.for_target lanes) c (le_refl c) legal owed has

pub row_brings_lanes : RowLaws → (system : System) (run : Run) (host agent : ℕ) (top middle low down : Port) (end : ℕ) →
    (cuts : CutsBursts top middle) (fits : FitsWords (target_of system agent) middle low) (drops : DropsBeats (target_of system agent) low down) → GathersBelowCut cuts fits → EnablesFit top end → JoinsAlike (target_of system agent) top end →
    (IsFalse (drops_some drops) → (c : ℕ) → c ≤ end → HavePlacedLanes system host agent (sent_by (host_transfers system run host c))) → BringsLanes system run host agent top down end
row_brings_lanes laws system run host agent top middle low down end cuts fits drops gathers enables alike placed = by_drops (drops_some drops) refl
  where
    by_drops : (b : Bool) → drops_some drops ≡ b → BringsLanes system run host agent top down end
    by_drops true is = made (λ c h legal owed. lanes_brought laws (target_of system agent) top middle low down end cuts fits drops gathers enables alike c h legal owed (λ none. absurd cc))
    by_drops false is = kept (placed is) (λ c h legal owed has. lanes_brought laws (target_of system agent) top middle low down end cuts fits drops gathers enables alike c h legal owed (λ none. has))
