-- A row of link machines leads to the arbiter: plain commands go straight through it, in step, and first beats are shown promptly.
use Rattle.std.proofs.Common.{ℕ, zero, suc, ◌*◌, ◌⊎◌, inl, inr, ◌<◌, ◌≡◌, Bool, true, false, not, ◌||◌, List, arith, refl, sym, ap, subst, ◌∙◌, IsTrue, IsFalse, le_refl}
use Rattle.std.proofs.lemmas.Bool.{both_ways, or_right}
use Rattle.memory_runs.specs.Commands.{shows}
use Rattle.memory_machines.specs.Link.{Target, Port, AreLegalAt, AnswersAreOwed, marked_at, operations_in, is_nonempty}
use Rattle.memory_machines.specs.Machines.{MaySplit}
use Rattle.memory_machines.specs.PartRanks.{JoinsAlike}
use Rattle.memory_machines.specs.Straight.{GoesStraightThrough, IsShownPromptly, shows_plain, may_be_prompt}
use Rattle.memory_links.specs.Begins.{BeginsBelow}
use Rattle.memory_links.specs.Cutters.{Reach, CutterState, RunsAsCutter, IsCutPlan, cut_form}
use Rattle.memory_links.specs.Drops.{DropState, RunsAsDrop, IsDropPlan, drop_form}
use Rattle.memory_links.specs.Gathers.{GatherState, RunsAsGather, IsGatherPlan, LieInWords}
use Rattle.memory_links.specs.InStep.{GoesInStep, AreInStep}
use Rattle.memory_links.specs.Links.{LinkForm, IsLink, IsStraightLink, chain_form, pass_form}
use Rattle.memory_links.specs.Selects.{RunsAsSelect, IsSelectPlan, EnablesFit}
use Rattle.memory_links.specs.Splits.{SplitState, RunsAsSplit, split_form}
use Rattle.memory_awake.specs.Rows.{IsWired, CutsBursts, CutsBursts.cutter, CutsBursts.no_cutter, FitsWords, FitsWords.selector, FitsWords.gatherer, FitsWords.splitter, FitsWords.no_width, DropsBeats, DropsBeats.dropper, DropsBeats.no_dropper, GathersBelowCut}
use Rattle.memory_awake.proofs.FitsBelow.{Suits, suits_below}
use Rattle.memory_awake.proofs.RowOfThree.{Carries, IsSettled, settled}
use Rattle.memory_awake.proofs.RowLine.{RowLaws, cut_linked, fit_linked, drop_linked, linked_carries, cut_words, drop_words, same_below}
use Rattle.memory_awake.proofs.Widened.{wire_link, wire_chain, owed_above_wire, straight_behind_wire, steps_behind_wire, begins_behind_wire, begins_before_wire}

-- the laws of single links
pub record LeadLaws : Type 0 where
  pub rows : RowLaws
  -- straight and in step
  pub wire : (target : Target) (port : Port) (end : ℕ) → IsStraightLink 0 false false target port port end
  pub wire_steps : (ahead : Bool) (target : Target) (port : Port) (end : ℕ) → GoesInStep ahead target port port end
  pub cut : (target : Target) (reach : Reach) (longest : ℕ) (up down : Port) (state : CutterState) (end : ℕ) → IsCutPlan reach longest up.shape down.shape → RunsAsCutter reach longest up down state → (few : ℕ) (may_burst : Bool) → IsStraightLink few false may_burst target up down end
  pub cut_steps : (target : Target) (reach : Reach) (longest : ℕ) (up down : Port) (state : CutterState) (end : ℕ) → IsCutPlan reach longest up.shape down.shape → RunsAsCutter reach longest up down state → AreLegalAt up end → AnswersAreOwed down end → GoesInStep false target up down end
  pub drop : (target : Target) (room : ℕ) (up down : Port) (state : DropState) (end : ℕ) → IsDropPlan target up.shape down.shape → 0 < room → RunsAsDrop room up down state → JoinsAlike target up end → (few : ℕ) → IsStraightLink few false false target up down end
  pub drop_steps : (target : Target) (room : ℕ) (up down : Port) (state : DropState) (end : ℕ) → IsDropPlan target up.shape down.shape → 0 < room → RunsAsDrop room up down state → JoinsAlike target up end → AreLegalAt up end → AnswersAreOwed down end → GoesInStep false target up down end
  pub split : (target : Target) (room : ℕ) (up down : Port) (state : SplitState) (end : ℕ) → MaySplit target up.shape down.shape 1 → 0 < room → RunsAsSplit room up down state → AreLegalAt up end → AnswersAreOwed down end → GoesStraightThrough (λ c. false) target up down end
  pub split_steps : (target : Target) (room : ℕ) (up down : Port) (state : SplitState) (end : ℕ) → MaySplit target up.shape down.shape 1 → 0 < room → RunsAsSplit room up down state → AreLegalAt up end → AnswersAreOwed down end → GoesInStep false target up down end
  pub acts : (target : Target) (port : Port) (c : ℕ) → 0 < port.shape.word_bytes → target.shape.word_bytes ≡ port.shape.word_bytes → IsTrue (shows_plain port c) → IsTrue (is_nonempty (operations_in target port.shape (marked_at port c)))
  pub chain : (ahead : Bool) (first second : LinkForm) (up middle down : Port) (end : ℕ) → first.target ≡ second.target → IsLink first up middle end → IsLink second middle down end → AreLegalAt up end → AnswersAreOwed down end → AreInStep ahead first.target up middle down end →
      GoesStraightThrough (λ c. ahead) first.target up middle end → GoesStraightThrough (λ c. ahead) first.target middle down end → GoesStraightThrough (λ c. ahead) first.target up down end
  pub chain_steps : (ahead : Bool) (first second : LinkForm) (up middle down : Port) (end : ℕ) → first.target ≡ second.target → IsLink first up middle end → IsLink second middle down end → AreLegalAt up end → AnswersAreOwed down end → AreInStep ahead first.target up middle down end →
      GoesStraightThrough (λ c. ahead) first.target up middle end → up.shape.word_bytes ≡ middle.shape.word_bytes → GoesInStep ahead first.target up down end
  -- prompt
  pub prompt : (few : ℕ) (may_burst : Bool) (target : Target) (up down : Port) (end : ℕ) → AreLegalAt up end → AreLegalAt down end → BeginsBelow few may_burst target up down end → IsShownPromptly few may_burst target up down end
  pub singles : (few : ℕ) (may_burst : Bool) (target : Target) (up down : Port) (end : ℕ) → ((c : ℕ) → c < end → IsTrue (shows up.commands.signals c) → IsTrue (may_be_prompt false (marked_at up c))) → BeginsBelow few false target up down end → BeginsBelow few may_burst target up down end
  pub pass_begins : (few : ℕ) (may_burst : Bool) (target : Target) (port : Port) (end : ℕ) → AreLegalAt port end → BeginsBelow few may_burst target port port end
  pub select_begins : (target : Target) (up down : Port) (many room : ℕ) (offsets : ℕ → List ℕ) (end : ℕ) → IsSelectPlan target up.shape down.shape many → 1 < room → RunsAsSelect room up down offsets → EnablesFit up end → AreLegalAt up end → AnswersAreOwed down end →
      (few : ℕ) (may_burst : Bool) → BeginsBelow few may_burst target up down end
  pub gather_begins : (target : Target) (up down : Port) (many room : ℕ) (state : GatherState) (end : ℕ) → IsGatherPlan target up.shape down.shape many → 0 < room → RunsAsGather room up down state → LieInWords up down.shape end → AreLegalAt up end → AnswersAreOwed down end →
      (few : ℕ) (may_burst : Bool) → BeginsBelow few may_burst target up down end
  pub split_begins : (target : Target) (room count : ℕ) (up down : Port) (state : SplitState) (end : ℕ) → MaySplit target up.shape down.shape count → 0 < room → RunsAsSplit room up down state → AreLegalAt up end → AnswersAreOwed down end →
      (few : ℕ) (may_burst : Bool) → BeginsBelow few may_burst target up down end
  pub drop_begins : (target : Target) (room : ℕ) (up down : Port) (state : DropState) (end : ℕ) → IsDropPlan target up.shape down.shape → 0 < room → RunsAsDrop room up down state → JoinsAlike target up end → AreLegalAt up end → AnswersAreOwed down end → (few : ℕ) → BeginsBelow few false target up down end
  pub split_over_drop : (target : Target) (deep room count : ℕ) (up middle down : Port) (splits : SplitState) (drops : DropState) (end : ℕ) → MaySplit target up.shape middle.shape count → 0 < deep → RunsAsSplit deep up middle splits → IsDropPlan target middle.shape down.shape → 0 < room →
      RunsAsDrop room middle down drops → JoinsAlike target up end → AreLegalAt up end → AnswersAreOwed down end → (few : ℕ) → 0 < few → BeginsBelow few false target up down end
  pub cut_over : (target : Target) (reach : Reach) (longest : ℕ) (up middle down : Port) (state : CutterState) (end few : ℕ) (may_burst : Bool) → IsCutPlan reach longest up.shape middle.shape → RunsAsCutter reach longest up middle state → AreLegalAt up end → AnswersAreOwed middle end →
      BeginsBelow few may_burst target middle down end → BeginsBelow few may_burst target up down end

-- an agent before which beats are dropped has no byte enables, so where write bursts to it are counted the host has none either
pub wired_for_bursts : (target : Target) (low down : Port) (host_has : Bool) → DropsBeats target low down → (IsFalse host_has → IsWired low down) → IsTrue (not host_has || target.shape.has_enables) → IsWired low down
wired_for_bursts target low down false drops wired may = wired refl
wired_for_bursts target low down true (no_dropper wired) enables may = wired
wired_for_bursts target low down true (dropper room state plan some run) enables may = absurd (both_ways target.shape.has_enables plan.enables may)

module _ (laws : LeadLaws) (target : Target) (end : ℕ) where
  -- ---- straight and in step, between equal words

  record Leads (up down : Port) : Type 0 where
    pub straight : GoesStraightThrough (λ c. false) target up down end
    pub step : GoesInStep false target up down end

  -- a link of some form that leads
  record Led (up down : Port) : Type 0 where
    pub form : LinkForm
    pub link : IsLink (record form { target = target }) up down end
    pub some : 0 < up.shape.word_bytes
    pub same : down.shape.word_bytes ≡ up.shape.word_bytes
    pub leads : AreLegalAt up end → AnswersAreOwed down end → Leads up down

  -- one whose words are those of the agent
  record FitLed (up down : Port) : Type 0 where
    pub led : Led up down
    pub fits : target.shape.word_bytes ≡ up.shape.word_bytes

  -- and that is word for word
  record LastLed (up down : Port) : Type 0 where
    pub fit : FitLed up down
    pub words : IsTrue fit.led.form.word_for_word

  two_lead : (up middle down : Port) → Led up middle → FitLed middle down → AreLegalAt up end → AnswersAreOwed down end → AreLegalAt middle end → AnswersAreOwed middle end → Leads up down
  two_lead up middle down one two legal owed legal_there owed_there = record {
    straight = laws.chain false (record one.form { target = target }) (record two.led.form { target = target }) up middle down end refl one.link two.led.link legal owed steps above.straight below.straight;
    step = laws.chain_steps false (record one.form { target = target }) (record two.led.form { target = target }) up middle down end refl one.link two.led.link legal owed steps above.straight (sym one.same);
  }
    where
      above : Leads up middle
      above = one.leads legal owed_there

      below : Leads middle down
      below = two.led.leads legal_there owed

      steps : AreInStep false target up middle down end
      steps = record { words = λ same. one.same; acts = λ c h plain. laws.acts target up c one.some (two.fits ∙ one.same) plain; first = above.step; second = below.step }

  drop_led : (low down : Port) (room : ℕ) (state : DropState) → IsDropPlan target low.shape down.shape → 0 < room → RunsAsDrop room low down state → JoinsAlike target low end → LastLed low down
  drop_led low down room state plan some run alike = record {
    fit = record {
      led = record {
        form = drop_form target;
        link = laws.rows.links.drop target room low down state end plan some run alike;
        some = plan.some;
        same = plan.same;
        leads = λ legal owed. record { straight = (laws.drop target room low down state end plan some run alike 0).straight legal owed; step = laws.drop_steps target room low down state end plan some run alike legal owed };
      };
      fits = plan.agent;
    };
    words = refl;
  }

  split_led : (middle low : Port) (room : ℕ) (state : SplitState) → MaySplit target middle.shape low.shape 1 → 0 < room → RunsAsSplit room middle low state → FitLed middle low
  split_led middle low room state may some run =
      let once : 1 * low.shape.word_bytes ≡ low.shape.word_bytes = omega arith in
      let words : middle.shape.word_bytes ≡ low.shape.word_bytes = may.whole ∙ once in
      record {
        led = record {
          form = split_form target;
          link = laws.rows.links.split target room 1 middle low state end may some run;
          some = (let less = may.some in omega (arith, words, less));
          same = sym words;
          leads = λ legal owed. record { straight = laws.split target room middle low state end may some run legal owed; step = laws.split_steps target room middle low state end may some run legal owed };
        };
        fits = sym may.same ∙ sym words;
      }

  -- a wire
  abbrev wire_led : (up down : Port) → IsWired up down → Led up down
  wire_led up down wired = record {
    form = pass_form target;
    link = wire_link target up down end wired.wire (laws.rows.links.wire target up end wired.some);
    some = wired.some;
    same = sym (ap (λ p. p.shape.word_bytes) wired.wire.same);
    leads = λ legal owed. record {
      straight = straight_behind_wire up down wired.wire target end up (λ c. false) ((laws.wire target up end).straight legal (owed_above_wire up down wired.wire end owed));
      step = steps_behind_wire up down wired.wire target end up false (laws.wire_steps false target up end);
    };
  }

  cut_led : (top middle : Port) → CutsBursts top middle → Led top middle
  cut_led top middle (cutter reach longest state plan run) = record {
    form = cut_form target;
    link = laws.rows.links.cut target reach longest top middle state end plan run;
    some = plan.some;
    same = plan.same;
    leads = λ legal owed. record { straight = (laws.cut target reach longest top middle state end plan run 0 false).straight legal owed; step = laws.cut_steps target reach longest top middle state end plan run legal owed };
  }
  cut_led top middle (no_cutter wired) = wire_led top middle wired

  -- between equal words a splitter makes one piece, and no lane selector stands there
  count_is_one : (count size : ℕ) → 0 < count → 0 < size → count * size ≡ size → count ≡ 1
  count_is_one zero size more some same = omega (arith, more)
  count_is_one (suc zero) size more some same = refl
  count_is_one (suc (suc k)) size more some same = absurd (omega (arith, some, same))

  -- one over another, which is word for word
  chain_led : (up middle down : Port) → FitLed up middle → LastLed middle down → AreLegalAt middle end → AnswersAreOwed middle end → FitLed up down
  chain_led up middle down one two legal owed = record {
    led = record {
      form = chain_form (record one.led.form { target = target }) (record two.fit.led.form { target = target });
      link = laws.rows.chain (record one.led.form { target = target }) (record two.fit.led.form { target = target }) up middle down end
          (record { target = refl; pieces = same_below {middle = middle} {down = down} up (record { some = two.fit.led.some; same = two.fit.led.same }); words = or_right one.led.form.word_for_word _ two.words }) one.led.link two.fit.led.link;
      some = one.led.some;
      same = two.fit.led.same ∙ one.led.same;
      leads = λ legal_up owed_down. two_lead up middle down one.led two.fit legal_up owed_down legal owed;
    };
    fits = one.fits;
  }

  -- what lies below the cutter
  lower_led : (middle low down : Port) → FitsWords target middle low → DropsBeats target low down → middle.shape.word_bytes ≡ low.shape.word_bytes → JoinsAlike target low end → AreLegalAt low end → AnswersAreOwed low end → IsWired middle down ⊎ FitLed middle down
  lower_led middle low down (selector many room offsets plan deep run) drops same alike legal owed =
      let more = plan.more in
      let one = count_is_one many middle.shape.word_bytes (omega (arith, more)) plan.some (sym (same ∙ plan.whole)) in
      absurd (omega (arith, more, one))
  lower_led middle low down (gatherer many room state plan deep run) drops same alike legal owed =
      let more = plan.more in
      let one = count_is_one many middle.shape.word_bytes (omega (arith, more)) plan.some (sym (same ∙ plan.whole)) in
      absurd (omega (arith, more, one))
  lower_led middle low down (no_width wired) (no_dropper below) same alike legal owed = inl (record { wire = wire_chain middle low down wired.wire below.wire; some = wired.some })
  lower_led middle low down (no_width wired) (dropper room state plan some run) same alike legal owed =
      let last = drop_led low down room state plan some run alike in
      inr (chain_led middle low down (record { led = wire_led middle low wired; fits = last.fit.fits ∙ sym same }) last legal owed)
  lower_led middle low down (splitter count room state may some run) drops same alike legal owed = inr (chain_led middle low down high (below drops) legal owed)
    where
      high : FitLed middle low
      high = split_led middle low room state (subst (MaySplit target middle.shape low.shape) (count_is_one count low.shape.word_bytes may.one may.some (sym (sym same ∙ may.whole))) may) some run

      below : DropsBeats target low down → LastLed low down
      below (no_dropper wired) = record { fit = record { led = wire_led low down wired; fits = sym may.same }; words = refl }
      below (dropper deep drops plan less drop) = drop_led low down deep drops plan less drop alike

  three_lead : (top middle down : Port) → Led top middle → IsWired middle down ⊎ FitLed middle down → AreLegalAt top end → AnswersAreOwed down end → AreLegalAt middle end → AnswersAreOwed middle end → Leads top down
  three_lead top middle down one (inl below) legal owed legal_there owed_there =
      let leads = one.leads legal owed_there in record {
        straight = straight_behind_wire middle down below.wire target end top (λ c. false) leads.straight;
        step = steps_behind_wire middle down below.wire target end top false leads.step;
      }
  three_lead top middle down one (inr two) legal owed legal_there owed_there = two_lead top middle down one two legal owed legal_there owed_there

  -- ---- the row

  module _ (top middle low down : Port) (cuts : CutsBursts top middle) (fits : FitsWords target middle low) (drops : DropsBeats target low down) (gathers : GathersBelowCut cuts fits) (enables : EnablesFit top end) (legal : AreLegalAt top end) (owed : AnswersAreOwed down end) (alike : JoinsAlike target top end) where
    fit_middle : Suits fits end
    fit_middle = suits_below laws.rows.links.lie end cuts fits gathers enables legal

    high : Carries target top middle end
    high = linked_carries (cut_linked laws.rows target top middle cuts end)

    mid : Carries target middle low end
    mid = linked_carries (fit_linked laws.rows target middle low fits end fit_middle)

    last : (c : ℕ) → JoinsAlike target low c → Carries target low down c
    last c there = linked_carries (drop_linked laws.rows target low down drops c there)

    between : IsSettled target top middle low down end legal owed alike high mid last end
    between = settled target top middle low down end legal owed alike high mid last end (le_refl end)

    row_leads : top.shape.word_bytes ≡ down.shape.word_bytes → Leads top down
    row_leads same =
        three_lead top middle down (cut_led top middle cuts)
        (lower_led middle low down fits drops ((cut_words cuts).same ∙ same ∙ (drop_words drops).same) between.alike_low between.legal_low between.owed_low) legal owed between.legal_middle between.owed_middle

    pub row_is_straight : GoesStraightThrough (λ c. false) target top down end
    row_is_straight = record {
      shown = λ c h same. (row_leads same).straight.shown c h same;
      accepted = λ c h same. (row_leads same).straight.accepted c h same;
      kept = λ c h same. (row_leads same).straight.kept c h same;
    }

    pub row_is_in_step : top.shape.word_bytes ≡ down.shape.word_bytes → GoesInStep false target top down end
    row_is_in_step same = (row_leads same).step

    module _ (few : ℕ) (may_burst : Bool) (later : 0 < few) where
      fit_begins : (fits : FitsWords target middle low) → Suits fits end → BeginsBelow few may_burst target middle low end
      fit_begins (selector many room offsets plan deep run) fit = laws.select_begins target middle low many room offsets end plan deep run fit between.legal_middle between.owed_low few may_burst
      fit_begins (gatherer many room state plan deep run) lie = laws.gather_begins target middle low many room state end plan (omega (arith, deep)) run lie between.legal_middle between.owed_low few may_burst
      fit_begins (splitter count room state may some run) fit = laws.split_begins target room count middle low state end may some run between.legal_middle between.owed_low few may_burst
      fit_begins (no_width wired) fit = begins_behind_wire middle low wired.wire target end middle few may_burst (laws.pass_begins few may_burst target middle end between.legal_middle)

      single_begins : FitsWords target middle low → (room : ℕ) (state : DropState) → IsDropPlan target low.shape down.shape → 0 < room → RunsAsDrop room low down state → BeginsBelow few false target middle down end
      single_begins (selector many deep offsets above some_deep select) room state plan some run = absurd (both_ways target.shape.has_enables plan.enables above.enables)
      single_begins (gatherer many deep gather above some_deep gather_run) room state plan some run = absurd (both_ways target.shape.has_enables plan.enables above.enables)
      single_begins (splitter count deep splits may some_deep split) room state plan some run =
          laws.split_over_drop target deep room count middle low down splits state end may some_deep split plan some run between.alike_middle between.legal_middle owed few later
      single_begins (no_width wired) room state plan some run =
          begins_before_wire middle low wired.wire target end down few false (laws.drop_begins target room low down state end plan some run between.alike_low between.legal_low owed few)

      lower_begins : (IsTrue may_burst → IsWired low down) → BeginsBelow few may_burst target middle down end
      lower_begins single = by_burst may_burst refl drops
        where
          wired_below : IsWired low down → BeginsBelow few may_burst target middle down end
          wired_below wired = begins_behind_wire low down wired.wire target end middle few may_burst (fit_begins fits fit_middle)

          by_burst : (b : Bool) → may_burst ≡ b → DropsBeats target low down → BeginsBelow few may_burst target middle down end
          by_burst true e any = wired_below (single e)
          by_burst false e (no_dropper wired) = wired_below wired
          by_burst false e (dropper room state plan some run) = subst (λ b. BeginsBelow few b target middle down end) (sym e) (single_begins fits room state plan some run)

      upper_begins : CutsBursts top middle → BeginsBelow few may_burst target middle down end → BeginsBelow few may_burst target top down end
      upper_begins (cutter reach longest state plan run) below = laws.cut_over target reach longest top middle down state end few may_burst plan run legal between.owed_middle below
      upper_begins (no_cutter wired) below = begins_before_wire top middle wired.wire target end down few may_burst below

      legal_below : AreLegalAt down end
      legal_below = ((last end between.alike_low).carries.commands end (le_refl end) between.legal_low (λ k less. owed k (omega (arith, less)))).legal

      pub row_is_prompt : (IsTrue may_burst → IsWired low down) → IsShownPromptly few may_burst target top down end
      row_is_prompt single = laws.prompt few may_burst target top down end legal legal_below (upper_begins cuts (lower_begins single))

    pub single_is_prompt : (few : ℕ) (may_burst : Bool) → 0 < few → ((c : ℕ) → c < end → IsTrue (shows top.commands.signals c) → IsTrue (may_be_prompt false (marked_at top c))) → IsShownPromptly few may_burst target top down end
    single_is_prompt few may_burst later single =
        laws.prompt few may_burst target top down end legal (legal_below few may_burst later) (laws.singles few may_burst target top down end single (upper_begins few false later cuts (lower_begins few false later (λ bursts. absurd cc))))
