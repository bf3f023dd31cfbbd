use Rattle.std.proofs.Common.{ℕ, suc, ◌≡◌, ◌+◌, ◌*◌, ◌/◌, ◌<◌, ◌≤◌, ◌∙◌, max, min, Bool, true, false, not, nat_eq, ap, ap₂, arith, refl, sym, subst, IsTrue}
use Rattle.std.proofs.lemmas.Bool.{or_parts}
use Rattle.memory_runs.specs.Views.{System, Run, Responses}
use Rattle.memory_runs.specs.Operations.{pieces}
use Rattle.memory_runs.specs.Order.{is_joined}
use Rattle.memory_runs.specs.Onward.{longest_of}
use Rattle.memory_runs.specs.Whole.{IsLegalRun}
use Rattle.memory_machines.specs.Lines.{target_of}
use Rattle.memory_machines.specs.Link.{Target, Port, AreLegalAt, AnswersAreOwed}
use Rattle.memory_links.specs.Selects.{EnablesFit}
use Rattle.memory_awake.specs.Onward.{is_good}
use Rattle.memory_awake.specs.Rows.{CutsBursts, FitsWords, FitsWords.selector, FitsWords.gatherer, FitsWords.splitter, FitsWords.no_width, DropsBeats, DropsBeats.dropper, DropsBeats.no_dropper, GathersBelowCut}
use Rattle.memory_awake.specs.RowSystem.{RowPorts, AreRows, boundaries_of}
use Rattle.memory_awake.specs.Steps.{HasStepsLeft}
use Rattle.memory_awake.specs.Theorem.{ArePlanned, AreMachines, States, LinkRanks, IsBuilt}
use Rattle.memory_waits.specs.Neighbours.{fitted_steps}
use Rattle.memory_waits.specs.Waits.{LeadsDown, is_quiet}
use Rattle.memory_waits.specs.Watched.{LeadsBy, may_wait, stands_or_owes}
use Rattle.memory_waits.specs.Windows.{own_steps}
use Rattle.memory_waits.proofs.Bits.{no_both}
use Rattle.memory_waits.proofs.DropLeads.{drop_leads}
use Rattle.memory_waits.proofs.Fitted.{Fitting, by_wire, fitted_drains, wire_fits}
use Rattle.memory_waits.proofs.GatherFits.{fits_for, gatherer_fits, parts_of_wide}
use Rattle.memory_waits.proofs.Joined.{cuts_lead}
use Rattle.memory_waits.proofs.Leads.{Drains, drains_lead, waits_more}
use Rattle.memory_waits.proofs.OneBeat.{enables_below}
use Rattle.memory_waits.proofs.Rows.{cut_words, few_words, wire_owed}
use Rattle.memory_waits.proofs.SelectFits.{select_fits}
use Rattle.memory_waits.proofs.Shorter.{shorter_legal}
use Rattle.memory_waits.proofs.SplitFits.{split_fits}
use Rattle.memory_waits.proofs.Wire.{wire_self}
use Rattle.memory_waits.proofs.hosts.rows_lead_down.Goals.{After-machines_with_links_are_built}
use Rattle.memory_waits.proofs.hosts.rows_lead_down.Goals as goal

module _ (c : After-machines_with_links_are_built) (responses : Responses) (system : System) (run : Run) (ports : RowPorts) (states : States) (end before : ℕ) (next : end ≡ suc before) (agent host : ℕ) (planned : ArePlanned system (boundaries_of ports) states)
    (machines : AreMachines responses system run (boundaries_of ports) states end) (rows : AreRows system run ports end) (legal : IsLegalRun system run end) (there : agent < system.agents) (low : host < system.hosts)
    (cuts : CutsBursts (ports.after_route host agent) (ports.below_cutter host agent)) (fits : FitsWords (target_of system agent) (ports.below_cutter host agent) (ports.above_dropper host agent))
    (drops : DropsBeats (target_of system agent) (ports.above_dropper host agent) (ports.before_arbiter host agent)) (gathers : GathersBelowCut cuts fits)
    (rest : ℕ → ℕ) (has : HasStepsLeft (ports.above_dropper host agent) (is_quiet system run agent (ports.above_dropper host agent)) (fitted_steps system agent host) rest before) where
  abbrev target : Target
  target = target_of system agent

  abbrev top : Port
  top = ports.after_route host agent

  abbrev middle : Port
  middle = ports.below_cutter host agent

  abbrev under : Port
  under = ports.above_dropper host agent

  abbrev bottom : Port
  bottom = ports.before_arbiter host agent

  abbrev longest : ℕ
  longest = longest_of system host

  abbrev parts : ℕ
  parts = max 1 (pieces (system.host host).shape (system.agent agent).shape)

  abbrev words : ℕ
  words = pieces (system.agent agent).shape (system.host host).shape

  abbrev many : ℕ
  many = parts + words

  built : (ranks : LinkRanks) × IsBuilt responses system run (boundaries_of ports) states ranks end
  built = c.machines_with_links_are_built.ensures.built responses system run ports states end planned machines rows legal

  past : before ≤ end
  past = omega (arith, next)

  legal_top : AreLegalAt top end
  legal_top = (c.machines_with_links_are_built.ensures.settled responses system run ports states end planned machines rows legal host agent low there).0

  owed_bottom : AnswersAreOwed bottom end
  owed_bottom = (c.machines_with_links_are_built.ensures.settled responses system run ports states end planned machines rows legal host agent low there).1

  fit_top : EnablesFit top end
  fit_top = (c.machines_with_links_are_built.ensures.settled responses system run ports states end planned machines rows legal host agent low there).3

  legal_middle : AreLegalAt middle end
  legal_middle = (built.1.links.going host agent 2 low there (omega arith)).legal_down

  legal_under : AreLegalAt under end
  legal_under = (built.1.links.going host agent 1 low there (omega arith)).legal_down

  owed_under : AnswersAreOwed under end
  owed_under = by_drop drops
    where
      by_drop : DropsBeats target under bottom → AnswersAreOwed under end
      by_drop (no_dropper wired) = wire_owed under bottom wired.wire end owed_bottom
      by_drop (dropper room state plan some runs) = c.drop_owes_its_words.ensures.owed target room under bottom state end plan runs legal_under owed_bottom

  -- ---- words

  same_under : under.shape.word_bytes ≡ bottom.shape.word_bytes
  same_under = by_drop drops
    where
      by_drop : DropsBeats target under bottom → under.shape.word_bytes ≡ bottom.shape.word_bytes
      by_drop (no_dropper wired) = ap (λ (p : Port). p.shape.word_bytes) wired.wire.same
      by_drop (dropper room state plan some runs) = sym plan.same

  middle_words : middle.shape.word_bytes ≡ (system.host host).shape.word_bytes
  middle_words = (cut_words top middle cuts).0 ∙ ap (λ s. s.word_bytes) ((machines.route host low).shapes agent there) ∙ (planned.places host low).words

  few_pieces : pieces middle.shape under.shape ≤ parts
  few_pieces =
      let most = built.1.rows.words host agent low there in
      let same : pieces middle.shape under.shape ≡ pieces top.shape bottom.shape = ap₂ (λ (x y : ℕ). x / min x y) (cut_words top middle cuts).0 same_under in
      omega (arith, most, same)

  -- ---- what fits words

  fitting : (fits : FitsWords target middle under) → GathersBelowCut cuts fits → (left : ℕ → ℕ) × Fitting target middle under (stands_or_owes under) left many before
  fitting (no_width wired) at = ((λ k. 1), wire_fits middle under wired.wire target many before (omega arith))
  fitting (selector count room offsets plan deep runs) at =
      let link = c.select_is_a_link.ensures target middle under count room offsets end plan deep runs (enables_below end cuts fit_top) in
      ((λ k. 1), fits_for many many end before (omega arith) past (select_fits target room count middle under offsets runs plan deep end link.row legal_middle owed_under (few_words under end owed_under) many (omega arith)))
  fitting (splitter count room state may some runs) at =
      let link = c.split_is_a_link.ensures target room count middle under state (suc before) may some runs in
      (_, fits_for parts many before before (omega arith) (omega arith) (split_fits target room middle under state runs parts before link.row (subst (λ k. AreLegalAt middle k) next legal_middle) (subst (λ k. AnswersAreOwed under k) next owed_under) may.one_beat some few_pieces (omega arith)))
  fitting (gatherer count room state plan deep runs) at =
      let fit = gatherer_fits c.gather_is_a_link.ensures c.touches_lie_in_words.ensures.lie target top middle under count room state plan deep runs end cuts at legal_top fit_top legal_middle owed_under in
      (fit.0, fits_for (count + 1) many end before few past fit.1)
    where
      few : count + 1 ≤ many
      few =
          let same = middle_words in
          let some = plan.some in
          let more = plan.more in
          let is = parts_of_wide (system.agent agent).shape (system.host host).shape count (sym plan.same ∙ plan.whole ∙ ap (λ n. count * n) middle_words) (omega (arith, same, some)) (omega (arith, more)) in
          omega (arith, is)

  -- ---- and what stands before the arbiter

  held : (held : ℕ → ℕ) × LeadsDown target top middle held longest before
  held =
      let reads = c.routes_take_few_steps.ensures responses system run (boundaries_of ports) states built.0 end agent host built.1 legal there low in
      cuts_lead target top middle middle longest before cuts (wire_self middle)
      (λ k fit shown kind. (let count = reads.2.few k (omega (arith, fit, next)) shown kind in let all = reads.1.few k (omega (arith, fit, next)) in omega (arith, count, all)))

  fitted : (left : ℕ → ℕ) × Fitting target middle under (stands_or_owes under) left many before
  fitted = fitting fits gathers

  drains : Drains target top under (stands_or_owes under) (λ k. nat_eq (held.0 k) 0) (λ k. held.0 k * many + fitted.0 k) (longest * many + many) before
  drains = fitted_drains target top middle under held.0 longest (stands_or_owes under) fitted.0 many before held.1 fitted.1

  few_steps : longest * many + many ≤ fitted_steps system agent host
  few_steps =
      let all : (longest + 1) * (parts + words) ≡ longest * (parts + words) + (parts + words) = omega arith in
      omega (arith, all)

  leads : DropsBeats target under bottom → (left : ℕ → ℕ) × (still : ℕ → ℕ → ℕ) × LeadsBy target top bottom (may_wait system run agent bottom) left still (own_steps system agent host) before
  leads (no_dropper wired) = (
    _,
    _,
    waits_more before (λ k stops. (or_parts (not (is_good system run agent k)) (stands_or_owes bottom k) stops).1) (let few = few_steps in omega (arith, few))
        (drains_lead target top bottom (stands_or_owes bottom) _ _ (longest * many + many) before (by_wire under bottom wired.wire target top _ _ (longest * many + many) before drains)),
  )
  leads (dropper room state plan some runs) = (
    _,
    _,
    waits_more before (λ k stops. stops) (let few = few_steps in omega (arith, few))
        (drop_leads target room top under bottom state before plan runs (shorter_legal under end before past legal_under) (λ k fit. owed_bottom k (omega (arith, fit, next)))
        (λ k fit own. c.drop_owes_its_words.ensures.apart target room under bottom state end plan runs legal_under owed_bottom k (omega (arith, fit, next)) own) some
        (is_good system run agent) _ _ (longest * many + many) drains (fitted_steps system agent host) rest has),
  )

pub returns : goal.returns
returns c = λ responses system run ports states end agent host planned machines rows legal there low joined.
    let d = (goal.at.returns c).After-machines_with_links_are_built in
    by_idle d responses system run ports states end agent host planned machines rows legal there low joined (rows.idle host agent) refl
  where
    by_idle : After-machines_with_links_are_built → (responses : Responses) (system : System) (run : Run) (ports : RowPorts) (states : States) (end agent host : ℕ) → ArePlanned system (boundaries_of ports) states → AreMachines responses system run (boundaries_of ports) states (end + 1) →
        (rows : AreRows system run ports (end + 1)) → IsLegalRun system run (end + 1) → agent < system.agents → host < system.hosts → IsTrue (is_joined system agent host) → (b : Bool) → rows.idle host agent ≡ b →
        (left : ℕ → ℕ) × (still : ℕ → ℕ → ℕ) × LeadsBy (target_of system agent) (ports.after_route host agent) (ports.before_arbiter host agent) (may_wait system run agent (ports.before_arbiter host agent)) left still (own_steps system agent host) end
    by_idle d responses system run ports states end agent host planned machines rows legal there low joined true idle = absurd (no_both (is_joined system agent host) joined (rows.apart host agent low there idle).0)
    by_idle d responses system run ports states end agent host planned machines rows legal there low joined false idle =
        let few = d.fitted_rows_take_few_steps.ensures responses system run ports states end agent host planned machines rows legal there low joined in
        leads d responses system run ports states (end + 1) end (omega arith) agent host planned machines rows legal there low (rows.cuts host agent low there idle) (rows.fits host agent low there idle) (rows.drops host agent low there idle) (rows.gathers host agent low there idle)
        few.0 few.1 (rows.drops host agent low there idle)
