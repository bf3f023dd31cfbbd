use Rattle.std.proofs.lemmas.Bool.{and_parts}
use Rattle.std.proofs.Common.{ℕ, zero, suc, ◌≡◌, ◌+◌, ◌<◌, ◌≤◌, Bool, true, false, not, ◌&&◌, arith, refl, subst, IsTrue, IsFalse}
use Rattle.memory_runs.specs.Views.{System, Run, Responses}
use Rattle.memory_runs.specs.Order.{is_joined}
use Rattle.memory_runs.specs.Whole.{IsLegalRun}
use Rattle.memory_machines.specs.Lines.{TaggedPort, target_of}
use Rattle.memory_machines.specs.Link.{Port, Target, AreLegalAt, AnswersAreOwed, takes, taken_at, is_last_joined}
use Rattle.memory_machines.specs.PartRanks.{JoinsAlike}
use Rattle.memory_parts.specs.Steps.{IsArbiterPart, is_gone}
use Rattle.memory_awake.specs.Onward.{is_good}
use Rattle.memory_awake.specs.Rows.{CutsBursts, CutsBursts.cutter, CutsBursts.no_cutter, FitsWords, FitsWords.selector, FitsWords.gatherer, FitsWords.splitter, FitsWords.no_width, DropsBeats, DropsBeats.dropper, DropsBeats.no_dropper}
use Rattle.memory_awake.specs.RowSystem.{RowPorts, AreRows, boundaries_of}
use Rattle.memory_awake.specs.Steps.{HasStepsLeft}
use Rattle.memory_awake.specs.Theorem.{ArePlanned, AreMachines, States, LinkRanks, IsBuilt}
use Rattle.memory_waits.specs.Neighbours.{fitted_steps, row_steps}
use Rattle.memory_waits.specs.Waits.{is_quiet}
use Rattle.memory_waits.proofs.Bits.{no_true, no_both, takes_shows, none_taken, both, not_by}
use Rattle.memory_waits.proofs.Owed.{owed_below}
use Rattle.memory_waits.proofs.Rows.{in_fewer, of_most, wire_quiet, wire_owed, wire_alike}
use Rattle.memory_waits.proofs.Shorter.{shorter_legal}
use Rattle.memory_waits.proofs.neighbours.rows_take_few_steps.Goals.{After-machines_with_links_are_built}
use Rattle.memory_waits.proofs.neighbours.rows_take_few_steps.Goals as goal

not_true : (b : Bool) → IsTrue (not b) → IsFalse b
not_true true h = absurd (no_true h)
not_true false h = refl

module _ (c : After-machines_with_links_are_built) (responses : Responses) (system : System) (run : Run) (ports : RowPorts) (states : States) (end before : ℕ) (next : end ≡ suc before) (agent : ℕ) (planned : ArePlanned system (boundaries_of ports) states)
    (machines : AreMachines responses system run (boundaries_of ports) states end) (rows : AreRows system run ports end) (legal : IsLegalRun system run end) (there : agent < system.agents) where
  built : (ranks : LinkRanks) × IsBuilt responses system run (boundaries_of ports) states ranks end
  built = c.machines_with_links_are_built.ensures.built responses system run ports states end planned machines rows legal

  abbrev behind : TaggedPort
  behind = ports.lower agent system.stages

  abbrev target : Target
  target = target_of system agent

  abbrev quiet : ℕ → Bool
  quiet k = is_quiet system run agent behind.port k

  arbiter : IsArbiterPart system agent (λ h. ports.before_arbiter h agent) behind end
  arbiter = ((c.machines_keep_their_records.ensures.awake responses system run (boundaries_of ports) states built.0 end built.1 legal).agents agent there).parts.awake.arbiter

  past : before ≤ end
  past = omega (arith, next)

  -- in a quiet cycle no word is owed before the arbiter either
  none_gone : (other k : ℕ) → other < system.hosts → k < end → IsTrue (quiet k) → IsFalse (is_gone (ports.before_arbiter other agent) k)
  none_gone other zero low fit is = refl
  none_gone other (suc k) low fit is = by_gone (is_gone (ports.before_arbiter other agent) (suc k)) refl
    where
      by_gone : (b : Bool) → is_gone (ports.before_arbiter other agent) (suc k) ≡ b → IsFalse b
      by_gone false e = refl
      by_gone true e = absurd (no_both _ (owed_below system agent (λ h. ports.before_arbiter h agent) behind end arbiter other k low fit e) (not_true _ (and_parts (is_good system run agent (suc k)) _ is).1))

  abbrev Steps : Port → (ℕ → Bool) → ℕ → Type 0
  Steps port good most = (rest : ℕ → ℕ) × HasStepsLeft port good most rest before

  module _ (other : ℕ) (low : other < system.hosts) (cuts : CutsBursts (ports.after_route other agent) (ports.below_cutter other agent)) (fits : FitsWords target (ports.below_cutter other agent) (ports.above_dropper other agent))
      (drops : DropsBeats target (ports.above_dropper other agent) (ports.before_arbiter other agent)) (above : Steps (ports.above_dropper other agent) (is_quiet system run agent (ports.above_dropper other agent)) (fitted_steps system agent other)) where
    abbrev top : Port
    top = ports.after_route other agent

    abbrev middle : Port
    middle = ports.below_cutter other agent

    abbrev under : Port
    under = ports.above_dropper other agent

    abbrev bottom : Port
    bottom = ports.before_arbiter other agent

    abbrev fitted : ℕ
    fitted = fitted_steps system agent other

    legal_middle : AreLegalAt middle end
    legal_middle = (built.1.links.going other agent 2 low there (omega arith)).legal_down

    legal_under : AreLegalAt under end
    legal_under = (built.1.links.going other agent 1 low there (omega arith)).legal_down

    owed_bottom : AnswersAreOwed bottom end
    owed_bottom = (c.machines_with_links_are_built.ensures.settled responses system run ports states end planned machines rows legal other agent low there).1

    alike_top : JoinsAlike target top end
    alike_top = (c.machines_with_links_are_built.ensures.settled responses system run ports states end planned machines rows legal other agent low there).2

    owed_under : AnswersAreOwed under end
    owed_under = by_drop drops
      where
        by_drop : DropsBeats target under bottom → AnswersAreOwed under end
        by_drop (no_dropper wired) = wire_owed under bottom wired.wire end owed_bottom
        by_drop (dropper room state plan some runs) = c.drop_owes_its_words.ensures.owed target room under bottom state end plan runs legal_under owed_bottom

    -- ---- and before the arbiter

    legal_top : AreLegalAt top end
    legal_top = (c.machines_with_links_are_built.ensures.settled responses system run ports states end planned machines rows legal other agent low there).0

    alike_middle : AnswersAreOwed middle end → JoinsAlike target middle end
    alike_middle owed = by_cut cuts
      where
        by_cut : CutsBursts top middle → JoinsAlike target middle end
        by_cut (no_cutter wired) = wire_alike top middle wired.wire target end alike_top
        by_cut (cutter reach most state plan runs) = (c.cut_is_a_link.ensures target reach most top middle state end plan runs).joins end (omega arith) legal_top (λ k fit. owed k (omega (arith, fit))) alike_top

    alike_under : target.shape.has_enables ≡ false → JoinsAlike target under end
    alike_under bare = by_fits fits
      where
        by_fits : FitsWords target middle under → JoinsAlike target under end
        by_fits (no_width wired) = wire_alike middle under wired.wire target end (alike_middle (wire_owed middle under wired.wire end owed_under))
        by_fits (splitter count room state may some runs) =
            let link = c.split_is_a_link.ensures target room count middle under state end may some runs in
            link.joins end (omega arith) legal_middle (λ k fit. owed_under k (omega (arith, fit))) (alike_middle (link.row.carries.answers end (omega arith) legal_middle owed_under).owed)
        by_fits (selector many room offsets plan deep runs) = absurd (no_both target.shape.has_enables plan.enables bare)
        by_fits (gatherer many room state plan deep runs) = absurd (no_both target.shape.has_enables plan.enables bare)

    to_arbiter : Steps bottom quiet (row_steps system agent other)
    to_arbiter = by_drop drops
      where
        by_drop : DropsBeats target under bottom → Steps bottom quiet (row_steps system agent other)
        by_drop (no_dropper wired) =
            let here = in_fewer under (is_quiet system run agent under) quiet fitted above.0 before
            (λ k fit is. both (is_good system run agent k) _ (and_parts (is_good system run agent k) _ is).0 (not_by (is_gone under k) (wire_quiet under bottom wired.wire k (none_gone other k low (omega (arith, fit, next)) is)))) above.1 in
            (above.0, of_most bottom quiet fitted (row_steps system agent other) above.0 before (omega arith) (c.links_take_few_steps.ensures.wire under bottom quiet fitted above.0 before wired.wire here))
        by_drop (dropper room state plan some runs) =
            let here = in_fewer under (is_quiet system run agent under) (λ k. quiet k && not (state.own k)) fitted above.0 before
            (λ k fit is. (let two = and_parts (quiet k) (not (state.own k)) is in
            both (is_good system run agent k) _ (and_parts (is_good system run agent k) _ two.0).0 (not_by (is_gone under k)
            (c.droppers_take_few_steps.ensures.quiet target room under bottom state end k plan runs legal_under owed_bottom (omega (arith, fit, next)) (none_gone other k low (omega (arith, fit, next)) two.0) (not_true _ two.1))))) above.1 in
            c.droppers_take_few_steps.ensures.steps target room under bottom state quiet fitted above.0 before plan some runs (λ k fit. alike_under plan.enables k (omega (arith, fit, next))) (shorter_legal under end before past legal_under)
            (λ k fit. owed_bottom k (omega (arith, fit, next))) (λ k fit is. none_gone other k low (omega (arith, fit, next)) is) here

  -- a host that isn't joined shows nothing
  unclosed_joined : (other k : ℕ) → k ≤ end → IsTrue (is_last_joined (taken_at (ports.before_arbiter other agent) k)) → IsTrue (is_joined system agent other)
  unclosed_joined other zero fit h = absurd (no_true h)
  unclosed_joined other (suc k) fit h = by_take (takes (ports.before_arbiter other agent) k) refl (unclosed_joined other k (omega (arith, fit)))
    where
      by_take : (t : Bool) → takes (ports.before_arbiter other agent) k ≡ t → (IsTrue (is_last_joined (taken_at (ports.before_arbiter other agent) k)) → IsTrue (is_joined system agent other)) → IsTrue (is_joined system agent other)
      by_take true e more = (arbiter.joined other k (omega (arith, fit)) (takes_shows (ports.before_arbiter other agent) k e)).1
      by_take false e more = more (subst (λ l. IsTrue (is_last_joined l)) (none_taken (ports.before_arbiter other agent) k e) h)

  unjoined_steps : (other : ℕ) → IsFalse (is_joined system agent other) → HasStepsLeft (ports.before_arbiter other agent) quiet (row_steps system agent other) (λ k. row_steps system agent other) before
  unjoined_steps other e = record {
    some = λ k fit. omega arith;
    few = λ k fit. omega arith;
    fewer = λ k fit took goes. absurd (no_both (is_joined system agent other) (arbiter.joined other k (omega (arith, fit, next)) (takes_shows (ports.before_arbiter other agent) k took)).1 e);
    stays = λ k fit none. omega arith;
    gaps = λ k fit opened none is. absurd (no_both (is_joined system agent other) (unclosed_joined other k (omega (arith, fit, next)) opened) e);
  }

  all_steps : ((other : ℕ) → other < system.hosts → IsTrue (is_joined system agent other) → Steps (ports.above_dropper other agent) (is_quiet system run agent (ports.above_dropper other agent)) (fitted_steps system agent other)) →
      (other : ℕ) → (b : Bool) → is_joined system agent other ≡ b → Steps (ports.before_arbiter other agent) quiet (row_steps system agent other)
  all_steps above other false e = ((λ k. row_steps system agent other), unjoined_steps other e)
  all_steps above other true e = by_idle (rows.idle other agent) refl
    where
      low : other < system.hosts
      low = planned.joined agent other e

      by_idle : (b : Bool) → rows.idle other agent ≡ b → Steps (ports.before_arbiter other agent) quiet (row_steps system agent other)
      by_idle true idle = absurd (no_both (is_joined system agent other) e (rows.apart other agent low there idle).0)
      by_idle false idle = to_arbiter other low (rows.cuts other agent low there idle) (rows.fits other agent low there idle) (rows.drops other agent low there idle) (above other low e)

pub returns : goal.returns
returns c = λ responses system run ports states end agent planned machines rows legal there.
    let d = (goal.at.returns c).After-machines_with_links_are_built in
    let above = λ (other : ℕ) (low : other < system.hosts) (joined : IsTrue (is_joined system agent other)). c.fitted_rows_take_few_steps.ensures responses system run ports states end agent other planned machines rows legal there low joined in (
      (λ other. (all_steps d responses system run ports states (end + 1) end (omega arith) agent planned machines rows legal there above other (is_joined system agent other) refl).0),
      (λ other. (all_steps d responses system run ports states (end + 1) end (omega arith) agent planned machines rows legal there above other (is_joined system agent other) refl).1),
    )
