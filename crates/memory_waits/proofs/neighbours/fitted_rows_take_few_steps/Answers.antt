use Rattle.std.proofs.lemmas.Bool.{and_parts}
use Rattle.std.proofs.Common.{ap, ap₂, max, min, ◌/◌, ◌*◌, ℕ, zero, suc, ◌≡◌, ◌+◌, ◌<◌, ◌≤◌, ◌∙◌, Bool, true, false, not, arith, refl, sym, subst, IsTrue, IsFalse}
use Rattle.memory_runs.specs.Views.{System, Run, Responses}
use Rattle.memory_runs.specs.Operations.{pieces}
use Rattle.memory_runs.specs.Order.{is_joined}
use Rattle.memory_runs.specs.Whole.{IsLegalRun}
use Rattle.memory_machines.specs.Lines.{target_of}
use Rattle.memory_machines.specs.Link.{Port, Target, AreLegalAt, AnswersAreOwed}
use Rattle.memory_parts.specs.Steps.{is_gone}
use Rattle.memory_runs.specs.Onward.{longest_of}
use Rattle.memory_awake.specs.Onward.{is_good}
use Rattle.memory_awake.specs.Rows.{CutsBursts, CutsBursts.cutter, CutsBursts.no_cutter, FitsWords, FitsWords.selector, FitsWords.gatherer, FitsWords.splitter, FitsWords.no_width, DropsBeats, DropsBeats.dropper, DropsBeats.no_dropper, GathersBelowCut}
use Rattle.memory_awake.specs.RowSystem.{RowPorts, AreRows, boundaries_of}
use Rattle.memory_awake.specs.Steps.{HasStepsLeft}
use Rattle.memory_awake.specs.Theorem.{ArePlanned, AreMachines, States, LinkRanks, IsBuilt}
use Rattle.memory_waits.specs.Neighbours.{fitted_steps}
use Rattle.memory_waits.specs.Waits.{is_quiet}
use Rattle.memory_waits.proofs.Bits.{no_both, no_true}
use Rattle.memory_waits.proofs.GatherFits.{parts_of_wide}
use Rattle.memory_waits.proofs.Rows.{in_fewer, of_most, wire_owed, few_words, cut_at_words, cut_words}
use Rattle.memory_waits.proofs.Selects.{open_when_quiet}
use Rattle.memory_waits.proofs.Shorter.{shorter_legal, shorter_steps, shorter_reads, at_least}
use Rattle.memory_waits.proofs.Splits.{splits_when_quiet}
use Rattle.memory_waits.proofs.neighbours.fitted_rows_take_few_steps.Goals.{After-machines_with_links_are_built}
use Rattle.memory_waits.proofs.neighbours.fitted_rows_take_few_steps.Goals as goal

not_true : (b : Bool) → IsTrue (not b) → IsFalse b
not_true true h = absurd (no_true h)
not_true false h = refl

module _ (c : After-machines_with_links_are_built) (responses : Responses) (system : System) (run : Run) (ports : RowPorts) (states : States) (end before : ℕ) (next : end ≡ suc before) (agent other : ℕ) (planned : ArePlanned system (boundaries_of ports) states)
    (machines : AreMachines responses system run (boundaries_of ports) states end) (rows : AreRows system run ports end) (legal : IsLegalRun system run end) (there : agent < system.agents) (low : other < system.hosts)
    (cuts : CutsBursts (ports.after_route other agent) (ports.below_cutter other agent)) (fits : FitsWords (target_of system agent) (ports.below_cutter other agent) (ports.above_dropper other agent))
    (drops : DropsBeats (target_of system agent) (ports.above_dropper other agent) (ports.before_arbiter other agent)) (gathers : GathersBelowCut cuts fits) where
  built : (ranks : LinkRanks) × IsBuilt responses system run (boundaries_of ports) states ranks end
  built = c.machines_with_links_are_built.ensures.built responses system run ports states end planned machines rows legal

  past : before ≤ end
  past = omega (arith, next)

  abbrev target : Target
  target = target_of system agent

  abbrev top : Port
  top = ports.after_route other agent

  abbrev middle : Port
  middle = ports.below_cutter other agent

  abbrev under : Port
  under = ports.above_dropper other agent

  abbrev bottom : Port
  bottom = ports.before_arbiter other agent

  abbrev longest : ℕ
  longest = longest_of system other

  abbrev parts : ℕ
  parts = max 1 (pieces (system.host other).shape (system.agent agent).shape)

  abbrev words : ℕ
  words = pieces (system.agent agent).shape (system.host other).shape

  abbrev fitted : ℕ
  fitted = fitted_steps system agent other

  abbrev quiet_here : ℕ → Bool
  quiet_here k = is_quiet system run agent under k

  abbrev Steps : Port → ℕ → Type 0
  Steps port most = (rest : ℕ → ℕ) × HasStepsLeft port quiet_here most rest before

  legal_middle : AreLegalAt middle end
  legal_middle = (built.1.links.going other agent 2 low there (omega arith)).legal_down

  legal_under : AreLegalAt under end
  legal_under = (built.1.links.going other agent 1 low there (omega arith)).legal_down

  top_words : top.shape.word_bytes ≡ (system.host other).shape.word_bytes
  top_words = ap (λ s. s.word_bytes) ((machines.route other low).shapes agent there) ∙ (planned.places other low).words

  middle_words : middle.shape.word_bytes ≡ (system.host other).shape.word_bytes
  middle_words = (cut_words top middle cuts).0 ∙ top_words

  owed_bottom : AnswersAreOwed bottom end
  owed_bottom = (c.machines_with_links_are_built.ensures.settled responses system run ports states end planned machines rows legal other agent low there).1

  owed_under : AnswersAreOwed under end
  owed_under = by_drop drops
    where
      by_drop : DropsBeats target under bottom → AnswersAreOwed under end
      by_drop (no_dropper wired) = wire_owed under bottom wired.wire end owed_bottom
      by_drop (dropper room state plan some runs) = c.drop_owes_its_words.ensures.owed target room under bottom state end plan runs legal_under owed_bottom

  -- ---- down to the cutter's lower side

  below_cutter : Steps middle longest
  below_cutter = by_cut cuts
    where
      less_often : (port : Port) (rest : ℕ → ℕ) → HasStepsLeft port (is_good system run agent) longest rest end → HasStepsLeft port quiet_here longest rest before
      less_often port rest has = in_fewer port (is_good system run agent) quiet_here longest rest before (λ k fit is. (and_parts (is_good system run agent k) _ is).0) (shorter_steps port (is_good system run agent) longest rest end before past has)

      by_cut : CutsBursts top middle → Steps middle longest
      by_cut (cutter reach most state plan runs) =
          let above = c.routes_take_few_steps.ensures responses system run (boundaries_of ports) states built.0 end agent other built.1 legal there low in
          c.links_take_few_steps.ensures.cutter reach most top middle state quiet_here longest above.0 before runs plan.goes (shorter_legal middle end before past legal_middle) (shorter_reads top above.0 end before past above.2) (less_often top above.0 above.1)
      by_cut (no_cutter wired) =
          let above = c.routes_take_few_steps.ensures responses system run (boundaries_of ports) states built.0 end agent other built.1 legal there low in
          (above.0, c.links_take_few_steps.ensures.wire top middle quiet_here longest above.0 before wired.wire (less_often top above.0 above.1))

  -- ---- at the agent's words

  few_pieces : pieces middle.shape under.shape ≤ parts
  few_pieces =
      let most = built.1.rows.words other agent low there in
      let first = (cut_words top middle cuts).0 in
      let last : under.shape.word_bytes ≡ bottom.shape.word_bytes = by_drop drops in
      let same : pieces middle.shape under.shape ≡ pieces top.shape bottom.shape = ap₂ (λ (x y : ℕ). x / min x y) first last in
      omega (arith, most, same)
    where
      by_drop : DropsBeats target under bottom → under.shape.word_bytes ≡ bottom.shape.word_bytes
      by_drop (no_dropper wired) = ap (λ (p : Port). p.shape.word_bytes) wired.wire.same
      by_drop (dropper room state plan some runs) = sym plan.same

  wide_words : (many : ℕ) → (system.agent agent).shape.word_bytes ≡ many * middle.shape.word_bytes → 0 < middle.shape.word_bytes → 1 ≤ many → many ≤ words
  wide_words many whole some more =
      let same = middle_words in
      let is = parts_of_wide (system.agent agent).shape (system.host other).shape many (whole ∙ ap (λ n. many * n) middle_words) (omega (arith, same, some)) more in
      omega (arith, is)

  some_parts : 1 ≤ parts
  some_parts = omega arith

  longest_fits : longest ≤ fitted
  longest_fits =
      let times = at_least longest parts some_parts in
      let all : (longest + 1) * (parts + words) ≡ longest * parts + longest * words + parts + words = omega arith in
      omega (arith, times, all)

  split_fits : longest * parts ≤ fitted
  split_fits =
      let all : (longest + 1) * (parts + words) ≡ longest * parts + longest * words + parts + words = omega arith in
      omega (arith, all)

  gather_fits : (many : ℕ) → many ≤ words → longest * (many + 1) + many ≤ fitted
  gather_fits many few =
      let times = at_least longest parts some_parts in
      let more = more_words longest many words few in
      let all : (longest + 1) * (parts + words) ≡ longest * parts + longest * words + parts + words = omega arith in
      let here : longest * (many + 1) ≡ longest * many + longest = omega arith in
      omega (arith, times, more, all, here, few)
    where
      more_words : (n a b : ℕ) → a ≤ b → n * a ≤ n * b
      more_words zero a b h = omega arith
      more_words (suc n) a b h =
          let rest = more_words n a b h in
          let left : suc n * a ≡ n * a + a = omega arith in
          let right : suc n * b ≡ n * b + b = omega arith in
          omega (arith, rest, left, right, h)

  none : (k : ℕ) → IsTrue (quiet_here k) → IsFalse (is_gone under k)
  none k is = not_true _ (and_parts (is_good system run agent k) (not (is_gone under k)) is).1

  owed_before : AnswersAreOwed under before
  owed_before k fit = owed_under k (omega (arith, fit, next))

  wider : (most : ℕ) → most ≤ fitted → Steps under most → Steps under fitted
  wider most h has = (has.0, of_most under quiet_here most fitted has.0 before h has.1)

  below_fitter : Steps under fitted
  below_fitter = by_fits fits gathers
    where
      by_fits : (fits : FitsWords target middle under) → GathersBelowCut cuts fits → Steps under fitted
      by_fits (no_width wired) at = wider longest longest_fits (below_cutter.0, c.links_take_few_steps.ensures.wire middle under quiet_here longest below_cutter.0 before wired.wire below_cutter.1)
      by_fits (selector many room offsets plan deep runs) at =
          wider longest longest_fits (
            below_cutter.0,
            c.links_take_few_steps.ensures.selector room middle under offsets quiet_here longest below_cutter.0 before runs
                (λ k fit is. open_when_quiet target room middle under offsets runs deep before (few_words under before owed_before) k (omega (arith, fit)) (none k is)) below_cutter.1,
          )
      by_fits (splitter count room state may some runs) at =
          let legal_here = subst (λ k. AreLegalAt middle k) next legal_middle in
          let owed_here = subst (λ k. AnswersAreOwed under k) next owed_under in
          wider (longest * parts) split_fits (c.links_take_few_steps.ensures.splitter room parts middle under state quiet_here longest below_cutter.0 before runs legal_here few_pieces some_parts
          (λ k fit is shown. splits_when_quiet room middle under state runs (suc before) legal_here owed_here some k (omega (arith, fit)) (none k is)) below_cutter.1)
      by_fits (gatherer many room state plan deep runs) at =
          let more : 1 ≤ many = (let some = plan.more in omega (arith, some)) in
          wider (longest * (many + 1) + many) (gather_fits many (wide_words many (sym plan.same ∙ plan.whole) plan.some more))
          (c.gatherers_take_few_steps.ensures room many middle under state quiet_here longest below_cutter.0 before runs deep more (shorter_legal under end before past legal_under) owed_before
          (λ k fit shown kind. cut_at_words many top middle cuts at k shown kind) (λ k fit is. none k is) below_cutter.1)

pub returns : goal.returns
returns c = λ responses system run ports states end agent host planned machines rows legal there low joined.
    let d = (goal.at.returns c).After-machines_with_links_are_built in
    by_idle d responses system run ports states end agent host planned machines rows legal there low joined (rows.idle host agent) refl
  where
    by_idle : After-machines_with_links_are_built → (responses : Responses) (system : System) (run : Run) (ports : RowPorts) (states : States) (end agent host : ℕ) → ArePlanned system (boundaries_of ports) states → AreMachines responses system run (boundaries_of ports) states (end + 1) →
        (rows : AreRows system run ports (end + 1)) → IsLegalRun system run (end + 1) → agent < system.agents → host < system.hosts → IsTrue (is_joined system agent host) → (b : Bool) → rows.idle host agent ≡ b →
        (rest : ℕ → ℕ) × HasStepsLeft (ports.above_dropper host agent) (is_quiet system run agent (ports.above_dropper host agent)) (fitted_steps system agent host) rest end
    by_idle d responses system run ports states end agent host planned machines rows legal there low joined true idle = absurd (no_both (is_joined system agent host) joined (rows.apart host agent low there idle).0)
    by_idle d responses system run ports states end agent host planned machines rows legal there low joined false idle =
        below_fitter d responses system run ports states (end + 1) end (omega arith) agent host planned machines rows legal there low (rows.cuts host agent low there idle) (rows.fits host agent low there idle) (rows.drops host agent low there idle) (rows.gathers host agent low there idle)
