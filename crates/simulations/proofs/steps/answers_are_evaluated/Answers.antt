use Rattle.std.proofs.Common.{◌≡◌, ℕ, List, Bool, true, false, IsFalse, if◌then◌else◌, flat_map, refl, sym, ap, subst, ◌∙◌}
use Rattle.av_base.specs.Word.{Word}
use Rattle.netlist.specs.Netlists.{Netlist, IsInputPort}
use Rattle.netlist.specs.Runs.{IsValuation, SameState}
use Rattle.cycle_sim.specs.Sims.{given_to, input_widths, present}
use Rattle.memory_runs.specs.Legal.{Word as CodedWord}
use Rattle.memory_plans.specs.Shown.{standing_still}
use Rattle.port_rows.specs.Levels.{AllStand, set_levels}
use Rattle.stand_ins.specs.Whole.{word_now, word_shown, code_now, code_shown}
use Rattle.benches.specs.Hosts as of_hosts
use Rattle.benches.specs.Agents.{BenchAgentValue, commanded, gives_at_once, word_answered}
use Rattle.benches.specs.Streams as of_streams
use Rattle.simulations.specs.Benches.{IsSetUp, all_levels, sets_with}
use Rattle.simulations.specs.Cycles.{answered, first_words}
use Rattle.simulations.proofs.Answered.{set_in_the_middle}
use Rattle.simulations.proofs.Present.{still_row}
use Rattle.simulations.proofs.Setting.{hosts_stand, streams_stand}
use Rattle.simulations.proofs.Stepping.{now_shown, wide_behind}
use Rattle.simulations.proofs.steps.answers_are_evaluated.Goals as goal

pub returns-clause-inputs : goal.returns-clause-inputs
returns-clause-inputs c = λ plan scenario run k bench set shown.
    let netlist = bench.sim.netlist in
    let all = shown.under_way.components in
    let words : BenchAgentValue → CodedWord = λ agent. word_answered agent bench.sim in
    let fits = c.answers_fit.ensures plan scenario run k bench first_words set shown in
    let room = c.levels_have_room.ensures.all plan scenario netlist run k bench words bench.row set all fits shown.under_way.row in
    let is : (answered bench).row ≡ set_levels bench.row (all_levels bench words) =
    sym (set_in_the_middle c.levels_stand.ensures.in_two bench.row (flat_map of_hosts.sets bench.hosts) (flat_map (sets_with words) bench.agents) (flat_map of_streams.sets bench.streams)
    (c.levels_have_room.ensures.apart plan scenario netlist run k bench words set all)
    (hosts_stand c.levels_stand.ensures.front bench.row bench first_words shown.stand) (streams_stand c.levels_stand.ensures.back bench.row bench first_words shown.stand)) in
    wide_behind c.levels_stand.ensures.widths bench.row (answered bench).row (all_levels bench words) _ room is shown.under_way.row ∙ ap input_widths (sym set.is_interconnect.ports)

pub returns-clause-evaluated : goal.returns-clause-evaluated
returns-clause-evaluated c = λ plan scenario run k bench sim set shown step stepped.
    let netlist = bench.sim.netlist in
    let all = shown.under_way.components in
    let words : BenchAgentValue → CodedWord = λ agent. word_answered agent bench.sim in
    let row = (answered bench).row in
    let same = step.netlist in
    let fits = c.answers_fit.ensures plan scenario run k bench first_words set shown in
    let room = c.levels_have_room.ensures.all plan scenario netlist run k bench words bench.row set all fits shown.under_way.row in
    let is : row ≡ set_levels bench.row (all_levels bench words) =
    sym (set_in_the_middle c.levels_stand.ensures.in_two bench.row (flat_map of_hosts.sets bench.hosts) (flat_map (sets_with words) bench.agents) (flat_map of_streams.sets bench.streams)
    (c.levels_have_room.ensures.apart plan scenario netlist run k bench words set all)
    (hosts_stand c.levels_stand.ensures.front bench.row bench first_words shown.stand) (streams_stand c.levels_stand.ensures.back bench.row bench first_words shown.stand)) in
    let wide = wide_behind c.levels_stand.ensures.widths bench.row row (all_levels bench words) _ room is shown.under_way.row in
    let stand = subst (λ (r : List Word). AllStand r (all_levels bench words)) (sym is) (c.levels_have_room.ensures.stand plan scenario netlist run k bench words bench.row set all room) in
    let now = now_shown plan scenario run k bench sim row words shown.under_way same (step.stands run k shown.under_way.stands) stepped (step.run run k shown.under_way.stands)
    step.valuation step.inputs_are fits wide stand in
    let valuation = subst (λ (n : Netlist). IsValuation n (present sim)) same step.valuation in
    let state = subst (λ (n : Netlist). SameState n (present bench.sim) (present sim)) same step.state in
    let inputs_now = subst (λ (n : Netlist). (p w : ℕ) → IsInputPort n.ports p w → (present sim).input p ≡ given_to n row p) same step.inputs_are in
    let ports = set.is_interconnect.ports in
    let before = c.rows_are_shown.ensures.memory plan scenario netlist run (standing_still (present bench.sim)) k 0 bench first_words bench.row bench.sim set all shown.fits shown.stand
    (still_row plan.system netlist bench.sim bench.row set.is_module ports shown.valuation shown.inputs) refl (λ n. refl) in
    let after = c.rows_are_shown.ensures.memory plan scenario netlist run (standing_still (present sim)) k 0 bench words row sim set all fits stand
    (still_row plan.system netlist sim row set.is_module ports valuation inputs_now) same (λ n. refl) in
    let commands = c.commands_ignore_words.ensures plan scenario netlist run k bench first_words words bench.sim sim set all shown.valuation valuation state before after in
    c.cycles_are_evaluated.ensures plan scenario run k (record bench { sim = sim; row = row }) words bench.sim (subst (IsSetUp plan scenario) (sym same) set) now (λ a agent at. refl) commands

unchosen : (b : Bool) (x y : ℕ) → IsFalse b → y ≡ (if b then x else y)
unchosen false x y h = refl
unchosen true x y h = absurd (let e : true ≡ false = h in cc)

same_answer : (word code word' code' : ℕ) → word ≡ word' → code ≡ code' →
    let one : CodedWord = record { word = word; code = code } in
    let other : CodedWord = record { word = word'; code = code' } in
    one ≡ other
same_answer word code word' code' p q = rw (p, q) refl

pub returns-clause-at_once : goal.returns-clause-at_once
returns-clause-at_once c = λ plan scenario run k bench set shown none.
    c.cycles_are_evaluated.ensures plan scenario run k bench first_words bench.sim set shown (λ a agent at.
    same_answer _ _ _ _ (unchosen (gives_at_once agent) (word_now agent.stand_in (commanded agent bench.sim)) (word_shown agent.stand_in) (none a agent at))
    (unchosen (gives_at_once agent) (code_now agent.stand_in (commanded agent bench.sim)) (code_shown agent.stand_in) (none a agent at))) (λ a agent at. refl)
