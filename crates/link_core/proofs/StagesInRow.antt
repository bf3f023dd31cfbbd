-- Stages in a row between the views of nets, and their sides by number.
use Rattle.std.proofs.Common.{◌≡◌, ℕ, suc, ◌+◌, ◌<◌, ◌≤◌, Bool, true, false, if◌then◌else◌, nat_lt, sym, subst, ap, ◌∙◌, refl, arith}
use Rattle.std.proofs.lemmas.Bool.{lt-ltb, le-ltb, ltb-true, ltb-false}
use Rattle.netlist.specs.Nets.{NetValue}
use Rattle.netlist.specs.Netlists.{Netlist}
use Rattle.netlist.specs.Runs.{Run, IsEndlessRun}
use Rattle.memory_runs.specs.Views.{Shape}
use Rattle.memory_machines.specs.Link.{Port}
use Rattle.command_nets.specs.declared.nets.CommandNets.{CommandNets}
use Rattle.command_nets.specs.declared.nets.AnswerNets.{AnswerNets}
use Rattle.command_nets.specs.Nets.{port_in}
use Rattle.link_core.specs.declared.stage.StageKept.{StageKept}
use Rattle.link_core.specs.Form.{Form, FormsFit, form_of_chain}
use Rattle.link_core.specs.StageNets.{IsStageForm, RunsAsPipeStage, StageCommand, StageAnswer}
use Rattle.link_core.specs.PassNets.{IsPassForm}
use Rattle.link_core.specs.Lines.{RunsAsStages, HaveNumbers}
use Rattle.link_core.specs.Lines.RunsAsStages.{no_stage, one_more}
use Rattle.link_core.proofs.Between.{at_pass}
use Rattle.link_core.proofs.StageLaw.{stage_runs_between}

pub stage_machines_between : (form : Form) (from to : CommandNets) (kept : StageKept) (wait up : NetValue) (answer back : AnswerNets) (netlist : Netlist) (run : Run) → IsStageForm form → StageCommand from to kept netlist → StageAnswer kept wait answer up back netlist → IsEndlessRun netlist run →
    RunsAsStages 1 (port_in form.up run from up back) (port_in form.down run to wait answer)
stage_machines_between form from to kept wait up answer back netlist run p f b endless = one_more (stage_runs_between form from to kept wait up answer back netlist run p f b endless) no_stage

pub pass_machines_between : (form : Form) (from to : CommandNets) (wait up : NetValue) (answer back : AnswerNets) (run : Run) → IsPassForm form → to ≡ from → (up ≡ wait) × (back ≡ answer) → RunsAsStages 0 (port_in form.up run from up back) (port_in form.down run to wait answer)
pass_machines_between form from to wait up answer back run p f b = at_pass (RunsAsStages 0) form from to wait up answer back run p f b no_stage

in_row : {one two : ℕ} {up middle down : Port} → RunsAsStages one up middle → RunsAsStages two middle down → RunsAsStages (one + two) up down
in_row {two = two} {up = up} {down = down} no_stage behind = subst (λ k. RunsAsStages k up down) (let same : two ≡ 0 + two = omega arith in same) behind
in_row {two = two} {up = up} {down = down} (one_more {stages = stages} stage rest) behind = subst (λ k. RunsAsStages k up down) (let same : suc (stages + two) ≡ suc stages + two = omega arith in same) (one_more stage (in_row rest behind))

pub chain_machines_between : (first second form : Form) (run : Run) (from middle to : CommandNets) (up between wait : NetValue) (back inner answer : AnswerNets) (one two : ℕ) → form ≡ form_of_chain first second → FormsFit first second →
    RunsAsStages one (port_in first.up run from up back) (port_in first.down run middle between inner) →
    RunsAsStages two (port_in second.up run middle between inner) (port_in second.down run to wait answer) →
    RunsAsStages (one + two) (port_in form.up run from up back) (port_in form.down run to wait answer)
chain_machines_between first second form run from middle to up between wait back inner answer one two is fit above below =
    subst (λ (f : Form). RunsAsStages (one + two) (port_in f.up run from up back) (port_in f.down run to wait answer)) (sym is)
    (in_row above (subst (λ (s : Shape). RunsAsStages two (port_in s run middle between inner) (port_in second.down run to wait answer)) (sym fit.same_side) below))

-- one more side above the numbered ones
abbrev one_above : ℕ → Port → (ℕ → Port) → ℕ → Port
one_above stages up side i = if nat_lt stages i then up else side i

pub by_number : {stages : ℕ} {up down : Port} → RunsAsStages stages up down → HaveNumbers stages up down
by_number {down = down} no_stage = record { side = λ i. down; highest = refl; lowest = refl; stage = λ i less. absurd (omega (arith, less)) }
by_number {up = up} {down = down} (one_more {stages = stages} {middle = middle} stage rest) =
    let behind = by_number rest in
    let sides = one_above stages up behind.side in
    let high : sides (suc stages) ≡ up = ap (λ t. if t then up else behind.side (suc stages)) (lt-ltb stages (suc stages) (omega arith)) in
    record {
      side = sides;
      highest = high;
      lowest = old stages up behind.side 0 (omega arith) ∙ behind.lowest;
      stage = λ i less. at_place stages up behind.side i less (subst (λ (p : Port). RunsAsPipeStage up p) (sym behind.highest) stage) behind.stage;
    }
  where
    old : (stages : ℕ) (up : Port) (side : ℕ → Port) (i : ℕ) → i ≤ stages → one_above stages up side i ≡ side i
    old stages up side i low = ap (λ t. if t then up else side i) (le-ltb stages i low)

    at_place : (stages : ℕ) (up : Port) (side : ℕ → Port) (i : ℕ) → i < suc stages → RunsAsPipeStage up (side stages) → ((i : ℕ) → i < stages → RunsAsPipeStage (side (suc i)) (side i)) → RunsAsPipeStage (one_above stages up side (suc i)) (one_above stages up side i)
    at_place stages up side i less highest each = by_case (nat_lt stages (suc i)) refl
      where
        by_case : (t : Bool) → nat_lt stages (suc i) ≡ t → RunsAsPipeStage (one_above stages up side (suc i)) (one_above stages up side i)
        by_case true e =
            let above = ltb-true stages (suc i) e in
            let same : stages ≡ i = omega (arith, above, less) in
            subst (λ (p : Port). RunsAsPipeStage p (one_above stages up side i)) (sym (ap (λ t. if t then up else side (suc i)) e))
            (subst (λ (p : Port). RunsAsPipeStage up p) (sym (old stages up side i (omega (arith, less)))) (subst (λ k. RunsAsPipeStage up (side k)) same highest))
        by_case false e =
            let below = ltb-false stages (suc i) e in
            subst (λ (p : Port). RunsAsPipeStage p (one_above stages up side i)) (sym (ap (λ t. if t then up else side (suc i)) e))
            (subst (λ (p : Port). RunsAsPipeStage (side (suc i)) p) (sym (old stages up side i (omega (arith, less)))) (each i (omega (arith, below))))
