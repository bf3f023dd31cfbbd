-- The lines of pipes between the views of nets.
use Rattle.std.proofs.Common.{◌≡◌, ℕ, suc, ◌+◌, ◌<◌, sym, subst, ap, ◌∙◌, refl, arith}
use Rattle.netlist.specs.Nets.{NetValue}
use Rattle.netlist.specs.Netlists.{Netlist}
use Rattle.netlist.specs.Runs.{Run, cycle_of, IsEndlessRun}
use Rattle.memory_runs.specs.Views.{Shape, System}
use Rattle.memory_machines.specs.Lines.{TaggedPort, IsPipeLine, Pipe, KeepsPipeLine, joined_pipe}
use Rattle.memory_machines.specs.Machines.{Stage, RunsAsStage, above, below}
use Rattle.memory_links.specs.Links.{LinkForm}
use Rattle.command_nets.specs.declared.nets.CommandNets.{CommandNets}
use Rattle.command_nets.specs.declared.nets.AnswerNets.{AnswerNets}
use Rattle.command_nets.specs.Nets.{raw_in, port_in, command_view, answer_view}
use Rattle.link_core.specs.declared.stage.StageKept.{StageKept}
use Rattle.link_core.specs.Form.{Form, FormsFit, form_of_chain}
use Rattle.link_core.specs.StageNets.{IsStageForm, StageCommand, StageAnswer}
use Rattle.link_core.specs.PassNets.{IsPassForm}
use Rattle.link_core.specs.Lines.{KeepsLine, IsLater, tagged_port}
use Rattle.link_core.proofs.Between.{at_pass}
use Rattle.link_core.proofs.StageLaw.{at_kept, is_stage_run, queue_of}

-- a stage with its two sides
abbrev stage_in : Shape → Run → StageKept → NetValue → AnswerNets → NetValue → AnswerNets → Stage
stage_in shape run kept wait answer up back = record {
  depth = 2;
  shape = shape;
  sides = record { commands_above = command_view run kept.from up; answers_above = answer_view run back; commands_below = command_view run kept.first wait; answers_below = answer_view run answer };
  queue = λ c. queue_of (raw_in (cycle_of run c) kept.first) (raw_in (cycle_of run c) kept.second);
}

next_tag : (tag later : ℕ → ℕ) → IsLater 1 tag later → (c : ℕ) → later (suc c) ≡ tag c
next_tag tag later tags c = let one : 1 + c ≡ suc c = omega arith in sym (ap later one) ∙ tags c

pub stage_line_between : (form : Form) (from to : CommandNets) (kept : StageKept) (wait up : NetValue) (answer back : AnswerNets) (netlist : Netlist) (run : Run) → IsStageForm form → StageCommand from to kept netlist → StageAnswer kept wait answer up back netlist → IsEndlessRun netlist run →
    ((stage : Stage) (above_tag below_tag : ℕ → ℕ) → RunsAsStage stage → ((c : ℕ) → above_tag (suc c) ≡ below_tag c) → 0 < stage.shape.word_bytes →
    (system : System) (agent end : ℕ) → IsPipeLine system agent stage.depth 1 (tagged_port (above stage) above_tag) (tagged_port (below stage) below_tag) end) →
    KeepsLine 1 form (port_in form.up run from up back) (port_in form.down run to wait answer)
stage_line_between form from to kept wait up answer back netlist run p f b endless law system agent end tag later tags =
    subst (λ (s : Shape). IsPipeLine system agent form.link.hold 1 (tagged_port (port_in form.up run from up back) later) (tagged_port (port_in s run to wait answer) tag) end) (sym p.same)
    (subst (λ (l : LinkForm). IsPipeLine system agent l.hold 1 (tagged_port (port_in form.up run from up back) later) (tagged_port (port_in form.up run to wait answer) tag) end) (sym p.is)
    (at_kept from to kept netlist (λ x y. IsPipeLine system agent 2 1 (tagged_port (port_in form.up run x up back) later) (tagged_port (port_in form.up run y wait answer) tag) end) f
    (λ here. law (stage_in form.up run kept wait answer up back) later tag (is_stage_run kept wait answer up back netlist here b run endless form.up) (next_tag tag later tags) p.some system agent end)))

pub chain_line_between : (first second form : Form) (run : Run) (from middle to : CommandNets) (up between wait : NetValue) (back inner answer : AnswerNets) (one two : ℕ) → form ≡ form_of_chain first second → FormsFit first second →
    ((system : System) (agent : ℕ) (first second : Pipe) (up middle down : TaggedPort) (end : ℕ) → KeepsPipeLine system agent first up middle end → KeepsPipeLine system agent second middle down end → KeepsPipeLine system agent (joined_pipe first second) up down end) →
    KeepsLine one first (port_in first.up run from up back) (port_in first.down run middle between inner) →
    KeepsLine two second (port_in second.up run middle between inner) (port_in second.down run to wait answer) →
    KeepsLine (one + two) form (port_in form.up run from up back) (port_in form.down run to wait answer)
chain_line_between first second form run from middle to up between wait back inner answer one two is fit row above below system agent end tag later tags =
    subst (λ (f : Form). IsPipeLine system agent f.link.hold (one + two) (tagged_port (port_in f.up run from up back) later) (tagged_port (port_in f.down run to wait answer) tag) end) (sym is)
    (row system agent (record { hold = first.link.hold; stages = one }) (record { hold = second.link.hold; stages = two }) (tagged_port (port_in first.up run from up back) later) (tagged_port (port_in first.down run middle between inner) (λ c. later (one + c))) (tagged_port (port_in second.down run to wait answer) tag) end
    (above system agent end (λ c. later (one + c)) later (λ c. refl))
    (subst (λ (s : Shape). IsPipeLine system agent second.link.hold two (tagged_port (port_in s run middle between inner) (λ c. later (one + c))) (tagged_port (port_in second.down run to wait answer) tag) end) (sym fit.same_side)
    (below system agent end tag (λ c. later (one + c)) (λ c. (let sum : one + (two + c) ≡ one + two + c = omega arith in ap later sum ∙ tags c)))))

same_everywhere : (f g : ℕ → ℕ) → ((c : ℕ) → f c ≡ g c) → f ≡ g
same_everywhere f g h = λ i c. h c i

pub pass_line_between : (form : Form) (from to : CommandNets) (wait up : NetValue) (answer back : AnswerNets) (run : Run) → IsPassForm form → to ≡ from → (up ≡ wait) × (back ≡ answer) →
    ((system : System) (agent : ℕ) (port : TaggedPort) (end : ℕ) → IsPipeLine system agent 0 0 port port end) →
    KeepsLine 0 form (port_in form.up run from up back) (port_in form.down run to wait answer)
pass_line_between form from to wait up answer back run p f b none system agent end tag later tags =
    let same : later ≡ tag = same_everywhere later tag (λ c. (let zero : 0 + c ≡ c = omega arith in sym (ap later zero) ∙ tags c)) in
    subst (λ (l : LinkForm). IsPipeLine system agent l.hold 0 (tagged_port (port_in form.up run from up back) later) (tagged_port (port_in form.down run to wait answer) tag) end) (sym p.is)
    (at_pass (λ above below. IsPipeLine system agent 0 0 (tagged_port above later) (tagged_port below tag) end) form from to wait up answer back run p f b
    (subst (λ (t : ℕ → ℕ). IsPipeLine system agent 0 0 (tagged_port (port_in form.up run from wait answer) t) (tagged_port (port_in form.up run from wait answer) tag) end) (sym same)
    (none system agent (tagged_port (port_in form.up run from wait answer) tag) end)))
