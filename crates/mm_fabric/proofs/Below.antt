-- A pipe of stages between an arbiter and the part next to an agent.
use Rattle.std.proofs.Common.{◌≡◌, ℕ, suc, ◌+◌, Bool, true, false, refl, sym, subst, ap, ◌∙◌, arith}
use Rattle.std.proofs.Math.Path.{fun_ext}
use Rattle.netlist.specs.Nets.{NetValue}
use Rattle.netlist.specs.Netlists.{Netlist}
use Rattle.netlist.specs.Runs.{Run, IsEndlessRun, cycle_of}
use Rattle.netlist.specs.Longer.{Extends}
use Rattle.net_parts.specs.Growth.{StillWait}
use Rattle.net_parts.specs.Laws.{extends_twice}
use Rattle.memory_machines.specs.Link.{Port}
use Rattle.command_nets.specs.declared.nets.CommandNets.{CommandNets}
use Rattle.command_nets.specs.declared.nets.AnswerNets.{AnswerNets}
use Rattle.command_nets.specs.Nets.{AreAnswerNets, port_in}
use Rattle.link_core.specs.Boundaries.{TagsRise, HasPipe}
use Rattle.link_core.specs.Lines.{RunsAsStages as StagesRun, tagged_port, with_tag}
use Rattle.link_core.specs.PipeNets.{PipeKept, PipeCommand, IsLaterBy, StagesInLonger, begun_lasts}
use Rattle.mm_agent.specs.Agents.{BearsOneTag}
use Rattle.mm_fabric.specs.Stages.{command_below, AreStages, RunsAsStages}

-- ---- nets

pub own_width : (netlist : Netlist) (answer : AnswerNets) (bits : ℕ) → AreAnswerNets netlist answer bits → AreAnswerNets netlist answer answer.word.width
own_width netlist answer bits h = subst (AreAnswerNets netlist answer) (sym h.word.has_width) h

pub bears_below : (netlist : Netlist) (asked command : CommandNets) → command.tag ≡ asked.tag → BearsOneTag netlist asked → BearsOneTag netlist command
bears_below netlist asked command same h = record { tag = h.tag; always = λ cycle v. ap (λ (net : NetValue). cycle.net net.number) same ∙ h.always cycle v }

pub bears_on : (old new : Netlist) (command : CommandNets) → Extends old new → BearsOneTag old command → BearsOneTag new command
bears_on old new command e h = record { tag = h.tag; always = λ cycle v. h.always cycle (e.valuations cycle v) }

pub stages_last : (old new : Netlist) (stages : ℕ) (several : Bool) (asked command : CommandNets) (kept : PipeKept) → AreStages old stages several asked command kept → Extends old new → StillWait old new → AreStages new stages several asked command kept
stages_last old new stages several asked command kept h e w = record { to = h.to; begun = begun_lasts stages asked h.to kept old new h.begun e w; is = h.is }

-- ---- tags

-- what is shown above is shown so many cycles before below
abbrev GoesUp : ℕ → (ℕ → ℕ) → (ℕ → ℕ) → Type 0
GoesUp stages up down = (c : ℕ) → up (stages + c) ≡ down c

-- by boundary: 0 is above
abbrev tag_at : (ℕ → ℕ) → ℕ → ℕ → ℕ
tag_at up i c = up (i + c)

tags_rise : (stages : ℕ) (up : ℕ → ℕ) → TagsRise stages (tag_at up)
tags_rise stages up i c low = ap up (omega arith)

abbrev pub PipeLaw : Type 0
PipeLaw = (stages : ℕ) (up down : Port) → StagesRun stages up down → up.shape ≡ down.shape → (tag : ℕ → ℕ → ℕ) → TagsRise stages tag → HasPipe stages (tagged_port up (tag 0)) (tagged_port down (tag stages))

pipe_with : PipeLaw → (stages : ℕ) (above below : Port) (up down : ℕ → ℕ) → StagesRun stages above below → above.shape ≡ below.shape → GoesUp stages up down → HasPipe stages (tagged_port above up) (tagged_port below down)
pipe_with law stages above below up down runs same rises =
    let here : tag_at up 0 ≡ up = fun_ext (λ c. ap up (omega arith)) in
    let there : tag_at up stages ≡ down = fun_ext rises in
    subst (λ t. HasPipe stages (tagged_port above t) (tagged_port below down)) here
    (subst (λ t. HasPipe stages (tagged_port above (tag_at up 0)) (tagged_port below t)) there (law stages above below runs same (tag_at up) (tags_rise stages up)))

-- ---- runs

abbrev pub OneTagLaw : Type 0
OneTagLaw = (stages : ℕ) (up down : Port) → StagesRun stages up down → (tag : ℕ) (tags : ℕ → ℕ) → ((c : ℕ) → tags c ≡ tag) → up.commands.tag ≡ tags → StagesRun stages up (with_tag tags down)

shows_one : (netlist : Netlist) (command : CommandNets) (h : BearsOneTag netlist command) (run : Run) → IsEndlessRun netlist run → (c : ℕ) → run.net c command.tag.number ≡ h.tag
shows_one netlist command h run endless c = h.always (cycle_of run c) ((endless (suc c)).valuations c (omega arith))

one_rises : (netlist : Netlist) (asked : CommandNets) (tag low : NetValue) (stages : ℕ) → BearsOneTag netlist asked → low ≡ asked.tag → tag ≡ low → (run : Run) → IsEndlessRun netlist run → GoesUp stages (λ c. run.net c tag.number) (λ c. run.net c low.number)
one_rises netlist asked tag low stages h below above run endless c =
    ap (λ (net : NetValue). run.net (stages + c) net.number) (above ∙ below) ∙ shows_one netlist asked h run endless (stages + c) ∙ sym (shows_one netlist asked h run endless c) ∙ sym (ap (λ (net : NetValue). run.net c net.number) below)

pub between : PipeLaw → OneTagLaw → (old piped done : Netlist) (stages : ℕ) (several : Bool) (asked command : CommandNets) (kept : PipeKept) (wait : NetValue) (answer : AnswerNets) (up : NetValue) (back : AnswerNets) (tag low : NetValue) →
    AreStages old stages several asked command kept → ((from to : CommandNets) → PipeCommand stages from to kept old → StagesInLonger stages piped from up back to wait answer) → Extends old piped → Extends piped done →
    (several ≡ true → IsLaterBy done stages low tag) → (several ≡ false → tag ≡ low) → (several ≡ false → BearsOneTag old asked × (low ≡ asked.tag)) →
    RunsAsStages done stages asked (record { wait = up; answer = back; tag = tag }) command (record { wait = wait; answer = answer; tag = low })
between law one old piped done stages true asked command kept wait answer up back tag low h machine e f later same alone longer g run endless shape some =
    let runs = machine asked h.to h.begun.made longer (extends_twice piped done longer f g) run endless shape some in
    let rises = (later refl).value run (λ cycles. g.runs run cycles (endless cycles)) in
    subst (λ (below : CommandNets). HasPipe stages (tagged_port (port_in shape run asked up back) (λ c. run.net c tag.number)) (tagged_port (port_in shape run below wait answer) (λ c. run.net c low.number))) (sym h.is)
    (pipe_with law stages (port_in shape run asked up back) (port_in shape run h.to wait answer) (λ c. run.net c tag.number) (λ c. run.net c low.number) runs refl rises)
between law one old piped done stages false asked command kept wait answer up back tag low h machine e f later same alone longer g run endless shape some =
    let bears = (alone refl).0 in
    let here : IsEndlessRun old run = λ cycles. e.runs run cycles (f.runs run cycles (g.runs run cycles (endless cycles))) in
    let runs = machine asked h.to h.begun.made longer (extends_twice piped done longer f g) run endless shape some in
    let tagged = one stages (port_in shape run asked up back) (port_in shape run h.to wait answer) runs bears.tag (λ c. run.net c asked.tag.number) (shows_one old asked bears run here) refl in
    let rises = one_rises old asked tag low stages bears (alone refl).1 (same refl) run here in
    subst (λ (below : CommandNets). HasPipe stages (tagged_port (port_in shape run asked up back) (λ c. run.net c tag.number)) (tagged_port (port_in shape run below wait answer) (λ c. run.net c low.number))) (sym h.is)
    (pipe_with law stages (port_in shape run asked up back) (port_in shape run (command_below false asked h.to) wait answer) (λ c. run.net c tag.number) (λ c. run.net c low.number) tagged refl rises)
