-- A pipe of 0 to 4 stages: how many they are, and the forms with which they run.
use Rattle.std.proofs.Common.{◌≡◌, ℕ, zero, suc, ◌+◌, ◌*◌, ◌<◌, ◌≤◌, Bool, true, false, ◌&&◌, ◌||◌, if◌then◌else◌, nat_lt, Option, Some, None, IsTrue, refl, sym, subst, ◌∙◌, arith}
use Rattle.std.specs.Prelude.{unwrap_or, option_map}
use Rattle.netlist.specs.Nets.{NetValue}
use Rattle.netlist.specs.Netlists.{Netlist}
use Rattle.netlist.specs.Runs.{Run, IsEndlessRun}
use Rattle.netlist.specs.Longer.{Extends}
use Rattle.net_parts.specs.Laws.{extends_twice}
use Rattle.memory_runs.specs.Views.{Shape}
use Rattle.memory_runs.specs.Operations.{pieces}
use Rattle.memory_runs.specs.Laws.{same_pieces}
use Rattle.memory_machines.specs.Link.{Target}
use Rattle.memory_links.specs.Links.{pass_form}
use Rattle.memory_links.specs.Pipes.{stage_form}
use Rattle.command_nets.specs.declared.nets.CommandNets.{CommandNets}
use Rattle.command_nets.specs.declared.nets.AnswerNets.{AnswerNets}
use Rattle.command_nets.specs.Nets.{port_in}
use Rattle.link_core.specs.declared.stage.PipeStage.{PipeStage}
use Rattle.link_core.specs.declared.stage.StageKept.{StageKept}
use Rattle.link_core.specs.Form.{Form, FormsFit, form_of_chain}
use Rattle.link_core.specs.ChainNets.{IsChainOf, HasMiddle, HasMiddleAnswer}
use Rattle.link_core.specs.Lines.{RunsAsStages}
use Rattle.link_core.specs.MaybeNets.{form_of, answer_of, answer_lasts}
use Rattle.link_core.specs.PipeForms.{Pipe, pipe_of}
use Rattle.link_core.specs.PipeNets.{PipeKept, PipeCommand, StagesInLonger, stage_command, command_lasts}
use Rattle.link_core.specs.StageNets.{IsStageForm, StageAnswer, stage_answer_lasts}

-- ---- how many

-- so much for each stage that is there
abbrev pub for_stage : ℕ → Option PipeStage → ℕ
for_stage each stage = unwrap_or (option_map (λ s. each) stage) 0

abbrev pub for_pipe : ℕ → Pipe → ℕ
for_pipe each pipe = ((for_stage each pipe.first.first.first.link + for_stage each pipe.first.first.second.link) + for_stage each pipe.first.second.link) + for_stage each pipe.second.link

pub all_stages : (each stages : ℕ) → stages ≤ 4 → for_pipe each (pipe_of stages) ≡ each * stages
all_stages each zero few = omega arith
all_stages each (suc zero) few = omega arith
all_stages each (suc (suc zero)) few = omega arith
all_stages each (suc (suc (suc zero))) few = omega arith
all_stages each (suc (suc (suc (suc zero)))) few = omega arith
all_stages each (suc (suc (suc (suc (suc stages))))) few = absurd (omega (arith, few))

-- stages have no memories
pub none_stored : (stages : ℕ) → stages ≤ 4 → for_pipe 0 (pipe_of stages) ≡ 0
none_stored stages few = let none = all_stages 0 stages few in omega (arith, none)

-- ---- the forms

-- both sides have this shape, and words go through one by one
record IsEven (shape : Shape) (target : Target) (form : Form) : Type 0 where
  up : form.up ≡ shape
  down : form.down ≡ shape
  target_is : form.link.target ≡ target
  words : IsTrue form.link.word_for_word

abbrev form_at : Shape → Target → Bool → Form
form_at shape target there = record { up = shape; down = shape; link = if there then stage_form target else pass_form target }

even_at : (shape : Shape) (target : Target) (there : Bool) → IsEven shape target (form_at shape target there)
even_at shape target true = record { up = refl; down = refl; target_is = refl; words = refl }
even_at shape target false = record { up = refl; down = refl; target_is = refl; words = refl }

both_true : (a b : Bool) → IsTrue a → IsTrue b → IsTrue (a && b)
both_true true b one other = other
both_true false b one other = one

left_true : (a b : Bool) → IsTrue a → IsTrue (a || b)
left_true true b one = refl
left_true false b one = absurd (cc)

even_chain : (shape : Shape) (target : Target) (first second : Form) → IsEven shape target first → IsEven shape target second → IsEven shape target (form_of_chain first second)
even_chain shape target first second one other = record {
  up = one.up;
  down = other.down;
  target_is = one.target_is;
  words = both_true first.link.word_for_word second.link.word_for_word one.words other.words;
}

one_piece : (shape up middle down : Shape) → 0 < shape.word_bytes → up ≡ shape → middle ≡ shape → down ≡ shape → pieces middle down * pieces up middle ≤ pieces up down
one_piece shape up middle down some one two three =
    let same = same_pieces shape some in
    rw (one, two, three) (rw same (omega arith))

even_fit : (shape : Shape) (target : Target) (first second : Form) → 0 < shape.word_bytes → IsEven shape target first → IsEven shape target second → FormsFit first second
even_fit shape target first second some one other = record {
  same_side = one.down ∙ sym other.up;
  target = one.target_is ∙ sym other.target_is;
  pieces = one_piece shape first.up first.down second.down some one.up one.down other.down;
  words = left_true first.link.word_for_word second.link.word_for_word one.words;
}

abbrev pub stage_line : Option PipeStage → Form → Type 0
stage_line stage form = form_of (λ s form. IsStageForm form) stage form

line_at : (shape : Shape) (target : Target) (there : Bool) → 0 < shape.word_bytes → stage_line (if there then Some (record {}) else None) (form_at shape target there)
line_at shape target true some = record { same = refl; is = refl; some = some }
line_at shape target false some = record { same = refl; is = refl; some = some }

chain_line : (shape : Shape) (target : Target) (firsts seconds : Form → Type 0) (first second : Form) → 0 < shape.word_bytes → IsEven shape target first → IsEven shape target second → firsts first → seconds second → IsChainOf firsts seconds (form_of_chain first second)
chain_line shape target firsts seconds first second some one other first_has second_has = record {
  first = first;
  second = second;
  is = refl;
  fit = even_fit shape target first second some one other;
  first_has = first_has;
  second_has = second_has;
}

abbrev pub pipe_line : Pipe → Form → Type 0
pipe_line pipe form =
    IsChainOf (IsChainOf (IsChainOf (stage_line pipe.first.first.first.link) (stage_line pipe.first.first.second.link)) (stage_line pipe.first.second.link)) (stage_line pipe.second.link) form

-- a form of all stages in this shape
pub record HasForm (shape : Shape) (stages : ℕ) : Type 0 where
  pub form : Form
  pub up : form.up ≡ shape
  pub down : form.down ≡ shape
  pub line : pipe_line (pipe_of stages) form

pub form_for : (shape : Shape) (stages : ℕ) → 0 < shape.word_bytes → HasForm shape stages
form_for shape stages some =
    let target : Target = record { shape = shape; span = 0 } in
    let zeroth = form_at shape target (nat_lt 0 stages) in
    let first = form_at shape target (nat_lt 1 stages) in
    let second = form_at shape target (nat_lt 2 stages) in
    let third = form_at shape target (nat_lt 3 stages) in
    let two = even_chain shape target zeroth first (even_at shape target (nat_lt 0 stages)) (even_at shape target (nat_lt 1 stages)) in
    let three = even_chain shape target (form_of_chain zeroth first) second two (even_at shape target (nat_lt 2 stages)) in
    let four = even_chain shape target (form_of_chain (form_of_chain zeroth first) second) third three (even_at shape target (nat_lt 3 stages)) in
    record {
      form = form_of_chain (form_of_chain (form_of_chain zeroth first) second) third;
      up = four.up;
      down = four.down;
      line = chain_line shape target _ _ (form_of_chain (form_of_chain zeroth first) second) third some three (even_at shape target (nat_lt 3 stages))
          (chain_line shape target _ _ (form_of_chain zeroth first) second some two (even_at shape target (nat_lt 2 stages))
          (chain_line shape target _ _ zeroth first some (even_at shape target (nat_lt 0 stages)) (even_at shape target (nat_lt 1 stages)) (line_at shape target (nat_lt 0 stages) some) (line_at shape target (nat_lt 1 stages) some))
          (line_at shape target (nat_lt 2 stages) some))
          (line_at shape target (nat_lt 3 stages) some);
    }

-- ---- what stands between the two sides

abbrev pub through : Pipe → CommandNets → CommandNets → PipeKept → Netlist → Type 0
through pipe from to kept netlist =
    HasMiddle
    (λ third. HasMiddle
    (λ second. HasMiddle (λ first. stage_command pipe.first.first.first.link from first kept.0.0.0 netlist) (λ first. stage_command pipe.first.first.second.link first second kept.0.0.1 netlist))
    (λ second. stage_command pipe.first.second.link second third kept.0.1 netlist))
    (λ third. stage_command pipe.second.link third to kept.1 netlist)

abbrev pub stage_answer : Option PipeStage → Option StageKept → NetValue → AnswerNets → NetValue → AnswerNets → Netlist → Type 0
stage_answer stage kept wait answer up back netlist = answer_of (λ s held wait answer up back netlist. StageAnswer held wait answer up back netlist) stage kept wait answer up back netlist

abbrev pub answered : Pipe → PipeKept → NetValue → AnswerNets → NetValue → AnswerNets → Netlist → Type 0
answered pipe kept wait answer up back netlist =
    HasMiddleAnswer
    (λ third inner. HasMiddleAnswer
    (λ second between. HasMiddleAnswer (λ first highest. stage_answer pipe.first.first.first.link kept.0.0.0 first highest up back netlist) (λ first highest. stage_answer pipe.first.first.second.link kept.0.0.1 second between first highest netlist))
    (λ second between. stage_answer pipe.first.second.link kept.0.1 third inner second between netlist))
    (λ third inner. stage_answer pipe.second.link kept.1 wait answer third inner netlist)

stage_answer_stands : (stage : Option PipeStage) (kept : Option StageKept) (wait : NetValue) (answer : AnswerNets) (up : NetValue) (back : AnswerNets) (old new : Netlist) → stage_answer stage kept wait answer up back old → Extends old new → stage_answer stage kept wait answer up back new
stage_answer_stands stage kept wait answer up back old new h e = answer_lasts (λ s held wait answer up back netlist. StageAnswer held wait answer up back netlist) (λ s held wait answer up back old new h e. stage_answer_lasts held wait answer up back old new h e) stage kept wait answer up back old new h e

answered_lasts : (pipe : Pipe) (kept : PipeKept) (wait : NetValue) (answer : AnswerNets) (up : NetValue) (back : AnswerNets) (old new : Netlist) → answered pipe kept wait answer up back old → Extends old new → answered pipe kept wait answer up back new
answered_lasts pipe kept wait answer up back old new h e = record {
  wait = h.wait;
  answer = h.answer;
  first = record {
    wait = h.first.wait;
    answer = h.first.answer;
    first = record {
      wait = h.first.first.wait;
      answer = h.first.first.answer;
      first = stage_answer_stands pipe.first.first.first.link kept.0.0.0 h.first.first.wait h.first.first.answer up back old new h.first.first.first e;
      second = stage_answer_stands pipe.first.first.second.link kept.0.0.1 h.first.wait h.first.answer h.first.first.wait h.first.first.answer old new h.first.first.second e;
    };
    second = stage_answer_stands pipe.first.second.link kept.0.1 h.wait h.answer h.first.wait h.first.answer old new h.first.second e;
  };
  second = stage_answer_stands pipe.second.link kept.1 wait answer h.wait h.answer old new h.second e;
}

-- what the law of the pipe's line gives
abbrev pub RunsThrough : Pipe → Type 0
RunsThrough pipe =
    (form : Form) (from to : CommandNets) (kept : PipeKept) (wait up : NetValue) (answer back : AnswerNets) (netlist : Netlist)
    → pipe_line pipe form → through pipe from to kept netlist → answered pipe kept wait answer up back netlist
    → (run : Run) → IsEndlessRun netlist run → RunsAsStages (for_pipe 1 pipe) (port_in form.up run from up back) (port_in form.down run to wait answer)

pub runs_between : (stages : ℕ) → stages ≤ 4 → RunsThrough (pipe_of stages) → (kept : PipeKept) (wait : NetValue) (answer : AnswerNets) (up : NetValue) (back : AnswerNets) (old new : Netlist) → Extends old new → answered (pipe_of stages) kept wait answer up back new →
    (from to : CommandNets) → PipeCommand stages from to kept old → StagesInLonger stages new from up back to wait answer
runs_between stages few law kept wait answer up back old new e made from to command longer f run endless shape some =
    let has = form_for shape stages some in
    let all : for_pipe 1 (pipe_of stages) ≡ stages = all_stages 1 stages few ∙ omega arith in
    let runs = law has.form from to kept wait up answer back longer has.line (command_lasts stages from to kept old longer command (extends_twice old new longer e f)) (answered_lasts (pipe_of stages) kept wait answer up back new longer made f) run endless in
    subst (λ k. RunsAsStages k (port_in shape run from up back) (port_in shape run to wait answer)) all
    (subst (λ (s : Shape). RunsAsStages (for_pipe 1 (pipe_of stages)) (port_in shape run from up back) (port_in s run to wait answer)) has.down
    (subst (λ (s : Shape). RunsAsStages (for_pipe 1 (pipe_of stages)) (port_in s run from up back) (port_in has.form.down run to wait answer)) has.up runs))
