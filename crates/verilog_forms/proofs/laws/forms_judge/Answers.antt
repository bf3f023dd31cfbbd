use Rattle.std.proofs.Common.{ℕ, inl, inr, ◌⊎◌, List}
use Rattle.verilog_forms.specs.declared.rule.Rule.{Rule}
use Rattle.verilog_forms.specs.Forms.{Form, Reads, HasFault, IsJudged}
use Rattle.verilog_forms.specs.WalkLaws.{Judged, judge, never_both, one_value, one_fault}
use Rattle.verilog_forms.proofs.laws.forms_judge.Goals as goal

told : {A : Type 0} (form : Form A) (text : List ℕ) → Judged form text → ((value : A) × (rest : List ℕ) × Reads form text value rest) ⊎ ((at : ℕ) × (rule : Rule) × HasFault form text at rule)
told form text (Judged.reads value rest r) = inl (value, rest, r)
told form text (Judged.breaks at rule f) = inr (at, rule, f)

judged : {A : Type 0} (form : Form A) → IsJudged form
judged form = record {
  either = λ text. told form text (judge form text);
  never_both = never_both form;
  one_value = λ text one other rest back x y. (let same = one_value form text one other rest back x y in (same.value, same.rest));
  one_fault = λ text at place rule other x y. (let same = one_fault form text at place rule other x y in (same.same_place, same.same_rule));
}

pub returns-clause-of_right_sides : goal.returns-clause-of_right_sides
returns-clause-of_right_sides c = judged

pub returns-clause-of_lines : goal.returns-clause-of_lines
returns-clause-of_lines c = judged

pub returns-clause-of_memories : goal.returns-clause-of_memories
returns-clause-of_memories c = judged

pub returns-clause-of_ports : goal.returns-clause-of_ports
returns-clause-of_ports c = judged

pub returns-clause-of_writes : goal.returns-clause-of_writes
returns-clause-of_writes c = judged

pub returns-clause-of_outputs : goal.returns-clause-of_outputs
returns-clause-of_outputs c = judged

pub returns-clause-of_texts : goal.returns-clause-of_texts
returns-clause-of_texts c = judged
