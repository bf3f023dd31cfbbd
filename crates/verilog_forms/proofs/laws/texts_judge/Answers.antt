use Rattle.std.proofs.Common.{◌≡◌, ℕ, inl, inr, ◌⊎◌, List, []}
use Rattle.netlist.specs.Netlists.{Netlist, IsModule}
use Rattle.verilog_writer.specs.Text.{text_of}
use Rattle.verilog_forms.specs.declared.rule.Rule.{Rule}
use Rattle.verilog_forms.specs.Forms.{HasFault}
use Rattle.verilog_forms.specs.WholeTexts.{module_form}
use Rattle.verilog_forms.specs.WalkLaws.{Judged, judge, never_both, one_fault}
use Rattle.verilog_forms.proofs.WholeReads.{module_read}
use Rattle.verilog_forms.proofs.WholeSound.{module_sound}
use Rattle.verilog_forms.proofs.laws.texts_judge.Goals as goal

told : (text : List ℕ) → Judged module_form text → ((one : Netlist) × IsModule one × (text ≡ text_of one)) ⊎ ((at : ℕ) × (rule : Rule) × HasFault module_form text at rule)
told text (Judged.reads one rest r) = let sound = module_sound one text rest r in inl (one, sound.0, sound.1)
told text (Judged.breaks at rule f) = inr (at, rule, f)

pub returns-clause-either : goal.returns-clause-either
returns-clause-either c text = told text (judge module_form text)

pub returns-clause-never_both : goal.returns-clause-never_both
returns-clause-never_both c one at rule is = never_both module_form (text_of one) one [] at rule (module_read one is)

pub returns-clause-one_fault : goal.returns-clause-one_fault
returns-clause-one_fault c text at place rule other x y = let same = one_fault module_form text at place rule other x y in (same.same_place, same.same_rule)
