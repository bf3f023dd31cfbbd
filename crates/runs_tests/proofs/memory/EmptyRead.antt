-- A stage with a read without lanes in it doesn't answer promptly and gives what has come.
use Rattle.std.proofs.Common.{suc, ◌||◌, IsTrue, false, arith, refl}
use Rattle.histories.specs.Below.{each_below}
use Rattle.histories.specs.History.{is_raised}
use Rattle.memory_machines.specs.Lines.{target_of}
use Rattle.memory_machines.specs.Rank.{AnswersPromptly, is_owed, moves_commands}
use Rattle.memory_links.specs.Going.{GivesWhatHasCome, is_behind}
use Rattle.runs_tests.specs.SmallSystem.{small_system, stage_top, stage_low}

pub no_true : IsTrue false → ⊥
no_true h = cc

pub not_prompt : AnswersPromptly (target_of small_system 0) stage_top stage_low 6 → ⊥
not_prompt f = no_true (f 1 (omega arith) refl)

pub given : GivesWhatHasCome (target_of small_system 0) stage_top stage_low 6
given c h owed = each_below (λ c. IsTrue (is_owed stage_top c) → IsTrue (is_behind (target_of small_system 0) stage_top stage_low c || (moves_commands stage_top stage_low c || is_raised (stage_top.answers.valid (suc c))) || is_owed stage_low c)) 5 c
    (((((tt, λ x. refl), λ x. refl), λ x. refl), λ x. refl), λ x. refl) (omega (arith, h)) owed
