-- What the files of a campaign call for.
use Rattle.std.specs.Prelude.{ℕ, List}
use Rattle.system_plan.specs.Plans.{IsAccepted, IsRefusedBy}
use Rattle.task_words.specs.declared.Task.TheVariants.{Campaign}
use Rattle.answer_lines.specs.declared.exit.Exit.{Exit}
use Rattle.avalon_top.specs.Systems.{answer_of_system}
use Rattle.avalon_top.specs.Refused.{DoneOrRefused}

-- the answer that the files of a system call for, where nothing fails
abbrev pub CampaignCallsFor : ℕ → List (List ℕ) → Exit → Type 0
CampaignCallsFor number files = DoneOrRefused (IsAccepted files) (IsRefusedBy files) (answer_of_system (Campaign number))
