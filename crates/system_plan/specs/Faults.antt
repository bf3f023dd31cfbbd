-- The refusals of the layers below, as refusals of files.
use Rattle.std.specs.Prelude.{None}
use Rattle.tcl_words.specs.declared.rule.WordsFault.{WordsFault}
use Rattle.tcl_words.specs.declared.rule.WordsFault.TheVariants as words
use Rattle.tcl_words.specs.Rules.{number_of}
use Rattle.script_words.specs.declared.faults.ScriptFault.{ScriptFault}
use Rattle.script_words.specs.declared.faults.ScriptFault.TheVariants as scripts
use Rattle.script_words.specs.declared.faults.ScriptRule.TheVariants.{Words}
use Rattle.address_map.specs.declared.faults.MapFault.{MapFault}
use Rattle.address_map.specs.declared.faults.MapFault.TheVariants as maps
use Rattle.link_rules.specs.declared.faults.LinkRule.TheVariants.{Map}
use Rattle.link_rules.specs.declared.faults.PlanFault.{PlanFault}
use Rattle.link_rules.specs.declared.faults.PlanFault.TheVariants as plans
use Rattle.system_plan.specs.declared.faults.Refusal.{Refusal}
use Rattle.system_plan.specs.declared.faults.Refusal.TheVariants.{Script, Link, Limit, NoMemory}

abbrev pub of_words : WordsFault → Refusal
of_words (words.Refused place rule) = Script place (Words (number_of rule))
of_words words.NoMemory = NoMemory

abbrev pub of_script : ScriptFault → Refusal
of_script (scripts.Refused place rule) = Script place rule
of_script scripts.NoMemory = NoMemory

abbrev pub of_maps : MapFault → Refusal
of_maps (maps.Refused connection rule other) = Link connection (Map rule) other
of_maps maps.NoMemory = NoMemory

abbrev pub of_plan : PlanFault → Refusal
of_plan (plans.Refused connection rule) = Link connection rule None
of_plan (plans.Limit which count) = Limit which count
of_plan plans.NoMemory = NoMemory
