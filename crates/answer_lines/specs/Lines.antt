-- The status of each answer, and the bytes of the line that it writes.
use Rattle.std.specs.Prelude.{ℕ, List, [], ◌++◌, Option, Some, None, codes, decimal}
use Rattle.av_base.specs.declared.faults.Place.{Place}
use Rattle.script_words.specs.declared.faults.ScriptRule.{ScriptRule}
use Rattle.script_words.specs.declared.faults.ScriptRule.TheVariants as script
use Rattle.link_rules.specs.declared.faults.LinkRule.{LinkRule}
use Rattle.link_rules.specs.declared.faults.LinkRule.TheVariants as link
use Rattle.system_plan.specs.declared.faults.Refusal.{Refusal}
use Rattle.system_plan.specs.declared.faults.Refusal.TheVariants as refusal
use Rattle.answer_lines.specs.declared.exit.StepRule.{StepRule}
use Rattle.answer_lines.specs.declared.exit.StepRule.TheVariants as step
use Rattle.answer_lines.specs.declared.exit.Exit.{Exit}
use Rattle.answer_lines.specs.declared.exit.Exit.TheVariants as exit

abbrev pub script_rule : ScriptRule → List ℕ
script_rule (script.Words n) = codes "T" ++ decimal n
script_rule (script.Command n) = codes "C" ++ decimal n
script_rule (script.Interface n) = codes "I" ++ decimal n

abbrev pub script_line : Place → ScriptRule → List ℕ
script_line place rule =
    codes "script refused: file " ++ decimal place.file ++ codes " line " ++ decimal place.line ++ codes " byte "
    ++ decimal place.byte ++ codes " rule " ++ script_rule rule ++ codes "\n"

abbrev pub link_rule : LinkRule → List ℕ
link_rule (link.Map n) = codes "A" ++ decimal n
link_rule (link.Mm n) = codes "P" ++ decimal n
link_rule (link.Stream n) = codes "S" ++ decimal n

-- the connection that is in the way, where there is one
abbrev pub other_text : Option ℕ → List ℕ
other_text None = []
other_text (Some other) = codes " with " ++ decimal other

abbrev pub link_line : ℕ → LinkRule → Option ℕ → List ℕ
link_line connection rule other =
    codes "link refused: connection " ++ decimal connection ++ codes " rule " ++ link_rule rule ++ other_text other ++ codes "\n"

abbrev pub limit_line : ℕ → ℕ → List ℕ
limit_line which count = codes "limit: L" ++ decimal which ++ codes " count " ++ decimal count ++ codes "\n"

abbrev pub verilog_line : ℕ → ℕ → List ℕ
verilog_line byte rule = codes "verilog refused: byte " ++ decimal byte ++ codes " rule V" ++ decimal rule ++ codes "\n"

abbrev pub step_rule : StepRule → List ℕ
step_rule (step.Scenario n) = codes "N" ++ decimal n
step_rule (step.Waves n) = codes "X" ++ decimal n

abbrev pub scenario_line : ℕ → ℕ → StepRule → List ℕ
scenario_line file line rule =
    codes "scenario refused: file " ++ decimal file ++ codes " line " ++ decimal line ++ codes " rule " ++ step_rule rule
    ++ codes "\n"

abbrev pub dump_line : ℕ → ℕ → List ℕ
dump_line byte rule = codes "dump refused: byte " ++ decimal byte ++ codes " rule G" ++ decimal rule ++ codes "\n"

abbrev pub packet_line : ℕ → ℕ → List ℕ
packet_line byte rule = codes "packet refused: byte " ++ decimal byte ++ codes " rule Y" ++ decimal rule ++ codes "\n"

-- the line of an answer, and no byte for those that write none
abbrev pub line_of : Exit → List ℕ
line_of exit.Done = []
line_of exit.Usage =
    codes "usage: generate|check SYSTEM COMPONENT.. | simulate SYSTEM SCENARIO COMPONENT.. | replay VERILOG WAVES | campaign NUMBER SYSTEM COMPONENT.. | workload NUMBER | dump VERILOG WAVES | undump DUMP | bridge NUMBER SYSTEM BYTES COMPONENT.. | mux|demux NUMBER NUMBER NUMBER | gather NUMBER NUMBER NUMBER NUMBER\n"
line_of (exit.ReadFault file) = codes "read fault: file " ++ decimal file ++ codes "\n"
line_of exit.WriteFault = []
line_of (exit.ScriptRefused place rule) = script_line place rule
line_of (exit.LinkRefused connection rule other) = link_line connection rule other
line_of (exit.Limit which count) = limit_line which count
line_of (exit.VerilogRefused byte rule) = verilog_line byte rule
line_of (exit.ScenarioRefused file line rule) = scenario_line file line rule
line_of (exit.DumpRefused byte rule) = dump_line byte rule
line_of (exit.PacketRefused byte rule) = packet_line byte rule
line_of exit.NoMemory = codes "no memory\n"

abbrev pub status_of : Exit → ℕ
status_of exit.Done = 0
status_of exit.Usage = 2
status_of (exit.ReadFault file) = 3
status_of exit.WriteFault = 4
status_of (exit.ScriptRefused place rule) = 5
status_of (exit.LinkRefused connection rule other) = 6
status_of (exit.Limit which count) = 7
status_of (exit.VerilogRefused byte rule) = 8
status_of (exit.ScenarioRefused file line rule) = 9
status_of exit.NoMemory = 10
status_of (exit.DumpRefused byte rule) = 11
status_of (exit.PacketRefused byte rule) = 12

-- the answer to files that are refused
abbrev pub exit_of : Refusal → Exit
exit_of (refusal.Script place rule) = exit.ScriptRefused place rule
exit_of (refusal.Link connection rule other) = exit.LinkRefused connection rule other
exit_of (refusal.Limit which count) = exit.Limit which count
exit_of refusal.NoMemory = exit.NoMemory
