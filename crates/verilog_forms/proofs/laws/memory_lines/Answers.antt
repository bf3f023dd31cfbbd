use Rattle.verilog_forms.proofs.MemoryLines.{memory_read, memory_sound, module_memory}
use Rattle.verilog_forms.proofs.laws.memory_lines.Goals as goal

pub returns-clause-read : goal.returns-clause-read
returns-clause-read c lines m memory rest few is = memory_read m memory rest few is.some_bit is.small is.some_address is.few_addresses

pub returns-clause-sound : goal.returns-clause-sound
returns-clause-sound c = memory_sound

pub returns-clause-of_modules : goal.returns-clause-of_modules
returns-clause-of_modules c one is m memory rest at = module_memory one m memory rest is at
