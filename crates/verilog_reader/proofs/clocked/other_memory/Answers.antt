use Rattle.verilog_reader.proofs.ClockedSteps.{other_memory_found}
use Rattle.verilog_reader.proofs.clocked.other_memory.Goals as goal

pub returns-clause-read : goal.returns-clause-read
returns-clause-read c = λ old all none same counted.
    let m = c.enabled_memory-named in
    other_memory_found c.args.bytes.now all old m.result.0 none c.args.spot m.result.1 c.refuse.result c.requires.within m.ensures.within (m.ensures.read old all same counted) c.refuse.ensures
