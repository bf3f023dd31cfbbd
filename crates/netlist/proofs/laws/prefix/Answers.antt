use Rattle.std.proofs.Common.{arith}
use Rattle.netlist.proofs.laws.prefix.Goals as goal

pub returns : goal.returns
returns c netlist run cycles fewer r le = record {
  valuations = λ k lt. r.valuations k (omega arith);
  starts = λ lt. r.starts (omega arith);
  steps = λ k lt. r.steps k (omega arith);
}
