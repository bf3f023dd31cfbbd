use Rattle.std.proofs.Common.{ap, ◌∙◌, drop, flat_map, add-one, arith}
use Rattle.memory_runs.specs.Operations.{memory_after}
use Rattle.stand_ins.specs.Contents.{fills}
use Rattle.stand_ins.specs.Memory.{contents_of}
use Rattle.stand_ins.proofs.OperationLemmas.{one_more}
use Rattle.stand_ins.proofs.script.fill.Goals as goal

pub statements-preserved : goal.statements-preserved
statements-preserved c =
    let script = c.args.script.now in
    let index = c.statements.statement-index in
    record {
      ahead = ap (λ k. memory_after (contents_of c.fill_statement.new.memory) (flat_map fills (drop k script))) (add-one index)
          ∙ one_more fills (contents_of c.statements.memory) (contents_of c.fill_statement.new.memory) script index c.statement-item.result (omega arith) c.statement-item.is c.in_ok-fill_statement.ensures.ok
          ∙ c.statements.invariant.ahead;
      same = c.fill_statement.ensures.word_bytes ∙ c.statements.invariant.same;
    }
