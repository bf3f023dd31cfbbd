use Rattle.std.proofs.Common.{◌∙◌}
use Rattle.std.proofs.lemmas.Result.{IfOk-weaker}
use Rattle.drawn_scenarios.proofs.HostLemmas.{transfer_writes, transfer_reads}
use Rattle.drawn_scenarios.proofs.hosts.transfer.Goals as goal

pub returns-then-is_write : goal.returns-then-is_write
returns-then-is_write c = IfOk-weaker c.write.result _ _ (λ statement e. e ∙ transfer_writes c.args.host.now c.args.choice c.args.address _ (cc)) c.write.ensures

pub returns : goal.returns
returns c = let is = transfer_reads c.args.host.now c.args.choice c.args.address c.args.generator.now (cc) in cc
