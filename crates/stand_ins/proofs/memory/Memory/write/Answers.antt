use Rattle.std.proofs.Common.{◌≡◌, ap, sym, ◌∙◌}
use Rattle.histories.specs.History.{numbers}
use Rattle.memory_runs.specs.Operations.{memory_after}
use Rattle.stand_ins.specs.Memory.{MemoryValue, with_bytes, lane_writes}
use Rattle.stand_ins.proofs.Bytes.{with_own, on_ok}
use Rattle.stand_ins.proofs.memory.Memory.write.Goals as goal

pub returns-clause-contents : goal.returns-clause-contents
returns-clause-contents c =
    let memory = c.args.self.now in
    let n = memory.word_bytes in
    let same : n ≡ c.self.inside.word_bytes = sym (ap (λ (m : MemoryValue). m.word_bytes) c.self.view_is) in
    on_ok c.store.result _ (c.store.ensures.succeeds c.requires) c.store.ensures.ok
    ∙ c.written_lanes-bytes.ensures memory c.args.number same
    ∙ ap (λ bytes. memory_after (with_bytes memory c.args.number c.bytes.result) (lane_writes bytes c.args.number c.args.word c.args.enables (numbers 0 bytes))) (sym same)
    ∙ ap (λ bytes. memory_after (with_bytes memory c.args.number bytes) (lane_writes n c.args.number c.args.word c.args.enables (numbers 0 n))) c.bytes.ensures
    ∙ ap (λ f. memory_after f (lane_writes n c.args.number c.args.word c.args.enables (numbers 0 n))) (with_own memory c.args.number)
