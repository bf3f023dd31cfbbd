use Rattle.std.proofs.Common.{◌∙◌, ap, arith, rules}
use Rattle.std.proofs.lemmas.Result.{on_ok_weaker}
use Rattle.stand_ins.specs.Memory.{MemoryValue}
use Rattle.stand_ins.proofs.Bytes.{put_is}
use Rattle.stand_ins.proofs.memory.Memory.put.Goals as goal

pub returns-clause-ok : goal.returns-clause-ok
returns-clause-ok c =
    let same = c.from-word_bytes.ensures ∙ ap (λ (m : MemoryValue). m.word_bytes) c.self.view_is in
    on_ok_weaker c.store.result (λ is. is ∙ put_is c.args.self.now c.args.place c.args.byte c.from-word_bytes.result c.bytes-bytes.result same c.bytes-bytes.ensures (search rules) (omega arith) (omega arith)) c.store.ensures.ok
