use Rattle.std.proofs.Common.{rules}
use Rattle.std.proofs.lemmas.List.Sorted.{answers_always}
use Rattle.stand_ins.proofs.Words.{found, missing}
use Rattle.stand_ins.proofs.memory.Memory.find.Goals as goal

pub returns-clause-found : goal.returns-clause-found
returns-clause-found c =
    let facts = c.binary_search_by_key.ensures in
    let by_number = facts.position (λ word. word.number) (answers_always _ _ _ (λ f a r g called. search rules)) in
    rw (← c.self.view_is, ← c.deref.ensures.value) (found c.deref.result.now (rw c.deref.ensures.value c.self.invariant.rising) c.args.number c.binary_search_by_key.result by_number)

pub returns-clause-missing : goal.returns-clause-missing
returns-clause-missing c =
    let facts = c.binary_search_by_key.ensures in
    let by_number = facts.position (λ word. word.number) (answers_always _ _ _ (λ f a r g called. search rules)) in
    rw (← c.self.view_is, ← c.deref.ensures.value) (missing c.deref.result.now (rw c.deref.ensures.value c.self.invariant.rising) c.args.number c.binary_search_by_key.result by_number)
