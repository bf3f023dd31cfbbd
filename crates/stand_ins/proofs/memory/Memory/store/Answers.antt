use Rattle.std.proofs.Common.{◌≡◌, ◌-◌, ◌<◌, ◌≤◌, List, length, slice_set, refl, sym, ◌∙◌, ap, subst, arith}
use Rattle.std.specs.List.{HoldsAt}
use Rattle.std.specs.List.Sorted.{IsPartitionPoint}
use Rattle.std.specs.Vec.{vec_capacity, vec_len}
use Rattle.stand_ins.specs.declared.memory.StoredWord.{StoredWord}
use Rattle.stand_ins.specs.Memory.{MemoryValue, with_bytes}
use Rattle.stand_ins.proofs.Words.{IsStored, stored_over, stored_between}
use Rattle.stand_ins.proofs.Bytes.{stored}
use Rattle.stand_ins.proofs.memory.Memory.store.Goals as goal

pub returns-in-Ok-clause-ok : goal.returns-in-Ok-clause-ok
returns-in-Ok-clause-ok c =
    let words = c.self.inside.words.items in
    let word : StoredWord = record { number = c.args.number; bytes = c.args.bytes } in
    let before : MemoryValue = record { words = words; word_bytes = c.self.inside.word_bytes; room = vec_capacity c.self.inside.words - vec_len c.self.inside.words } in
    let after : MemoryValue = record { words = slice_set words c.in-Ok.place word; word_bytes = c.self.inside.word_bytes; room = before.room } in
    let is : before ≡ c.args.self.now = c.self.view_is in
    let at = subst (λ (m : MemoryValue). HoldsAt (λ (one : StoredWord). one.number ≡ c.args.number) m.words c.in-Ok.place) (sym is) c.in-Ok.ensures.found in
    let within = subst (λ (m : MemoryValue). c.in-Ok.place < length m.words) (sym is) c.in-Ok.ensures.within in
    stored before after word refl (stored_over words c.self.invariant.rising c.in-Ok.place within word at)
    ∙ ap (λ (m : MemoryValue). with_bytes m c.args.number c.args.bytes) is

pub returns-in_ok-insert-in-Err-clause-ok : goal.returns-in_ok-insert-in-Err-clause-ok
returns-in_ok-insert-in-Err-clause-ok c =
    let words = c.self.inside.words.items in
    let word : StoredWord = record { number = c.args.number; bytes = c.args.bytes } in
    let before : MemoryValue = record { words = words; word_bytes = c.self.inside.word_bytes; room = vec_capacity c.self.inside.words - vec_len c.self.inside.words } in
    let after : MemoryValue = record { words = c.insert.new.self.items; word_bytes = c.self.inside.word_bytes; room = vec_capacity c.insert.new.self - vec_len c.insert.new.self } in
    let is : before ≡ c.args.self.now = c.self.view_is in
    let within = subst (λ (m : MemoryValue). c.in-Err.place ≤ length m.words) (sym is) c.in-Err.ensures.within in
    let parted = subst (λ (m : MemoryValue). IsPartitionPoint (λ (one : StoredWord). one.number < c.args.number) (λ one. c.args.number < one.number) m.words c.in-Err.place) (sym is) c.in-Err.ensures.missing in
    stored before after word refl
    (subst (λ (one : List StoredWord). IsStored words one word) (sym c.in_ok-insert-in-Err.ensures.items) (stored_between words c.args.number c.in-Err.place within parted c.args.bytes _ (omega arith)))
    ∙ ap (λ (m : MemoryValue). with_bytes m c.args.number c.args.bytes) is
