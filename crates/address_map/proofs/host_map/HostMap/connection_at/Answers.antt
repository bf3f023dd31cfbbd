use Rattle.std.proofs.Common.{◌<◌, length, ◌-◌, nat_le, get_or, arith, ap, sym, ◌∙◌}
use Rattle.std.specs.List.{AllWithin}
use Rattle.std.specs.Option.{option_map}
use Rattle.address_map.specs.Maps.{MapEntry}
use Rattle.address_map.proofs.EntryLemmas.{zeros, found_last, found_none, then_some-found}
use Rattle.address_map.proofs.host_map.HostMap.connection_at.Goals as goal

pub returns-then-next-eq0 : goal.returns-then-next-eq0
returns-then-next-eq0 c =
    let entries = c.args.self.now in
    let others : AllWithin (λ e. c.args.address < e.first) entries 0 (length entries) =
    λ k d low within. rw (← c.from.ensures) (c.begun-next.ensures.others k d (omega arith) within) in
    sym (ap (option_map (λ (e : MapEntry). e.connection)) (found_none entries c.args.address others))

pub returns : goal.returns
returns c =
    let entries = c.args.self.now in
    let found = found_last entries c.begun-next.result c.args.address zeros c.entries.ensures.rising c.begun-next.ensures.few (omega arith)
    (λ k d low below. rw (← c.from.ensures) (c.begun-next.ensures.begun k d low below))
    (λ k d low within. rw (← c.from.ensures) (c.begun-next.ensures.others k d low within)) in
    let read = rw c.entries.ensures.value at c.then_some.ensures in
    read ∙ then_some-found (nat_le c.args.address (get_or entries (c.begun-next.result - 1) zeros).last) (get_or entries (c.begun-next.result - 1) zeros)
    ∙ sym (ap (option_map (λ (e : MapEntry). e.connection)) found)
