use Rattle.std.proofs.Common.{◌≡◌, ℕ, sym, subst, take, arith}
use Rattle.std.specs.Prelude.{OnOk}
use Rattle.netlist.specs.Netlists.{IsWaiting}
use Rattle.net_parts.specs.Growth.{WaitsWithout}
use Rattle.item_queues.specs.declared.storage.Storage.{Storage}
use Rattle.item_queues.specs.Places.{InPlaces, ShiftsOn}
use Rattle.item_queues.specs.Storages.{owns_in, StorageGoesOn}
use Rattle.item_queues.proofs.storage.finish_storage.Goals as goal

pub returns-in-InRegisters-clause-on : goal.returns-in-InRegisters-clause-on
returns-in-InRegisters-clause-on g c =
    let same : c.from.result ≡ c.args.bound = omega arith in
    subst (λ (storage : Storage g.row.N). OnOk c.shift_places.result (StorageGoesOn c.shift_places.new.builder c.args.bound storage c.args.item.now c.args.comes c.args.goes)) (sym c.in-InRegisters.is)
    (subst (λ k. OnOk c.shift_places.result (ShiftsOn c.shift_places.new.builder c.args.comes c.args.item.now (take k c.in-InRegisters.places))) same c.shift_places.ensures.value)

pub returns-in-InRegisters-clause-waits : goal.returns-in-InRegisters-clause-waits
returns-in-InRegisters-clause-waits g c =
    let same : c.from.result ≡ c.args.bound = omega arith in
    subst (λ (storage : Storage g.row.N). (n : ℕ) → ¬ owns_in c.args.bound storage n → IsWaiting c.args.builder.now n → IsWaiting c.shift_places.new.builder n) (sym c.in-InRegisters.is)
    (subst (λ k. (n : ℕ) → ¬ InPlaces (take k c.in-InRegisters.places) n → IsWaiting c.args.builder.now n → IsWaiting c.shift_places.new.builder n) same c.shift_places.ensures.still_wait)

pub returns-in-InRegisters-clause-no_more_wait : goal.returns-in-InRegisters-clause-no_more_wait
returns-in-InRegisters-clause-no_more_wait g c =
    let same : c.from.result ≡ c.args.bound = omega arith in
    subst (λ (storage : Storage g.row.N). OnOk c.shift_places.result (WaitsWithout (owns_in c.args.bound storage) c.args.builder.now c.shift_places.new.builder)) (sym c.in-InRegisters.is)
    (subst (λ k. OnOk c.shift_places.result (WaitsWithout (InPlaces (take k c.in-InRegisters.places)) c.args.builder.now c.shift_places.new.builder)) same c.shift_places.ensures.no_more_wait)
