use Rattle.std.proofs.Common.{◌≡◌, Some, is_some, List, [], ◌∷◌, ◌++◌, get_or, take, sym, subst, ap}
use Rattle.std.specs.List.{AllZip}
use Rattle.std.proofs.lemmas.List.{take_more}
use Rattle.std.proofs.lemmas.Option.{slice_get_within}
use Rattle.mm_arbiter.specs.declared.asker.Asker.{Asker}
use Rattle.mm_fabric.specs.declared.begun.BegunHost.{BegunHost}
use Rattle.mm_fabric.specs.declared.parts.Asking.{Asking}
use Rattle.mm_fabric.specs.Asks.{AsksAs}
use Rattle.mm_fabric.proofs.Widening.{zip_push}
use Rattle.mm_fabric.proofs.Leading.{have_at, same_host}
use Rattle.mm_fabric.proofs.asks.commands_for.Goals as goal

pub bounds-begun-asker : goal.bounds-begun-asker
bounds-begun-asker c =
    let have = (have_at c.args.agent c.args.begun.now c.args.askers.now c.loop-asker.asker-index _ c.requires c.loop-asker-test.true).1 in
    slice_get_within c.args.begun.now _ have.host have.at

pub command_to-requires : goal.command_to-requires
command_to-requires c =
    let have = (have_at c.args.agent c.args.begun.now c.args.askers.now c.loop-asker.asker-index _ c.requires c.loop-asker-test.true).1 in
    let same = same_host c.args.begun.now _ have.host c.index-begun-asker.result have.at c.index-begun-asker.is in
    let many = have.many in
    let routes = c.as_slice.ensures in
    let commands = c.deref.ensures.value in
    rw (routes, commands, sym same) many

pub unwrap-requires : goal.unwrap-requires
unwrap-requires c =
    let found = have_at c.args.agent c.args.begun.now c.args.askers.now c.loop-asker.asker-index _ c.requires c.loop-asker-test.true in
    let have = found.1 in
    let same = same_host c.args.begun.now _ have.host c.index-begun-asker.result have.at c.index-begun-asker.is in
    let leads = have.leads in
    let routes = c.as_slice.ensures in
    let commands = c.deref.ensures.value in
    let gives = c.command_to.ensures in
    let some : c.command_to.result ≡ Some found.0 = cc in
    ap is_some some

pub loop-asker-preserved : goal.loop-asker-preserved
loop-asker-preserved c =
    let k = c.loop-asker.asker-index in
    let askers = c.args.askers.now in
    let none : Asker = record { host = 0; shares = 0 } in
    let have = (have_at c.args.agent c.args.begun.now askers k none c.requires c.loop-asker-test.true).1 in
    let same = same_host c.args.begun.now _ have.host c.index-begun-asker.result have.at c.index-begun-asker.is in
    let routes = c.as_slice.ensures in
    let commands = c.deref.ensures.value in
    let gives = c.command_to.ensures in
    let some = c.unwrap.ensures in
    let one : Asking = record { port = c.index-begun-asker.result.port; command = c.unwrap.result } in
    let last : AsksAs c.args.agent c.args.begun.now (get_or askers k none) one = record { is = record { host = have.host; at = have.at; many = have.many; leads = cc }; port = ap (λ (b : BegunHost). b.port) (sym same) } in
    subst (λ (xs : List Asker). AllZip (AsksAs c.args.agent c.args.begun.now) xs c.push.new.self.items) (sym (take_more askers k none c.loop-asker-test.true))
    (subst (λ (ys : List Asking). AllZip (AsksAs c.args.agent c.args.begun.now) (take k askers ++ get_or askers k none ∷ []) ys) (sym c.in_ok-push.ensures.items)
    (zip_push (AsksAs c.args.agent c.args.begun.now) (take k askers) c.loop-asker.asking.items (get_or askers k none) one c.loop-asker.invariant last))
