use Rattle.std.proofs.Common.{List, sym, subst, ap}
use Rattle.netlist.specs.Nets.{NetValue}
use Rattle.net_parts.specs.Groups.{InGroup, TakeAllNext}
use Rattle.command_nets.specs.Nets.{group_of}
use Rattle.command_nets.specs.Groups.{raw_of}
use Rattle.command_nets.proofs.makers.set_next_command.Goals as goal

pub returns-clause-value : goal.returns-clause-value
returns-clause-value c run cycles r n lt =
    let takes = subst (λ (group : List NetValue). TakeAllNext c.set_all_next.new.builder group (group_of c.args.next.now)) c.group.ensures
    (subst (λ (next : List NetValue). TakeAllNext c.set_all_next.new.builder c.group.result next) c.group-2.ensures c.set_all_next.ensures.value) in
    ap raw_of (takes run cycles r n lt)

pub returns-clause-no_more_wait : goal.returns-clause-no_more_wait
returns-clause-no_more_wait c n w =
    let set = c.set_all_next.ensures.no_more_wait n w in
    (set.0, λ o. set.1 (subst (λ (group : List NetValue). InGroup group n) (sym c.group.ensures) o))
