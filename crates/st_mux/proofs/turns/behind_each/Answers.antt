use Rattle.std.proofs.Common.{◌+◌, ◌&&◌, ◌==◌, nat_lt, List, sym, subst, ap, ◌∙◌}
use Rattle.netlist.specs.Nets.{NetValue}
use Rattle.st_mux.specs.Each.{MakesEach, each_more}
use Rattle.st_mux.specs.Choosing.{asks_behind, set_at}
use Rattle.st_mux.proofs.turns.behind_each.Goals as goal

pub loop-number-preserved : goal.loop-number-preserved
loop-number-preserved c =
    let asked = c.index-asks-number.result in
    subst (λ (nets : List NetValue). MakesEach c.args.builder.now c.behind_holder.new.builder (asks_behind c.args.asks.now c.args.holder) nets (c.loop-number.number + 1)) (sym {A = List NetValue} c.in_ok-push.ensures.items)
    (each_more c.args.builder.now c.loop-number.builder c.behind_holder.new.builder (asks_behind c.args.asks.now c.args.holder) c.loop-number.nets.items c.in_ok-here.here c.loop-number.number c.loop-number.invariant
    c.behind_holder.ensures.adds c.in_ok-here.ensures.net
    (λ cycle v.
    c.in_ok-here.ensures.value cycle v
    ∙ ap (λ b. b && nat_lt (cycle.net c.args.holder.number) c.loop-number.number)
    (ap (λ (net : NetValue). cycle.net net.number == 1) c.index-asks-number.is ∙ sym (set_at cycle c.args.asks.now c.loop-number.number asked c.loop-number-test.true))))
