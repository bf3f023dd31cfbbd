use Rattle.std.proofs.Common.{◌+◌, List, sym, subst}
use Rattle.netlist.specs.Nets.{NetValue}
use Rattle.st_mux.specs.Each.{MakesEach, shown_on, each_more}
use Rattle.st_mux.proofs.demux.shown_on_each.Goals as goal

pub loop-number-preserved : goal.loop-number-preserved
loop-number-preserved c =
    subst (λ (nets : List NetValue). MakesEach c.args.builder.now c.shown_on.new.builder (shown_on c.args.shown c.args.channel) nets (c.loop-number.number + 1)) (sym c.in_ok-push.ensures.items)
    (each_more c.args.builder.now c.loop-number.builder c.shown_on.new.builder (shown_on c.args.shown c.args.channel) c.loop-number.nets.items c.in_ok-here.here c.loop-number.number c.loop-number.invariant
    c.shown_on.ensures.adds c.in_ok-here.ensures.net c.in_ok-here.ensures.value)
