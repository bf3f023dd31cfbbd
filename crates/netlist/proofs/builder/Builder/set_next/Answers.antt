use Rattle.std.proofs.Common.{◌≡◌, ℕ, ◌+◌, ◌<◌, subst, sym}
use Rattle.netlist.specs.Netlists.{Netlist, IsWellMade, IsWaiting}
use Rattle.netlist.specs.Runs.{Run, IsRun}
use Rattle.netlist.specs.Longer.{Extends}
use Rattle.netlist.proofs.Lists.{slice_get-within}
use Rattle.netlist.proofs.Growth.{IsWellMade-with_next, Extends-with_next, with_next-steps, waiting-set, waiting-unset, may_set, set_view}
use Rattle.netlist.proofs.builder.Builder.set_next.Goals as goal

pub invariant_of-self : goal.invariant_of-self
invariant_of-self c =
    let well : IsWellMade c.args.self.now = subst IsWellMade c.self.view_is c.self.invariant in
    let within = slice_get-within c.args.self.now.lines c.args.register.number c.requires.waits.line c.requires.waits.is in
    let new = set_view _ c.args.self.now c.number-number.result c.args.register.number c.index.result.now c.requires.waits.line c.number.result c.args.next.number c.clocked.result c.self.view_is c.number-number.ensures c.number.ensures within c.index.ensures c.requires.waits.is c.clocked.ensures in
    let may = may_set c.args.self.now c.args.register.number c.args.next.number c.args.register.width c.args.next.width c.requires.waits c.requires.register_is c.requires.next_is c.requires.widths in
    subst IsWellMade (sym new) (IsWellMade-with_next c.args.self.now c.args.register.number c.args.next.number c.requires.waits.line well may)

pub returns-clause-line : goal.returns-clause-line
returns-clause-line c line at =
    let within = slice_get-within c.args.self.now.lines c.args.register.number line at in
    set_view _ c.args.self.now c.number-number.result c.args.register.number c.index.result.now line c.number.result c.args.next.number c.clocked.result c.self.view_is c.number-number.ensures c.number.ensures within c.index.ensures at c.clocked.ensures

pub returns-clause-value : goal.returns-clause-value
returns-clause-value c =
    let well : IsWellMade c.args.self.now = subst IsWellMade c.self.view_is c.self.invariant in
    let new = returns-clause-line c c.requires.waits.line c.requires.waits.is in
    let may = may_set c.args.self.now c.args.register.number c.args.next.number c.args.register.width c.args.next.width c.requires.waits c.requires.register_is c.requires.next_is c.requires.widths in
    subst (λ (b : Netlist). (run : Run) (cycles : ℕ) → IsRun b run cycles → (k : ℕ) → k + 1 < cycles → run.net (k + 1) c.args.register.number ≡ run.net k c.args.next.number) (sym new)
    (with_next-steps c.args.self.now c.args.register.number c.args.next.number c.requires.waits.line well may)

pub returns-clause-extends : goal.returns-clause-extends
returns-clause-extends c =
    let new = returns-clause-line c c.requires.waits.line c.requires.waits.is in
    let may = may_set c.args.self.now c.args.register.number c.args.next.number c.args.register.width c.args.next.width c.requires.waits c.requires.register_is c.requires.next_is c.requires.widths in
    subst (λ (b : Netlist). Extends c.args.self.now b) (sym new) (Extends-with_next c.args.self.now c.args.register.number c.args.next.number c.requires.waits.line may)

pub returns-clause-still_wait : goal.returns-clause-still_wait
returns-clause-still_wait c n d h =
    let new = returns-clause-line c c.requires.waits.line c.requires.waits.is in
    subst (λ (b : Netlist). IsWaiting b n) (sym new) (waiting-set c.args.self.now c.args.register.number c.args.next.number n c.requires.waits.line d h)

pub returns-clause-no_more_wait : goal.returns-clause-no_more_wait
returns-clause-no_more_wait c =
    let new = returns-clause-line c c.requires.waits.line c.requires.waits.is in
    subst (λ (b : Netlist). (n : ℕ) → IsWaiting b n → IsWaiting c.args.self.now n × (n ≡ c.args.register.number → ⊥)) (sym new)
    (λ n h. waiting-unset c.args.self.now c.args.register.number c.args.next.number n c.requires.waits.line h)
