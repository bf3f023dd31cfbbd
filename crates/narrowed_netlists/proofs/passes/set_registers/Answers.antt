use Rattle.std.proofs.Common.{◌≡◌, ◌-◌, length, refl, sym, ap, subst, ◌∙◌, arith}
use Rattle.std.proofs.lemmas.Option.{slice_get_within}
use Rattle.netlist.specs.Netlists.{is_register}
use Rattle.netlist.specs.Runs.{cycle_of}
use Rattle.net_parts.specs.Laws.{extends_none, extends_twice}
use Rattle.narrowed_netlists.specs.Gaps.{narrowed, FitsIn}
use Rattle.narrowed_netlists.specs.Copies.{AreWaiting}
use Rattle.narrowed_netlists.proofs.Allowing.{told}
use Rattle.narrowed_netlists.proofs.Copying.{copies_later, all_set, past_net, past_register, next_past_net, next_set}
use Rattle.narrowed_netlists.proofs.Reading.{copy_net, copy_core, fits_gap, not_reg}
use Rattle.narrowed_netlists.proofs.Law.{next_width, number_is}
use Rattle.narrowed_netlists.proofs.Lists.{slice_get-some, width_at-line}
use Rattle.narrowed_netlists.proofs.passes.set_registers.Goals as goal
use Rattle.narrowed_netlists.proofs.passes.set_registers.Goals.{in-Reg+in_ok-narrow, in_default}

pub loop-net-init : goal.loop-net-init
loop-net-init c = record {
  next = λ n line core gap lt at core_at gap_at. absurd (omega (arith, lt));
  waiting = c.requires.waiting;
  extends = extends_none c.args.builder.now;
  memories = refl;
  drivers = refl;
}

pub equation-requires : goal.equation-requires
equation-requires c = let test = c.loop-net-test.true in let count = c.net_count-net-end.ensures.count in omega (arith, test, count)

pub net_at-requires : goal.net_at-requires
net_at-requires c =
    let test = c.loop-net-test.true in
    let count = c.net_count-net-end.ensures.count in
    let some = slice_get-some c.args.module.now.lines c.loop-net.net (omega (arith, test, count)) in
    let is = told c.args.module.now c.loop-net.net c.equation.result some.0 c.equation.ensures some.1 ∙ c.in-Reg.is in
    let wide = next_width c.args.module.now c.loop-net.net some.0 c.in-Reg.reset c.in-Reg.next c.requires.module some.1 is in
    let next = width_at-line c.args.module.now.lines c.in-Reg.next some.0.width wide in
    let within = slice_get_within c.args.module.now.lines c.in-Reg.next next.0 next.1 in
    let many = c.requires.nets in
    omega (arith, within, many)

pub gap_at-requires : goal.gap_at-requires
gap_at-requires c = let test = c.loop-net-test.true in let count = c.net_count-net-end.ensures.count in let many = c.requires.many_registers in omega (arith, test, count, many)

pub narrowed-requires-clause-net_is : goal.narrowed-requires-clause-net_is
narrowed-requires-clause-net_is c =
    let test = c.loop-net-test.true in
    let count = c.net_count-net-end.ensures.count in
    let some = slice_get-some c.args.module.now.lines c.loop-net.net (omega (arith, test, count)) in
    let is = told c.args.module.now c.loop-net.net c.equation.result some.0 c.equation.ensures some.1 ∙ c.in-Reg.is in
    let wide = next_width c.args.module.now c.loop-net.net some.0 c.in-Reg.reset c.in-Reg.next c.requires.module some.1 is in
    let copies = copies_later c.args.module.now c.args.builder.now c.loop-net.builder c.args.registers.now c.args.memories.now c.args.nets.now c.args.cores.now (length c.args.module.now.lines) c.loop-net.invariant.extends c.requires.copies in
    (copy_net c.args.module.now c.loop-net.builder c.args.registers.now c.args.memories.now c.args.nets.now c.args.cores.now c.in-Reg.next some.0.width c.net_at.result copies wide c.net_at.ensures).is_net

pub narrowed-requires-clause-fits : goal.narrowed-requires-clause-fits
narrowed-requires-clause-fits c =
    let test = c.loop-net-test.true in
    let count = c.net_count-net-end.ensures.count in
    let some = slice_get-some c.args.module.now.lines c.loop-net.net (omega (arith, test, count)) in
    let is = told c.args.module.now c.loop-net.net c.equation.result some.0 c.equation.ensures some.1 ∙ c.in-Reg.is in
    let wide = next_width c.args.module.now c.loop-net.net some.0 c.in-Reg.reset c.in-Reg.next c.requires.module some.1 is in
    let net = copy_net c.args.module.now c.args.builder.now c.args.registers.now c.args.memories.now c.args.nets.now c.args.cores.now c.in-Reg.next some.0.width c.net_at.result c.requires.copies wide c.net_at.ensures in
    subst (FitsIn c.gap_at.result) (sym net.has_width) (fits_gap c.args.module.now c.args.masks.now c.args.registers.now c.loop-net.net some.0 c.gap_at.result c.requires.registers_fit some.1 c.gap_at.ensures)

pub net_at-requires-in-Reg : goal.net_at-requires-in-Reg
net_at-requires-in-Reg c = let test = c.loop-net-test.true in let count = c.net_count-net-end.ensures.count in let many = c.requires.cores in omega (arith, test, count, many)

pub set_next-requires-clause-register_is : goal.set_next-requires-clause-register_is
set_next-requires-clause-register_is c =
    let test = c.loop-net-test.true in
    let count = c.net_count-net-end.ensures.count in
    let some = slice_get-some c.args.module.now.lines c.loop-net.net (omega (arith, test, count)) in
    let is = told c.args.module.now c.loop-net.net c.equation.result some.0 c.equation.ensures some.1 ∙ c.in-Reg.is in
    let extends = extends_twice c.args.builder.now c.loop-net.builder c.narrowed.new.builder c.loop-net.invariant.extends c.in_ok-narrow.ensures.grows.extends in
    let copies = copies_later c.args.module.now c.args.builder.now c.narrowed.new.builder c.args.registers.now c.args.memories.now c.args.nets.now c.args.cores.now (length c.args.module.now.lines) extends c.requires.copies in
    (copy_core c.args.module.now c.narrowed.new.builder c.args.registers.now c.args.memories.now c.args.nets.now c.args.cores.now c.loop-net.net some.0 c.net_at-in-Reg.result c.gap_at.result copies some.1 (ap is_register is) c.net_at-in-Reg.ensures
    c.gap_at.ensures).is_net

pub set_next-requires-clause-waits : goal.set_next-requires-clause-waits
set_next-requires-clause-waits c =
    let test = c.loop-net-test.true in
    let count = c.net_count-net-end.ensures.count in
    let some = slice_get-some c.args.module.now.lines c.loop-net.net (omega (arith, test, count)) in
    let is = told c.args.module.now c.loop-net.net c.equation.result some.0 c.equation.ensures some.1 ∙ c.in-Reg.is in
    c.in_ok-narrow.ensures.grows.waits c.net_at-in-Reg.result.number
    (c.loop-net.invariant.waiting.all c.loop-net.net c.net_at-in-Reg.result (omega arith) (omega (arith, test, count)) (record { line = some.0; at = some.1; register = ap is_register is; core_at = c.net_at-in-Reg.ensures }))

pub set_next-requires-clause-next_is : goal.set_next-requires-clause-next_is
set_next-requires-clause-next_is c = c.in_ok-narrow.ensures.net_is.is_net

pub set_next-requires-clause-widths : goal.set_next-requires-clause-widths
set_next-requires-clause-widths c =
    let test = c.loop-net-test.true in
    let count = c.net_count-net-end.ensures.count in
    let some = slice_get-some c.args.module.now.lines c.loop-net.net (omega (arith, test, count)) in
    let is = told c.args.module.now c.loop-net.net c.equation.result some.0 c.equation.ensures some.1 ∙ c.in-Reg.is in
    let wide = next_width c.args.module.now c.loop-net.net some.0 c.in-Reg.reset c.in-Reg.next c.requires.module some.1 is in
    let net = copy_net c.args.module.now c.args.builder.now c.args.registers.now c.args.memories.now c.args.nets.now c.args.cores.now c.in-Reg.next some.0.width c.net_at.result c.requires.copies wide c.net_at.ensures in
    let core = copy_core c.args.module.now c.args.builder.now c.args.registers.now c.args.memories.now c.args.nets.now c.args.cores.now c.loop-net.net some.0 c.net_at-in-Reg.result c.gap_at.result c.requires.copies some.1 (ap is_register is)
    c.net_at-in-Reg.ensures c.gap_at.ensures in
    core.has_width ∙ sym (c.in_ok-narrow.ensures.net_is.has_width ∙ ap (λ t. t - c.gap_at.result.zeros) net.has_width)

pub loop-net-preserved : goal.loop-net-preserved
loop-net-preserved c =
    let test = c.loop-net-test.true in
    let count = c.net_count-net-end.ensures.count in
    let some = slice_get-some c.args.module.now.lines c.loop-net.net (omega (arith, test, count)) in
    let told_is = told c.args.module.now c.loop-net.net c.equation.result some.0 c.equation.ensures some.1 in
    let inv = c.loop-net.invariant in
    elim c.match-equation.branch [
      | in-Reg+in_ok-narrow w ↦
          (let is = told_is ∙ w.in-Reg.is in
          let grows = w.in_ok-narrow.ensures.grows in
          let set = w.set_next.ensures in
          let extends = extends_twice c.loop-net.builder w.narrowed.new.builder w.set_next.new.self grows.extends set.extends in
          rw w.builder-is (record {
            next = next_set c.args.module.now c.loop-net.builder w.set_next.new.self c.args.registers.now c.args.nets.now c.args.cores.now c.loop-net.net some.0 w.in-Reg.reset w.in-Reg.next w.net_at-in-Reg.result w.gap_at.result some.1 is
                w.net_at-in-Reg.ensures w.gap_at.ensures extends inv.next
                (λ run cycles r k lt. set.value run cycles r k lt ∙ w.in_ok-narrow.ensures.is (cycle_of run k) (set.extends.valuations (cycle_of run k) (r.valuations k (omega (arith, lt))))
                ∙ ap (λ t. narrowed w.gap_at.result (run.net k t)) (sym (number_is c.args.nets.now w.in-Reg.next w.net_at.result w.net_at.ensures)));
            waiting = past_register c.args.module.now c.loop-net.builder w.set_next.new.self c.args.cores.now c.loop-net.net (length c.args.module.now.lines) w.net_at-in-Reg.result
                (record { line = some.0; at = some.1; register = ap is_register is; core_at = w.net_at-in-Reg.ensures }) inv.waiting (λ k other waits. set.still_wait k other (grows.waits k waits))
                (λ k waits. (let was = set.no_more_wait k waits in (grows.no_more_wait k was.0, was.1)));
            extends = extends_twice c.args.builder.now c.loop-net.builder w.set_next.new.self inv.extends extends;
            memories = set.memories ∙ grows.memories ∙ inv.memories;
            drivers = set.drivers ∙ grows.drivers ∙ inv.drivers;
          }))
      | in_default w ↦
          (let plain = not_reg some.0.equation (λ reset next e. w.in_default.not-Reg reset next (sym told_is ∙ e)) in
          rw w.builder-is (record {
            next = next_past_net c.args.module.now c.loop-net.builder c.args.registers.now c.args.nets.now c.args.cores.now c.loop-net.net some.0 some.1 plain inv.next;
            waiting = past_net c.args.module.now c.loop-net.builder c.args.cores.now c.loop-net.net (length c.args.module.now.lines) some.0 some.1 plain inv.waiting;
            extends = inv.extends;
            memories = inv.memories;
            drivers = inv.drivers;
          }))
    ]

pub returns-clause-next : goal.returns-clause-next
returns-clause-next c n line core gap lt at core_at gap_at =
    let test = c.loop-net-test.false in
    let count = c.net_count-net-end.ensures.count in
    c.loop-net.invariant.next n line core gap (omega (arith, lt, test, count)) at core_at gap_at

pub returns-clause-clocked : goal.returns-clause-clocked
returns-clause-clocked c =
    let test = c.loop-net-test.false in
    let end = c.loop-net.auto.net-end in
    let count = c.net_count-net-end.ensures.count in
    let same : c.loop-net.net ≡ length c.args.module.now.lines = omega (arith, test, end, count) in
    all_set c.args.module.now c.loop-net.builder c.args.cores.now (length c.args.module.now.lines)
    (subst (λ k. AreWaiting c.args.module.now c.loop-net.builder c.args.cores.now k (length c.args.module.now.lines)) same c.loop-net.invariant.waiting)

pub returns-clause-extends : goal.returns-clause-extends
returns-clause-extends c = c.loop-net.invariant.extends

pub returns-clause-memories : goal.returns-clause-memories
returns-clause-memories c = c.loop-net.invariant.memories

pub returns-clause-drivers : goal.returns-clause-drivers
returns-clause-drivers c = c.loop-net.invariant.drivers
