use Rattle.std.proofs.Common.{List, length, refl, sym, ap, subst, ◌∙◌, arith}
use Rattle.netlist.specs.declared.line.Equation.TheVariants.{Reg}
use Rattle.netlist.specs.Nets.{NetValue}
use Rattle.netlist.specs.Netlists.{is_register}
use Rattle.net_parts.specs.Laws.{extends_none, extends_twice}
use Rattle.narrowed_netlists.specs.Gaps.{FitsIn}
use Rattle.narrowed_netlists.specs.Copies.{AreNets, IsOperatorCopy, IsRegisterCopy}
use Rattle.narrowed_netlists.proofs.Allowing.{sound_as, told}
use Rattle.narrowed_netlists.proofs.Copying.{cores_within, nets_of, push_net, push_register, wait_net, wait_none, wait_register}
use Rattle.narrowed_netlists.proofs.Finishing.{narrow_lasts}
use Rattle.narrowed_netlists.proofs.Fixed.{adds_none, fixed_none, fixed_push, fixed_register}
use Rattle.narrowed_netlists.proofs.Lists.{length-push, slice_get-some}
use Rattle.narrowed_netlists.proofs.Reading.{fits_gap}
use Rattle.narrowed_netlists.proofs.passes.copied_nets.Goals as goal
use Rattle.narrowed_netlists.proofs.passes.copied_nets.Goals.{in-Reg+in_ok-copied+in_ok-push+in_ok-push-2, in_default+in_ok-copy+in_ok-push-3+in_ok-push-4}

pub loop-net-init : goal.loop-net-init
loop-net-init c = rw (c.new-nets.ensures.items, c.new-cores.ensures.items) (record {
  nets = refl;
  cores = refl;
  copies = λ n line lt at. absurd (omega (arith, lt));
  fixed = fixed_none c.args.module.now c.args.builder.now;
  adds = adds_none c.args.module.now c.args.builder.now c.requires.begins;
  waiting = wait_none c.args.module.now c.args.builder.now c.requires.clocked;
  extends = extends_none c.args.builder.now;
  memories = refl;
  drivers = refl;
})

pub copied_register-requires : goal.copied_register-requires
copied_register-requires c =
    let test = c.loop-net-test.true in
    let count = c.net_count-net-end.ensures.count in
    let some = slice_get-some c.args.module.now.lines c.loop-net.net (omega (arith, test, count)) in
    let is = told c.args.module.now c.loop-net.net c.equation-equation.result some.0 c.equation-equation.ensures some.1 ∙ c.in-Reg.is in
    let value = sound_as c.args.module.now c.loop-net.net some.0 (Reg c.in-Reg.reset c.in-Reg.next) c.requires.module some.1 is in
    subst (FitsIn c.gap_at.result) (sym value.width) (fits_gap c.args.module.now c.args.masks.now c.args.registers.now c.loop-net.net some.0 c.gap_at.result c.requires.registers_fit some.1 c.gap_at.ensures)

pub copied_net-requires : goal.copied_net-requires
copied_net-requires c =
    let test = c.loop-net-test.true in
    let count = c.net_count-net-end.ensures.count in
    let inv = c.loop-net.invariant in
    record {
      «module» = c.requires.module;
      net_is = omega (arith, test, count);
      equation_is = λ line at. told c.args.module.now c.loop-net.net c.equation-equation.result line c.equation-equation.ensures at;
      ports = inv.extends.keeps.ports ∙ c.requires.ports;
      nets = subst (λ (ns : List NetValue). AreNets c.args.module.now c.loop-net.builder ns c.loop-net.net) (sym c.as_slice.ensures.value)
          (nets_of c.args.module.now c.loop-net.builder c.args.registers.now c.args.memories.now c.loop-net.nets.items c.loop-net.cores.items c.loop-net.net inv.copies);
      mems = c.requires.mems;
      narrow = narrow_lasts c.args.module.now c.args.builder.now c.loop-net.builder c.args.memories.now (length c.args.module.now.memories) inv.extends c.requires.narrow;
      fit = c.requires.memories_fit;
    }

pub loop-net-preserved : goal.loop-net-preserved
loop-net-preserved c =
    let test = c.loop-net-test.true in
    let count = c.net_count-net-end.ensures.count in
    let some = slice_get-some c.args.module.now.lines c.loop-net.net (omega (arith, test, count)) in
    let told_is = told c.args.module.now c.loop-net.net c.equation-equation.result some.0 c.equation-equation.ensures some.1 in
    let inv = c.loop-net.invariant in
    let nets = inv.nets in
    let cores = inv.cores in
    elim c.match-equation.branch [
      | in-Reg+in_ok-copied+in_ok-push+in_ok-push-2 w ↦
          (let is = told_is ∙ w.in-Reg.is in
          let net = w.in_ok-copied.copied.net in
          let core = w.in_ok-copied.copied.core in
          let new = w.copied_register.new.builder in
          let value = sound_as c.args.module.now c.loop-net.net some.0 (Reg w.in-Reg.reset w.in-Reg.next) c.requires.module some.1 is in
          let r = subst (λ t. IsRegisterCopy c.loop-net.builder new w.gap_at.result t (Reg w.in-Reg.reset w.in-Reg.next) net core) value.width (w.in_ok-copied.ensures w.in-Reg.next) in
          let fixed = fixed_register c.args.module.now c.loop-net.builder new c.loop-net.nets.items net c.loop-net.net some.0 w.in-Reg.reset w.in-Reg.next c.requires.module nets some.1 is r.extends inv.fixed in
          rw (w.builder-is, w.nets-is, w.cores-is, w.in_ok-push.ensures.items, w.in_ok-push-2.ensures.items) (record {
            nets = (let more = length-push c.loop-net.nets.items net in omega (arith, more, nets));
            cores = (let more = length-push c.loop-net.cores.items core in omega (arith, more, cores));
            copies = push_register c.args.module.now c.loop-net.builder new c.args.registers.now c.args.memories.now c.loop-net.nets.items c.loop-net.cores.items net core c.loop-net.net some.0 w.gap_at.result w.in-Reg.reset w.in-Reg.next
                nets cores inv.copies some.1 is w.gap_at.ensures r;
            fixed = fixed.0;
            adds = fixed.1;
            waiting = wait_register c.args.module.now c.loop-net.builder new c.loop-net.cores.items net core c.loop-net.net some.0 w.gap_at.result (Reg w.in-Reg.reset w.in-Reg.next) cores some.1 (ap is_register is)
                (λ n one it. cores_within c.args.module.now c.loop-net.builder c.args.masks.now c.args.registers.now c.args.memories.now c.loop-net.nets.items c.loop-net.cores.items c.loop-net.net cores c.requires.registers_fit inv.copies n one it)
                r inv.waiting;
            extends = extends_twice c.args.builder.now c.loop-net.builder new inv.extends r.extends;
            memories = r.memories ∙ inv.memories;
            drivers = r.drivers ∙ inv.drivers;
          }))
      | in_default+in_ok-copy+in_ok-push-3+in_ok-push-4 w ↦
          (let net = w.in_ok-copy.copy in
          let new = w.copied_net.new.builder in
          let o = subst (λ (ns : List NetValue). IsOperatorCopy c.args.module.now c.loop-net.builder new c.args.memories.now ns c.loop-net.net some.0 net) w.as_slice.ensures.value (w.in_ok-copy.ensures some.0 some.1) in
          let fixed = fixed_push c.args.module.now c.args.builder.now c.loop-net.builder new c.args.memories.now c.loop-net.nets.items net c.loop-net.net some.0 c.requires.module c.requires.begins inv.extends nets some.1 o (inv.fixed, inv.adds) in
          rw (w.builder-is, w.nets-is, w.cores-is, w.in_ok-push-3.ensures.items, w.in_ok-push-4.ensures.items) (record {
            nets = (let more = length-push c.loop-net.nets.items net in omega (arith, more, nets));
            cores = (let more = length-push c.loop-net.cores.items net in omega (arith, more, cores));
            copies = push_net c.args.module.now c.loop-net.builder new c.args.registers.now c.args.memories.now c.loop-net.nets.items c.loop-net.cores.items net c.loop-net.net some.0 nets cores inv.copies some.1 o;
            fixed = fixed.0;
            adds = fixed.1;
            waiting = wait_net c.args.module.now c.loop-net.builder new c.loop-net.cores.items net c.loop-net.net some.0 cores some.1 o.plain o.grows inv.waiting;
            extends = extends_twice c.args.builder.now c.loop-net.builder new inv.extends o.grows.extends;
            memories = o.grows.memories ∙ inv.memories;
            drivers = o.grows.drivers ∙ inv.drivers;
          }))
    ]
