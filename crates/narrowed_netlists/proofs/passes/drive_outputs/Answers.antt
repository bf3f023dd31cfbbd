use Rattle.std.proofs.Common.{◌≡◌, List, length, slice_get, Some, refl, sym, ap, subst, ◌∙◌, arith}
use Rattle.std.specs.Prelude.{option_map}
use Rattle.std.proofs.lemmas.Option.{slice_get_within}
use Rattle.netlist.specs.declared.line.PortLine.{PortLine}
use Rattle.netlist.specs.Netlists.{IsOutputPort}
use Rattle.net_parts.specs.Laws.{extends_twice}
use Rattle.narrowed_netlists.specs.Copies.{number_at}
use Rattle.narrowed_netlists.proofs.Copying.{copies_later}
use Rattle.narrowed_netlists.proofs.Finishing.{driven_more}
use Rattle.narrowed_netlists.proofs.Law.{number_is}
use Rattle.narrowed_netlists.proofs.Reading.{copy_net, item_at, no_driver, other_driver}
use Rattle.narrowed_netlists.proofs.Lists.{width_at-line}
use Rattle.narrowed_netlists.proofs.passes.drive_outputs.Goals as goal
use Rattle.narrowed_netlists.proofs.passes.drive_outputs.Goals.{then-ports-k, else-ports-k}

pub driver-driver-requires : goal.driver-driver-requires
driver-driver-requires c =
    let test = c.loop-k-test.true in
    let ports_are = c.ports-ports.ensures in
    let at : slice_get c.args.module.now.ports c.loop-k.k ≡ Some c.index-ports-k.result =
    subst (λ (ps : List PortLine). slice_get ps c.loop-k.k ≡ Some c.index-ports-k.result) ports_are (item_at c.ports-ports.result.now c.loop-k.k c.index-ports-k.result test c.index-ports-k.is) in
    (c.index-ports-k.result.width, record { port = c.index-ports-k.result; is = at; output = ap (λ (p : PortLine). p.output) c.index-ports-k.is ∙ c.if-ports-k.true; width = refl })

pub net_at-requires : goal.net_at-requires
net_at-requires c =
    let test = c.loop-k-test.true in
    let ports_are = c.ports-ports.ensures in
    let at : slice_get c.args.module.now.ports c.loop-k.k ≡ Some c.index-ports-k.result =
    subst (λ (ps : List PortLine). slice_get ps c.loop-k.k ≡ Some c.index-ports-k.result) ports_are (item_at c.ports-ports.result.now c.loop-k.k c.index-ports-k.result test c.index-ports-k.is) in
    let port : IsOutputPort c.args.module.now.ports c.loop-k.k c.index-ports-k.result.width = record { port = c.index-ports-k.result; is = at; output = ap (λ (p : PortLine). p.output) c.index-ports-k.is ∙ c.if-ports-k.true; width = refl } in
    let line = width_at-line c.args.module.now.lines c.driver-driver.result c.index-ports-k.result.width (c.driver-driver.ensures.width c.index-ports-k.result.width port) in
    let within = slice_get_within c.args.module.now.lines c.driver-driver.result line.0 line.1 in
    let many = c.requires.nets in
    omega (arith, within, many)

pub drive-requires-clause-output : goal.drive-requires-clause-output
drive-requires-clause-output c =
    let test = c.loop-k-test.true in
    let ports_are = c.ports-ports.ensures in
    let at : slice_get c.args.module.now.ports c.loop-k.k ≡ Some c.index-ports-k.result =
    subst (λ (ps : List PortLine). slice_get ps c.loop-k.k ≡ Some c.index-ports-k.result) ports_are (item_at c.ports-ports.result.now c.loop-k.k c.index-ports-k.result test c.index-ports-k.is) in
    let port : IsOutputPort c.args.module.now.ports c.loop-k.k c.index-ports-k.result.width = record { port = c.index-ports-k.result; is = at; output = ap (λ (p : PortLine). p.output) c.index-ports-k.is ∙ c.if-ports-k.true; width = refl } in
    let wide = (copy_net c.args.module.now c.loop-k.builder c.args.registers.now c.args.memories.now c.args.nets.now c.args.cores.now c.driver-driver.result c.index-ports-k.result.width c.net_at.result (copies_later c.args.module.now c.args.builder.now c.loop-k.builder c.args.registers.now c.args.memories.now c.args.nets.now c.args.cores.now (length c.args.module.now.lines) c.loop-k.invariant.extends c.requires.copies) (c.driver-driver.ensures.width c.index-ports-k.result.width port) c.net_at.ensures).has_width in
    subst (λ (ps : List PortLine). IsOutputPort ps c.loop-k.k c.net_at.result.width) (sym (c.loop-k.invariant.extends.keeps.ports ∙ c.requires.ports)) (record { port = c.index-ports-k.result; is = at; output = ap (λ (p : PortLine). p.output) c.index-ports-k.is ∙ c.if-ports-k.true; width = sym wide })

pub drive-requires-clause-net_is : goal.drive-requires-clause-net_is
drive-requires-clause-net_is c =
    let test = c.loop-k-test.true in
    let ports_are = c.ports-ports.ensures in
    let at : slice_get c.args.module.now.ports c.loop-k.k ≡ Some c.index-ports-k.result =
    subst (λ (ps : List PortLine). slice_get ps c.loop-k.k ≡ Some c.index-ports-k.result) ports_are (item_at c.ports-ports.result.now c.loop-k.k c.index-ports-k.result test c.index-ports-k.is) in
    let port : IsOutputPort c.args.module.now.ports c.loop-k.k c.index-ports-k.result.width = record { port = c.index-ports-k.result; is = at; output = ap (λ (p : PortLine). p.output) c.index-ports-k.is ∙ c.if-ports-k.true; width = refl } in
    (copy_net c.args.module.now c.loop-k.builder c.args.registers.now c.args.memories.now c.args.nets.now c.args.cores.now c.driver-driver.result c.index-ports-k.result.width c.net_at.result (copies_later c.args.module.now c.args.builder.now c.loop-k.builder c.args.registers.now c.args.memories.now c.args.nets.now c.args.cores.now (length c.args.module.now.lines) c.loop-k.invariant.extends c.requires.copies) (c.driver-driver.ensures.width c.index-ports-k.result.width port) c.net_at.ensures).is_net

pub loop-k-preserved : goal.loop-k-preserved
loop-k-preserved c =
    let test = c.loop-k-test.true in
    let ports_are = c.ports-ports.ensures in
    let at : slice_get c.args.module.now.ports c.loop-k.k ≡ Some c.index-ports-k.result =
    subst (λ (ps : List PortLine). slice_get ps c.loop-k.k ≡ Some c.index-ports-k.result) ports_are (item_at c.ports-ports.result.now c.loop-k.k c.index-ports-k.result test c.index-ports-k.is) in
    let inv = c.loop-k.invariant in
    elim c.if-ports-k.branch [
      | then-ports-k w ↦
          (let drive = w.drive.ensures in
          rw w.builder-is (record {
            driven = driven_more c.args.module.now c.loop-k.builder w.drive.new.self c.args.nets.now c.loop-k.k inv.driven
                (λ j lt. other_driver c.loop-k.builder w.drive.new.self c.loop-k.k w.net_at.result.number j drive.driven (λ e. omega (arith, lt, e)))
                (drive.driver ∙ ap Some (sym (number_is c.args.nets.now w.driver-driver.result w.net_at.result w.net_at.ensures)) ∙ sym (ap (option_map (number_at c.args.nets.now)) w.driver-driver.ensures.driver));
            undriven = λ j lt. other_driver c.loop-k.builder w.drive.new.self c.loop-k.k w.net_at.result.number j drive.driven (λ e. omega (arith, lt, e)) ∙ inv.undriven j (omega (arith, lt));
            clocked = λ clocked n waits. inv.clocked clocked n (drive.no_more_wait n waits);
            memories = drive.memories ∙ inv.memories;
            extends = extends_twice c.args.builder.now c.loop-k.builder w.drive.new.self inv.extends drive.extends;
          }))
      | else-ports-k w ↦
          rw w.builder-is (record {
            driven = driven_more c.args.module.now c.loop-k.builder c.loop-k.builder c.args.nets.now c.loop-k.k inv.driven (λ j lt. refl)
                (inv.undriven c.loop-k.k (omega arith) ∙ sym (ap (option_map (number_at c.args.nets.now)) (no_driver c.args.module.now c.loop-k.k c.index-ports-k.result c.requires.module at (ap (λ (p : PortLine). p.output) c.index-ports-k.is ∙ w.if-ports-k.false))));
            undriven = λ j lt. inv.undriven j (omega (arith, lt));
            clocked = inv.clocked;
            memories = inv.memories;
            extends = inv.extends;
          })
    ]
