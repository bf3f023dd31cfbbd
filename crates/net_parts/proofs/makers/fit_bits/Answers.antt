use Rattle.std.proofs.Common.{◌≡◌, ◌-◌, ◌%◌, ◌^◌, Option, sym, subst, ap, ◌∙◌, arith}
use Rattle.std.specs.Prelude.{IfSome}
use Rattle.av_base.specs.Word.{Word, word}
use Rattle.netlist.specs.Runs.{Always}
use Rattle.net_parts.specs.Laws.{net_fits, if_ok, adds_fewer, adds_none, adds_twice, grows_once}
use Rattle.net_parts.specs.Fitting.{fits_more, widened, cut_low, two_nets}
use Rattle.net_parts.specs.Refusing.{handed_on}
use Rattle.net_parts.specs.Growth.{fit_nets}
use Rattle.net_parts.specs.Nets.{IsNetOfWidth}
use Rattle.net_parts.proofs.makers.fit_bits.Goals as goal

pub returns-then-wanted-bits-clause-value : goal.returns-then-wanted-bits-clause-value
returns-then-wanted-bits-clause-value c cycle v =
    let width = c.requires.net.has_width in
    sym (fits_more (cycle.net c.args.net.number) c.args.net.width c.args.wanted (net_fits _ _ c.requires.net.is_net cycle v) (omega (arith, width)))

pub returns-clause-value : goal.returns-clause-value
returns-clause-value c =
    if_ok c.concat.result _ (λ net. Always c.concat.new.self (λ cycle. cycle.net net.number ≡ cycle.net c.args.net.number % 2 ^ c.args.wanted))
    (λ net value cycle v2. (
    let v1 = c.concat.ensures.extends.valuations cycle v2 in
    let v0 = c.constant.ensures.extends.valuations cycle v1 in
    let zero : c.unwrap.result ≡ word (c.args.wanted - c.args.bits) 0 = subst (λ (o : Option Word). IfSome o (λ v. v ≡ word (c.args.wanted - c.args.bits) 0)) c.unwrap.ensures c.new.ensures.value in
    widened (cycle.net c.in_ok-zeros.zeros.number) (cycle.net c.args.net.number) (cycle.net net.number) c.args.net.width c.args.bits c.args.wanted (value cycle v2).1
    ((c.in_ok-zeros.ensures.value cycle v1).1 ∙ ap (λ (w : Word). w.bits) zero) c.requires.net.has_width (net_fits _ _ c.requires.net.is_net cycle v0) (omega arith)))
    c.concat.ensures.value

pub returns-then-wanted-bits-clause-adds : goal.returns-then-wanted-bits-clause-adds
returns-then-wanted-bits-clause-adds c = adds_fewer _ _ _ _ (omega arith) (adds_none _)

pub returns-then-wanted-bits-2-clause-net : goal.returns-then-wanted-bits-2-clause-net
returns-then-wanted-bits-2-clause-net c =
    if_ok c.slice.result _ (λ fitted. IsNetOfWidth c.slice.new.self fitted c.args.wanted) (λ fitted net. record { is_net = net.0; has_width = net.1 ∙ omega arith }) c.slice.ensures.net

pub returns-then-wanted-bits-2-clause-value : goal.returns-then-wanted-bits-2-clause-value
returns-then-wanted-bits-2-clause-value c =
    if_ok c.slice.result _ (λ net. Always c.slice.new.self (λ cycle. cycle.net net.number ≡ cycle.net c.args.net.number % 2 ^ c.args.wanted))
    (λ net value cycle v. (value cycle v).1 ∙ cut_low (cycle.net c.args.net.number) c.args.wanted (omega arith)) c.slice.ensures.value

pub returns-then-wanted-bits-2-clause-adds : goal.returns-then-wanted-bits-2-clause-adds
returns-then-wanted-bits-2-clause-adds c =
    let two : 2 ≡ fit_nets c.args.bits c.args.wanted = two_nets _ _ (λ e. c.if-wanted-bits.false (sym e)) in
    adds_fewer 1 _ _ _ (omega arith) (grows_once _ _ c.slice.ensures.extends c.slice.ensures.grows)

pub returns-then-wanted-bits-2-clause-full : goal.returns-then-wanted-bits-2-clause-full
returns-then-wanted-bits-2-clause-full c e =
    let two : 2 ≡ fit_nets c.args.bits c.args.wanted = two_nets _ _ (λ e. c.if-wanted-bits.false (sym e)) in
    let full = c.slice.ensures.full.0 e in
    omega (arith, two, full)

pub returns-in_err-zeros-clause-adds : goal.returns-in_err-zeros-clause-adds
returns-in_err-zeros-clause-adds c =
    let two : 2 ≡ fit_nets c.args.bits c.args.wanted = two_nets _ _ (λ e. c.if-wanted-bits.false (sym e)) in
    adds_fewer 1 _ _ _ (omega arith) (grows_once _ _ c.constant.ensures.extends c.constant.ensures.grows)

pub returns-in_err-zeros-clause-full : goal.returns-in_err-zeros-clause-full
returns-in_err-zeros-clause-full c e =
    let two : 2 ≡ fit_nets c.args.bits c.args.wanted = two_nets _ _ (λ e. c.if-wanted-bits.false (sym e)) in
    let full = c.constant.ensures.full.0 (handed_on _ _ _ _ c.in_err-zeros.was c.from_residual.ensures.1 e) in
    omega (arith, two, full)

pub returns-clause-adds : goal.returns-clause-adds
returns-clause-adds c =
    let two : 2 ≡ fit_nets c.args.bits c.args.wanted = two_nets _ _ (λ e. c.if-wanted-bits.false (sym e)) in
    adds_fewer 2 _ _ _ (omega arith) (adds_twice _ _ _ _ _ (grows_once _ _ c.constant.ensures.extends c.constant.ensures.grows) (grows_once _ _ c.concat.ensures.extends c.concat.ensures.grows))

pub returns-clause-full : goal.returns-clause-full
returns-clause-full c e =
    let two : 2 ≡ fit_nets c.args.bits c.args.wanted = two_nets _ _ (λ e. c.if-wanted-bits.false (sym e)) in
    let most = c.constant.ensures.grows.most in
    let full = c.concat.ensures.full.0 e in
    omega (arith, two, most, full)
