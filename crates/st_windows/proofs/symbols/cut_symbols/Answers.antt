use Rattle.std.proofs.Common.{◌≡◌, ◌-◌, ◌*◌, arith}
use Rattle.netlist.specs.Runs.{Always}
use Rattle.net_parts.specs.Nets.{IsNetOfWidth}
use Rattle.net_parts.specs.Laws.{if_ok}
use Rattle.st_windows.specs.Cuts.{cut_of}
use Rattle.st_windows.proofs.CutNets.{middle_cut, tail_cut, tail_widths}
use Rattle.st_windows.proofs.symbols.cut_symbols.Goals as goal

pub returns-then-wanted-left-clause-value : goal.returns-then-wanted-left-clause-value
returns-then-wanted-left-clause-value c =
    if_ok c.slice.result _ (λ cut. Always c.slice.new.self (λ cycle. cycle.net cut.number ≡ cut_of c.args.bits c.args.size c.args.skipped c.args.wanted (cycle.net c.args.word.number)))
    (λ cut value cycle v. middle_cut c.args.bits c.args.size c.args.skipped c.args.wanted (cycle.net c.args.word.number) _ c.requires.some_bits c.requires.some (omega arith) (omega arith) (value cycle v).1)
    c.slice.ensures.value

pub concat-requires-clause-widths : goal.concat-requires-clause-widths
concat-requires-clause-widths c =
    let low = c.in_ok-low.ensures.net.1 in
    let zeros = c.in_ok-zeros.ensures.net.has_width in
    let sum = tail_widths c.args.bits (c.args.size - c.args.skipped) c.args.wanted c.requires.some_bits (omega arith) (omega arith) in
    let few = c.requires.few in
    omega (arith, low, zeros, sum, few)

pub returns-clause-net : goal.returns-clause-net
returns-clause-net c =
    let low = c.in_ok-low.ensures.net.1 in
    let zeros = c.in_ok-zeros.ensures.net.has_width in
    let sum = tail_widths c.args.bits (c.args.size - c.args.skipped) c.args.wanted c.requires.some_bits (omega arith) (omega arith) in
    if_ok c.concat.result _ (λ cut. IsNetOfWidth c.concat.new.self cut (c.args.bits * c.args.wanted)) (λ cut net. record { is_net = net.0; has_width = (let width = net.1 in omega (arith, low, zeros, sum, width)) }) c.concat.ensures.net

pub returns-clause-value : goal.returns-clause-value
returns-clause-value c =
    if_ok c.concat.result _ (λ cut. Always c.concat.new.self (λ cycle. cycle.net cut.number ≡ cut_of c.args.bits c.args.size c.args.skipped c.args.wanted (cycle.net c.args.word.number)))
    (λ cut value cycle v2.
    (let v1 = c.concat.ensures.extends.valuations cycle v2 in
    let v0 = c.constant-2.ensures.adds.grows.extends.valuations cycle v1 in
    tail_cut c.args.bits c.args.size c.args.skipped c.args.wanted (cycle.net c.args.word.number) _ _ _ _ c.requires.some_bits (omega arith) (omega arith)
    (c.in_ok-low.ensures.value cycle v0).1 (c.in_ok-zeros.ensures.value cycle v1) c.in_ok-zeros.ensures.net.has_width (value cycle v2).1))
    c.concat.ensures.value
