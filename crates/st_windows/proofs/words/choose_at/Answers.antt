use Rattle.std.proofs.Common.{◌≡◌, ◌==◌, if◌then◌else◌, ◌∙◌, sym, arith}
use Rattle.netlist.specs.Runs.{Always}
use Rattle.net_parts.specs.Nets.{IsNetOfWidth}
use Rattle.net_parts.specs.Laws.{extends_twice, grows_once, adds_twice, adds_fewer, if_ok}
use Rattle.net_parts.specs.Refusing.{handed_on}
use Rattle.st_windows.proofs.WordLemmas.{chosen_here}
use Rattle.st_windows.proofs.words.choose_at.Goals as goal

pub returns-clause-net : goal.returns-clause-net
returns-clause-net c = if_ok c.mux.result _ (λ chosen. IsNetOfWidth c.mux.new.self chosen c.args.word.width) (λ chosen net. record { is_net = net.0; has_width = net.1 }) c.mux.ensures.net

pub returns-clause-value : goal.returns-clause-value
returns-clause-value c =
    if_ok c.mux.result _ (λ chosen. Always c.mux.new.self (λ cycle. cycle.net chosen.number ≡ (if cycle.net c.args.held.number == c.args.count then cycle.net c.args.word.number else cycle.net c.args.other.number)))
    (λ chosen value cycle v3.
    (let v2 = c.mux.ensures.extends.valuations cycle v3 in
    let v1 = c.eq.ensures.extends.valuations cycle v2 in
    chosen_here (cycle.net c.args.held.number) _ c.args.count _ (cycle.net c.args.word.number) (cycle.net c.args.other.number) _ (c.in_ok-number.ensures.value cycle v1) (c.in_ok-here.ensures.value cycle v2).1 (value cycle v3).1))
    c.mux.ensures.value

pub returns-in_err-number-clause-adds : goal.returns-in_err-number-clause-adds
returns-in_err-number-clause-adds c = adds_fewer _ _ _ _ (omega arith) c.constant.ensures.adds

pub returns-in_err-here-clause-adds : goal.returns-in_err-here-clause-adds
returns-in_err-here-clause-adds c = adds_fewer _ _ _ _ (omega arith) (adds_twice _ _ _ _ _ c.constant.ensures.adds (grows_once _ _ c.eq.ensures.extends c.eq.ensures.grows))

pub returns-clause-adds : goal.returns-clause-adds
returns-clause-adds c = adds_fewer _ _ _ _ (omega arith) (adds_twice _ _ _ _ _ (adds_twice _ _ _ _ _ c.constant.ensures.adds (grows_once _ _ c.eq.ensures.extends c.eq.ensures.grows)) (grows_once _ _ c.mux.ensures.extends c.mux.ensures.grows))

pub returns-in_err-number-clause-full : goal.returns-in_err-number-clause-full
returns-in_err-number-clause-full c e = let full = c.constant.ensures.full (handed_on _ _ _ _ c.in_err-number.was c.from_residual.ensures.1 e) in omega (arith, full)

pub returns-in_err-here-clause-full : goal.returns-in_err-here-clause-full
returns-in_err-here-clause-full c e = let most0 = c.constant.ensures.adds.most in let full = c.eq.ensures.full.0 (handed_on _ _ _ _ c.in_err-here.was c.from_residual-in_err-here.ensures.1 e) in omega (arith, most0, full)

pub returns-clause-full : goal.returns-clause-full
returns-clause-full c e = let most0 = c.constant.ensures.adds.most in let most1 = c.eq.ensures.grows.most in let full = c.mux.ensures.full.0 e in omega (arith, most0, most1, full)

pub eq-requires-clause-a_is : goal.eq-requires-clause-a_is
eq-requires-clause-a_is c = c.constant.ensures.adds.grows.extends.nets _ _ c.requires.held.is_net

pub eq-requires-clause-b_is : goal.eq-requires-clause-b_is
eq-requires-clause-b_is c = c.in_ok-number.ensures.net.is_net

pub eq-requires-clause-widths : goal.eq-requires-clause-widths
eq-requires-clause-widths c = c.requires.held.has_width ∙ sym c.in_ok-number.ensures.net.has_width

pub mux-requires-clause-s_is : goal.mux-requires-clause-s_is
mux-requires-clause-s_is c = c.in_ok-here.ensures.net.0

pub mux-requires-clause-a_is : goal.mux-requires-clause-a_is
mux-requires-clause-a_is c = (extends_twice _ _ _ c.constant.ensures.adds.grows.extends c.eq.ensures.extends).nets _ _ c.requires.word

pub mux-requires-clause-b_is : goal.mux-requires-clause-b_is
mux-requires-clause-b_is c = (extends_twice _ _ _ c.constant.ensures.adds.grows.extends c.eq.ensures.extends).nets _ _ c.requires.other.is_net
