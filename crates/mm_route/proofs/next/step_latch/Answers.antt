use Rattle.std.proofs.Common.{ℕ, List, get_or, refl, ap, ◌∙◌, arith, sym}
use Rattle.netlist.specs.Runs.{cycle_of}
use Rattle.net_parts.specs.Laws.{bit_fits, adds_grow, grows_twice}
use Rattle.net_parts.specs.Refusing.{handed_on}
use Rattle.mm_route.proofs.Levels.{by_raised}
use Rattle.mm_route.proofs.next.step_latch.Goals as goal

pub returns-clause-value : goal.returns-clause-value
returns-clause-value c run cycles r n lt =
    let v1 = (c.set_all_next.ensures.grows.extends.runs run cycles r).valuations n (omega arith) in
    let v0 = c.choose.ensures.adds.grows.extends.valuations (cycle_of run n) v1 in
    let takes = c.set_all_next.ensures.value run cycles r n lt in
    record {
      inside = ap (λ (xs : List ℕ). get_or xs 0 0) takes ∙ c.in_ok-inside.ensures.value (cycle_of run n) v1 ∙ by_raised _ _ _ _ (bit_fits _ _ c.requires.beat (cycle_of run n) v0) refl;
      kept = ap (λ (xs : List ℕ). get_or xs 1 0) takes;
    }

pub returns-clause-no_more_wait : goal.returns-clause-no_more_wait
returns-clause-no_more_wait c n w = let set = c.set_all_next.ensures.no_more_wait n w in (c.choose.ensures.adds.grows.no_more_wait n set.0, set.1)

pub returns-in_err-inside-clause-grows : goal.returns-in_err-inside-clause-grows
returns-in_err-inside-clause-grows c = adds_grow _ _ _ c.choose.ensures.adds

pub returns-in_err-inside-clause-waits : goal.returns-in_err-inside-clause-waits
returns-in_err-inside-clause-waits c n apart w = c.choose.ensures.adds.grows.waits n w

pub returns-in_err-inside-clause-full : goal.returns-in_err-inside-clause-full
returns-in_err-inside-clause-full c e = let full = c.choose.ensures.full (handed_on _ _ _ _ c.in_err-inside.was c.from_residual.ensures.1 e) in omega (arith, full)

pub choose-requires-clause-one : goal.choose-requires-clause-one
choose-requires-clause-one c = c.requires.shown.command.more.is_net

pub choose-requires-clause-other : goal.choose-requires-clause-other
choose-requires-clause-other c = c.requires.latch.inside.is_net

pub choose-requires-clause-widths : goal.choose-requires-clause-widths
choose-requires-clause-widths c = c.requires.shown.command.more.has_width ∙ sym c.requires.latch.inside.has_width

pub returns-clause-grows : goal.returns-clause-grows
returns-clause-grows c = grows_twice 1 0 _ _ _ (adds_grow _ _ _ c.choose.ensures.adds) c.set_all_next.ensures.grows

pub returns-clause-waits : goal.returns-clause-waits
returns-clause-waits c n apart w = c.set_all_next.ensures.still_wait n apart (c.choose.ensures.adds.grows.waits n w)

pub returns-clause-full : goal.returns-clause-full
returns-clause-full c e = cc
