use Rattle.std.proofs.Common.{◌≡◌, ℕ, [], ◌∷◌, List, get_or, ap, sym, ◌∙◌, arith}
use Rattle.histories.specs.History.{is_raised}
use Rattle.netlist.specs.Runs.{cycle_of}
use Rattle.mm_arbiter.specs.Rounds.{keeps_last}
use Rattle.net_parts.specs.Laws.{adds_grow, grows_fewer, grows_twice}
use Rattle.net_parts.specs.Refusing.{handed_on}
use Rattle.mm_arbiter.proofs.next.step_turns.Goals as goal

three_same : (a b c x y z : ℕ) → a ≡ x → b ≡ y → c ≡ z → (a ∷ b ∷ c ∷ []) ≡ (x ∷ y ∷ z ∷ [])
three_same a b c x y z e f g = cc

pub set_all_next-requires : goal.set_all_next-requires
set_all_next-requires c =
    let keeps = keeps_last _ _ _ _ c.next_inside.ensures.adds.grows.extends c.requires.round.nets in
    let wait = c.requires.round.wait in
    let turns = keeps.turns in
    let next = c.in_ok-inside.ensures.net in (
      omega arith,
      (
        (turns.holder.is_net, (turns.left.is_net, (turns.inside.is_net, tt))),
        (
          record { start = wait.start; numbers = wait.numbers; wait = λ n o. c.next_inside.ensures.adds.grows.waits n (wait.wait n o) },
          (
            (keeps.holder.is_net, (keeps.left.is_net, (next.is_net, tt))),
            three_same _ _ _ _ _ _ (turns.holder.has_width ∙ sym keeps.holder.has_width) (turns.left.has_width ∙ sym keeps.left.has_width) (turns.inside.has_width ∙ sym next.has_width),
          ),
        ),
      ),
    )

pub returns-clause-value : goal.returns-clause-value
returns-clause-value c run cycles r n lt =
    let v = (c.set_all_next.ensures.grows.extends.runs run cycles r).valuations n (omega arith) in
    let takes = c.set_all_next.ensures.value run cycles r n lt in
    record {
      holder = ap (λ (xs : List ℕ). get_or xs 0 0) takes;
      left = ap (λ (xs : List ℕ). get_or xs 1 0) takes;
      inside = ap (λ (xs : List ℕ). is_raised (get_or xs 2 0)) takes ∙ c.in_ok-inside.ensures.value (cycle_of run n) v;
    }

pub returns-clause-no_more_wait : goal.returns-clause-no_more_wait
returns-clause-no_more_wait c n w = let set = c.set_all_next.ensures.no_more_wait n w in (c.next_inside.ensures.adds.grows.no_more_wait n set.0, set.1)

pub returns-in_err-inside-clause-grows : goal.returns-in_err-inside-clause-grows
returns-in_err-inside-clause-grows c = grows_fewer _ _ _ _ (omega arith) (adds_grow _ _ _ c.next_inside.ensures.adds)

pub returns-in_err-inside-clause-full : goal.returns-in_err-inside-clause-full
returns-in_err-inside-clause-full c e = let full = c.next_inside.ensures.full (handed_on _ _ _ _ c.in_err-inside.was c.from_residual.ensures.1 e) in omega (arith, full)

pub returns-clause-grows : goal.returns-clause-grows
returns-clause-grows c = grows_fewer _ _ _ _ (omega arith) (grows_twice _ _ _ _ _ (adds_grow _ _ _ c.next_inside.ensures.adds) c.set_all_next.ensures.grows)

pub returns-clause-full : goal.returns-clause-full
returns-clause-full c e = cc

pub next_inside-requires-clause-command : goal.next_inside-requires-clause-command
next_inside-requires-clause-command c = c.requires.command

pub next_inside-requires-clause-wait : goal.next_inside-requires-clause-wait
next_inside-requires-clause-wait c = c.requires.wait

pub returns-in_err-inside-clause-waits : goal.returns-in_err-inside-clause-waits
returns-in_err-inside-clause-waits c n apart w = c.next_inside.ensures.adds.grows.waits n w

pub returns-clause-waits : goal.returns-clause-waits
returns-clause-waits c n apart w = c.set_all_next.ensures.still_wait n apart (c.next_inside.ensures.adds.grows.waits n w)
