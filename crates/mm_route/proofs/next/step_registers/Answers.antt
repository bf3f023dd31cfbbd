use Rattle.std.proofs.Common.{◌≡◌, ℕ, ◌+◌, Bool, List, [], ◌∷◌, get_or, Option, IfSome, sym, subst, ◌∙◌, arith}
use Rattle.netlist.specs.Nets.{NetValue}
use Rattle.netlist.specs.Runs.{Cycle, cycle_of}
use Rattle.net_parts.specs.Groups.{InGroup, AreWaiting, values_of}
use Rattle.net_parts.specs.Laws.{on_ok, extends_twice, adds_grow, grows_fewer, grows_twice, net_lasts}
use Rattle.net_parts.specs.Refusing.{handed_on}
use Rattle.mm_route.specs.declared.registers.LatchNets.{LatchNets}
use Rattle.mm_route.specs.declared.router.HeldRouter.{HeldRouter}
use Rattle.mm_route.specs.Registers.{latch_of, IsLatch, register_nets_last, registers_wait_on}
use Rattle.mm_route.specs.Shown.{shown_nets_last}
use Rattle.mm_route.specs.Taken.{taken_in, EachStep}
use Rattle.mm_route.specs.Backward.{IsNext, IsNextLatch, IsNextDebt}
use Rattle.mm_route.proofs.Latches.{debt_of, debt_within, latch_within, in_neither, debt_waits, latch_waits}
use Rattle.mm_route.proofs.next.step_registers.Goals as goal

-- the debt's registers take these nets
debt_taken : (cycle next : Cycle) (held : HeldRouter) (room_bits : ℕ) (wait valid owed owing : NetValue) → values_of next (debt_of held.registers) ≡ values_of cycle (owed ∷ owing ∷ []) →
    IsNextDebt cycle held room_bits wait valid (cycle.net owed.number) (cycle.net owing.number) → IsNextDebt cycle held room_bits wait valid (next.net held.registers.owed.number) (next.net held.registers.owing.number)
debt_taken cycle next held room_bits wait valid owed owing e h = subst (λ (xs : List ℕ). IsNextDebt cycle held room_bits wait valid (get_or xs 0 0) (get_or xs 1 0)) (sym e) h

two_same : (a b x y : ℕ) → a ≡ x → b ≡ y → (a ∷ b ∷ []) ≡ (x ∷ y ∷ [])
two_same a b x y e f = cc

pub returns-in-None-clause-value : goal.returns-in-None-clause-value
returns-in-None-clause-value c run cycles r n lt =
    let v = (c.set_all_next.ensures.grows.extends.runs run cycles r).valuations n (omega arith) in
    record {
      debt = debt_taken (cycle_of run n) (cycle_of run (n + 1)) c.args.held.now c.args.room_bits c.args.wait c.args.valid c.in_ok-next.next.owed c.in_ok-next.next.owing (c.set_all_next.ensures.value run cycles r n lt) (c.in_ok-next.ensures.value (cycle_of run n) v);
      latch = subst (λ (latch : Option LatchNets). IfSome latch (IsNextLatch c.args.held.now.shown (taken_in (cycle_of run n) c.args.held.now.shown.command c.args.wait) (cycle_of run n) (cycle_of run (n + 1)))) (sym c.in-None.is) tt;
    }

pub returns-in-Some-clause-value : goal.returns-in-Some-clause-value
returns-in-Some-clause-value c =
    let shown = c.args.held.now.shown in
    on_ok c.step_latch.result _ (EachStep c.step_latch.new.builder (IsNext c.args.held.now c.args.room_bits c.args.wait c.args.valid))
    (λ h run cycles r n lt. (
    let r1 = c.step_latch.ensures.grows.extends.runs run cycles r in
    let v = (c.set_all_next.ensures.grows.extends.runs run cycles r1).valuations n (omega arith) in
    record {
      debt = debt_taken (cycle_of run n) (cycle_of run (n + 1)) c.args.held.now c.args.room_bits c.args.wait c.args.valid c.in_ok-next.next.owed c.in_ok-next.next.owing (c.set_all_next.ensures.value run cycles r1 n lt) (c.in_ok-next.ensures.value (cycle_of run n) v);
      latch = subst (λ (latch : Option LatchNets). IfSome latch (IsNextLatch shown (taken_in (cycle_of run n) shown.command c.args.wait) (cycle_of run n) (cycle_of run (n + 1)))) (sym c.in-Some.is)
          (subst (λ (t : Bool). IsNextLatch shown t (cycle_of run n) (cycle_of run (n + 1)) c.in-Some.latch) (c.in_ok-next.ensures.beat_is (cycle_of run n) v) (h run cycles r n lt));
    }))
    c.step_latch.ensures.value

pub returns-in-None-clause-waits : goal.returns-in-None-clause-waits
returns-in-None-clause-waits c n apart w = c.set_all_next.ensures.still_wait n (λ o. apart (debt_within c.args.held.now.registers n o)) (c.next_debt.ensures.adds.grows.waits n w)

pub returns-in-Some-clause-waits : goal.returns-in-Some-clause-waits
returns-in-Some-clause-waits c n apart w =
    let registers = c.args.held.now.registers in
    c.step_latch.ensures.waits n (λ o. apart (latch_within registers n (subst (λ (latch : Option LatchNets). InGroup (latch_of latch) n) (sym c.in-Some.is) o)))
    (c.set_all_next.ensures.still_wait n (λ o. apart (debt_within registers n o)) (c.next_debt.ensures.adds.grows.waits n w))

pub returns-in-None-clause-no_more_wait : goal.returns-in-None-clause-no_more_wait
returns-in-None-clause-no_more_wait c n w =
    let set = c.set_all_next.ensures.no_more_wait n w in
    (c.next_debt.ensures.adds.grows.no_more_wait n set.0, in_neither c.args.held.now.registers n set.1 (λ o. subst (λ (latch : Option LatchNets). InGroup (latch_of latch) n) c.in-None.is o))

pub returns-in-Some-clause-no_more_wait : goal.returns-in-Some-clause-no_more_wait
returns-in-Some-clause-no_more_wait c =
    on_ok c.step_latch.result _ _
    (λ h n w. (
    let later = h n w in
    let set = c.set_all_next.ensures.no_more_wait n later.0 in
    (c.next_debt.ensures.adds.grows.no_more_wait n set.0, in_neither c.args.held.now.registers n set.1 (λ o. later.1 (subst (λ (latch : Option LatchNets). InGroup (latch_of latch) n) c.in-Some.is o)))))
    c.step_latch.ensures.no_more_wait

pub set_all_next-requires : goal.set_all_next-requires
set_all_next-requires c =
    let registers = c.args.held.now.registers in
    let nets = register_nets_last _ _ _ _ _ c.next_debt.ensures.adds.grows.extends c.requires.held.registers in
    let next = c.in_ok-next.ensures in
    let wait = debt_waits _ registers (registers_wait_on _ _ registers (λ n o w. c.next_debt.ensures.adds.grows.waits n w) c.requires.held.waits) in
    let widths = two_same _ _ _ _ (nets.owed.has_width ∙ sym next.owed.has_width) (nets.owing.has_width ∙ sym next.owing.has_width) in
    (omega arith, ((nets.owed.is_net, (nets.owing.is_net, tt)), (wait, ((next.owed.is_net, (next.owing.is_net, tt)), widths))))

pub step_latch-requires-clause-wait : goal.step_latch-requires-clause-wait
step_latch-requires-clause-wait c =
    let registers = c.args.held.now.registers in
    subst (λ (latch : Option LatchNets). AreWaiting c.set_all_next.new.builder (latch_of latch)) c.in-Some.is
    (latch_waits _ _ registers (registers_wait_on _ _ registers (λ n o w. c.next_debt.ensures.adds.grows.waits n w) c.requires.held.waits) (λ n apart w. c.set_all_next.ensures.still_wait n apart w))

pub step_latch-requires-clause-latch : goal.step_latch-requires-clause-latch
step_latch-requires-clause-latch c =
    let all = extends_twice _ _ _ c.next_debt.ensures.adds.grows.extends c.set_all_next.ensures.grows.extends in
    subst (λ (latch : Option LatchNets). IfSome latch (IsLatch c.set_all_next.new.builder c.args.count)) c.in-Some.is (register_nets_last _ _ _ _ _ all c.requires.held.registers).latch

pub step_latch-requires-clause-shown : goal.step_latch-requires-clause-shown
step_latch-requires-clause-shown c = shown_nets_last _ _ _ _ (extends_twice _ _ _ c.next_debt.ensures.adds.grows.extends c.set_all_next.ensures.grows.extends) c.requires.held.shown

pub returns-in_err-next-clause-grows : goal.returns-in_err-next-clause-grows
returns-in_err-next-clause-grows c = grows_fewer _ _ _ _ (omega arith) (adds_grow _ _ _ c.next_debt.ensures.adds)

pub returns-in_err-next-clause-waits : goal.returns-in_err-next-clause-waits
returns-in_err-next-clause-waits c n apart w = c.next_debt.ensures.adds.grows.waits n w

pub returns-in_err-next-clause-full : goal.returns-in_err-next-clause-full
returns-in_err-next-clause-full c e = let full = c.next_debt.ensures.full (handed_on _ _ _ _ c.in_err-next.was c.from_residual.ensures.1 e) in omega (arith, full)

pub returns-in-None-clause-grows : goal.returns-in-None-clause-grows
returns-in-None-clause-grows c = grows_fewer _ _ _ _ (omega arith) (grows_twice _ _ _ _ _ (adds_grow _ _ _ c.next_debt.ensures.adds) c.set_all_next.ensures.grows)

pub returns-in-Some-clause-grows : goal.returns-in-Some-clause-grows
returns-in-Some-clause-grows c = grows_fewer _ _ _ _ (omega arith) (grows_twice _ _ _ _ _ (grows_twice _ _ _ _ _ (adds_grow _ _ _ c.next_debt.ensures.adds) c.set_all_next.ensures.grows) c.step_latch.ensures.grows)

pub returns-in-None-clause-full : goal.returns-in-None-clause-full
returns-in-None-clause-full c e = cc

pub returns-in-Some-clause-full : goal.returns-in-Some-clause-full
returns-in-Some-clause-full c e = let most = c.next_debt.ensures.adds.most in let most2 = c.set_all_next.ensures.grows.most in let full = c.step_latch.ensures.full e in omega (arith, most, most2, full)

pub step_latch-requires-clause-beat : goal.step_latch-requires-clause-beat
step_latch-requires-clause-beat c = net_lasts _ _ _ 1 c.set_all_next.ensures.grows.extends c.in_ok-next.ensures.beat
