use Rattle.std.proofs.Common.{◌≡◌, ◌∙◌, sym, inl, inr, arith}
use Rattle.netlist.specs.Runs.{cycle_of}
use Rattle.net_parts.specs.Growth.{WaitsWithout}
use Rattle.net_parts.specs.Histories.{TakesBit}
use Rattle.net_parts.specs.Laws.{on_ok, extends_twice, adds_grow, grows_fewer, grows_twice}
use Rattle.net_parts.specs.Refusing.{handed_on}
use Rattle.st_timing.specs.PromiseNets.{owns_promises, PromisesGoOn}
use Rattle.st_timing.proofs.promises.finish_promises.Goals as goal

pub returns-clause-on : goal.returns-clause-on
returns-clause-on c =
    let last = c.set_history.ensures.grows.extends in
    let taken = extends_twice _ _ _ c.take_next.ensures.grows.extends last in
    on_ok c.set_history.result (TakesBit c.set_history.new.builder c.args.promises.now.history c.args.promised) (PromisesGoOn c.set_history.new.builder c.args.latency c.args.promises.now c.args.promised c.args.comes c.args.goes)
    (λ takes. record {
      takes = takes;
      counts = λ run cycles r n lt within fits. c.take_next.ensures.value run cycles (last.runs run cycles r) n lt ∙ c.in_ok-next.ensures.value (cycle_of run n) ((taken.runs run cycles r).valuations n (omega arith)) within fits;
    })
    c.set_history.ensures.takes

pub returns-clause-no_more_wait : goal.returns-clause-no_more_wait
returns-clause-no_more_wait c =
    on_ok c.set_history.result (WaitsWithout (λ n. n ≡ c.args.promises.now.history.number) c.take_next.new.builder c.set_history.new.builder) (WaitsWithout (owns_promises c.args.promises.now) c.args.builder.now c.set_history.new.builder)
    (λ out n w.
    (let history = out n w in
    let free = c.take_next.ensures.no_more_wait n history.0 in (
      c.next_free.ensures.adds.grows.no_more_wait n free.0,
      λ o. elim o [ inl e ↦ free.1 e | inr e ↦ history.1 e ],
    )))
    c.set_history.ensures.no_more_wait

pub returns-clause-waits : goal.returns-clause-waits
returns-clause-waits c n apart w = c.set_history.ensures.waits n (λ e. apart (inr e)) (c.take_next.ensures.still_wait n (λ e. apart (inl e)) (c.next_free.ensures.adds.grows.waits n w))

pub returns-in_err-next-clause-waits : goal.returns-in_err-next-clause-waits
returns-in_err-next-clause-waits c n apart w = c.next_free.ensures.adds.grows.waits n w

pub returns-in_err-next-clause-grows : goal.returns-in_err-next-clause-grows
returns-in_err-next-clause-grows c = grows_fewer _ _ _ _ (omega arith) (adds_grow _ _ _ c.next_free.ensures.adds)

pub returns-in_err-next-clause-full : goal.returns-in_err-next-clause-full
returns-in_err-next-clause-full c e = let full = c.next_free.ensures.full (handed_on _ _ _ _ c.in_err-next.was c.from_residual.ensures.1 e) in omega (arith, full)

pub returns-clause-grows : goal.returns-clause-grows
returns-clause-grows c = grows_fewer _ _ _ _ (omega arith) (grows_twice _ _ _ _ _ (grows_twice _ _ _ _ _ (adds_grow _ _ _ c.next_free.ensures.adds) c.take_next.ensures.grows) c.set_history.ensures.grows)

pub returns-clause-full : goal.returns-clause-full
returns-clause-full c e =
    let most = c.next_free.ensures.adds.most in
    let same = c.take_next.ensures.grows.most in
    let full = c.set_history.ensures.full e in
    omega (arith, most, same, full)

pub take_next-requires-clause-register : goal.take_next-requires-clause-register
take_next-requires-clause-register c = c.next_free.ensures.adds.grows.extends.nets _ _ c.requires.promises.free

pub take_next-requires-clause-waits : goal.take_next-requires-clause-waits
take_next-requires-clause-waits c = c.next_free.ensures.adds.grows.waits _ c.requires.promises.waits

pub take_next-requires-clause-next : goal.take_next-requires-clause-next
take_next-requires-clause-next c = c.in_ok-next.ensures.net.is_net

pub take_next-requires-clause-widths : goal.take_next-requires-clause-widths
take_next-requires-clause-widths c = sym c.in_ok-next.ensures.net.has_width
